use Rattle.std.proofs.Common.{ℕ, List, ap, ◌∙◌, subst}
use Rattle.mix_base.specs.WordStreams.{first_words}
use Rattle.ntru_prime.specs.Answers.{OnRefused}
use Rattle.ntru_prime.specs.Pairs.{HasDivisor}
use Rattle.ntru_prime.proofs.pairs.next_candidate.Goals as goal

pub returns-clause-divisor : goal.returns-clause-divisor
returns-clause-divisor g c =
    let drawn = c.draw.ensures.words ∙ ap (first_words (g.W.Words.to_come c.args.words.now)) c.requires in
    subst (λ (words : List ℕ). OnRefused c.candidate.result (HasDivisor words)) drawn c.candidate.ensures.divisor
