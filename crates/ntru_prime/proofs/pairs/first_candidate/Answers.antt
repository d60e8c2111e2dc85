-- Each candidate has its 1,522 words, and the words to come are those behind them.
use Rattle.std.proofs.Common.{◌≡◌, ℕ, List, subst, ◌+◌, ◌*◌, ◌∙◌, ◌++◌, drop, length, sym, ap, arith, below_more, None}
use Rattle.std.proofs.lemmas.List.{length-append, length-take}
use Rattle.mix_base.specs.WordStreams.{first_words}
use Rattle.ntru_prime.specs.Pairs.{HasDivisor, IsKeyOf}
use Rattle.ntru_prime.specs.Scheme.{candidate, candidate_words, first_candidate}
use Rattle.ntru_prime.proofs.Candidates.{candidate_words-drawn, first_value-found, first_value-none, moved_further, moved_on}
use Rattle.ntru_prime.proofs.pairs.first_candidate.Goals as goal

pub candidates-init : goal.candidates-init
candidates-init g c =
    let before = g.W.Words.to_come c.args.words.now in
    record { none = λ k below. absurd (omega arith); divisors = λ k below. absurd (omega arith); long = omega (arith, c.in_ok-drawn.ensures.len); moved = λ place. let same : place ≡ 0 + place = omega arith in ap before same }

pub returns-in-Ok-clause-value : goal.returns-in-Ok-clause-value
unfolding first_candidate
returns-in-Ok-clause-value g c =
    let before = g.W.Words.to_come c.args.words.now in
    let drawn = candidate_words-drawn before (g.W.Words.to_come c.candidates.words) c.candidates._number c.candidates.invariant.moved in
    first_value-found (λ (k : ℕ). candidate (candidate_words before k)) 0 64 c.candidates._number c.in-Ok.key (omega arith) (omega arith)
    (λ k from below. c.candidates.invariant.none k below) (sym (ap candidate drawn) ∙ c.in-Ok.ensures.value)

pub returns-in-Ok-clause-first : goal.returns-in-Ok-clause-first
returns-in-Ok-clause-first g c =
    let before = g.W.Words.to_come c.args.words.now in
    let drawn = candidate_words-drawn before (g.W.Words.to_come c.candidates.words) c.candidates._number c.candidates.invariant.moved in
    record {
      number = c.candidates._number;
      within = omega arith;
      passed_over = c.candidates.invariant.divisors;
      is_key = subst (λ (words : List ℕ). IsKeyOf words c.in-Ok.key) drawn c.in-Ok.ensures.key;
      taken = moved_further before _ _ c.candidates._number c.candidates.invariant.moved c.next_candidate.ensures.rest;
    }

pub returns-in-Ok-clause-words : goal.returns-in-Ok-clause-words
returns-in-Ok-clause-words g c = moved_on (g.W.Words.to_come c.args.words.now) _ _ c.candidates._number c.candidates.invariant.moved c.next_candidate.ensures.rest

pub returns-in-Err-Memory-clause-words : goal.returns-in-Err-Memory-clause-words
returns-in-Err-Memory-clause-words g c = moved_on (g.W.Words.to_come c.args.words.now) _ _ c.candidates._number c.candidates.invariant.moved c.next_candidate.ensures.rest

pub candidates-preserved : goal.candidates-preserved
candidates-preserved g c =
    let before = g.W.Words.to_come c.args.words.now in
    let number = c.candidates._number in
    let drawn = candidate_words-drawn before (g.W.Words.to_come c.candidates.words) number c.candidates.invariant.moved in
    let divisor = rw c.in-Err-Refused.field-0-is at c.in-Err-Refused.ensures.divisor in
    let refused : candidate (first_words (g.W.Words.to_come c.candidates.words) 1522) ≡ None = rw c.in-Err-Refused.field-0-is at c.in-Err-Refused.ensures.value in
    record {
      none = below_more _ _ c.candidates.invariant.none (sym (ap candidate drawn) ∙ refused);
      divisors = below_more _ _ c.candidates.invariant.divisors (subst HasDivisor drawn divisor);
      long = omega (arith, c.candidates.invariant.long, length-take c.candidates.drawn.len (c.next_candidate.new.drawn ++ drop (length c.next_candidate.new.drawn) c.candidates.drawn.items), length-append c.next_candidate.new.drawn (drop (length c.next_candidate.new.drawn) c.candidates.drawn.items));
      moved = moved_further before _ _ number c.candidates.invariant.moved c.next_candidate.ensures.rest;
    }

pub returns-clause-value : goal.returns-clause-value
unfolding first_candidate
returns-clause-value g c =
    let before = g.W.Words.to_come c.args.words.now in
    first_value-none (λ (k : ℕ). candidate (candidate_words before k)) 0 64 (λ k from below. c.candidates.invariant.none k (omega arith))

pub returns-clause-passed_over : goal.returns-clause-passed_over
returns-clause-passed_over g c =
    let before = g.W.Words.to_come c.args.words.now in
    let all : c.candidates._number ≡ 64 = omega arith in
    record {
      divisors = λ number within. c.candidates.invariant.divisors number (omega arith);
      taken = λ place. c.candidates.invariant.moved place ∙ ap (λ (n : ℕ). before (1522 * n + place)) all;
    }

pub returns-clause-words : goal.returns-clause-words
returns-clause-words g c = (1522 * c.candidates._number, c.candidates.invariant.moved)
