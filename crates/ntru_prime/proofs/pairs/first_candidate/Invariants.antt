use Rattle.std.proofs.Common.{◌≡◌, length, ℕ, ◌+◌, ◌*◌, ◌<◌, None}
use Rattle.ntru_prime.specs.Pairs.{HasDivisor}
use Rattle.ntru_prime.specs.Scheme.{candidate, candidate_words}
use Rattle.ntru_prime.proofs.pairs.first_candidate.Given as goal

abbrev pub invariant-candidates : goal.invariant-candidates
invariant-candidates g l = record {
  none : (k : ℕ) → k < l._number → candidate (candidate_words (g.W.Words.to_come l.initial.words) k) ≡ None;
  divisors : (k : ℕ) → k < l._number → HasDivisor (candidate_words (g.W.Words.to_come l.initial.words) k);
  long : length l.drawn.items ≡ 1522;
  moved : (place : ℕ) → g.W.Words.to_come l.words place ≡ g.W.Words.to_come l.initial.words (1522 * l._number + place);
}
