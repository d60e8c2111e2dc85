-- A fact where there is no value, weakened.
use Rattle.std.proofs.Common.{Err}
use Rattle.ntru_prime.specs.Answers.{OnRefused}
use Rattle.ntru_prime.specs.declared.faults.Refusal.{Refusal}
use Rattle.ntru_prime.specs.declared.faults.Refusal.TheVariants as refusals

pub OnRefused-weaker : (X Y : Type 0) {P Q : Type 0} (why : Refusal) → (P → Q) → OnRefused {X = X} (Err why) P → OnRefused {X = Y} (Err why) Q
OnRefused-weaker X Y refusals.Refused weaker holds = weaker holds
OnRefused-weaker X Y refusals.Memory weaker holds = tt
