-- A sink that was given nothing.
use Rattle.std.proofs.Common.{ℕ, List, Option, Some, None, IfSome, IsSomeAnd, sym}
use Rattle.std.proofs.lemmas.List.{append-nil}
use Rattle.mix_base.specs.Writing.{GivesFront}

pub gives_nothing : (given : Option (List ℕ)) (piece : List ℕ) → IfSome given (λ before. IsSomeAnd given (λ after. GivesFront before after piece))
gives_nothing None piece = tt
gives_nothing (Some before) piece = (0, sym (append-nil before))
