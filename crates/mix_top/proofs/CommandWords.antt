-- What holds whatever command the words name.
use Rattle.std.proofs.Common.{Option, Some, None, IfSome}

pub on_any : {C : Type 0} (named : Option C) (P : Type 0) → P → IfSome named (λ command. P)
on_any None P holds = tt
on_any (Some command) P holds = holds
