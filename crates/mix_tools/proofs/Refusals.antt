-- A call whose definition never refuses is stopped by want of memory alone.
use Rattle.std.proofs.Common.{◌≡◌, Option, Some, None, Result, IsOk, refl}
use Rattle.mix_base.specs.Results.{IsRefusedBy}

pub only_memory : {Y C : Type 0} (cause : Option C) (value : Result Y C) → IsOk value → IsRefusedBy cause value → cause ≡ None
only_memory None value fine fails = refl
only_memory (Some why) value fine fails = absurd (cc)
