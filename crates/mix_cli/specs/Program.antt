-- What the arguments of the process say: the words behind the program's name, and what holds of a call at them.
use Rattle.std.specs.Prelude.{◌≡◌, ◌≢◌, ⊤, ℕ, List, drop, map, string_bytes, Result, Ok, Err, Vec, String}
use Rattle.std.specs.IoError.{error_kind}
use Rattle.std.specs.Vec.Iter.{into_iter_items}
use Rattle.std.specs.declared.alloc.Global.{Global}
use Rattle.std.specs.declared.io.Error.{Error}
use Rattle.std.specs.declared.io.ErrorKind.TheVariants.{OutOfMemory}
use Rattle.std.specs.declared.vec.IntoIter.{IntoIter}
use Rattle.lab_text.specs.declared.statuses.Status.{Status}
use Rattle.lab_text.specs.declared.statuses.Status.TheVariants.{Memory, Words}

-- All words behind the first, which names the program. Where one isn't UTF-8 the system's answer is an error, and the
-- words are faulty; want of memory is said.
abbrev pub ReadsArgs : Result (IntoIter (String Global) Global) Error
    → Result (Vec (String Global) Global) Status → Type 0
ReadsArgs (Ok args) (Ok words) = words.items ≡ drop 1 (into_iter_items args)
ReadsArgs (Ok args) (Err status) = status ≡ Memory
ReadsArgs (Err error) (Ok words) = ⊥
ReadsArgs (Err error) (Err status) =
    (error_kind error ≡ OutOfMemory → status ≡ Memory) × (error_kind error ≢ OutOfMemory → status ≡ Words)

-- this holds of the words, where there are words
abbrev pub OnWords : Result (Vec (String Global) Global) Status → (List (List ℕ) → Type 0) → Type 0
OnWords (Ok words) P = P (map string_bytes words.items)
OnWords (Err status) P = ⊤
