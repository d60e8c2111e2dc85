-- What a call gave to its sink.
use Rattle.std.specs.Prelude.{◌≡◌, ℕ, List, ◌++◌, Option, IfSome, IsSomeAnd}

-- where a sink tells what it is given, this holds of the bytes that it was given between
abbrev pub Gave : Option (List ℕ) → Option (List ℕ) → (List ℕ → Type 0) → Type 0
Gave before after P =
    IfSome before (λ first. IsSomeAnd after (λ last. (bytes : List ℕ) × (last ≡ first ++ bytes) × P bytes))
