-- Encapsulation has a value exactly for a public key.
use Rattle.std.proofs.Common.{◌≡◌, ◌↔◌, ℕ, Bool, List, Option, Some, None, IsSome, IsTrue, refl}
use Rattle.std.specs.Prelude.{is_some}
use Rattle.mix_base.specs.Options.{◌>>=◌}
use Rattle.ntru_prime.specs.Drawing.{weight_polynomial}
use Rattle.ntru_prime.specs.Reading.{is_public_key, whole_in}
use Rattle.ntru_prime.specs.Scheme.{encapsulated, sealed}

some_behind : {A B : Type 0} (first : Option A) (f : A → B) → IsTrue (is_some first) ↔ IsSome (first >>= (λ x. Some (f x)))
some_behind (Some x) f = ((λ given. refl), (λ given. refl))
some_behind None f = ((λ given. given), (λ given. given))

pub encapsulated_exactly : (public_key coins : List ℕ) → IsTrue (is_public_key public_key) ↔ IsSome (encapsulated public_key coins)
unfolding encapsulated
encapsulated_exactly public_key coins =
    some_behind (whole_in public_key) (λ h. sealed h (weight_polynomial coins))

-- the same of a test that tells which bytes are one
pub told_exactly : (is_key : Bool) (public_key : List ℕ) → is_key ≡ is_public_key public_key → (coins : List ℕ)
    → IsTrue is_key ↔ IsSome (encapsulated public_key coins)
told_exactly is_key public_key told coins = rw told (encapsulated_exactly public_key coins)
