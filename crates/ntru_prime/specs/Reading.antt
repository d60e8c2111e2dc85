-- What bytes say in the three forms, and the parts of a secret key.
use Rattle.std.specs.Prelude.{ℕ, List, ℤ, take, drop, nat_lt, is_some, Bool, Option, Some, None, if◌then◌else◌}
use Rattle.std.specs.List.{list_all, range_with_len}
use Rattle.mix_base.specs.Options.{◌>>=◌}
use Rattle.ntru_code.specs.Forms.{bound_at, field_in, rounded, small, values, whole}
use Rattle.ntru_prime.specs.declared.reading.SecretKey.{SecretKey}

-- a number of fields are below their bounds
unfoldable pub all_below : ℕ → (ℕ → ℕ) → (ℕ → ℕ) → Bool
all_below count field bound = list_all (λ place. nat_lt (field place) (bound place)) (range_with_len 0 count)

-- the polynomial of some bytes in each form, where no field is out of range
unfoldable pub small_in : List ℕ → Option (List ℤ)
small_in bytes =
    if all_below 762 (field_in small bytes) (bound_at small) then Some (values small bytes) else None

unfoldable pub whole_in : List ℕ → Option (List ℤ)
whole_in bytes =
    if all_below 761 (field_in whole bytes) (bound_at whole) then Some (values whole bytes) else None

unfoldable pub rounded_in : List ℕ → Option (List ℤ)
rounded_in bytes =
    if all_below 761 (field_in rounded bytes) (bound_at rounded) then Some (values rounded bytes) else None

-- whether bytes of a public key's length are one: no field is out of range
abbrev pub is_public_key : List ℕ → Bool
is_public_key bytes = is_some (whole_in bytes)

-- a secret key is the small form of f, that of the inverse of g, 191 bytes each, and the public key
unfoldable pub secret_key_in : List ℕ → Option SecretKey
secret_key_in bytes = do
  f ← small_in (take 191 bytes)
  g_inverse ← small_in (take 191 (drop 191 bytes))
  h ← whole_in (drop 191 (drop 191 bytes))
  Some (record { f = f; g_inverse = g_inverse; h = h })
