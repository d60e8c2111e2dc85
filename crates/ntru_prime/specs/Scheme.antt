-- The mechanism after sntrup4591761, as functions on lists: how words become a pair of keys, a polynomial of weight
-- 286 a ciphertext and a secret, and a ciphertext that polynomial again.
use Rattle.std.specs.Prelude.{ℕ, ◌+◌, ◌*◌, ◌==◌, ◌&&◌, List, [], ◌∷◌, ◌++◌, ℤ, take, drop, Option, Some, None, if◌then◌else◌}
use Rattle.std.specs.List.{range_with_len}
use Rattle.std.specs.Option.{option_map}
use Rattle.std.specs.Str.{bytes_eq}
use Rattle.sha2.specs.Sha512.{sha512}
use Rattle.mix_base.specs.Options.{◌>>=◌}
use Rattle.mix_base.specs.Suites.{KemScheme, SuiteMeaning}
use Rattle.mix_base.specs.WordStreams.{first_words}
use Rattle.prim_std.specs.StandardParts.{standard_meaning}
use Rattle.ntru_ring.specs.Polynomials.{reduced, tripled, weight}
use Rattle.ntru_ring.specs.Polynomials as polynomials
use Rattle.ntru_ring.specs.Product.{product}
use Rattle.ntru_code.specs.Forms.{rounded, small, spelling, whole}
use Rattle.ntru_prime.specs.Drawing.{drawn_polynomial, weight_polynomial}
use Rattle.ntru_prime.specs.Inverses.{inverse_of}
use Rattle.ntru_prime.specs.Reading.{rounded_in, secret_key_in, whole_in}
use Rattle.ntru_prime.specs.declared.reading.SecretKey.{SecretKey}

-- ---- a pair of keys

-- the key of a candidate's 1,522 words, 761 for g and 761 for f, where g has an inverse modulo 3 and 3f one modulo
-- 4591: f, the inverse of g, and h = g/(3f)
unfoldable pub candidate : List ℕ → Option SecretKey
candidate words =
    let g = drawn_polynomial (take 761 words) in
    let f = weight_polynomial (drop 761 words) in
    inverse_of 3 g >>= (λ g_inverse.
    inverse_of 4591 (tripled f) >>= (λ f_inverse.
    Some (record { f = f; g_inverse = g_inverse; h = product 4591 g f_inverse })))

-- the words of a candidate: 1,522 for each, from the words to come
unfoldable pub candidate_words : (ℕ → ℕ) → ℕ → List ℕ
candidate_words words number = first_words (λ place. words (1522 * number + place)) 1522

-- one value, or else another
abbrev pub or_else : {X : Type 0} → Option X → Option X → Option X
or_else (Some x) other = Some x
or_else None other = other

-- the first value that one of the numbers has
abbrev pub first_value : {X : Type 0} → (ℕ → Option X) → List ℕ → Option X
first_value value [] = None
first_value value (number ∷ numbers) = or_else (value number) (first_value value numbers)

-- the key of the first of 64 candidates that has one
unfoldable pub first_candidate : (ℕ → ℕ) → Option SecretKey
first_candidate words = first_value (λ number. candidate (candidate_words words number)) (range_with_len 0 64)

-- the public and the secret key, as bytes: h, and f, the inverse of g and h
unfoldable pub keys : SecretKey → List ℕ × List ℕ
keys key = (spelling whole key.h, spelling small key.f ++ spelling small key.g_inverse ++ spelling whole key.h)

-- the pair of the words to come
unfoldable pub pair : (ℕ → ℕ) → Option (List ℕ × List ℕ)
pair words = option_map keys (first_candidate words)

-- ---- a ciphertext

-- r under the public polynomial h: a ciphertext and a secret. The small form of r is hashed; the ciphertext is the
-- first half of the hash and h r rounded to multiples of 3, and the secret is the other half
unfoldable pub sealed : List ℤ → List ℤ → List ℕ × List ℕ
sealed h r =
    let hash = sha512 (spelling small r) in
    (take 32 hash ++ spelling rounded (polynomials.rounded (product 4591 h r)), drop 32 hash)

-- encapsulation to a public key: r is the polynomial of weight 286 of the coins
unfoldable pub encapsulated : List ℕ → List ℕ → Option (List ℕ × List ℕ)
encapsulated public_key coins = do
  h ← whole_in public_key
  Some (sealed h (weight_polynomial coins))

-- ---- a secret

-- the r of a rounded part c: 3fc modulo 4591, then modulo 3, times the inverse of g
unfoldable pub recovered : SecretKey → List ℤ → List ℤ
recovered key c = product 3 (reduced (product 4591 (tripled key.f) c)) key.g_inverse

-- the secret of r, where r has weight 286 and gives the same ciphertext under h
unfoldable pub checked : List ℤ → List ℤ → List ℕ → Option (List ℕ)
checked h r ciphertext = if weight r == 286 && bytes_eq (sealed h r).0 ciphertext then Some (sealed h r).1 else None

-- decapsulation: the rounded part and the secret key decode, and the r that they give passes the check
unfoldable pub decapsulated : List ℕ → List ℕ → Option (List ℕ)
decapsulated secret_key ciphertext = do
  c ← rounded_in (drop 32 ciphertext)
  key ← secret_key_in secret_key
  checked key.h (recovered key c) ciphertext

-- ---- the mechanism and the suite

abbrev pub ntru_scheme : KemScheme
ntru_scheme = record {
  public_key = 1218;
  secret_key = 1600;
  ciphertext = 1047;
  coins = 761;
  pair = pair;
  encapsulate = encapsulated;
  decapsulate = decapsulated;
}

-- the suite: this mechanism with the standard parts
abbrev pub ntru_meaning : SuiteMeaning
ntru_meaning = standard_meaning ntru_scheme
