-- What a pair of keys is in the ring: an inverse is any polynomial in range whose product is 1, and a divisor of zero
-- is any other than 0 whose product is 0.
use Rattle.std.specs.Prelude.{◌≡◌, ◌⊎◌, ℕ, ◌+◌, ◌*◌, ◌<◌, List, ℤ, take, drop}
use Rattle.mix_base.specs.WordStreams.{SkipsWords}
use Rattle.ntru_ring.specs.Polynomials.{tripled, weight}
use Rattle.ntru_ring.specs.Product.{product}
use Rattle.field_solve.specs.Answers.{IsDivisor, IsInverse}
use Rattle.ntru_prime.specs.Drawing.{drawn_polynomial, weight_polynomial}
use Rattle.ntru_prime.specs.Scheme.{candidate_words, keys}
use Rattle.ntru_prime.specs.declared.reading.SecretKey.{SecretKey}

-- the two polynomials of a candidate's words
abbrev pub g_of : List ℕ → List ℤ
g_of words = drawn_polynomial (take 761 words)

abbrev pub f_of : List ℕ → List ℤ
f_of words = weight_polynomial (drop 761 words)

-- g divides zero modulo 3, or 3f does modulo 4591
abbrev pub HasDivisor : List ℕ → Type 0
HasDivisor words =
    ((v : List ℤ) × IsDivisor 3 (g_of words) v) ⊎ ((v : List ℤ) × IsDivisor 4591 (tripled (f_of words)) v)

-- the key has the candidate's f, of weight 286, the inverse of g, and g/(3f)
pub record IsKeyOf (words : List ℕ) (key : SecretKey) : Type 0 where
  pub f : key.f ≡ f_of words
  pub f_weight : weight key.f ≡ 286
  pub g_inverse : IsInverse 3 (g_of words) key.g_inverse
  pub h : (u : List ℤ) × IsInverse 4591 (tripled (f_of words)) u × (key.h ≡ product 4591 (g_of words) u)

-- the key is that of a candidate, each before it has a divisor, and the words of these candidates were taken
pub record IsFirstKey (before after : ℕ → ℕ) (key : SecretKey) : Type 0 where
  pub number : ℕ
  pub within : number < 64
  pub passed_over : (earlier : ℕ) → earlier < number → HasDivisor (candidate_words before earlier)
  pub is_key : IsKeyOf (candidate_words before number) key
  pub taken : SkipsWords (1522 * (number + 1)) before after

-- each of the 64 candidates has a divisor, and their words were taken
pub record AllPassedOver (before after : ℕ → ℕ) : Type 0 where
  pub divisors : (number : ℕ) → number < 64 → HasDivisor (candidate_words before number)
  pub taken : SkipsWords (1522 * 64) before after

-- these are the bytes of the key of the first candidate without a divisor
abbrev pub IsFirstPair : (ℕ → ℕ) → (ℕ → ℕ) → List ℕ → List ℕ → Type 0
IsFirstPair before after public_key secret_key =
    (key : SecretKey) × IsFirstKey before after key × ((public_key, secret_key) ≡ keys key)
