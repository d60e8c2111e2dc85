-- What a cipher suite computes, as one record of plain functions on lists of bytes. Every definition of a
-- packet is a function of this record.
use Rattle.std.specs.Prelude.{◌≡◌, ℕ, ◌^◌, ◌<◌, List, length, All, Option, Some, IsSomeAnd}
use Rattle.mix_base.specs.declared.suites.HopKeys.{HopKeys}

-- a key encapsulation mechanism: its lengths in bytes, its number of coins in words, and its three functions
pub record KemScheme : Type 0 where
  pub public_key : ℕ
  pub secret_key : ℕ
  pub ciphertext : ℕ
  pub coins : ℕ
  -- of the words to come, a public and a secret key, where they make a pair
  pub pair : (ℕ → ℕ) → Option (List ℕ × List ℕ)
  -- of a public key and coins, the ciphertext and the secret, where the key decodes
  pub encapsulate : List ℕ → List ℕ → Option (List ℕ × List ℕ)
  -- of a secret key and a ciphertext, the secret, where the ciphertext isn't refused
  pub decapsulate : List ℕ → List ℕ → Option (List ℕ)

-- a public and a secret key agree: whatever the coins, the public key gives a ciphertext that decapsulates to its secret
abbrev pub Agrees : KemScheme → List ℕ → List ℕ → Type 0
Agrees kem public_key secret_key = (coins : List ℕ) → length coins ≡ kem.coins → All (λ word. word < 2 ^ 32) coins
    → IsSomeAnd (kem.encapsulate public_key coins) (λ made. kem.decapsulate secret_key made.0 ≡ Some made.1)

-- a suite: its mechanism, its MAC of a key and a message, the keys of a hop from its secret, its stream's byte
-- at each place under a key, and its wide block cipher under a key
pub record SuiteMeaning : Type 0 where
  pub kem : KemScheme
  pub mac : List ℕ → List ℕ → List ℕ
  pub hop_keys : List ℕ → HopKeys
  pub stream : List ℕ → ℕ → ℕ
  pub encrypt : List ℕ → List ℕ → List ℕ
  pub decrypt : List ℕ → List ℕ → List ℕ
