-- The key pair of an epoch, derived from a node's seed. Where an epoch's words make no pair there is no key.
use Rattle.std.specs.Prelude.{ℕ, List, [], ◌∷◌, ◌++◌, Option, Some, is_none, option_map, find, codes}
use Rattle.std.specs.Int.{to_be_bytes, w64}
use Rattle.mix_base.specs.Options.{◌>>=◌}
use Rattle.mix_base.specs.Suites.{KemScheme}
use Rattle.prim_std.specs.Primitives.{hmac, chacha_word}

-- the key of an epoch's words: the code of a label and the epoch's number under the node's seed
unfoldable pub epoch_seed : List ℕ → ℕ → List ℕ
epoch_seed seed epoch = hmac seed (codes "mix-epoch" ++ to_be_bytes w64 epoch)

-- the public and the secret key of an epoch, where its words make a pair: its words are the key stream of that key
abbrev pub epoch_pair : KemScheme → List ℕ → ℕ → Option (List ℕ × List ℕ)
epoch_pair kem seed epoch = kem.pair (chacha_word (epoch_seed seed epoch))

-- its public key
abbrev pub epoch_public_key : KemScheme → List ℕ → ℕ → Option (List ℕ)
epoch_public_key kem seed epoch = option_map (λ pair. pair.0) (epoch_pair kem seed epoch)

-- its secret key
abbrev pub epoch_secret_key : KemScheme → List ℕ → ℕ → Option (List ℕ)
epoch_secret_key kem seed epoch = option_map (λ pair. pair.1) (epoch_pair kem seed epoch)

-- the secret keys of these epochs, each with its epoch, where each has a pair
abbrev pub secret_keys : KemScheme → List ℕ → List ℕ → Option (List (ℕ × List ℕ))
secret_keys kem seed [] = Some []
secret_keys kem seed (epoch ∷ epochs) = do
  key ← epoch_secret_key kem seed epoch
  keys ← secret_keys kem seed epochs
  Some ((epoch, key) ∷ keys)

-- the first of these epochs whose words make no pair
abbrev pub first_without_pair : KemScheme → List ℕ → List ℕ → Option ℕ
first_without_pair kem seed epochs = find (λ epoch. is_none (epoch_pair kem seed epoch)) epochs
