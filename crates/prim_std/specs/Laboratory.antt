-- The laboratory mechanism and suite. The mechanism has no secrecy: its two keys are the same bytes.
use Rattle.std.specs.Prelude.{ℕ, List, ◌∷◌, ◌++◌, take, drop, Option, Some, None, if◌then◌else◌}
use Rattle.std.specs.Str.{bytes_eq}
use Rattle.mix_base.specs.Suites.{KemScheme, SuiteMeaning}
use Rattle.mix_base.specs.WordStreams.{first_words, word_bytes}
use Rattle.prim_std.specs.Primitives.{hmac}
use Rattle.prim_std.specs.StandardParts.{standard_meaning}

-- both keys of a pair: the next eight words
unfoldable pub lab_key : (ℕ → ℕ) → List ℕ
lab_key words = word_bytes (first_words words 8)

-- what stands behind the 32 bytes of a ciphertext: the first half of their code, behind a byte 0
unfoldable pub lab_check : List ℕ → List ℕ → List ℕ
lab_check key bytes = take 16 (hmac key (0 ∷ bytes))

-- the secret of these 32 bytes: their code, behind a byte 1
unfoldable pub lab_secret : List ℕ → List ℕ → List ℕ
lab_secret key bytes = hmac key (1 ∷ bytes)

-- the ciphertext for 32 bytes
unfoldable pub lab_ciphertext : List ℕ → List ℕ → List ℕ
lab_ciphertext key bytes = bytes ++ lab_check key bytes

-- the secret, where the last 16 bytes of the ciphertext are the check of the first 32
unfoldable pub lab_opened : List ℕ → List ℕ → Option (List ℕ)
lab_opened key ciphertext =
    let bytes = take 32 ciphertext in
    if bytes_eq (drop 32 ciphertext) (lab_check key bytes) then Some (lab_secret key bytes) else None

-- the mechanism: every eight words make a pair, every public key decodes
abbrev pub lab_scheme : KemScheme
lab_scheme = record {
  public_key = 32;
  secret_key = 32;
  ciphertext = 48;
  coins = 8;
  pair = λ words. Some (lab_key words, lab_key words);
  encapsulate = λ key coins. Some (lab_ciphertext key (word_bytes coins), lab_secret key (word_bytes coins));
  decapsulate = lab_opened;
}

-- the laboratory suite: this mechanism and the standard parts
abbrev pub lab_meaning : SuiteMeaning
lab_meaning = standard_meaning lab_scheme
