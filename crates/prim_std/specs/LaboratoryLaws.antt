-- The law of the laboratory mechanism: the two keys of a pair agree.
use Rattle.std.specs.Prelude.{◌≡◌, ℕ, ◌+◌, ◌*◌, List, [], ◌∷◌, ◌++◌, length, take, drop, Bool, true, Some, if◌then◌else◌}
use Rattle.std.specs.Int.{w32, to_le_bytes}
use Rattle.std.specs.Str.{bytes_eq}
use Rattle.std.proofs.Common.{refl, ap, ◌∙◌, arith, eq-eqb}
use Rattle.std.proofs.lemmas.List.{take_at, drop_at, length-append}
use Rattle.mix_base.specs.Suites.{Agrees}
use Rattle.prim_std.specs.Laboratory.{lab_check, lab_ciphertext, lab_opened, lab_scheme, lab_secret}
use Rattle.mix_base.specs.WordStreams.{word_bytes}

length-word_bytes : (words : List ℕ) → length (word_bytes words) ≡ 4 * length words
length-word_bytes [] = refl
length-word_bytes (word ∷ words) = omega (arith, length-append (to_le_bytes w32 word) (word_bytes words), length-word_bytes words)

same_bytes : (bytes : List ℕ) → bytes_eq bytes bytes ≡ true
same_bytes [] = refl
same_bytes (byte ∷ bytes) = rw (eq-eqb byte byte refl) (same_bytes bytes)

-- what is made of 32 bytes is opened by the same key
lab_opened-ciphertext : (key bytes : List ℕ) → length bytes ≡ 32 → lab_opened key (lab_ciphertext key bytes) ≡ Some (lab_secret key bytes)
unfolding lab_opened lab_ciphertext
lab_opened-ciphertext key bytes long =
    rw (take_at bytes (lab_check key bytes) 32 long, drop_at bytes (lab_check key bytes) 32 long, same_bytes (lab_check key bytes)) refl

pub lab_agrees : (key : List ℕ) → Agrees lab_scheme key key
lab_agrees key = λ coins count words. lab_opened-ciphertext key (word_bytes coins) (length-word_bytes coins ∙ ap (λ n. 4 * n) count)
