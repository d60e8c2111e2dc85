-- The key stream, four bytes at a time.
use Rattle.std.proofs.Common.{◌≡◌, ℕ, ◌+◌, ◌*◌, ◌/◌, ◌%◌, ◌^◌, ◌≤◌, ◌<◌, List, [], ◌∷◌, ◌++◌, length, take, drop, refl, ap, ◌∙◌, arith, w32, zero-add, length-drop}
use Rattle.std.specs.Int.{byte_at, to_le_bytes}
use Rattle.std.proofs.lemmas.List.{length-take-le, drop-drop}
use Rattle.std.proofs.lemmas.Slice.{take-put_mid}
use Rattle.std.proofs.Math.Seq.{take-add}
use borrow.Rule.Slice.PartMut.{put_mid}
use Rattle.rand_chacha.specs.ChaCha.{ChaCha, key_of, next_word}
use Rattle.mix_base.specs.ByteLists.{xor, xor_stream}
use Rattle.prim_std.specs.Primitives.{chacha_word, chacha_byte}

-- the second part of a list goes on in the stream where the first part ends
pub xor_stream-append : (stream : ℕ → ℕ) (place : ℕ) (xs ys : List ℕ)
    → xor_stream stream place (xs ++ ys) ≡ xor_stream stream place xs ++ xor_stream stream (place + length xs) ys
xor_stream-append stream place [] ys =
    let same : place + 0 ≡ place = omega arith in rw same refl
xor_stream-append stream place (x ∷ xs) ys =
    let next : place + length (x ∷ xs) ≡ place + 1 + length xs = omega arith in
    rw (next, xor_stream-append stream (place + 1) xs ys) refl

-- a byte of the stream is one of its word
pub chacha_byte-in_word : (key : List ℕ) (word byte place : ℕ) → byte < 4 → place ≡ 4 * word + byte → chacha_byte key place ≡ byte_at byte (chacha_word key word)
unfolding chacha_byte
chacha_byte-in_word key word byte place below at =
    let rest : place % 4 ≡ byte = omega arith in
    let whole : place / 4 ≡ word = omega arith in
    rw (rest, whole) refl

-- up to four bytes xored with those of a word
pub xor-word : (key : List ℕ) (word place : ℕ) (xs : List ℕ) → place ≡ 4 * word → length xs ≤ 4
    → xor xs (take (length xs) (to_le_bytes w32 (chacha_word key word))) ≡ xor_stream (chacha_byte key) place xs
xor-word key word place [] at few = refl
xor-word key word place (a ∷ []) at few =
    rw (chacha_byte-in_word key word 0 place (omega arith) (omega arith)) refl
xor-word key word place (a ∷ b ∷ []) at few =
    rw (chacha_byte-in_word key word 0 place (omega arith) (omega arith), chacha_byte-in_word key word 1 (place + 1) (omega arith) (omega arith)) refl
xor-word key word place (a ∷ b ∷ c ∷ []) at few =
    rw (
      chacha_byte-in_word key word 0 place (omega arith) (omega arith),
      chacha_byte-in_word key word 1 (place + 1) (omega arith) (omega arith),
      chacha_byte-in_word key word 2 (place + 1 + 1) (omega arith) (omega arith),
    ) refl
xor-word key word place (a ∷ b ∷ c ∷ d ∷ []) at few =
    rw (
      chacha_byte-in_word key word 0 place (omega arith) (omega arith),
      chacha_byte-in_word key word 1 (place + 1) (omega arith) (omega arith),
      chacha_byte-in_word key word 2 (place + 1 + 1) (omega arith) (omega arith),
      chacha_byte-in_word key word 3 (place + 1 + 1 + 1) (omega arith) (omega arith),
    ) refl
xor-word key word place (a ∷ b ∷ c ∷ d ∷ e ∷ more) at few = absurd (omega arith)

-- the generator of a key that stands at a place
abbrev pub generator_at : List ℕ → ℕ → ChaCha
generator_at key place = record { key = key_of key; stream = 0; word_pos = place }

-- it gives the word of its place
pub next_word-value : (key : List ℕ) (place word : ℕ) (before after : ChaCha) → before ≡ generator_at key place
    → (word, after) ≡ next_word 10 before → place < 2 ^ 68 → word ≡ chacha_word key place
unfolding chacha_word
next_word-value key place word before after stands step below =
    let same : place % 2 ^ 68 ≡ place = omega arith in
    ap (λ (p : ℕ × ChaCha). p.0) step ∙ ap (λ (g : ChaCha). (next_word 10 g).0) stands ∙ rw same refl

-- and stands at the next place
pub next_word-rest : (key : List ℕ) (place word : ℕ) (before after : ChaCha) → before ≡ generator_at key place
    → (word, after) ≡ next_word 10 before → place + 1 < 2 ^ 68 → after ≡ generator_at key (place + 1)
next_word-rest key place word before after stands step below =
    let same : (place + 1) % 2 ^ 68 ≡ place + 1 = omega arith in
    ap (λ (p : ℕ × ChaCha). p.1) step ∙ ap (λ (g : ChaCha). (next_word 10 g).1) stands ∙ rw same refl

-- the buffer `now` has the stream xored into the front of `old` up to a word's place, and not yet behind it
pub record XoredBelow (key old now : List ℕ) (at : ℕ) : Type 0 where
  pub done : take at now ≡ xor_stream (chacha_byte key) 0 (take at old)
  pub left : drop at now ≡ drop at old

-- what is left further on
pub drop-on : (now old : List ℕ) (at size end : ℕ) → drop at now ≡ drop at old → end ≡ at + size → drop end now ≡ drop end old
drop-on now old at size end left ends =
    rw (ends, ← drop-drop size at now, ← drop-drop size at old, left) refl

-- up to four bytes more
pub take-xored : (key old now chunk bytes : List ℕ) (word at size end : ℕ) → XoredBelow key old now at → at ≡ 4 * word
    → length now ≡ length old → size ≤ 4 → at + size ≤ length old → end ≡ at + size
    → bytes ≡ take size (to_le_bytes w32 (chacha_word key word)) → chunk ≡ xor (take size (drop at now)) bytes → length chunk ≡ size
    → take end (put_mid at size now chunk) ≡ xor_stream (chacha_byte key) 0 (take end old)
take-xored key old now chunk bytes word at size end before place same few within ends drawn xored long =
    let piece = take size (drop at old) in
    let piece_long : length piece ≡ size = length-take-le size (drop at old) (omega (arith, length-drop at old)) in
    let front_long : length (take at old) ≡ at = length-take-le at old (omega arith) in
    let value : chunk ≡ xor_stream (chacha_byte key) at piece =
    xored ∙ rw (before.left, drawn) (rw piece_long at (xor-word key word at piece place (omega arith))) in
    let joined : xor_stream (chacha_byte key) 0 (take at old ++ piece) ≡ xor_stream (chacha_byte key) 0 (take at old) ++ xor_stream (chacha_byte key) at piece =
    rw (zero-add, front_long) at (xor_stream-append (chacha_byte key) 0 (take at old) piece) in
    take-put_mid at size now chunk end (omega arith) (omega arith)
    ∙ rw (before.done, value, ends, take-add at size old, joined) refl
