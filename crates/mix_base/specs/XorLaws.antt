-- Xor twice is no change, and a xor keeps the length.
use Rattle.std.specs.Prelude.{◌≡◌, ℕ, suc, ◌+◌, List, [], ◌∷◌, ◌++◌, length, bit_xor}
use Rattle.std.proofs.Common.{refl, ap, ◌∙◌, add-zero, arith}
use Rattle.std.specs.Int.Bits.{xor_assoc, xor_self, xor_zero_r}
use Rattle.mix_base.specs.ByteLists.{xor, xor_stream}

pub bit_xor-bit_xor : (a b : ℕ) → bit_xor (bit_xor a b) b ≡ a
bit_xor-bit_xor a b = xor_assoc a b b ∙ ap (bit_xor a) (xor_self b) ∙ xor_zero_r a

pub xor-xor : (xs ys : List ℕ) → xor (xor xs ys) ys ≡ xs
xor-xor [] ys = refl
xor-xor (x ∷ xs) [] = refl
xor-xor (x ∷ xs) (y ∷ ys) = rw (bit_xor-bit_xor x y, xor-xor xs ys) refl

pub length-xor : (xs ys : List ℕ) → length (xor xs ys) ≡ length xs
length-xor [] ys = refl
length-xor (x ∷ xs) [] = refl
length-xor (x ∷ xs) (y ∷ ys) = rw (length-xor xs ys) refl

pub xor_stream-xor_stream : (stream : ℕ → ℕ) (place : ℕ) (xs : List ℕ) → xor_stream stream place (xor_stream stream place xs) ≡ xs
xor_stream-xor_stream stream place [] = refl
xor_stream-xor_stream stream place (x ∷ xs) = rw (bit_xor-bit_xor x (stream place), xor_stream-xor_stream stream (place + 1) xs) refl

pub length-xor_stream : (stream : ℕ → ℕ) (place : ℕ) (xs : List ℕ) → length (xor_stream stream place xs) ≡ length xs
length-xor_stream stream place [] = refl
length-xor_stream stream place (x ∷ xs) = rw (length-xor_stream stream (place + 1) xs) refl

-- a list of two parts, each with the part of the stream behind its place
pub xor_stream-append : (stream : ℕ → ℕ) (place : ℕ) (xs ys : List ℕ) → xor_stream stream place (xs ++ ys) ≡ xor_stream stream place xs ++ xor_stream stream (place + length xs) ys
xor_stream-append stream place [] ys = rw (add-zero place) refl
xor_stream-append stream place (x ∷ xs) ys =
    let further : place + 1 + length xs ≡ place + suc (length xs) = omega arith in
    rw (xor_stream-append stream (place + 1) xs ys, further) refl
