-- The first word of a line, and the value of digits step by step.
use Rattle.std.proofs.Common.{◌≡◌, ℕ, ◌+◌, ◌-◌, ◌*◌, ◌^◌, ◌<◌, ◌≤◌, List, [], ◌∷◌, length, take, drop, get_or, true, false, ◌&&◌, leb, cond, None, IfSome, refl, sym, ◌∙◌, ap, arith, suc, zero}
use Rattle.std.proofs.lemmas.List.{at_drop_more, at_drop_all}
use Rattle.lab_text.specs.Words.{words_of, is_blank, ends_word, before_first, digits_value, numeral_value}

-- blanks at the front make no word
pub words_of-blank : (x : ℕ) (xs : List ℕ) → is_blank x ≡ true → words_of (x ∷ xs) ≡ words_of xs
words_of-blank x xs e = rw e refl

words_of-on : (x y : ℕ) (ys : List ℕ) → is_blank x ≡ false → is_blank y ≡ false → words_of (x ∷ y ∷ ys) ≡ before_first x (words_of (y ∷ ys))
words_of-on x y ys first second = rw first (ap (λ b. cond b ((x ∷ []) ∷ words_of (y ∷ ys)) (before_first x (words_of (y ∷ ys)))) second)

-- bytes up to a blank or to the end are the first word
pub words_of-word : (line : List ℕ) (n : ℕ) → 0 < n → n ≤ length line → ((k : ℕ) → k < n → is_blank (get_or line k 0) ≡ false) → ends_word (drop n line) ≡ true → words_of line ≡ take n line ∷ words_of (drop n line)
words_of-word line zero some h f e = absurd (omega arith)
words_of-word [] (suc n) some h f e = absurd (omega arith)
words_of-word (x ∷ xs) (suc zero) some h f e =
    let first : is_blank x ≡ false = f 0 (omega arith) in
    let end : ends_word xs ≡ true = e in
    rw (first, end) refl
words_of-word (x ∷ []) (suc (suc n)) some h f e = absurd (omega arith)
words_of-word (x ∷ y ∷ ys) (suc (suc n)) some h f e =
    let first : is_blank x ≡ false = f 0 (omega arith) in
    let second : is_blank y ≡ false = f 1 (omega arith) in
    let others : words_of (y ∷ ys) ≡ take (suc n) (y ∷ ys) ∷ words_of (drop (suc n) (y ∷ ys)) = words_of-word (y ∷ ys) (suc n) (omega arith) (omega arith) (λ k l. f (suc k) (omega arith)) e in
    let step : words_of (x ∷ y ∷ ys) ≡ before_first x (words_of (y ∷ ys)) = words_of-on x y ys first second in
    step ∙ ap (before_first x) others

-- a number that is large stays so with more digits
pub digits_value-grows : (bound value : ℕ) (bytes : List ℕ) → bound ≤ value → IfSome (digits_value value bytes) (λ v. bound ≤ v)
digits_value-grows bound value [] h = h
digits_value-grows bound value (x ∷ xs) h = elim (leb 48 x && leb x 57) as (λ b. IfSome (cond b (digits_value (value * 10 + (x - 48)) xs) None) (λ v. bound ≤ v)) [ true ↦ digits_value-grows bound (value * 10 + (x - 48)) xs (omega arith) | false ↦ tt ]

-- so does a number that its next digit makes large
grows_next : (bound value x : ℕ) (xs : List ℕ) → bound ≤ value * 10 + (x - 48) → IfSome (digits_value value (x ∷ xs)) (λ v. bound ≤ v)
grows_next bound value x xs h = elim (leb 48 x && leb x 57) as (λ b. IfSome (cond b (digits_value (value * 10 + (x - 48)) xs) None) (λ v. bound ≤ v)) [ true ↦ digits_value-grows bound (value * 10 + (x - 48)) xs h | false ↦ tt ]

pub too_large : (word : List ℕ) (i value : ℕ) → i < length word → digits_value value (drop i word) ≡ digits_value 0 word → 2 ^ 64 ≤ value * 10 + (get_or word i 0 - 48) → IfSome (numeral_value word) (λ v. 2 ^ 64 ≤ v)
too_large word i value l e h =
    let large : IfSome (digits_value value (get_or word i 0 ∷ drop (i + 1) word)) (λ v. 2 ^ 64 ≤ v) = grows_next (2 ^ 64) value (get_or word i 0) (drop (i + 1) word) h in
    let step : digits_value value (get_or word i 0 ∷ drop (i + 1) word) ≡ digits_value 0 word = sym (at_drop_more (digits_value value) word i 0 l) ∙ e in
    let all : IfSome (digits_value 0 word) (λ v. 2 ^ 64 ≤ v) = rw step at large in
    elim (leb 1 (length word) && leb (length word) 20) as (λ b. IfSome (cond b (digits_value 0 word) None) (λ v. 2 ^ 64 ≤ v)) [ true ↦ all | false ↦ tt ]

pub not_first : (line : List ℕ) (n : ℕ) → is_blank (get_or line 0 0) ≡ false → is_blank (get_or line n 0) ≡ true → 0 < n
not_first line zero h e = let both : false ≡ true = sym h ∙ e in absurd (cc)
not_first line (suc n) h e = omega arith

pub word_before_blank : (line : List ℕ) (n : ℕ) → n < length line → is_blank (get_or line 0 0) ≡ false → ((k : ℕ) → k < n → is_blank (get_or line k 0) ≡ false) → is_blank (get_or line n 0) ≡ true → words_of line ≡ take n line ∷ words_of (drop n line)
word_before_blank line n l h f e = words_of-word line n (not_first line n h e) (omega arith) f (at_drop_more ends_word line n 0 l ∙ e)

pub word_to_end : (line : List ℕ) (n : ℕ) → 0 < length line → length line ≡ n → ((k : ℕ) → k < length line → is_blank (get_or line k 0) ≡ false) → words_of line ≡ take n line ∷ words_of (drop n line)
word_to_end line n some e f = words_of-word line n (omega arith) (omega arith) (λ k l. f k (omega arith)) (at_drop_all ends_word line n (omega arith))
