-- The public key of a pair decodes, so encapsulation to it has a value, whatever the coins.
use Rattle.std.proofs.Common.{◌≡◌, ℕ, ◌*◌, ◌+◌, ℤ, List, [], ◌∷◌, take, drop, Option, Some, None, IsSome, ◌⊎◌, inl, inr, refl, subst}
use Rattle.std.specs.List.{range_with_len}
use Rattle.std.specs.Option.{option_map}
use Rattle.mix_base.specs.Options.{◌>>=◌}
use Rattle.ntru_ring.specs.Polynomials.{IsPolynomial, tripled}
use Rattle.ntru_ring.specs.Product.{product}
use Rattle.ntru_ring.proofs.Ring.{product_q_is_polynomial}
use Rattle.ntru_code.specs.Forms.{spelling, whole}
use Rattle.ntru_code.proofs.Soundness.{whole_is_sound}
use Rattle.ntru_code.proofs.Spelled.{spelled_in_range, whole_can_spell}
use Rattle.ntru_prime.specs.Drawing.{drawn_polynomial, weight_polynomial}
use Rattle.ntru_prime.specs.Inverses.{inverse_of}
use Rattle.ntru_prime.specs.Scheme.{candidate, candidate_words, encapsulated, first_candidate, first_value, keys, or_else, pair, sealed}
use Rattle.ntru_prime.specs.Reading.{whole_in}
use Rattle.ntru_prime.specs.declared.reading.SecretKey.{SecretKey}
use Rattle.ntru_prime.proofs.Decoding.{whole_read}

-- the public polynomial of a candidate is a product
candidate_h : (words : List ℕ) (key : SecretKey) → candidate words ≡ Some key → IsPolynomial 2295 key.h
unfolding candidate
candidate_h words key is = by_g (inverse_of 3 g) is
  where
    g : List ℤ
    g = drawn_polynomial (take 761 words)

    f : List ℤ
    f = weight_polynomial (drop 761 words)

    by_f : (g_inverse : List ℤ) (inverse : Option (List ℤ))
        → inverse >>= (λ f_inverse. Some (record { f = f; g_inverse = g_inverse; h = product 4591 g f_inverse })) ≡ Some key → IsPolynomial 2295 key.h
    by_f g_inverse None is = absurd (cc)
    by_f g_inverse (Some f_inverse) is =
        let made : SecretKey = record { f = f; g_inverse = g_inverse; h = product 4591 g f_inverse } in
        let same : made ≡ key = cc in
        subst (λ (k : SecretKey). IsPolynomial 2295 k.h) same (product_q_is_polynomial g f_inverse)

    by_g : (inverse : Option (List ℤ))
        → inverse >>= (λ g_inverse. inverse_of 4591 (tripled f) >>= (λ f_inverse. Some (record { f = f; g_inverse = g_inverse; h = product 4591 g f_inverse }))) ≡ Some key
        → IsPolynomial 2295 key.h
    by_g None is = absurd (cc)
    by_g (Some g_inverse) is = by_f g_inverse (inverse_of 4591 (tripled f)) is

-- the first value is that of a number
one_of_two : {X : Type 0} (first others : Option X) (x : X) → or_else first others ≡ Some x → (first ≡ Some x) ⊎ (others ≡ Some x)
one_of_two (Some y) others x is = inl is
one_of_two None others x is = inr is

value_of_first : {X : Type 0} (value : ℕ → Option X) (numbers : List ℕ) (x : X) → first_value value numbers ≡ Some x → (number : ℕ) × (value number ≡ Some x)
value_of_first value [] x is = absurd (cc)
value_of_first value (number ∷ numbers) x is =
    elim (one_of_two (value number) (first_value value numbers) x is) [ inl here ↦ (number, here) | inr later ↦ value_of_first value numbers x later ]

-- a public key that spells a polynomial encapsulates
sealing : (h : List ℤ) (coins : List ℕ) → IsPolynomial 2295 h → IsSome (encapsulated (spelling whole h) coins)
unfolding encapsulated
sealing h coins polynomial = rw (whole_read (spelling whole h) h polynomial refl (spelled_in_range whole h whole_is_sound (whole_can_spell h polynomial))) refl

pub pair_seals : (words : ℕ → ℕ) (made : List ℕ × List ℕ) → pair words ≡ Some made → (coins : List ℕ) → IsSome (encapsulated made.0 coins)
unfolding pair first_candidate keys
pair_seals words made is coins = by (first_value (λ number. candidate (candidate_words words number)) (range_with_len 0 64)) refl is
  where
    by : (found : Option SecretKey) → first_value (λ number. candidate (candidate_words words number)) (range_with_len 0 64) ≡ found → option_map keys found ≡ Some made
        → IsSome (encapsulated made.0 coins)
    by None first is = absurd (cc)
    by (Some key) first is =
        let at = value_of_first (λ number. candidate (candidate_words words number)) (range_with_len 0 64) key first in
        let same : keys key ≡ made = cc in
        subst (λ (p : List ℕ × List ℕ). IsSome (encapsulated p.0 coins)) same
        (sealing key.h coins (candidate_h (candidate_words words at.0) key at.1))
