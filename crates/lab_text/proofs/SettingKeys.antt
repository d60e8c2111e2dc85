-- Whether a key is one of the settings, place by place.
use Rattle.std.proofs.Common.{◌≡◌, ℕ, zero, suc, ◌<◌, true, false, ◌||◌, List, [], ◌∷◌, length, get_or, codes, not, String, Global, string_bytes, refl, ap, arith}
use Rattle.std.specs.List.{list_any}
use Rattle.std.specs.Map.{keys_of}
use Rattle.std.specs.Str.{bytes_eq}
use Rattle.toml.specs.View.{members_view}
use Rattle.toml.specs.declared.value.Value.{Value}
use Rattle.lab_text.specs.Settings.{has_unknown, is_setting, key_name, setting_keys}

any_at : (key : List ℕ) (names : List (List ℕ)) (i : ℕ) (d : List ℕ) → i < length names → bytes_eq (get_or names i d) key ≡ true
    → list_any (λ name. bytes_eq name key) names ≡ true
any_at key [] i d within same = absurd (omega (arith, within))
any_at key (name ∷ names) zero d within same = rw same refl
any_at key (name ∷ names) (suc i) d within same =
    rw (any_at key names i d (omega (arith, within)) same) (elim (bytes_eq name key) as (λ b. (b || true) ≡ true) [ true ↦ refl | false ↦ refl ])

none_at : (key : List ℕ) (names : List (List ℕ)) (d : List ℕ) → ((i : ℕ) → i < length names → bytes_eq (get_or names i d) key ≡ false)
    → list_any (λ name. bytes_eq name key) names ≡ false
none_at key [] d other = refl
none_at key (name ∷ names) d other = rw (other 0 (omega arith)) (none_at key names d (λ i within. other (suc i) (omega (arith, within))))

-- it stands at a place of a setting
pub stands_at : (place : ℕ) (key : List ℕ) → 0 < place → place < 14 → bytes_eq (key_name place) key ≡ true → is_setting key ≡ true
stands_at zero key some below same = absurd (omega (arith, some))
stands_at (suc i) key some below same =
    let size : length setting_keys ≡ 13 = refl in
    any_at key setting_keys i (codes "unknown") (omega (arith, size, below)) same

-- it stands at none
pub stands_nowhere : (key : List ℕ) → ((place : ℕ) → 0 < place → place < 14 → bytes_eq (key_name place) key ≡ false) → is_setting key ≡ false
stands_nowhere key other =
    let size : length setting_keys ≡ 13 = refl in
    none_at key setting_keys (codes "unknown") (λ i within. other (suc i) (omega arith) (omega (arith, size, within)))

-- a table has an unknown key where one of its keys is no setting
pub unknown_among : (entries : List (String Global × Value)) → has_unknown (members_view entries) ≡ list_any (λ key. not (is_setting (string_bytes key))) (keys_of entries)
unknown_among [] = refl
unknown_among (entry ∷ entries) = ap (λ b. not (is_setting (string_bytes entry.0)) || b) (unknown_among entries)
