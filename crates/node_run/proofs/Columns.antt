-- Passes that go from each caller to each lock: lists that take a step at each place, and what they hold by columns.
use Rattle.std.proofs.Common.{◌≡◌, ◌⊎◌, ℕ, zero, suc, ◌+◌, ◌<◌, ◌≤◌, List, [], ◌∷◌, ◌++◌, length, get_or, vec_capacity, Some, refl, sym, ap, subst, ◌∙◌, inl, inr, ⊎_elim, arith, append_assoc}
use Rattle.std.specs.Global.{Vec}
use Rattle.std.specs.Prelude.{All, slice_get, slice_set, vec_len}
use Rattle.std.proofs.lemmas.List.{length-append, length-set}
use Rattle.std.proofs.lemmas.Option.{get_or_from_slice_get, slice_get-get_or}
use Rattle.node_actors.proofs.Seating.{get_low, get_set_cases, get_there, some_same}
use Rattle.node_run.specs.Closings.{AreColumns, ArePut, GetsPass}
use Rattle.node_run.specs.Rooms.{HasRoom}

-- ---- lists read by their places

module _ {X : Type 0} where
  pub all_at : (P : X → Type 0) (xs : List X) (i : ℕ) (x : X) → All P xs → slice_get xs i ≡ Some x → P x
  all_at P xs i x all is = subst P (get_or_from_slice_get xs i x x is) (all i x (get_low xs i x is))

  pub all_by : (P : X → Type 0) (xs : List X) → ((i : ℕ) (x : X) → slice_get xs i ≡ Some x → P x) → All P xs
  all_by P xs each k d low = each k (get_or xs k d) (slice_get-get_or xs k d low)

  pub get_front : (xs ys : List X) (i : ℕ) (x : X) → slice_get xs i ≡ Some x → slice_get (xs ++ ys) i ≡ Some x
  get_front [] ys i x is = absurd (omega (arith, get_low [] i x is))
  get_front (y ∷ xs) ys zero x is = is
  get_front (y ∷ xs) ys (suc i) x is = get_front xs ys i x is

  pub get_seam : (xs ys : List X) (x : X) (n : ℕ) → n ≡ length xs → slice_get (xs ++ x ∷ ys) n ≡ Some x
  get_seam [] ys x zero many = refl
  get_seam [] ys x (suc n) many = absurd (omega (arith, many))
  get_seam (y ∷ xs) ys x zero many = absurd (omega (arith, many))
  get_seam (y ∷ xs) ys x (suc n) many = get_seam xs ys x n (omega (arith, many))

  -- the last item of a front is the first of the rest
  pub last_moves : (was front rest whole : List X) (x : X) → was ≡ front ++ x ∷ [] → was ++ rest ≡ whole → front ++ x ∷ rest ≡ whole
  last_moves was front rest whole x last is = sym (append_assoc front (x ∷ []) rest) ∙ (ap (λ (xs : List X). xs ++ rest) (sym last) ∙ is)

  pub one_less : (was front : List X) (x : X) → was ≡ front ++ x ∷ [] → length was ≡ length front + 1
  one_less was front x last = ap (λ (xs : List X). length xs) last ∙ length-append front (x ∷ [])

  pub with_rest : (front rest whole : List X) (x : X) → front ++ x ∷ rest ≡ whole → length whole ≡ length front + (1 + length rest)
  with_rest front rest whole x is = omega (arith, ap (λ (xs : List X). length xs) (sym is) ∙ length-append front (x ∷ rest))

  pub get_more_cases : (xs : List X) (x : X) (i : ℕ) (y : X) → slice_get (xs ++ x ∷ []) i ≡ Some y
      → (slice_get xs i ≡ Some y) ⊎ ((i ≡ length xs) × (x ≡ y))
  get_more_cases [] x zero y is = inr (refl, some_same x y is)
  get_more_cases [] x (suc i) y is = absurd (omega (arith, get_low [] i y is))
  get_more_cases (z ∷ xs) x zero y is = inl is
  get_more_cases (z ∷ xs) x (suc i) y is =
      ⊎_elim (λ (there : slice_get xs i ≡ Some y). inl there)
      (λ (last : (i ≡ length xs) × (x ≡ y)). inr (omega (arith, last.0), last.1))
      (get_more_cases xs x i y is)

-- ---- a list of which each item takes a step, the last first

-- from place n on each has taken its step, with the item of its place
pub record Spread {A B : Type 0} (step : A → B → A → Type 0) (old : List A) (items : List B) (n : ℕ) (now : List A) : Type 0 where
  pub many : length now ≡ length old
  pub before : (i : ℕ) (x : A) → i < n → slice_get now i ≡ Some x → slice_get old i ≡ Some x
  pub after : (i : ℕ) (was is : A) (item : B) → n ≤ i → slice_get old i ≡ Some was → slice_get now i ≡ Some is → slice_get items i ≡ Some item → step was item is

module _ {A B : Type 0} (step : A → B → A → Type 0) (old : List A) (items : List B) where
  pub spread_start : length items ≡ length old → Spread step old items (length items) old
  spread_start many = record {
    many = refl;
    before = λ i x low is. is;
    after = λ i was is item high was_at is_at item_at. absurd (omega (arith, get_low items i item item_at, high));
  }

  pub spread_step : (m n : ℕ) (now : List A) (x y : A) (item : B) → m ≡ n + 1 → Spread step old items m now → n < length now → x ≡ get_or now n x
      → slice_get items n ≡ Some item → step x item y → Spread step old items n (slice_set now n y)
  spread_step m n now x y item one spread low there item_is taken =
      let here : slice_get now n ≡ Some x = slice_get-get_or now n x low ∙ ap Some (sym there) in
      record {
        many = length-set now n y ∙ spread.many;
        before = λ i z less is. get_set_cases (λ (v : A). slice_get old i ≡ Some v) now n i y z is
            (λ same. absurd (omega (arith, same, less)))
            (λ other was. spread.before i z (omega (arith, less, one)) was);
        after = λ i was is one_item high was_at is_at item_at. get_set_cases (λ (v : A). step was one_item v) now n i y is is_at
            (λ same.
            let old_is : x ≡ was = some_same x was (sym (spread.before n x (omega (arith, one)) here) ∙ (ap (λ (k : ℕ). slice_get old k) (sym same) ∙ was_at)) in
            let new_is : item ≡ one_item = some_same item one_item (sym item_is ∙ (ap (λ (k : ℕ). slice_get items k) (sym same) ∙ item_at)) in
            subst (λ (v : A). step v one_item y) old_is (subst (λ (b : B). step x b y) new_is taken))
            (λ other there_is. spread.after i was is one_item (past i high other) was_at there_is item_at);
      }
    where
      past : (i : ℕ) → n ≤ i → (i ≡ n → ⊥) → m ≤ i
      past i high other = omega (arith, one, high, other)

-- ---- the passes of one caller more

pub columns_start : {Q : Type 0} (many : ℕ) (lists : List (Vec Q)) → All (HasRoom many) lists → AreColumns [] lists
columns_start {Q} many lists empty i list is = record {
  many = ap (λ (xs : List Q). length xs) (all_at (HasRoom many) lists i list empty is).empty;
  each = λ c hand pass hand_is pass_is. absurd (omega (arith, get_low [] c hand hand_is));
}

-- each list has room for so many
abbrev pub HaveRoom : {Q : Type 0} → ℕ → List (Vec Q) → Type 0
HaveRoom {Q} many lists = (i : ℕ) (list : Vec Q) → slice_get lists i ≡ Some list → many ≤ vec_capacity list

pub room_start : {Q : Type 0} (many : ℕ) (lists : List (Vec Q)) → All (HasRoom many) lists → HaveRoom many lists
room_start many lists empty i list is = (all_at (HasRoom many) lists i list empty is).room

module _ {Q : Type 0} (hands : List (List Q)) (hand : List Q) (old new : List (Vec Q)) (put : ArePut hand old new) (fits : length hand ≡ length old) where
  -- what was there, and the pass that came
  abbrev Before : ℕ → Vec Q → Type 0
  Before i is = (was : Vec Q) × (pass : Q) × (slice_get old i ≡ Some was) × (slice_get hand i ≡ Some pass) × GetsPass was pass is

  before : (i : ℕ) (is : Vec Q) → slice_get new i ≡ Some is → Before i is
  before i is is_at =
      let low = get_low new i is is_at in
      let was = get_there old i (omega (arith, low, put.many)) in
      let pass = get_there hand i (omega (arith, low, put.many, fits)) in
      (was.0, pass.0, was.1, pass.1, put.each i was.0 is pass.0 was.1 is_at pass.1)

  pub columns_more : AreColumns hands old → AreColumns (hands ++ hand ∷ []) new
  columns_more are i is is_at =
      let b = before i is is_at in
      let column = are i b.0 b.2 in
      record {
        many = ap (λ (xs : List Q). length xs) b.4.0 ∙ (length-append b.0.items (b.1 ∷ []) ∙ (ap (λ (n : ℕ). n + 1) column.many ∙ sym (length-append hands (hand ∷ []))));
        each = λ c other pass other_at pass_at. ap (λ (xs : List Q). slice_get xs c) b.4.0
            ∙ ⊎_elim
            (λ (there : slice_get hands c ≡ Some other). get_front b.0.items (b.1 ∷ []) c pass (column.each c other pass there pass_at))
            (λ (last : (c ≡ length hands) × (hand ≡ other)).
            get_seam b.0.items [] b.1 c (last.0 ∙ sym column.many)
            ∙ (sym b.3 ∙ (ap (λ (h : List Q). slice_get h i) last.1 ∙ pass_at)))
            (get_more_cases hands hand c other other_at);
      }

  pub room_more : (many : ℕ) → HaveRoom many old → HaveRoom many new
  room_more many room i is is_at =
      let b = before i is is_at in
      omega (arith, room i b.0 b.2, b.4.1)

-- the next caller's passes fit
pub room_next : {Q : Type 0} (hands : List (List Q)) (lists : List (Vec Q)) (many : ℕ) → AreColumns hands lists → HaveRoom many lists → length hands < many
    → All (λ list. vec_len list < vec_capacity list) lists
room_next hands lists many are room less =
    all_by (λ list. vec_len list < vec_capacity list) lists (λ i list is. omega (arith, (are i list is).many, room i list is, less))

pub all_middle : {X : Type 0} (P : X → Type 0) (xs ys : List X) (x : X) (zs : List X) → xs ++ x ∷ ys ≡ zs → All P zs → P x
all_middle P xs ys x zs whole all = all_at P zs (length xs) x all (ap (λ l. slice_get l (length xs)) (sym whole) ∙ get_seam xs ys x (length xs) refl)
