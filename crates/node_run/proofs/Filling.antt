-- Hands are filled with passes, one to each lock.
use Rattle.std.proofs.Common.{◌≡◌, ◌<◌, ◌≤◌, ◌+◌, ℕ, List, [], ◌∷◌, ◌++◌, length, get_or, sym, ap, subst, ◌∙◌, arith, Some}
use Rattle.std.specs.Prelude.{All, Vec, slice_get, vec_len, vec_capacity}
use Rattle.std.specs.declared.alloc.Global.{Global}
use Rattle.std.proofs.lemmas.List.{length_push, map-append}
use Rattle.std.proofs.lemmas.List.FromFn.{get_or-map-range_with_len, length-map-range_with_len}
use Rattle.std.proofs.lemmas.Option.{slice_get-get_or}
use Rattle.mix_shard.specs.declared.entries.Told.{Told}
use Rattle.turn_lock.specs.Seen.{Caller, Lock, new_pass, new_passes}
use Rattle.node_actors.proofs.Seating.{get_low, get_there, some_same}
use Rattle.node_run.specs.Halls.{fresh_passes}
use Rattle.node_run.specs.Openings.{AreDealt, AreEmptyHands, AreFreshHands}

-- each hand has a pass to each of these locks, and room for so many
pub record AreFilled (locks : List (Lock Told)) (callers room : ℕ) (hands : List (Vec (Caller Told) Global)) : Type 0 where
  pub many : length hands ≡ callers
  pub passes : (c : ℕ) (hand : Vec (Caller Told) Global) → slice_get hands c ≡ Some hand → hand.items ≡ fresh_passes locks c
  pub len : (c : ℕ) (hand : Vec (Caller Told) Global) → slice_get hands c ≡ Some hand → vec_len hand ≡ length locks
  pub fits : (c : ℕ) (hand : Vec (Caller Told) Global) → slice_get hands c ≡ Some hand → room ≤ vec_capacity hand

module _ {A : Type 0} where
  -- a fact of each, read by place, and back
  pub at_place : (P : A → Type 0) (xs : List A) → All P xs → (i : ℕ) (x : A) → slice_get xs i ≡ Some x → P x
  at_place P xs all i x at =
      let low = get_low xs i x at in
      subst P (some_same (get_or xs i x) x (sym (slice_get-get_or xs i x low) ∙ at)) (all i x low)

  pub from_places : (P : A → Type 0) (xs : List A) → ((i : ℕ) (x : A) → slice_get xs i ≡ Some x → P x) → All P xs
  from_places P xs each = λ k d low. each k (get_or xs k d) (slice_get-get_or xs k d low)

pub pass_at : (lock : Lock Told) (n c : ℕ) (passes : List (Caller Told)) → passes ≡ new_passes lock n → c < n → slice_get passes c ≡ Some (new_pass lock c)
pass_at lock n c passes are low =
    let pass = new_pass lock c in
    ap (λ (ps : List (Caller Told)). slice_get ps c) are
    ∙ (slice_get-get_or (new_passes lock n) c pass (subst (λ (k : ℕ). c < k) (sym (length-map-range_with_len (new_pass lock) 0 n)) low)
    ∙ ap Some (get_or-map-range_with_len (new_pass lock) 0 n c c pass low (omega arith)))

pub none_filled : (callers room : ℕ) (hands : List (Vec (Caller Told) Global)) → AreEmptyHands callers room hands → AreFilled [] callers room hands
none_filled callers room hands are = record {
  many = are.count;
  passes = λ c hand at. (at_place (λ (h : Vec (Caller Told) Global). (h.items ≡ []) × (vec_len h ≡ 0) × (room ≤ vec_capacity h)) hands are.each c hand at).0;
  len = λ c hand at. (at_place (λ (h : Vec (Caller Told) Global). (h.items ≡ []) × (vec_len h ≡ 0) × (room ≤ vec_capacity h)) hands are.each c hand at).1;
  fits = λ c hand at. (at_place (λ (h : Vec (Caller Told) Global). (h.items ≡ []) × (vec_len h ≡ 0) × (room ≤ vec_capacity h)) hands are.each c hand at).2;
}

pub one_more_filled : (locks : List (Lock Told)) (callers room : ℕ) (old new : List (Vec (Caller Told) Global)) (lock : Lock Told) (passes : List (Caller Told))
    → AreFilled locks callers room old → passes ≡ new_passes lock callers → AreDealt passes old new → AreFilled (locks ++ lock ∷ []) callers room new
one_more_filled locks callers room old new lock passes filled are dealt =
    let many : length new ≡ callers = dealt.many ∙ filled.many in
    let was : (c : ℕ) (hand : Vec (Caller Told) Global) → slice_get new c ≡ Some hand → (h : Vec (Caller Told) Global) × (slice_get old c ≡ Some h) =
    λ c hand at. get_there old c (let a = get_low new c hand at in let b = dealt.many in omega arith) in
    let pass : (c : ℕ) (hand : Vec (Caller Told) Global) → slice_get new c ≡ Some hand → slice_get passes c ≡ Some (new_pass lock c) =
    λ c hand at. pass_at lock callers c passes are (let a = get_low new c hand at in omega arith) in
    record {
      many = many;
      passes = λ c hand at.
          let before = was c hand at in
          let more = dealt.each c (new_pass lock c) before.0 hand (pass c hand at) before.1 at in
          more.items ∙ (ap (λ (ps : List (Caller Told)). ps ++ new_pass lock c ∷ []) (filled.passes c before.0 before.1)
          ∙ sym (map-append (λ (l : Lock Told). new_pass l c) locks (lock ∷ [])));
      len = λ c hand at.
          let before = was c hand at in
          let more = dealt.each c (new_pass lock c) before.0 hand (pass c hand at) before.1 at in
          more.len ∙ (ap (λ (n : ℕ). n + 1) (filled.len c before.0 before.1) ∙ sym (length_push locks lock));
      fits = λ c hand at.
          let before = was c hand at in
          let more = dealt.each c (new_pass lock c) before.0 hand (pass c hand at) before.1 at in
          subst (λ (n : ℕ). room ≤ n) (sym more.room) (filled.fits c before.0 before.1);
    }

-- while fewer locks are dealt than there is room for, each hand has room
pub have_room : (locks : List (Lock Told)) (callers room : ℕ) (hands : List (Vec (Caller Told) Global)) → AreFilled locks callers room hands → length locks < room
    → All (λ hand. vec_len hand < vec_capacity hand) hands
have_room locks callers room hands filled few = from_places (λ (h : Vec (Caller Told) Global). vec_len h < vec_capacity h) hands
    (λ c hand at. let a = filled.len c hand at in let b = filled.fits c hand at in omega arith)

pub all_filled : (locks : List (Lock Told)) (callers room : ℕ) (hands : List (Vec (Caller Told) Global)) → AreFilled locks callers room hands → AreFreshHands locks callers hands
all_filled locks callers room hands filled = record { many = filled.many; each = filled.passes }
