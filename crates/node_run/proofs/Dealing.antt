-- Cards are dealt to hands, one to each.
use Rattle.std.proofs.Common.{◌≡◌, ◌<◌, ◌≤◌, ◌+◌, ℕ, List, length, get_or, sym, ap, subst, ◌∙◌, arith, Some}
use Rattle.std.specs.Prelude.{slice_get, slice_set, Vec}
use Rattle.std.specs.declared.alloc.Global.{Global}
use Rattle.std.proofs.lemmas.List.{length-set}
use Rattle.std.proofs.lemmas.Option.{slice_get-get_or}
use Rattle.node_run.specs.Openings.{HasOneMore}
use Rattle.node_actors.proofs.Seating.{get_set_cases, some_same}

-- the hands below this place have got their card, and the others are as they were
pub record AreDealtBelow {A : Type 0} (cards : List A) (was now : List (Vec A Global)) (place : ℕ) : Type 0 where
  pub many : length now ≡ length was
  pub dealt : (i : ℕ) (card : A) (old new : Vec A Global) → i < place → slice_get cards i ≡ Some card → slice_get was i ≡ Some old → slice_get now i ≡ Some new
      → HasOneMore card old new
  pub same : (i : ℕ) (hand : Vec A Global) → place ≤ i → slice_get now i ≡ Some hand → slice_get was i ≡ Some hand

pub one_more_dealt : {A : Type 0} (cards : List A) (was now : List (Vec A Global)) (place : ℕ) (card : A) (old new : Vec A Global) → AreDealtBelow cards was now place
    → place < length now → slice_get cards place ≡ Some card → old ≡ get_or now place old → HasOneMore card old new → AreDealtBelow cards was (slice_set now place new) (place + 1)
one_more_dealt {A = A} cards was now place card old new below low card_at there more =
    let at : slice_get now place ≡ Some old = slice_get-get_or now place old low ∙ ap Some (sym there) in
    record {
      many = length-set now place new ∙ below.many;
      dealt = λ i one first last few one_at first_at last_at. get_set_cases (λ (hand : Vec A Global). HasOneMore one first hand) now place i new last last_at
          (λ here.
          let is_card : card ≡ one = some_same card one (sym card_at ∙ (ap (λ (n : ℕ). slice_get cards n) (sym here) ∙ one_at)) in
          let is_old : old ≡ first =
          some_same old first (sym (below.same place old (omega arith) at) ∙ (ap (λ (n : ℕ). slice_get was n) (sym here) ∙ first_at)) in
          subst (λ (x : A). HasOneMore x first new) is_card (subst (λ (hand : Vec A Global). HasOneMore card hand new) is_old more))
          (λ other still. below.dealt i one first last (omega arith) one_at first_at still);
      same = λ i hand low hand_at. get_set_cases (λ (one : Vec A Global). slice_get was i ≡ Some one) now place i new hand hand_at
          (λ here. absurd (omega arith))
          (λ other still. below.same i hand (omega arith) still);
    }
