-- The nodes of a life are opened one after the other, the last first, or come back.
use Rattle.std.proofs.Common.{◌≡◌, ◌<◌, ◌≤◌, ◌+◌, ℕ, suc, List, [], ◌∷◌, ◌++◌, length, map, reverse, refl, sym, ap, subst, ◌∙◌, arith}
use Rattle.std.specs.Prelude.{All}
use Rattle.std.specs.Global.{Vec}
use Rattle.std.specs.List.{AllZip}
use Rattle.std.proofs.lemmas.List.{map-append, reverse-append}
use Rattle.std.proofs.lemmas.List.Sums.{sum_by-cons}
use Rattle.mix_base.specs.Suites.{SuiteMeaning}
use Rattle.epoch_keys.specs.Epochs.{EpochTimes}
use Rattle.packet_form.specs.Geometry.{Sizes}
use Rattle.mix_shard.specs.Items.{setup_of}
use Rattle.mix_shard.specs.Shards.{ShardState}
use Rattle.mix_shard.specs.declared.entries.Told.{Told}
use Rattle.mix_shard.specs.declared.setup.Setup.{Setup}
use Rattle.turn_lock.proofs.Lists.{all_cons}
use Rattle.turn_lock.specs.Seen.{Lock}
use Rattle.node_run.specs.Crews.{callers_in, staff_in}
use Rattle.node_run.specs.Ends.{AreBack}
use Rattle.node_run.specs.Houses.{IsHouse, IsStanding, kept_in}
use Rattle.node_run.specs.Openings.{IsHallOver, tale_behind, tale_of}
use Rattle.node_run.specs.Roles.{callers_for}
use Rattle.node_run.specs.Rooms.{HasRoom, IsRoomFor}
use Rattle.node_run.specs.Seats.{CanLive, callers_with, kept_of, setup_in}
use Rattle.node_run.specs.declared.life.houses.House.{House}
use Rattle.node_run.specs.declared.life.rooms.Rooms.{Rooms}
use Rattle.node_run.specs.declared.life.seats.NodeSeat.{NodeSeat}
use Rattle.node_run.proofs.Hallways.{same_many}

-- room for numbers that are the same
pub room_as : {Q T P N O : Type 0} (rooms : Rooms Q T P N O) (a b c d e v w x y z : ℕ) → a ≡ v → b ≡ w → c ≡ x → d ≡ y → e ≡ z
    → IsRoomFor a b c d e rooms → IsRoomFor v w x y z rooms
room_as rooms a b c d e v w x y z one two three four five is =
    subst (λ n. IsRoomFor n w x y z rooms) one (subst (λ n. IsRoomFor a n x y z rooms) two (subst (λ n. IsRoomFor a b n y z rooms) three
    (subst (λ n. IsRoomFor a b c n z rooms) four (subst (λ n. IsRoomFor a b c d n rooms) five is))))

pub has_room_as : {A : Type 0} (list : Vec A) (m n : ℕ) → m ≡ n → HasRoom m list → HasRoom n list
has_room_as list m n same is = subst (λ (k : ℕ). HasRoom k list) same is

-- and so is room for fewer
pub has_room_for_fewer : {A : Type 0} (list : Vec A) (m n : ℕ) → n ≤ m → HasRoom m list → HasRoom n list
has_room_for_fewer list m n low is = record { empty = is.empty; room = omega (arith, low, is.room) }

module _ {R S N O K M D Z W : Type 0} where
  -- what was opened for a seat is its house
  pub house_is : (ct workers : ℕ) (seat : NodeSeat R S N O K M D Z W) (house : House R S N O K M D Z W) → CanLive ct workers seat
      → IsHallOver (setup_in seat) seat.shards.items (callers_with workers seat) workers house.hall
      → house.incoming.value.items ≡ seat.incoming.items → house.outgoing.value.items ≡ seat.outgoing.items
      → IsRoomFor (length seat.shards.items) (callers_with workers seat) (length seat.incoming.items) workers (length seat.outgoing.items) house.rooms
      → HasRoom (callers_with workers seat) house.lefts → HasRoom (callers_with workers seat) house.hands → IsHouse ct workers seat house
  house_is ct workers seat house can over incoming outgoing room lefts hands =
      let ins : length seat.incoming.items ≡ length house.incoming.value.items = ap (λ (xs : List N). length xs) (sym incoming) in
      let outs : length seat.outgoing.items ≡ length house.outgoing.value.items = ap (λ (xs : List (List ℕ × O)). length xs) (sym outgoing) in
      let callers = sym over.callers_are in
      record {
        stands = record {
          callers_are = over.callers_are ∙ ap (λ n. callers_for n workers (length seat.outgoing.items)) ins
              ∙ ap (λ n. callers_for (length house.incoming.value.items) n (length seat.outgoing.items)) (sym over.queues)
              ∙ ap (λ n. callers_for (length house.incoming.value.items) (length house.hall.queues) n) outs;
          working = subst (λ (n : ℕ). 0 < n) (sym over.queues) can.opens.working;
          ciphertext_is = ap (λ (s : Setup). s.geometry.ct) over.setup_is ∙ can.ciphertext_is;
          room = room_as house.rooms (length seat.shards.items) (callers_with workers seat) (length seat.incoming.items) workers (length seat.outgoing.items)
              (length house.hall.locks) house.hall.callers (length house.incoming.value.items) (length house.hall.queues) (length house.outgoing.value.items)
              (sym (same_many seat.shards.items house.hall.locks over.tales)) callers ins (sym over.queues) outs room;
          lefts = has_room_as house.lefts (callers_with workers seat) house.hall.callers callers lefts;
          hands = has_room_as house.hands (callers_with workers seat) house.hall.callers callers hands;
        };
        over = over;
        incoming_are = incoming;
        outgoing_are = outgoing;
      }

  -- what is left of it is what is left of the seat
  pub house_keeps : (ct workers : ℕ) (seat : NodeSeat R S N O K M D Z W) (house : House R S N O K M D Z W) → IsHouse ct workers seat house → kept_in house ≡ kept_of seat
  house_keeps ct workers seat house is =
      ap (λ (s : Setup). (s, map tale_behind house.hall.locks)) is.over.setup_is ∙ ap (λ (ts : List (List (List ℕ) × List Told)). (setup_in seat, ts)) is.over.tales

  pub houses_keep : (ct workers : ℕ) (seats : List (NodeSeat R S N O K M D Z W)) (houses : List (House R S N O K M D Z W)) → AllZip (IsHouse ct workers) seats houses
      → map kept_in houses ≡ map kept_of seats
  houses_keep ct workers [] [] all = refl
  houses_keep ct workers [] (house ∷ houses) all = absurd all
  houses_keep ct workers (seat ∷ seats) [] all = absurd all
  houses_keep ct workers (seat ∷ seats) (house ∷ houses) all =
      ap (λ (k : Setup × List (List (List ℕ) × List Told)). k ∷ map kept_in houses) (house_keeps ct workers seat house all.0)
      ∙ ap (λ (ks : List (Setup × List (List (List ℕ) × List Told))). kept_of seat ∷ ks) (houses_keep ct workers seats houses all.1)

  pub houses_stand : (ct workers : ℕ) (seats : List (NodeSeat R S N O K M D Z W)) (houses : List (House R S N O K M D Z W)) → AllZip (IsHouse ct workers) seats houses
      → All (IsStanding ct) houses
  houses_stand ct workers [] [] all = λ k d low. absurd (omega (arith, low))
  houses_stand ct workers [] (house ∷ houses) all = absurd all
  houses_stand ct workers (seat ∷ seats) [] all = absurd all
  houses_stand ct workers (seat ∷ seats) (house ∷ houses) all = all_cons (IsStanding ct) house houses all.0.stands (houses_stand ct workers seats houses all.1)

  -- as many houses as threads were counted for
  pub staff_counted : (ct workers : ℕ) (seats : List (NodeSeat R S N O K M D Z W)) (houses : List (House R S N O K M D Z W)) → AllZip (IsHouse ct workers) seats houses
      → callers_in workers seats ≡ staff_in houses
  staff_counted ct workers [] [] all = refl
  staff_counted ct workers [] (house ∷ houses) all = absurd all
  staff_counted ct workers (seat ∷ seats) [] all = absurd all
  staff_counted ct workers (seat ∷ seats) (house ∷ houses) all =
      sum_by-cons (callers_with workers) seat seats ∙ ap (λ (n : ℕ). n + callers_in workers seats) (sym all.0.over.callers_are)
      ∙ ap (λ (n : ℕ). house.hall.callers + n) (staff_counted ct workers seats houses all.1) ∙ sym (sum_by-cons (λ house. house.hall.callers) house houses)

-- shards that came back have the tales that were behind the locks
pub tales_back : (tells : Type 0) (suite : SuiteMeaning) (locks : List (Lock Told)) (shards : List ShardState) → AreBack tells suite locks shards
    → map tale_of shards ≡ map tale_behind locks
tales_back tells suite [] [] back = refl
tales_back tells suite [] (shard ∷ shards) back = absurd (omega (arith, back.many))
tales_back tells suite (lock ∷ locks) [] back = absurd (omega (arith, back.many))
tales_back tells suite (lock ∷ locks) (shard ∷ shards) back =
    let first = back.each 0 lock shard refl refl in
    let rest = tales_back tells suite locks shards (record { many = omega (arith, back.many); each = λ i l s l_is s_is. back.each (suc i) l s l_is s_is }) in
    ap (λ (o : List (List ℕ)). (o, shard.told) ∷ map tale_of shards) first.origin ∙ ap (λ (t : List Told). (lock.origin, t) ∷ map tale_of shards) first.told
    ∙ ap (λ (ts : List (List (List ℕ) × List Told)). tale_behind lock ∷ ts) rest

-- a setup by its parts
pub setup_same : (geo : Sizes) (times : EpochTimes) (seed : List ℕ) (setup : Setup) → (geo ≡ setup.geometry) × (times ≡ setup.times) × (seed ≡ setup.seed)
    → setup_of geo times seed ≡ setup
setup_same geo times seed setup same =
    ap (λ g. setup_of g times seed) same.0 ∙ ap (λ t. setup_of setup.geometry t seed) same.1 ∙ ap (λ s. setup_of setup.geometry setup.times s) same.2

-- ---- two lists from their ends

module _ {X Y : Type 0} (P : X → Y → Type 0) where
  -- the first of the reversed lists
  pub ends_zip : (xs new : List X) (x : X) (ys left : List Y) (y : Y) → xs ≡ new ++ x ∷ [] → ys ≡ left ++ y ∷ [] → AllZip P (reverse xs) (reverse ys)
      → P x y × AllZip P (reverse new) (reverse left)
  ends_zip xs new x ys left y xs_are ys_are all =
      subst (λ (zs : List Y). AllZip P (x ∷ reverse new) zs) (ap (λ (zs : List Y). reverse zs) ys_are ∙ reverse-append left (y ∷ []))
      (subst (λ (zs : List X). AllZip P zs (reverse ys)) (ap (λ (zs : List X). reverse zs) xs_are ∙ reverse-append new (x ∷ [])) all)

  -- neither ends before the other
  pub both_end : (xs new : List X) (x : X) (ys : List Y) → xs ≡ new ++ x ∷ [] → ys ≡ [] → AllZip P (reverse xs) (reverse ys) → ⊥
  both_end xs new x ys xs_are none all =
      absurd (subst (λ (zs : List Y). AllZip P (x ∷ reverse new) (reverse zs)) none
      (subst (λ (zs : List X). AllZip P zs (reverse ys)) (ap (λ (zs : List X). reverse zs) xs_are ∙ reverse-append new (x ∷ [])) all))

  -- one more of each
  pub grows_zip : (xs more : List X) (x : X) (ys others : List Y) (y : Y) → more ≡ xs ++ x ∷ [] → others ≡ ys ++ y ∷ [] → P x y → AllZip P (reverse xs) (reverse ys)
      → AllZip P (reverse more) (reverse others)
  grows_zip xs more x ys others y more_is others_are is all =
      subst (λ (zs : List Y). AllZip P (reverse more) zs) (sym (ap (λ (zs : List Y). reverse zs) others_are ∙ reverse-append ys (y ∷ [])))
      (subst (λ (zs : List X). AllZip P zs (y ∷ reverse ys)) (sym (ap (λ (zs : List X). reverse zs) more_is ∙ reverse-append xs (x ∷ []))) (is, all))

  -- one more of the second alone, where the first grows at its front
  pub fronts_zip : (xs : List X) (x : X) (ys others : List Y) (y : Y) → others ≡ ys ++ y ∷ [] → P x y → AllZip P xs (reverse ys) → AllZip P (x ∷ xs) (reverse others)
  fronts_zip xs x ys others y others_are is all =
      subst (λ (zs : List Y). AllZip P (x ∷ xs) zs) (sym (ap (λ (zs : List Y). reverse zs) others_are ∙ reverse-append ys (y ∷ []))) (is, all)

-- ---- a refusal halfway

-- those that were opened come back behind the one that wasn't
pub back_again : {X V Y : Type 0} (kept : X → V) (keeps : Y → V) (all new met seats : List X) (x back : X) (houses : List Y) → all ≡ (new ++ x ∷ []) ++ met → kept back ≡ kept x
    → map keeps houses ≡ map kept met → map kept seats ≡ map kept (new ++ back ∷ []) ++ map keeps houses → map kept seats ≡ map kept all
back_again {X} {V} kept keeps all new met seats x back houses all_are same met_same are =
    are ∙ ap (λ (vs : List V). map kept (new ++ back ∷ []) ++ vs) met_same
    ∙ ap (λ (vs : List V). vs ++ map kept met) (map-append kept new (back ∷ []) ∙ ap (λ (v : V). map kept new ++ v ∷ []) same ∙ sym (map-append kept new (x ∷ [])))
    ∙ sym (map-append kept (new ++ x ∷ []) met) ∙ ap (λ (xs : List X). map kept xs) (sym all_are)

-- one more of both
pub keeps_more : {X V Y : Type 0} (kept : X → V) (keeps : Y → V) (xs more : List X) (x : X) (ys : List Y) (y : Y) → map kept xs ≡ map keeps ys → more ≡ xs ++ x ∷ []
    → kept x ≡ keeps y → map kept more ≡ map keeps (ys ++ y ∷ [])
keeps_more {X} {V} kept keeps xs more x ys y same more_is is =
    ap (λ (zs : List X). map kept zs) more_is ∙ map-append kept xs (x ∷ []) ∙ ap (λ (vs : List V). vs ++ kept x ∷ []) same ∙ ap (λ (v : V). map keeps ys ++ v ∷ []) is
    ∙ sym (map-append keeps ys (y ∷ []))
