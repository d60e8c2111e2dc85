-- What a life promises, from the houses of its nodes.
use Rattle.std.proofs.Common.{◌≡◌, ◌<◌, ◌+◌, ◌≤◌, ℕ, List, [], ◌∷◌, length, map, refl, sym, ap, subst, ◌∙◌, arith}
use Rattle.std.specs.Prelude.{All, IfErr, IfOk, Option, Result, Ok, Err}
use Rattle.std.specs.List.{AllZip}
use Rattle.std.proofs.lemmas.Slice.Zip.{AllZip-long}
use Rattle.mix_base.specs.Suites.{SuiteMeaning}
use Rattle.mix_shard.specs.declared.setup.Setup.{Setup}
use Rattle.packet_form.specs.Geometry.{packet}
use Rattle.turn_lock.proofs.Lists.{all_cons}
use Rattle.node_run.specs.Crews.{callers_in, staff_in}
use Rattle.node_run.specs.Houses.{IsHouse, node_of}
use Rattle.node_run.specs.Partings.{HasServed}
use Rattle.node_run.specs.Promises.{HasArrivals, HasGivenBack, HasHandOns, HasLife, HasMoments, HasMoves, HasRest, IsNodeOf}
use Rattle.node_run.specs.declared.life.houses.House.{House}
use Rattle.node_run.specs.declared.life.seats.NodeEnd.{NodeEnd}
use Rattle.node_run.specs.declared.life.seats.NodeSeat.{NodeSeat}
use Rattle.node_run.proofs.Parts.{zip_join}
use Rattle.node_run.proofs.Streets.{staff_counted}

-- what holds of each of the second ones
zip_all : {X Y : Type 0} (P : X → Y → Type 0) (Q : Y → Type 0) → ((x : X) (y : Y) → P x y → Q y) → (xs : List X) (ys : List Y) → AllZip P xs ys → All Q ys
zip_all P Q so [] [] all = λ k y low. absurd (omega (arith, low))
zip_all P Q so [] (y ∷ ys) all = absurd all
zip_all P Q so (x ∷ xs) [] all = absurd all
zip_all P Q so (x ∷ xs) (y ∷ ys) all = all_cons Q y ys (so x y all.0) (zip_all P Q so xs ys all.1)

-- one fact of a result from another
pub ok_so : {A B : Type 0} (P Q : A → Type 0) → ((a : A) → P a → Q a) → (r : Result A B) → IfOk r P → IfOk r Q
ok_so P Q so (Ok a) is = so a is
ok_so P Q so (Err b) is = tt

pub err_so : {A B : Type 0} (P Q : B → Type 0) → ((b : B) → P b → Q b) → (r : Result A B) → IfErr r P → IfErr r Q
err_so P Q so (Ok a) is = tt
err_so P Q so (Err b) is = so b is

module _ {R S N O K M D Z W : Type 0} (ct workers : ℕ) where
  -- there are threads enough for all callers and feeds
  pub threads_fit : (seats : List (NodeSeat R S N O K M D Z W)) (houses : List (House R S N O K M D Z W)) (feeds threads : ℕ) → AllZip (IsHouse ct workers) seats houses
      → threads ≡ callers_in workers seats + feeds → staff_in houses + feeds ≤ threads
  threads_fit seats houses feeds threads opens is = omega (arith, staff_counted ct workers seats houses opens, is)

  pub as_many_houses : (seats : List (NodeSeat R S N O K M D Z W)) (houses : List (House R S N O K M D Z W)) → AllZip (IsHouse ct workers) seats houses → length seats ≡ length houses
  as_many_houses seats houses opens = sym (AllZip-long (IsHouse ct workers) seats houses opens)

module _ {R S N O K M D Z W C : Type 0} (ct workers : ℕ) where
  -- the node of a house is the node of its seat
  node_is : (clock : C) (seat : NodeSeat R S N O K M D Z W) (house : House R S N O K M D Z W) → IsHouse ct workers seat house → IsNodeOf workers clock seat (node_of clock house)
  node_is clock seat house is = record {
    setup_is = is.over.setup_is;
    tales_are = is.over.tales;
    callers_are = is.over.callers_are;
    size_is = ap (λ (s : Setup). packet s.geometry) is.over.setup_is;
    clock_is = refl;
    workers_are = is.over.queues;
    incoming_are = is.incoming_are;
    outgoing_are = is.outgoing_are;
  }

  module _ (tells : Type 0) (suite : SuiteMeaning) (may_give : C → ℕ → Type 0) (left : N → Option (List ℕ)) (in_faults : N → ℕ) (given : O → Option (List (List ℕ)))
      (out_faults : O → ℕ) (clock : C) (seats : List (NodeSeat R S N O K M D Z W)) (houses : List (House R S N O K M D Z W)) (ends : List (NodeEnd R S N O K M D Z W))
      (opens : AllZip (IsHouse ct workers) seats houses)
      (served : AllZip (λ house end. HasServed tells suite may_give left in_faults given out_faults (node_of clock house) end) houses ends) where
    abbrev ServedBy : House R S N O K M D Z W → NodeEnd R S N O K M D Z W → Type 0
    ServedBy house end = HasServed tells suite may_give left in_faults given out_faults (node_of clock house) end

    pub all_life : AllZip (HasLife workers clock tells suite) seats ends
    all_life =
        zip_join (IsHouse ct workers) ServedBy (HasLife workers clock tells suite)
        (λ seat house end is has. record { node = node_of clock house; is = node_is clock seat house is; kept = has.served.lives }) seats houses ends opens served

    pub all_arrivals : AllZip (HasArrivals workers clock suite left in_faults) seats ends
    all_arrivals =
        zip_join (IsHouse ct workers) ServedBy (HasArrivals workers clock suite left in_faults)
        (λ seat house end is has. record { node = node_of clock house; is = node_is clock seat house is; kept = has.served.arrivals }) seats houses ends opens served

    pub all_moves : AllZip (HasMoves workers clock) seats ends
    all_moves =
        zip_join (IsHouse ct workers) ServedBy (HasMoves workers clock)
        (λ seat house end is has. record { node = node_of clock house; is = node_is clock seat house is; kept = has.served.moves }) seats houses ends opens served

    pub all_hand_ons : AllZip (HasHandOns workers clock tells suite given out_faults) seats ends
    all_hand_ons =
        zip_join (IsHouse ct workers) ServedBy (HasHandOns workers clock tells suite given out_faults)
        (λ seat house end is has. record { node = node_of clock house; is = node_is clock seat house is; kept = has.served.hand_ons }) seats houses ends opens served

    pub all_moments : AllZip (HasMoments workers clock may_give) seats ends
    all_moments =
        zip_join (IsHouse ct workers) ServedBy (HasMoments workers clock may_give)
        (λ seat house end is has. record { node = node_of clock house; is = node_is clock seat house is; kept = has.served.moments }) seats houses ends opens served

    pub all_rest : All (HasRest tells) ends
    all_rest = zip_all ServedBy (HasRest tells) (λ house end has. has.served.rests) houses ends served

    pub all_back : All HasGivenBack ends
    all_back = zip_all ServedBy HasGivenBack (λ house end has. has.gives_back) houses ends served
