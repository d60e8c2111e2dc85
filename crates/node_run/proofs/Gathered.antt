-- The threads of a life: the callers of all nodes and the feeds, one behind the other.
use Rattle.std.proofs.Common.{◌≡◌, ◌<◌, ◌+◌, ℕ, List, [], ◌∷◌, ◌++◌, length, length-append, map, take, append_assoc, sym, ap, subst, ◌∙◌}
use Rattle.std.specs.Global.{Vec}
use Rattle.std.specs.List.{AllZip}
use Rattle.std.specs.Prelude.{⊤, Option, get_or}
use Rattle.std.proofs.Math.Seq.{take-suc}
use Rattle.std.proofs.lemmas.Slice.Zip.{AllZip-long}
use Rattle.mix_base.specs.Suites.{SuiteMeaning}
use Rattle.mix_shard.specs.Items.{Item}
use Rattle.mix_shard.specs.declared.entries.Told.{Told}
use Rattle.turn_lock.specs.Seen.{Caller}
use Rattle.node_actors.proofs.Moving.{zip_snoc}
use Rattle.node_actors.specs.Acting.{Gives, passes_of}
use Rattle.node_actors.specs.Handing.{link_out}
use Rattle.node_actors.specs.Logging.{LeavesFeed}
use Rattle.node_actors.specs.declared.actors.crew.Feeder.{Feeder}
use Rattle.node_actors.specs.declared.actors.crew.NodeActor.{NodeActor}
use Rattle.node_actors.specs.declared.actors.crew.NodeActor.TheVariants.{Listens, Works, Connects, Keeps, Rotates, Ends, Feeds}
use Rattle.node_actors.specs.declared.actors.feeds.Feed.{Feed}
use Rattle.node_actors.specs.declared.actors.works.Left.{Left}
use Rattle.node_run.specs.Crews.{AddsFeeders, AreAllHands, AreAllLeft, AreCrew, AreFed, AreFeeders, AreHandsIn, AreLeftIn, IsFed, IsFeeder, IsHandOf, IsStaffOf}
use Rattle.node_run.specs.Halls.{fresh_passes}
use Rattle.node_run.specs.Houses.{IsDesk, node_of}
use Rattle.node_run.specs.Lefts.{Staffing}
use Rattle.node_run.specs.Parts.{Parted}
use Rattle.node_run.specs.Roles.{role_of}
use Rattle.node_run.specs.Staffs.{AddsStaff, AreStaff, IsStaff, staffing_of}
use Rattle.node_run.specs.declared.life.houses.House.{House}
use Rattle.node_run.specs.declared.life.opening.Desk.{Desk}
use Rattle.node_run.specs.declared.roles.Role.{Role}
use Rattle.node_run.specs.declared.roles.Role.TheVariants.{Listener, Worker, Keeper, Connector, Rotator, Spare}
use Rattle.node_run.proofs.Crewed.{left_of_staff, zipped_at}
use Rattle.node_run.proofs.Parts.{gets_rest, one_more, one_up, zip_join, zip_parts}

module _ {H R S N O C G K M D Z W : Type 0} where
  -- the actor of one feed more
  pub feeder_more : (feeds : List (Feed O)) (feed : Feed O) (first now more : List (NodeActor H R S N O C G K M D Z W)) (feeder : Feeder O) → AddsFeeders feeds first now
      → more ≡ now ++ Feeds feeder ∷ [] → feeder.feed ≡ feed → AddsFeeders (feeds ++ feed ∷ []) first more
  feeder_more feeds feed first now more feeder adds more_is is = record {
    added = adds.added ++ Feeds feeder ∷ [];
    new_is = more_is ∙ ap (λ (xs : List (NodeActor H R S N O C G K M D Z W)). xs ++ Feeds feeder ∷ []) adds.new_is ∙ append_assoc first adds.added (Feeds feeder ∷ []);
    are = zip_snoc IsFeeder feeds adds.added feed (Feeds feeder) adds.are is;
  }

  -- as many more as there are feeds
  pub crew_many : (feeds : List (Feed O)) (first all : List (NodeActor H R S N O C G K M D Z W)) → AddsFeeders feeds first all → length all ≡ length first + length feeds
  crew_many feeds first all adds =
      ap (λ (xs : List (NodeActor H R S N O C G K M D Z W)). length xs) adds.new_is ∙ length-append first adds.added
      ∙ ap (λ (n : ℕ). length first + n) (AllZip-long IsFeeder feeds adds.added adds.are)

module _ {H R S N O C G K M D Z W : Type 0} (suite : SuiteMeaning) (may_give : C → ℕ → Type 0) (left : N → Option (List ℕ)) (in_faults : N → ℕ)
    (given : O → Option (List (List ℕ))) (out_faults : O → ℕ) (clock : C) where
  -- the actors of one node more
  pub adds_house : (houses : List (House R S N O K M D Z W)) (i : ℕ) (house : (House R S N O K M D Z W)) (desk : Desk R S N O K M D Z W) (old new : List (NodeActor H R S N O C G K M D Z W)) → i < length houses → house ≡ get_or houses i house → IsDesk house desk
      → Parted (IsStaffOf suite may_give left in_faults given out_faults clock) (λ rest. rest ≡ []) (take i houses) old
      → AddsStaff suite may_give left in_faults given out_faults (staffing_of house.hall desk.incoming.value.items desk.outgoing.value.items clock) old new
      → Parted (IsStaffOf suite may_give left in_faults given out_faults clock) (λ rest. rest ≡ []) (take (i + 1) houses) new
  adds_house houses i house desk old new low is of_desk staffed adds =
      let ins : AreStaff suite may_give left in_faults given out_faults (staffing_of house.hall house.incoming.value.items desk.outgoing.value.items clock) adds.staff =
      subst (λ (xs : List N). AreStaff suite may_give left in_faults given out_faults (staffing_of house.hall xs desk.outgoing.value.items clock) adds.staff) of_desk.incoming_are adds.are in
      let own : IsStaffOf suite may_give left in_faults given out_faults clock house adds.staff =
      subst (λ (xs : List (List ℕ × O)). AreStaff suite may_give left in_faults given out_faults (staffing_of house.hall house.incoming.value.items xs clock) adds.staff) of_desk.outgoing_are ins in
      let taken : take (i + 1) houses ≡ take i houses ++ house ∷ [] = ap (λ (n : ℕ). take n houses) (sym (one_up i)) ∙ take-suc houses i house low ∙ ap (λ (h : (House R S N O K M D Z W)). take i houses ++ h ∷ []) (sym is) in
      subst (λ (hs : List (House R S N O K M D Z W)). Parted (IsStaffOf suite may_give left in_faults given out_faults clock) (λ rest. rest ≡ []) hs new) (sym taken)
      (subst (λ (xs : List (NodeActor H R S N O C G K M D Z W)). Parted (IsStaffOf suite may_give left in_faults given out_faults clock) (λ rest. rest ≡ []) (take i houses ++ house ∷ []) xs) (sym adds.new_is) (one_more (IsStaffOf suite may_give left in_faults given out_faults clock) (take i houses) old adds.staff house staffed own))

  -- the actors of all nodes, and behind them those of the feeds
  pub are_crew : (houses : List (House R S N O K M D Z W)) (feeds : List (Feed O)) (staff all : List (NodeActor H R S N O C G K M D Z W)) → Parted (IsStaffOf suite may_give left in_faults given out_faults clock) (λ rest. rest ≡ []) houses staff → AddsFeeders feeds staff all
      → AreCrew suite may_give left in_faults given out_faults clock houses feeds all
  are_crew houses feeds staff all staffed adds =
      subst (λ (xs : List (NodeActor H R S N O C G K M D Z W)). Parted (IsStaffOf suite may_give left in_faults given out_faults clock) (AreFeeders feeds) houses xs) (sym adds.new_is) (gets_rest (IsStaffOf suite may_give left in_faults given out_faults clock) (AreFeeders feeds) houses staff adds.added staffed adds.are)

  -- ---- what they leave

  fed_of : (feed : Feed O) (actor : (NodeActor H R S N O C G K M D Z W)) (gave : Left (Caller Told) Item N O) → IsFeeder feed actor → Gives suite may_give left in_faults given out_faults actor gave → IsFed given out_faults feed gave
  fed_of feed (Feeds feeder) gave is gives =
      subst (λ (f : Feed O). LeavesFeed given out_faults (map (λ packet. packet.items) f.packets.items) (link_out given out_faults f.link) gave.passes.items gave.work) is gives
  fed_of feed (Listens listener) gave is gives = absurd is
  fed_of feed (Works worker) gave is gives = absurd is
  fed_of feed (Connects connector) gave is gives = absurd is
  fed_of feed (Keeps keeper) gave is gives = absurd is
  fed_of feed (Rotates rotator) gave is gives = absurd is
  fed_of feed (Ends spare) gave is gives = absurd is

  pub all_left : (houses : List (House R S N O K M D Z W)) (feeds : List (Feed O)) (actors : List (NodeActor H R S N O C G K M D Z W)) (lefts : List (Left (Caller Told) Item N O))
      → AreCrew suite may_give left in_faults given out_faults clock houses feeds actors → AllZip (Gives suite may_give left in_faults given out_faults) actors lefts
      → AreAllLeft suite may_give left in_faults given out_faults clock houses feeds lefts
  all_left houses feeds actors lefts are gives =
      zip_parts (Gives suite may_give left in_faults given out_faults) (IsStaffOf suite may_give left in_faults given out_faults clock) (AreFeeders feeds) (AreLeftIn suite may_give left in_faults given out_faults clock) (AreFed given out_faults feeds)
      (λ house own of_own are_own gives_own. left_of_staff suite may_give left in_faults given out_faults (node_of clock house) own of_own are_own gives_own)
      (λ own of_own are_own gives_own. zip_join IsFeeder (Gives suite may_give left in_faults given out_faults) (IsFed given out_faults) fed_of feeds own of_own are_own gives_own)
      houses actors lefts are gives

  -- ---- their passes, where none was run

  -- a caller's passes, as they were made
  passes_by : (node : Staffing N O C) (role : Role) (caller : ℕ) (actor : (NodeActor H R S N O C G K M D Z W)) → IsStaff suite may_give left in_faults given out_faults node role caller actor
      → passes_of actor ≡ fresh_passes node.hall.locks caller
  passes_by node (Listener place) caller (Listens listener) is = ap (λ d. d.seat.passes) is.2.dealer
  passes_by node (Listener place) caller (Works worker) is = absurd is
  passes_by node (Listener place) caller (Connects connector) is = absurd is
  passes_by node (Listener place) caller (Keeps keeper) is = absurd is
  passes_by node (Listener place) caller (Rotates rotator) is = absurd is
  passes_by node (Listener place) caller (Ends spare) is = absurd is
  passes_by node (Listener place) caller (Feeds feeder) is = absurd is
  passes_by node (Worker place) caller (Works worker) is = ap (λ d. d.seat.passes) is.dealer
  passes_by node (Worker place) caller (Listens listener) is = absurd is
  passes_by node (Worker place) caller (Connects connector) is = absurd is
  passes_by node (Worker place) caller (Keeps keeper) is = absurd is
  passes_by node (Worker place) caller (Rotates rotator) is = absurd is
  passes_by node (Worker place) caller (Ends spare) is = absurd is
  passes_by node (Worker place) caller (Feeds feeder) is = absurd is
  passes_by node Keeper caller (Keeps keeper) is = ap (λ k. k.taker.seat.passes) is
  passes_by node Keeper caller (Listens listener) is = absurd is
  passes_by node Keeper caller (Works worker) is = absurd is
  passes_by node Keeper caller (Connects connector) is = absurd is
  passes_by node Keeper caller (Rotates rotator) is = absurd is
  passes_by node Keeper caller (Ends spare) is = absurd is
  passes_by node Keeper caller (Feeds feeder) is = absurd is
  passes_by node (Connector place) caller (Connects connector) is = ap (λ k. k.taker.seat.passes) is.2
  passes_by node (Connector place) caller (Listens listener) is = absurd is
  passes_by node (Connector place) caller (Works worker) is = absurd is
  passes_by node (Connector place) caller (Keeps keeper) is = absurd is
  passes_by node (Connector place) caller (Rotates rotator) is = absurd is
  passes_by node (Connector place) caller (Ends spare) is = absurd is
  passes_by node (Connector place) caller (Feeds feeder) is = absurd is
  passes_by node Rotator caller (Rotates rotator) is = ap (λ r. r.seat.passes) is
  passes_by node Rotator caller (Listens listener) is = absurd is
  passes_by node Rotator caller (Works worker) is = absurd is
  passes_by node Rotator caller (Connects connector) is = absurd is
  passes_by node Rotator caller (Keeps keeper) is = absurd is
  passes_by node Rotator caller (Ends spare) is = absurd is
  passes_by node Rotator caller (Feeds feeder) is = absurd is
  passes_by node Spare caller (Ends spare) is = ap (λ s. s.passes) is
  passes_by node Spare caller (Listens listener) is = absurd is
  passes_by node Spare caller (Works worker) is = absurd is
  passes_by node Spare caller (Connects connector) is = absurd is
  passes_by node Spare caller (Keeps keeper) is = absurd is
  passes_by node Spare caller (Rotates rotator) is = absurd is
  passes_by node Spare caller (Feeds feeder) is = absurd is

  own_hands : (house : (House R S N O K M D Z W)) (own : List (NodeActor H R S N O C G K M D Z W)) (hands : List (Vec (Caller Told))) → IsStaffOf suite may_give left in_faults given out_faults clock house own → AllZip IsHandOf own hands → AreHandsIn house hands
  own_hands house own hands are all = record {
    many = AllZip-long IsHandOf own hands all ∙ are.many;
    each = λ caller hand at.
        let one = zipped_at IsHandOf own hands all caller hand at in
        one.2 ∙ passes_by (node_of clock house) (role_of (length house.incoming.value.items) (length house.hall.queues) (length house.outgoing.value.items) caller) caller one.0 (are.each caller one.0 one.1);
  }

  pub all_hands : (houses : List (House R S N O K M D Z W)) (feeds : List (Feed O)) (actors : List (NodeActor H R S N O C G K M D Z W)) (hands : List (Vec (Caller Told)))
      → AreCrew suite may_give left in_faults given out_faults clock houses feeds actors → AllZip IsHandOf actors hands → AreAllHands houses hands
  all_hands houses feeds actors hands are all =
      zip_parts IsHandOf (IsStaffOf suite may_give left in_faults given out_faults clock) (AreFeeders feeds) AreHandsIn (λ _. ⊤) own_hands (λ own of_own are_own all_own. tt) houses actors hands are all
