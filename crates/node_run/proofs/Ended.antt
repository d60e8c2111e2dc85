-- The nodes and feeds of a life that has ended, by what its threads left.
use Rattle.std.proofs.Common.{◌≡◌, ℕ, List, [], ◌∷◌, ◌++◌, length, map, refl, sym, subst, ◌∙◌}
use Rattle.std.specs.Prelude.{All, Option}
use Rattle.mix_base.specs.Suites.{SuiteMeaning}
use Rattle.mix_shard.specs.Items.{Item}
use Rattle.mix_shard.specs.declared.entries.Told.{Told}
use Rattle.turn_lock.specs.Seen.{Caller}
use Rattle.node_actors.specs.Handing.{link_out}
use Rattle.node_actors.specs.Logging.{LeavesFeed}
use Rattle.node_actors.specs.declared.actors.feeds.Feed.{Feed}
use Rattle.node_actors.specs.declared.actors.works.Left.{Left}
use Rattle.node_actors.specs.declared.actors.works.Work.{Work}
use Rattle.node_actors.specs.declared.actors.works.Work.TheVariants.{Fed}
use Rattle.mix_shard.specs.Shards.{IsKept, ShardState}
use Rattle.node_run.specs.Accounts.{hands_of}
use Rattle.node_run.specs.Closings.{AreClosed}
use Rattle.node_run.specs.Crews.{AreFed, AreLeftIn, HasLink, IsFed, IsFeed}
use Rattle.node_run.specs.Ends.{CanEnd, IsEnd}
use Rattle.node_run.specs.Gatherings.{all_of, link_in, link_out_in, receiver_in, senders_in}
use Rattle.node_run.specs.Halls.{IsHall}
use Rattle.node_run.specs.Houses.{IsStanding, node_of}
use Rattle.node_run.specs.Partings.{HasServed, IsFedBy}
use Rattle.node_run.specs.Parts.{BeginsWith}
use Rattle.node_run.specs.Rooms.{IsRoomFor}
use Rattle.node_run.specs.Served.{Served}
use Rattle.node_run.specs.Settlings.{AreAllPopped}
use Rattle.node_run.specs.declared.life.houses.House.{House}
use Rattle.node_run.specs.declared.life.seats.NodeEnd.{NodeEnd}
use Rattle.node_run.proofs.Leftovers.{HasSizes, are_settled, can_end, many_links, many_outs, many_receivers}
use Rattle.node_run.proofs.Parts.{own_part}
use Rattle.node_run.proofs.Serving.{served}
use Rattle.node_run.proofs.Streets.{room_as}

module _ {N O : Type 0} (given : O → Option (List (List ℕ))) (faults : O → ℕ) where
  -- what a feed left has a link
  fed_link : (feed : Feed O) (passes : List (Caller Told)) (work : Work Item N O)
      → LeavesFeed given faults (map (λ packet. packet.items) feed.packets.items) (link_out given faults feed.link) passes work → (link : O) × (work ≡ Fed link)
  fed_link feed passes (Fed link) is = (link, refl)
  fed_link feed passes _ is = absurd is

  pub is_feed : (feeds : List (Feed O)) (all met rest : List (Left (Caller Told) Item N O)) (left : Left (Caller Told) Item N O) → all ≡ met ++ left ∷ rest → AreFed given faults feeds all → IsFeed left
  is_feed feeds all met rest left all_are fed = in_list feeds met (subst (λ (ls : List (Left (Caller Told) Item N O)). AreFed given faults feeds ls) all_are fed)
    where
      in_list : (feeds : List (Feed O)) (met : List (Left (Caller Told) Item N O)) → AreFed given faults feeds (met ++ left ∷ rest) → IsFeed left
      in_list [] [] fed = absurd fed
      in_list [] (m ∷ met) fed = absurd fed
      in_list (feed ∷ feeds) [] fed = fed_link feed left.passes.items left.work fed.0
      in_list (feed ∷ feeds) (m ∷ met) fed = in_list feeds met fed.1

  -- the link is what the feed made of its own
  pub fed_by : (feed : Feed O) (left : Left (Caller Told) Item N O) (link : O) → IsFed given faults feed left → HasLink left link → IsFedBy given faults feed link
  fed_by feed left link is has =
      (subst (λ (w : Work Item N O). LeavesFeed given faults (map (λ packet. packet.items) feed.packets.items) (link_out given faults feed.link) left.passes.items w) has is).1

module _ {R S N O K M D Z W C : Type 0} (suite : SuiteMeaning) (may_give : C → ℕ → Type 0) (left : N → Option (List ℕ)) (in_faults : N → ℕ) (given : O → Option (List (List ℕ))) (out_faults : O → ℕ)
    (clock : C) (ct : ℕ) (house : House R S N O K M D Z W) (stands : IsStanding ct house) where
  abbrev Gave : Type 0
  Gave = Left (Caller Told) Item N O

  abbrev AreOwn : List Gave → Type 0
  AreOwn own = AreLeftIn suite may_give left in_faults given out_faults clock house own

  -- so many callers left something
  pub as_many : (own : List Gave) → AreOwn own → length own ≡ house.hall.callers
  as_many own are = are.many

  -- the next of what was left is the house's own
  pub own_lefts : (all own rest : List Gave) → BeginsWith AreOwn all → all ≡ own ++ rest → length own ≡ house.hall.callers → AreOwn own
  own_lefts all own rest begins all_are many =
      own_part (AreLeftIn suite may_give left in_faults given out_faults clock) house all own rest begins (λ part is. as_many part is ∙ sym many) all_are

  sizes : HasSizes suite left in_faults given out_faults may_give (node_of clock house)
  sizes = record { callers = stands.callers_are; queues = refl }

  -- its callers can end
  pub house_can_end : (own : List Gave) → AreOwn own → IsHall house.hall → CanEnd house.hall own
  house_can_end own are hall = can_end suite left in_faults given out_faults may_give (node_of clock house) sizes own are hall

  -- there is room for all that they left
  pub house_room : (own : List Gave) → AreOwn own
      → IsRoomFor (length house.hall.locks) house.hall.callers (length (all_of link_in own)) (length (all_of receiver_in own)) (length (all_of link_out_in own)) house.rooms
  house_room own are =
      room_as house.rooms (length house.hall.locks) house.hall.callers (length house.incoming.value.items) (length house.hall.queues) (length house.outgoing.value.items)
      (length house.hall.locks) house.hall.callers (length (all_of link_in own)) (length (all_of receiver_in own)) (length (all_of link_out_in own)) refl refl
      (sym (many_links suite left in_faults given out_faults may_give (node_of clock house) sizes own are))
      (sym (many_receivers suite left in_faults given out_faults may_give (node_of clock house) sizes own are))
      (sym (many_outs suite left in_faults given out_faults may_give (node_of clock house) sizes own are)) stands.room

  -- and it has served
  pub house_served : (tells : Type 0) (own : List Gave) (shards : List ShardState) → AreOwn own → IsHall house.hall → AreAllPopped (all_of receiver_in own) (all_of senders_in own)
      → AreClosed house.hall.locks (hands_of own) shards → All (IsKept tells suite) shards → Served tells suite left in_faults given out_faults may_give (node_of clock house) own shards
  house_served tells own shards are hall popped closed kept =
      served tells suite left in_faults given out_faults may_give (node_of clock house) own shards
      (record {
        are = are;
        settled = are_settled suite left in_faults given out_faults may_give (node_of clock house) sizes own are popped;
        closed = closed;
        hall = hall;
        workers_are = refl;
        callers_are = stands.callers_are;
        some = stands.working;
      }) kept

  pub has_served : (tells : Type 0) (own : List Gave) → AreOwn own → IsHall house.hall → (end : NodeEnd R S N O K M D Z W) → end.left.value.items ≡ own
      → AreAllPopped (all_of receiver_in own) (all_of senders_in own) → AreClosed house.hall.locks (hands_of own) end.shards.items → All (IsKept tells suite) end.shards.items
      → IsEnd own end.incoming.items end.outgoing.items end.local.items end.unsent end.dropped
      → HasServed tells suite may_give left in_faults given out_faults (node_of clock house) end
  has_served tells own are hall end left_is popped closed kept gives = record {
    served = subst (λ (ls : List Gave). Served tells suite left in_faults given out_faults may_give (node_of clock house) ls end.shards.items) (sym left_is)
        (house_served tells own end.shards.items are hall popped closed kept);
    gives_back = subst (λ (ls : List Gave). IsEnd ls end.incoming.items end.outgoing.items end.local.items end.unsent end.dropped) (sym left_is) gives;
  }
