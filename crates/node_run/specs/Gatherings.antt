-- What the callers of a node left, by its kind, in the callers' order.
use Rattle.std.specs.Prelude.{◌≡◌, ◌+◌, ◌-◌, ◌^◌, ◌≤◌, ℕ, List, [], ◌∷◌, ◌++◌, flat_map, fold, length, min, sum_by, vec_capacity, vec_len}
use Rattle.std.specs.Global.{Vec}
use Rattle.node_actors.specs.Queues.{Receiving, Sending}
use Rattle.node_actors.specs.declared.actors.works.Left.{Left}
use Rattle.node_actors.specs.declared.actors.works.Work.{Work}
use Rattle.node_actors.specs.declared.actors.works.Work.TheVariants.{Listened, Worked, Connected, Kept}
use Rattle.node_run.specs.Accounts.{dropped_of, unsent_of}
use Rattle.node_run.specs.declared.life.rooms.Works.{Works}

-- there is room for so many items more
abbrev pub Fits : {A : Type 0} → Vec A → List A → Type 0
Fits list more = vec_len list + length more ≤ vec_capacity list

-- these items more, in the same room
abbrev pub Grows : {A : Type 0} → List A → Vec A → Vec A → Type 0
Grows more old new = (new.items ≡ old.items ++ more) × (vec_capacity new ≡ vec_capacity old)

module _ {P N O : Type 0} where
  -- ---- what one work has

  -- the link of a listener, and its senders
  abbrev pub link_in : Work P N O → List N
  link_in (Listened link log dropped senders course ending) = link ∷ []
  link_in _ = []

  abbrev pub senders_in : Work P N O → List (Vec Sending)
  senders_in (Listened link log dropped senders course ending) = senders ∷ []
  senders_in _ = []

  -- a worker's end of its queue
  abbrev pub receiver_in : Work P N O → List Receiving
  receiver_in (Worked receiver log dropped) = receiver ∷ []
  receiver_in _ = []

  -- the hop and the link of a connector
  abbrev pub link_out_in : Work P N O → List (List ℕ × O)
  link_out_in (Connected hop link log unsent) = (hop, link) ∷ []
  link_out_in _ = []

  -- the packets of the local connector, else those of before
  abbrev pub local_after : List P → Work P N O → List P
  local_after before (Kept local log unsent) = local.items
  local_after before _ = before

  -- ---- what all have

  abbrev pub all_of : {Q A : Type 0} → (Work P N O → List A) → List (Left Q P N O) → List A
  all_of part lefts = flat_map (λ gave. part gave.work) lefts

  abbrev pub local_in : {Q : Type 0} → List (Left Q P N O) → List P
  local_in lefts = fold (λ before gave. local_after before gave.work) [] lefts

  -- a count of all, which stays at 2^64 - 1
  abbrev pub count_in : {Q : Type 0} → (Work P N O → ℕ) → List (Left Q P N O) → ℕ
  count_in part lefts = min (sum_by (λ gave. part gave.work) lefts) (2 ^ 64 - 1)

  -- the lists of all that these left
  pub record AreSorted {Q : Type 0} (lefts : List (Left Q P N O)) (works : Works P N O) : Type 0 where
    pub incoming : works.incoming.items ≡ all_of link_in lefts
    pub senders : works.senders.items ≡ all_of senders_in lefts
    pub receivers : works.receivers.items ≡ all_of receiver_in lefts
    pub outgoing : works.outgoing.items ≡ all_of link_out_in lefts
    pub local : works.local.items ≡ local_in lefts
    pub unsent : works.unsent ≡ count_in unsent_of lefts
    pub dropped : works.dropped ≡ count_in dropped_of lefts

  -- ---- one work more

  -- there is room for what the work has
  pub record FitsInto (work : Work P N O) (works : Works P N O) : Type 0 where
    pub incoming : Fits works.incoming (link_in work)
    pub senders : Fits works.senders (senders_in work)
    pub receivers : Fits works.receivers (receiver_in work)
    pub outgoing : Fits works.outgoing (link_out_in work)

  -- what the work has is added to the lists
  pub record PutsLists (work : Work P N O) (old new : Works P N O) : Type 0 where
    pub incoming : Grows (link_in work) old.incoming new.incoming
    pub senders : Grows (senders_in work) old.senders new.senders
    pub receivers : Grows (receiver_in work) old.receivers new.receivers
    pub outgoing : Grows (link_out_in work) old.outgoing new.outgoing
    pub local : new.local.items ≡ local_after old.local.items work
    pub unsent : new.unsent ≡ old.unsent
    pub dropped : new.dropped ≡ old.dropped

  -- and to the counts
  pub record PutsWork (work : Work P N O) (old new : Works P N O) : Type 0 where
    pub lists : PutsLists work (record old { unsent = new.unsent; dropped = new.dropped }) new
    pub unsent : new.unsent ≡ min (old.unsent + unsent_of work) (2 ^ 64 - 1)
    pub dropped : new.dropped ≡ min (old.dropped + dropped_of work) (2 ^ 64 - 1)
