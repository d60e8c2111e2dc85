-- What each caller of a node gets besides its passes, by its role.
use Rattle.std.specs.Prelude.{◌≡◌, ◌<◌, ◌≤◌, ◌+◌, ◌*◌, ⊤, ℕ, List, [], ◌++◌, length, map, replicate, Some, slice_get}
use Rattle.atomic_table.specs.Seated.{TableId}
use Rattle.node_actors.specs.Queues.{Receiving, Sending, new_sender}
use Rattle.node_run.specs.Roles.{role_of}
use Rattle.node_run.specs.declared.life.posts.Post.{Post}
use Rattle.node_run.specs.declared.life.posts.Post.TheVariants as post
use Rattle.node_run.specs.declared.roles.Role.{Role}
use Rattle.node_run.specs.declared.roles.Role.TheVariants.{Listener, Worker, Keeper, Connector, Rotator, Spare}

-- each element of a list is what this says of its place
abbrev pub AreEach : {A : Type 0} → (ℕ → A → Type 0) → List A → Type 0
AreEach {A} Is list = (place : ℕ) (one : A) → slice_get list place ≡ Some one → Is place one

-- some elements more, so many, each what this says of its place among them
pub record AddsEach {A : Type 0} (Is : ℕ → A → Type 0) (many : ℕ) (old new : List A) : Type 0 where
  pub added : List A
  pub new_is : new ≡ old ++ added
  pub many_are : length added ≡ many
  pub each : AreEach Is added

-- the receiver of a queue that has made so many senders, and has popped nothing
abbrev pub receiver_with : ℕ → TableId → Receiving
receiver_with made queue = record { queue = queue; senders = made; popped = []; known = [] }

-- a receiver of each queue, which has made so many senders
pub record AreReceivers (made : ℕ) (queues : List TableId) (receivers : List Receiving) : Type 0 where
  pub many : length receivers ≡ length queues
  pub each : (i : ℕ) (queue : TableId) (receiver : Receiving) → slice_get queues i ≡ Some queue → slice_get receivers i ≡ Some receiver
      → receiver ≡ receiver_with made queue

-- a new sender to each queue, number `place` of the queue's
pub record AreNewSenders (place : ℕ) (queues : List TableId) (senders : List Sending) : Type 0 where
  pub many : length senders ≡ length queues
  pub each : (i : ℕ) (queue : TableId) (sender : Sending) → slice_get queues i ≡ Some queue → slice_get senders i ≡ Some sender
      → sender ≡ new_sender queue place

module _ {N O : Type 0} where
  -- the listener of this place among the links: its link, a new sender to each queue, and a buffer of this length
  abbrev pub IsListener : List TableId → ℕ → List N → ℕ → Post N O → Type 0
  IsListener queues size links place (post.Listener at many link senders buffer) =
      (at ≡ place) × (many ≡ length links) × (slice_get links place ≡ Some link) × AreNewSenders place queues senders.items × (length buffer.items ≡ size)
  IsListener queues size links place _ = ⊥

  -- the worker of this place: the receiver of its queue, which has made a sender for each listener
  abbrev pub IsWorker : List TableId → ℕ → ℕ → Post N O → Type 0
  IsWorker queues listeners place (post.Worker at receiver) =
      (at ≡ place) × ((queue : TableId) × (slice_get queues place ≡ Some queue) × (receiver ≡ receiver_with listeners queue))
  IsWorker queues listeners place _ = ⊥

  -- the worker of this place among the receivers
  abbrev pub HasReceiver : List Receiving → ℕ → Post N O → Type 0
  HasReceiver receivers place (post.Worker at receiver) = (at ≡ place) × (slice_get receivers place ≡ Some receiver)
  HasReceiver receivers place _ = ⊥

  -- the local connector: the hops of the links
  abbrev pub IsKeeper : List (List ℕ × O) → Post N O → Type 0
  IsKeeper links (post.Keeper hops) = hops.items ≡ map (λ link. link.0) links
  IsKeeper links _ = ⊥

  -- the connector of this place among the links
  abbrev pub IsConnector : List (List ℕ × O) → ℕ → Post N O → Type 0
  IsConnector links place (post.Connector hop link) = slice_get links place ≡ Some (hop, link)
  IsConnector links place _ = ⊥

  -- the rotator: that it has tried no epoch at any of the shards
  abbrev pub IsRotator : ℕ → Post N O → Type 0
  IsRotator shards (post.Rotator tried) = tried.items ≡ replicate shards 0
  IsRotator shards _ = ⊥

  abbrev pub IsSpare : Post N O → Type 0
  IsSpare post.Spare = ⊤
  IsSpare _ = ⊥

-- the posts of the callers of even numbers: the listeners, then the workers, then who is left over
pub record AreEven {N O : Type 0} (queues : List TableId) (size : ℕ) (links : List N) (posts : List (Post N O)) : Type 0 where
  pub listeners : (place : ℕ) (one : Post N O) → place < length links → slice_get posts place ≡ Some one → IsListener queues size links place one
  pub workers : (place : ℕ) (one : Post N O) → place < length queues → slice_get posts (length links + place) ≡ Some one
      → IsWorker queues (length links) place one
  pub spares : (place : ℕ) (one : Post N O) → length links + length queues ≤ place → slice_get posts place ≡ Some one → IsSpare one

-- those of odd numbers: the local connector, then the links' connectors, the rotator, and who is left over
pub record AreOdd {N O : Type 0} (shards : ℕ) (links : List (List ℕ × O)) (posts : List (Post N O)) : Type 0 where
  pub keeper : (one : Post N O) → slice_get posts 0 ≡ Some one → IsKeeper links one
  pub connectors : (place : ℕ) (one : Post N O) → place < length links → slice_get posts (1 + place) ≡ Some one → IsConnector links place one
  pub rotator : (one : Post N O) → slice_get posts (1 + length links) ≡ Some one → IsRotator shards one
  pub spares : (place : ℕ) (one : Post N O) → 2 + length links ≤ place → slice_get posts place ≡ Some one → IsSpare one

-- the even and the odd in turn
pub record IsWoven {A : Type 0} (evens odds woven : List A) : Type 0 where
  pub many : length woven ≡ 2 * length evens
  pub even : (place : ℕ) (one : A) → slice_get woven (2 * place) ≡ Some one → slice_get evens place ≡ Some one
  pub odd : (place : ℕ) (one : A) → slice_get woven (2 * place + 1) ≡ Some one → slice_get odds place ≡ Some one

-- what the posts of a node are made for: its queues, how many shards it has, the length of its packets, and its links
pub record Plan (N O : Type 0) : Type 0 where
  pub queues : List TableId
  pub shards : ℕ
  pub size : ℕ
  pub incoming : List N
  pub outgoing : List (List ℕ × O)

abbrev pub plan_for : {N O : Type 0} → List TableId → ℕ → ℕ → List N → List (List ℕ × O) → Plan N O
plan_for queues shards size incoming outgoing = record { queues = queues; shards = shards; size = size; incoming = incoming; outgoing = outgoing }

module _ {N O : Type 0} (plan : Plan N O) where
  -- what the caller of a role gets
  abbrev pub IsPost : Role → Post N O → Type 0
  IsPost (Listener place) one = IsListener plan.queues plan.size plan.incoming place one
  IsPost (Worker place) one = IsWorker plan.queues (length plan.incoming) place one
  IsPost Keeper one = IsKeeper plan.outgoing one
  IsPost (Connector place) one = IsConnector plan.outgoing place one
  IsPost Rotator one = IsRotator plan.shards one
  IsPost Spare one = IsSpare one

  -- the role of a caller
  abbrev pub role_in : ℕ → Role
  role_in caller = role_of (length plan.incoming) (length plan.queues) (length plan.outgoing) caller

  -- a post for each of so many callers, by its role
  pub record ArePosts (callers : ℕ) (posts : List (Post N O)) : Type 0 where
    pub many : length posts ≡ callers
    pub each : AreEach (λ caller one. IsPost (role_in caller) one) posts
