-- A node of a life once it was opened, and what was made for its callers.
use Rattle.std.specs.Prelude.{◌≡◌, ◌<◌, ℕ, List, length, map}
use Rattle.std.specs.List.{AllZip}
use Rattle.mix_shard.specs.declared.entries.Told.{Told}
use Rattle.mix_shard.specs.declared.setup.Setup.{Setup}
use Rattle.node_run.specs.Lefts.{Staffing}
use Rattle.node_run.specs.Openings.{AreFreshHands, IsHallOver, plan_of, tale_behind}
use Rattle.node_run.specs.Posts.{ArePosts}
use Rattle.node_run.specs.Roles.{callers_for}
use Rattle.node_run.specs.Rooms.{HasRoom, IsRoomFor}
use Rattle.node_run.specs.Seats.{callers_with, setup_in}
use Rattle.node_run.specs.Staffs.{staffing_of}
use Rattle.node_run.specs.declared.life.houses.House.{House}
use Rattle.node_run.specs.declared.life.houses.Street.{Street}
use Rattle.node_run.specs.declared.life.opening.Desk.{Desk}
use Rattle.node_run.specs.declared.life.seats.NodeSeat.{NodeSeat}

module _ {R S N O K M D Z W : Type 0} where
  -- the node of a house, with a clock
  abbrev pub node_of : {C : Type 0} → C → House R S N O K M D Z W → Staffing N O C
  node_of clock house = staffing_of house.hall house.incoming.value.items house.outgoing.value.items clock

  -- what is left of it where it doesn't live
  abbrev pub kept_in : House R S N O K M D Z W → Setup × List (List (List ℕ) × List Told)
  kept_in house = (house.hall.setup, map tale_behind house.hall.locks)

  -- it has a worker, as many callers as its links and workers need, and room for what they leave; the suite has
  -- ciphertexts of this length
  pub record IsStanding (ciphertext : ℕ) (house : House R S N O K M D Z W) : Type 0 where
    pub callers_are : house.hall.callers ≡ callers_for (length house.incoming.value.items) (length house.hall.queues) (length house.outgoing.value.items)
    pub working : 0 < length house.hall.queues
    pub ciphertext_is : house.hall.setup.geometry.ct ≡ ciphertext
    pub room : IsRoomFor (length house.hall.locks) house.hall.callers (length house.incoming.value.items) (length house.hall.queues)
        (length house.outgoing.value.items) house.rooms
    pub lefts : HasRoom house.hall.callers house.lefts
    pub hands : HasRoom house.hall.callers house.hands

  -- the house of the node of this seat
  pub record IsHouse (ciphertext workers : ℕ) (seat : NodeSeat R S N O K M D Z W) (house : House R S N O K M D Z W) : Type 0 where
    pub stands : IsStanding ciphertext house
    pub over : IsHallOver (setup_in seat) seat.shards.items (callers_with workers seat) workers house.hall
    pub incoming_are : house.incoming.value.items ≡ seat.incoming.items
    pub outgoing_are : house.outgoing.value.items ≡ seat.outgoing.items

  -- what was made for its callers
  pub record IsDesk (house : House R S N O K M D Z W) (desk : Desk R S N O K M D Z W) : Type 0 where
    pub hands : AreFreshHands house.hall.locks house.hall.callers desk.hands.items
    pub posts : ArePosts (plan_of house.hall desk.incoming.value.items desk.outgoing.value.items) house.hall.callers desk.posts.items
    pub incoming_are : desk.incoming.value.items ≡ house.incoming.value.items
    pub outgoing_are : desk.outgoing.value.items ≡ house.outgoing.value.items

  -- the houses of these nodes, in their order, and a desk for each; there is room for a seat of each
  pub record IsOpen (ciphertext workers : ℕ) (nodes : List (NodeSeat R S N O K M D Z W)) (street : Street R S N O K M D Z W) : Type 0 where
    pub houses : AllZip (IsHouse ciphertext workers) nodes street.houses.items
    pub desks : AllZip IsDesk street.houses.items street.desks.items
    pub seats : HasRoom (length nodes) street.seats
