-- What the threads of a life are given, and what they leave, may go from thread to thread, where a rack, the suite's parts
-- and the links may. Each type is taken apart, since `search` alone doesn't get through those that hold a shard.
use denote.RattleType.{RattleType}
use denote.Enum.Enum.{Enum}
use denote.Enum.Declared as enum
use denote.Param.Send.{IsSend, IsSync, enum_send, recorded_send, struct_send, view_send, sendable}
use denote.Param.SendFields.{declared_send}
use denote.Ref.{NamedLft}
use denote.Struct.Declared as struct
use Rattle.std.proofs.Crossing.{crosses}
use Rattle.atomic_table.proofs.send_lease.SendLease.TheSendSync as lease
use Rattle.atomic_table.proofs.shared.Seat.TheSendSync as place
use Rattle.atomic_table.proofs.shared.Shared.TheSendSync as table
use Rattle.mix_base.specs.declared.stories.Storied as storied
use Rattle.mix_base.specs.declared.suites.Kdf as kdf
use Rattle.mix_base.specs.declared.suites.Kem as kem
use Rattle.mix_base.specs.declared.suites.Mac as mac
use Rattle.mix_base.specs.declared.suites.Stream as stream
use Rattle.mix_base.specs.declared.suites.Suite as suite
use Rattle.mix_base.specs.declared.suites.Wide as wide
use Rattle.mix_links.specs.declared.clock.Clock as clock
use Rattle.mix_links.specs.declared.links.LinkIn as link_in
use Rattle.mix_links.specs.declared.links.LinkOut as link_out
use Rattle.mix_shard.specs.contracts.entries.Told as told
use Rattle.mix_shard.specs.contracts.held.Held as held
use Rattle.mix_shard.specs.contracts.shard.Shard as shard
use Rattle.mix_shard.specs.contracts.shard.Shard.TheInside as in_shard
use Rattle.mix_shard.specs.contracts.shard.story.ShardStoried.TheImpl.{ghosts, no_dict}
use Rattle.node_actors.specs.contracts.actors.connecting.Connector as connector
use Rattle.node_actors.specs.contracts.actors.connecting.Connector.TheInside as in_connector
use Rattle.node_actors.specs.contracts.actors.crew.NodeActor as actor
use Rattle.node_actors.specs.contracts.actors.crew.Spare as spare
use Rattle.node_actors.specs.contracts.actors.dealing.Dealer as dealer
use Rattle.node_actors.specs.contracts.actors.dealing.Dealer.TheInside as in_dealer
use Rattle.node_actors.specs.contracts.actors.keeping.Keeper as keeper
use Rattle.node_actors.specs.contracts.actors.keeping.Keeper.TheInside as in_keeper
use Rattle.node_actors.specs.contracts.actors.listening.Listener as listener
use Rattle.node_actors.specs.contracts.actors.listening.Listener.TheInside as in_listener
use Rattle.node_actors.specs.contracts.actors.rotating.Rotator as rotator
use Rattle.node_actors.specs.contracts.actors.seats.Seat as seat
use Rattle.node_actors.specs.contracts.actors.working.Worker as worker
use Rattle.node_actors.specs.contracts.actors.working.Worker.TheInside as in_worker
use Rattle.node_actors.specs.contracts.actors.works.Left as left
use Rattle.node_actors.specs.contracts.actors.works.Work as work
use Rattle.node_actors.specs.contracts.queues.ends.Receiver as receiver
use Rattle.node_actors.specs.contracts.queues.ends.Sender as sender
use Rattle.node_actors.specs.contracts.queues.packet_queue.PacketQueue as packets
use Rattle.replay_disk.specs.declared.rack.Rack as rack
use Rattle.spent_store.specs.contracts.store.SpentStore as store
use Rattle.spent_store.specs.contracts.store.SpentStore.TheInside as in_store
use Rattle.turn_lock.specs.contracts.lock.Pass as pass
use Rattle.turn_lock.specs.contracts.lock.TurnLock as lock

store_send : IsSend store.the_row
store_send =
    view_send _ _ _ _ _ (declared_send in_store.the_type (
      search (crosses, sendable) depth 60 fits 20000,
      (
        search (crosses, sendable) depth 60 fits 20000,
        (
          search (crosses, sendable) depth 60 fits 20000,
          (
            search (crosses, sendable) depth 60 fits 20000,
            (
              search (crosses, sendable) depth 60 fits 20000,
              (
                search (crosses, sendable) depth 60 fits 20000,
                (
                  search (crosses, sendable) depth 60 fits 20000,
                  (
                    search (crosses, sendable) depth 60 fits 20000,
                    (search (crosses, sendable) depth 60 fits 20000, tt),
                  ),
                ),
              ),
            ),
          ),
        ),
      ),
    ))

told_send : IsSend told.the_row
told_send = search (crosses, sendable) depth 60 fits 20000

packets_sync : IsSync packets.the_row
packets_sync = search (crosses, table.the_sync, lease.the_sync, sendable) depth 60 fits 20000

sender_send : IsSend sender.the_row
sender_send = search (crosses, place.the_send, sendable) depth 60 fits 20000

receiver_send : IsSend receiver.the_row
receiver_send = search (crosses, place.the_send, sendable) depth 60 fits 20000

-- a pass to a lock over such a value, and the lock itself
module _ (T E : RattleType) (a : storied.Ghosts T.Denot E.Denot) (t : IsSend T) (e : IsSend E) where
  pass_send : IsSend (pass.the_row T E a)
  pass_send = search (crosses, place.the_send, sendable) depth 60 fits 20000

  lock_sync : IsSync (lock.the_row T E a)
  lock_sync = search (crosses, table.the_sync, lease.the_sync, sendable) depth 60 fits 20000

-- what a thread leaves
module _ (Q P N O : RattleType) (q : IsSend Q) (p : IsSend P) (n : IsSend N) (o : IsSend O) where
  work_send : IsSend (work.the_row P N O)
  work_send = search (crosses, sender_send, receiver_send, sendable) depth 60 fits 20000

  left_send : IsSend (left.the_row Q P N O)
  left_send = declared_send (left.the_type Q P N O) (search (crosses, sendable) depth 60 fits 20000, (search (crosses, work_send, sendable) depth 60 fits 20000, tt))

module _ (R S K M D Z W : RattleType) (a : rack.Ghosts R.Denot) (b : suite.Ghosts S.Denot K.Denot M.Denot D.Denot Z.Denot W.Denot) (k : kem.Ghosts K.Denot) (m : mac.Ghosts M.Denot)
    (d : kdf.Ghosts D.Denot) (z : stream.Ghosts Z.Denot) (w : wide.Ghosts W.Denot) (r : IsSend R) (s : IsSend S) (ks : IsSend K) (ms : IsSend M) (ds : IsSend D) (zs : IsSend Z) (ws : IsSend W) where
  shard_send : IsSend (shard.the_row R S K M D Z W a b k m d z w)
  shard_send =
      view_send _ _ _ _ _ (declared_send (in_shard.the_type R S K M D Z W a b k m d z w) (
        search (crosses, sendable) depth 60 fits 20000,
        (
          search (crosses, sendable) depth 60 fits 20000,
          (
            search (crosses, store_send, sendable) depth 60 fits 20000,
            (
              search (crosses, sendable) depth 60 fits 20000,
              (
                search (crosses, sendable) depth 60 fits 20000,
                (
                  search (crosses, sendable) depth 60 fits 20000,
                  (
                    search (crosses, sendable) depth 60 fits 20000,
                    (
                      search (crosses, sendable) depth 60 fits 20000,
                      (
                        search (crosses, sendable) depth 60 fits 20000,
                        (search (crosses, sendable) depth 60 fits 20000, tt),
                      ),
                    ),
                  ),
                ),
              ),
            ),
          ),
        ),
      ))

  -- the rules of its story
  abbrev story : storied.Ghosts (shard.the_row R S K M D Z W a b k m d z w).Denot told.the_row.Denot
  story = ghosts R S K M D Z W a no_dict b no_dict k no_dict m no_dict d no_dict z no_dict w no_dict no_dict no_dict no_dict no_dict no_dict no_dict no_dict

  held_send : IsSend (held.the_row S K M D Z W b k m d z w)
  held_send = search (crosses, sendable) depth 60 fits 20000

  pub all_left_send : (N O : RattleType) → IsSend N → IsSend O
      → IsSend (left.the_row (pass.the_row (shard.the_row R S K M D Z W a b k m d z w) told.the_row story) (held.the_row S K M D Z W b k m d z w) N O)
  all_left_send N O n o = left_send _ _ N O (pass_send _ _ story shard_send told_send) held_send n o

  module _ (ℓ : NamedLft) (H N O C G : RattleType) (x : link_in.Ghosts N.Denot) (y : link_out.Ghosts O.Denot) (t : clock.Ghosts C.Denot)
      (h : IsSync H) (sy : IsSync S) (n : IsSend N) (o : IsSend O) (c : IsSync C) (g : IsSync G) where
    seat_send : IsSend (seat.the_row ℓ H R S K M D Z W a b k m d z w)
    seat_send = search (crosses, pass_send, lock_sync, shard_send, told_send, sendable) depth 60 fits 20000

    dealer_send : IsSend (dealer.the_row ℓ H R S K M D Z W a b k m d z w)
    dealer_send =
        view_send _ _ _ _ _ (declared_send (in_dealer.the_type ℓ H R S K M D Z W a b k m d z w) (
          search (crosses, seat_send, sendable) depth 60 fits 20000,
          (
            search (crosses, sendable) depth 60 fits 20000,
            (
              search (crosses, sendable) depth 60 fits 20000,
              (
                search (crosses, sendable) depth 60 fits 20000,
                (search (crosses, sendable) depth 60 fits 20000, tt),
              ),
            ),
          ),
        ))

    listener_send : IsSend (listener.the_row ℓ H R S N C K M D Z W a b k m d z w x t)
    listener_send =
        view_send _ _ _ _ _ (declared_send (in_listener.the_type ℓ H R S N C K M D Z W a b k m d z w x t) (
          search (crosses, dealer_send, sendable) depth 60 fits 20000,
          (
            search (crosses, sendable) depth 60 fits 20000,
            (
              search (crosses, sendable) depth 60 fits 20000,
              (
                search (crosses, packets_sync, sendable) depth 60 fits 20000,
                (
                  search (crosses, sender_send, sendable) depth 60 fits 20000,
                  (
                    search (crosses, sendable) depth 60 fits 20000,
                    (
                      search (crosses, sendable) depth 60 fits 20000,
                      (
                        search (crosses, sendable) depth 60 fits 20000,
                        (
                          search (crosses, sendable) depth 60 fits 20000,
                          (
                            search (crosses, sendable) depth 60 fits 20000,
                            (search (crosses, sendable) depth 60 fits 20000, tt),
                          ),
                        ),
                      ),
                    ),
                  ),
                ),
              ),
            ),
          ),
        ))

    worker_send : IsSend (worker.the_row ℓ H R S G K M D Z W a b k m d z w)
    worker_send =
        view_send _ _ _ _ _ (declared_send (in_worker.the_type ℓ H R S G K M D Z W a b k m d z w) (
          search (crosses, dealer_send, sendable) depth 60 fits 20000,
          (
            search (crosses, sendable) depth 60 fits 20000,
            (
              search (crosses, sendable) depth 60 fits 20000,
              (
                search (crosses, packets_sync, sendable) depth 60 fits 20000,
                (search (crosses, receiver_send, sendable) depth 60 fits 20000, tt),
              ),
            ),
          ),
        ))

    connector_send : IsSend (connector.the_row ℓ H R S O C K M D Z W a b k m d z w y t)
    connector_send =
        view_send _ _ _ _ _ (declared_send (in_connector.the_type ℓ H R S O C K M D Z W a b k m d z w y t) (
          search (crosses, seat_send, sendable) depth 60 fits 20000,
          (
            search (crosses, sendable) depth 60 fits 20000,
            (
              search (crosses, sendable) depth 60 fits 20000,
              (
                search (crosses, sendable) depth 60 fits 20000,
                (
                  search (crosses, sendable) depth 60 fits 20000,
                  (
                    search (crosses, sendable) depth 60 fits 20000,
                    (
                      search (crosses, sendable) depth 60 fits 20000,
                      (search (crosses, sendable) depth 60 fits 20000, tt),
                    ),
                  ),
                ),
              ),
            ),
          ),
        ))

    keeper_send : IsSend (keeper.the_row ℓ H R S C K M D Z W a b k m d z w t)
    keeper_send =
        view_send _ _ _ _ _ (declared_send (in_keeper.the_type ℓ H R S C K M D Z W a b k m d z w t) (
          search (crosses, seat_send, sendable) depth 60 fits 20000,
          (
            search (crosses, sendable) depth 60 fits 20000,
            (
              search (crosses, sendable) depth 60 fits 20000,
              (
                search (crosses, sendable) depth 60 fits 20000,
                (
                  search (crosses, sendable) depth 60 fits 20000,
                  (
                    search (crosses, sendable) depth 60 fits 20000,
                    (search (crosses, sendable) depth 60 fits 20000, tt),
                  ),
                ),
              ),
            ),
          ),
        ))

    rotator_send : IsSend (rotator.the_row ℓ H R S C K M D Z W a b k m d z w t)
    rotator_send = search (crosses, seat_send, sendable) depth 60 fits 20000

    abbrev actor_type : enum.Declared
    actor_type = actor.the_type ℓ H R S N O C G K M D Z W a b k m d z w x y t

    pub actor_send : IsSend (actor.the_row ℓ H R S N O C G K M D Z W a b k m d z w x y t)
    actor_send =
        recorded_send (Enum (enum.shape actor_type)) _ _ actor_type.to_one (enum_send (enum.shape actor_type) (
          (search (crosses, listener_send, sendable) depth 60 fits 20000, tt),
          (
            (search (crosses, worker_send, sendable) depth 60 fits 20000, tt),
            (
              (search (crosses, connector_send, sendable) depth 60 fits 20000, tt),
              (
                (search (crosses, keeper_send, sendable) depth 60 fits 20000, tt),
                (
                  (search (crosses, rotator_send, sendable) depth 60 fits 20000, tt),
                  (
                    (struct_send (struct.shape (spare.the_type ℓ H R S K M D Z W a b k m d z w)) (search (crosses, seat_send, sendable) depth 60 fits 20000, (search (crosses, sendable) depth 60 fits 20000, tt)), tt),
                    ((search (crosses, sendable) depth 60 fits 20000, tt), tt),
                  ),
                ),
              ),
            ),
          ),
        ))
