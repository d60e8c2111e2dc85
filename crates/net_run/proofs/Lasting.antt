-- A life leaves the origins of its shards as they were.
use Rattle.std.proofs.Common.{◌≡◌, ◌+◌, ℕ, zero, suc, List, [], ◌∷◌, length, map, Some, slice_get, refl, sym, ap, subst, ◌∙◌, arith}
use Rattle.std.specs.Global.{Vec}
use Rattle.std.specs.List.{AllZip}
use Rattle.mix_base.specs.Suites.{SuiteMeaning}
use Rattle.mix_shard.specs.Origins.{origin_of}
use Rattle.mix_shard.specs.Shards.{ShardState}
use Rattle.mix_shard.specs.declared.entries.Told.{Told}
use Rattle.mix_shard.specs.declared.setup.Setup.{Setup}
use Rattle.turn_lock.specs.Seen.{Lock}
use Rattle.node_run.specs.Openings.{tale_behind, tale_of}
use Rattle.node_run.specs.Promises.{HasLife}
use Rattle.node_run.specs.Seats.{kept_of}
use Rattle.node_run.specs.declared.life.seats.NodeEnd.{NodeEnd}
use Rattle.node_run.specs.declared.life.seats.NodeSeat.{NodeSeat}
use Rattle.net_run.specs.Living.{AreOriginsOf, origins_in}
use Rattle.net_run.specs.Parting.{shards_left, shards_of_seat}
use Rattle.net_run.specs.Seats.{shards_in}
use Rattle.net_run.specs.declared.nodes.OpenNode.{OpenNode}
use Rattle.net_run.proofs.Stacks.{map_long}

-- the origins of tales
firsts : List (List (List ℕ) × List Told) → List (List (List ℕ))
firsts [] = []
firsts (t ∷ ts) = t.0 ∷ firsts ts

of_tales : (shards : List ShardState) → firsts (map tale_of shards) ≡ origins_in shards
unfolding firsts
of_tales [] = refl
of_tales (s ∷ ss) = ap (λ (os : List (List (List ℕ))). origin_of s ∷ os) (of_tales ss)

of_locks : (locks : List (Lock Told)) → firsts (map tale_behind locks) ≡ map (λ lock. lock.origin) locks
unfolding firsts
of_locks [] = refl
of_locks (l ∷ ls) = ap (λ (os : List (List (List ℕ))). l.origin ∷ os) (of_locks ls)

-- shards behind locks
locked : (locks : List (Lock Told)) (shards : List ShardState) → length shards ≡ length locks
    → ((i : ℕ) (lock : Lock Told) (shard : ShardState) → slice_get locks i ≡ Some lock → slice_get shards i ≡ Some shard → origin_of shard ≡ lock.origin)
    → origins_in shards ≡ map (λ lock. lock.origin) locks
locked [] [] long each = refl
locked [] (s ∷ ss) long each = absurd (omega (arith, long))
locked (l ∷ ls) [] long each = absurd (omega (arith, long))
locked (l ∷ ls) (s ∷ ss) long each =
    ap (λ (o : List (List ℕ)). o ∷ origins_in ss) (each 0 l s refl refl)
    ∙ ap (λ (os : List (List (List ℕ))). l.origin ∷ os) (locked ls ss (omega (arith, long)) (λ i lock shard l_is s_is. each (suc i) lock shard l_is s_is))

module _ {R S N O K M D Z W C : Type 0} (workers : ℕ) (clock : C) (tells : Type 0) (suite : SuiteMeaning) where
  end_origins : (seat : NodeSeat R S N O K M D Z W) (end : NodeEnd R S N O K M D Z W) → HasLife workers clock tells suite seat end
      → origins_in end.shards.items ≡ origins_in seat.shards.items
  end_origins seat end life =
      let closed = life.kept.closed in
      locked life.node.hall.locks end.shards.items closed.many (λ i lock shard l_is s_is. (closed.each i lock shard l_is s_is).origin)
      ∙ sym (of_locks life.node.hall.locks) ∙ ap (λ (ts : List (List (List ℕ) × List Told)). firsts ts) life.is.tales_are ∙ of_tales seat.shards.items

  ends_origins : (seats : List (NodeSeat R S N O K M D Z W)) (ends : List (NodeEnd R S N O K M D Z W)) → AllZip (HasLife workers clock tells suite) seats ends
      → map (λ list. origins_in list.items) (map shards_left ends) ≡ map (λ list. origins_in list) (map shards_in seats)
  ends_origins [] [] all = refl
  ends_origins [] (e ∷ es) all = absurd all
  ends_origins (s ∷ ss) [] all = absurd all
  ends_origins (s ∷ ss) (e ∷ es) all =
      ap (λ (os : List (List (List ℕ))). os ∷ map (λ list. origins_in list.items) (map shards_left es)) (end_origins s e all.0)
      ∙ ap (λ (oss : List (List (List (List ℕ)))). origins_in s.shards.items ∷ oss) (ends_origins ss es all.1)

-- of the nodes' lists
of_nodes : {R S K M D Z W : Type 0} (nodes : List (OpenNode R S K M D Z W)) → map (λ list. origins_in list) (map (λ node. node.shards.items) nodes) ≡ map (λ node. origins_in node.shards.items) nodes
of_nodes [] = refl
of_nodes (n ∷ ns) = ap (λ (oss : List (List (List (List ℕ)))). origins_in n.shards.items ∷ oss) (of_nodes ns)

module _ {R S N O K M D Z W : Type 0} where
  -- of nodes that have lived
  pub lived_origins : {C : Type 0} (workers : ℕ) (clock : C) (tells : Type 0) (suite : SuiteMeaning) (seats : List (NodeSeat R S N O K M D Z W)) (ends : List (NodeEnd R S N O K M D Z W))
      (nodes : List (OpenNode R S K M D Z W)) → AllZip (HasLife workers clock tells suite) seats ends → map shards_in seats ≡ map (λ node. node.shards.items) nodes
      → AreOriginsOf nodes (map shards_left ends)
  lived_origins workers clock tells suite seats ends nodes all same =
      ends_origins workers clock tells suite seats ends all ∙ ap (λ (ls : List (List ShardState)). map (λ list. origins_in list) ls) same ∙ of_nodes nodes

  -- of nodes that have not
  of_kept : (seats : List (NodeSeat R S N O K M D Z W)) → map (λ kept. firsts kept.1) (map kept_of seats) ≡ map (λ list. origins_in list) (map shards_in seats)
  of_kept [] = refl
  of_kept (s ∷ ss) =
      ap (λ (os : List (List (List ℕ))). os ∷ map (λ kept. firsts kept.1) (map kept_of ss)) (of_tales s.shards.items)
      ∙ ap (λ (oss : List (List (List (List ℕ)))). origins_in s.shards.items ∷ oss) (of_kept ss)

  of_lists : (seats : List (NodeSeat R S N O K M D Z W)) → map (λ list. origins_in list.items) (map shards_of_seat seats) ≡ map (λ list. origins_in list) (map shards_in seats)
  of_lists [] = refl
  of_lists (s ∷ ss) = ap (λ (oss : List (List (List (List ℕ)))). origins_in s.shards.items ∷ oss) (of_lists ss)

  pub kept_origins : (seats back : List (NodeSeat R S N O K M D Z W)) (nodes : List (OpenNode R S K M D Z W)) → map kept_of back ≡ map kept_of seats
      → map shards_in seats ≡ map (λ node. node.shards.items) nodes → AreOriginsOf nodes (map shards_of_seat back)
  kept_origins seats back nodes kept same =
      of_lists back ∙ sym (of_kept back) ∙ ap (λ (ks : List (Setup × List (List (List ℕ) × List Told))). map (λ kept. firsts kept.1) ks) kept ∙ of_kept seats
      ∙ ap (λ (ls : List (List ShardState)). map (λ list. origins_in list) ls) same ∙ of_nodes nodes

-- ---- how many nodes there are

zip_long : {X Y : Type 0} (P : X → Y → Type 0) (xs : List X) (ys : List Y) → AllZip P xs ys → length ys ≡ length xs
zip_long P [] [] all = refl
zip_long P [] (y ∷ ys) all = absurd all
zip_long P (x ∷ xs) [] all = absurd all
zip_long P (x ∷ xs) (y ∷ ys) all = ap (λ n. suc n) (zip_long P xs ys all.1)

module _ {R S N O K M D Z W : Type 0} where
  seats_many : (seats : List (NodeSeat R S N O K M D Z W)) (nodes : List (OpenNode R S K M D Z W)) → map shards_in seats ≡ map (λ node. node.shards.items) nodes
      → length nodes ≡ length seats
  seats_many seats nodes same =
      sym (map_long (λ (node : OpenNode R S K M D Z W). node.shards.items) nodes) ∙ ap (λ (ls : List (List ShardState)). length ls) (sym same) ∙ map_long shards_in seats

  -- as many have lived as were opened
  pub ends_many : {C : Type 0} (workers : ℕ) (clock : C) (tells : Type 0) (suite : SuiteMeaning) (seats : List (NodeSeat R S N O K M D Z W)) (ends : List (NodeEnd R S N O K M D Z W))
      (nodes : List (OpenNode R S K M D Z W)) → AllZip (HasLife workers clock tells suite) seats ends → map shards_in seats ≡ map (λ node. node.shards.items) nodes → length nodes ≡ length ends
  ends_many workers clock tells suite seats ends nodes all same =
      seats_many seats nodes same ∙ sym (zip_long (HasLife workers clock tells suite) seats ends all)

  -- and as many are back
  pub back_many : (seats back : List (NodeSeat R S N O K M D Z W)) (nodes : List (OpenNode R S K M D Z W)) → map kept_of back ≡ map kept_of seats
      → map shards_in seats ≡ map (λ node. node.shards.items) nodes → length nodes ≡ length back
  back_many seats back nodes kept same =
      seats_many seats nodes same ∙ sym (map_long kept_of seats)
      ∙ ap (λ (ks : List (Setup × List (List (List ℕ) × List Told))). length ks) (sym kept) ∙ map_long kept_of back
