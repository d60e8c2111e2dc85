-- Nodes whose shards are open can live.
use Rattle.std.proofs.Common.{◌≡◌, ◌≤◌, ◌<◌, ◌+◌, ◌^◌, ℕ, Bool, false, zero, suc, List, [], ◌∷◌, ◌++◌, length, map, Some, slice_get, replicate, reverse, refl, sym, ap, subst, ◌∙◌, zero-add, arith}
use Rattle.std.specs.Prelude.{All}
use Rattle.std.specs.Global.{Vec}
use Rattle.mix_base.specs.Suites.{SuiteMeaning}
use Rattle.mix_base.specs.declared.shards.Shape.{Shape}
use Rattle.replay_disk.specs.Disk.{RackState}
use Rattle.mix_shard.specs.Shards.{ShardState}
use Rattle.mix_shard.specs.Tale.{State}
use Rattle.mix_shard.specs.declared.setup.Setup.{Setup}
use Rattle.mix_shard.specs.declared.terms.Terms.{Terms}
use Rattle.turn_lock.proofs.Lists.{all_cons}
use Rattle.node_run.specs.Openings.{CanOpen, IsShardAt, IsUnused}
use Rattle.node_run.specs.Roles.{callers_for}
use Rattle.node_run.specs.Seats.{CanLive, setup_in}
use Rattle.node_run.specs.declared.life.seats.NodeSeat.{NodeSeat}
use Rattle.net_run.specs.Opening.{AreOpened, IsOpened}
use Rattle.net_run.specs.Seats.{CanSit}
use Rattle.net_run.specs.declared.lines.NodeLinks.{NodeLinks}
use Rattle.net_run.specs.declared.nodes.OpenNode.{OpenNode}
use Rattle.net_run.specs.declared.opening.NodePlan.{NodePlan}
use Rattle.net_run.proofs.Opens.{opened_long}

copies_at : (count k : ℕ) (b : Bool) → k < count → slice_get (replicate count b) k ≡ Some b
copies_at zero k b low = absurd (omega (arith, low))
copies_at (suc count) zero b low = refl
copies_at (suc count) (suc k) b low = copies_at count k b (omega (arith, low))

module _ (tells : Type 0) (suite : SuiteMeaning) (plan : NodePlan) where
  unused_one : (index : ℕ) (rack : RackState) (shard : ShardState) → IsOpened tells suite plan index rack shard → IsUnused plan.callers shard
  unused_one index rack shard is = record {
    callers_are = ap (λ (t : Terms). t.callers) is.began_on.terms;
    holds_nothing = ap (λ (s : State). s.held) is.state;
    nobody_done = λ caller low. ap (λ (done : List Bool). slice_get done caller) (ap (λ (s : State). s.done) is.state) ∙ copies_at plan.callers caller false low;
  }

  all_unused : (index : ℕ) (racks : List RackState) (shards : List ShardState) → AreOpened tells suite plan index racks shards → All (IsUnused plan.callers) shards
  all_unused index [] [] all = λ k d low. absurd (omega (arith, low))
  all_unused index [] (s ∷ ss) all = absurd all
  all_unused index (r ∷ rs) [] all = absurd all
  all_unused index (r ∷ rs) (s ∷ ss) all = all_cons (IsUnused plan.callers) s ss (unused_one index r s all.0) (all_unused (index + 1) rs ss all.1)

  terms_of_shard : (many index : ℕ) (rack : RackState) (shard : ShardState) → many ≡ plan.shards → IsOpened tells suite plan index rack shard → IsShardAt plan.setup many index shard
  terms_of_shard many index rack shard long is = record {
    shape_is = ap (λ (t : Terms). t.shape) is.began_on.terms ∙ ap (λ (n : ℕ). let s : Shape = record { shards = n; index = index } in s) (sym long);
    setup_is = ap (λ (t : Terms). t.setup) is.began_on.terms;
  }

  all_places : (many index : ℕ) (racks : List RackState) (shards : List ShardState) → many ≡ plan.shards → AreOpened tells suite plan index racks shards
      → (i : ℕ) (shard : ShardState) → slice_get shards i ≡ Some shard → IsShardAt plan.setup many (index + i) shard
  all_places many index [] [] long all i shard there = absurd (cc)
  all_places many index [] (s ∷ ss) long all i shard there = absurd all
  all_places many index (r ∷ rs) [] long all i shard there = absurd all
  all_places many index (r ∷ rs) (s ∷ ss) long all zero shard there =
      subst (λ (k : ℕ). IsShardAt plan.setup many k shard) {x = index} {y = index + 0} (omega arith)
      (subst (λ (one : ShardState). IsShardAt plan.setup many index one) (same_shard s shard there) (terms_of_shard many index r s long all.0))
    where
      same_shard : (one other : ShardState) → Some one ≡ Some other → one ≡ other
      same_shard one other e = cc
  all_places many index (r ∷ rs) (s ∷ ss) long all (suc i) shard there =
      subst (λ (k : ℕ). IsShardAt plan.setup many k shard) {x = index + 1 + i} {y = index + suc i} (omega arith)
      (all_places many (index + 1) rs ss long all.1 i shard there)

module _ {R S N O K M D Z W : Type 0} where
  pub can_live : (tells : Type 0) (suite : SuiteMeaning) (ct workers : ℕ) (node : OpenNode R S K M D Z W) (links : NodeLinks N O) (seat : NodeSeat R S N O K M D Z W)
      → CanSit tells suite ct workers node links → setup_in seat ≡ node.plan.setup → seat.shards ≡ node.shards → seat.incoming ≡ links.incoming → seat.outgoing ≡ links.outgoing
      → CanLive ct workers seat
  can_live tells suite ct workers node links seat can setup shards incoming outgoing =
      let long = sym (opened_long tells suite node.plan 0 can.racks node.shards.items can.opened) ∙ can.many in
      let opens : CanOpen node.plan.setup node.shards.items (length links.incoming.items) workers (length links.outgoing.items) =
      record {
        some = (let a = can.plan.some in omega (arith, long));
        few = (let a = can.plan.most in omega (arith, long));
        working = can.working;
        callers = subst (λ (n : ℕ). n < 2 ^ 32) can.callers can.few;
        places = λ i shard there. subst (λ (k : ℕ). IsShardAt node.plan.setup (length node.shards.items) k shard) (zero-add i)
            (all_places tells suite node.plan (length node.shards.items) 0 can.racks node.shards.items long can.opened i shard there);
        unused = subst (λ (n : ℕ). All (IsUnused n) node.shards.items) can.callers (all_unused tells suite node.plan 0 can.racks node.shards.items can.opened);
      } in
      record {
        opens = subst (λ (s : Setup). CanOpen s seat.shards.items (length seat.incoming.items) workers (length seat.outgoing.items)) (sym setup)
            (subst (λ (ss : List ShardState). CanOpen node.plan.setup ss (length seat.incoming.items) workers (length seat.outgoing.items)) (ap (λ v. v.items) (sym shards))
            (subst (λ (n : ℕ). CanOpen node.plan.setup node.shards.items n workers (length seat.outgoing.items)) (ap (λ v. length v.items) (sym incoming))
            (subst (λ (n : ℕ). CanOpen node.plan.setup node.shards.items (length links.incoming.items) workers n) (ap (λ v. length v.items) (sym outgoing)) opens)));
        ciphertext_is = ap (λ (s : Setup). s.geometry.ct) setup ∙ can.ciphertext_is;
      }
