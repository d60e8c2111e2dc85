use Rattle.std.proofs.Common.{◌≡◌, ◌+◌, [], ◌∷◌, ◌++◌, List, ℕ, length, map, reverse, refl, sym, ap, subst, ◌∙◌, inl, arith}
use Rattle.std.proofs.lemmas.List.{append-nil, length_push, reverse-reverse}
use Rattle.replay_disk.specs.Disk.{RackState}
use Rattle.net_run.specs.Opening.{AreOpened, IsOpened}
use Rattle.net_run.proofs.Laters.{all_same}
use Rattle.net_run.proofs.Opens.{opened_more, racks_back, stopped_by}
use Rattle.net_run.proofs.Stacks.{empty_list, first_of, met_more, met_next}
use Rattle.net_run.proofs.opening.open_shards.Goals as goal

pub returns-in_default-clause-back : goal.returns-in_default-clause-back
returns-in_default-clause-back g c = all_same (map g.R.Rack.state c.args.racks.now.items)

pub shards-init : goal.shards-init
shards-init g c =
    let reversed = c.reverse.ensures in
    let made = c.in-Ok.ensures in
    let many = c.args.racks.now.ok.0 in
    record {
      met = [];
      are = ap (λ racks. map g.R.Rack.state racks) (sym (reverse-reverse c.args.racks.now.items) ∙ ap (λ racks. reverse racks) (sym reversed.items));
      count = refl;
      opened = subst (λ shards. AreOpened g.R.Rack.tells g.S.Suite.meaning c.args.plan.now 0 [] shards) (sym made.items) tt;
      size = made.len;
      room = made.capacity;
      len = omega (arith, reversed.len, many, c.requires.count, made.len);
      fit = omega (arith, reversed.capacity, many, c.requires.count, c.args.racks.now.ok.1);
      capacity = reversed.capacity;
    }

pub returns-in-Err-clause-back : goal.returns-in-Err-clause-back
returns-in-Err-clause-back g c =
    let before = c.shards.invariant in
    racks_back g.R.Rack.tells g.S.Suite.meaning c.args.plan.now before.met (map g.R.Rack.state (reverse c.pop.new.self.items)) (map g.R.Rack.state c.args.racks.now.items)
    (map g.R.Rack.state c.reverse-in-Err.new.self.items) c.shards.shards.items (g.R.Rack.state c.in-Some.rack) (g.R.Rack.state c.in-Err.rack) before.opened
    (met_next g.R.Rack.state (map g.R.Rack.state c.args.racks.now.items) before.met c.shards.racks.items c.pop.new.self.items c.in-Some.rack before.are c.in-Some.ensures.items)
    (ap (λ racks. map g.R.Rack.state racks) c.reverse-in-Err.ensures.items ∙ c.push_shards.ensures.put
    ∙ ap (λ racks. map (λ shard. shard.rack) c.shards.shards.items ++ racks) (first_of g.R.Rack.state c.push_reserved-in-Err.new.self.items c.pop.new.self.items c.in-Err.rack c.push_reserved-in-Err.ensures.items))
    c.in-Err.ensures.back

pub returns-in-Err-clause-cause : goal.returns-in-Err-clause-cause
returns-in-Err-clause-cause g c =
    let before = c.shards.invariant in
    stopped_by g.R.Rack.tells g.S.Suite.meaning c.args.plan.now before.met (map g.R.Rack.state (reverse c.pop.new.self.items)) (map g.R.Rack.state c.args.racks.now.items)
    (map g.R.Rack.state c.reverse-in-Err.new.self.items) c.shards.shards.items (g.R.Rack.state c.in-Some.rack) (g.R.Rack.state c.in-Err.rack) c.in-Err.status c.shards.index before.opened before.count
    (met_next g.R.Rack.state (map g.R.Rack.state c.args.racks.now.items) before.met c.shards.racks.items c.pop.new.self.items c.in-Some.rack before.are c.in-Some.ensures.items)
    (ap (λ racks. map g.R.Rack.state racks) c.reverse-in-Err.ensures.items ∙ c.push_shards.ensures.put
    ∙ ap (λ racks. map (λ shard. shard.rack) c.shards.shards.items ++ racks) (first_of g.R.Rack.state c.push_reserved-in-Err.new.self.items c.pop.new.self.items c.in-Err.rack c.push_reserved-in-Err.ensures.items))
    c.in-Err.ensures.cause

pub shards-preserved : goal.shards-preserved
shards-preserved g c =
    let before = c.shards.invariant in
    let popped = c.in-Some.ensures.cases in
    let pushed = c.push_reserved.ensures in
    let rack = g.R.Rack.state c.in-Some.rack in
    record {
      met = before.met ++ rack ∷ [];
      are = met_more (map g.R.Rack.state c.args.racks.now.items) before.met (map g.R.Rack.state (reverse c.pop.new.self.items)) rack
          (met_next g.R.Rack.state (map g.R.Rack.state c.args.racks.now.items) before.met c.shards.racks.items c.pop.new.self.items c.in-Some.rack before.are c.in-Some.ensures.items);
      count = length_push before.met rack ∙ ap (λ n. n + 1) before.count;
      opened = subst (λ shards. AreOpened g.R.Rack.tells g.S.Suite.meaning c.args.plan.now 0 (before.met ++ rack ∷ []) shards) (sym pushed.items)
          (opened_more g.R.Rack.tells g.S.Suite.meaning c.args.plan.now 0 before.met c.shards.shards.items rack c.in-Ok-open_shard.shard before.opened
          (subst (λ (i : ℕ). IsOpened g.R.Rack.tells g.S.Suite.meaning c.args.plan.now i rack c.in-Ok-open_shard.shard) (omega (arith, before.count)) c.in-Ok-open_shard.ensures.opened));
      size = omega (arith, pushed.len, before.size);
      room = omega (arith, pushed.capacity, before.room);
      len = omega (arith, pushed.len, popped, before.len);
      fit = omega (arith, popped, before.fit);
      capacity = (let a = before.capacity in omega (arith, popped));
    }

pub returns-clause-opened : goal.returns-clause-opened
returns-clause-opened g c =
    let before = c.shards.invariant in
    let at_end = c.shards.auto.index-end in
    let none : c.shards.racks.items ≡ [] = empty_list c.shards.racks.items (omega (arith, before.len, before.size, c.shards.racks.ok.0, c.shards-test.false, at_end)) in
    subst (λ racks. AreOpened g.R.Rack.tells g.S.Suite.meaning c.args.plan.now 0 racks c.shards.shards.items)
    (sym (before.are ∙ ap (λ racks. before.met ++ map g.R.Rack.state (reverse racks)) none ∙ append-nil before.met)) before.opened
