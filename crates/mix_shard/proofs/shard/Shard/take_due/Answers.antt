use Rattle.std.proofs.Common.{ℕ, [], ◌∷◌, refl, sym, ap, inl, None, arith}
use Rattle.std.proofs.lemmas.List.Sorted.{length_permutation}
use Rattle.mix_shard.specs.Kept.{state_of}
use Rattle.mix_shard.specs.declared.entries.Entry.TheVariants.{Take}
use Rattle.mix_shard.specs.declared.entries.Told.{Told}
use Rattle.mix_shard.proofs.Keeping.{keeps_beside}
use Rattle.mix_shard.proofs.Rooms.{entries_told}
use Rattle.mix_shard.proofs.Tales.{one_step}
use Rattle.mix_shard.proofs.shard.Shard.take_due.Goals as goal

pub invariant_of-self-2 : goal.invariant_of-self-2
invariant_of-self-2 g c =
    let one : Told = record { entry = Take c.args.caller c.number.result c.args.dest.now c.args.moment; packet = None } in
    let state = state_of c.self.inside.terms (g.R.Rack.state c.self.inside.first.value).areas c.self.inside.store c.self.inside.causes.items c.take.new.self.items c.self.inside.done.items in
    let fewer = length_permutation c.self.inside.held.items (c.in_ok-held.held ∷ c.take.new.self.items) c.in_ok-held.ensures.rest in (
      keeps_beside g.R.Rack.tells g.S.Suite.meaning _ one c.tell.new.tale.items state c.self.inside.store _ c.self.invariant.0
          c.tell.ensures.tale
          (record { item = c.in_ok-held.held; number_is = sym c.number.ensures.value; first = c.in_ok-held.ensures.taken; rest = c.in_ok-held.ensures.rest; journal = refl; done = refl })
          refl refl refl c.self.invariant.0.callers,
      entries_told c.self.inside.entries.items c.tell.new.entries.items c.self.inside.told.items c.tell.new.tale.items one c.tell.ensures.entries c.tell.ensures.tale c.self.invariant.1,
      omega (arith, fewer, c.self.invariant.2, c.tell.ensures.one_more, c.tell.ensures.room),
      omega (arith, c.self.invariant.3, c.tell.ensures.room),
    )

pub returns-clause-told : goal.returns-clause-told
returns-clause-told g c =
    let one : Told = record { entry = Take c.args.caller c.number.result c.args.dest.now c.args.moment; packet = None } in
    rw (← c.self.view_is) (record {
      began = record { terms = refl; first = refl; faults = refl };
      opening = [];
      by_caller = inl refl;
      own = one ∷ [];
      own_is = (one, refl, ap (λ (n : ℕ). Take c.args.caller n c.args.dest.now c.args.moment) c.number.ensures.value);
      told = c.tell.ensures.tale;
      steps = one_step g.R.Rack.tells g.S.Suite.meaning c.self.inside.terms _ _ one
          (record { item = c.in_ok-held.held; number_is = sym c.number.ensures.value; first = c.in_ok-held.ensures.taken; rest = c.in_ok-held.ensures.rest; journal = refl; done = refl });
    })

pub returns-clause-kept : goal.returns-clause-kept
returns-clause-kept g c =
    let kept = (invariant_of-self-2 g c).0.kept in
    record { tale = kept.tale; reads = kept.reads; covers = kept.covers; failures = kept.failures; no_fewer = kept.no_fewer; since_made = kept.since_made }
