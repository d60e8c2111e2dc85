use Rattle.std.proofs.Common.{◌≡◌, true, false, [], ◌∷◌, set, refl, ◌∙◌, inl, Some, None, arith}
use Rattle.std.proofs.lemmas.List.{length-set}
use Rattle.std.specs.List.{slice_get}
use Rattle.mix_shard.specs.Kept.{state_of}
use Rattle.mix_shard.specs.declared.entries.Entry.TheVariants.{Done}
use Rattle.mix_shard.specs.declared.entries.Told.{Told}
use Rattle.mix_shard.proofs.Keeping.{keeps_beside}
use Rattle.mix_shard.proofs.Rooms.{done_more, entries_told}
use Rattle.mix_shard.proofs.Tales.{one_step}
use Rattle.mix_shard.proofs.shard.Shard.done.Goals as goal

pub tell-requires : goal.tell-requires
tell-requires g c =
    let active : slice_get c.self.inside.done.items c.args.caller ≡ Some false = rw (← c.self.view_is) at c.requires in
    omega (arith, done_more c.self.inside.done.items c.args.caller active, c.self.invariant.2)

pub invariant_of-self : goal.invariant_of-self
invariant_of-self g c =
    let active : slice_get c.self.inside.done.items c.args.caller ≡ Some false = rw (← c.self.view_is) at c.requires in
    let fewer = done_more c.self.inside.done.items c.args.caller active in
    let one : Told = record { entry = Done c.args.caller; packet = None } in
    let done = set c.self.inside.done.items c.args.caller true in
    let state = state_of c.self.inside.terms (g.R.Rack.state c.self.inside.first.value).areas c.self.inside.store c.self.inside.causes.items c.self.inside.held.items done in (
      keeps_beside g.R.Rack.tells g.S.Suite.meaning _ one c.tell.new.tale.items state c.self.inside.store _ c.self.invariant.0
          c.tell.ensures.tale (active, refl) refl refl refl (length-set c.self.inside.done.items c.args.caller true ∙ c.self.invariant.0.callers),
      entries_told c.self.inside.entries.items c.tell.new.entries.items c.self.inside.told.items c.tell.new.tale.items one c.tell.ensures.entries c.tell.ensures.tale c.self.invariant.1,
      omega (arith, fewer, c.self.invariant.2, c.tell.ensures.one_more, c.tell.ensures.room),
      omega (arith, c.self.invariant.3, c.tell.ensures.room),
    )

pub returns-clause-told : goal.returns-clause-told
returns-clause-told g c =
    let active : slice_get c.self.inside.done.items c.args.caller ≡ Some false = rw (← c.self.view_is) at c.requires in
    let one : Told = record { entry = Done c.args.caller; packet = None } in
    rw (← c.self.view_is) (record {
      began = record { terms = refl; first = refl; faults = refl };
      opening = [];
      by_caller = inl refl;
      own = one ∷ [];
      own_is = (one, refl, refl);
      told = c.tell.ensures.tale;
      steps = one_step g.R.Rack.tells g.S.Suite.meaning c.self.inside.terms _ _ one (active, refl);
    })

pub returns-clause-kept : goal.returns-clause-kept
returns-clause-kept g c =
    let kept = (invariant_of-self g c).0.kept in
    record { tale = kept.tale; reads = kept.reads; covers = kept.covers; failures = kept.failures; no_fewer = kept.no_fewer; since_made = kept.since_made }
