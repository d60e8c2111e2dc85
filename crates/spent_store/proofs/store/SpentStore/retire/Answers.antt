use Rattle.std.proofs.Common.{[], ◌∷◌, inl, refl, subst}
use Rattle.replay_disk.proofs.Laws.{started, weaker}
use Rattle.spent_store.specs.Changes.{raised, retirement_stages}
use Rattle.spent_store.specs.Kept.{Leaves}
use Rattle.spent_store.specs.Stores.{StoreState, OpensToOneOf, UnusedStay, as_read, opened}
use Rattle.spent_store.proofs.Stages.{standing, reads_still, in_two}
use Rattle.spent_store.proofs.store.SpentStore.retire.Goals as goal

pub returns-then-self-count-clause-each_moment : goal.returns-then-self-count-clause-each_moment
returns-then-self-count-clause-each_moment g c t =
    let s0 = g.R.Rack.state c.args.rack.now in
    let store = c.args.self.now in
    started (OpensToOneOf store.shape store.limit (as_read (retirement_stages c.args.floor store.book))) s0
    (λ left. in_two store.book (raised c.args.floor store.book) (opened store.shape store.limit s0.areas left) (inl (reads_still store s0.areas (c.requires.stands t) left)))

pub returns-then-self-count-clause-unused : goal.returns-then-self-count-clause-unused
returns-then-self-count-clause-unused g c t =
    let s0 = g.R.Rack.state c.args.rack.now in
    started (UnusedStay [] s0.areas) s0 (λ area some low unused. refl)

pub returns-in-Ok-clause-done : goal.returns-in-Ok-clause-done
returns-in-Ok-clause-done g c t =
    let s1 = g.R.Rack.state c.raise.new.rack in
    subst (λ (s : StoreState). OpensToOneOf s.shape s.limit (as_read (s.book ∷ [])) s1.areas) c.in-Ok.ensures.ok (standing c.raise.new.self s1.areas (c.in-Ok.ensures.stands t))

pub returns-in-Ok-clause-each_moment : goal.returns-in-Ok-clause-each_moment
returns-in-Ok-clause-each_moment g c t =
    let store = c.args.self.now in
    let s0 = g.R.Rack.state c.args.rack.now in
    let stages = retirement_stages c.args.floor store.book in
    weaker (Leaves store.shape store.limit stages [] s0.areas) (OpensToOneOf store.shape store.limit (as_read stages)) s0 (g.R.Rack.state c.raise.new.rack) (λ now leaves. leaves.opens) (c.raise.ensures.each_moment t [])

pub returns-in-Ok-clause-unused : goal.returns-in-Ok-clause-unused
returns-in-Ok-clause-unused g c t =
    let store = c.args.self.now in
    let s0 = g.R.Rack.state c.args.rack.now in
    weaker (Leaves store.shape store.limit (retirement_stages c.args.floor store.book) [] s0.areas) (UnusedStay [] s0.areas) s0 (g.R.Rack.state c.raise.new.rack) (λ now leaves. leaves.others) (c.raise.ensures.each_moment t [])

pub returns-in-Err-clause-each_moment : goal.returns-in-Err-clause-each_moment
returns-in-Err-clause-each_moment g c t =
    let store = c.args.self.now in
    let s0 = g.R.Rack.state c.args.rack.now in
    let stages = retirement_stages c.args.floor store.book in
    weaker (Leaves store.shape store.limit stages [] s0.areas) (OpensToOneOf store.shape store.limit (as_read stages)) s0 (g.R.Rack.state c.raise.new.rack) (λ now leaves. leaves.opens) (c.raise.ensures.each_moment t [])

pub returns-in-Err-clause-unused : goal.returns-in-Err-clause-unused
returns-in-Err-clause-unused g c t =
    let store = c.args.self.now in
    let s0 = g.R.Rack.state c.args.rack.now in
    weaker (Leaves store.shape store.limit (retirement_stages c.args.floor store.book) [] s0.areas) (UnusedStay [] s0.areas) s0 (g.R.Rack.state c.raise.new.rack) (λ now leaves. leaves.others) (c.raise.ensures.each_moment t [])
