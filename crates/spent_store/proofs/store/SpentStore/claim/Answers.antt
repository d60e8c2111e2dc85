use Rattle.std.proofs.Common.{ℕ, List, [], ◌∷◌, refl, subst, arith}
use Rattle.replay_disk.proofs.Laws.{started, weaker}
use Rattle.spent_store.specs.Changes.{raised, begun_with, claimed, claim_stages}
use Rattle.spent_store.specs.Kept.{Leaves}
use Rattle.spent_store.specs.Stores.{StoreState, OpensToOneOf, UnusedStay, opened, as_read}
use Rattle.spent_store.proofs.Leaving.{among_front}
use Rattle.spent_store.proofs.Stages.{standing}
use Rattle.spent_store.proofs.store.SpentStore.claim.Goals as goal

pub returns-in-Some-clause-each_moment : goal.returns-in-Some-clause-each_moment
returns-in-Some-clause-each_moment g c t =
    let s0 = g.R.Rack.state c.args.rack.now in
    let store = c.args.self.now in
    let tags : List (List ℕ) = c.args.tag.now ∷ [] in
    let behind = raised c.args.least store.book ∷ begun_with c.args.epoch (raised c.args.least store.book) ∷ claimed c.args.epoch tags c.args.least store.book ∷ [] in
    started (OpensToOneOf store.shape store.limit (as_read (claim_stages c.args.epoch tags c.args.least store.book))) s0
    (λ left. among_front (store.book ∷ []) behind (opened store.shape store.limit s0.areas left) (standing store s0.areas (c.requires.stands t) left))

pub returns-in-Some-clause-unused : goal.returns-in-Some-clause-unused
returns-in-Some-clause-unused g c t =
    let s0 = g.R.Rack.state c.args.rack.now in
    started (UnusedStay (c.args.epoch ∷ []) s0.areas) s0 (λ area some low unused. refl)

pub returns-in-Ok-clause-spare : goal.returns-in-Ok-clause-spare
returns-in-Ok-clause-spare g c = omega (arith, c.refusal.ensures.one)

pub returns-in-Err-clause-spare : goal.returns-in-Err-clause-spare
returns-in-Err-clause-spare g c = omega (arith, c.refusal.ensures.one)

pub returns-in-Ok-clause-done : goal.returns-in-Ok-clause-done
returns-in-Ok-clause-done g c t =
    let s1 = g.R.Rack.state c.accept.new.rack in
    subst (λ (s : StoreState). OpensToOneOf s.shape s.limit (as_read (s.book ∷ [])) s1.areas) c.in-Ok.ensures.ok (standing c.accept.new.self s1.areas (c.in-Ok.ensures.stands t))

pub returns-in-Ok-clause-each_moment : goal.returns-in-Ok-clause-each_moment
returns-in-Ok-clause-each_moment g c t =
    let store = c.args.self.now in
    let s0 = g.R.Rack.state c.args.rack.now in
    let stages = claim_stages c.args.epoch (c.args.tag.now ∷ []) c.args.least store.book in
    weaker (Leaves store.shape store.limit stages (c.args.epoch ∷ []) s0.areas) (OpensToOneOf store.shape store.limit (as_read stages)) s0 (g.R.Rack.state c.accept.new.rack) (λ now leaves. leaves.opens) (c.accept.ensures.each_moment t)

pub returns-in-Ok-clause-unused : goal.returns-in-Ok-clause-unused
returns-in-Ok-clause-unused g c t =
    let store = c.args.self.now in
    let s0 = g.R.Rack.state c.args.rack.now in
    weaker (Leaves store.shape store.limit (claim_stages c.args.epoch (c.args.tag.now ∷ []) c.args.least store.book) (c.args.epoch ∷ []) s0.areas) (UnusedStay (c.args.epoch ∷ []) s0.areas) s0 (g.R.Rack.state c.accept.new.rack)
    (λ now leaves. leaves.others) (c.accept.ensures.each_moment t)

pub returns-in-Err-clause-each_moment : goal.returns-in-Err-clause-each_moment
returns-in-Err-clause-each_moment g c t =
    let store = c.args.self.now in
    let s0 = g.R.Rack.state c.args.rack.now in
    let stages = claim_stages c.args.epoch (c.args.tag.now ∷ []) c.args.least store.book in
    weaker (Leaves store.shape store.limit stages (c.args.epoch ∷ []) s0.areas) (OpensToOneOf store.shape store.limit (as_read stages)) s0 (g.R.Rack.state c.accept.new.rack) (λ now leaves. leaves.opens) (c.accept.ensures.each_moment t)

pub returns-in-Err-clause-unused : goal.returns-in-Err-clause-unused
returns-in-Err-clause-unused g c t =
    let store = c.args.self.now in
    let s0 = g.R.Rack.state c.args.rack.now in
    weaker (Leaves store.shape store.limit (claim_stages c.args.epoch (c.args.tag.now ∷ []) c.args.least store.book) (c.args.epoch ∷ []) s0.areas) (UnusedStay (c.args.epoch ∷ []) s0.areas) s0 (g.R.Rack.state c.accept.new.rack)
    (λ now leaves. leaves.others) (c.accept.ensures.each_moment t)
