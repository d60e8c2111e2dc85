use Rattle.std.proofs.Common.{◌^◌, ◌<◌, [], inl, refl, sym, ◌∙◌, ap, subst, arith, rules}
use Rattle.replay_disk.proofs.Laws.{started}
use Rattle.spent_store.specs.Changes.{raised, retirement_stages}
use Rattle.spent_store.specs.Kept.{Leaves}
use Rattle.spent_store.specs.Stores.{StoreState, Stands, opened}
use Rattle.spent_store.proofs.Changing.{floor_moments, floor_read_then, floor_stands}
use Rattle.spent_store.proofs.Leaving.{on_any}
use Rattle.spent_store.proofs.Stages.{reads_still, in_two}
use Rattle.spent_store.proofs.StoreLogs.{raised_kept, of_store_kept, near_logs_kept}
use Rattle.spent_store.proofs.store.SpentStore.raise.Goals as goal

pub returns-then-floor-self-clause-each_moment : goal.returns-then-floor-self-clause-each_moment
returns-then-floor-self-clause-each_moment g c t epochs =
    let s0 = g.R.Rack.state c.args.rack.now in
    let store = c.args.self.now in
    started (Leaves store.shape store.limit (retirement_stages c.args.floor store.book) epochs s0.areas) s0
    (record {
      opens = λ left. in_two store.book (raised c.args.floor store.book) (opened store.shape store.limit s0.areas left) (inl (reads_still store s0.areas (c.requires.stands t) left));
      others = λ area some low unused. refl;
    })

pub returns-in_err-append_root-clause-each_moment : goal.returns-in_err-append_root-clause-each_moment
returns-in_err-append_root-clause-each_moment g c t epochs =
    let store = c.args.self.now in
    let small : c.args.floor < 2 ^ 64 = search rules in
    let above : store.book.floor < c.args.floor = omega (arith, c.if-floor-self.false, ap (λ (s : StoreState). s.book.floor) c.self.view_is) in
    floor_moments store c.args.floor epochs (g.R.Rack.state c.args.rack.now) (g.R.Rack.state c.append_root.new.rack) (c.requires.stands t) (c.requires.fits above) small above (c.append_root.ensures.each_moment t)

pub returns-in_err-append_root-clause-reads : goal.returns-in_err-append_root-clause-reads
returns-in_err-append_root-clause-reads g c t =
    let store = c.args.self.now in
    let small : c.args.floor < 2 ^ 64 = search rules in
    let above : store.book.floor < c.args.floor = omega (arith, c.if-floor-self.false, ap (λ (s : StoreState). s.book.floor) c.self.view_is) in
    on_any c.from_residual.result
    (floor_read_then store c.args.floor [] (g.R.Rack.state c.args.rack.now) (g.R.Rack.state c.append_root.new.rack) (c.requires.stands t) (c.requires.fits above) small above (c.append_root.ensures.each_moment t)
    (c.append_root.ensures.image t))

pub returns-clause-each_moment : goal.returns-clause-each_moment
returns-clause-each_moment g c t epochs =
    let store = c.args.self.now in
    let small : c.args.floor < 2 ^ 64 = search rules in
    let above : store.book.floor < c.args.floor = omega (arith, c.if-floor-self.false, ap (λ (s : StoreState). s.book.floor) c.self.view_is) in
    floor_moments store c.args.floor epochs (g.R.Rack.state c.args.rack.now) (g.R.Rack.state c.append_root.new.rack) (c.requires.stands t) (c.requires.fits above) small above (c.append_root.ensures.each_moment t)

pub returns-clause-ok : goal.returns-clause-ok
returns-clause-ok g c =
    let store = c.args.self.now in
    let above : store.book.floor < c.args.floor = omega (arith, c.if-floor-self.false, ap (λ (s : StoreState). s.book.floor) c.self.view_is) in
    let is = c.self-2.view_is ∙ c.in_ok-append_root.ensures.ok in
    let book = raised_kept c.args.floor store.book c.self-2.inside.logs.items c.keep_from.new.logs.items c.self-2.inside.roots.items above
    (ap (λ (s : StoreState). s.book.logs) is) c.keep_from.ensures.logs (ap (λ (s : StoreState). s.book.roots) is) in
    λ i. record {
      shape = ap (λ (s : StoreState). s.shape) is i;
      limit = ap (λ (s : StoreState). s.limit) is i;
      book = book i;
      is_sound = ap (λ (s : StoreState). s.is_sound) is i;
      spare = ap (λ (s : StoreState). s.spare) is i;
    }

pub returns-clause-stands : goal.returns-clause-stands
returns-clause-stands g c t =
    let s1 = g.R.Rack.state c.append_root.new.rack in
    let store = c.args.self.now in
    let small : c.args.floor < 2 ^ 64 = search rules in
    let above : store.book.floor < c.args.floor = omega (arith, c.if-floor-self.false, ap (λ (s : StoreState). s.book.floor) c.self.view_is) in
    subst (λ (s : StoreState). Stands s s1.areas) (sym (returns-clause-ok g c))
    (floor_stands store c.args.floor [] (g.R.Rack.state c.args.rack.now) s1 (c.requires.stands t) (c.requires.fits above) small above (c.append_root.ensures.each_moment t)
    (c.in_ok-append_root.ensures.rest t) (c.in_ok-append_root.ensures.records t))

pub invariant_of-self : goal.invariant_of-self
invariant_of-self g c =
    let old = c.self-2.inside in
    let kept = c.self-2.invariant in
    let is = c.self-2.view_is ∙ c.in_ok-append_root.ensures.ok in
    let above : old.floor < c.args.floor = omega (arith, c.if-floor-self.false, ap (λ (s : StoreState). s.book.floor) c.self.view_is, ap (λ (s : StoreState). s.book.floor) is) in (
      kept.0,
      kept.1,
      near_logs_kept old.floor c.args.floor old.logs.items c.keep_from.new.logs.items above c.keep_from.ensures.logs kept.2,
      of_store_kept old.limit old.sound old.ready c.args.floor old.logs.items c.keep_from.new.logs.items c.keep_from.ensures.logs kept.3,
      omega (arith, kept.4, c.keep_from.ensures.capacity),
      kept.5,
    )
