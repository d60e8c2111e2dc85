use Rattle.std.proofs.Common.{◌≡◌, ℕ, true, false, List, [], ◌∷◌, length, map, max, Some, Contains, inl, inr, refl, sym, ◌∙◌, ap, subst, arith}
use Rattle.mix_base.specs.Shards.{IsShape}
use Rattle.replay_disk.specs.Disk.{area_at}
use Rattle.replay_disk.specs.Moments.{AtEachMoment}
use Rattle.gate_log.specs.Log.{LogState}
use Rattle.spent_store.specs.Books.{area_of, begun, is_used}
use Rattle.spent_store.specs.Changes.{made}
use Rattle.spent_store.specs.Found.{FoundState, IsFound, Making, Rests, in_order}
use Rattle.spent_store.specs.Kept.{IsOfStore, AreOfStore}
use Rattle.spent_store.specs.Root.{AreNear, is_shape}
use Rattle.spent_store.specs.Stores.{StoreState, Stands, as_read, book_in}
use Rattle.spent_store.specs.TagLogs.{TagLogState, ReadTagsState, LogStands, epoch_log, read_log}
use Rattle.spent_store.proofs.Finding.{tags_same, found_rests, found_used, shape_good, rest_of, epoch_of_closed, log_kept, closed_logs, closed_of_store, all_ordered, read_epochs}
use Rattle.spent_store.proofs.Leaving.{on_any}
use Rattle.spent_store.proofs.Opening.{root_moments, root_read, one_moments, one_read, two_moments, two_read, all_rests, closes_beside}
use Rattle.spent_store.proofs.StoreOpening.{gate_rest, rest_kept, store_stands, near_logs, with_made_count, made_some}
use Rattle.spent_store.proofs.store.found.FoundStore.close.Goals as goal

pub close_log-requires-2-clause-read : goal.close_log-requires-2-clause-read
close_log-requires-2-clause-read g c t read there =
    let s0 = g.R.Rack.state c.args.rack.now in
    let s1 = g.R.Rack.state c.close_root.new.rack in
    let s2 = g.R.Rack.state c.close_log.new.rack in
    let inside = c.self.inside in
    let kept = c.self.invariant in
    let found : FoundState
    = record { shape = inside.shape; limit = inside.limit; book = record { floor = inside.floor; logs = map read_log (in_order inside.second_first inside.one inside.two); roots = inside.roots.items }; root = inside.root; one = inside.one; two = inside.two } in
    let is = subst (λ (f : FoundState). IsFound f s0) (sym c.self.view_is) (c.requires.found t) in
    let area : area_of read.epoch ≡ 2 = (kept.7 read there).0 in
    let first : area_at (area_of read.epoch) s1.areas ≡ area_at (area_of read.epoch) s0.areas = (c.close_root.ensures.each_moment t).now.others (area_of read.epoch) (omega (arith, area)) (λ same. omega (arith, same, area)) in
    let second : area_at (area_of read.epoch) s2.areas ≡ area_at (area_of read.epoch) s1.areas
    = closes_beside 1 (area_of read.epoch) inside.limit inside.one s1.areas s2.areas kept.6 (omega (arith, area)) (λ same. omega (arith, same, area)) (c.close_log.ensures.each_moment t).now in
    tags_same read s0 s2 (second ∙ first) (is.two read there)

pub returns-in_err-root-clause-rests : goal.returns-in_err-root-clause-rests
returns-in_err-root-clause-rests g c t =
    let s0 = g.R.Rack.state c.args.rack.now in
    let s1 = g.R.Rack.state c.close_root.new.rack in
    let inside = c.self.inside in
    let kept = c.self.invariant in
    let found : FoundState
    = record { shape = inside.shape; limit = inside.limit; book = record { floor = inside.floor; logs = map read_log (in_order inside.second_first inside.one inside.two); roots = inside.roots.items }; root = inside.root; one = inside.one; two = inside.two } in
    let good : is_shape inside.shape ≡ true = shape_good inside.shape (subst (λ (f : FoundState). IsShape f.shape) (sym c.self.view_is) c.requires.shape) in
    let is = subst (λ (f : FoundState). IsFound f s0) (sym c.self.view_is) (c.requires.found t) in
    let rests = found_rests found inside.second_first refl kept.6 kept.7 s0 is kept.2 in
    let used_one : (read : ReadTagsState) → inside.one ≡ Some read → is_used 1 (begun found.book) ≡ true = λ read there. found_used found inside.second_first refl kept.6 kept.7 1 read (inl there) (kept.6 read there).0 in
    let used_two : (read : ReadTagsState) → inside.two ≡ Some read → is_used 2 (begun found.book) ≡ true = λ read there. found_used found inside.second_first refl kept.6 kept.7 2 read (inr there) (kept.7 read there).0 in
    subst (λ (f : FoundState). Rests f.shape f.limit f.book s0.areas) c.self.view_is rests

pub returns-in_err-root-clause-each_moment : goal.returns-in_err-root-clause-each_moment
returns-in_err-root-clause-each_moment g c t =
    let s0 = g.R.Rack.state c.args.rack.now in
    let s1 = g.R.Rack.state c.close_root.new.rack in
    let inside = c.self.inside in
    let kept = c.self.invariant in
    let found : FoundState
    = record { shape = inside.shape; limit = inside.limit; book = record { floor = inside.floor; logs = map read_log (in_order inside.second_first inside.one inside.two); roots = inside.roots.items }; root = inside.root; one = inside.one; two = inside.two } in
    let good : is_shape inside.shape ≡ true = shape_good inside.shape (subst (λ (f : FoundState). IsShape f.shape) (sym c.self.view_is) c.requires.shape) in
    let is = subst (λ (f : FoundState). IsFound f s0) (sym c.self.view_is) (c.requires.found t) in
    let rests = found_rests found inside.second_first refl kept.6 kept.7 s0 is kept.2 in
    let used_one : (read : ReadTagsState) → inside.one ≡ Some read → is_used 1 (begun found.book) ≡ true = λ read there. found_used found inside.second_first refl kept.6 kept.7 1 read (inl there) (kept.6 read there).0 in
    let used_two : (read : ReadTagsState) → inside.two ≡ Some read → is_used 2 (begun found.book) ≡ true = λ read there. found_used found inside.second_first refl kept.6 kept.7 2 read (inr there) (kept.7 read there).0 in
    subst (λ (f : FoundState). AtEachMoment (Making f.shape f.limit f.book s0.areas) s0 s1) c.self.view_is (root_moments inside.shape inside.limit found.book kept.1 good s0 s1 rests (c.close_root.ensures.each_moment t))

pub returns-in_err-root-clause-reads : goal.returns-in_err-root-clause-reads
returns-in_err-root-clause-reads g c t =
    let s0 = g.R.Rack.state c.args.rack.now in
    let s1 = g.R.Rack.state c.close_root.new.rack in
    let inside = c.self.inside in
    let kept = c.self.invariant in
    let found : FoundState
    = record { shape = inside.shape; limit = inside.limit; book = record { floor = inside.floor; logs = map read_log (in_order inside.second_first inside.one inside.two); roots = inside.roots.items }; root = inside.root; one = inside.one; two = inside.two } in
    let good : is_shape inside.shape ≡ true = shape_good inside.shape (subst (λ (f : FoundState). IsShape f.shape) (sym c.self.view_is) c.requires.shape) in
    let is = subst (λ (f : FoundState). IsFound f s0) (sym c.self.view_is) (c.requires.found t) in
    let rests = found_rests found inside.second_first refl kept.6 kept.7 s0 is kept.2 in
    let used_one : (read : ReadTagsState) → inside.one ≡ Some read → is_used 1 (begun found.book) ≡ true = λ read there. found_used found inside.second_first refl kept.6 kept.7 1 read (inl there) (kept.6 read there).0 in
    let used_two : (read : ReadTagsState) → inside.two ≡ Some read → is_used 2 (begun found.book) ≡ true = λ read there. found_used found inside.second_first refl kept.6 kept.7 2 read (inr there) (kept.7 read there).0 in
    on_any c.from_residual.result (subst (λ (f : FoundState). Contains (as_read (f.book ∷ made f.shape f.book ∷ [])) (book_in s1.areas f.shape f.limit)) c.self.view_is ((root_read inside.shape inside.limit found.book kept.1 good s0 s1 rests (c.close_root.ensures.each_moment t) (c.close_root.ensures.image t))))

pub returns-in_err-one-clause-rests : goal.returns-in_err-one-clause-rests
returns-in_err-one-clause-rests g c t =
    let s0 = g.R.Rack.state c.args.rack.now in
    let s1 = g.R.Rack.state c.close_root.new.rack in
    let inside = c.self.inside in
    let kept = c.self.invariant in
    let found : FoundState
    = record { shape = inside.shape; limit = inside.limit; book = record { floor = inside.floor; logs = map read_log (in_order inside.second_first inside.one inside.two); roots = inside.roots.items }; root = inside.root; one = inside.one; two = inside.two } in
    let good : is_shape inside.shape ≡ true = shape_good inside.shape (subst (λ (f : FoundState). IsShape f.shape) (sym c.self.view_is) c.requires.shape) in
    let is = subst (λ (f : FoundState). IsFound f s0) (sym c.self.view_is) (c.requires.found t) in
    let rests = found_rests found inside.second_first refl kept.6 kept.7 s0 is kept.2 in
    let used_one : (read : ReadTagsState) → inside.one ≡ Some read → is_used 1 (begun found.book) ≡ true = λ read there. found_used found inside.second_first refl kept.6 kept.7 1 read (inl there) (kept.6 read there).0 in
    let used_two : (read : ReadTagsState) → inside.two ≡ Some read → is_used 2 (begun found.book) ≡ true = λ read there. found_used found inside.second_first refl kept.6 kept.7 2 read (inr there) (kept.7 read there).0 in
    subst (λ (f : FoundState). Rests f.shape f.limit f.book s0.areas) c.self.view_is rests

pub returns-in_err-one-clause-each_moment : goal.returns-in_err-one-clause-each_moment
returns-in_err-one-clause-each_moment g c t =
    let s0 = g.R.Rack.state c.args.rack.now in
    let s1 = g.R.Rack.state c.close_root.new.rack in
    let inside = c.self.inside in
    let kept = c.self.invariant in
    let found : FoundState
    = record { shape = inside.shape; limit = inside.limit; book = record { floor = inside.floor; logs = map read_log (in_order inside.second_first inside.one inside.two); roots = inside.roots.items }; root = inside.root; one = inside.one; two = inside.two } in
    let good : is_shape inside.shape ≡ true = shape_good inside.shape (subst (λ (f : FoundState). IsShape f.shape) (sym c.self.view_is) c.requires.shape) in
    let is = subst (λ (f : FoundState). IsFound f s0) (sym c.self.view_is) (c.requires.found t) in
    let rests = found_rests found inside.second_first refl kept.6 kept.7 s0 is kept.2 in
    let used_one : (read : ReadTagsState) → inside.one ≡ Some read → is_used 1 (begun found.book) ≡ true = λ read there. found_used found inside.second_first refl kept.6 kept.7 1 read (inl there) (kept.6 read there).0 in
    let used_two : (read : ReadTagsState) → inside.two ≡ Some read → is_used 2 (begun found.book) ≡ true = λ read there. found_used found inside.second_first refl kept.6 kept.7 2 read (inr there) (kept.7 read there).0 in
    let rest = gate_rest 9 0 c.in_ok-root.root s1 (ap (λ (l : LogState). l.area) c.in_ok-root.ensures.log) (ap (λ (l : LogState). l.size) c.in_ok-root.ensures.log) (c.in_ok-root.ensures.stands t) in
    let s2 = g.R.Rack.state c.close_log.new.rack in
    subst (λ (f : FoundState). AtEachMoment (Making f.shape f.limit f.book s0.areas) s0 s2) c.self.view_is (one_moments inside.shape inside.limit found.book kept.1 good s0 s1 rests (c.close_root.ensures.each_moment t) rest.rest (c.in_ok-root.ensures.records t) inside.one kept.6 used_one s2 (c.close_log.ensures.each_moment t))

pub returns-in_err-one-clause-reads : goal.returns-in_err-one-clause-reads
returns-in_err-one-clause-reads g c t =
    let s0 = g.R.Rack.state c.args.rack.now in
    let s1 = g.R.Rack.state c.close_root.new.rack in
    let inside = c.self.inside in
    let kept = c.self.invariant in
    let found : FoundState
    = record { shape = inside.shape; limit = inside.limit; book = record { floor = inside.floor; logs = map read_log (in_order inside.second_first inside.one inside.two); roots = inside.roots.items }; root = inside.root; one = inside.one; two = inside.two } in
    let good : is_shape inside.shape ≡ true = shape_good inside.shape (subst (λ (f : FoundState). IsShape f.shape) (sym c.self.view_is) c.requires.shape) in
    let is = subst (λ (f : FoundState). IsFound f s0) (sym c.self.view_is) (c.requires.found t) in
    let rests = found_rests found inside.second_first refl kept.6 kept.7 s0 is kept.2 in
    let used_one : (read : ReadTagsState) → inside.one ≡ Some read → is_used 1 (begun found.book) ≡ true = λ read there. found_used found inside.second_first refl kept.6 kept.7 1 read (inl there) (kept.6 read there).0 in
    let used_two : (read : ReadTagsState) → inside.two ≡ Some read → is_used 2 (begun found.book) ≡ true = λ read there. found_used found inside.second_first refl kept.6 kept.7 2 read (inr there) (kept.7 read there).0 in
    let rest = gate_rest 9 0 c.in_ok-root.root s1 (ap (λ (l : LogState). l.area) c.in_ok-root.ensures.log) (ap (λ (l : LogState). l.size) c.in_ok-root.ensures.log) (c.in_ok-root.ensures.stands t) in
    let s2 = g.R.Rack.state c.close_log.new.rack in
    on_any c.from_residual-in_err-one.result (subst (λ (f : FoundState). Contains (as_read (f.book ∷ made f.shape f.book ∷ [])) (book_in s2.areas f.shape f.limit)) c.self.view_is (one_read inside.shape inside.limit found.book kept.1 good s0 s1 rests (c.close_root.ensures.each_moment t) rest.rest (c.in_ok-root.ensures.records t) inside.one kept.6 used_one s2 (c.close_log.ensures.each_moment t) (c.close_log.ensures.image t)))

pub returns-in_err-two-clause-rests : goal.returns-in_err-two-clause-rests
returns-in_err-two-clause-rests g c t =
    let s0 = g.R.Rack.state c.args.rack.now in
    let s1 = g.R.Rack.state c.close_root.new.rack in
    let inside = c.self.inside in
    let kept = c.self.invariant in
    let found : FoundState
    = record { shape = inside.shape; limit = inside.limit; book = record { floor = inside.floor; logs = map read_log (in_order inside.second_first inside.one inside.two); roots = inside.roots.items }; root = inside.root; one = inside.one; two = inside.two } in
    let good : is_shape inside.shape ≡ true = shape_good inside.shape (subst (λ (f : FoundState). IsShape f.shape) (sym c.self.view_is) c.requires.shape) in
    let is = subst (λ (f : FoundState). IsFound f s0) (sym c.self.view_is) (c.requires.found t) in
    let rests = found_rests found inside.second_first refl kept.6 kept.7 s0 is kept.2 in
    let used_one : (read : ReadTagsState) → inside.one ≡ Some read → is_used 1 (begun found.book) ≡ true = λ read there. found_used found inside.second_first refl kept.6 kept.7 1 read (inl there) (kept.6 read there).0 in
    let used_two : (read : ReadTagsState) → inside.two ≡ Some read → is_used 2 (begun found.book) ≡ true = λ read there. found_used found inside.second_first refl kept.6 kept.7 2 read (inr there) (kept.7 read there).0 in
    subst (λ (f : FoundState). Rests f.shape f.limit f.book s0.areas) c.self.view_is rests

pub returns-in_err-two-clause-each_moment : goal.returns-in_err-two-clause-each_moment
returns-in_err-two-clause-each_moment g c t =
    let s0 = g.R.Rack.state c.args.rack.now in
    let s1 = g.R.Rack.state c.close_root.new.rack in
    let inside = c.self.inside in
    let kept = c.self.invariant in
    let found : FoundState
    = record { shape = inside.shape; limit = inside.limit; book = record { floor = inside.floor; logs = map read_log (in_order inside.second_first inside.one inside.two); roots = inside.roots.items }; root = inside.root; one = inside.one; two = inside.two } in
    let good : is_shape inside.shape ≡ true = shape_good inside.shape (subst (λ (f : FoundState). IsShape f.shape) (sym c.self.view_is) c.requires.shape) in
    let is = subst (λ (f : FoundState). IsFound f s0) (sym c.self.view_is) (c.requires.found t) in
    let rests = found_rests found inside.second_first refl kept.6 kept.7 s0 is kept.2 in
    let used_one : (read : ReadTagsState) → inside.one ≡ Some read → is_used 1 (begun found.book) ≡ true = λ read there. found_used found inside.second_first refl kept.6 kept.7 1 read (inl there) (kept.6 read there).0 in
    let used_two : (read : ReadTagsState) → inside.two ≡ Some read → is_used 2 (begun found.book) ≡ true = λ read there. found_used found inside.second_first refl kept.6 kept.7 2 read (inr there) (kept.7 read there).0 in
    let rest = gate_rest 9 0 c.in_ok-root.root s1 (ap (λ (l : LogState). l.area) c.in_ok-root.ensures.log) (ap (λ (l : LogState). l.size) c.in_ok-root.ensures.log) (c.in_ok-root.ensures.stands t) in
    let s2 = g.R.Rack.state c.close_log.new.rack in
    let s3 = g.R.Rack.state c.close_log-2.new.rack in
    let rest_one = rest_of inside.one c.in_ok-one.one s2.areas c.in_ok-one.ensures.log (c.in_ok-one.ensures.stands t) in
    subst (λ (f : FoundState). AtEachMoment (Making f.shape f.limit f.book s0.areas) s0 s3) c.self.view_is (two_moments inside.shape inside.limit found.book kept.1 good s0 s1 rests (c.close_root.ensures.each_moment t) rest.rest (c.in_ok-root.ensures.records t) inside.one kept.6 used_one s2 (c.close_log.ensures.each_moment t) rest_one inside.two kept.7 used_two s3 (c.close_log-2.ensures.each_moment t))

pub returns-in_err-two-clause-reads : goal.returns-in_err-two-clause-reads
returns-in_err-two-clause-reads g c t =
    let s0 = g.R.Rack.state c.args.rack.now in
    let s1 = g.R.Rack.state c.close_root.new.rack in
    let inside = c.self.inside in
    let kept = c.self.invariant in
    let found : FoundState
    = record { shape = inside.shape; limit = inside.limit; book = record { floor = inside.floor; logs = map read_log (in_order inside.second_first inside.one inside.two); roots = inside.roots.items }; root = inside.root; one = inside.one; two = inside.two } in
    let good : is_shape inside.shape ≡ true = shape_good inside.shape (subst (λ (f : FoundState). IsShape f.shape) (sym c.self.view_is) c.requires.shape) in
    let is = subst (λ (f : FoundState). IsFound f s0) (sym c.self.view_is) (c.requires.found t) in
    let rests = found_rests found inside.second_first refl kept.6 kept.7 s0 is kept.2 in
    let used_one : (read : ReadTagsState) → inside.one ≡ Some read → is_used 1 (begun found.book) ≡ true = λ read there. found_used found inside.second_first refl kept.6 kept.7 1 read (inl there) (kept.6 read there).0 in
    let used_two : (read : ReadTagsState) → inside.two ≡ Some read → is_used 2 (begun found.book) ≡ true = λ read there. found_used found inside.second_first refl kept.6 kept.7 2 read (inr there) (kept.7 read there).0 in
    let rest = gate_rest 9 0 c.in_ok-root.root s1 (ap (λ (l : LogState). l.area) c.in_ok-root.ensures.log) (ap (λ (l : LogState). l.size) c.in_ok-root.ensures.log) (c.in_ok-root.ensures.stands t) in
    let s2 = g.R.Rack.state c.close_log.new.rack in
    let s3 = g.R.Rack.state c.close_log-2.new.rack in
    let rest_one = rest_of inside.one c.in_ok-one.one s2.areas c.in_ok-one.ensures.log (c.in_ok-one.ensures.stands t) in
    on_any c.from_residual-in_err-two.result (subst (λ (f : FoundState). Contains (as_read (f.book ∷ made f.shape f.book ∷ [])) (book_in s3.areas f.shape f.limit)) c.self.view_is (two_read inside.shape inside.limit found.book kept.1 good s0 s1 rests (c.close_root.ensures.each_moment t) rest.rest (c.in_ok-root.ensures.records t) inside.one kept.6 used_one s2 (c.close_log.ensures.each_moment t) rest_one inside.two kept.7 used_two s3 (c.close_log-2.ensures.each_moment t) (c.close_log-2.ensures.image t)))

pub returns-clause-rests : goal.returns-clause-rests
returns-clause-rests g c t =
    let s0 = g.R.Rack.state c.args.rack.now in
    let s1 = g.R.Rack.state c.close_root.new.rack in
    let inside = c.self.inside in
    let kept = c.self.invariant in
    let found : FoundState
    = record { shape = inside.shape; limit = inside.limit; book = record { floor = inside.floor; logs = map read_log (in_order inside.second_first inside.one inside.two); roots = inside.roots.items }; root = inside.root; one = inside.one; two = inside.two } in
    let good : is_shape inside.shape ≡ true = shape_good inside.shape (subst (λ (f : FoundState). IsShape f.shape) (sym c.self.view_is) c.requires.shape) in
    let is = subst (λ (f : FoundState). IsFound f s0) (sym c.self.view_is) (c.requires.found t) in
    let rests = found_rests found inside.second_first refl kept.6 kept.7 s0 is kept.2 in
    let used_one : (read : ReadTagsState) → inside.one ≡ Some read → is_used 1 (begun found.book) ≡ true = λ read there. found_used found inside.second_first refl kept.6 kept.7 1 read (inl there) (kept.6 read there).0 in
    let used_two : (read : ReadTagsState) → inside.two ≡ Some read → is_used 2 (begun found.book) ≡ true = λ read there. found_used found inside.second_first refl kept.6 kept.7 2 read (inr there) (kept.7 read there).0 in
    subst (λ (f : FoundState). Rests f.shape f.limit f.book s0.areas) c.self.view_is rests

pub returns-clause-each_moment : goal.returns-clause-each_moment
returns-clause-each_moment g c t =
    let s0 = g.R.Rack.state c.args.rack.now in
    let s1 = g.R.Rack.state c.close_root.new.rack in
    let inside = c.self.inside in
    let kept = c.self.invariant in
    let found : FoundState
    = record { shape = inside.shape; limit = inside.limit; book = record { floor = inside.floor; logs = map read_log (in_order inside.second_first inside.one inside.two); roots = inside.roots.items }; root = inside.root; one = inside.one; two = inside.two } in
    let good : is_shape inside.shape ≡ true = shape_good inside.shape (subst (λ (f : FoundState). IsShape f.shape) (sym c.self.view_is) c.requires.shape) in
    let is = subst (λ (f : FoundState). IsFound f s0) (sym c.self.view_is) (c.requires.found t) in
    let rests = found_rests found inside.second_first refl kept.6 kept.7 s0 is kept.2 in
    let used_one : (read : ReadTagsState) → inside.one ≡ Some read → is_used 1 (begun found.book) ≡ true = λ read there. found_used found inside.second_first refl kept.6 kept.7 1 read (inl there) (kept.6 read there).0 in
    let used_two : (read : ReadTagsState) → inside.two ≡ Some read → is_used 2 (begun found.book) ≡ true = λ read there. found_used found inside.second_first refl kept.6 kept.7 2 read (inr there) (kept.7 read there).0 in
    let rest = gate_rest 9 0 c.in_ok-root.root s1 (ap (λ (l : LogState). l.area) c.in_ok-root.ensures.log) (ap (λ (l : LogState). l.size) c.in_ok-root.ensures.log) (c.in_ok-root.ensures.stands t) in
    let s2 = g.R.Rack.state c.close_log.new.rack in
    let s3 = g.R.Rack.state c.close_log-2.new.rack in
    let rest_one = rest_of inside.one c.in_ok-one.one s2.areas c.in_ok-one.ensures.log (c.in_ok-one.ensures.stands t) in
    subst (λ (f : FoundState). AtEachMoment (Making f.shape f.limit f.book s0.areas) s0 s3) c.self.view_is (two_moments inside.shape inside.limit found.book kept.1 good s0 s1 rests (c.close_root.ensures.each_moment t) rest.rest (c.in_ok-root.ensures.records t) inside.one kept.6 used_one s2 (c.close_log.ensures.each_moment t) rest_one inside.two kept.7 used_two s3 (c.close_log-2.ensures.each_moment t))

pub returns-clause-store : goal.returns-clause-store
returns-clause-store g c =
    let inside = c.self.inside in
    let logs : map epoch_log c.put_in_order.result.items ≡ map read_log (in_order inside.second_first inside.one inside.two)
    = ap (λ (some : List TagLogState). map epoch_log some) c.put_in_order.ensures.logs ∙ closed_logs inside.second_first c.in_ok-one.one c.in_ok-two.two inside.one inside.two c.in_ok-one.ensures.log c.in_ok-two.ensures.log in
    (λ i. record { shape = inside.shape; limit = inside.limit; book = record { floor = inside.floor; logs = logs i; roots = c.with_made-roots.ensures i }; is_sound = true; spare = 0 })
    ∙ ap (λ (f : FoundState). record { shape = f.shape; limit = f.limit; book = made f.shape f.book; is_sound = true; spare = 0 }) c.self.view_is

pub returns-clause-stands : goal.returns-clause-stands
returns-clause-stands g c t =
    let s0 = g.R.Rack.state c.args.rack.now in
    let s1 = g.R.Rack.state c.close_root.new.rack in
    let inside = c.self.inside in
    let kept = c.self.invariant in
    let found : FoundState
    = record { shape = inside.shape; limit = inside.limit; book = record { floor = inside.floor; logs = map read_log (in_order inside.second_first inside.one inside.two); roots = inside.roots.items }; root = inside.root; one = inside.one; two = inside.two } in
    let good : is_shape inside.shape ≡ true = shape_good inside.shape (subst (λ (f : FoundState). IsShape f.shape) (sym c.self.view_is) c.requires.shape) in
    let is = subst (λ (f : FoundState). IsFound f s0) (sym c.self.view_is) (c.requires.found t) in
    let rests = found_rests found inside.second_first refl kept.6 kept.7 s0 is kept.2 in
    let used_one : (read : ReadTagsState) → inside.one ≡ Some read → is_used 1 (begun found.book) ≡ true = λ read there. found_used found inside.second_first refl kept.6 kept.7 1 read (inl there) (kept.6 read there).0 in
    let used_two : (read : ReadTagsState) → inside.two ≡ Some read → is_used 2 (begun found.book) ≡ true = λ read there. found_used found inside.second_first refl kept.6 kept.7 2 read (inr there) (kept.7 read there).0 in
    let rest = gate_rest 9 0 c.in_ok-root.root s1 (ap (λ (l : LogState). l.area) c.in_ok-root.ensures.log) (ap (λ (l : LogState). l.size) c.in_ok-root.ensures.log) (c.in_ok-root.ensures.stands t) in
    let s2 = g.R.Rack.state c.close_log.new.rack in
    let s3 = g.R.Rack.state c.close_log-2.new.rack in
    let rest_one = rest_of inside.one c.in_ok-one.one s2.areas c.in_ok-one.ensures.log (c.in_ok-one.ensures.stands t) in
    let rest_two = rest_of inside.two c.in_ok-two.two s3.areas c.in_ok-two.ensures.log (c.in_ok-two.ensures.stands t) in
    let there = all_rests inside.shape inside.limit found.book kept.1 good s0 s1 rests (c.close_root.ensures.each_moment t) rest.rest (c.in_ok-root.ensures.records t) inside.one kept.6 used_one s2 (c.close_log.ensures.each_moment t) rest_one inside.two kept.7 used_two s3 (c.close_log-2.ensures.each_moment t) rest_two in
    let logs = in_order inside.second_first c.in_ok-one.one c.in_ok-two.two in
    let are_logs : map epoch_log logs ≡ found.book.logs = closed_logs inside.second_first c.in_ok-one.one c.in_ok-two.two inside.one inside.two c.in_ok-one.ensures.log c.in_ok-two.ensures.log in
    let root_two : area_at 0 s2.areas ≡ area_at 0 s1.areas = closes_beside 1 0 inside.limit inside.one s1.areas s2.areas kept.6 (omega arith) (λ same. omega (arith, same)) (c.close_log.ensures.each_moment t).now in
    let root_three : area_at 0 s3.areas ≡ area_at 0 s2.areas = closes_beside 2 0 inside.limit inside.two s2.areas s3.areas kept.7 (omega arith) (λ same. omega (arith, same)) (c.close_log-2.ensures.each_moment t).now in
    let first_stays : (log : TagLogState) → c.in_ok-one.one ≡ Some log → LogStands log s3.areas
    = λ log same.
    let area = epoch_of_closed inside.one c.in_ok-one.one 1 inside.limit c.in_ok-one.ensures.log kept.6 log same in
    log_kept log s2.areas s3.areas
    (closes_beside 2 (area_of log.epoch) inside.limit inside.two s2.areas s3.areas kept.7 (omega (arith, area)) (λ is_two. omega (arith, is_two, area)) (c.close_log-2.ensures.each_moment t).now)
    (c.in_ok-one.ensures.stands t log same) in
    let stand = all_ordered (λ (log : TagLogState). LogStands log s3.areas) inside.second_first c.in_ok-one.one c.in_ok-two.two first_stays (c.in_ok-two.ensures.stands t) in
    let store : StoreState = record { shape = inside.shape; limit = inside.limit; book = made inside.shape found.book; is_sound = true; spare = 0 } in
    let stands : Stands store s3.areas
    = store_stands store logs s3.areas (sym are_logs) (rest_kept 9 0 s1.areas s3.areas (root_three ∙ root_two) rest) stand there.reads (made_some inside.shape found.book) in
    subst (λ (s : StoreState). Stands s s3.areas)
    (ap (λ (f : FoundState). record { shape = f.shape; limit = f.limit; book = made f.shape f.book; is_sound = true; spare = 0 }) c.self.view_is ∙ sym (returns-clause-store g c)) stands

pub invariant_of-result : goal.invariant_of-result
invariant_of-result g c =
    let inside = c.self.inside in
    let kept = c.self.invariant in
    let log = c.in_ok-root.ensures.log in
    let roots : length c.with_made-roots.result.items ≡ max (length inside.roots.items) 1 = ap length c.with_made-roots.ensures ∙ with_made_count inside.shape inside.roots.items in
    let logs : map epoch_log c.put_in_order.result.items ≡ map read_log (in_order inside.second_first inside.one inside.two)
    = ap (λ (some : List TagLogState). map epoch_log some) c.put_in_order.ensures.logs ∙ closed_logs inside.second_first c.in_ok-one.one c.in_ok-two.two inside.one inside.two c.in_ok-one.ensures.log c.in_ok-two.ensures.log in (
      kept.0,
      record {
        area = ap (λ (l : LogState). l.area) log;
        size = ap (λ (l : LogState). l.size) log;
        same_limit = ap (λ (l : LogState). l.limit) log ∙ kept.4;
        count = ap (λ (l : LogState). l.count) log ∙ ap (λ (n : ℕ). max n 1) kept.5 ∙ sym roots;
        is_sound = λ _. ap (λ (l : LogState). l.sound) log;
        made = omega (arith, roots);
      },
      near_logs inside.floor c.put_in_order.result.items (map read_log (in_order inside.second_first inside.one inside.two)) logs
          (subst (λ (epochs : List ℕ). AreNear inside.floor epochs) (sym (read_epochs (in_order inside.second_first inside.one inside.two))) kept.8),
      subst (λ (some : List TagLogState). AreOfStore inside.limit true false some) (sym c.put_in_order.ensures.logs)
          (all_ordered (IsOfStore inside.limit true false) inside.second_first c.in_ok-one.one c.in_ok-two.two (closed_of_store inside.limit c.in_ok-one.one c.in_ok-one.ensures.closed)
          (closed_of_store inside.limit c.in_ok-two.two c.in_ok-two.ensures.closed)),
      c.put_in_order.ensures.capacity,
      λ never. absurd (cc),
    )
