use Rattle.std.proofs.Common.{ℕ, [], ◌∷◌, Contains, Result, Ok, inl, sym, ◌∙◌, ap, rules}
use Rattle.replay_disk.specs.Disk.{contents_of}
use Rattle.replay_disk.proofs.Laws.{weaker}
use Rattle.spent_store.specs.Books.{StoredBook}
use Rattle.spent_store.specs.Changes.{made, made_where_read}
use Rattle.mix_base.specs.declared.shards.Shape.{Shape}
use Rattle.replay_disk.specs.Moments.{AtEachMoment}
use Rattle.spent_store.specs.Found.{NothingNew, Making, Rests}
use Rattle.spent_store.specs.Root.{begun_of, roots_in}
use Rattle.spent_store.specs.Stores.{StoreState, OpensFrom, OpensToOneOf, UnusedStay, as_read, book_in}
use Rattle.spent_store.specs.declared.faults.Objection.{Objection}
use Rattle.spent_store.proofs.BookLaws.{begun_said}
use Rattle.spent_store.proofs.Finding.{from_nothing, as_asked, opens_all, unused_all, same_read, read_made, if_any, if_other}
use Rattle.spent_store.proofs.JournalOpening.{journal_kept, journal_failed, journal_opened}
use Rattle.spent_store.proofs.Stages.{standing}
use Rattle.spent_store.proofs.store.SpentStore.open.Goals as goal

-- ---- it isn't opened, and nothing was written

pub returns-in_err-found-clause-unwritten : goal.returns-in_err-found-clause-unwritten
returns-in_err-found-clause-unwritten g c t = if_other c.from_residual.result (c.read.ensures.unwritten t)

pub returns-in_err-found-clause-reads : goal.returns-in_err-found-clause-reads
returns-in_err-found-clause-reads g c t =
    if_any c.from_residual.result (inl (same_read c.args.shape.now c.args.limit (g.R.Rack.state c.args.rack.now).areas (g.R.Rack.state c.read.new.rack).areas (c.read.ensures.unwritten t)))

pub returns-in_err-found-clause-journal : goal.returns-in_err-found-clause-journal
returns-in_err-found-clause-journal g c t books covers =
    let s0 = g.R.Rack.state c.args.rack.now in
    journal_kept c.args.shape.now c.args.limit s0.areas (g.R.Rack.state c.read.new.rack).areas (c.read.ensures.images t) books covers c.from_residual.result (search rules) (search rules)
    (begun_of (roots_in (contents_of 0 s0))) (c.read.ensures.each_moment t).now

pub returns-in_err-found-clause-each_moment : goal.returns-in_err-found-clause-each_moment
returns-in_err-found-clause-each_moment g c t =
    let s0 = g.R.Rack.state c.args.rack.now in
    let epochs = begun_of (roots_in (contents_of 0 s0)) in
    weaker (NothingNew epochs s0.areas) (OpensFrom c.args.shape.now c.args.limit s0.areas) s0 (g.R.Rack.state c.read.new.rack) (λ now nothing. from_nothing c.args.shape.now c.args.limit epochs s0.areas now nothing) (c.read.ensures.each_moment t)

pub returns-in_err-found-clause-unused : goal.returns-in_err-found-clause-unused
returns-in_err-found-clause-unused g c t =
    let s0 = g.R.Rack.state c.args.rack.now in
    let epochs = begun_of (roots_in (contents_of 0 s0)) in
    weaker (NothingNew epochs s0.areas) (UnusedStay epochs s0.areas) s0 (g.R.Rack.state c.read.new.rack) (λ now nothing. nothing.others) (c.read.ensures.each_moment t)

pub returns-in-Ok-clause-each_moment : goal.returns-in-Ok-clause-each_moment
returns-in-Ok-clause-each_moment g c t =
    let s0 = g.R.Rack.state c.args.rack.now in
    let s1 = g.R.Rack.state c.read.new.rack in
    let s2 = g.R.Rack.state c.close.new.rack in
    let found = c.in_ok-found.found in
    let asked = c.in_ok-found.ensures.asked in
    let rests = as_asked (λ (s : Shape) (l : ℕ). Rests s l found.book s1.areas) found.shape c.args.shape.now found.limit c.args.limit asked.0 asked.1 (c.close.ensures.rests t) in
    let writes = as_asked (λ (s : Shape) (l : ℕ). AtEachMoment (Making s l found.book s1.areas) s1 s2) found.shape c.args.shape.now found.limit c.args.limit asked.0 asked.1 (c.close.ensures.each_moment t) in
    opens_all c.args.shape.now c.args.limit found.book (begun_of (roots_in (contents_of 0 s0))) s0 s1 s2 (c.read.ensures.each_moment t) rests writes

pub returns-in-Ok-clause-unused : goal.returns-in-Ok-clause-unused
returns-in-Ok-clause-unused g c t =
    let s0 = g.R.Rack.state c.args.rack.now in
    let s1 = g.R.Rack.state c.read.new.rack in
    let s2 = g.R.Rack.state c.close.new.rack in
    let found = c.in_ok-found.found in
    let asked = c.in_ok-found.ensures.asked in
    let rests = as_asked (λ (s : Shape) (l : ℕ). Rests s l found.book s1.areas) found.shape c.args.shape.now found.limit c.args.limit asked.0 asked.1 (c.close.ensures.rests t) in
    let writes = as_asked (λ (s : Shape) (l : ℕ). AtEachMoment (Making s l found.book s1.areas) s1 s2) found.shape c.args.shape.now found.limit c.args.limit asked.0 asked.1 (c.close.ensures.each_moment t) in
    unused_all c.args.shape.now c.args.limit found.book (begun_of (roots_in (contents_of 0 s0))) s0 s1 s2 (c.read.ensures.each_moment t) rests writes
    (begun_said (contents_of 0 s0) (contents_of 1 s0) (contents_of 2 s0) c.args.shape.now c.args.limit found.book (c.in_ok-found.ensures.book t))

pub returns-in-Err-clause-each_moment : goal.returns-in-Err-clause-each_moment
returns-in-Err-clause-each_moment g c t =
    let s0 = g.R.Rack.state c.args.rack.now in
    let s1 = g.R.Rack.state c.read.new.rack in
    let s2 = g.R.Rack.state c.close.new.rack in
    let found = c.in_ok-found.found in
    let asked = c.in_ok-found.ensures.asked in
    let rests = as_asked (λ (s : Shape) (l : ℕ). Rests s l found.book s1.areas) found.shape c.args.shape.now found.limit c.args.limit asked.0 asked.1 (c.close.ensures.rests t) in
    let writes = as_asked (λ (s : Shape) (l : ℕ). AtEachMoment (Making s l found.book s1.areas) s1 s2) found.shape c.args.shape.now found.limit c.args.limit asked.0 asked.1 (c.close.ensures.each_moment t) in
    opens_all c.args.shape.now c.args.limit found.book (begun_of (roots_in (contents_of 0 s0))) s0 s1 s2 (c.read.ensures.each_moment t) rests writes

pub returns-in-Err-clause-unused : goal.returns-in-Err-clause-unused
returns-in-Err-clause-unused g c t =
    let s0 = g.R.Rack.state c.args.rack.now in
    let s1 = g.R.Rack.state c.read.new.rack in
    let s2 = g.R.Rack.state c.close.new.rack in
    let found = c.in_ok-found.found in
    let asked = c.in_ok-found.ensures.asked in
    let rests = as_asked (λ (s : Shape) (l : ℕ). Rests s l found.book s1.areas) found.shape c.args.shape.now found.limit c.args.limit asked.0 asked.1 (c.close.ensures.rests t) in
    let writes = as_asked (λ (s : Shape) (l : ℕ). AtEachMoment (Making s l found.book s1.areas) s1 s2) found.shape c.args.shape.now found.limit c.args.limit asked.0 asked.1 (c.close.ensures.each_moment t) in
    unused_all c.args.shape.now c.args.limit found.book (begun_of (roots_in (contents_of 0 s0))) s0 s1 s2 (c.read.ensures.each_moment t) rests writes
    (begun_said (contents_of 0 s0) (contents_of 1 s0) (contents_of 2 s0) c.args.shape.now c.args.limit found.book (c.in_ok-found.ensures.book t))

-- ---- the rack failed in a write

pub returns-in-Err-clause-reads : goal.returns-in-Err-clause-reads
returns-in-Err-clause-reads g c t =
    let s0 = g.R.Rack.state c.args.rack.now in
    let s2 = g.R.Rack.state c.close.new.rack in
    let found = c.in_ok-found.found in
    let asked = c.in_ok-found.ensures.asked in
    let there = as_asked (λ (s : Shape) (l : ℕ). Contains (as_read (found.book ∷ made s found.book ∷ [])) (book_in s2.areas s l)) found.shape c.args.shape.now found.limit c.args.limit asked.0 asked.1 (c.in-Err.ensures.reads t) in
    read_made c.args.shape.now found.book (book_in s0.areas c.args.shape.now c.args.limit) (book_in s2.areas c.args.shape.now c.args.limit) (c.in_ok-found.ensures.book t) there

pub returns-in-Err-clause-journal : goal.returns-in-Err-clause-journal
returns-in-Err-clause-journal g c t books covers =
    let s0 = g.R.Rack.state c.args.rack.now in
    journal_failed c.args.shape.now c.args.limit s0.areas (g.R.Rack.state c.close.new.rack).areas (c.read.ensures.images t) books covers (returns-in-Err-clause-each_moment g c t).now

-- ---- it is opened

pub returns-in-Ok-clause-book : goal.returns-in-Ok-clause-book
returns-in-Ok-clause-book g c t =
    let found = c.in_ok-found.found in
    let asked = c.in_ok-found.ensures.asked in
    ap (λ (read : Result StoredBook Objection). made_where_read c.args.shape.now read) (c.in_ok-found.ensures.book t)
    ∙ (λ i. Ok (made (sym asked.0 i) found.book)) ∙ ap (λ (s : StoreState). Ok s.book) (sym c.in-Ok.ensures.store)

pub returns-in-Ok-clause-store : goal.returns-in-Ok-clause-store
returns-in-Ok-clause-store g c =
    let asked = c.in_ok-found.ensures.asked in
    λ i. record {
      shape = (ap (λ (s : StoreState). s.shape) c.in-Ok.ensures.store ∙ asked.0) i;
      limit = (ap (λ (s : StoreState). s.limit) c.in-Ok.ensures.store ∙ asked.1) i;
      book = c.in-Ok.store.book;
      is_sound = ap (λ (s : StoreState). s.is_sound) c.in-Ok.ensures.store i;
      spare = c.in-Ok.store.spare;
    }

pub returns-in-Ok-clause-alone : goal.returns-in-Ok-clause-alone
returns-in-Ok-clause-alone g c t =
    let asked = c.in_ok-found.ensures.asked in
    let store = c.in-Ok.store in
    let s2 = g.R.Rack.state c.close.new.rack in
    as_asked (λ (s : Shape) (l : ℕ). OpensToOneOf s l (as_read (store.book ∷ [])) s2.areas) store.shape c.args.shape.now store.limit c.args.limit (ap (λ (s : StoreState). s.shape) c.in-Ok.ensures.store ∙ asked.0)
    (ap (λ (s : StoreState). s.limit) c.in-Ok.ensures.store ∙ asked.1) (standing store s2.areas (c.in-Ok.ensures.stands t))

pub returns-in-Ok-clause-journal : goal.returns-in-Ok-clause-journal
returns-in-Ok-clause-journal g c t books covers =
    let s0 = g.R.Rack.state c.args.rack.now in
    let asked = c.in_ok-found.ensures.asked in
    journal_opened c.args.shape.now c.args.limit s0.areas (g.R.Rack.state c.close.new.rack).areas (c.read.ensures.images t) books covers c.in-Ok.store (ap (λ (s : StoreState). s.shape) c.in-Ok.ensures.store ∙ asked.0)
    (ap (λ (s : StoreState). s.limit) c.in-Ok.ensures.store ∙ asked.1) (returns-in-Ok-clause-book g c t) (c.in-Ok.ensures.stands t)
