use Rattle.std.proofs.Common.{◌≡◌, ◌==◌, ◌<◌, true, false, ℕ, List, [], ◌∷◌, length, Contains, OnOk, OnErr, sym, ◌∙◌, ap, subst, arith}
use Rattle.std.specs.List.{list_any}
use Rattle.replay_disk.specs.Moments.{AtEachMoment}
use Rattle.spent_store.specs.Books.{StoredBook, has_begun}
use Rattle.spent_store.specs.Changes.{raised, begun_with, added, claimed}
use Rattle.spent_store.specs.Kept.{Leaves, beginning_stages}
use Rattle.spent_store.specs.Root.{IsNear}
use Rattle.spent_store.specs.Stores.{StoreState, Stands, as_read, book_in}
use Rattle.spent_store.specs.TagLogs.{TagLogState}
use Rattle.spent_store.proofs.Changing.{claim_raised, claim_added, claim_started, claim_begun, start_moments, start_read_then, start_stands}
use Rattle.spent_store.proofs.ClaimLaws.{claim_accepted, claimed_near, begun_before, room_to_begin, count_raised, pair_count}
use Rattle.spent_store.proofs.Leaving.{among_front, among_behind, own_area, on_any, on_err}
use Rattle.spent_store.proofs.Stages.{in_one, stands_with}
use Rattle.spent_store.proofs.StoreLogs.{any_epoch}
use Rattle.spent_store.proofs.store.SpentStore.accept.Goals as goal

pub returns-in_err-raise-clause-each_moment : goal.returns-in_err-raise-clause-each_moment
returns-in_err-raise-clause-each_moment g c t =
    claim_raised c.args.self.now c.args.epoch (c.args.tag.now ∷ []) c.args.least (c.args.epoch ∷ []) (g.R.Rack.state c.args.rack.now) (g.R.Rack.state c.raise.new.rack) (c.raise.ensures.each_moment t (c.args.epoch ∷ []))

pub returns-in_err-raise-clause-reads : goal.returns-in_err-raise-clause-reads
returns-in_err-raise-clause-reads g c t =
    let store = c.args.self.now in
    let epoch = c.args.epoch in
    let r = raised c.args.least store.book in
    on_any c.from_residual.result
    (among_front (store.book ∷ r ∷ []) (begun_with epoch r ∷ claimed epoch (c.args.tag.now ∷ []) c.args.least store.book ∷ []) (book_in (g.R.Rack.state c.raise.new.rack).areas store.shape store.limit) (c.in_err-raise.ensures.reads t))

pub add-requires-clause-there : goal.add-requires-clause-there
add-requires-clause-there g c =
    sym (ap (λ (s : StoreState). has_begun c.args.epoch s.book) c.self.view_is)
    ∙ any_epoch c.args.epoch c.self.inside.logs.items
    ∙ sym (ap (λ (logs : List TagLogState). list_any (λ (log : TagLogState). log.epoch == c.args.epoch) logs) c.deref.ensures.value)
    ∙ sym c.has_log.ensures
    ∙ c.if-has_log.true

pub add-requires-clause-fits : goal.add-requires-clause-fits
add-requires-clause-fits g c =
    let store = c.args.self.now in
    let accepted = claim_accepted store.limit c.args.epoch c.args.tag.now c.args.least store.book c.requires.accepted in
    let few : pair_count c.args.epoch (raised c.args.least store.book).logs < store.limit = omega (arith, accepted.log_room, count_raised c.args.least c.args.epoch store.book c.requires.low) in
    subst (λ (s : StoreState). pair_count c.args.epoch s.book.logs < s.limit) (sym c.in_ok-raise.ensures.ok) few

pub returns-then-has_log-clause-ok : goal.returns-then-has_log-clause-ok
returns-then-has_log-clause-ok g c =
    let store = c.args.self.now in
    let epoch = c.args.epoch in
    let r = raised c.args.least store.book in
    let there : has_begun epoch r ≡ true = sym (ap (λ (s : StoreState). has_begun epoch s.book) c.in_ok-raise.ensures.ok) ∙ sym (ap (λ (s : StoreState). has_begun epoch s.book) c.self.view_is)
    ∙ any_epoch epoch c.self.inside.logs.items ∙ sym (ap (λ (logs : List TagLogState). list_any (λ (log : TagLogState). log.epoch == epoch) logs) c.deref.ensures.value) ∙ sym c.has_log.ensures ∙ c.if-has_log.true in
    subst (λ (b : StoredBook). OnOk c.add.result (c.add.new.self ≡ record store { book = added epoch (c.args.tag.now ∷ []) b; spare = 0 })) (sym (begun_before epoch r there))
    (subst (λ (s : StoreState). OnOk c.add.result (c.add.new.self ≡ record s { book = added epoch (c.args.tag.now ∷ []) s.book; spare = 0 })) c.in_ok-raise.ensures.ok c.add.ensures.ok)

pub returns-then-has_log-clause-each_moment : goal.returns-then-has_log-clause-each_moment
returns-then-has_log-clause-each_moment g c t =
    let store = c.args.self.now in
    let epoch = c.args.epoch in
    let r = raised c.args.least store.book in
    let there : has_begun epoch r ≡ true = sym (ap (λ (s : StoreState). has_begun epoch s.book) c.in_ok-raise.ensures.ok) ∙ sym (ap (λ (s : StoreState). has_begun epoch s.book) c.self.view_is)
    ∙ any_epoch epoch c.self.inside.logs.items ∙ sym (ap (λ (logs : List TagLogState). list_any (λ (log : TagLogState). log.epoch == epoch) logs) c.deref.ensures.value) ∙ sym c.has_log.ensures ∙ c.if-has_log.true in
    let tags : List (List ℕ) = c.args.tag.now ∷ [] in
    let s1 = g.R.Rack.state c.raise.new.rack in
    let s2 = g.R.Rack.state c.add.new.rack in
    let adding = subst (λ (s : StoreState). AtEachMoment (Leaves s.shape s.limit (s.book ∷ added epoch tags s.book ∷ []) (epoch ∷ []) s1.areas) s1 s2) c.in_ok-raise.ensures.ok (c.add.ensures.each_moment t) in
    claim_added store epoch tags c.args.least (epoch ∷ []) (g.R.Rack.state c.args.rack.now) s1 s2 (c.raise.ensures.each_moment t (epoch ∷ [])) there adding

pub returns-then-has_log-clause-reads : goal.returns-then-has_log-clause-reads
returns-then-has_log-clause-reads g c t =
    let store = c.args.self.now in
    let epoch = c.args.epoch in
    let r = raised c.args.least store.book in
    let there : has_begun epoch r ≡ true = sym (ap (λ (s : StoreState). has_begun epoch s.book) c.in_ok-raise.ensures.ok) ∙ sym (ap (λ (s : StoreState). has_begun epoch s.book) c.self.view_is)
    ∙ any_epoch epoch c.self.inside.logs.items ∙ sym (ap (λ (logs : List TagLogState). list_any (λ (log : TagLogState). log.epoch == epoch) logs) c.deref.ensures.value) ∙ sym c.has_log.ensures ∙ c.if-has_log.true in
    let tags : List (List ℕ) = c.args.tag.now ∷ [] in
    let s2 = g.R.Rack.state c.add.new.rack in
    let P = λ (stages : List StoredBook). OnErr c.add.result (Contains (as_read stages) (book_in s2.areas store.shape store.limit)) in
    let adding : P (r ∷ added epoch tags r ∷ [])
    = subst (λ (s : StoreState). OnErr c.add.result (Contains (as_read (s.book ∷ added epoch tags s.book ∷ [])) (book_in s2.areas s.shape s.limit))) c.in_ok-raise.ensures.ok (c.add.ensures.reads t) in
    let last : P (begun_with epoch r ∷ claimed epoch tags c.args.least store.book ∷ [])
    = subst (λ (b : StoredBook). P (b ∷ added epoch tags b ∷ [])) (sym (begun_before epoch r there)) adding in
    on_err c.add.result (λ found. among_behind store.book (r ∷ begun_with epoch r ∷ claimed epoch tags c.args.least store.book ∷ []) (book_in s2.areas store.shape store.limit)
    (among_behind r (begun_with epoch r ∷ claimed epoch tags c.args.least store.book ∷ []) (book_in s2.areas store.shape store.limit) found)) last

-- ---- an epoch begins

pub returns-in_err-log-clause-each_moment : goal.returns-in_err-log-clause-each_moment
returns-in_err-log-clause-each_moment g c t =
    let store = c.args.self.now in
    let epoch = c.args.epoch in
    let r = raised c.args.least store.book in
    let new : has_begun epoch r ≡ false = sym (ap (λ (s : StoreState). has_begun epoch s.book) c.in_ok-raise.ensures.ok) ∙ sym (ap (λ (s : StoreState). has_begun epoch s.book) c.self.view_is)
    ∙ any_epoch epoch c.self.inside.logs.items ∙ sym (ap (λ (logs : List TagLogState). list_any (λ (log : TagLogState). log.epoch == epoch) logs) c.deref.ensures.value) ∙ sym c.has_log.ensures ∙ c.if-has_log.false in
    let s0 = g.R.Rack.state c.args.rack.now in
    let s1 = g.R.Rack.state c.raise.new.rack in
    let s2 = g.R.Rack.state c.start_log.new.rack in
    let tags : List (List ℕ) = c.args.tag.now ∷ [] in
    let stands1 = subst (λ (s : StoreState). Stands s s1.areas) c.in_ok-raise.ensures.ok (c.in_ok-raise.ensures.stands t) in
    let near : IsNear r.floor epoch = claimed_near store.limit epoch c.args.tag.now c.args.least store.book (claim_accepted store.limit epoch c.args.tag.now c.args.least store.book c.requires.accepted) c.requires.low c.requires.high in
    let starting = start_moments (record store { book = r }) epoch s1 s2 stands1 near new (c.start_log.ensures.others t) (epoch ∷ []) (own_area epoch) in
    claim_started store epoch tags c.args.least (epoch ∷ []) s0 s1 s2 (c.raise.ensures.each_moment t (epoch ∷ [])) starting

pub returns-in_err-log-clause-reads : goal.returns-in_err-log-clause-reads
returns-in_err-log-clause-reads g c t =
    let store = c.args.self.now in
    let epoch = c.args.epoch in
    let r = raised c.args.least store.book in
    let new : has_begun epoch r ≡ false = sym (ap (λ (s : StoreState). has_begun epoch s.book) c.in_ok-raise.ensures.ok) ∙ sym (ap (λ (s : StoreState). has_begun epoch s.book) c.self.view_is)
    ∙ any_epoch epoch c.self.inside.logs.items ∙ sym (ap (λ (logs : List TagLogState). list_any (λ (log : TagLogState). log.epoch == epoch) logs) c.deref.ensures.value) ∙ sym c.has_log.ensures ∙ c.if-has_log.false in
    let s0 = g.R.Rack.state c.args.rack.now in
    let s1 = g.R.Rack.state c.raise.new.rack in
    let s2 = g.R.Rack.state c.start_log.new.rack in
    let tags : List (List ℕ) = c.args.tag.now ∷ [] in
    let stands1 = subst (λ (s : StoreState). Stands s s1.areas) c.in_ok-raise.ensures.ok (c.in_ok-raise.ensures.stands t) in
    let near : IsNear r.floor epoch = claimed_near store.limit epoch c.args.tag.now c.args.least store.book (claim_accepted store.limit epoch c.args.tag.now c.args.least store.book c.requires.accepted) c.requires.low c.requires.high in
    let read = book_in s2.areas store.shape store.limit in
    let behind = begun_with epoch r ∷ claimed epoch tags c.args.least store.book ∷ [] in
    on_any c.from_residual-in_err-log.result (among_behind store.book (r ∷ behind) read (among_front (r ∷ []) behind read (in_one r read (start_read_then (record store { book = r }) epoch s1 s2 stands1 near new (c.start_log.ensures.others t)))))

pub begin-requires-clause-new : goal.begin-requires-clause-new
begin-requires-clause-new g c =
    let store = c.args.self.now in
    let epoch = c.args.epoch in
    let r = raised c.args.least store.book in
    let new : has_begun epoch r ≡ false = sym (ap (λ (s : StoreState). has_begun epoch s.book) c.in_ok-raise.ensures.ok) ∙ sym (ap (λ (s : StoreState). has_begun epoch s.book) c.self.view_is)
    ∙ any_epoch epoch c.self.inside.logs.items ∙ sym (ap (λ (logs : List TagLogState). list_any (λ (log : TagLogState). log.epoch == epoch) logs) c.deref.ensures.value) ∙ sym c.has_log.ensures ∙ c.if-has_log.false in
    ap (λ (l : TagLogState). has_begun l.epoch c.start_log.new.self.book) c.in_ok-log.ensures.log ∙ ap (λ (s : StoreState). has_begun epoch s.book) (c.in_ok-log.ensures.ok ∙ ap (λ (s : StoreState). record s { spare = 0 }) c.in_ok-raise.ensures.ok) ∙ new

pub begin-requires-clause-near : goal.begin-requires-clause-near
begin-requires-clause-near g c =
    let store = c.args.self.now in
    let epoch = c.args.epoch in
    let r = raised c.args.least store.book in
    let near : IsNear r.floor epoch = claimed_near store.limit epoch c.args.tag.now c.args.least store.book (claim_accepted store.limit epoch c.args.tag.now c.args.least store.book c.requires.accepted) c.requires.low c.requires.high in
    subst (λ (e : ℕ). IsNear c.start_log.new.self.book.floor e) (sym (ap (λ (l : TagLogState). l.epoch) c.in_ok-log.ensures.log))
    (subst (λ (s : StoreState). IsNear s.book.floor epoch) (sym (c.in_ok-log.ensures.ok ∙ ap (λ (s : StoreState). record s { spare = 0 }) c.in_ok-raise.ensures.ok)) near)

pub begin-requires-clause-fits : goal.begin-requires-clause-fits
begin-requires-clause-fits g c =
    let store = c.args.self.now in
    let epoch = c.args.epoch in
    let r = raised c.args.least store.book in
    let new : has_begun epoch r ≡ false = sym (ap (λ (s : StoreState). has_begun epoch s.book) c.in_ok-raise.ensures.ok) ∙ sym (ap (λ (s : StoreState). has_begun epoch s.book) c.self.view_is)
    ∙ any_epoch epoch c.self.inside.logs.items ∙ sym (ap (λ (logs : List TagLogState). list_any (λ (log : TagLogState). log.epoch == epoch) logs) c.deref.ensures.value) ∙ sym c.has_log.ensures ∙ c.if-has_log.false in
    let accepted = claim_accepted store.limit epoch c.args.tag.now c.args.least store.book c.requires.accepted in
    subst (λ (s : StoreState). length s.book.roots < s.limit) (sym (c.in_ok-log.ensures.ok ∙ ap (λ (s : StoreState). record s { spare = 0 }) c.in_ok-raise.ensures.ok)) (room_to_begin store.limit epoch c.args.tag.now c.args.least store.book accepted new)

pub begin-requires-clause-stands : goal.begin-requires-clause-stands
begin-requires-clause-stands g c t =
    let store = c.args.self.now in
    let epoch = c.args.epoch in
    let r = raised c.args.least store.book in
    let new : has_begun epoch r ≡ false = sym (ap (λ (s : StoreState). has_begun epoch s.book) c.in_ok-raise.ensures.ok) ∙ sym (ap (λ (s : StoreState). has_begun epoch s.book) c.self.view_is)
    ∙ any_epoch epoch c.self.inside.logs.items ∙ sym (ap (λ (logs : List TagLogState). list_any (λ (log : TagLogState). log.epoch == epoch) logs) c.deref.ensures.value) ∙ sym c.has_log.ensures ∙ c.if-has_log.false in
    let s0 = g.R.Rack.state c.args.rack.now in
    let s1 = g.R.Rack.state c.raise.new.rack in
    let s2 = g.R.Rack.state c.start_log.new.rack in
    let tags : List (List ℕ) = c.args.tag.now ∷ [] in
    let stands1 = subst (λ (s : StoreState). Stands s s1.areas) c.in_ok-raise.ensures.ok (c.in_ok-raise.ensures.stands t) in
    let near : IsNear r.floor epoch = claimed_near store.limit epoch c.args.tag.now c.args.least store.book (claim_accepted store.limit epoch c.args.tag.now c.args.least store.book c.requires.accepted) c.requires.low c.requires.high in
    subst (λ (s : StoreState). Stands s s2.areas) (sym (c.in_ok-log.ensures.ok ∙ ap (λ (s : StoreState). record s { spare = 0 }) c.in_ok-raise.ensures.ok))
    (stands_with (record store { book = r }) s2.areas store.is_sound 0 (start_stands (record store { book = r }) epoch s1 s2 stands1 near new (c.start_log.ensures.others t)))

pub returns-in_ok-log-clause-each_moment : goal.returns-in_ok-log-clause-each_moment
returns-in_ok-log-clause-each_moment g c t =
    let store = c.args.self.now in
    let epoch = c.args.epoch in
    let r = raised c.args.least store.book in
    let new : has_begun epoch r ≡ false = sym (ap (λ (s : StoreState). has_begun epoch s.book) c.in_ok-raise.ensures.ok) ∙ sym (ap (λ (s : StoreState). has_begun epoch s.book) c.self.view_is)
    ∙ any_epoch epoch c.self.inside.logs.items ∙ sym (ap (λ (logs : List TagLogState). list_any (λ (log : TagLogState). log.epoch == epoch) logs) c.deref.ensures.value) ∙ sym c.has_log.ensures ∙ c.if-has_log.false in
    let s0 = g.R.Rack.state c.args.rack.now in
    let s1 = g.R.Rack.state c.raise.new.rack in
    let s2 = g.R.Rack.state c.start_log.new.rack in
    let tags : List (List ℕ) = c.args.tag.now ∷ [] in
    let stands1 = subst (λ (s : StoreState). Stands s s1.areas) c.in_ok-raise.ensures.ok (c.in_ok-raise.ensures.stands t) in
    let near : IsNear r.floor epoch = claimed_near store.limit epoch c.args.tag.now c.args.least store.book (claim_accepted store.limit epoch c.args.tag.now c.args.least store.book c.requires.accepted) c.requires.low c.requires.high in
    let s3 = g.R.Rack.state c.begin.new.rack in
    let starting = start_moments (record store { book = r }) epoch s1 s2 stands1 near new (c.start_log.ensures.others t) (epoch ∷ []) (own_area epoch) in
    let of_epoch = ap (λ (l : TagLogState). l.epoch) c.in_ok-log.ensures.log in
    let is = c.in_ok-log.ensures.ok ∙ ap (λ (s : StoreState). record s { spare = 0 }) c.in_ok-raise.ensures.ok in
    let begins = subst (λ (e : ℕ). AtEachMoment (Leaves store.shape store.limit (beginning_stages e tags r) (e ∷ []) s2.areas) s2 s3) of_epoch
    (subst (λ (s : StoreState). AtEachMoment (Leaves s.shape s.limit (beginning_stages c.in_ok-log.log.epoch tags s.book) (c.in_ok-log.log.epoch ∷ []) s2.areas) s2 s3) is (c.begin.ensures.each_moment t)) in
    claim_begun store epoch tags c.args.least (epoch ∷ []) s0 s1 s2 (c.raise.ensures.each_moment t (epoch ∷ [])) starting s3 begins

pub returns-in_ok-log-clause-reads : goal.returns-in_ok-log-clause-reads
returns-in_ok-log-clause-reads g c t =
    let store = c.args.self.now in
    let epoch = c.args.epoch in
    let r = raised c.args.least store.book in
    let tags : List (List ℕ) = c.args.tag.now ∷ [] in
    let s3 = g.R.Rack.state c.begin.new.rack in
    let of_epoch = ap (λ (l : TagLogState). l.epoch) c.in_ok-log.ensures.log in
    let is = c.in_ok-log.ensures.ok ∙ ap (λ (s : StoreState). record s { spare = 0 }) c.in_ok-raise.ensures.ok in
    let begins = subst (λ (e : ℕ). OnErr c.begin.result (Contains (as_read (beginning_stages e tags r)) (book_in s3.areas store.shape store.limit))) of_epoch
    (subst (λ (s : StoreState). OnErr c.begin.result (Contains (as_read (beginning_stages c.in_ok-log.log.epoch tags s.book)) (book_in s3.areas s.shape s.limit))) is (c.begin.ensures.reads t)) in
    on_err c.begin.result (λ found. among_behind store.book (beginning_stages epoch tags r) (book_in s3.areas store.shape store.limit) found) begins
