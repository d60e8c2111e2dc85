use Rattle.std.proofs.Common.{◌≡◌, ℕ, List, [], ◌∷◌, length, map, ◌*◌, ◌/◌, Bool, None, sym, ◌∙◌, ap, subst, arith, rules}
use Rattle.std.specs.Result.{IfErr}
use Rattle.replay_disk.specs.Disk.{Areas, RackState, ContentsAreImages, area_at, contents_of}
use Rattle.replay_disk.specs.Moments.{AtEachMoment}
use Rattle.std.proofs.lemmas.List.{length-map}
use Rattle.gate_log.specs.Log.{ReadState}
use Rattle.gate_log.specs.Records.{records}
use Rattle.gate_log.proofs.Standing.{read_same}
use Rattle.spent_store.specs.Books.{area_of, log_in, overfull, overfull_log, amiss, other_shape, unrecorded, first_of}
use Rattle.spent_store.specs.Faults.{Refuses}
use Rattle.spent_store.specs.Found.{NothingNew, in_order, epoch_in, begins_in_two}
use Rattle.spent_store.specs.Root.{AreNear, root_record, floor_of, begun_of, roots_in}
use Rattle.spent_store.specs.Joined.{cut}
use Rattle.spent_store.specs.TagLogs.{ReadTagsState, read_log}
use Rattle.spent_store.specs.declared.root.RootRecord.{RootRecord}
use Rattle.spent_store.proofs.Finding.{found_epochs, found_logs, found_book, tags_same, same_read, read_roots_are, sized_moments, sized_contents, root_moments, root_contents, one_moments, one_contents, two_moments, two_contents, room_moments, room_contents, refused_root, refused_judged, refused_one, refused_two}
use Rattle.spent_store.proofs.Cutting.{chunk_count}
use Rattle.spent_store.proofs.NearLaws.{begun_near}
use Rattle.spent_store.proofs.store.found.FoundStore.read.Goals as goal

pub returns-in_err-size-clause-each_moment : goal.returns-in_err-size-clause-each_moment
returns-in_err-size-clause-each_moment g c t =
    let s0 = g.R.Rack.state c.args.rack.now in
    let sized = g.R.Rack.state c.length.new.self in
    let areas = ap (λ (s : RackState). s.areas) c.length.ensures.same in
    let past = ap (λ (s : RackState). s.past) c.length.ensures.same in
    let epochs = begun_of (roots_in (contents_of 0 s0)) in
    sized_moments epochs s0 sized sized areas past

pub returns-in_err-size-clause-unwritten : goal.returns-in_err-size-clause-unwritten
returns-in_err-size-clause-unwritten g c t =
    let s0 = g.R.Rack.state c.args.rack.now in
    let sized = g.R.Rack.state c.length.new.self in
    let areas = ap (λ (s : RackState). s.areas) c.length.ensures.same in
    let past = ap (λ (s : RackState). s.past) c.length.ensures.same in
    let epochs = begun_of (roots_in (contents_of 0 s0)) in
    sized_contents epochs s0 sized sized areas past

pub returns-in_err-size-clause-images : goal.returns-in_err-size-clause-images
returns-in_err-size-clause-images g c t =
    subst (λ (a : Areas). ContentsAreImages a) (ap (λ (s : RackState). s.areas) c.length.ensures.same) (c.length.ensures.images t)

pub returns-in_err-root-clause-each_moment : goal.returns-in_err-root-clause-each_moment
returns-in_err-root-clause-each_moment g c t =
    let s0 = g.R.Rack.state c.args.rack.now in
    let sized = g.R.Rack.state c.length.new.self in
    let s1 = g.R.Rack.state c.read_log.new.rack in
    let areas = ap (λ (s : RackState). s.areas) c.length.ensures.same in
    let past = ap (λ (s : RackState). s.past) c.length.ensures.same in
    let epochs = begun_of (roots_in (contents_of 0 s0)) in
    root_moments epochs s0 sized s1 areas past (c.read_log.ensures.each_moment t) (c.read_log.ensures.unwritten t)

pub returns-in_err-root-clause-unwritten : goal.returns-in_err-root-clause-unwritten
returns-in_err-root-clause-unwritten g c t =
    let s0 = g.R.Rack.state c.args.rack.now in
    let sized = g.R.Rack.state c.length.new.self in
    let s1 = g.R.Rack.state c.read_log.new.rack in
    let areas = ap (λ (s : RackState). s.areas) c.length.ensures.same in
    let past = ap (λ (s : RackState). s.past) c.length.ensures.same in
    let epochs = begun_of (roots_in (contents_of 0 s0)) in
    root_contents epochs s0 sized s1 areas past (c.read_log.ensures.each_moment t) (c.read_log.ensures.unwritten t)

pub returns-in_err-root-clause-images : goal.returns-in_err-root-clause-images
returns-in_err-root-clause-images g c t =
    subst (λ (a : Areas). ContentsAreImages a) (ap (λ (s : RackState). s.areas) c.length.ensures.same) (c.length.ensures.images t)

pub returns-in_err-roots-clause-each_moment : goal.returns-in_err-roots-clause-each_moment
returns-in_err-roots-clause-each_moment g c t =
    let s0 = g.R.Rack.state c.args.rack.now in
    let sized = g.R.Rack.state c.length.new.self in
    let s1 = g.R.Rack.state c.read_log.new.rack in
    let areas = ap (λ (s : RackState). s.areas) c.length.ensures.same in
    let past = ap (λ (s : RackState). s.past) c.length.ensures.same in
    let epochs = begun_of (roots_in (contents_of 0 s0)) in
    root_moments epochs s0 sized s1 areas past (c.read_log.ensures.each_moment t) (c.read_log.ensures.unwritten t)

pub returns-in_err-roots-clause-unwritten : goal.returns-in_err-roots-clause-unwritten
returns-in_err-roots-clause-unwritten g c t =
    let s0 = g.R.Rack.state c.args.rack.now in
    let sized = g.R.Rack.state c.length.new.self in
    let s1 = g.R.Rack.state c.read_log.new.rack in
    let areas = ap (λ (s : RackState). s.areas) c.length.ensures.same in
    let past = ap (λ (s : RackState). s.past) c.length.ensures.same in
    let epochs = begun_of (roots_in (contents_of 0 s0)) in
    root_contents epochs s0 sized s1 areas past (c.read_log.ensures.each_moment t) (c.read_log.ensures.unwritten t)

pub returns-in_err-roots-clause-images : goal.returns-in_err-roots-clause-images
returns-in_err-roots-clause-images g c t =
    subst (λ (a : Areas). ContentsAreImages a) (ap (λ (s : RackState). s.areas) c.length.ensures.same) (c.length.ensures.images t)

pub returns-in_err-standing-clause-each_moment : goal.returns-in_err-standing-clause-each_moment
returns-in_err-standing-clause-each_moment g c t =
    let s0 = g.R.Rack.state c.args.rack.now in
    let sized = g.R.Rack.state c.length.new.self in
    let s1 = g.R.Rack.state c.read_log.new.rack in
    let areas = ap (λ (s : RackState). s.areas) c.length.ensures.same in
    let past = ap (λ (s : RackState). s.past) c.length.ensures.same in
    let epochs = begun_of (roots_in (contents_of 0 s0)) in
    root_moments epochs s0 sized s1 areas past (c.read_log.ensures.each_moment t) (c.read_log.ensures.unwritten t)

pub returns-in_err-standing-clause-unwritten : goal.returns-in_err-standing-clause-unwritten
returns-in_err-standing-clause-unwritten g c t =
    let s0 = g.R.Rack.state c.args.rack.now in
    let sized = g.R.Rack.state c.length.new.self in
    let s1 = g.R.Rack.state c.read_log.new.rack in
    let areas = ap (λ (s : RackState). s.areas) c.length.ensures.same in
    let past = ap (λ (s : RackState). s.past) c.length.ensures.same in
    let epochs = begun_of (roots_in (contents_of 0 s0)) in
    root_contents epochs s0 sized s1 areas past (c.read_log.ensures.each_moment t) (c.read_log.ensures.unwritten t)

pub returns-in_err-standing-clause-images : goal.returns-in_err-standing-clause-images
returns-in_err-standing-clause-images g c t =
    subst (λ (a : Areas). ContentsAreImages a) (ap (λ (s : RackState). s.areas) c.length.ensures.same) (c.length.ensures.images t)

pub returns-in_err-one-clause-each_moment : goal.returns-in_err-one-clause-each_moment
returns-in_err-one-clause-each_moment g c t =
    let s0 = g.R.Rack.state c.args.rack.now in
    let sized = g.R.Rack.state c.length.new.self in
    let s1 = g.R.Rack.state c.read_log.new.rack in
    let s2 = g.R.Rack.state c.read_epoch.new.rack in
    let areas = ap (λ (s : RackState). s.areas) c.length.ensures.same in
    let past = ap (λ (s : RackState). s.past) c.length.ensures.same in
    let epochs = begun_of (roots_in (contents_of 0 s0)) in
    let same_root : contents_of 0 s1 ≡ contents_of 0 s0 = c.read_log.ensures.unwritten t ∙ ap (λ (s : RackState). contents_of 0 s) c.length.ensures.same in
    let roots_are : c.in_ok-roots.roots.items ≡ roots_in (contents_of 0 s0)
    = read_roots_are (contents_of 0 s0) s1 c.in_ok-root.root c.in_ok-roots.roots.items c.records.result.now same_root (ap (λ (l : ReadState). l.area) c.in_ok-root.ensures.log) (ap (λ (l : ReadState). l.size) c.in_ok-root.ensures.log)
    (c.in_ok-root.ensures.was_read t) c.records.ensures c.in_ok-roots.ensures.roots in
    let judged_are : c.deref.result.now ≡ roots_in (contents_of 0 s0) = c.deref.ensures.value ∙ roots_are in
    let begun_one : c.deref-2.result.now ≡ epochs = c.deref-2.ensures.value ∙ c.in_ok-standing.ensures.begun ∙ ap (λ (some : List RootRecord). begun_of some) judged_are in
    let one = subst (λ (e : List ℕ). AtEachMoment (NothingNew e s1.areas) s1 s2) begun_one (c.read_epoch.ensures.each_moment t) in
    one_moments epochs s0 sized s1 areas past (c.read_log.ensures.each_moment t) (c.read_log.ensures.unwritten t) s2 one (c.read_epoch.ensures.unwritten t)

pub returns-in_err-one-clause-unwritten : goal.returns-in_err-one-clause-unwritten
returns-in_err-one-clause-unwritten g c t =
    let s0 = g.R.Rack.state c.args.rack.now in
    let sized = g.R.Rack.state c.length.new.self in
    let s1 = g.R.Rack.state c.read_log.new.rack in
    let s2 = g.R.Rack.state c.read_epoch.new.rack in
    let areas = ap (λ (s : RackState). s.areas) c.length.ensures.same in
    let past = ap (λ (s : RackState). s.past) c.length.ensures.same in
    let epochs = begun_of (roots_in (contents_of 0 s0)) in
    let same_root : contents_of 0 s1 ≡ contents_of 0 s0 = c.read_log.ensures.unwritten t ∙ ap (λ (s : RackState). contents_of 0 s) c.length.ensures.same in
    let roots_are : c.in_ok-roots.roots.items ≡ roots_in (contents_of 0 s0)
    = read_roots_are (contents_of 0 s0) s1 c.in_ok-root.root c.in_ok-roots.roots.items c.records.result.now same_root (ap (λ (l : ReadState). l.area) c.in_ok-root.ensures.log) (ap (λ (l : ReadState). l.size) c.in_ok-root.ensures.log)
    (c.in_ok-root.ensures.was_read t) c.records.ensures c.in_ok-roots.ensures.roots in
    let judged_are : c.deref.result.now ≡ roots_in (contents_of 0 s0) = c.deref.ensures.value ∙ roots_are in
    let begun_one : c.deref-2.result.now ≡ epochs = c.deref-2.ensures.value ∙ c.in_ok-standing.ensures.begun ∙ ap (λ (some : List RootRecord). begun_of some) judged_are in
    let one = subst (λ (e : List ℕ). AtEachMoment (NothingNew e s1.areas) s1 s2) begun_one (c.read_epoch.ensures.each_moment t) in
    one_contents epochs s0 sized s1 areas past (c.read_log.ensures.each_moment t) (c.read_log.ensures.unwritten t) s2 one (c.read_epoch.ensures.unwritten t)

pub returns-in_err-one-clause-images : goal.returns-in_err-one-clause-images
returns-in_err-one-clause-images g c t =
    subst (λ (a : Areas). ContentsAreImages a) (ap (λ (s : RackState). s.areas) c.length.ensures.same) (c.length.ensures.images t)

pub returns-in_err-two-clause-each_moment : goal.returns-in_err-two-clause-each_moment
returns-in_err-two-clause-each_moment g c t =
    let s0 = g.R.Rack.state c.args.rack.now in
    let sized = g.R.Rack.state c.length.new.self in
    let s1 = g.R.Rack.state c.read_log.new.rack in
    let s2 = g.R.Rack.state c.read_epoch.new.rack in
    let s3 = g.R.Rack.state c.read_epoch-2.new.rack in
    let areas = ap (λ (s : RackState). s.areas) c.length.ensures.same in
    let past = ap (λ (s : RackState). s.past) c.length.ensures.same in
    let epochs = begun_of (roots_in (contents_of 0 s0)) in
    let same_root : contents_of 0 s1 ≡ contents_of 0 s0 = c.read_log.ensures.unwritten t ∙ ap (λ (s : RackState). contents_of 0 s) c.length.ensures.same in
    let roots_are : c.in_ok-roots.roots.items ≡ roots_in (contents_of 0 s0)
    = read_roots_are (contents_of 0 s0) s1 c.in_ok-root.root c.in_ok-roots.roots.items c.records.result.now same_root (ap (λ (l : ReadState). l.area) c.in_ok-root.ensures.log) (ap (λ (l : ReadState). l.size) c.in_ok-root.ensures.log)
    (c.in_ok-root.ensures.was_read t) c.records.ensures c.in_ok-roots.ensures.roots in
    let judged_are : c.deref.result.now ≡ roots_in (contents_of 0 s0) = c.deref.ensures.value ∙ roots_are in
    let begun_one : c.deref-2.result.now ≡ epochs = c.deref-2.ensures.value ∙ c.in_ok-standing.ensures.begun ∙ ap (λ (some : List RootRecord). begun_of some) judged_are in
    let one = subst (λ (e : List ℕ). AtEachMoment (NothingNew e s1.areas) s1 s2) begun_one (c.read_epoch.ensures.each_moment t) in
    let begun_two : c.deref-3.result.now ≡ epochs = c.deref-3.ensures.value ∙ c.in_ok-standing.ensures.begun ∙ ap (λ (some : List RootRecord). begun_of some) judged_are in
    let two = subst (λ (e : List ℕ). AtEachMoment (NothingNew e s2.areas) s2 s3) begun_two (c.read_epoch-2.ensures.each_moment t) in
    two_moments epochs s0 sized s1 areas past (c.read_log.ensures.each_moment t) (c.read_log.ensures.unwritten t) s2 one (c.read_epoch.ensures.unwritten t) s3 two (c.read_epoch-2.ensures.unwritten t)

pub returns-in_err-two-clause-unwritten : goal.returns-in_err-two-clause-unwritten
returns-in_err-two-clause-unwritten g c t =
    let s0 = g.R.Rack.state c.args.rack.now in
    let sized = g.R.Rack.state c.length.new.self in
    let s1 = g.R.Rack.state c.read_log.new.rack in
    let s2 = g.R.Rack.state c.read_epoch.new.rack in
    let s3 = g.R.Rack.state c.read_epoch-2.new.rack in
    let areas = ap (λ (s : RackState). s.areas) c.length.ensures.same in
    let past = ap (λ (s : RackState). s.past) c.length.ensures.same in
    let epochs = begun_of (roots_in (contents_of 0 s0)) in
    let same_root : contents_of 0 s1 ≡ contents_of 0 s0 = c.read_log.ensures.unwritten t ∙ ap (λ (s : RackState). contents_of 0 s) c.length.ensures.same in
    let roots_are : c.in_ok-roots.roots.items ≡ roots_in (contents_of 0 s0)
    = read_roots_are (contents_of 0 s0) s1 c.in_ok-root.root c.in_ok-roots.roots.items c.records.result.now same_root (ap (λ (l : ReadState). l.area) c.in_ok-root.ensures.log) (ap (λ (l : ReadState). l.size) c.in_ok-root.ensures.log)
    (c.in_ok-root.ensures.was_read t) c.records.ensures c.in_ok-roots.ensures.roots in
    let judged_are : c.deref.result.now ≡ roots_in (contents_of 0 s0) = c.deref.ensures.value ∙ roots_are in
    let begun_one : c.deref-2.result.now ≡ epochs = c.deref-2.ensures.value ∙ c.in_ok-standing.ensures.begun ∙ ap (λ (some : List RootRecord). begun_of some) judged_are in
    let one = subst (λ (e : List ℕ). AtEachMoment (NothingNew e s1.areas) s1 s2) begun_one (c.read_epoch.ensures.each_moment t) in
    let begun_two : c.deref-3.result.now ≡ epochs = c.deref-3.ensures.value ∙ c.in_ok-standing.ensures.begun ∙ ap (λ (some : List RootRecord). begun_of some) judged_are in
    let two = subst (λ (e : List ℕ). AtEachMoment (NothingNew e s2.areas) s2 s3) begun_two (c.read_epoch-2.ensures.each_moment t) in
    two_contents epochs s0 sized s1 areas past (c.read_log.ensures.each_moment t) (c.read_log.ensures.unwritten t) s2 one (c.read_epoch.ensures.unwritten t) s3 two (c.read_epoch-2.ensures.unwritten t)

pub returns-in_err-two-clause-images : goal.returns-in_err-two-clause-images
returns-in_err-two-clause-images g c t =
    subst (λ (a : Areas). ContentsAreImages a) (ap (λ (s : RackState). s.areas) c.length.ensures.same) (c.length.ensures.images t)

pub returns-in_err-logs-clause-each_moment : goal.returns-in_err-logs-clause-each_moment
returns-in_err-logs-clause-each_moment g c t =
    let s0 = g.R.Rack.state c.args.rack.now in
    let sized = g.R.Rack.state c.length.new.self in
    let s1 = g.R.Rack.state c.read_log.new.rack in
    let s2 = g.R.Rack.state c.read_epoch.new.rack in
    let s3 = g.R.Rack.state c.read_epoch-2.new.rack in
    let areas = ap (λ (s : RackState). s.areas) c.length.ensures.same in
    let past = ap (λ (s : RackState). s.past) c.length.ensures.same in
    let epochs = begun_of (roots_in (contents_of 0 s0)) in
    let same_root : contents_of 0 s1 ≡ contents_of 0 s0 = c.read_log.ensures.unwritten t ∙ ap (λ (s : RackState). contents_of 0 s) c.length.ensures.same in
    let roots_are : c.in_ok-roots.roots.items ≡ roots_in (contents_of 0 s0)
    = read_roots_are (contents_of 0 s0) s1 c.in_ok-root.root c.in_ok-roots.roots.items c.records.result.now same_root (ap (λ (l : ReadState). l.area) c.in_ok-root.ensures.log) (ap (λ (l : ReadState). l.size) c.in_ok-root.ensures.log)
    (c.in_ok-root.ensures.was_read t) c.records.ensures c.in_ok-roots.ensures.roots in
    let judged_are : c.deref.result.now ≡ roots_in (contents_of 0 s0) = c.deref.ensures.value ∙ roots_are in
    let begun_one : c.deref-2.result.now ≡ epochs = c.deref-2.ensures.value ∙ c.in_ok-standing.ensures.begun ∙ ap (λ (some : List RootRecord). begun_of some) judged_are in
    let one = subst (λ (e : List ℕ). AtEachMoment (NothingNew e s1.areas) s1 s2) begun_one (c.read_epoch.ensures.each_moment t) in
    let begun_two : c.deref-3.result.now ≡ epochs = c.deref-3.ensures.value ∙ c.in_ok-standing.ensures.begun ∙ ap (λ (some : List RootRecord). begun_of some) judged_are in
    let two = subst (λ (e : List ℕ). AtEachMoment (NothingNew e s2.areas) s2 s3) begun_two (c.read_epoch-2.ensures.each_moment t) in
    two_moments epochs s0 sized s1 areas past (c.read_log.ensures.each_moment t) (c.read_log.ensures.unwritten t) s2 one (c.read_epoch.ensures.unwritten t) s3 two (c.read_epoch-2.ensures.unwritten t)

pub returns-in_err-logs-clause-unwritten : goal.returns-in_err-logs-clause-unwritten
returns-in_err-logs-clause-unwritten g c t =
    let s0 = g.R.Rack.state c.args.rack.now in
    let sized = g.R.Rack.state c.length.new.self in
    let s1 = g.R.Rack.state c.read_log.new.rack in
    let s2 = g.R.Rack.state c.read_epoch.new.rack in
    let s3 = g.R.Rack.state c.read_epoch-2.new.rack in
    let areas = ap (λ (s : RackState). s.areas) c.length.ensures.same in
    let past = ap (λ (s : RackState). s.past) c.length.ensures.same in
    let epochs = begun_of (roots_in (contents_of 0 s0)) in
    let same_root : contents_of 0 s1 ≡ contents_of 0 s0 = c.read_log.ensures.unwritten t ∙ ap (λ (s : RackState). contents_of 0 s) c.length.ensures.same in
    let roots_are : c.in_ok-roots.roots.items ≡ roots_in (contents_of 0 s0)
    = read_roots_are (contents_of 0 s0) s1 c.in_ok-root.root c.in_ok-roots.roots.items c.records.result.now same_root (ap (λ (l : ReadState). l.area) c.in_ok-root.ensures.log) (ap (λ (l : ReadState). l.size) c.in_ok-root.ensures.log)
    (c.in_ok-root.ensures.was_read t) c.records.ensures c.in_ok-roots.ensures.roots in
    let judged_are : c.deref.result.now ≡ roots_in (contents_of 0 s0) = c.deref.ensures.value ∙ roots_are in
    let begun_one : c.deref-2.result.now ≡ epochs = c.deref-2.ensures.value ∙ c.in_ok-standing.ensures.begun ∙ ap (λ (some : List RootRecord). begun_of some) judged_are in
    let one = subst (λ (e : List ℕ). AtEachMoment (NothingNew e s1.areas) s1 s2) begun_one (c.read_epoch.ensures.each_moment t) in
    let begun_two : c.deref-3.result.now ≡ epochs = c.deref-3.ensures.value ∙ c.in_ok-standing.ensures.begun ∙ ap (λ (some : List RootRecord). begun_of some) judged_are in
    let two = subst (λ (e : List ℕ). AtEachMoment (NothingNew e s2.areas) s2 s3) begun_two (c.read_epoch-2.ensures.each_moment t) in
    two_contents epochs s0 sized s1 areas past (c.read_log.ensures.each_moment t) (c.read_log.ensures.unwritten t) s2 one (c.read_epoch.ensures.unwritten t) s3 two (c.read_epoch-2.ensures.unwritten t)

pub returns-in_err-logs-clause-images : goal.returns-in_err-logs-clause-images
returns-in_err-logs-clause-images g c t =
    subst (λ (a : Areas). ContentsAreImages a) (ap (λ (s : RackState). s.areas) c.length.ensures.same) (c.length.ensures.images t)

pub returns-in_err-room-clause-each_moment : goal.returns-in_err-room-clause-each_moment
returns-in_err-room-clause-each_moment g c t =
    let s0 = g.R.Rack.state c.args.rack.now in
    let sized = g.R.Rack.state c.length.new.self in
    let s1 = g.R.Rack.state c.read_log.new.rack in
    let s2 = g.R.Rack.state c.read_epoch.new.rack in
    let s3 = g.R.Rack.state c.read_epoch-2.new.rack in
    let s4 = g.R.Rack.state c.room.new.self in
    let areas = ap (λ (s : RackState). s.areas) c.length.ensures.same in
    let past = ap (λ (s : RackState). s.past) c.length.ensures.same in
    let epochs = begun_of (roots_in (contents_of 0 s0)) in
    let same_root : contents_of 0 s1 ≡ contents_of 0 s0 = c.read_log.ensures.unwritten t ∙ ap (λ (s : RackState). contents_of 0 s) c.length.ensures.same in
    let roots_are : c.in_ok-roots.roots.items ≡ roots_in (contents_of 0 s0)
    = read_roots_are (contents_of 0 s0) s1 c.in_ok-root.root c.in_ok-roots.roots.items c.records.result.now same_root (ap (λ (l : ReadState). l.area) c.in_ok-root.ensures.log) (ap (λ (l : ReadState). l.size) c.in_ok-root.ensures.log)
    (c.in_ok-root.ensures.was_read t) c.records.ensures c.in_ok-roots.ensures.roots in
    let judged_are : c.deref.result.now ≡ roots_in (contents_of 0 s0) = c.deref.ensures.value ∙ roots_are in
    let begun_one : c.deref-2.result.now ≡ epochs = c.deref-2.ensures.value ∙ c.in_ok-standing.ensures.begun ∙ ap (λ (some : List RootRecord). begun_of some) judged_are in
    let one = subst (λ (e : List ℕ). AtEachMoment (NothingNew e s1.areas) s1 s2) begun_one (c.read_epoch.ensures.each_moment t) in
    let begun_two : c.deref-3.result.now ≡ epochs = c.deref-3.ensures.value ∙ c.in_ok-standing.ensures.begun ∙ ap (λ (some : List RootRecord). begun_of some) judged_are in
    let two = subst (λ (e : List ℕ). AtEachMoment (NothingNew e s2.areas) s2 s3) begun_two (c.read_epoch-2.ensures.each_moment t) in
    room_moments epochs s0 sized s1 areas past (c.read_log.ensures.each_moment t) (c.read_log.ensures.unwritten t) s2 one (c.read_epoch.ensures.unwritten t) s3 two (c.read_epoch-2.ensures.unwritten t) s4 (ap (λ (s : RackState). s.areas) c.room.ensures.same) (ap (λ (s : RackState). s.past) c.room.ensures.same)

pub returns-in_err-room-clause-unwritten : goal.returns-in_err-room-clause-unwritten
returns-in_err-room-clause-unwritten g c t =
    let s0 = g.R.Rack.state c.args.rack.now in
    let sized = g.R.Rack.state c.length.new.self in
    let s1 = g.R.Rack.state c.read_log.new.rack in
    let s2 = g.R.Rack.state c.read_epoch.new.rack in
    let s3 = g.R.Rack.state c.read_epoch-2.new.rack in
    let s4 = g.R.Rack.state c.room.new.self in
    let areas = ap (λ (s : RackState). s.areas) c.length.ensures.same in
    let past = ap (λ (s : RackState). s.past) c.length.ensures.same in
    let epochs = begun_of (roots_in (contents_of 0 s0)) in
    let same_root : contents_of 0 s1 ≡ contents_of 0 s0 = c.read_log.ensures.unwritten t ∙ ap (λ (s : RackState). contents_of 0 s) c.length.ensures.same in
    let roots_are : c.in_ok-roots.roots.items ≡ roots_in (contents_of 0 s0)
    = read_roots_are (contents_of 0 s0) s1 c.in_ok-root.root c.in_ok-roots.roots.items c.records.result.now same_root (ap (λ (l : ReadState). l.area) c.in_ok-root.ensures.log) (ap (λ (l : ReadState). l.size) c.in_ok-root.ensures.log)
    (c.in_ok-root.ensures.was_read t) c.records.ensures c.in_ok-roots.ensures.roots in
    let judged_are : c.deref.result.now ≡ roots_in (contents_of 0 s0) = c.deref.ensures.value ∙ roots_are in
    let begun_one : c.deref-2.result.now ≡ epochs = c.deref-2.ensures.value ∙ c.in_ok-standing.ensures.begun ∙ ap (λ (some : List RootRecord). begun_of some) judged_are in
    let one = subst (λ (e : List ℕ). AtEachMoment (NothingNew e s1.areas) s1 s2) begun_one (c.read_epoch.ensures.each_moment t) in
    let begun_two : c.deref-3.result.now ≡ epochs = c.deref-3.ensures.value ∙ c.in_ok-standing.ensures.begun ∙ ap (λ (some : List RootRecord). begun_of some) judged_are in
    let two = subst (λ (e : List ℕ). AtEachMoment (NothingNew e s2.areas) s2 s3) begun_two (c.read_epoch-2.ensures.each_moment t) in
    room_contents epochs s0 sized s1 areas past (c.read_log.ensures.each_moment t) (c.read_log.ensures.unwritten t) s2 one (c.read_epoch.ensures.unwritten t) s3 two (c.read_epoch-2.ensures.unwritten t) s4 (ap (λ (s : RackState). s.areas) c.room.ensures.same) (ap (λ (s : RackState). s.past) c.room.ensures.same)

pub returns-in_err-room-clause-images : goal.returns-in_err-room-clause-images
returns-in_err-room-clause-images g c t =
    subst (λ (a : Areas). ContentsAreImages a) (ap (λ (s : RackState). s.areas) c.length.ensures.same) (c.length.ensures.images t)

pub returns-clause-each_moment : goal.returns-clause-each_moment
returns-clause-each_moment g c t =
    let s0 = g.R.Rack.state c.args.rack.now in
    let sized = g.R.Rack.state c.length.new.self in
    let s1 = g.R.Rack.state c.read_log.new.rack in
    let s2 = g.R.Rack.state c.read_epoch.new.rack in
    let s3 = g.R.Rack.state c.read_epoch-2.new.rack in
    let s4 = g.R.Rack.state c.room.new.self in
    let areas = ap (λ (s : RackState). s.areas) c.length.ensures.same in
    let past = ap (λ (s : RackState). s.past) c.length.ensures.same in
    let epochs = begun_of (roots_in (contents_of 0 s0)) in
    let same_root : contents_of 0 s1 ≡ contents_of 0 s0 = c.read_log.ensures.unwritten t ∙ ap (λ (s : RackState). contents_of 0 s) c.length.ensures.same in
    let roots_are : c.in_ok-roots.roots.items ≡ roots_in (contents_of 0 s0)
    = read_roots_are (contents_of 0 s0) s1 c.in_ok-root.root c.in_ok-roots.roots.items c.records.result.now same_root (ap (λ (l : ReadState). l.area) c.in_ok-root.ensures.log) (ap (λ (l : ReadState). l.size) c.in_ok-root.ensures.log)
    (c.in_ok-root.ensures.was_read t) c.records.ensures c.in_ok-roots.ensures.roots in
    let judged_are : c.deref.result.now ≡ roots_in (contents_of 0 s0) = c.deref.ensures.value ∙ roots_are in
    let begun_one : c.deref-2.result.now ≡ epochs = c.deref-2.ensures.value ∙ c.in_ok-standing.ensures.begun ∙ ap (λ (some : List RootRecord). begun_of some) judged_are in
    let one = subst (λ (e : List ℕ). AtEachMoment (NothingNew e s1.areas) s1 s2) begun_one (c.read_epoch.ensures.each_moment t) in
    let begun_two : c.deref-3.result.now ≡ epochs = c.deref-3.ensures.value ∙ c.in_ok-standing.ensures.begun ∙ ap (λ (some : List RootRecord). begun_of some) judged_are in
    let two = subst (λ (e : List ℕ). AtEachMoment (NothingNew e s2.areas) s2 s3) begun_two (c.read_epoch-2.ensures.each_moment t) in
    room_moments epochs s0 sized s1 areas past (c.read_log.ensures.each_moment t) (c.read_log.ensures.unwritten t) s2 one (c.read_epoch.ensures.unwritten t) s3 two (c.read_epoch-2.ensures.unwritten t) s4 (ap (λ (s : RackState). s.areas) c.room.ensures.same) (ap (λ (s : RackState). s.past) c.room.ensures.same)

pub returns-clause-unwritten : goal.returns-clause-unwritten
returns-clause-unwritten g c t =
    let s0 = g.R.Rack.state c.args.rack.now in
    let sized = g.R.Rack.state c.length.new.self in
    let s1 = g.R.Rack.state c.read_log.new.rack in
    let s2 = g.R.Rack.state c.read_epoch.new.rack in
    let s3 = g.R.Rack.state c.read_epoch-2.new.rack in
    let s4 = g.R.Rack.state c.room.new.self in
    let areas = ap (λ (s : RackState). s.areas) c.length.ensures.same in
    let past = ap (λ (s : RackState). s.past) c.length.ensures.same in
    let epochs = begun_of (roots_in (contents_of 0 s0)) in
    let same_root : contents_of 0 s1 ≡ contents_of 0 s0 = c.read_log.ensures.unwritten t ∙ ap (λ (s : RackState). contents_of 0 s) c.length.ensures.same in
    let roots_are : c.in_ok-roots.roots.items ≡ roots_in (contents_of 0 s0)
    = read_roots_are (contents_of 0 s0) s1 c.in_ok-root.root c.in_ok-roots.roots.items c.records.result.now same_root (ap (λ (l : ReadState). l.area) c.in_ok-root.ensures.log) (ap (λ (l : ReadState). l.size) c.in_ok-root.ensures.log)
    (c.in_ok-root.ensures.was_read t) c.records.ensures c.in_ok-roots.ensures.roots in
    let judged_are : c.deref.result.now ≡ roots_in (contents_of 0 s0) = c.deref.ensures.value ∙ roots_are in
    let begun_one : c.deref-2.result.now ≡ epochs = c.deref-2.ensures.value ∙ c.in_ok-standing.ensures.begun ∙ ap (λ (some : List RootRecord). begun_of some) judged_are in
    let one = subst (λ (e : List ℕ). AtEachMoment (NothingNew e s1.areas) s1 s2) begun_one (c.read_epoch.ensures.each_moment t) in
    let begun_two : c.deref-3.result.now ≡ epochs = c.deref-3.ensures.value ∙ c.in_ok-standing.ensures.begun ∙ ap (λ (some : List RootRecord). begun_of some) judged_are in
    let two = subst (λ (e : List ℕ). AtEachMoment (NothingNew e s2.areas) s2 s3) begun_two (c.read_epoch-2.ensures.each_moment t) in
    room_contents epochs s0 sized s1 areas past (c.read_log.ensures.each_moment t) (c.read_log.ensures.unwritten t) s2 one (c.read_epoch.ensures.unwritten t) s3 two (c.read_epoch-2.ensures.unwritten t) s4 (ap (λ (s : RackState). s.areas) c.room.ensures.same) (ap (λ (s : RackState). s.past) c.room.ensures.same)

pub returns-clause-images : goal.returns-clause-images
returns-clause-images g c t =
    subst (λ (a : Areas). ContentsAreImages a) (ap (λ (s : RackState). s.areas) c.length.ensures.same) (c.length.ensures.images t)

pub returns-in_err-root-clause-objection : goal.returns-in_err-root-clause-objection
returns-in_err-root-clause-objection g c t =
    let s0 = g.R.Rack.state c.args.rack.now in
    let sized = g.R.Rack.state c.length.new.self in
    let s1 = g.R.Rack.state c.read_log.new.rack in
    refused_root c.from_residual-in_err-root.result (contents_of 0 s0) (contents_of 1 s0) (contents_of 2 s0) c.args.shape.now c.args.limit
    (subst (λ (b : List ℕ). IfErr c.from_residual-in_err-root.result (λ fault. Refuses fault (overfull c.args.limit 0 9 b))) (ap (λ (s : RackState). contents_of 0 s) c.length.ensures.same) (search rules))

pub returns-in_err-standing-clause-objection : goal.returns-in_err-standing-clause-objection
returns-in_err-standing-clause-objection g c t =
    let s0 = g.R.Rack.state c.args.rack.now in
    let sized = g.R.Rack.state c.length.new.self in
    let s1 = g.R.Rack.state c.read_log.new.rack in
    let same_root : contents_of 0 s1 ≡ contents_of 0 s0 = c.read_log.ensures.unwritten t ∙ ap (λ (s : RackState). contents_of 0 s) c.length.ensures.same in
    let roots_are : c.in_ok-roots.roots.items ≡ roots_in (contents_of 0 s0)
    = read_roots_are (contents_of 0 s0) s1 c.in_ok-root.root c.in_ok-roots.roots.items c.records.result.now same_root (ap (λ (l : ReadState). l.area) c.in_ok-root.ensures.log) (ap (λ (l : ReadState). l.size) c.in_ok-root.ensures.log)
    (c.in_ok-root.ensures.was_read t) c.records.ensures c.in_ok-roots.ensures.roots in
    let judged_are : c.deref.result.now ≡ roots_in (contents_of 0 s0) = c.deref.ensures.value ∙ roots_are in
    let counted = subst (λ (b : List ℕ). overfull c.args.limit 0 9 b ≡ None) (ap (λ (s : RackState). contents_of 0 s) c.length.ensures.same) (c.in_ok-root.ensures.fits t) in
    let size : c.in_ok-size.size ≡ length (contents_of 0 s0) = c.in_ok-size.ensures.answer t in
    refused_judged c.from_residual-in_err-standing.result (contents_of 0 s0) (contents_of 1 s0) (contents_of 2 s0) c.args.shape.now c.args.limit counted c.deref.result.now judged_are
    (subst (λ (n : ℕ). IfErr c.from_residual-in_err-standing.result (λ fault. Refuses fault (first_of (unrecorded n c.deref.result.now ∷ amiss c.deref.result.now ∷ other_shape c.args.shape.now c.deref.result.now ∷ [])))) size (search rules))

pub returns-in_err-one-clause-objection : goal.returns-in_err-one-clause-objection
returns-in_err-one-clause-objection g c t =
    let s0 = g.R.Rack.state c.args.rack.now in
    let sized = g.R.Rack.state c.length.new.self in
    let s1 = g.R.Rack.state c.read_log.new.rack in
    let s2 = g.R.Rack.state c.read_epoch.new.rack in
    let areas = ap (λ (s : RackState). s.areas) c.length.ensures.same in
    let past = ap (λ (s : RackState). s.past) c.length.ensures.same in
    let epochs = begun_of (roots_in (contents_of 0 s0)) in
    let same_root : contents_of 0 s1 ≡ contents_of 0 s0 = c.read_log.ensures.unwritten t ∙ ap (λ (s : RackState). contents_of 0 s) c.length.ensures.same in
    let roots_are : c.in_ok-roots.roots.items ≡ roots_in (contents_of 0 s0)
    = read_roots_are (contents_of 0 s0) s1 c.in_ok-root.root c.in_ok-roots.roots.items c.records.result.now same_root (ap (λ (l : ReadState). l.area) c.in_ok-root.ensures.log) (ap (λ (l : ReadState). l.size) c.in_ok-root.ensures.log)
    (c.in_ok-root.ensures.was_read t) c.records.ensures c.in_ok-roots.ensures.roots in
    let judged_are : c.deref.result.now ≡ roots_in (contents_of 0 s0) = c.deref.ensures.value ∙ roots_are in
    let begun_one : c.deref-2.result.now ≡ epochs = c.deref-2.ensures.value ∙ c.in_ok-standing.ensures.begun ∙ ap (λ (some : List RootRecord). begun_of some) judged_are in
    let counted = subst (λ (b : List ℕ). overfull c.args.limit 0 9 b ≡ None) (ap (λ (s : RackState). contents_of 0 s) c.length.ensures.same) (c.in_ok-root.ensures.fits t) in
    let size : c.in_ok-size.size ≡ length (contents_of 0 s0) = c.in_ok-size.ensures.answer t in
    let recorded = subst (λ (n : ℕ). unrecorded n c.deref.result.now ≡ None) size c.in_ok-standing.ensures.recorded in
    let kept = root_contents epochs s0 sized s1 areas past (c.read_log.ensures.each_moment t) (c.read_log.ensures.unwritten t) in
    refused_one c.from_residual-in_err-one.result (contents_of 0 s0) (contents_of 1 s0) (contents_of 2 s0) c.args.shape.now c.args.limit counted c.deref.result.now judged_are recorded c.in_ok-standing.ensures.in_order c.in_ok-standing.ensures.shaped c.deref-2.result.now begun_one
    (subst (λ (b : List ℕ). IfErr c.from_residual-in_err-one.result (λ fault. Refuses fault (overfull_log c.args.limit 1 b c.deref-2.result.now))) kept.one (search rules))

pub returns-in_err-two-clause-objection : goal.returns-in_err-two-clause-objection
returns-in_err-two-clause-objection g c t =
    let s0 = g.R.Rack.state c.args.rack.now in
    let sized = g.R.Rack.state c.length.new.self in
    let s1 = g.R.Rack.state c.read_log.new.rack in
    let s2 = g.R.Rack.state c.read_epoch.new.rack in
    let s3 = g.R.Rack.state c.read_epoch-2.new.rack in
    let areas = ap (λ (s : RackState). s.areas) c.length.ensures.same in
    let past = ap (λ (s : RackState). s.past) c.length.ensures.same in
    let epochs = begun_of (roots_in (contents_of 0 s0)) in
    let same_root : contents_of 0 s1 ≡ contents_of 0 s0 = c.read_log.ensures.unwritten t ∙ ap (λ (s : RackState). contents_of 0 s) c.length.ensures.same in
    let roots_are : c.in_ok-roots.roots.items ≡ roots_in (contents_of 0 s0)
    = read_roots_are (contents_of 0 s0) s1 c.in_ok-root.root c.in_ok-roots.roots.items c.records.result.now same_root (ap (λ (l : ReadState). l.area) c.in_ok-root.ensures.log) (ap (λ (l : ReadState). l.size) c.in_ok-root.ensures.log)
    (c.in_ok-root.ensures.was_read t) c.records.ensures c.in_ok-roots.ensures.roots in
    let judged_are : c.deref.result.now ≡ roots_in (contents_of 0 s0) = c.deref.ensures.value ∙ roots_are in
    let begun_one : c.deref-2.result.now ≡ epochs = c.deref-2.ensures.value ∙ c.in_ok-standing.ensures.begun ∙ ap (λ (some : List RootRecord). begun_of some) judged_are in
    let one = subst (λ (e : List ℕ). AtEachMoment (NothingNew e s1.areas) s1 s2) begun_one (c.read_epoch.ensures.each_moment t) in
    let begun_two : c.deref-3.result.now ≡ epochs = c.deref-3.ensures.value ∙ c.in_ok-standing.ensures.begun ∙ ap (λ (some : List RootRecord). begun_of some) judged_are in
    let counted = subst (λ (b : List ℕ). overfull c.args.limit 0 9 b ≡ None) (ap (λ (s : RackState). contents_of 0 s) c.length.ensures.same) (c.in_ok-root.ensures.fits t) in
    let size : c.in_ok-size.size ≡ length (contents_of 0 s0) = c.in_ok-size.ensures.answer t in
    let recorded = subst (λ (n : ℕ). unrecorded n c.deref.result.now ≡ None) size c.in_ok-standing.ensures.recorded in
    let kept = root_contents epochs s0 sized s1 areas past (c.read_log.ensures.each_moment t) (c.read_log.ensures.unwritten t) in
    let kept_two = one_contents epochs s0 sized s1 areas past (c.read_log.ensures.each_moment t) (c.read_log.ensures.unwritten t) s2 one (c.read_epoch.ensures.unwritten t) in
    let none = subst (λ (b : List ℕ). overfull_log c.args.limit 1 b c.deref-3.result.now ≡ None) kept.one (subst (λ (e : List ℕ). overfull_log c.args.limit 1 (contents_of 1 s1) e ≡ None) (begun_one ∙ sym begun_two) (c.in_ok-one.ensures.fits t)) in
    refused_two c.from_residual-in_err-two.result (contents_of 0 s0) (contents_of 1 s0) (contents_of 2 s0) c.args.shape.now c.args.limit counted c.deref.result.now judged_are recorded c.in_ok-standing.ensures.in_order c.in_ok-standing.ensures.shaped c.deref-3.result.now begun_two none
    (subst (λ (b : List ℕ). IfErr c.from_residual-in_err-two.result (λ fault. Refuses fault (overfull_log c.args.limit 2 b c.deref-3.result.now))) kept_two.two (search rules))

pub invariant_of-result : goal.invariant_of-result
invariant_of-result g c =
    let begun = c.in_ok-standing.standing.begun.items in
    let hist : c.history_of.result.items ≡ c.in_ok-roots.roots.items = c.history_of.ensures ∙ c.deref-4.ensures.value in
    let near : AreNear c.in_ok-standing.standing.floor begun
    = subst (λ (floor : ℕ). AreNear floor begun) (sym c.in_ok-standing.ensures.floor)
    (subst (λ (e : List ℕ). AreNear (floor_of c.deref.result.now) e) (sym c.in_ok-standing.ensures.begun) (begun_near c.deref.result.now c.in_ok-standing.ensures.in_order)) in
    let is_one = c.in_ok-one.ensures.epoch ∙ ap (λ (e : List ℕ). epoch_in 1 e) c.deref-2.ensures.value in
    let is_two = c.in_ok-two.ensures.epoch ∙ ap (λ (e : List ℕ). epoch_in 2 e) c.deref-3.ensures.value in
    let order : c.starts_in_two.result ≡ begins_in_two begun = c.starts_in_two.ensures ∙ ap begins_in_two c.deref-5.ensures.value in
    let log = c.in_ok-root.ensures.log in
    let joined : length c.records.result.now ≡ 9 * c.in_ok-root.root.count = ap (λ (xs : List ℕ). length xs) c.records.ensures ∙ c.in_ok-root.ensures.whole in
    let number : length c.in_ok-roots.roots.items ≡ length c.records.result.now / 9
    = ap (λ (found : List RootRecord). length found) c.in_ok-roots.ensures.roots ∙ length-map (cut 9 c.records.result.now) root_record ∙ chunk_count 9 (length c.records.result.now / 9) c.records.result.now in
    let epochs : map (λ (read : ReadTagsState). read.epoch) (in_order c.starts_in_two.result c.in_ok-one.one c.in_ok-two.two) ≡ begun
    = ap (λ (b : Bool). map (λ (read : ReadTagsState). read.epoch) (in_order b c.in_ok-one.one c.in_ok-two.two)) order ∙ found_epochs c.in_ok-standing.standing.floor begun c.in_ok-one.one c.in_ok-two.two near is_one is_two in (
      c.requires.limit,
      c.requires.some,
      ap (λ (l : ReadState). l.area) log,
      ap (λ (l : ReadState). l.size) log,
      ap (λ (l : ReadState). l.limit) log,
      omega (arith, joined, number, ap (λ (found : List RootRecord). length found) hist),
      c.in_ok-one.ensures.in_area,
      c.in_ok-two.ensures.in_area,
      subst (λ (e : List ℕ). AreNear c.in_ok-standing.standing.floor e) (sym epochs) near,
      (search rules),
      (search rules),
    )

pub returns-clause-book : goal.returns-clause-book
returns-clause-book g c t =
    let s0 = g.R.Rack.state c.args.rack.now in
    let sized = g.R.Rack.state c.length.new.self in
    let s1 = g.R.Rack.state c.read_log.new.rack in
    let s2 = g.R.Rack.state c.read_epoch.new.rack in
    let s3 = g.R.Rack.state c.read_epoch-2.new.rack in
    let areas = ap (λ (s : RackState). s.areas) c.length.ensures.same in
    let past = ap (λ (s : RackState). s.past) c.length.ensures.same in
    let epochs = begun_of (roots_in (contents_of 0 s0)) in
    let same_root : contents_of 0 s1 ≡ contents_of 0 s0 = c.read_log.ensures.unwritten t ∙ ap (λ (s : RackState). contents_of 0 s) c.length.ensures.same in
    let roots_are : c.in_ok-roots.roots.items ≡ roots_in (contents_of 0 s0)
    = read_roots_are (contents_of 0 s0) s1 c.in_ok-root.root c.in_ok-roots.roots.items c.records.result.now same_root (ap (λ (l : ReadState). l.area) c.in_ok-root.ensures.log) (ap (λ (l : ReadState). l.size) c.in_ok-root.ensures.log)
    (c.in_ok-root.ensures.was_read t) c.records.ensures c.in_ok-roots.ensures.roots in
    let judged_are : c.deref.result.now ≡ roots_in (contents_of 0 s0) = c.deref.ensures.value ∙ roots_are in
    let begun_one : c.deref-2.result.now ≡ epochs = c.deref-2.ensures.value ∙ c.in_ok-standing.ensures.begun ∙ ap (λ (some : List RootRecord). begun_of some) judged_are in
    let one = subst (λ (e : List ℕ). AtEachMoment (NothingNew e s1.areas) s1 s2) begun_one (c.read_epoch.ensures.each_moment t) in
    let begun_two : c.deref-3.result.now ≡ epochs = c.deref-3.ensures.value ∙ c.in_ok-standing.ensures.begun ∙ ap (λ (some : List RootRecord). begun_of some) judged_are in
    let two = subst (λ (e : List ℕ). AtEachMoment (NothingNew e s2.areas) s2 s3) begun_two (c.read_epoch-2.ensures.each_moment t) in
    let counted = subst (λ (b : List ℕ). overfull c.args.limit 0 9 b ≡ None) (ap (λ (s : RackState). contents_of 0 s) c.length.ensures.same) (c.in_ok-root.ensures.fits t) in
    let sized_is : c.in_ok-size.size ≡ length (contents_of 0 s0) = c.in_ok-size.ensures.answer t in
    let begun = c.in_ok-standing.standing.begun.items in
    let hist : c.history_of.result.items ≡ c.in_ok-roots.roots.items = c.history_of.ensures ∙ c.deref-4.ensures.value in
    let near : AreNear c.in_ok-standing.standing.floor begun
    = subst (λ (floor : ℕ). AreNear floor begun) (sym c.in_ok-standing.ensures.floor)
    (subst (λ (e : List ℕ). AreNear (floor_of c.deref.result.now) e) (sym c.in_ok-standing.ensures.begun) (begun_near c.deref.result.now c.in_ok-standing.ensures.in_order)) in
    let is_one = c.in_ok-one.ensures.epoch ∙ ap (λ (e : List ℕ). epoch_in 1 e) c.deref-2.ensures.value in
    let is_two = c.in_ok-two.ensures.epoch ∙ ap (λ (e : List ℕ). epoch_in 2 e) c.deref-3.ensures.value in
    let order : c.starts_in_two.result ≡ begins_in_two begun = c.starts_in_two.ensures ∙ ap begins_in_two c.deref-5.ensures.value in
    let kept = root_contents epochs s0 sized s1 areas past (c.read_log.ensures.each_moment t) (c.read_log.ensures.unwritten t) in
    let kept_one = one_contents epochs s0 sized s1 areas past (c.read_log.ensures.each_moment t) (c.read_log.ensures.unwritten t) s2 one (c.read_epoch.ensures.unwritten t) in
    let kept_two = two_contents epochs s0 sized s1 areas past (c.read_log.ensures.each_moment t) (c.read_log.ensures.unwritten t) s2 one (c.read_epoch.ensures.unwritten t) s3 two (c.read_epoch-2.ensures.unwritten t) in
    let judged : c.deref.result.now ≡ c.history_of.result.items = c.deref.ensures.value ∙ sym hist in
    let first = subst (λ (b : List ℕ). overfull_log c.args.limit 1 b begun ≡ None) kept.one (subst (λ (e : List ℕ). overfull_log c.args.limit 1 (contents_of 1 s1) e ≡ None) c.deref-2.ensures.value (c.in_ok-one.ensures.fits t)) in
    let second = subst (λ (b : List ℕ). overfull_log c.args.limit 2 b begun ≡ None) kept_one.two (subst (λ (e : List ℕ). overfull_log c.args.limit 2 (contents_of 2 s2) e ≡ None) c.deref-3.ensures.value (c.in_ok-two.ensures.fits t)) in
    let logs : map read_log (in_order c.starts_in_two.result c.in_ok-one.one c.in_ok-two.two) ≡ map (log_in (contents_of 1 s0) (contents_of 2 s0)) begun
    = ap (λ (b : Bool). map read_log (in_order b c.in_ok-one.one c.in_ok-two.two)) order
    ∙ found_logs c.in_ok-standing.standing.floor (contents_of 1 s0) (contents_of 2 s0) begun c.in_ok-one.one c.in_ok-two.two near is_one is_two
    (λ read same.
    let area = (c.in_ok-one.ensures.in_area read same).0 in
    (area, ap (λ (bytes : List ℕ). records 32 bytes) (sym kept_one.one) ∙ subst (λ (a : ℕ). records 32 (contents_of a s2) ≡ read.tags) area (c.in_ok-one.ensures.read t read same).tags))
    (λ read same.
    let area = (c.in_ok-two.ensures.in_area read same).0 in
    (area, ap (λ (bytes : List ℕ). records 32 bytes) (sym kept_two.two) ∙ subst (λ (a : ℕ). records 32 (contents_of a s3) ≡ read.tags) area (c.in_ok-two.ensures.read t read same).tags)) in
    found_book (contents_of 0 s0) (contents_of 1 s0) (contents_of 2 s0) c.args.shape.now c.args.limit c.in_ok-standing.standing.floor begun c.history_of.result.items
    (map read_log (in_order c.starts_in_two.result c.in_ok-one.one c.in_ok-two.two)) (hist ∙ roots_are) (c.in_ok-standing.ensures.floor ∙ ap (λ (found : List RootRecord). floor_of found) judged)
    (c.in_ok-standing.ensures.begun ∙ ap (λ (found : List RootRecord). begun_of found) judged) counted
    (subst (λ (found : List RootRecord). unrecorded (length (contents_of 0 s0)) found ≡ None) judged (subst (λ (n : ℕ). unrecorded n c.deref.result.now ≡ None) sized_is c.in_ok-standing.ensures.recorded))
    (subst (λ (found : List RootRecord). amiss found ≡ None) judged c.in_ok-standing.ensures.in_order) (subst (λ (found : List RootRecord). other_shape c.args.shape.now found ≡ None) judged c.in_ok-standing.ensures.shaped)
    first second logs

pub returns-clause-found : goal.returns-clause-found
returns-clause-found g c t =
    let s0 = g.R.Rack.state c.args.rack.now in
    let sized = g.R.Rack.state c.length.new.self in
    let s1 = g.R.Rack.state c.read_log.new.rack in
    let s2 = g.R.Rack.state c.read_epoch.new.rack in
    let s3 = g.R.Rack.state c.read_epoch-2.new.rack in
    let s4 = g.R.Rack.state c.room.new.self in
    let areas = ap (λ (s : RackState). s.areas) c.length.ensures.same in
    let past = ap (λ (s : RackState). s.past) c.length.ensures.same in
    let epochs = begun_of (roots_in (contents_of 0 s0)) in
    let same_root : contents_of 0 s1 ≡ contents_of 0 s0 = c.read_log.ensures.unwritten t ∙ ap (λ (s : RackState). contents_of 0 s) c.length.ensures.same in
    let roots_are : c.in_ok-roots.roots.items ≡ roots_in (contents_of 0 s0)
    = read_roots_are (contents_of 0 s0) s1 c.in_ok-root.root c.in_ok-roots.roots.items c.records.result.now same_root (ap (λ (l : ReadState). l.area) c.in_ok-root.ensures.log) (ap (λ (l : ReadState). l.size) c.in_ok-root.ensures.log)
    (c.in_ok-root.ensures.was_read t) c.records.ensures c.in_ok-roots.ensures.roots in
    let judged_are : c.deref.result.now ≡ roots_in (contents_of 0 s0) = c.deref.ensures.value ∙ roots_are in
    let begun_one : c.deref-2.result.now ≡ epochs = c.deref-2.ensures.value ∙ c.in_ok-standing.ensures.begun ∙ ap (λ (some : List RootRecord). begun_of some) judged_are in
    let one = subst (λ (e : List ℕ). AtEachMoment (NothingNew e s1.areas) s1 s2) begun_one (c.read_epoch.ensures.each_moment t) in
    let begun_two : c.deref-3.result.now ≡ epochs = c.deref-3.ensures.value ∙ c.in_ok-standing.ensures.begun ∙ ap (λ (some : List RootRecord). begun_of some) judged_are in
    let two = subst (λ (e : List ℕ). AtEachMoment (NothingNew e s2.areas) s2 s3) begun_two (c.read_epoch-2.ensures.each_moment t) in
    let one_others = c.read_epoch.ensures.others t in
    let two_others = c.read_epoch-2.ensures.others t in
    let last = ap (λ (s : RackState). s.areas) c.room.ensures.same in
    let zero : area_at 0 s4.areas ≡ area_at 0 s1.areas
    = ap (λ (a : Areas). area_at 0 a) last ∙ two_others 0 (omega arith) (λ same. omega (arith, same)) ∙ one_others 0 (omega arith) (λ same. omega (arith, same)) in
    let root = c.in_ok-root.root in
    record {
      root = read_same root s1 s4 (subst (λ (a : ℕ). area_at a s4.areas ≡ area_at a s1.areas) (sym (ap (λ (l : ReadState). l.area) c.in_ok-root.ensures.log)) zero) (c.in_ok-root.ensures.was_read t);
      one = λ read same.
          let area = (c.in_ok-one.ensures.in_area read same).0 in
          tags_same read s2 s4 (ap (λ (a : Areas). area_at (area_of read.epoch) a) last ∙ two_others (area_of read.epoch) (omega (arith, area)) (λ is. omega (arith, is, area))) (c.in_ok-one.ensures.read t read same);
      two = λ read same. tags_same read s3 s4 (ap (λ (a : Areas). area_at (area_of read.epoch) a) last) (c.in_ok-two.ensures.read t read same);
      reads = same_read c.args.shape.now c.args.limit s0.areas s4.areas (room_contents epochs s0 sized s1 areas past (c.read_log.ensures.each_moment t) (c.read_log.ensures.unwritten t) s2 one (c.read_epoch.ensures.unwritten t) s3 two (c.read_epoch-2.ensures.unwritten t) s4 (ap (λ (s : RackState). s.areas) c.room.ensures.same) (ap (λ (s : RackState). s.past) c.room.ensures.same)) ∙ returns-clause-book g c t;
    }
