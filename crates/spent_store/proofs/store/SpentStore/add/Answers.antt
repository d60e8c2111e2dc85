use Rattle.std.proofs.Common.{◌≡◌, ◌==◌, ℕ, ◌+◌, ◌≤◌, false, List, [], ◌∷◌, length, slice_set, map, sym, ◌∙◌, ap, subst, arith}
use Rattle.std.specs.List.{list_any}
use Rattle.spent_store.specs.Books.{has_begun}
use Rattle.spent_store.specs.Changes.{added}
use Rattle.spent_store.specs.Kept.{IsOfStore}
use Rattle.spent_store.specs.Stores.{StoreState, Stands}
use Rattle.spent_store.specs.TagLogs.{TagLogState, epoch_log}
use Rattle.spent_store.proofs.Changing.{found_at, log_fits, log_stands, tags_moments, tags_read_then, tags_stand}
use Rattle.spent_store.proofs.Leaving.{own_area}
use Rattle.spent_store.proofs.Stages.{stands_with}
use Rattle.spent_store.proofs.StoreLogs.{any_epoch, all_at, all_set, near_set, added_at, same_logs, of_store_spent, of_store_unsound, root_unsound}
use Rattle.spent_store.proofs.store.SpentStore.add.Goals as goal

pub place_of-place-requires : goal.place_of-place-requires
place_of-place-requires g c =
    ap (λ (found : List TagLogState). list_any (λ (log : TagLogState). log.epoch == c.args.epoch) found) c.deref.ensures.value
    ∙ sym (any_epoch c.args.epoch c.self.inside.logs.items)
    ∙ ap (λ (s : StoreState). has_begun c.args.epoch s.book) c.self.view_is
    ∙ c.requires.there

pub append-requires-clause-fits : goal.append-requires-clause-fits
append-requires-clause-fits g c =
    let store = c.args.self.now in
    let logs = c.self.inside.logs.items in
    let place = c.place_of-place.result in
    let old = c.index_mut.result.now in
    let here = found_at c.args.epoch logs c.deref.result.now place old c.deref.ensures.value c.place_of-place.ensures.within c.place_of-place.ensures.there c.index_mut.ensures.value in
    let are_logs = ap (λ (s : StoreState). s.book.logs) c.self.view_is in
    let of_store = all_at (IsOfStore c.self.inside.limit c.self.inside.sound c.self.inside.ready) logs place old here.within c.self.invariant.3 in
    let kept : IsOfStore c.self.inside.limit c.self.inside.sound c.self.inside.ready old = subst (IsOfStore c.self.inside.limit c.self.inside.sound c.self.inside.ready) (sym here.at) of_store in
    let few : length old.tags + 1 ≤ store.limit = log_fits store c.args.epoch logs place old here are_logs 1 (omega (arith, c.requires.fits)) in
    omega (arith, few, kept.same_limit, ap (λ (s : StoreState). s.limit) c.self.view_is)

pub append-requires-clause-stands : goal.append-requires-clause-stands
append-requires-clause-stands g c t =
    let logs = c.self.inside.logs.items in
    let place = c.place_of-place.result in
    let old = c.index_mut.result.now in
    let here = found_at c.args.epoch logs c.deref.result.now place old c.deref.ensures.value c.place_of-place.ensures.within c.place_of-place.ensures.there c.index_mut.ensures.value in
    log_stands c.args.self.now c.args.epoch logs place old here (ap (λ (s : StoreState). s.book.logs) c.self.view_is) (g.R.Rack.state c.args.rack.now) (c.requires.stands t) c.requires.there

pub invariant_of-self : goal.invariant_of-self
invariant_of-self g c =
    let logs = c.self.inside.logs.items in
    let place = c.place_of-place.result in
    let old = c.index_mut.result.now in
    let here = found_at c.args.epoch logs c.deref.result.now place old c.deref.ensures.value c.place_of-place.ensures.within c.place_of-place.ensures.there c.index_mut.ensures.value in
    let log = c.append.new.self in
    let all = of_store_spent c.self.inside.limit c.self.inside.sound c.self.inside.ready logs c.self.invariant.3 in
    let kept : IsOfStore c.self.inside.limit c.self.inside.sound false old
    = subst (IsOfStore c.self.inside.limit c.self.inside.sound false) (sym here.at) (all_at (IsOfStore c.self.inside.limit c.self.inside.sound false) logs place old here.within all) in
    let is = c.in-Ok.ensures.ok in (
      c.self.invariant.0,
      c.self.invariant.1,
      near_set c.self.inside.floor logs place old log here.within here.at (ap (λ (l : TagLogState). l.epoch) is) c.self.invariant.2,
      all_set (IsOfStore c.self.inside.limit c.self.inside.sound false) logs place log all
          (record { same_limit = ap (λ (l : TagLogState). l.limit) is ∙ kept.same_limit; is_sound = λ sound. ap (λ (l : TagLogState). l.is_sound) is ∙ kept.is_sound sound; room = λ never. absurd (cc) }),
      c.self.invariant.4,
      λ never. absurd (cc),
    )

pub invariant_of-self-in-Err : goal.invariant_of-self-in-Err
invariant_of-self-in-Err g c =
    let logs = c.self.inside.logs.items in
    let place = c.place_of-place.result in
    let old = c.index_mut.result.now in
    let here = found_at c.args.epoch logs c.deref.result.now place old c.deref.ensures.value c.place_of-place.ensures.within c.place_of-place.ensures.there c.index_mut.ensures.value in
    let log = c.append.new.self in
    let all = of_store_spent c.self.inside.limit c.self.inside.sound c.self.inside.ready logs c.self.invariant.3 in
    let kept : IsOfStore c.self.inside.limit c.self.inside.sound false old
    = subst (IsOfStore c.self.inside.limit c.self.inside.sound false) (sym here.at) (all_at (IsOfStore c.self.inside.limit c.self.inside.sound false) logs place old here.within all) in
    let is = c.in-Err.ensures.failed in (
      c.self.invariant.0,
      root_unsound c.self.inside.limit c.self.inside.sound c.self.inside.roots.items c.self.inside.root c.self.invariant.1,
      near_set c.self.inside.floor logs place old log here.within here.at (ap (λ (l : TagLogState). l.epoch) is) c.self.invariant.2,
      all_set (IsOfStore c.self.inside.limit false false) logs place log (of_store_unsound c.self.inside.limit c.self.inside.sound false logs all)
          (record { same_limit = ap (λ (l : TagLogState). l.limit) is ∙ kept.same_limit; is_sound = λ never. absurd (cc); room = λ never. absurd (cc) }),
      c.self.invariant.4,
      λ never. absurd (cc),
    )

pub returns-in-Ok-clause-ok : goal.returns-in-Ok-clause-ok
returns-in-Ok-clause-ok g c =
    let store = c.args.self.now in
    let logs = c.self.inside.logs.items in
    let place = c.place_of-place.result in
    let old = c.index_mut.result.now in
    let here = found_at c.args.epoch logs c.deref.result.now place old c.deref.ensures.value c.place_of-place.ensures.within c.place_of-place.ensures.there c.index_mut.ensures.value in
    let tags : List (List ℕ) = c.args.tag.now ∷ [] in
    let found = added_at c.self.inside.floor c.args.epoch tags logs place old c.append.new.self c.self.invariant.2 here.within here.at here.of_epoch (ap epoch_log c.in-Ok.ensures.ok) in
    let before = ap (λ (s : StoreState). s.book) c.self.view_is in
    let book : record { floor = c.self.inside.floor; logs = map epoch_log (slice_set logs place c.append.new.self); roots = c.self.inside.roots.items } ≡ added c.args.epoch tags store.book
    = (λ i. record { floor = c.self.inside.floor; logs = found i; roots = c.self.inside.roots.items }) ∙ ap (added c.args.epoch tags) before in
    λ i. record {
      shape = ap (λ (s : StoreState). s.shape) c.self.view_is i;
      limit = ap (λ (s : StoreState). s.limit) c.self.view_is i;
      book = book i;
      is_sound = ap (λ (s : StoreState). s.is_sound) c.self.view_is i;
      spare = 0;
    }

pub returns-in-Err-clause-failed : goal.returns-in-Err-clause-failed
returns-in-Err-clause-failed g c =
    let store = c.args.self.now in
    let logs = c.self.inside.logs.items in
    let place = c.place_of-place.result in
    let old = c.index_mut.result.now in
    let here = found_at c.args.epoch logs c.deref.result.now place old c.deref.ensures.value c.place_of-place.ensures.within c.place_of-place.ensures.there c.index_mut.ensures.value in
    let same = same_logs logs place old c.append.new.self here.within here.at (ap epoch_log c.in-Err.ensures.failed) in
    let before = ap (λ (s : StoreState). s.book) c.self.view_is in
    let book : record { floor = c.self.inside.floor; logs = map epoch_log (slice_set logs place c.append.new.self); roots = c.self.inside.roots.items } ≡ store.book
    = (λ i. record { floor = c.self.inside.floor; logs = same i; roots = c.self.inside.roots.items }) ∙ before in
    λ i. record {
      shape = ap (λ (s : StoreState). s.shape) c.self.view_is i;
      limit = ap (λ (s : StoreState). s.limit) c.self.view_is i;
      book = book i;
      is_sound = false;
      spare = 0;
    }

pub returns-in-Ok-clause-each_moment : goal.returns-in-Ok-clause-each_moment
returns-in-Ok-clause-each_moment g c t =
    let logs = c.self.inside.logs.items in
    let place = c.place_of-place.result in
    let old = c.index_mut.result.now in
    let here = found_at c.args.epoch logs c.deref.result.now place old c.deref.ensures.value c.place_of-place.ensures.within c.place_of-place.ensures.there c.index_mut.ensures.value in
    tags_moments c.args.self.now c.args.epoch logs place old here (ap (λ (s : StoreState). s.book.logs) c.self.view_is) (g.R.Rack.state c.args.rack.now) (c.requires.stands t) c.requires.there
    (c.args.tag.now ∷ []) (omega (arith, c.requires.fits)) (g.R.Rack.state c.append.new.rack) (c.append.ensures.each_moment t) (c.args.epoch ∷ []) (own_area c.args.epoch)

pub returns-in-Err-clause-each_moment : goal.returns-in-Err-clause-each_moment
returns-in-Err-clause-each_moment g c t =
    let logs = c.self.inside.logs.items in
    let place = c.place_of-place.result in
    let old = c.index_mut.result.now in
    let here = found_at c.args.epoch logs c.deref.result.now place old c.deref.ensures.value c.place_of-place.ensures.within c.place_of-place.ensures.there c.index_mut.ensures.value in
    tags_moments c.args.self.now c.args.epoch logs place old here (ap (λ (s : StoreState). s.book.logs) c.self.view_is) (g.R.Rack.state c.args.rack.now) (c.requires.stands t) c.requires.there
    (c.args.tag.now ∷ []) (omega (arith, c.requires.fits)) (g.R.Rack.state c.append.new.rack) (c.append.ensures.each_moment t) (c.args.epoch ∷ []) (own_area c.args.epoch)

pub returns-in-Err-clause-reads : goal.returns-in-Err-clause-reads
returns-in-Err-clause-reads g c t =
    let logs = c.self.inside.logs.items in
    let place = c.place_of-place.result in
    let old = c.index_mut.result.now in
    let here = found_at c.args.epoch logs c.deref.result.now place old c.deref.ensures.value c.place_of-place.ensures.within c.place_of-place.ensures.there c.index_mut.ensures.value in
    tags_read_then c.args.self.now c.args.epoch logs place old here (ap (λ (s : StoreState). s.book.logs) c.self.view_is) (g.R.Rack.state c.args.rack.now) (c.requires.stands t) c.requires.there
    (c.args.tag.now ∷ []) (omega (arith, c.requires.fits)) (g.R.Rack.state c.append.new.rack) (c.append.ensures.each_moment t) (c.append.ensures.image t)

pub returns-in-Ok-clause-stands : goal.returns-in-Ok-clause-stands
returns-in-Ok-clause-stands g c t =
    let store = c.args.self.now in
    let logs = c.self.inside.logs.items in
    let place = c.place_of-place.result in
    let old = c.index_mut.result.now in
    let here = found_at c.args.epoch logs c.deref.result.now place old c.deref.ensures.value c.place_of-place.ensures.within c.place_of-place.ensures.there c.index_mut.ensures.value in
    let s1 = g.R.Rack.state c.append.new.rack in
    let next = tags_stand store c.args.epoch logs place old here (ap (λ (s : StoreState). s.book.logs) c.self.view_is) (g.R.Rack.state c.args.rack.now) (c.requires.stands t) c.requires.there
    (c.args.tag.now ∷ []) (omega (arith, c.requires.fits)) s1 (c.append.ensures.each_moment t) c.append.new.self (c.in-Ok.ensures.stands t) (ap epoch_log c.in-Ok.ensures.ok) in
    subst (λ (s : StoreState). Stands s s1.areas) (sym (returns-in-Ok-clause-ok g c)) (stands_with (record store { book = added c.args.epoch (c.args.tag.now ∷ []) store.book }) s1.areas store.is_sound 0 next)
