use Rattle.std.proofs.Common.{◌≡◌, ◌==◌, ℕ, ◌^◌, ◌<◌, ◌≤◌, Bool, true, false, List, [], ◌∷◌, ◌++◌, length, map, if◌then◌else◌, refl, sym, ◌∙◌, ap, subst, arith, rules, vec_len}
use Rattle.std.specs.List.{list_any}
use Rattle.std.proofs.lemmas.List.{length-append, length-map}
use Rattle.replay_disk.specs.Disk.{contents_of}
use Rattle.replay_disk.specs.Moments.{AtEachMoment}
use Rattle.gate_log.specs.Log.{EachImage, IsAppendOf}
use Rattle.gate_log.specs.Records.{records}
use Rattle.spent_store.specs.Books.{EpochLog}
use Rattle.spent_store.specs.Kept.{IsOfStore, AreOfStore}
use Rattle.spent_store.specs.Root.{AreNear, IsNear, spell_root}
use Rattle.spent_store.specs.Stores.{StoreState, Stands}
use Rattle.spent_store.specs.TagLogs.{TagLogState, epoch_log}
use Rattle.spent_store.specs.declared.root.RootRecord.TheVariants.{Begin}
use Rattle.spent_store.proofs.Changing.{begin_moments, begin_read_then, first_moments, first_read_then, first_stand}
use Rattle.spent_store.proofs.Leaving.{own_area, on_any}
use Rattle.spent_store.proofs.LogsOf.{near_two}
use Rattle.spent_store.proofs.NearLaws.{near_begun}
use Rattle.spent_store.proofs.StoreLogs.{all_with, begun_pushed, pushed_epochs, of_store_unsound, root_unsound}
use Rattle.spent_store.proofs.StoreOpening.{near_logs, logs_near_again}
use Rattle.spent_store.proofs.store.SpentStore.begin.Goals as goal

abbrev spare_of : Bool → ℕ
spare_of ready = if ready then 1 else 0

never_ready : (ready : Bool) (P : Type 0) → ready ≡ true → spare_of ready ≡ 0 → P
never_ready true P is spent = absurd (omega (arith, spent))
never_ready false P is spent = absurd (cc)

pub returns-in_err-append_root-clause-each_moment : goal.returns-in_err-append_root-clause-each_moment
returns-in_err-append_root-clause-each_moment g c t =
    let log = c.args.log in
    let s0 = g.R.Rack.state c.args.rack.now in
    let s1 = g.R.Rack.state c.append_root.new.rack in
    let moments = subst (λ (e : ℕ). AtEachMoment (EachImage 0 (IsAppendOf 9 (spell_root (Begin e) ∷ []) (contents_of 0 s0)) s0.areas) s0 s1) c.epoch.ensures (c.append_root.ensures.each_moment t) in
    let small : log.epoch < 2 ^ 64 = search rules in
    begin_moments c.args.self.now log (c.args.tag.now ∷ []) (log.epoch ∷ []) (own_area log.epoch) s0 s1 (c.requires.stands t) (c.requires.log_stands t)
    (ap (λ (l : TagLogState). l.tags) c.requires.log) c.requires.fits small c.requires.near c.requires.new moments

pub returns-in_err-append_root-clause-reads : goal.returns-in_err-append_root-clause-reads
returns-in_err-append_root-clause-reads g c t =
    let log = c.args.log in
    let s0 = g.R.Rack.state c.args.rack.now in
    let s1 = g.R.Rack.state c.append_root.new.rack in
    let moments = subst (λ (e : ℕ). AtEachMoment (EachImage 0 (IsAppendOf 9 (spell_root (Begin e) ∷ []) (contents_of 0 s0)) s0.areas) s0 s1) c.epoch.ensures (c.append_root.ensures.each_moment t) in
    let small : log.epoch < 2 ^ 64 = search rules in
    on_any c.from_residual.result (begin_read_then c.args.self.now log (c.args.tag.now ∷ []) (log.epoch ∷ []) (own_area log.epoch) s0 s1 (c.requires.stands t) (c.requires.log_stands t)
    (ap (λ (l : TagLogState). l.tags) c.requires.log) c.requires.fits small c.requires.near c.requires.new moments (c.append_root.ensures.image t))

pub returns-in-Ok-clause-each_moment : goal.returns-in-Ok-clause-each_moment
returns-in-Ok-clause-each_moment g c t =
    let log = c.args.log in
    let s0 = g.R.Rack.state c.args.rack.now in
    let s1 = g.R.Rack.state c.append_root.new.rack in
    let moments = subst (λ (e : ℕ). AtEachMoment (EachImage 0 (IsAppendOf 9 (spell_root (Begin e) ∷ []) (contents_of 0 s0)) s0.areas) s0 s1) c.epoch.ensures (c.append_root.ensures.each_moment t) in
    let more = subst (λ (e : ℕ). records 9 s1.areas.root.contents ≡ records 9 s0.areas.root.contents ++ spell_root (Begin e) ∷ []) c.epoch.ensures (c.in_ok-append_root.ensures.records t) in
    let small : log.epoch < 2 ^ 64 = search rules in
    let few : 1 ≤ c.args.self.now.limit = omega (arith, c.requires.fits) in
    first_moments c.args.self.now log (c.args.tag.now ∷ []) (log.epoch ∷ []) (own_area log.epoch) s0 s1 (c.requires.stands t) (c.requires.log_stands t)
    (ap (λ (l : TagLogState). l.tags) c.requires.log) c.requires.fits small c.requires.near c.requires.new moments
    (c.in_ok-append_root.ensures.rest t) more few (g.R.Rack.state c.append.new.rack) (c.append.ensures.each_moment t)

pub returns-in-Err-clause-each_moment : goal.returns-in-Err-clause-each_moment
returns-in-Err-clause-each_moment g c t =
    let log = c.args.log in
    let s0 = g.R.Rack.state c.args.rack.now in
    let s1 = g.R.Rack.state c.append_root.new.rack in
    let moments = subst (λ (e : ℕ). AtEachMoment (EachImage 0 (IsAppendOf 9 (spell_root (Begin e) ∷ []) (contents_of 0 s0)) s0.areas) s0 s1) c.epoch.ensures (c.append_root.ensures.each_moment t) in
    let more = subst (λ (e : ℕ). records 9 s1.areas.root.contents ≡ records 9 s0.areas.root.contents ++ spell_root (Begin e) ∷ []) c.epoch.ensures (c.in_ok-append_root.ensures.records t) in
    let small : log.epoch < 2 ^ 64 = search rules in
    let few : 1 ≤ c.args.self.now.limit = omega (arith, c.requires.fits) in
    first_moments c.args.self.now log (c.args.tag.now ∷ []) (log.epoch ∷ []) (own_area log.epoch) s0 s1 (c.requires.stands t) (c.requires.log_stands t)
    (ap (λ (l : TagLogState). l.tags) c.requires.log) c.requires.fits small c.requires.near c.requires.new moments
    (c.in_ok-append_root.ensures.rest t) more few (g.R.Rack.state c.append.new.rack) (c.append.ensures.each_moment t)

pub returns-in-Err-clause-reads : goal.returns-in-Err-clause-reads
returns-in-Err-clause-reads g c t =
    let log = c.args.log in
    let s0 = g.R.Rack.state c.args.rack.now in
    let s1 = g.R.Rack.state c.append_root.new.rack in
    let moments = subst (λ (e : ℕ). AtEachMoment (EachImage 0 (IsAppendOf 9 (spell_root (Begin e) ∷ []) (contents_of 0 s0)) s0.areas) s0 s1) c.epoch.ensures (c.append_root.ensures.each_moment t) in
    let more = subst (λ (e : ℕ). records 9 s1.areas.root.contents ≡ records 9 s0.areas.root.contents ++ spell_root (Begin e) ∷ []) c.epoch.ensures (c.in_ok-append_root.ensures.records t) in
    let small : log.epoch < 2 ^ 64 = search rules in
    let few : 1 ≤ c.args.self.now.limit = omega (arith, c.requires.fits) in
    first_read_then c.args.self.now log (c.args.tag.now ∷ []) (log.epoch ∷ []) (own_area log.epoch) s0 s1 (c.requires.stands t) (c.requires.log_stands t)
    (ap (λ (l : TagLogState). l.tags) c.requires.log) c.requires.fits small c.requires.near c.requires.new moments
    (c.in_ok-append_root.ensures.rest t) more few (g.R.Rack.state c.append.new.rack) (c.append.ensures.each_moment t) (c.append.ensures.image t)

pub returns-in-Ok-clause-ok : goal.returns-in-Ok-clause-ok
returns-in-Ok-clause-ok g c =
    let store = c.args.self.now in
    let log = c.args.log in
    let is = c.self.view_is ∙ c.in_ok-append_root.ensures.ok in
    let logs = c.self.inside.logs.items in
    let are_logs : map epoch_log logs ≡ store.book.logs = ap (λ (s : StoreState). s.book.logs) is in
    let longer : epoch_log c.append.new.self ≡ record { epoch = log.epoch; tags = c.args.tag.now ∷ [] }
    = ap epoch_log c.in-Ok.ensures.ok ∙ ap (λ (l : TagLogState). record { epoch = l.epoch; tags = l.tags ++ c.args.tag.now ∷ [] }) c.requires.log in
    let book = begun_pushed log.epoch c.self.inside.floor (c.args.tag.now ∷ []) store.book logs c.push_reserved.new.self.items c.append.new.self c.self.inside.roots.items c.requires.new
    (ap (λ (s : StoreState). s.book.floor) is) are_logs c.push_reserved.ensures.items longer (ap (λ (s : StoreState). s.book.roots) is ∙ (λ i. store.book.roots ++ Begin (c.epoch.ensures i) ∷ [])) in
    λ i. record {
      shape = ap (λ (s : StoreState). s.shape) is i;
      limit = ap (λ (s : StoreState). s.limit) is i;
      book = book i;
      is_sound = ap (λ (s : StoreState). s.is_sound) is i;
      spare = ap (λ (s : StoreState). s.spare) is i;
    }

pub returns-in-Ok-clause-stands : goal.returns-in-Ok-clause-stands
returns-in-Ok-clause-stands g c t =
    let store = c.args.self.now in
    let log = c.args.log in
    let s0 = g.R.Rack.state c.args.rack.now in
    let s1 = g.R.Rack.state c.append_root.new.rack in
    let moments = subst (λ (e : ℕ). AtEachMoment (EachImage 0 (IsAppendOf 9 (spell_root (Begin e) ∷ []) (contents_of 0 s0)) s0.areas) s0 s1) c.epoch.ensures (c.append_root.ensures.each_moment t) in
    let more = subst (λ (e : ℕ). records 9 s1.areas.root.contents ≡ records 9 s0.areas.root.contents ++ spell_root (Begin e) ∷ []) c.epoch.ensures (c.in_ok-append_root.ensures.records t) in
    let s2 = g.R.Rack.state c.append.new.rack in
    let small : log.epoch < 2 ^ 64 = search rules in
    let few : 1 ≤ store.limit = omega (arith, c.requires.fits) in
    let next = first_stand store log (c.args.tag.now ∷ []) (log.epoch ∷ []) (own_area log.epoch) s0 s1 (c.requires.stands t) (c.requires.log_stands t)
    (ap (λ (l : TagLogState). l.tags) c.requires.log) c.requires.fits small c.requires.near c.requires.new moments
    (c.in_ok-append_root.ensures.rest t) more few s2 (c.append.ensures.each_moment t) c.append.new.self (c.in-Ok.ensures.stands t) (ap epoch_log c.in-Ok.ensures.ok) in
    subst (λ (s : StoreState). Stands s s2.areas) (sym (returns-in-Ok-clause-ok g c)) next

pub push_reserved-requires : goal.push_reserved-requires
push_reserved-requires g c =
    let epoch = c.args.log.epoch in
    let is = c.self.view_is ∙ c.in_ok-append_root.ensures.ok in
    let logs = c.self.inside.logs.items in
    let floor = c.self.inside.floor in
    let epochs = map (λ (l : EpochLog). l.epoch) (map epoch_log logs) in
    let near = logs_near_again floor logs c.self.invariant.2 in
    let new : list_any (λ other. other == epoch) epochs ≡ false = ap (λ (s : StoreState). list_any (λ other. other == epoch) (map (λ (l : EpochLog). l.epoch) s.book.logs)) is ∙ c.requires.new in
    let at = subst (λ (f : ℕ). IsNear f epoch) (sym (ap (λ (s : StoreState). s.book.floor) is)) c.requires.near in
    let two = near_two floor (epochs ++ epoch ∷ []) (near_begun floor epochs epoch near new at) in
    let number : length logs ≤ 1 = omega (arith, two, length-append epochs (epoch ∷ []), length-map (map epoch_log logs) (λ (l : EpochLog). l.epoch), length-map logs epoch_log) in
    let long : vec_len c.self.inside.logs ≡ length logs = search rules in
    omega (arith, number, long, c.self.invariant.4)

pub invariant_of-self : goal.invariant_of-self
invariant_of-self g c =
    let epoch = c.args.log.epoch in
    let is = c.self.view_is ∙ c.in_ok-append_root.ensures.ok in
    let logs = c.self.inside.logs.items in
    let floor = c.self.inside.floor in
    let epochs = map (λ (l : EpochLog). l.epoch) (map epoch_log logs) in
    let near = logs_near_again floor logs c.self.invariant.2 in
    let new : list_any (λ other. other == epoch) epochs ≡ false = ap (λ (s : StoreState). list_any (λ other. other == epoch) (map (λ (l : EpochLog). l.epoch) s.book.logs)) is ∙ c.requires.new in
    let at = subst (λ (f : ℕ). IsNear f epoch) (sym (ap (λ (s : StoreState). s.book.floor) is)) c.requires.near in
    let both : AreNear floor (epochs ++ epoch ∷ []) = near_begun floor epochs epoch near new at in
    let old = c.self.inside in
    let kept = c.self.invariant in
    let log = c.append.new.self in
    let log_is = c.in-Ok.ensures.ok in
    let limit : log.limit ≡ old.limit = ap (λ (l : TagLogState). l.limit) log_is ∙ ap (λ (l : TagLogState). l.limit) c.requires.log ∙ sym (ap (λ (s : StoreState). s.limit) is) in
    let pushed = pushed_epochs epoch logs c.push_reserved.new.self.items log c.push_reserved.ensures.items (ap (λ (l : TagLogState). l.epoch) log_is) in
    let spent : spare_of old.ready ≡ 0 = ap (λ (s : StoreState). s.spare) is ∙ c.requires.spare in (
      kept.0,
      kept.1,
      near_logs floor c.push_reserved.new.self.items (map epoch_log c.push_reserved.new.self.items) refl (subst (λ (some : List ℕ). AreNear floor some) (sym pushed) both),
      subst (λ (some : List TagLogState). AreOfStore old.limit old.sound old.ready some) (sym c.push_reserved.ensures.items)
          (all_with (IsOfStore old.limit old.sound old.ready) logs log kept.3
          (record { same_limit = limit; is_sound = λ _. ap (λ (l : TagLogState). l.is_sound) log_is ∙ ap (λ (l : TagLogState). l.is_sound) c.requires.log; room = λ ready. never_ready old.ready (0 < log.spare) ready spent })),
      omega (arith, kept.4, c.push_reserved.ensures.capacity),
      kept.5,
    )

pub invariant_of-self-in-Err-1 : goal.invariant_of-self-in-Err-1
invariant_of-self-in-Err-1 g c =
    let old = c.self.inside in
    let kept = c.self.invariant in (
      kept.0,
      root_unsound old.limit old.sound old.roots.items old.root kept.1,
      kept.2,
      of_store_unsound old.limit old.sound old.ready old.logs.items kept.3,
      kept.4,
      kept.5,
    )
