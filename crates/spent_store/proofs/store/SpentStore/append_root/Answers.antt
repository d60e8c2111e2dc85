use Rattle.std.proofs.Common.{◌≡◌, ℕ, false, List, [], ◌∷◌, length, ◌∙◌, ap, subst, rules}
use Rattle.replay_disk.specs.Disk.{contents_of}
use Rattle.replay_disk.specs.Moments.{AtEachMoment}
use Rattle.gate_log.specs.Log.{EachImage, IsAppendOf}
use Rattle.spent_store.specs.Root.{spell_root}
use Rattle.spent_store.specs.Stores.{StoreState}
use Rattle.spent_store.proofs.StoreLogs.{root_failed, of_store_unsound}
use Rattle.spent_store.proofs.StoreOpening.{root_stands}
use Rattle.spent_store.proofs.store.SpentStore.append_root.Goals as goal

pub returns-in-Ok-clause-each_moment : goal.returns-in-Ok-clause-each_moment
returns-in-Ok-clause-each_moment g c t =
    let s0 = g.R.Rack.state c.args.rack.now in
    let s1 = g.R.Rack.state c.append.new.rack in
    let P = λ (area size : ℕ) (bytes : List ℕ). AtEachMoment (EachImage area (IsAppendOf size (bytes ∷ []) (contents_of area s0)) s0.areas) s0 s1 in
    let root = c.self.inside.root in
    let spelled : c.as_slice.result.now ≡ spell_root c.args.root.now = c.as_slice.ensures ∙ c.to_bytes.ensures in
    subst (λ (bytes : List ℕ). P 0 9 bytes) spelled
    (subst (λ (size : ℕ). P 0 size c.as_slice.result.now) c.self.invariant.1.size (subst (λ (area : ℕ). P area root.size c.as_slice.result.now) c.self.invariant.1.area (c.append.ensures.each_moment t)))

pub returns-in-Err-Failed-clause-each_moment : goal.returns-in-Err-Failed-clause-each_moment
returns-in-Err-Failed-clause-each_moment g c t =
    let s0 = g.R.Rack.state c.args.rack.now in
    let s1 = g.R.Rack.state c.append.new.rack in
    let P = λ (area size : ℕ) (bytes : List ℕ). AtEachMoment (EachImage area (IsAppendOf size (bytes ∷ []) (contents_of area s0)) s0.areas) s0 s1 in
    let root = c.self.inside.root in
    let spelled : c.as_slice.result.now ≡ spell_root c.args.root.now = c.as_slice.ensures ∙ c.to_bytes.ensures in
    subst (λ (bytes : List ℕ). P 0 9 bytes) spelled
    (subst (λ (size : ℕ). P 0 size c.as_slice.result.now) c.self.invariant.1.size (subst (λ (area : ℕ). P area root.size c.as_slice.result.now) c.self.invariant.1.area (c.append.ensures.each_moment t)))

pub append-requires-clause-stands : goal.append-requires-clause-stands
append-requires-clause-stands g c t =
    let root = c.self.inside.root in
    let is = c.self.invariant.1 in
    let roots : length c.self.inside.roots.items ≡ length c.args.self.now.book.roots = ap (λ (s : StoreState). length s.book.roots) c.self.view_is in
    root_stands c.args.self.now root (g.R.Rack.state c.args.rack.now) is.area is.size (is.count ∙ roots) (c.requires.stands t)

pub invariant_of-self-in-Err-Failed : goal.invariant_of-self-in-Err-Failed
invariant_of-self-in-Err-Failed g c =
    let old = c.self.inside in
    let kept = c.self.invariant in
    let is : c.append.new.self ≡ record old.root { sound = false } = search rules in (
      kept.0,
      root_failed old.limit old.sound old.roots.items old.root c.append.new.self is kept.1,
      kept.2,
      of_store_unsound old.limit old.sound old.ready old.logs.items kept.3,
      kept.4,
      kept.5,
    )
