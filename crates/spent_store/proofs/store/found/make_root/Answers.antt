use Rattle.std.proofs.Common.{◌≡◌, ℕ, ◌∙◌, ap, subst}
use Rattle.replay_disk.specs.Disk.{ReadsAnImage}
use Rattle.gate_log.specs.Log.{LogState}
use Rattle.spent_store.specs.Root.{shape_value, spell_root}
use Rattle.spent_store.specs.declared.root.RootRecord.TheVariants.{Made}
use Rattle.spent_store.proofs.Opening.{closing_at, appending_at, bare_records, appended_at, root_closed, root_made, made_there}
use Rattle.spent_store.proofs.store.found.make_root.Goals as goal

pub returns-in_err-opened-clause-each_moment : goal.returns-in_err-opened-clause-each_moment
returns-in_err-opened-clause-each_moment g c t =
    let s0 = g.R.Rack.state c.args.rack.now in
    let s1 = g.R.Rack.state c.close.new.rack in
    let closing = closing_at c.args.root.area c.args.root.size s0 s1 c.requires.area c.requires.size (c.close.ensures.each_moment t) in
    root_closed c.args.shape.now s0 s1 closing

pub returns-in_err-opened-clause-image : goal.returns-in_err-opened-clause-image
returns-in_err-opened-clause-image g c t =
    subst (λ (a : ℕ). ReadsAnImage (g.R.Rack.state c.close.new.rack).areas a) c.requires.area (c.close.ensures.image t)

pub returns-in-Ok-clause-each_moment : goal.returns-in-Ok-clause-each_moment
returns-in-Ok-clause-each_moment g c t =
    let s0 = g.R.Rack.state c.args.rack.now in
    let s1 = g.R.Rack.state c.close.new.rack in
    let closing = closing_at c.args.root.area c.args.root.size s0 s1 c.requires.area c.requires.size (c.close.ensures.each_moment t) in
    let s2 = g.R.Rack.state c.append.new.rack in
    let log = c.in_ok-opened.opened.log in
    let is_area : log.area ≡ 0 = ap (λ (l : LogState). l.area) c.in_ok-opened.ensures.log ∙ c.requires.area in
    let is_size : log.size ≡ 9 = ap (λ (l : LogState). l.size) c.in_ok-opened.ensures.log ∙ c.requires.size in
    let spelled : c.as_slice.result.now ≡ spell_root (Made (shape_value c.args.shape.now)) = c.as_slice.ensures ∙ c.to_bytes.ensures ∙ ap spell_root c.made.ensures in
    let bare = bare_records c.args.root s0 c.requires.area c.requires.size (c.requires.read t) c.requires.bare in
    let image = subst (λ (a : ℕ). ReadsAnImage s1.areas a) c.requires.area (c.close.ensures.image t) in
    let appending = appending_at log c.as_slice.result.now (spell_root (Made (shape_value c.args.shape.now))) s1 s2 is_area is_size spelled (c.append.ensures.each_moment t) in
    root_made c.args.shape.now s0 s1 closing bare image s2 appending

pub returns-in-Ok-clause-image : goal.returns-in-Ok-clause-image
returns-in-Ok-clause-image g c t =
    let log = c.in_ok-opened.opened.log in
    let is_area : log.area ≡ 0 = ap (λ (l : LogState). l.area) c.in_ok-opened.ensures.log ∙ c.requires.area in
    subst (λ (a : ℕ). ReadsAnImage (g.R.Rack.state c.append.new.rack).areas a) is_area (c.append.ensures.image t)

pub returns-in-Err-Failed-clause-each_moment : goal.returns-in-Err-Failed-clause-each_moment
returns-in-Err-Failed-clause-each_moment g c t =
    let s0 = g.R.Rack.state c.args.rack.now in
    let s1 = g.R.Rack.state c.close.new.rack in
    let closing = closing_at c.args.root.area c.args.root.size s0 s1 c.requires.area c.requires.size (c.close.ensures.each_moment t) in
    let s2 = g.R.Rack.state c.append.new.rack in
    let log = c.in_ok-opened.opened.log in
    let is_area : log.area ≡ 0 = ap (λ (l : LogState). l.area) c.in_ok-opened.ensures.log ∙ c.requires.area in
    let is_size : log.size ≡ 9 = ap (λ (l : LogState). l.size) c.in_ok-opened.ensures.log ∙ c.requires.size in
    let spelled : c.as_slice.result.now ≡ spell_root (Made (shape_value c.args.shape.now)) = c.as_slice.ensures ∙ c.to_bytes.ensures ∙ ap spell_root c.made.ensures in
    let bare = bare_records c.args.root s0 c.requires.area c.requires.size (c.requires.read t) c.requires.bare in
    let image = subst (λ (a : ℕ). ReadsAnImage s1.areas a) c.requires.area (c.close.ensures.image t) in
    let appending = appending_at log c.as_slice.result.now (spell_root (Made (shape_value c.args.shape.now))) s1 s2 is_area is_size spelled (c.append.ensures.each_moment t) in
    root_made c.args.shape.now s0 s1 closing bare image s2 appending

pub returns-in-Err-Failed-clause-image : goal.returns-in-Err-Failed-clause-image
returns-in-Err-Failed-clause-image g c t =
    let log = c.in_ok-opened.opened.log in
    let is_area : log.area ≡ 0 = ap (λ (l : LogState). l.area) c.in_ok-opened.ensures.log ∙ c.requires.area in
    subst (λ (a : ℕ). ReadsAnImage (g.R.Rack.state c.append.new.rack).areas a) is_area (c.append.ensures.image t)

pub returns-in-Ok-clause-records : goal.returns-in-Ok-clause-records
returns-in-Ok-clause-records g c t =
    let s0 = g.R.Rack.state c.args.rack.now in
    let s1 = g.R.Rack.state c.close.new.rack in
    let closing = closing_at c.args.root.area c.args.root.size s0 s1 c.requires.area c.requires.size (c.close.ensures.each_moment t) in
    let s2 = g.R.Rack.state c.append.new.rack in
    let log = c.in_ok-opened.opened.log in
    let is_area : log.area ≡ 0 = ap (λ (l : LogState). l.area) c.in_ok-opened.ensures.log ∙ c.requires.area in
    let is_size : log.size ≡ 9 = ap (λ (l : LogState). l.size) c.in_ok-opened.ensures.log ∙ c.requires.size in
    let spelled : c.as_slice.result.now ≡ spell_root (Made (shape_value c.args.shape.now)) = c.as_slice.ensures ∙ c.to_bytes.ensures ∙ ap spell_root c.made.ensures in
    let bare = bare_records c.args.root s0 c.requires.area c.requires.size (c.requires.read t) c.requires.bare in
    let image = subst (λ (a : ℕ). ReadsAnImage s1.areas a) c.requires.area (c.close.ensures.image t) in
    let appending = appending_at log c.as_slice.result.now (spell_root (Made (shape_value c.args.shape.now))) s1 s2 is_area is_size spelled (c.append.ensures.each_moment t) in
    made_there c.args.shape.now s0 s1 closing bare image s2 appending (appended_at log c.as_slice.result.now (spell_root (Made (shape_value c.args.shape.now))) s1 s2 is_area is_size spelled (c.in-Ok.ensures.appended t))
