use Rattle.std.proofs.Common.{◌≡◌, ◌+◌, [], ◌∷◌, ap, subst, ℕ, List}
use Rattle.replay_disk.specs.Disk.{RackState, area_at, contents_of, settled}
use Rattle.replay_disk.specs.Moments.{AtEachMoment}
use Rattle.gate_log.specs.Log.{LogState, EachImage, IsAppendOf}
use Rattle.gate_log.specs.Records.{with_records}
use Rattle.gate_log.proofs.Moments.{each_started, append_itself}
use Rattle.gate_log.proofs.Standing.{log_contents, log_appended, log_stands}
use Rattle.gate_log.proofs.log.GateLog.append.Goals as goal

pub returns-then-self-clause-each_moment : goal.returns-then-self-clause-each_moment
returns-then-self-clause-each_moment g c t =
    let s0 = g.R.Rack.state c.args.rack.now in
    let log = c.args.self.now in
    let new : List (List ℕ) = c.args.bytes.now ∷ [] in
    each_started log.area (IsAppendOf log.size new (contents_of log.area s0)) s0 (c.requires.stands t).at_rest (append_itself log.size new (contents_of log.area s0))

pub returns-then-self-clause-image : goal.returns-then-self-clause-image
returns-then-self-clause-image g c t = (c.requires.stands t).at_rest.image

at_log : (log inside : LogState) (bytes : List ℕ) (size : ℕ) (first last : RackState) → inside ≡ log → size ≡ log.size
    → AtEachMoment (EachImage inside.area (IsAppendOf size (bytes ∷ []) (contents_of inside.area first)) first.areas) first last
    → AtEachMoment (EachImage log.area (IsAppendOf log.size (bytes ∷ []) (contents_of log.area first)) first.areas) first last
at_log log inside bytes size first last view is moments =
    subst (λ (n : ℕ). AtEachMoment (EachImage log.area (IsAppendOf n (bytes ∷ []) (contents_of log.area first)) first.areas) first last) is
    (subst (λ (l : LogState). AtEachMoment (EachImage l.area (IsAppendOf size (bytes ∷ []) (contents_of l.area first)) first.areas) first last) view moments)

done_at : (log inside : LogState) (bytes : List ℕ) (size : ℕ) (first last : RackState) → inside ≡ log → size ≡ log.size
    → area_at inside.area last.areas ≡ settled (with_records size (bytes ∷ []) (contents_of inside.area first))
    → area_at log.area last.areas ≡ settled (with_records log.size (bytes ∷ []) (contents_of log.area first))
done_at log inside bytes size first last view is done =
    subst (λ (n : ℕ). area_at log.area last.areas ≡ settled (with_records n (bytes ∷ []) (contents_of log.area first))) is
    (subst (λ (l : LogState). area_at l.area last.areas ≡ settled (with_records size (bytes ∷ []) (contents_of l.area first))) view done)

pub returns-in-Ok-clause-each_moment : goal.returns-in-Ok-clause-each_moment
returns-in-Ok-clause-each_moment g c t =
    at_log c.args.self.now _ c.args.bytes.now _ (g.R.Rack.state c.args.rack.now) (g.R.Rack.state c.append_at.new.rack) c.self.view_is c.requires.size (c.append_at.ensures.each_moment t)

pub returns-in-Err-clause-each_moment : goal.returns-in-Err-clause-each_moment
returns-in-Err-clause-each_moment g c t =
    at_log c.args.self.now _ c.args.bytes.now _ (g.R.Rack.state c.args.rack.now) (g.R.Rack.state c.append_at.new.rack) c.self.view_is c.requires.size (c.append_at.ensures.each_moment t)

pub returns-in-Ok-clause-appended : goal.returns-in-Ok-clause-appended
returns-in-Ok-clause-appended g c t =
    let s0 = g.R.Rack.state c.args.rack.now in
    let s1 = g.R.Rack.state c.append_at.new.rack in
    log_appended c.args.self.now c.args.bytes.now s0 s1 c.requires.size (c.requires.stands t)
    (done_at c.args.self.now _ c.args.bytes.now _ s0 s1 c.self.view_is c.requires.size (c.in-Ok.ensures.written t))

pub returns-in-Ok-clause-contents : goal.returns-in-Ok-clause-contents
returns-in-Ok-clause-contents g c t =
    let s0 = g.R.Rack.state c.args.rack.now in
    let s1 = g.R.Rack.state c.append_at.new.rack in
    log_contents c.args.self.now c.args.bytes.now s0 s1 c.requires.size (c.requires.stands t)
    (done_at c.args.self.now _ c.args.bytes.now _ s0 s1 c.self.view_is c.requires.size (c.in-Ok.ensures.written t))

pub returns-in-Ok-clause-stands : goal.returns-in-Ok-clause-stands
returns-in-Ok-clause-stands g c t =
    let s0 = g.R.Rack.state c.args.rack.now in
    let s1 = g.R.Rack.state c.append_at.new.rack in
    log_stands c.args.self.now c.args.bytes.now s0 s1 c.requires.size (c.requires.stands t)
    (done_at c.args.self.now _ c.args.bytes.now _ s0 s1 c.self.view_is c.requires.size (c.in-Ok.ensures.written t)) _ (ap (λ (l : LogState). record l { count = l.count + 1 }) c.self.view_is)
