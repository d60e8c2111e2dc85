use Rattle.std.proofs.Common.{true, false, List, ℕ, refl, sym, ap, subst}
use Rattle.replay_disk.specs.Disk.{Area, RackState, contents_of}
use Rattle.gate_log.specs.Log.{ReadState, WasRead}
use Rattle.gate_log.specs.Scanning.{IsFront}
use Rattle.gate_log.proofs.Moments.{reading_failed, reading_done, read_contents, read_rests}
use Rattle.gate_log.proofs.Outside.{image_same}
use Rattle.gate_log.proofs.Standing.{was_closed, was_open, overfull_front}
use Rattle.gate_log.proofs.reading.ReadLog.read.Goals as goal

pub returns-in_err-sync-clause-each_moment : goal.returns-in_err-sync-clause-each_moment
returns-in_err-sync-clause-each_moment g c t =
    reading_failed c.args.area (g.R.Rack.state c.args.rack.now) (g.R.Rack.state c.sync.new.self) c.requires.area (c.sync.ensures.images t) (c.sync.ensures.moment t) (c.in_err-sync.ensures.failed t)

pub returns-in_err-sync-clause-image : goal.returns-in_err-sync-clause-image
returns-in_err-sync-clause-image g c t =
    image_same c.args.area (g.R.Rack.state c.args.rack.now).areas (g.R.Rack.state c.sync.new.self).areas (c.in_err-sync.ensures.failed t) (c.sync.ensures.images t c.args.area c.requires.area)

pub returns-in_err-front-clause-each_moment : goal.returns-in_err-front-clause-each_moment
returns-in_err-front-clause-each_moment g c t =
    reading_done c.args.area (g.R.Rack.state c.args.rack.now) (g.R.Rack.state c.sync.new.self) c.requires.area (c.sync.ensures.images t) (c.sync.ensures.moment t)
    (c.in_ok-sync.ensures.synced t) (g.R.Rack.state c.read_front.new.rack) c.read_front.ensures.same

pub returns-in_err-front-clause-unwritten : goal.returns-in_err-front-clause-unwritten
returns-in_err-front-clause-unwritten g c t =
    read_contents c.args.area (g.R.Rack.state c.args.rack.now) (g.R.Rack.state c.sync.new.self) c.requires.area (c.sync.ensures.images t) (c.sync.ensures.moment t)
    (c.in_ok-sync.ensures.synced t) (g.R.Rack.state c.read_front.new.rack) c.read_front.ensures.same

pub returns-in-Record-clause-each_moment : goal.returns-in-Record-clause-each_moment
returns-in-Record-clause-each_moment g c t =
    reading_done c.args.area (g.R.Rack.state c.args.rack.now) (g.R.Rack.state c.sync.new.self) c.requires.area (c.sync.ensures.images t) (c.sync.ensures.moment t)
    (c.in_ok-sync.ensures.synced t) (g.R.Rack.state c.read_front.new.rack) c.read_front.ensures.same

pub returns-in-Record-clause-unwritten : goal.returns-in-Record-clause-unwritten
returns-in-Record-clause-unwritten g c t =
    read_contents c.args.area (g.R.Rack.state c.args.rack.now) (g.R.Rack.state c.sync.new.self) c.requires.area (c.sync.ensures.images t) (c.sync.ensures.moment t)
    (c.in_ok-sync.ensures.synced t) (g.R.Rack.state c.read_front.new.rack) c.read_front.ensures.same

pub returns-in-Record-clause-overfull : goal.returns-in-Record-clause-overfull
returns-in-Record-clause-overfull g c t =
    let front = c.in_ok-front.front in
    let synced = c.in_ok-sync.ensures.synced t in
    let is = subst (λ (bytes : List ℕ). IsFront c.args.size c.args.limit bytes front) (ap (λ (a : Area). a.contents) synced.changed) (c.in_ok-front.ensures.front t) in
    overfull_front c.args.size c.args.limit (contents_of c.args.area (g.R.Rack.state c.args.rack.now)) front is c.in-Record.is _ refl

pub returns-in-Closed-clause-each_moment : goal.returns-in-Closed-clause-each_moment
returns-in-Closed-clause-each_moment g c t =
    reading_done c.args.area (g.R.Rack.state c.args.rack.now) (g.R.Rack.state c.sync.new.self) c.requires.area (c.sync.ensures.images t) (c.sync.ensures.moment t)
    (c.in_ok-sync.ensures.synced t) (g.R.Rack.state c.read_front.new.rack) c.read_front.ensures.same

pub returns-in-Closed-clause-unwritten : goal.returns-in-Closed-clause-unwritten
returns-in-Closed-clause-unwritten g c t =
    read_contents c.args.area (g.R.Rack.state c.args.rack.now) (g.R.Rack.state c.sync.new.self) c.requires.area (c.sync.ensures.images t) (c.sync.ensures.moment t)
    (c.in_ok-sync.ensures.synced t) (g.R.Rack.state c.read_front.new.rack) c.read_front.ensures.same

pub returns-in-Closed-clause-was_read : goal.returns-in-Closed-clause-was_read
returns-in-Closed-clause-was_read g c t =
    let s0 = g.R.Rack.state c.args.rack.now in
    let s1 = g.R.Rack.state c.sync.new.self in
    let s2 = g.R.Rack.state c.read_front.new.rack in
    let only = c.read_front.ensures.same in
    let front = c.in_ok-front.front in
    let is = subst (λ (bytes : List ℕ). IsFront c.args.size c.args.limit bytes front) (sym (ap (λ (s : RackState). contents_of c.args.area s) only)) (c.in_ok-front.ensures.front t) in
    let rest = read_rests c.args.area s0 s1 c.requires.area (c.sync.ensures.images t) (c.sync.ensures.moment t) (c.in_ok-sync.ensures.synced t) s2 only in
    let read : ReadState = record { area = c.args.area; size = c.args.size; limit = c.args.limit; count = front.count; closed = true; records = front.records.items } in
    subst (λ (r : ReadState). WasRead r s2) (sym c.of.ensures) (was_closed read s2 c.args.limit front rest is refl refl refl c.in-Closed.is)

pub returns-in-Open-clause-each_moment : goal.returns-in-Open-clause-each_moment
returns-in-Open-clause-each_moment g c t =
    reading_done c.args.area (g.R.Rack.state c.args.rack.now) (g.R.Rack.state c.sync.new.self) c.requires.area (c.sync.ensures.images t) (c.sync.ensures.moment t)
    (c.in_ok-sync.ensures.synced t) (g.R.Rack.state c.read_front.new.rack) c.read_front.ensures.same

pub returns-in-Open-clause-unwritten : goal.returns-in-Open-clause-unwritten
returns-in-Open-clause-unwritten g c t =
    read_contents c.args.area (g.R.Rack.state c.args.rack.now) (g.R.Rack.state c.sync.new.self) c.requires.area (c.sync.ensures.images t) (c.sync.ensures.moment t)
    (c.in_ok-sync.ensures.synced t) (g.R.Rack.state c.read_front.new.rack) c.read_front.ensures.same

pub returns-in-Open-clause-was_read : goal.returns-in-Open-clause-was_read
returns-in-Open-clause-was_read g c t =
    let s0 = g.R.Rack.state c.args.rack.now in
    let s1 = g.R.Rack.state c.sync.new.self in
    let s2 = g.R.Rack.state c.read_front.new.rack in
    let only = c.read_front.ensures.same in
    let front = c.in_ok-front.front in
    let is = subst (λ (bytes : List ℕ). IsFront c.args.size c.args.limit bytes front) (sym (ap (λ (s : RackState). contents_of c.args.area s) only)) (c.in_ok-front.ensures.front t) in
    let rest = read_rests c.args.area s0 s1 c.requires.area (c.sync.ensures.images t) (c.sync.ensures.moment t) (c.in_ok-sync.ensures.synced t) s2 only in
    let read : ReadState = record { area = c.args.area; size = c.args.size; limit = c.args.limit; count = front.count; closed = false; records = front.records.items } in
    subst (λ (r : ReadState). WasRead r s2) (sym c.of-in-Open.ensures) (was_open read s2 c.args.limit front rest is refl refl refl c.in-Open.is)
