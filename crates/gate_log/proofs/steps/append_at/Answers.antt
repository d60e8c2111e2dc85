use Rattle.std.proofs.Common.{◌+◌, length, take}
use Rattle.replay_disk.proofs.Laws.{rests_settled}
use Rattle.gate_log.proofs.Moments.{append_first, append_then, append_done}
use Rattle.gate_log.proofs.steps.append_at.Goals as goal

pub returns-in_err-write_synced-clause-each_moment : goal.returns-in_err-write_synced-clause-each_moment
returns-in_err-write_synced-clause-each_moment g c t =
    let s0 = g.R.Rack.state c.args.rack.now in
    let s1 = g.R.Rack.state c.write_synced.new.rack in
    let framed = take (length c.args.bytes.now + 1) c.with_closed_gate-framed.result in
    append_first c.args.area c.args.place c.args.bytes.now framed s0 s1 s1 c.with_closed_gate-framed.ensures (c.requires.place t) (c.requires.closed t)
    (c.write_synced.ensures.each_moment t (c.requires.at_rest t))

pub returns-in_err-write_synced-2-clause-each_moment : goal.returns-in_err-write_synced-2-clause-each_moment
returns-in_err-write_synced-2-clause-each_moment g c t =
    let s0 = g.R.Rack.state c.args.rack.now in
    let s1 = g.R.Rack.state c.write_synced.new.rack in
    let s2 = g.R.Rack.state c.write_synced-2.new.rack in
    let framed = take (length c.args.bytes.now + 1) c.with_closed_gate-framed.result in
    let first = append_first c.args.area c.args.place c.args.bytes.now framed s0 s1 s2 c.with_closed_gate-framed.ensures (c.requires.place t) (c.requires.closed t)
    (c.write_synced.ensures.each_moment t (c.requires.at_rest t)) in
    let staged = c.in_ok-write_synced.ensures.written t in
    append_then c.args.area c.args.place c.args.bytes.now framed s0 s1 s2 c.with_closed_gate-framed.ensures (c.requires.place t) (c.requires.closed t) staged first
    (c.write_synced-2.ensures.each_moment t (rests_settled s1.areas c.args.area _ staged))

pub returns-clause-each_moment : goal.returns-clause-each_moment
returns-clause-each_moment g c t =
    let s0 = g.R.Rack.state c.args.rack.now in
    let s1 = g.R.Rack.state c.write_synced.new.rack in
    let s2 = g.R.Rack.state c.write_synced-2.new.rack in
    let framed = take (length c.args.bytes.now + 1) c.with_closed_gate-framed.result in
    let first = append_first c.args.area c.args.place c.args.bytes.now framed s0 s1 s2 c.with_closed_gate-framed.ensures (c.requires.place t) (c.requires.closed t)
    (c.write_synced.ensures.each_moment t (c.requires.at_rest t)) in
    let staged = c.in_ok-write_synced.ensures.written t in
    append_then c.args.area c.args.place c.args.bytes.now framed s0 s1 s2 c.with_closed_gate-framed.ensures (c.requires.place t) (c.requires.closed t) staged first
    (c.write_synced-2.ensures.each_moment t (rests_settled s1.areas c.args.area _ staged))

pub returns-clause-written : goal.returns-clause-written
returns-clause-written g c t =
    let s0 = g.R.Rack.state c.args.rack.now in
    let s1 = g.R.Rack.state c.write_synced.new.rack in
    let s2 = g.R.Rack.state c.write_synced-2.new.rack in
    let framed = take (length c.args.bytes.now + 1) c.with_closed_gate-framed.result in
    append_done c.args.area c.args.place c.args.bytes.now framed s0 s1 s2 c.with_closed_gate-framed.ensures (c.requires.place t) (c.requires.closed t) (c.in_ok-write_synced.ensures.written t) (c.in_ok-write_synced-2.ensures.written t)
