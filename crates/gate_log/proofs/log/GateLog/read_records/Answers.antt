use Rattle.replay_disk.specs.Disk.{contents_of}
use Rattle.gate_log.proofs.Standing.{front_more}
use Rattle.gate_log.proofs.log.GateLog.read_records.Goals as goal

pub returns-clause-more : goal.returns-clause-more
returns-clause-more g c t =
    let more = front_more c.args.size c.args.limit (contents_of c.args.area (g.R.Rack.state c.args.rack.now)) c.in_ok-front.front (c.in_ok-front.ensures.front t) in
    ((λ is. more.0 (c.is_record.ensures.0 is)), (λ is. c.is_record.ensures.1 (more.1 is)))
