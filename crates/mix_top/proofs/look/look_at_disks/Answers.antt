use Rattle.std.proofs.Common.{◌≡◌, ◌++◌, List, IfErr, IfOk, IfSome, IsSomeAnd, OnErr, OnOk, Some, ℕ, map, string_bytes, subst}
use Rattle.mix_base.specs.Writing.{GivesFront}
use Rattle.mix_top.proofs.Looks.{look_put, look_stopped}
use Rattle.mix_top.proofs.look.look_at_disks.Goals as goal

pub returns-in-Ok-clause-answered : goal.returns-in-Ok-clause-answered
returns-in-Ok-clause-answered g c =
    let before = g.O.Sink.given c.args.sink.now in
    let after = g.O.Sink.given c.put.new.self in
    rw c.put_status.ensures (look_put g.K.Rack.tells c.args.shards (map g.K.Rack.state c.args.disks.now) (map g.K.Rack.state c.read_disks.new.disks)
    (string_bytes c.in-Ok.text) c.put.result before after c.in-Ok.ensures
    (subst (λ (text : List ℕ). OnOk c.put.result (IfSome before (λ first. after ≡ Some (first ++ text)))) c.as_bytes.ensures.value c.put.ensures.whole)
    (subst (λ (text : List ℕ). OnErr c.put.result (IfSome before (λ first. IsSomeAnd after (λ last. GivesFront first last text)))) c.as_bytes.ensures.value c.put.ensures.front))

pub returns-in-Err-clause-answered : goal.returns-in-Err-clause-answered
returns-in-Err-clause-answered g c =
    let stopped = c.in-Err.ensures in
    look_stopped g.K.Rack.tells c.args.shards (map g.K.Rack.state c.args.disks.now) (map g.K.Rack.state c.read_disks.new.disks) c.in-Err.status
    (g.O.Sink.given c.args.sink.now) stopped.0 stopped.1 stopped.2
