use Rattle.std.proofs.Common.{[], ◌∷◌, refl}
use Rattle.mix_top.specs.Acts.{Arms, Crashes, Reopens, of_each}
use Rattle.mix_top.proofs.ServedActs.{goes_silent, serves_behind}
use Rattle.mix_top.proofs.serving.serve.Goals as goal

pub returns-in-Arm-clause-serves : goal.returns-in-Arm-clause-serves
returns-in-Arm-clause-serves g c =
    rw c.in-Arm.is (goes_silent g.C.Rack.tells g.S.Suite.meaning g.met.R.Receiver.in_turn (Arms c.in-Arm.shard c.in-Arm.calls) c.args.node.now c.arm.new.self
    c.args.receiver.now (c.arm.ensures.arms, refl))

pub returns-in-Crash-clause-serves : goal.returns-in-Crash-clause-serves
returns-in-Crash-clause-serves g c =
    rw c.in-Crash.is (serves_behind g.C.Rack.tells g.S.Suite.meaning g.met.R.Receiver.in_turn (Crashes c.in-Crash.pick ∷ []) (of_each Reopens 0 c.args.setup.now.shards) c.go_round-in-Crash.result
    c.args.node.now c.crash.new.self c.go_round-in-Crash.new.node c.args.receiver.now c.args.receiver.now c.go_round-in-Crash.new.receiver
    (goes_silent g.C.Rack.tells g.S.Suite.meaning g.met.R.Receiver.in_turn (Crashes c.in-Crash.pick) c.args.node.now c.crash.new.self
    c.args.receiver.now (c.crash.ensures.crashes, refl))
    c.go_round-in-Crash.ensures.serves)
