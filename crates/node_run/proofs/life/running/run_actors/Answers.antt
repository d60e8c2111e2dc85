use denote.Exit.{no}
use denote.Param.Send.{param_send, arg_send}
use Rattle.node_run.proofs.Crossing.{actor_send, all_left_send}
use Rattle.node_run.proofs.life.running.run_actors.Goals as goal

pub run_all-requires-send-A : goal.run_all-requires-send-A
run_all-requires-send-A g c κs within =
    let b = c.type_bounds in
    param_send _ _ (arg_send _ no _ (actor_send _ _ _ _ _ _ _ g.R.Rack g.S.Suite g.S.K.Kem g.S.M.Mac g.S.D.Kdf g.S.C.Stream g.S.W.Wide
    b.send-R b.send-S b.send-S-K b.send-S-M b.send-S-D b.send-S-C b.send-S-W _ _ _ _ _ _ g.N.LinkIn g.O.LinkOut g.C.Clock b.sync-H b.sync-S b.send-N b.send-O b.sync-C b.sync-G))

pub run_all-requires-send-A-Done : goal.run_all-requires-send-A-Done
run_all-requires-send-A-Done g c κs within =
    let b = c.type_bounds in
    param_send _ _ (arg_send _ no _ (all_left_send _ _ _ _ _ _ _ g.R.Rack g.S.Suite g.S.K.Kem g.S.M.Mac g.S.D.Kdf g.S.C.Stream g.S.W.Wide
    b.send-R b.send-S b.send-S-K b.send-S-M b.send-S-D b.send-S-C b.send-S-W _ _ b.send-N b.send-O))
