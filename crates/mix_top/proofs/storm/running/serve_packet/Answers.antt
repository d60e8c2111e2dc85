use Rattle.std.proofs.Common.{[], ◌∷◌, ◌++◌, ◌%◌, arith}
use Rattle.std.proofs.lemmas.Result.{err_from_is_err_and}
use Rattle.lab_text.specs.declared.events.Event.TheVariants.{Recv, Peel, Claim, Send}
use Rattle.mix_top.specs.Acts.{Receives}
use Rattle.mix_top.specs.Storm.{crashes_of, moment_of, rotations_of}
use Rattle.mix_top.specs.Storming.{acts_of_events}
use Rattle.mix_top.specs.Tallies.{tally_takes}
use Rattle.mix_top.proofs.ServedActs.{breaks_before}
use Rattle.mix_top.proofs.StormRuns.{goes_at_most, goes_further, served_last, served_next, served_until}
use Rattle.mix_top.proofs.storm.running.serve_packet.Goals as goal

pub returns-in_err-serve-clause-serves : goal.returns-in_err-serve-clause-serves
returns-in_err-serve-clause-serves g c =
    let p = err_from_is_err_and c.from_residual.result c.from_residual.ensures.1 in
    rw (p.1, p.2) (breaks_before g.C.Rack.tells g.S.Suite.meaning tally_takes (Receives (moment_of c.args.number) c.args.packet ∷ []) (acts_of_events c.args.setup.now.shards (Peel (c.args.number % 4) ∷ Claim (c.args.number % 4) ∷ Send (moment_of c.args.number) ∷ (rotations_of c.args.number ++ crashes_of c.args.number))) c.in_err-serve.field-0.0
    c.args.node.now c.serve.new.node c.args.tally.now c.serve.new.receiver c.in_err-serve.ensures.serves)

pub returns-in_err-serve-2-clause-serves : goal.returns-in_err-serve-2-clause-serves
returns-in_err-serve-2-clause-serves g c =
    let p = err_from_is_err_and c.from_residual-in_err-serve-2.result c.from_residual-in_err-serve-2.ensures.1 in
    rw (p.1, p.2) (served_until g.C.Rack.tells g.S.Suite.meaning c.args.setup.now.shards tally_takes (Recv (moment_of c.args.number) c.args.packet ∷ []) (Peel (c.args.number % 4) ∷ []) (Claim (c.args.number % 4) ∷ Send (moment_of c.args.number) ∷ (rotations_of c.args.number ++ crashes_of c.args.number)) c.in_err-serve-2.field-0.0 c.args.node.now c.serve.new.node c.serve-2.new.node c.args.tally.now c.serve.new.receiver c.serve-2.new.receiver
    c.in_ok-serve.ensures.serves c.in_err-serve-2.ensures.serves)

pub returns-in_err-serve-2-clause-goes_on : goal.returns-in_err-serve-2-clause-goes_on
returns-in_err-serve-2-clause-goes_on g c = goes_at_most g.C.Rack.tells g.S.Suite.meaning 2 5 c.args.node.now c.serve-2.new.node (omega arith) (goes_further g.C.Rack.tells g.S.Suite.meaning 1 1 c.args.node.now c.serve.new.node c.serve-2.new.node c.serve.ensures.goes_on c.serve-2.ensures.goes_on)

pub returns-in_err-serve-3-clause-serves : goal.returns-in_err-serve-3-clause-serves
returns-in_err-serve-3-clause-serves g c =
    let p = err_from_is_err_and c.from_residual-in_err-serve-3.result c.from_residual-in_err-serve-3.ensures.1 in
    rw (p.1, p.2) (served_until g.C.Rack.tells g.S.Suite.meaning c.args.setup.now.shards tally_takes (Recv (moment_of c.args.number) c.args.packet ∷ Peel (c.args.number % 4) ∷ []) (Claim (c.args.number % 4) ∷ []) (Send (moment_of c.args.number) ∷ (rotations_of c.args.number ++ crashes_of c.args.number)) c.in_err-serve-3.field-0.0 c.args.node.now c.serve-2.new.node c.serve-3.new.node c.args.tally.now c.serve-2.new.receiver c.serve-3.new.receiver
    (served_next g.C.Rack.tells g.S.Suite.meaning c.args.setup.now.shards tally_takes (Recv (moment_of c.args.number) c.args.packet ∷ []) (Peel (c.args.number % 4) ∷ []) c.args.node.now c.serve.new.node c.serve-2.new.node c.args.tally.now c.serve.new.receiver c.serve-2.new.receiver c.in_ok-serve.ensures.serves c.in_ok-serve-2.ensures.serves) c.in_err-serve-3.ensures.serves)

pub returns-in_err-serve-3-clause-goes_on : goal.returns-in_err-serve-3-clause-goes_on
returns-in_err-serve-3-clause-goes_on g c = goes_at_most g.C.Rack.tells g.S.Suite.meaning 3 5 c.args.node.now c.serve-3.new.node (omega arith) (goes_further g.C.Rack.tells g.S.Suite.meaning 2 1 c.args.node.now c.serve-2.new.node c.serve-3.new.node (goes_further g.C.Rack.tells g.S.Suite.meaning 1 1 c.args.node.now c.serve.new.node c.serve-2.new.node c.serve.ensures.goes_on c.serve-2.ensures.goes_on) c.serve-3.ensures.goes_on)

pub returns-in_err-serve-4-clause-serves : goal.returns-in_err-serve-4-clause-serves
returns-in_err-serve-4-clause-serves g c =
    let p = err_from_is_err_and c.from_residual-in_err-serve-4.result c.from_residual-in_err-serve-4.ensures.1 in
    rw (p.1, p.2) (served_until g.C.Rack.tells g.S.Suite.meaning c.args.setup.now.shards tally_takes (Recv (moment_of c.args.number) c.args.packet ∷ Peel (c.args.number % 4) ∷ Claim (c.args.number % 4) ∷ []) (Send (moment_of c.args.number) ∷ []) ((rotations_of c.args.number ++ crashes_of c.args.number)) c.in_err-serve-4.field-0.0 c.args.node.now c.serve-3.new.node c.serve-4.new.node c.args.tally.now c.serve-3.new.receiver c.serve-4.new.receiver
    (served_next g.C.Rack.tells g.S.Suite.meaning c.args.setup.now.shards tally_takes (Recv (moment_of c.args.number) c.args.packet ∷ Peel (c.args.number % 4) ∷ []) (Claim (c.args.number % 4) ∷ []) c.args.node.now c.serve-2.new.node c.serve-3.new.node c.args.tally.now c.serve-2.new.receiver c.serve-3.new.receiver (served_next g.C.Rack.tells g.S.Suite.meaning c.args.setup.now.shards tally_takes (Recv (moment_of c.args.number) c.args.packet ∷ []) (Peel (c.args.number % 4) ∷ []) c.args.node.now c.serve.new.node c.serve-2.new.node c.args.tally.now c.serve.new.receiver c.serve-2.new.receiver c.in_ok-serve.ensures.serves c.in_ok-serve-2.ensures.serves) c.in_ok-serve-3.ensures.serves) c.in_err-serve-4.ensures.serves)

pub returns-in_err-serve-4-clause-goes_on : goal.returns-in_err-serve-4-clause-goes_on
returns-in_err-serve-4-clause-goes_on g c = goes_at_most g.C.Rack.tells g.S.Suite.meaning 4 5 c.args.node.now c.serve-4.new.node (omega arith) (goes_further g.C.Rack.tells g.S.Suite.meaning 3 1 c.args.node.now c.serve-3.new.node c.serve-4.new.node (goes_further g.C.Rack.tells g.S.Suite.meaning 2 1 c.args.node.now c.serve-2.new.node c.serve-3.new.node (goes_further g.C.Rack.tells g.S.Suite.meaning 1 1 c.args.node.now c.serve.new.node c.serve-2.new.node c.serve.ensures.goes_on c.serve-2.ensures.goes_on) c.serve-3.ensures.goes_on) c.serve-4.ensures.goes_on)

pub returns-in_err-rotate_behind-clause-serves : goal.returns-in_err-rotate_behind-clause-serves
returns-in_err-rotate_behind-clause-serves g c =
    let p = err_from_is_err_and c.from_residual-in_err-rotate_behind.result c.from_residual-in_err-rotate_behind.ensures.1 in
    rw (p.1, p.2) (served_until g.C.Rack.tells g.S.Suite.meaning c.args.setup.now.shards tally_takes (Recv (moment_of c.args.number) c.args.packet ∷ Peel (c.args.number % 4) ∷ Claim (c.args.number % 4) ∷ Send (moment_of c.args.number) ∷ []) (rotations_of c.args.number) (crashes_of c.args.number) c.in_err-rotate_behind.field-0.0 c.args.node.now c.serve-4.new.node c.rotate_behind.new.node c.args.tally.now c.serve-4.new.receiver c.rotate_behind.new.tally
    (served_next g.C.Rack.tells g.S.Suite.meaning c.args.setup.now.shards tally_takes (Recv (moment_of c.args.number) c.args.packet ∷ Peel (c.args.number % 4) ∷ Claim (c.args.number % 4) ∷ []) (Send (moment_of c.args.number) ∷ []) c.args.node.now c.serve-3.new.node c.serve-4.new.node c.args.tally.now c.serve-3.new.receiver c.serve-4.new.receiver (served_next g.C.Rack.tells g.S.Suite.meaning c.args.setup.now.shards tally_takes (Recv (moment_of c.args.number) c.args.packet ∷ Peel (c.args.number % 4) ∷ []) (Claim (c.args.number % 4) ∷ []) c.args.node.now c.serve-2.new.node c.serve-3.new.node c.args.tally.now c.serve-2.new.receiver c.serve-3.new.receiver (served_next g.C.Rack.tells g.S.Suite.meaning c.args.setup.now.shards tally_takes (Recv (moment_of c.args.number) c.args.packet ∷ []) (Peel (c.args.number % 4) ∷ []) c.args.node.now c.serve.new.node c.serve-2.new.node c.args.tally.now c.serve.new.receiver c.serve-2.new.receiver c.in_ok-serve.ensures.serves c.in_ok-serve-2.ensures.serves) c.in_ok-serve-3.ensures.serves) c.in_ok-serve-4.ensures.serves) c.in_err-rotate_behind.ensures.serves)

pub returns-in_err-rotate_behind-clause-goes_on : goal.returns-in_err-rotate_behind-clause-goes_on
returns-in_err-rotate_behind-clause-goes_on g c =
    goes_at_most g.C.Rack.tells g.S.Suite.meaning 4 5 c.args.node.now c.rotate_behind.new.node (omega arith) (goes_further g.C.Rack.tells g.S.Suite.meaning 4 0 c.args.node.now c.serve-4.new.node c.rotate_behind.new.node (goes_further g.C.Rack.tells g.S.Suite.meaning 3 1 c.args.node.now c.serve-3.new.node c.serve-4.new.node (goes_further g.C.Rack.tells g.S.Suite.meaning 2 1 c.args.node.now c.serve-2.new.node c.serve-3.new.node (goes_further g.C.Rack.tells g.S.Suite.meaning 1 1 c.args.node.now c.serve.new.node c.serve-2.new.node c.serve.ensures.goes_on c.serve-2.ensures.goes_on) c.serve-3.ensures.goes_on) c.serve-4.ensures.goes_on) c.rotate_behind.ensures.goes_on)

pub returns-clause-serves : goal.returns-clause-serves
returns-clause-serves g c =
    served_last g.C.Rack.tells g.S.Suite.meaning c.args.setup.now.shards tally_takes ((Recv (moment_of c.args.number) c.args.packet ∷ Peel (c.args.number % 4) ∷ Claim (c.args.number % 4) ∷ Send (moment_of c.args.number) ∷ []) ++ rotations_of c.args.number) (crashes_of c.args.number) c.crash_behind.result c.args.node.now c.rotate_behind.new.node c.crash_behind.new.node c.args.tally.now c.rotate_behind.new.tally c.crash_behind.new.tally
    (served_next g.C.Rack.tells g.S.Suite.meaning c.args.setup.now.shards tally_takes (Recv (moment_of c.args.number) c.args.packet ∷ Peel (c.args.number % 4) ∷ Claim (c.args.number % 4) ∷ Send (moment_of c.args.number) ∷ []) (rotations_of c.args.number) c.args.node.now c.serve-4.new.node c.rotate_behind.new.node c.args.tally.now c.serve-4.new.receiver c.rotate_behind.new.tally
    (served_next g.C.Rack.tells g.S.Suite.meaning c.args.setup.now.shards tally_takes (Recv (moment_of c.args.number) c.args.packet ∷ Peel (c.args.number % 4) ∷ Claim (c.args.number % 4) ∷ []) (Send (moment_of c.args.number) ∷ []) c.args.node.now c.serve-3.new.node c.serve-4.new.node c.args.tally.now c.serve-3.new.receiver c.serve-4.new.receiver (served_next g.C.Rack.tells g.S.Suite.meaning c.args.setup.now.shards tally_takes (Recv (moment_of c.args.number) c.args.packet ∷ Peel (c.args.number % 4) ∷ []) (Claim (c.args.number % 4) ∷ []) c.args.node.now c.serve-2.new.node c.serve-3.new.node c.args.tally.now c.serve-2.new.receiver c.serve-3.new.receiver (served_next g.C.Rack.tells g.S.Suite.meaning c.args.setup.now.shards tally_takes (Recv (moment_of c.args.number) c.args.packet ∷ []) (Peel (c.args.number % 4) ∷ []) c.args.node.now c.serve.new.node c.serve-2.new.node c.args.tally.now c.serve.new.receiver c.serve-2.new.receiver c.in_ok-serve.ensures.serves c.in_ok-serve-2.ensures.serves) c.in_ok-serve-3.ensures.serves) c.in_ok-serve-4.ensures.serves) c.in_ok-rotate_behind.ensures.serves) c.crash_behind.ensures.serves

pub returns-clause-goes_on : goal.returns-clause-goes_on
returns-clause-goes_on g c =
    goes_further g.C.Rack.tells g.S.Suite.meaning 4 1 c.args.node.now c.rotate_behind.new.node c.crash_behind.new.node (goes_further g.C.Rack.tells g.S.Suite.meaning 4 0 c.args.node.now c.serve-4.new.node c.rotate_behind.new.node (goes_further g.C.Rack.tells g.S.Suite.meaning 3 1 c.args.node.now c.serve-3.new.node c.serve-4.new.node (goes_further g.C.Rack.tells g.S.Suite.meaning 2 1 c.args.node.now c.serve-2.new.node c.serve-3.new.node (goes_further g.C.Rack.tells g.S.Suite.meaning 1 1 c.args.node.now c.serve.new.node c.serve-2.new.node c.serve.ensures.goes_on c.serve-2.ensures.goes_on) c.serve-3.ensures.goes_on) c.serve-4.ensures.goes_on) c.rotate_behind.ensures.goes_on) c.crash_behind.ensures.goes_on
