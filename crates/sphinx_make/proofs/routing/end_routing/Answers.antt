use Rattle.std.proofs.Common.{◌≡◌, length, rules}
use Rattle.packet_form.proofs.CommandLaws.{AreBytes, read_spelled}
use Rattle.packet_form.specs.declared.commands.Cmds.{Cmds}
use Rattle.sphinx_make.proofs.routing.end_routing.Goals as goal

pub returns-clause-exit : goal.returns-clause-exit
returns-clause-exit g c =
    let long : length c.write_cmds.result ≡ 72 = search rules in
    let fits : AreBytes c.write_cmds.result = search rules in
    let cmds : Cmds = record { delay = c.args.hop.now.delay; exit = c.args.last.now } in
    (read_spelled c.write_cmds.result cmds fits long c.write_cmds.ensures.read_back).lengths
