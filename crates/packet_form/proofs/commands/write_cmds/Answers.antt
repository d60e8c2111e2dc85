use Rattle.std.proofs.Common.{◌≡◌, ◌∙◌, ap, sym}
use Rattle.packet_form.specs.Commands.{delay_part, read, spell}
use Rattle.packet_form.proofs.CommandLaws.{read-spell}
use Rattle.packet_form.proofs.commands.write_cmds.Goals as goal

pub returns-clause-read_back : goal.returns-clause-read_back
unfolding spell
returns-clause-read_back c =
    let value : c.write_exit.new.bytes ≡ spell c.args.cmds.now =
    c.write_exit.ensures.value (delay_part c.args.cmds.now.delay) (sym c.write_delay-behind.ensures.length) c.write_delay-behind.ensures.value in
    ap read value ∙ read-spell c.args.cmds.now c.requires c.write_exit.ensures.lengths
