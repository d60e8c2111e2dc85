use Rattle.packet_form.proofs.CommandLaws.{spelled_if_read, none_if_not_read}
use Rattle.packet_form.proofs.commands.read_cmds.Goals as goal

pub returns-clause-spelled : goal.returns-clause-spelled
returns-clause-spelled c = spelled_if_read c.args.bytes.now c.read_parts.result c.fits-bytes c.told-bytes c.read_parts.ensures

pub returns-clause-none : goal.returns-clause-none
returns-clause-none c = none_if_not_read c.args.bytes.now c.read_parts.result c.read_parts.ensures
