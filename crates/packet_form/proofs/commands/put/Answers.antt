use Rattle.packet_form.proofs.Writing.{put_behind}
use Rattle.packet_form.proofs.commands.put.Goals as goal

pub returns : goal.returns
returns c = λ written len is. put_behind written c.args.field.now c.args.bytes.now c.copy_from_slice.new.self c.args.at len is c.copy_from_slice.ensures.after c.requires
