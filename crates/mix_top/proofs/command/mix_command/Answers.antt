use Rattle.std.proofs.Common.{map}
use Rattle.std.specs.Prelude.{string_bytes}
use Rattle.mix_tools.specs.Answers.{EndsTool}
use Rattle.mix_tools.specs.Commands.{command_of}
use Rattle.mix_top.proofs.CommandWords.{on_any}
use Rattle.mix_top.proofs.command.mix_command.Goals as goal

pub returns-in-Some-tool-clause-tool_kind : goal.returns-in-Some-tool-clause-tool_kind
returns-in-Some-tool-clause-tool_kind g c =
    on_any (command_of (map string_bytes c.args.words.now)) (EndsTool c.in-Some-tool.status) c.in-Some-tool.ensures.kind
