-- Which refusal of a definition a fault stands for: each for itself, and None is want of memory.
use Rattle.std.specs.Prelude.{Option, Some, None}
use Rattle.reply_blocks.specs.declared.faults.AnswerFault.{AnswerFault}
use Rattle.reply_blocks.specs.declared.faults.AnswerFault.TheVariants as refusals
use Rattle.reply_blocks.specs.declared.faults.OpenFault.{OpenFault}
use Rattle.reply_blocks.specs.declared.faults.OpenFault.TheVariants as faults

-- of an answer to a block
abbrev pub answer_cause : AnswerFault → Option AnswerFault
answer_cause refusals.Memory = None
answer_cause refusals.BlockLength = Some refusals.BlockLength
answer_cause refusals.BodyLength = Some refusals.BodyLength

-- of the opening of a reply
abbrev pub opening_cause : OpenFault → Option OpenFault
opening_cause faults.Memory = None
opening_cause faults.Damaged = Some faults.Damaged
