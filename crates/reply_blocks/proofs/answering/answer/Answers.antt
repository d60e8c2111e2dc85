use Rattle.std.proofs.Common.{◌∙◌}
use Rattle.reply_blocks.proofs.BlockParts.{answer_to-block_of}
use Rattle.reply_blocks.proofs.answering.answer.Goals as goal

pub returns-clause-parts : goal.returns-clause-parts
returns-clause-parts g c header first own long first_long is =
    c.in_ok-join_answer.ensures.value ∙ answer_to-block_of g.S.Suite.meaning c.args.geo.now c.args.block.now header first own c.args.body.now is long first_long
