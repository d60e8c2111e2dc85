use Rattle.mix_tools.proofs.BlockKeyBytes.{answer-never_refused}
use Rattle.mix_tools.proofs.replies.answer_with.Goals as goal

pub only_memory-requires : goal.only_memory-requires
only_memory-requires g c =
    answer-never_refused c.args.request.now c.in-Err.fault c.requires.in_range (rw (c.requires.suite, c.as_slice.ensures, c.as_slice-2.ensures) at c.in-Err.ensures.exact)
