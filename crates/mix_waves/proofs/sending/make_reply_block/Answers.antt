use Rattle.mix_tools.proofs.Refusals.{only_memory}
use Rattle.sphinx_make.specs.Faults.{cause_of}
use Rattle.mix_waves.proofs.MadeMessages.{block_is_made}
use Rattle.mix_waves.proofs.sending.make_reply_block.Goals as goal

pub only_memory-requires : goal.only_memory-requires
only_memory-requires g c =
    only_memory (cause_of c.in-Err.fault) _
    (rw (c.requires.suite, c.requires.geometry) (block_is_made c.args.config.now c.args.back.now _ _ _ _ c.requires.in_range c.requires.path)) c.in-Err.ensures.exact
