use Rattle.mix_links.proofs.net.MemInLinkIn.next_packet.Goals as goal

pub returns-clause-failed : goal.returns-clause-failed
returns-clause-failed g c = λ failed. absurd (c.take.ensures.never_failed failed)
