use Rattle.prim_std.proofs.laboratory.LabKemKem.pair.Goals as goal

pub returns-clause-words : goal.returns-clause-words
returns-clause-words g c = (8, c.draw.ensures.rest)
