use Rattle.mix_tools.proofs.drafts.take_said.Goals as goal

pub returns-in-Path-clause-exact : goal.returns-in-Path-clause-exact
returns-in-Path-clause-exact c = rw c.in-Path.is (c.at_number.ensures.exact _ c.read_path_line.ensures.exact)

pub returns-in-AnswerSizes-clause-exact : goal.returns-in-AnswerSizes-clause-exact
returns-in-AnswerSizes-clause-exact c = rw c.in-AnswerSizes.is (c.at_number-in-AnswerSizes.ensures.exact _ c.read_block_line.ensures.exact)

pub returns-in-AnswerBlock-clause-exact : goal.returns-in-AnswerBlock-clause-exact
returns-in-AnswerBlock-clause-exact c = rw c.in-AnswerBlock.is (c.at_number-in-AnswerBlock.ensures.exact _ c.read_body_line.ensures.exact)

pub returns-in-OpenSizes-clause-exact : goal.returns-in-OpenSizes-clause-exact
returns-in-OpenSizes-clause-exact c = rw c.in-OpenSizes.is (c.at_number-in-OpenSizes.ensures.exact _ c.read_keys_line.ensures.exact)

pub returns-in-OpenKeys-clause-exact : goal.returns-in-OpenKeys-clause-exact
returns-in-OpenKeys-clause-exact c = rw c.in-OpenKeys.is (c.at_number-in-OpenKeys.ensures.exact _ c.read_payload_line.ensures.exact)
