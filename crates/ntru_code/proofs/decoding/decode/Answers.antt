use Rattle.ntru_code.proofs.Reading.{all_in_range}
use Rattle.ntru_code.proofs.decoding.decode.Goals as goal

pub returns-clause-in_range : goal.returns-clause-in_range
returns-clause-in_range c = all_in_range c.args.form.now c.args.bytes.now c.requires.sound c.in_ok-list.ensures.below c.in_ok-check_rest.ensures.below
