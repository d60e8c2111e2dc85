use Rattle.ntru_code.specs.Forms.{spelling, rounded}
use Rattle.ntru_code.proofs.Groups.{rounded_groups}
use Rattle.ntru_code.proofs.Soundness.{rounded_is_sound}
use Rattle.ntru_code.proofs.Spelled.{rounded_can_spell, field_below_base}
use Rattle.ntru_code.proofs.encoding.encode_rounded.Goals as goal

pub encode-requires-clause-sound : goal.encode-requires-clause-sound
encode-requires-clause-sound c = rounded_is_sound

pub encode-requires-clause-small : goal.encode-requires-clause-small
encode-requires-clause-small c = field_below_base rounded c.args.a.now rounded_is_sound (rounded_can_spell c.args.a.now c.known_in_range.ensures.in_range c.requires.multiples)

pub returns-clause-bytes : goal.returns-clause-bytes
unfolding spelling
returns-clause-bytes c = c.encode.ensures

pub returns-clause-groups : goal.returns-clause-groups
unfolding spelling
returns-clause-groups c = rounded_groups c.args.a.now _ c.encode.ensures
