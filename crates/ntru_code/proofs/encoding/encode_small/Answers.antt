use Rattle.ntru_code.specs.Forms.{spelling, small}
use Rattle.ntru_code.proofs.Groups.{small_groups}
use Rattle.ntru_code.proofs.Soundness.{small_is_sound}
use Rattle.ntru_code.proofs.Spelled.{small_can_spell, field_below_base}
use Rattle.ntru_code.proofs.encoding.encode_small.Goals as goal

pub encode-requires-clause-sound : goal.encode-requires-clause-sound
encode-requires-clause-sound c = small_is_sound

pub encode-requires-clause-small : goal.encode-requires-clause-small
encode-requires-clause-small c = field_below_base small c.args.a.now small_is_sound (small_can_spell c.args.a.now c.known_in_range.ensures.in_range)

pub returns-clause-bytes : goal.returns-clause-bytes
unfolding spelling
returns-clause-bytes c = c.encode.ensures

pub returns-clause-groups : goal.returns-clause-groups
unfolding spelling
returns-clause-groups c = small_groups c.args.a.now _ c.encode.ensures
