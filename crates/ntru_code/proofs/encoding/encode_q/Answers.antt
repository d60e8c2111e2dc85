use Rattle.ntru_code.specs.Forms.{spelling, whole}
use Rattle.ntru_code.proofs.Groups.{whole_groups}
use Rattle.ntru_code.proofs.Soundness.{whole_is_sound}
use Rattle.ntru_code.proofs.Spelled.{whole_can_spell, field_below_base}
use Rattle.ntru_code.proofs.encoding.encode_q.Goals as goal

pub encode-requires-clause-sound : goal.encode-requires-clause-sound
encode-requires-clause-sound c = whole_is_sound

pub encode-requires-clause-small : goal.encode-requires-clause-small
encode-requires-clause-small c = field_below_base whole c.args.a.now whole_is_sound (whole_can_spell c.args.a.now c.known_in_range.ensures.in_range)

pub returns-clause-bytes : goal.returns-clause-bytes
unfolding spelling
returns-clause-bytes c = c.encode.ensures

pub returns-clause-groups : goal.returns-clause-groups
unfolding spelling
returns-clause-groups c = whole_groups c.args.a.now _ c.encode.ensures
