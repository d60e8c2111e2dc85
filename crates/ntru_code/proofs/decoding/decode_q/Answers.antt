use Rattle.std.proofs.Common.{arith}
use Rattle.ntru_code.specs.Forms.{whole}
use Rattle.ntru_code.proofs.Soundness.{whole_is_sound}
use Rattle.ntru_code.proofs.Spelled.{whole_can_spell}
use Rattle.ntru_code.proofs.Reading.{found, only}
use Rattle.ntru_code.proofs.decoding.decode_q.Goals as goal

pub decode-requires-clause-sound : goal.decode-requires-clause-sound
decode-requires-clause-sound c = whole_is_sound

pub returns-clause-found : goal.returns-clause-found
returns-clause-found c = found whole c.args.bytes.now whole_is_sound c.requires (λ k. omega (arith, c.type_inv.bytes k)) c.decode.result c.decode.ensures.value c.decode.ensures.in_range

pub returns-clause-only : goal.returns-clause-only
returns-clause-only c = λ p polynomial. only whole c.args.bytes.now p whole_is_sound (whole_can_spell p polynomial) c.decode.result c.decode.ensures.value c.decode.ensures.first
