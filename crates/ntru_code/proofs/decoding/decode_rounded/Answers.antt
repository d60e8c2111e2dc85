use Rattle.std.proofs.Common.{arith}
use Rattle.ntru_code.specs.Forms.{rounded}
use Rattle.ntru_code.proofs.Soundness.{rounded_is_sound}
use Rattle.ntru_code.proofs.Spelled.{rounded_can_spell}
use Rattle.ntru_code.proofs.Reading.{found, multiples_read, only}
use Rattle.ntru_code.proofs.decoding.decode_rounded.Goals as goal

pub decode-requires-clause-sound : goal.decode-requires-clause-sound
decode-requires-clause-sound c = rounded_is_sound

pub returns-clause-found : goal.returns-clause-found
returns-clause-found c = found rounded c.args.bytes.now rounded_is_sound c.requires (λ k. omega (arith, c.type_inv.bytes k)) c.decode.result c.decode.ensures.value c.decode.ensures.in_range

pub returns-clause-only : goal.returns-clause-only
returns-clause-only c = λ p polynomial multiples. only rounded c.args.bytes.now p rounded_is_sound (rounded_can_spell p polynomial multiples) c.decode.result c.decode.ensures.value c.decode.ensures.first

pub returns-clause-multiples : goal.returns-clause-multiples
returns-clause-multiples c = multiples_read c.args.bytes.now c.decode.result c.decode.ensures.value
