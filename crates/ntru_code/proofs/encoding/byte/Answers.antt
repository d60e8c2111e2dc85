use Rattle.std.proofs.Common.{arith}
use Rattle.ntru_code.proofs.Digits.{translated_below}
use Rattle.ntru_code.proofs.encoding.byte.Goals as goal

pub overflow_cast-result : goal.overflow_cast-result
overflow_cast-result g c =
    let small = translated_below c.args.form.now.fields c.args.form.now.bytes (g.D.Digits.at c.args.fields.now) c.requires.small c.requires.sound.room c.requires.sound.out.digits_to c.requires.sound.out.base c.args.place c.requires.inside in
    omega (arith, small, c.translated.ensures, c.requires.sound.byte_base)
