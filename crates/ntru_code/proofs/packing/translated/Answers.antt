use Rattle.std.proofs.Common.{ℕ, ◌*◌, ◌/◌, ◌<◌, arith, refl}
use Rattle.ntru_code.specs.Packing.{translated, group_number}
use Rattle.ntru_code.proofs.Digits.{last_in_group, last_in_count, place_in_group, group_in_count, power_fits}
use Rattle.ntru_code.proofs.packing.translated.Goals as goal

pub last_of-requires-clause-inside : goal.last_of-requires-clause-inside
last_of-requires-clause-inside g c = c.requires.agree.same_groups _ (group_in_count c.args.to.now c.args.place c.requires.inside)

pub number-value-requires-clause-inside : goal.number-value-requires-clause-inside
number-value-requires-clause-inside g c =
    let group : ℕ = c.args.place / c.args.to.now.group in
    let here : group * c.args.from.now.group < c.args.from.now.count = c.requires.agree.same_groups group (group_in_count c.args.to.now c.args.place c.requires.inside) in
    omega (arith, last_in_count c.args.from.now group c.requires.agree.digits_from here, c.last_of.ensures, c.requires.count)

pub number-value-requires-clause-short : goal.number-value-requires-clause-short
number-value-requires-clause-short g c =
    let group : ℕ = c.args.place / c.args.to.now.group in
    let here : group * c.args.from.now.group < c.args.from.now.count = c.requires.agree.same_groups group (group_in_count c.args.to.now c.args.place c.requires.inside) in
    omega (arith, last_in_count c.args.from.now group c.requires.agree.digits_from here, c.last_of.ensures, c.fits-from)

pub number-value-requires-clause-fits : goal.number-value-requires-clause-fits
number-value-requires-clause-fits g c =
    let group : ℕ = c.args.place / c.args.to.now.group in
    let last = last_in_group c.args.from.now group c.requires.agree.digits_from in
    power_fits c.args.from.now.base c.last_of.result c.args.from.now.group (omega (arith, c.requires.small 0)) (omega (arith, last, c.last_of.ensures)) c.requires.agree.fits

pub digit-requires-clause-inside : goal.digit-requires-clause-inside
digit-requires-clause-inside g c =
    omega (arith, c.last_of-2.ensures, place_in_group c.args.to.now c.args.place c.requires.agree.digits_to c.requires.inside)

pub returns : goal.returns
unfolding translated group_number
returns g c = rw (c.digit.ensures, c.number-value.ensures, c.last_of.ensures, c.last_of-2.ensures) refl
