use Rattle.std.proofs.lemmas.Result.{err_from_is_err_and}
use Rattle.ntru_prime.proofs.Decoding.{rounded_read, rounded_refused}
use Rattle.ntru_prime.proofs.reading.rounded_in.Goals as goal

pub returns-in_err-polynomial : goal.returns-in_err-polynomial
returns-in_err-polynomial c =
    let e = err_from_is_err_and c.from_residual.result c.from_residual.ensures.1 in
    rw (e.1, e.2) (rounded_refused c.args.bytes.now _ c.in_err-polynomial.ensures.first)

pub returns : goal.returns
returns c = rounded_read c.args.bytes.now c.in_ok-polynomial.polynomial c.known_in_range.ensures.in_range c.in_ok-polynomial.ensures.multiples c.in_ok-polynomial.ensures.found c.in_ok-polynomial.ensures.in_range
