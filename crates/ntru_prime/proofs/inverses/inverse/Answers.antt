use Rattle.std.proofs.Common.{◌≡◌, ℤ, List, ◌∙◌, sym, ap, subst, Some}
use Rattle.field_solve.specs.Moduli.{prime_of}
use Rattle.ntru_prime.specs.Inverses.{inverse_of}
use Rattle.ntru_prime.proofs.Inversion.{inverse_of-none, inverse_of-only, inverse_of_exactly}
use Rattle.ntru_prime.proofs.inverses.inverse.Goals as goal

pub returns-in-Inverse-clause-value : goal.returns-in-Inverse-clause-value
returns-in-Inverse-clause-value c =
    let prime = prime_of c.args.modulus in
    let u = c.in-Inverse.inverse.items in
    let seen : c.deref.result.now ≡ c.args.poly.now = c.deref.ensures.value ∙ c.in_ok-list.ensures in
    let inverse = rw c.in-Inverse.is at c.in_ok-inverse.ensures.inverse in
    let only = rw c.in-Inverse.is at c.in_ok-inverse.ensures.only_inverse in
    let found = inverse_of-only prime c.deref.result.now u inverse only in
    let taken : u ≡ c.in_ok-from_list-in-Inverse.field-0 = sym (c.in_ok-from_list-in-Inverse.ensures ∙ c.deref-in-Inverse.ensures.value) in
    subst (λ (p : List ℤ). inverse_of prime p ≡ Some c.in_ok-from_list-in-Inverse.field-0) seen (found ∙ ap Some taken)

pub returns-clause-value : goal.returns-clause-value
returns-clause-value c =
    let prime = prime_of c.args.modulus in
    let seen : c.deref.result.now ≡ c.args.poly.now = c.deref.ensures.value ∙ c.in_ok-list.ensures in
    let never = rw c.in-Divisor.is at c.in_ok-inverse.ensures.no_inverse in
    sym (ap (inverse_of prime) seen) ∙ inverse_of-none prime c.deref.result.now never

pub returns-in_err-list-clause-exactly : goal.returns-in_err-list-clause-exactly
returns-in_err-list-clause-exactly c = λ u. inverse_of_exactly c.args.modulus c.args.poly.now u c.requires

pub returns-in_err-inverse-clause-exactly : goal.returns-in_err-inverse-clause-exactly
returns-in_err-inverse-clause-exactly c = λ u. inverse_of_exactly c.args.modulus c.args.poly.now u c.requires

pub returns-clause-exactly : goal.returns-clause-exactly
returns-clause-exactly c = λ u. inverse_of_exactly c.args.modulus c.args.poly.now u c.requires
