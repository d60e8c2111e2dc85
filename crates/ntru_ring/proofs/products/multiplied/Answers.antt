use Rattle.std.proofs.Common.{◌≡◌, ◌*ℤ◌, to_z, of_z, w64, rules, sym, subst}
use Rattle.ntru_ring.specs.Centring.{IsWithin}
use Rattle.ntru_ring.proofs.Lists.{product_within}
use Rattle.ntru_ring.proofs.products.multiplied.Goals as goal

pub returns-clause-small : goal.returns-clause-small
returns-clause-small c =
    let value : to_z w64 (of_z w64 (to_z w64 (of_z w64 c.from.result) *ℤ to_z w64 (of_z w64 c.from-2.result))) ≡ c.args.x *ℤ c.args.y = search rules in
    subst (IsWithin 5267025) (sym value) (product_within 2295 2295 _ _ c.requires.left c.requires.right)
