use Rattle.std.proofs.Common.{◌≤◌, ◌*ℤ◌, unsigned_abs, refl, arith, w64, SFits}
use Rattle.std.proofs.lemmas.Int.{ints, to_z-of_z}
use Rattle.algebra.proofs.Magnitudes.{abs_mul_le}
use Rattle.gaussian_integers.proofs.parts.product.Goals as goal

pub returns : goal.returns
returns c =
    let x = c.args.x in
    let y = c.args.y in
    let small : unsigned_abs (x *ℤ y) ≤ 72057593501057025 = abs_mul_le x y 268435455 268435455 c.requires.left c.requires.right in
    let fx : SFits w64 x = c.ranges.x in
    let fy : SFits w64 y = c.ranges.y in
    let fxy : SFits w64 (x *ℤ y) = omega (arith, ints) in
    simp to_z-of_z (record { value = refl; bound = small })
