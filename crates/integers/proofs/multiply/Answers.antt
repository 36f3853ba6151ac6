use Rattle.std.proofs.Common.{◌≤◌, ◌*ℤ◌, unsigned_abs, arith, w64, SFits}
use Rattle.std.proofs.lemmas.Int.{ints, to_z-of_z}
use Rattle.algebra.proofs.Magnitudes.{abs_mul_le}
use Rattle.integers.proofs.multiply.Goals as goal

pub returns : goal.returns
returns c =
    let x = c.get.result in
    let y = c.get-2.result in
    let small : unsigned_abs (x *ℤ y) ≤ 288230375077969921 = abs_mul_le x y 536870911 536870911 c.get.ensures.bound c.get-2.ensures.bound in
    let fa : SFits w64 x = omega (arith, ints) in
    let fb : SFits w64 y = omega (arith, ints) in
    let fab : SFits w64 (x *ℤ y) = omega (arith, ints) in
    simp to_z-of_z (record { value = cc (c.get.ensures.value, c.get-2.ensures.value); bound = small })
