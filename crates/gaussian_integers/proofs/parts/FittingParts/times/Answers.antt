use Rattle.std.proofs.Common.{◌+ℤ◌, ◌-ℤ◌, ap₂, arith, w64, SFits}
use Rattle.std.proofs.lemmas.Int.{ints, to_z-of_z}
use Rattle.gaussian_integers.specs.Gaussian.{gauss}
use Rattle.gaussian_integers.proofs.parts.FittingParts.times.Goals as goal

pub returns : goal.returns
returns c =
    let a : SFits w64 c.args.self.parts.re = omega (arith, ints) in
    let b : SFits w64 c.args.self.parts.im = omega (arith, ints) in
    let d : SFits w64 c.args.b.parts.re = omega (arith, ints) in
    let e : SFits w64 c.args.b.parts.im = omega (arith, ints) in
    let p : SFits w64 c.product.result = omega (arith, ints) in
    let q : SFits w64 c.product-2.result = omega (arith, ints) in
    let r : SFits w64 c.product-3.result = omega (arith, ints) in
    let s : SFits w64 c.product-4.result = omega (arith, ints) in
    let re : SFits w64 (c.product.result -ℤ c.product-2.result) = omega (arith, ints) in
    let im : SFits w64 (c.product-3.result +ℤ c.product-4.result) = omega (arith, ints) in
    simp to_z-of_z (record {
      value = ap₂ gauss
          (ap₂ ◌-ℤ◌ (simp to_z-of_z at c.product.ensures.value) (simp to_z-of_z at c.product-2.ensures.value))
          (ap₂ ◌+ℤ◌ (simp to_z-of_z at c.product-3.ensures.value) (simp to_z-of_z at c.product-4.ensures.value));
      bound = (omega (arith, ints), omega (arith, ints));
    })
