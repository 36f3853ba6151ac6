use Rattle.std.proofs.Common.{ap, ◌∙◌, arith}
use Rattle.presentation.specs.Places.{place, meant}
use Rattle.presentation.proofs.Tables.{meant_read}
use Rattle.presentation.proofs.grid.Grid.entry.Goals as goal

pub returns : goal.returns
returns g c =
    let m = g.E.Ring.model in
    meant_read m c.self.inside.cells.now c.place.result c.index-cells-place.result (omega (arith, c.self.invariant, c.place.ensures.bound)) c.index-cells-place.is
    ∙ ap (meant m c.self.inside.cells.now) c.place.ensures.value
    ∙ ap (λ w. meant m w (place c.args.axis c.args.i c.args.k)) c.self.view_is
