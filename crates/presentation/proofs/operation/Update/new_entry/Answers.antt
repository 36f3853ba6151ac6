use Rattle.std.proofs.Common.{subst, ap₂}
use Rattle.presentation.specs.Operations.{changed, NewEntry}
use Rattle.presentation.proofs.operation.Update.new_entry.Goals as goal

pub returns : goal.returns
returns g c = let m = g.E.Ring.model in subst (λ a. NewEntry m a c.entry.result) (ap₂ (changed m c.args.self.now.change) c.entry-x.ensures c.entry-y.ensures) c.entry.ensures
