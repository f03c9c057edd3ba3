-- `pop` counts one less than there are items.
-- Assumes nothing.
use Prim.Native.Nat.{◌-◌}
use mathlib.Core.Path.{ap, ◌∙◌}
use lib.ListN.{length}
use Rattle.tables.proofs.Table.pop.Goals as goal

pub returns-clause-table : goal.returns-clause-table
returns-clause-table g c = ap (λ k. record { items = c.args.self.now.items; count = k }) (c.saturating_sub-self.ensures ∙ ap (λ xs. length xs - 1) c.as_slice-2.ensures.items)
