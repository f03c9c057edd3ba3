-- The sources, or the sinks, of all nodes in fixed memory: their records, and where they lead alone.
-- Assumes nothing.
use Rattle.tables.specs.declared.Table.{Table}
use Rattle.graph.specs.declared.Item.{Item}
use Rattle.graph.specs.declared.Lead.{Lead}

abbrev pub Items : Type 0
Items = Table Item 88

abbrev pub Ends : Type 0
Ends = Table Lead 88
