-- What `signal_order` answers, every field of it.
-- Assumes nothing.
use Rattle.std.specs.Prelude.{ℕ, List, Result, Ok, Err, length}
use Rattle.laws.specs.Lists.{padded}
use Rattle.tables.specs.declared.Table.{Table}
use Rattle.refusals.specs.declared.Numbers.{Numbers}
use Rattle.refusals.specs.Refusals.{numbers, numbers_of}
use Rattle.signal.specs.declared.NoOrder.{NoOrder}
use Rattle.signal.specs.declared.NoOrder.TheVariants.{Refused, Cycle}
use Rattle.signal.specs.Signal.{Signalled, ordered, cyclic, refusal}

-- nodes in fixed memory, and 0 past them
abbrev pub Nodes : Type 0
Nodes = Table ℕ 32

abbrev pub nodes_held : List ℕ → Nodes
nodes_held ns = record { items = padded 32 0 ns; count = length ns }

abbrev pub answer_of : Signalled → Result Nodes NoOrder
answer_of (ordered os) = Ok (nodes_held os)
answer_of (cyclic cs) = Err (Cycle (nodes_held cs))
answer_of (refusal why) = Err (Refused why)

-- '20, the graph has a cycle, after 12 and in this operation only'
abbrev pub no_order_numbers : NoOrder → Numbers
no_order_numbers (Refused why) = numbers_of why
no_order_numbers (Cycle cs) = numbers 20 0

-- the two numbers that an answer states: 0 0 of an order
abbrev pub numbers_in : Result Nodes NoOrder → Numbers
numbers_in (Ok t) = numbers 0 0
numbers_in (Err why) = no_order_numbers why
