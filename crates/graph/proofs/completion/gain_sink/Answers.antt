-- `completion::gain_sink`: the answer of `leads_to` picks the tables, by the laws of `Sinks`.
-- Assumes nothing.
use Rattle.std.proofs.Common.{◌≡◌, ◌≤◌, ◌<◌, ◌+◌, refl, sym, ◌∙◌, arith, List, length, get_or}
use Rattle.graph.specs.declared.Item.{Item}
use Rattle.graph.specs.Outcome.{no_item}
use Rattle.graph.specs.code.Tables.{items_of, mark_item, sink_of, owned}
use Rattle.graph.proofs.Lists.{table_le, pushed-is, stored-is}
use Rattle.graph.proofs.Cuts.{owned_le}
use Rattle.graph.proofs.Sinks.{sink-kept, sink_out, sink-gained}
use Rattle.graph.proofs.completion.gain_sink.Goals as goal
use Rattle.graph.proofs.completion.gain_sink.Goals.{After-count_owned-number}

pub returns-then-t-e : goal.returns-then-t-e
returns-then-t-e c =
    let r = c.requires in
    sink_out c.args.t.now r.owned c.args.k r.k_lt_count (omega (arith, rw c.as_slice.ensures.items at c.if-t-e.true))

pub returns-then-leads_to : goal.returns-then-leads_to
returns-then-leads_to c =
    let r = c.requires in
    let xs = c.as_slice.ensures.items in
    sink-kept c.args.t.now r.owned c.args.k r.k_lt_count (omega (arith, rw xs at c.if-t-e.false))
    (rw (xs, c.as_slice-2.ensures.items) at (sym c.leads_to.ensures ∙ c.if-leads_to.true))

-- the record, the sinks of its node, and how many they are
module _ (c : After-count_owned-number) where
  abbrev x : Item
  x = get_or (items_of c.args.t.now.sources) c.args.k no_item

  abbrev ys : List Item
  ys = items_of c.args.t.now.sinks

  counted : c.count_owned-number.result ≡ length (owned x.to ys)
  counted = rw (c.as_slice.ensures.items, c.as_slice-3.ensures.items) at c.count_owned-number.ensures

  few : c.count_owned-number.result ≤ 88
  few = omega (arith, counted, owned_le x.to ys, table_le c.args.t.now.sinks, c.requires.owned.sink_room)

pub overflow_cast-number : goal.overflow_cast-number
overflow_cast-number c = omega (arith, few c)

pub marked-requires : goal.marked-requires
marked-requires c = omega (arith, few (goal.at.marked-requires c).After-count_owned-number)

pub returns : goal.returns
returns c =
    let r = c.requires in
    let t = c.args.t.now in
    let xs = c.as_slice.ensures.items in
    let at = (goal.at.returns c).After-count_owned-number in
    let h : c.args.k < t.sources.count = omega (arith, r.k_lt_count, table_le t.sources) in
    rw c.marked.ensures
    (sink-gained t r.owned c.args.k r.k_lt_count (omega (arith, rw xs at c.if-t-e.false)) r.count_bound
    (rw (xs, c.as_slice-2.ensures.items) at (sym c.leads_to.ensures ∙ c.if-leads_to.false))
    c.count_owned-number.result (counted at) _ c.push.new.self
    (stored-is t.sources c.as_slice.ensures.long r.owned.source_room c.args.k h (mark_item (c.count_owned-number.result + 1)), refl)
    (pushed-is t.sinks c.push.ensures.long r.owned.sink_room r.count_bound (sink_of (x at).owner (x at).to) c.push.result c.push.ensures.room c.push.new.self (rw (c.sink_of.ensures, xs) at c.push.ensures.table)))
