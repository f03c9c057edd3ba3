-- `judge::outside_at`: the sinks, or else the sources.
-- Assumes nothing.
use Rattle.std.proofs.Common.{rules, sym, ◌∙◌, ap, List}
use Rattle.chart.specs.declared.Item.{Item}
use Rattle.chart.specs.Chart.{targets, first_outside}
use Rattle.chart.specs.code.Filled.{owned, items_of}
use Rattle.chart.proofs.Targets.{or_else, or-else-is, first-append}
use Rattle.chart.proofs.judge.outside_at.Goals as goal

pub returns : goal.returns
returns c =
    let a = c.args in
    let of = λ (xs : List Item). first_outside (targets (owned a.p xs)) a.board.now.n in
    let first = c.outside_of.ensures ∙ ap of c.as_slice.ensures.items in
    or-else-is c.outside_of.result c.or_else.result (of (items_of a.board.now.sources)) _ c.or_else.ensures (λ m. search (rules))
    ∙ ap (λ o. or_else o (of (items_of a.board.now.sources))) first
    ∙ sym (first-append (targets (owned a.p (items_of a.board.now.sinks))) (targets (owned a.p (items_of a.board.now.sources))) a.board.now.n)
