-- `lay_out`: each stage's answer is what the next one asks.
-- Assumes nothing.
use Rattle.std.proofs.Common.{ap, ◌∙◌}
use Rattle.grid.specs.RenderGrid.{Sheet}
use Rattle.grid.specs.Curves.{record_of}
use Rattle.grid.proofs.Sheets.{from-linked, to-linked, held-nodes, rows_inside, rows_bounded, cols_bounded, laid-is}
use Rattle.grid.proofs.lay_out.Goals as goal

pub leads_of-leads-requires : goal.leads_of-leads-requires
leads_of-leads-requires c =
    let d = c.ends_of-sources.ensures in
    let e = c.ends_of-sinks.ensures in
    (from-linked c.args.g.now c.requires.seated _ _ d e, to-linked c.args.g.now c.requires.seated _ _ d e)

pub columns-requires-clause-rows : goal.columns-requires-clause-rows
columns-requires-clause-rows c =
    let h = c.heights-rows in
    rows_inside c.args.g.now c.requires.seated _ _ c.ends_of-sources.ensures c.ends_of-sinks.ensures _ c.leads_of-leads.ensures h.result h.ensures

pub columns-requires-clause-first : goal.columns-requires-clause-first
columns-requires-clause-first c =
    let h = c.heights-rows in
    let n = held-nodes c.args.g.now c.requires.seated _ _ c.ends_of-sources.ensures c.ends_of-sinks.ensures _ c.leads_of-leads.ensures h.result h.ensures in
    rw n c.requires.first_columns

pub laid-requires-clause-bounded : goal.laid-requires-clause-bounded
laid-requires-clause-bounded c =
    let h = c.heights-rows in
    rows_bounded c.args.g.now c.requires.seated _ _ c.ends_of-sources.ensures c.ends_of-sinks.ensures _ c.leads_of-leads.ensures h.result h.ensures

pub laid-requires-clause-bounded_2 : goal.laid-requires-clause-bounded_2
laid-requires-clause-bounded_2 c =
    let h = c.heights-rows in
    let k = c.columns in
    cols_bounded c.args.g.now c.requires.seated _ _ c.ends_of-sources.ensures c.ends_of-sinks.ensures _ c.leads_of-leads.ensures h.result h.ensures c.args.first.now.items c.requires.first_columns k.new.cols k.ensures

pub returns : goal.returns
returns c =
    let h = c.heights-rows in
    let k = c.columns in
    c.laid.ensures
    ∙ ap (λ (sh : Sheet). record_of sh c.args.x c.args.y)
    (laid-is c.args.g.now c.requires.seated _ _ c.ends_of-sources.ensures c.ends_of-sinks.ensures _ c.leads_of-leads.ensures h.result h.ensures c.args.first.now.items c.requires.first_columns k.new.cols k.ensures)
