-- `label::label_at`: what `nth` gives of the three lists, one after the other.
-- Assumes nothing.
use Rattle.std.proofs.Common.{rules, tests, ◌∙◌, ◌+◌, ◌-◌, sym}
use Rattle.std.proofs.lemmas.Iterator.Adapters.{option_map_id}
use Rattle.std.proofs.lemmas.Iterator.Consumers.{YieldsList-from_first, YieldsList-from_filter_map, YieldsList-from_chain, YieldsList-at, nth_from_yields_List}
use Rattle.grid.specs.declared.LabelPlace.{LabelPlace}
use Rattle.grid.specs.declared.render_node.row.End.{End}
use Rattle.grid.specs.code.Sited.{end_place}
use Rattle.grid.specs.code.Row.{ends_left}
use Rattle.grid.specs.code.LineLabels.{labels_left}
use Rattle.grid.proofs.LabelLaws.{labels-are}
use Rattle.grid.proofs.label.label_at.Goals as goal

pub returns : goal.returns
returns c =
    let a = c.args in
    let v = c.node_of-node.result in
    sym (option_map_id c.nth.result)
    ∙ nth_from_yields_List c.nth.result c.nth.new.self _ c.nth.ensures.ran
    (YieldsList-from_chain
    (YieldsList-at c.chain-2.ensures.first
    (YieldsList-from_chain
    (YieldsList-at c.chain.ensures.first
    (YieldsList-from_filter_map _ (end_place (v.inputs.y + 256 - 48 + a.y)) (YieldsList-at c.filter_map-sources.ensures.source (YieldsList-from_first (λ (e : End). e) ends_left _ c.ends.ensures)) c.filter_map-sources.ensures.closure (λ x r q k. search (rules, tests))))
    (YieldsList-at c.chain.ensures.second (YieldsList-from_first (λ (p : LabelPlace). p) labels_left _ c.new-lines.ensures)) c.chain.ensures.first_done c.chain.ensures.second_done))
    (YieldsList-at c.chain-2.ensures.second
    (YieldsList-from_filter_map _ (end_place (v.outputs.y - 48 + a.y)) (YieldsList-at c.filter_map-sinks.ensures.source (YieldsList-from_first (λ (e : End). e) ends_left _ c.ends-2.ensures)) c.filter_map-sinks.ensures.closure (λ x r q k. search (rules, tests))))
    c.chain-2.ensures.first_done c.chain-2.ensures.second_done)
    ∙ sym (labels-are a.g.now a.p c.requires.p_lt_n a.x a.y a.i v c.node_of-node.ensures.0)
