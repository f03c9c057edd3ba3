-- Document 02, L5: 'After completion and before cutting, nodes rising, each such sink of a node and then each such source of it gets its own
-- new box joined to it.' Such an end is one whose target isn't below n, the number of given nodes: 'Targets are judged against the given n alone'.
-- Assumes nothing.
use Rattle.std.specs.Prelude.{ℕ, suc, ◌+◌, cond, List, [], ◌∷◌, ◌++◌, ltb, length, set}
use Rattle.std.proofs.Math.Option.{none, some}
use Rattle.laws.specs.Each.{each}
use Rattle.laws.specs.Lists.{one}
use Rattle.chart.specs.Chart.{Board}
use Rattle.graph.specs.Graph.{Edge, Node, Graph, invalid, no_text, given_graph, node_at, with_sources, with_sinks}
use Rattle.graph.specs.Completion.{complete}
use Rattle.graph.specs.Cutting.{pointed}

-- how many of the edges lead to none of the first n nodes
abbrev pub outside : ℕ → List Edge → ℕ
outside n [] = 0
outside n (e ∷ es) = cond (ltb e.to n) (outside n es) (suc (outside n es))

-- the leads to nothing: the sinks and the sources that lead to none of the first n nodes
abbrev pub leads : ℕ → Graph → ℕ
leads n [] = 0
leads n (x ∷ g) = outside n x.sinks + outside n x.sources + leads n g

-- those of a board
abbrev pub leads_of : Board → ℕ
leads_of ps = leads (length ps) (given_graph ps)

-- 'The box of sink i has one source, mark i'; 'the box's line is the target's Debug text and `(invalid)`'
abbrev pub sink_box : ℕ → ℕ → ℕ → Node
sink_box p i t = record { sources = one (record { to = p; mark = some i; text = no_text }); lines = one (invalid t); sinks = [] }

-- 'the box of a source has one sink'
abbrev pub source_box : ℕ → ℕ → Node
source_box p t = record { sources = []; lines = one (invalid t); sinks = one (record { to = p; mark = none; text = no_text }) }

-- Sink i of p, which is e: 'its own new box joined to it'. 'An inserted node takes the next number'; the sink keeps its text.
abbrev pub join_sink : ℕ → Graph → ℕ → ℕ → Edge → Graph
join_sink n g p i e = cond (ltb e.to n) g (with_sinks g p (set (node_at g p).sinks i (pointed (length g) e)) ++ one (sink_box p i e.to))

-- source j of p, which is e: it keeps its text, and 'that source stays unmarked'
abbrev pub join_source : ℕ → Graph → ℕ → ℕ → Edge → Graph
join_source n g p j e = cond (ltb e.to n) g (with_sources g p (set (node_at g p).sources j (pointed (length g) e)) ++ one (source_box p e.to))

-- the sinks of p, the first of them number i
abbrev pub join_sinks : ℕ → Graph → ℕ → ℕ → List Edge → Graph
join_sinks n g p i [] = g
join_sinks n g p i (e ∷ es) = join_sinks n (join_sink n g p i e) p (suc i) es

-- the sources of p, the first of them number j
abbrev pub join_sources : ℕ → Graph → ℕ → ℕ → List Edge → Graph
join_sources n g p j [] = g
join_sources n g p j (e ∷ es) = join_sources n (join_source n g p j e) p (suc j) es

-- node p: 'each such sink of a node and then each such source of it'
abbrev pub join_node : ℕ → Graph → ℕ → Graph
join_node n g p =
    let h = join_sinks n g p 0 (node_at g p).sinks in
    join_sources n h p 0 (node_at h p).sources

-- 'nodes rising'
unfoldable pub joined : ℕ → Graph → Graph
unfolding each
joined n g = each g (λ p h. join_node n h p) n

-- the graph of a board, completed and joined, before any cut
unfoldable pub uncut : Board → Graph
unfolding complete joined
uncut ps = joined (length ps) (complete (given_graph ps))
