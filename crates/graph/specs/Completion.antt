-- Document 01, module 2: edge completion. An end whose target isn't a node of the graph is passed over.
-- Assumes nothing.
use Rattle.std.specs.Prelude.{ℕ, suc, cond, List, [], ◌∷◌, ◌++◌, ltb, set, length}
use Rattle.std.proofs.Math.Option.{none, some}
use Rattle.laws.specs.Each.{each}
use Rattle.laws.specs.Lists.{one}
use Rattle.graph.specs.Graph.{Edge, Graph, no_text, node_at, leads_to, has_marked, with_sources, with_sinks}

-- 'For node p, each sink i to q: if no source of q has target p and mark i, q gains a source (p, mark i, no text).'
abbrev pub gain_source : Graph → ℕ → ℕ → ℕ → Graph
gain_source g p i q =
    let es = (node_at g q).sources in
    cond (has_marked es p i) g (with_sources g q (es ++ one (record { to = p; mark = some i; text = no_text })))

-- the sinks of p, the first of them number i
abbrev pub complete_sinks : Graph → ℕ → ℕ → List Edge → Graph
complete_sinks g p i [] = g
complete_sinks g p i (e ∷ es) = complete_sinks (cond (ltb e.to (length g)) (gain_source g p i e.to) g) p (suc i) es

-- the edge with another mark
abbrev pub marked : ℕ → Edge → Edge
marked i e = record { to = e.to; mark = some i; text = e.text }

-- 'Then each source j of p, from q: if q has no sink to p, that source's mark becomes the number of q's new last sink, to p, no text.'
abbrev pub gain_sink : Graph → ℕ → ℕ → Edge → Graph
gain_sink g p j e =
    let es = (node_at g e.to).sinks in
    let h = with_sinks g e.to (es ++ one (record { to = p; mark = none; text = no_text })) in
    cond (leads_to es p) g (with_sources h p (set (node_at h p).sources j (marked (length es) e)))

-- the sources of p, the first of them number j
abbrev pub complete_sources : Graph → ℕ → ℕ → List Edge → Graph
complete_sources g p j [] = g
complete_sources g p j (e ∷ es) = complete_sources (cond (ltb e.to (length g)) (gain_sink g p j e) g) p (suc j) es

-- node p: its sinks, then the sources that it has by then
abbrev pub complete_node : Graph → ℕ → Graph
complete_node g p =
    let h = complete_sinks g p 0 (node_at g p).sinks in
    complete_sources h p 0 (node_at h p).sources

-- 'Nodes rise.'
unfoldable pub complete : Graph → Graph
unfolding each
complete g = each g (λ p h. complete_node h p) (length g)
