-- Document 01, module 3: what roots reach, and the cutting of cycles that no root reaches.
-- Assumes nothing.
use Rattle.std.specs.Prelude.{ℕ, zero, suc, Bool, true, false, cond, List, [], ◌∷◌, ◌++◌, map, eqb, get_or, set, length, replicate}
use Rattle.std.proofs.Math.Option.{none, some}
use Rattle.laws.specs.Each.{each}
use Rattle.laws.specs.Lists.{one}
use Rattle.graph.specs.declared.reach.Seen.{Seen}
use Rattle.graph.specs.declared.reach.Seen.TheVariants.{Unseen, Marked, OnPath, Explored}
use Rattle.graph.specs.Graph.{Edge, Node, Graph, number, no_text, no_edge, none?, node_at, degree, with_sources, with_sinks}

-- how node p stands in the walks; no node past the end is unseen or on the path
abbrev pub seen_at : List Seen → ℕ → Seen
seen_at v p = get_or v p Explored

abbrev pub unseen? : Seen → Bool
unseen? Unseen = true
unseen? Marked = false
unseen? OnPath = false
unseen? Explored = false

abbrev pub on_path? : Seen → Bool
on_path? Unseen = false
on_path? Marked = false
on_path? OnPath = true
on_path? Explored = false

-- Walk depth-first through the sinks es, marking each node not yet marked before its own sinks are gone through.
-- `go` is the walk from one node.
abbrev pub mark_sinks : (List Seen → ℕ → List Seen) → List Seen → List Edge → List Seen
mark_sinks go v [] = v
mark_sinks go v (e ∷ es) = mark_sinks go (go v e.to) es

-- the walk from node p: d is the number of nodes that the path may still have
abbrev pub mark_from : ℕ → Graph → List Seen → ℕ → List Seen
mark_from zero g v p = v
mark_from (suc d) g v p =
    cond (unseen? (seen_at v p)) (mark_sinks (λ w q. mark_from d g w q) (set v p Marked) (node_at g p).sinks) v

-- 'A root has no sources.'
abbrev pub is_root : Node → Bool
is_root n = none? n.sources

-- node p: the walk from it, if it is a root
abbrev pub mark_root : ℕ → Graph → ℕ → List Seen → List Seen
mark_root d g p v = cond (is_root (node_at g p)) (mark_from d g v p) v

-- 'A depth-first walk through sinks marks all that roots reach.'
unfoldable pub reached : Graph → List Seen
unfolding each
reached g = each (replicate (length g) Unseen) (mark_root (length g) g) (length g)

-- the graph so far, how each node stands, and the cuts so far
pub record Walk : Type 0 where
  pub graph : Graph
  pub seen : List Seen
  pub cuts : ℕ

-- 'every source of q with target c becomes (second node, mark 0)'; 'a source that is turned keeps its text'
abbrev pub turned : ℕ → ℕ → Edge → Edge
turned c to e = cond (eqb e.to c) (record { to = to; mark = some 0; text = e.text }) e

-- 'point the sink at it'; 'a sink that is turned keeps its text'
abbrev pub pointed : ℕ → Edge → Edge
pointed to e = record { to = to; mark = e.mark; text = e.text }

-- 'insert a node (one source: c, mark s; one line: q's Debug text)'
abbrev pub first_node : ℕ → ℕ → ℕ → Node
first_node c s q = record { sources = one (record { to = c; mark = some s; text = no_text }); lines = one (number q); sinks = [] }

-- 'insert a second (one sink to q; the same line)'
abbrev pub second_node : ℕ → Node
second_node q = record { sources = []; lines = one (number q); sinks = one (record { to = q; mark = none; text = no_text }) }

-- 'A sink, number s, of node c to a node q on the path is cut: insert a node .., point the sink at it; insert a second ..;
-- every source of q with target c becomes (second node, mark 0).' 'An inserted node takes the next number.'
abbrev pub cut_graph : Graph → ℕ → ℕ → Edge → Graph
cut_graph g c s e =
    let q = e.to in
    let a = length g in
    let g₁ = with_sinks g c (set (node_at g c).sinks s (pointed a e)) in
    let g₂ = with_sources g₁ q (map (turned c (suc a)) (node_at g₁ q).sources) in
    g₂ ++ (first_node c s q ∷ second_node q ∷ [])

-- 'Each such event is one cut'; the walk does not go on from the two nodes
abbrev pub cut : Walk → ℕ → ℕ → Edge → Walk
cut w c s e = record { graph = cut_graph w.graph c s e; seen = w.seen ++ (Explored ∷ Explored ∷ []); cuts = suc w.cuts }

-- the walk with node p seen as x
abbrev pub seeing : Walk → ℕ → Seen → Walk
seeing w p x = record { graph = w.graph; seen = set w.seen p x; cuts = w.cuts }

-- Look at sink s of c: walk on from the node that it leads to, cut, or pass over it. `go` is the walk from one node.
-- 'walk .. on unmarked and unexplored nodes only; a sink to any other node off the path is passed over. A sink .. to a node q on the
-- path is cut'. 'The same sink is then looked at again': after a cut it leads to an inserted node and is passed over.
abbrev pub look : (Walk → ℕ → Walk) → Walk → ℕ → ℕ → Walk
look go w c s =
    let e = get_or (node_at w.graph c).sinks s no_edge in
    let x = seen_at w.seen e.to in
    cond (unseen? x) (go w e.to) (cond (on_path? x) (cut w c s e) w)

-- k sinks of c, the first of them number s
abbrev pub explore_sinks : (Walk → ℕ → Walk) → Walk → ℕ → ℕ → ℕ → Walk
explore_sinks go w c s zero = w
explore_sinks go w c s (suc k) = explore_sinks go (look go w c s) c (suc s) k

-- the walk from the node c, that is unseen: it is on the path while its sinks are gone through, and explored after them;
-- d is the number of nodes that the path may still have
abbrev pub explore_from : ℕ → Walk → ℕ → Walk
explore_from zero w c = w
explore_from (suc d) w c = seeing (explore_sinks (λ u q. explore_from d u q) (seeing w c OnPath) c 0 (degree w.graph c)) c Explored

-- 'Only nodes left unmarked are starts', 'each start unexplored'
abbrev pub start : ℕ → ℕ → Walk → Walk
start d p w = cond (unseen? (seen_at w.seen p)) (explore_from d w p) w

-- before the first start
abbrev pub beginning : Graph → Walk
beginning g = record { graph = g; seen = reached g; cuts = 0 }

-- the starts 'rising'; 'the sheet's count of cuts is their number over all starts'
unfoldable pub cutting : Graph → Walk
unfolding reached each
cutting g = each (beginning g) (start (length g)) (length g)
