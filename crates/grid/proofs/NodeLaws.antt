-- A node's numbers, from those of its ends and its lines.
-- Assumes nothing.
use Prim.Native.Nat.{ℕ, suc, ◌+◌, ◌-◌, ◌*◌, ◌/◌, ◌≤◌, ◌<◌}
use native.Mathlib.Omega.{arith}
use native.Mathlib.Nat.{div-le_self}
use mathlib.Core.Path.{◌≡◌, refl, ap, ◌∙◌}
use mathlib.Core.Bool.{Bool, true, false, cond}
use mathlib.Core.List.{List, [], ◌∷◌}
use lib.Dec.{eqb, ltb}
use lib.ListN.{length}
use borrow.Author.Tests.{ne_eqb, le-ltb}
use Rattle.chart.specs.code.Filled.{lines_of as texts_of}
use Rattle.laws.proofs.Lists.{get_d_tabulate, length-tabulate}
use Rattle.graph.specs.declared.Tables.{Tables}
use Rattle.graph.specs.Graph.{Edge, Line, Node, node_at}
use Rattle.graph.specs.code.Tables.{owned, items_of, lines_at, lines_of, graph_of, graph_from, node_of}
use Rattle.graph.proofs.Lists.{node-graph}
use Rattle.grid.specs.RenderNode.{separation, first_x, lines_height}
use Rattle.grid.specs.code.Rendered.{ends_of, center_of, gap_from, first_from, lines_from, text_from, empty_from, render_of, render_from}

cond_le : (t : Bool) (a b m : ℕ) → a ≤ m → b ≤ m → cond t a b ≤ m
cond_le true a b m h l = h
cond_le false a b m h l = l

pub text_le : (b : ℕ) → text_from b ≤ 256
text_le b = cond_le (ltb 0 b) 256 0 256 (omega arith) (omega arith)

pub empty_le : (w : ℕ) → empty_from w ≤ 128
empty_le w = cond_le (eqb w 128) 128 0 128 (omega arith) (omega arith)

pub lines_le : (m : ℕ) → m ≤ 255 → lines_from m ≤ 163200
lines_le m h = cond_le (eqb m 0) 0 (640 * m - 128) 163200 (omega arith) (omega arith)

pub gap_le : (free m : ℕ) → gap_from free m ≤ free
gap_le free m = cond_le (ltb m 2) (free / 2) (free / (m - 1)) free (div-le_self free 2) (div-le_self free (m - 1))

pub first_le : (gap m : ℕ) → first_from gap m ≤ 128 + gap
first_le gap m = cond_le (eqb m 1) (128 + gap) 128 (128 + gap) (omega arith) (omega arith)

pub separation-is : (free : ℕ) (es : List Edge) → separation free es ≡ gap_from free (length es)
separation-is free [] = refl
separation-is free (e ∷ []) = refl
separation-is free (e ∷ f ∷ es) = let e : suc (length es) ≡ suc (suc (length es)) - 1 = omega arith in rw (le-ltb (suc (suc (length es))) 2 (omega arith)) (ap (λ (d : ℕ). free / d) e)

pub first-is : (gap : ℕ) (es : List Edge) → first_x gap es ≡ first_from gap (length es)
first-is gap [] = refl
first-is gap (e ∷ []) = refl
first-is gap (e ∷ f ∷ es) = rw (ne_eqb (suc (suc (length es))) 1 (λ (q : suc (suc (length es)) ≡ 1). omega arith))

pub lines-is : (ls : List Line) → lines_height ls ≡ lines_from (length ls)
lines-is [] = refl
lines-is (l ∷ ls) = rw (ne_eqb (suc (length ls)) 0 (λ (q : suc (length ls) ≡ 0). omega arith)) (omega arith)

pub render_is : (n : Node) → render_from (ends_of n.sources) (center_of n.lines) (ends_of n.sinks) ≡ render_of n
unfolding render_from render_of
render_is n =
    simp (separation-is, first-is, lines-is)

-- node p of the tables
pub node-is : (g : Tables) (p : ℕ) → p < g.n →
    node_at (graph_of g) p
    ≡ record { sources = owned p (items_of g.sources); lines = lines_at (texts_of g.lines) g.names p; sinks = owned p (items_of g.sinks) }
node-is g p h =
    node-graph g.n (lines_of g) (items_of g.sources) (items_of g.sinks) p h
    ∙ ap (λ (ls : List Line). record { sources = owned p (items_of g.sources); lines = ls; sinks = owned p (items_of g.sinks) })
    (get_d_tabulate (lines_at (texts_of g.lines) g.names) 0 g.n p [] h ∙ ap (lines_at (texts_of g.lines) g.names) (omega arith))

-- the numbers of node p of the tables, from those of its ends and its lines
pub rendered_is : (g : Tables) (p : ℕ) → p < g.n →
    render_from (ends_of (owned p (items_of g.sources))) (center_of (lines_at (texts_of g.lines) g.names p)) (ends_of (owned p (items_of g.sinks)))
    ≡ render_of (node_at (graph_of g) p)
rendered_is g p h = rw (node-is g p h) (render_is _)

-- the graph has n nodes
pub graph_long : (g : Tables) → length (graph_of g) ≡ g.n
unfolding graph_from
graph_long g = length-tabulate (node_of (lines_of g) (items_of g.sources) (items_of g.sinks)) 0 g.n
