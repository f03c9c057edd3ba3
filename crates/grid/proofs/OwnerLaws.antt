-- Who owns a box, of every graph that is drawn: a given node its own, a cut's box the given node that it shows; 255 stands for a lead's.
-- Assumes nothing.
use Prim.Native.Nat.{ℕ, zero, suc, ◌+◌, ◌*◌, ◌≤◌, ◌<◌}
use native.Mathlib.Omega.{arith}
use mathlib.Core.Path.{◌≡◌, refl, ap, sym, ◌∙◌}
use mathlib.Core.Bool.{Bool, true, false}
use mathlib.Core.List.{List, [], ◌∷◌, ◌++◌, map, append-nil}
use lib.Dec.{ltb}
use lib.ListN.{length, get_or}
use borrow.Author.Tests.{ltb-true, ltb-false}
use Rattle.laws.specs.Lists.{one}
use Rattle.chart.specs.declared.Line.{Line as LineItem}
use Rattle.chart.specs.declared.Setting.{Setting}
use Rattle.chart.specs.Chart.{Part, Board}
use Rattle.chart.specs.code.Filled.{owned_lines}
use Rattle.graph.specs.declared.Name.{Name}
use Rattle.graph.specs.declared.Name.TheVariants.{Nothing}
use Rattle.graph.specs.Graph.{Line, given, number, Node, Graph, given_graph, node_at}
use Rattle.graph.specs.Joining.{leads_of}
use Rattle.graph.specs.Graphed.{Dag}
use Rattle.graph.specs.Laws.{Named, Laws}
use Rattle.graph.specs.code.Tables.{name_line, lines_at}
use Rattle.grid.specs.RenderGrid.{owner_in}

-- given lines say nothing of the owner
owner-past : (k : ℕ) (ts : List Part) (ls : List Line) → owner_in k (map given ts ++ ls) ≡ owner_in k ls
owner-past k [] ls = refl
owner-past k (t ∷ ts) ls = owner-past k ts ls

-- the owner by the name that the tables hold
pub owner-held : (ts : List LineItem) (names : List Name) (k : ℕ) → owner_in k (name_line (get_or names k Nothing)) ≡ owner_in k (lines_at ts names k)
owner-held ts names k = sym (owner-past k (owned_lines k ts) (name_line (get_or names k Nothing)))

-- the lines of a graph, by whose box it is
pub record Owners (n leads cuts : ℕ) (g : Graph) : Type 0 where
  pub given : (k : ℕ) → k < n → owner_in k (node_at g k).lines ≡ k
  pub lead : (k : ℕ) → n ≤ k → k < n + leads → owner_in k (node_at g k).lines ≡ 255
  pub cut : (k : ℕ) → n + leads ≤ k → k < length g → (owner_in k (node_at g k).lines < n) × ((node_at g k).lines ≡ one (number (owner_in k (node_at g k).lines)))
  pub halves : (j : ℕ) → j < cuts → owner_in (n + leads + 2 * j) (node_at g (n + leads + 2 * j)).lines ≡ owner_in (n + leads + 2 * j + 1) (node_at g (n + leads + 2 * j + 1)).lines

pub owners-inside : (n leads cuts : ℕ) (g : Graph) → Owners n leads cuts g → (k : ℕ) → k < length g → (owner_in k (node_at g k).lines ≡ 255 → ⊥) → owner_in k (node_at g k).lines < n
owners-inside n leads cuts g o k h e = go (ltb k n) refl (ltb k (n + leads)) refl
  where
    go : (b : Bool) → ltb k n ≡ b → (c : Bool) → ltb k (n + leads) ≡ c → owner_in k (node_at g k).lines < n
    go true i c j = omega (arith, o.given k (ltb-true k n i), ltb-true k n i)
    go false i true j = absurd (e (o.lead k (ltb-false k n i) (ltb-true k (n + leads) j)))
    go false i false j = (o.cut k (ltb-false k (n + leads) j) h).0

given-owner : (k j : ℕ) (ps : Board) → owner_in k (node_at (given_graph ps) j).lines ≡ k
given-owner k j [] = refl
given-owner k zero (p ∷ ps) = ap (owner_in k) (sym (append-nil (map given p.lines))) ∙ owner-past k p.lines []
given-owner k (suc j) (p ∷ ps) = given-owner k j ps

module _ (v : Setting) (s : List ℕ) (d : Dag) (laws : Laws v s d) where
  abbrev n : ℕ
  n = length laws.board

  abbrev m : ℕ
  m = n + leads_of laws.board

  abbrev ls : ℕ → List Line
  ls k = (node_at d.graph k).lines

  shown : (k : ℕ) → m ≤ k → k < length d.graph → (owner_in k (ls k) < n) × (ls k ≡ one (number (owner_in k (ls k))))
  shown k l h = let q : Named n (ls k) = laws.inserted k l h in rw q.line (q.inside, refl)

  pub graph-owners : Owners n (leads_of laws.board) d.cuts d.graph
  graph-owners =
      record {
        given = λ k h. ap (owner_in k) (laws.lines k h) ∙ given-owner k k laws.board;
        lead = λ k l h. ap (λ (x : Node). owner_in k x.lines) (laws.kept k l h) ∙ ap (owner_in k) (laws.joined k l h).line;
        cut = shown;
        halves = λ j h.
            let q : Named n (ls (m + 2 * j)) = laws.inserted (m + 2 * j) (omega arith) (omega (arith, laws.nodes)) in
            ap (owner_in (m + 2 * j)) q.line ∙ sym (ap (owner_in (m + 2 * j + 1)) (sym (laws.halves j h) ∙ q.line));
      }
