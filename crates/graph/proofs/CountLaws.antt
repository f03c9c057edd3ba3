-- How many sources and how many cuts a drawn graph has at most, beyond `Laws`.
-- Assumes nothing.
use Prim.Native.Nat.{ℕ, zero, suc, ◌+◌, ◌≤◌}
use native.Mathlib.Omega.{arith}
use mathlib.Core.Path.{◌≡◌, refl, ap}
use mathlib.Core.List.{List, [], ◌∷◌}
use lib.ListN.{length}
use Rattle.laws.specs.Each.{each}
use Rattle.chart.specs.declared.Setting.{Setting}
use Rattle.chart.specs.Chart.{Board}
use Rattle.chart.specs.Accepted.{Accepted}
use Rattle.chart.proofs.Accepts.{accepted}
use Rattle.graph.specs.Graph.{Node}
use Rattle.graph.specs.Completion.{complete}
use Rattle.graph.specs.Joining.{joined, uncut}
use Rattle.graph.specs.Cutting.{cutting}
use Rattle.graph.specs.Graphed.{Dag}
use Rattle.graph.specs.Laws.{ends, Laws}
use Rattle.graph.proofs.RoomLaws.{cutting-ends}
use Rattle.graph.proofs.Uncut.{uncut-sources}

-- nothing is cut in an empty chart
no-cuts : (ps : Board) → length ps ≡ 0 → (cutting (uncut ps)).cuts ≡ 0
unfolding complete joined uncut cutting each
no-cuts [] e = refl
no-cuts (p ∷ ps) e = absurd (omega arith)

module _ (w : Setting) (s : List ℕ) (d : Dag) (laws : Laws w s d) where
  abbrev ps : Board
  ps = laws.board

  a : Accepted w s ps
  a = accepted w s ps laws.read

  -- completion and the boxes of the leads leave at most 64 sources, and each cut adds one
  pub sources-most : ends (λ (x : Node). x.sources) d.graph ≤ 64 + d.cuts
  sources-most =
      omega (
        arith,
        uncut-sources ps 64 a.ends,
        (cutting-ends (uncut ps)).0,
        ap (λ (x : Dag). ends (λ (y : Node). y.sources) x.graph) laws.walk,
        ap (λ (x : Dag). x.cuts) laws.walk,
      )

  -- two nodes a cut, and one given at least where there is any: 23 of them make 47 boxes or 48
  pub cuts-most : d.cuts ≤ 23
  cuts-most = go (length ps) refl
    where
      go : (k : ℕ) → length ps ≡ k → d.cuts ≤ 23
      go zero e = omega (arith, no-cuts ps e, ap (λ (x : Dag). x.cuts) laws.walk)
      go (suc k) e = omega (arith, laws.nodes, laws.boxes)
