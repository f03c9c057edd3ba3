-- The two settings of a sheet and of a label: one answer, or 12.
-- Assumes nothing.
use Prim.Native.Nat.{ℕ}
use mathlib.Core.Path.{◌≡◌, ap}
use mathlib.Core.Logic.{◌⊎◌, inl, inr}
use mathlib.Core.List.{List}
use Rattle.chart.specs.declared.Setting.TheVariants.{Default, Strict}
use Rattle.chart.specs.Chart.{Board, ready as accepted, chart}
use Rattle.chart.specs.Settings.{Outside}
use Rattle.graph.specs.Joining.{leads_of}
use Rattle.graph.specs.Graphed.{graphed}
use Rattle.graph.proofs.Settings.{graph-settings, graph_twelve, no-leads}
use Rattle.refusals.specs.declared.Refusal.{Refusal}
use Rattle.grid.specs.Sheeted.{refusal, drawn, sheeted}
use Rattle.grid.specs.Labelled.{refusal as unlabelled, label_on, labelled}

module _ (s : List ℕ) (x y : ℕ) where
  -- both settings draw the same sheet, or strict refuses by 12 the first target that isn't below n
  pub sheet-settings : (sheeted Strict s x y ≡ sheeted Default s x y) ⊎ Outside s
  unfolding sheeted
  sheet-settings = go (graph-settings s)
    where
      go : (graphed Strict s ≡ graphed Default s) ⊎ Outside s → (drawn x y (graphed Strict s) ≡ drawn x y (graphed Default s)) ⊎ Outside s
      go (inl e) = inl (ap (drawn x y) e)
      go (inr o) = inr o

  pub sheet_twelve : (o : Outside s) → sheeted Strict s x y ≡ refusal (Refusal.Outside o.target)
  unfolding sheeted
  sheet_twelve o = ap (drawn x y) (graph_twelve s o)

  -- a chart without a lead to nothing has one sheet
  pub sheet-same : (ps : Board) → chart Default s ≡ accepted ps → leads_of ps ≡ 0 → sheeted Strict s x y ≡ sheeted Default s x y
  unfolding sheeted
  sheet-same ps e h = ap (drawn x y) (no-leads s ps e h)

  module _ (k i : ℕ) where
    pub label_settings : (labelled Strict s x y k i ≡ labelled Default s x y k i) ⊎ Outside s
    unfolding labelled
    label_settings = go sheet-settings
      where
        go : (sheeted Strict s x y ≡ sheeted Default s x y) ⊎ Outside s → (label_on k i (sheeted Strict s x y) ≡ label_on k i (sheeted Default s x y)) ⊎ Outside s
        go (inl e) = inl (ap (label_on k i) e)
        go (inr o) = inr o

    pub label_twelve : (o : Outside s) → labelled Strict s x y k i ≡ unlabelled (Refusal.Outside o.target)
    unfolding labelled
    label_twelve o = ap (label_on k i) (sheet_twelve o)
