-- The two settings of a graph: one graph, or 12. A chart without a lead to nothing has the same graph in both.
-- Assumes nothing.
use Prim.Native.Nat.{ℕ, suc}
use native.Mathlib.Omega.{arith}
use mathlib.Core.Path.{◌≡◌, refl, ap, sym, ◌∙◌}
use mathlib.Core.Logic.{◌⊎◌, inl, inr}
use Rattle.std.specs.Prelude.{Option, Some, None}
use Rattle.refusals.specs.declared.Refusal.{Refusal}
use mathlib.Core.Bool.{cond}
use mathlib.Core.List.{List, [], ◌∷◌, ◌++◌, map, append_assoc}
use lib.Dec.{ltb}
use lib.ListN.{length}
use Rattle.chart.specs.declared.Setting.TheVariants.{Default, Strict}
use Rattle.chart.specs.Chart.{End, Board, Reading, ready as accepted, refusal as refused, targets, targets_of, first_outside, judge_targets, chart}
use Rattle.chart.specs.Settings.{strictly, Outside}
use Rattle.chart.proofs.Accepts.{accepted as accepts}
use Rattle.chart.proofs.Settings.{strict-reads, settings}
use Rattle.graph.specs.Graph.{unmarked, given_graph}
use Rattle.graph.specs.Joining.{outside, leads, leads_of}
use Rattle.graph.specs.Graphed.{refusal, drawn, graphed, leads_read, leads_in}
use Rattle.graph.proofs.JoinLaws.{either-by}
use Rattle.graph.proofs.Uncut.{given-aimed}
use Rattle.graph.proofs.NoLeads.{none-aimed}

-- both settings draw the same graph, or strict refuses by 12
pub graph-settings : (s : List ℕ) → (graphed Strict s ≡ graphed Default s) ⊎ Outside s
unfolding graphed
graph-settings s = go (settings s)
  where
    go : (chart Strict s ≡ chart Default s) ⊎ Outside s → (drawn (chart Strict s) ≡ drawn (chart Default s)) ⊎ Outside s
    go (inl e) = inl (ap drawn e)
    go (inr o) = inr o

pub graph_twelve : (s : List ℕ) (o : Outside s) → graphed Strict s ≡ refusal (Refusal.Outside o.target)
unfolding graphed
graph_twelve s o = ap drawn o.refused

-- ---- no lead, no target outside
outside-none : (n : ℕ) (es : List End) (ts : List ℕ) → outside n (map unmarked es) ≡ 0 → first_outside (targets es ++ ts) n ≡ first_outside ts n
outside-none n [] ts h = refl
outside-none n (e ∷ es) ts h =
    either-by (ltb e.to n)
    (λ c. cond c (outside n (map unmarked es)) (suc (outside n (map unmarked es))) ≡ 0 → cond c (first_outside (targets es ++ ts) n) (Some e.to) ≡ first_outside ts n)
    (λ z k. outside-none n es ts k) (λ z k. absurd (omega (arith, k))) h

first-none : (n : ℕ) (ps : Board) → leads n (given_graph ps) ≡ 0 → first_outside (targets_of ps) n ≡ None
first-none n [] h = refl
first-none n (p ∷ ps) h =
    rw (append_assoc (targets p.sinks) (targets p.sources) (targets_of ps))
    (outside-none n p.sinks (targets p.sources ++ targets_of ps) (omega arith)
    ∙ outside-none n p.sources (targets_of ps) (omega arith)
    ∙ first-none n ps (omega arith))

-- a chart without a lead to nothing has the same graph in both settings
pub no-leads : (s : List ℕ) (ps : Board) → chart Default s ≡ accepted ps → leads_of ps ≡ 0 → graphed Strict s ≡ graphed Default s
unfolding graphed
no-leads s ps e h =
    ap drawn (strict-reads s ∙ ap strictly e ∙ ap (λ (o : Option ℕ). judge_targets o ps) (first-none (length ps) ps h) ∙ sym e)

-- strict draws no lead
pub strict_none : (s : List ℕ) → leads_in Strict s ≡ 0
unfolding leads_in
strict_none s = go (chart Strict s) refl
  where
    go : (r : Reading) → chart Strict s ≡ r → leads_read r ≡ 0
    go (accepted ps) e = none-aimed (length ps) (given_graph ps) (given-aimed Strict s (length ps) (length ps) (λ x h. h.target refl) ps (accepts Strict s ps e).formed)
    go (refused why) e = refl
