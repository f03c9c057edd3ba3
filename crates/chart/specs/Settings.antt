-- What the settings have to do with each other (document 02, L5): strict judges the targets of what the default reads, and nothing else.
-- Assumes nothing.
use Rattle.std.specs.Prelude.{ℕ, ◌≡◌, List, length, Some}
use Rattle.refusals.specs.declared.Refusal.{Refusal}
use Rattle.chart.specs.declared.Setting.TheVariants.{Default, Strict}
use Rattle.chart.specs.Chart.{Board, Reading, ready, refusal, targets_of, first_outside, judge_targets, chart}

-- 12 of a chart that passes 1 to 11
abbrev pub strictly : Reading → Reading
strictly (ready ps) = judge_targets (first_outside (targets_of ps) (length ps)) ps
strictly (refusal why) = refusal why

-- the chart passes 1 to 11, and t is the first of its targets that isn't below n: strict refuses it, the default draws it
pub record Outside (s : List ℕ) : Type 0 where
  pub board : Board
  pub target : ℕ
  pub read : chart Default s ≡ ready board
  pub first : first_outside (targets_of board) (length board) ≡ Some target
  pub refused : chart Strict s ≡ refusal (Refusal.Outside target)
