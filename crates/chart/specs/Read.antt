-- What `read` answers.
-- Assumes nothing.
use Rattle.std.specs.Prelude.{ℕ, ◌≡◌, List, Result, Ok, Err}
use Rattle.refusals.specs.Refusals.{numbers_of, numbers_in}
use Rattle.refusals.specs.declared.Refusal.{Refusal}
use Rattle.chart.specs.declared.Board.{Board as Tables}
use Rattle.chart.specs.declared.Setting.{Setting}
use Rattle.chart.specs.Chart.{Board, Reading, ready, refusal, chart}
use Rattle.chart.specs.Tables.{board_tables}
use Rattle.chart.specs.Accepted.{Accepted}

-- the answer of a reading: each field of the tables is fixed, past the counts too
abbrev pub answer_of : Reading → Result Tables Refusal
answer_of (ready ps) = Ok (board_tables ps)
answer_of (refusal why) = Err why

-- r is what the chart s is read as in the setting w
pub record IsRead (w : Setting) (s : List ℕ) (r : Result Tables Refusal) : Type 0 where
  -- every field, past the counts too
  pub whole : r ≡ answer_of (chart w s)
  -- a refusal is document 01's first
  pub refused : (why : Refusal) → chart w s ≡ refusal why → r ≡ Err why
  pub numbers : (why : Refusal) → chart w s ≡ refusal why → numbers_in r ≡ numbers_of why
  -- an accepted chart is within document 01's limits
  pub limits : (ps : Board) → chart w s ≡ ready ps → Accepted w s ps
