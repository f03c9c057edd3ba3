-- What the crates above take of an answer of `read` (`reads_of` of proofs/Accepts), and what its last steps answer.
-- Assumes nothing.
use Rattle.std.specs.Prelude.{ℕ, ◌+◌, ◌≤◌, ◌<◌, ◌≡◌, cond, List, leb, length, Option, Some, None, Result, Ok, Err}
use Rattle.laws.specs.Lists.{All}
use Rattle.refusals.specs.declared.Refusal.{Refusal}
use Rattle.refusals.specs.declared.Refusal.TheVariants.{ManyEnds, Outside}
use Rattle.chart.specs.declared.Item.{Item}
use Rattle.chart.specs.declared.Line.{Line}
use Rattle.chart.specs.declared.Board.{Board as Tables}
use Rattle.chart.specs.declared.Setting.{Setting}
use Rattle.chart.specs.Chart.{Reading, ready, refusal, targets_of, outside_in, chart}
use Rattle.chart.specs.code.Filled.{items_of, lines_of, board_of, tables_of}
use Rattle.chart.specs.Accepted.{Accepted}

-- ---- for the crates above
-- the reading that an answer stands for
abbrev pub reading_of : Result Tables Refusal → Reading
reading_of (Ok b) = ready (board_of b)
reading_of (Err why) = refusal why

-- the answer of a reading, with the tables as the code makes them
abbrev pub read_of : Reading → Result Tables Refusal
read_of (ready ps) = Ok (tables_of (length ps) ps)
read_of (refusal why) = Err why

-- a record's owner is a node
abbrev pub Owned : ℕ → Item → Type 0
Owned n x = x.owner < n

-- the tables, for the crates above: the counts are within the arrays, each owner is a node
pub record Sound (b : Tables) : Type 0 where
  pub nodes : b.n ≤ 32
  pub ends : b.sources.count + b.sinks.count ≤ 64
  pub lines : b.lines.count ≤ 128
  pub sources : All (Owned b.n) (items_of b.sources)
  pub owners : All (λ (x : Line). x.owner < b.n) (lines_of b.lines)
  pub sinks : All (Owned b.n) (items_of b.sinks)

pub record Reads (w : Setting) (s : List ℕ) (r : Result Tables Refusal) : Type 0 where
  -- the answer is exactly the definition's
  pub reads : reading_of r ≡ chart w s
  -- every field, past the counts too
  pub whole : r ≡ read_of (chart w s)
  -- an accepted chart is within document 01's limits, and its tables are sound
  pub limits : (b : Tables) → r ≡ Ok b → Accepted w s (board_of b)
  pub sound : (b : Tables) → r ≡ Ok b → Sound b

-- 11 and 12, of the tables
abbrev pub outside_judged : Option ℕ → Result (Unit {0}) Refusal
outside_judged None = Ok tt
outside_judged (Some t) = Err (Outside t)

abbrev pub judged_of : Setting → Tables → Result (Unit {0}) Refusal
judged_of w b = cond (leb (b.sources.count + b.sinks.count) 64) (outside_judged (outside_in w (targets_of (board_of b)) b.n)) (Err ManyEnds)
