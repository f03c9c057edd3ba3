-- What an accepted chart has: the limits of document 01, module 1, and of document 02 (L4), as the crates above use them.
-- Assumes nothing.
use Rattle.std.specs.Prelude.{ℕ, ◌-◌, ◌≤◌, ◌<◌, ◌≡◌, List, length, get_or}
use Rattle.chart.specs.declared.Setting.{Setting}
use Rattle.chart.specs.declared.Setting.TheVariants.{Strict}
use Rattle.laws.specs.Lists.{All}
use Rattle.chart.specs.Chart.{Part, End, Node, Board, ends_of}
use Rattle.chart.specs.Text.{Texted, characters_in, ending, bytes_of, text_of}

-- a text of the chart
pub record Fitting (s : List ℕ) (t : Part) : Type 0 where
  -- it is a part of the chart
  pub inside : ending t.len s t.at ≤ length s
  -- 'text bytes 32 to 126' and degree signs, no pair cut
  pub texted : Texted (text_of s t)
  -- 'that pair counts as one'
  pub counted : characters_in (text_of s t) ≡ t.len
  -- 'The length byte still counts bytes': the part is the whole text
  pub bytes : bytes_of s t ≡ get_or s (t.at - 1) 0
  -- 'and 24 bytes remain the most', so no text has more characters
  pub most : bytes_of s t ≤ 24
  pub short : t.len ≤ 24

-- 'A source or sink is a target byte, a length byte, text'
pub record EndFits (s : List ℕ) (e : End) : Type 0 where
  pub byte : e.to ≡ get_or s (e.text.at - 2) 0
  pub text : Fitting s e.text

-- a source or a sink of a chart with n nodes: 'A strict setting .. keeps refusal 12'
pub record Aimed (w : Setting) (s : List ℕ) (n : ℕ) (e : End) : Type 0 where
  pub target : w ≡ Strict → e.to < n
  pub fits : EndFits s e

pub record Formed (w : Setting) (s : List ℕ) (n : ℕ) (p : Node) : Type 0 where
  pub sources : All (Aimed w s n) p.sources
  pub lines : All (Fitting s) p.lines
  -- 'lines 0 to 4'
  pub few : length p.lines ≤ 4
  pub sinks : All (Aimed w s n) p.sinks

-- the chart s is read as the nodes ps, in the setting w
pub record Accepted (w : Setting) (s : List ℕ) (ps : Board) : Type 0 where
  -- 'Byte 1 is n, 0 to 32'; of a chart of no byte n is 0
  pub count : length ps ≡ get_or s 1 0
  pub nodes : length ps ≤ 32
  -- 'sources plus sinks over all nodes at most 64'
  pub ends : ends_of ps ≤ 64
  pub formed : All (Formed w s (length ps)) ps
  pub size : length s ≤ 5026
