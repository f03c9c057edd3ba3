-- Charts written: document 01, module 1, as a writer would follow it. `proofs/Complete.antt` shows that each board within the limits,
-- written so, is accepted and read as itself.
-- Assumes nothing.
use Rattle.std.specs.Prelude.{ℕ, ◌+◌, ◌*◌, ◌/◌, ◌%◌, ◌≤◌, ◌<◌, ◌≡◌, List, [], ◌∷◌, ◌++◌, length}
use Rattle.chart.specs.Chart.{Part, End, Node, Board}
use Rattle.chart.specs.Text.{Texted, characters_in}
use Rattle.laws.specs.Lists.{All}
use Rattle.chart.specs.declared.Setting.{Setting}
use Rattle.chart.specs.declared.Setting.TheVariants.{Strict}

-- a node with its texts themselves
pub record Written : Type 0 where
  pub to : ℕ
  pub text : List ℕ

pub record Drawn : Type 0 where
  pub sources : List Written
  pub lines : List (List ℕ)
  pub sinks : List Written

-- ---- its bytes

-- 'a line is a length byte and text'
abbrev pub text_bytes : List ℕ → List ℕ
text_bytes t = length t ∷ t

-- 'A source or sink is a target byte, a length byte, text'
abbrev pub end_bytes : Written → List ℕ
end_bytes e = e.to ∷ text_bytes e.text

-- one after the other
abbrev pub joined : {A : Type 0} → (A → List ℕ) → List A → List ℕ
joined f [] = []
joined f (x ∷ xs) = f x ++ joined f xs

-- 'A body: counts of sources, lines, sinks (one byte each), then these in that order.'
abbrev pub body_bytes : Drawn → List ℕ
body_bytes p =
    length p.sources ∷ length p.lines ∷ length p.sinks ∷
    (joined end_bytes p.sources ++ (joined text_bytes p.lines ++ joined end_bytes p.sinks))

-- 'contents entries, u16 little-endian: where body k begins', the first at this place
abbrev pub contents_bytes : ℕ → List Drawn → List ℕ
contents_bytes at [] = []
contents_bytes at (p ∷ ps) = (at % 256) ∷ (at / 256) ∷ contents_bytes (at + length (body_bytes p)) ps

abbrev pub encode : List Drawn → List ℕ
encode ps = 1 ∷ length ps ∷ (contents_bytes (2 + 2 * length ps) ps ++ joined body_bytes ps)

-- ---- what it is read as: the texts' places

abbrev pub place_text : ℕ → List ℕ → Part
place_text at t = record { at = at + 1; len = characters_in t }

abbrev pub place_end : ℕ → Written → End
place_end at e = record { to = e.to; text = place_text (at + 1) e.text }

-- each at the place after the one before
abbrev pub placed : {A B : Type 0} → (A → List ℕ) → (ℕ → A → B) → ℕ → List A → List B
placed bytes place at [] = []
placed bytes place at (x ∷ xs) = place at x ∷ placed bytes place (at + length (bytes x)) xs

abbrev pub place_node : ℕ → Drawn → Node
place_node at p =
    let lines = at + 3 + length (joined end_bytes p.sources) in
    let sinks = lines + length (joined text_bytes p.lines) in
    record {
      sources = placed end_bytes place_end (at + 3) p.sources;
      lines = placed text_bytes place_text lines p.lines;
      sinks = placed end_bytes place_end sinks p.sinks;
    }

abbrev pub place_all : List Drawn → Board
place_all ps = placed body_bytes place_node (2 + 2 * length ps) ps

-- ---- the limits

pub record TextWithin (t : List ℕ) : Type 0 where
  -- 'Lengths are 0 to 24', in bytes
  pub short : length t ≤ 24
  -- 'text bytes 32 to 126', and degree signs
  pub texted : Texted t

pub record EndWithin (w : Setting) (n : ℕ) (e : Written) : Type 0 where
  pub byte : e.to < 256
  -- 'A strict setting .. keeps refusal 12'
  pub target : w ≡ Strict → e.to < n
  pub text : TextWithin e.text

pub record NodeWithin (w : Setting) (n : ℕ) (p : Drawn) : Type 0 where
  pub sources : All (EndWithin w n) p.sources
  pub lines : All TextWithin p.lines
  -- 'lines 0 to 4'
  pub few : length p.lines ≤ 4
  pub sinks : All (EndWithin w n) p.sinks

abbrev pub drawn_ends : List Drawn → ℕ
drawn_ends [] = 0
drawn_ends (p ∷ ps) = length p.sources + length p.sinks + drawn_ends ps

pub record Within (w : Setting) (ps : List Drawn) : Type 0 where
  pub nodes : length ps ≤ 32
  pub each : All (NodeWithin w (length ps)) ps
  pub ends : drawn_ends ps ≤ 64
