-- What is claimed of `sheet`: the box theorem in the chart's own words, of the graph that the walk cut and of the given nodes; soundness; the walks.
-- Assumes nothing.
use Rattle.std.specs.Prelude.{ℕ, suc, ◌+◌, ◌*◌, ◌≤◌, ◌<◌, ◌≡◌, true, List, [], ◌∷◌, ◌++◌, map, ltb, length, get_or, replicate, Result, Ok, Err}
use Rattle.std.proofs.Math.Option.{Option, none, some}
use Rattle.laws.specs.Lists.{All, one, keep}
use Rattle.refusals.specs.Refusals.{numbers_of, numbers_in}
use Rattle.refusals.specs.declared.Refusal.{Refusal}
use Rattle.chart.specs.declared.Setting.{Setting}
use Rattle.chart.specs.Chart.{Part, Board, ready as accepted, chart}
use Rattle.graph.specs.Graph.{Line, given, number, invalid, Node, given_graph, node_at}
use Rattle.graph.specs.Joining.{uncut}
use Rattle.graph.specs.Cutting.{cutting}
use Rattle.graph.specs.Graphed.{Dag, ready as cut, graphed, leads_in}
use Rattle.graph.specs.Laws.{texts_at, Walks}
use Rattle.graph.specs.Shape.{Shape, shape_of}
use Rattle.grid.specs.declared.BoxRecord.{BoxRecord}
use Rattle.grid.specs.declared.SheetRecord.{SheetRecord}
use Rattle.grid.specs.Lists.{largest}
use Rattle.grid.specs.Heights.{walk_from, reached_from}
use Rattle.grid.specs.RenderNode.{Text, box_width, box_height}
use Rattle.grid.specs.RenderGrid.{Sheet}
use Rattle.grid.specs.Record.{boxes_of, sound_of}
use Rattle.grid.specs.Curves.{no_outputs, record_of}
use Rattle.grid.specs.Sheeted.{ready, refusal, sheeted, answer_of}
use Rattle.grid.specs.BoxTheorem.{box, BoxTheorem}

-- the texts that are not empty
abbrev pub written_lines : List Part → List Line
written_lines [] = []
written_lines (t ∷ ts) = keep (ltb 0 t.len) (given t) (written_lines ts)

-- what is written in a node's box: its sources' texts, its lines and its sinks' texts, in order
abbrev pub labels_for : Node → List Line
labels_for n = written_lines (texts_at n.sources) ++ n.lines ++ written_lines (texts_at n.sinks)

-- what is written in box k
abbrev pub lines_in : Sheet → ℕ → List Line
lines_in sh k = map (λ (t : Text). t.line) (get_or sh.boxes k no_outputs).texts

-- r is the sheet of the chart s, in the setting w, at the origin x y
pub record LaidOut (w : Setting) (s : List ℕ) (x y : ℕ) (r : SheetRecord) : Type 0 where
  -- the graph that the walk cut, and the box theorem of it: byte 1 is the number of nodes (0 of a chart of no byte), and so many of their ends lead to nothing
  pub dag : Dag
  pub walked : graphed w s ≡ cut dag
  pub boxes : BoxTheorem (get_or s 1 0) (leads_in w s) dag.cuts dag.graph r
  pub at_most : r.count ≤ 48
  -- every box and every curve, with the origin, is within 8,388,608: no call on the sheet is refused by 14
  pub sound : sound_of r ≡ true
  -- 'Columns and rows run to the largest used': 1 of each where there is no box. 'No column reaches 3N.'
  pub columns : r.columns ≡ suc (largest (map (λ (b : BoxRecord). b.column) (boxes_of r)))
  pub rows : r.rows ≡ suc (largest (map (λ (b : BoxRecord). b.row) (boxes_of r)))
  pub few_columns : 0 < r.count → r.columns ≤ 3 * r.count
  -- the given nodes, and the sheet with its texts
  pub board : Board
  pub read : chart w s ≡ accepted board
  pub nodes : length board ≡ get_or s 1 0
  pub sheet : Sheet
  pub laid : sheeted w s x y ≡ ready sheet
  pub is : r ≡ record_of sheet x y
  -- box k is given node k's: its size is that of the node as the chart gives it, and so is what is written in it
  pub given_width : (k : ℕ) → k < length board → (box r k).width ≡ box_width (node_at (given_graph board) k)
  pub given_height : (k : ℕ) → k < length board → (box r k).height ≡ box_height (node_at (given_graph board) k)
  pub given_labels : (k : ℕ) → k < length board → lines_in sheet k ≡ labels_for (node_at (given_graph board) k)
  -- the boxes of the leads come next: in each the target, which isn't a given node, and `(invalid)` is written, and nothing else
  pub lead_labels : (k : ℕ) → length board ≤ k → k < length board + leads_in w s → (t : ℕ) × (length board ≤ t) × (lines_in sheet k ≡ one (invalid t))
  -- in each other box the number of its owner, a given node, is written, and nothing else
  pub inserted_labels : (k : ℕ) → length board + leads_in w s ≤ k → k < r.count → ((box r k).owner < length board) × (lines_in sheet k ≡ one (number (box r k).owner))

-- where the nodes of the cut graph lead
abbrev pub shape_cut : Board → Shape
shape_cut board = shape_of (cutting (uncut board)).graph

-- the walks of modules 3 and 6 end by themselves, on every accepted board: no depth is used up, any larger bound gives the same
pub record AllWalks (board : Board) : Type 0 where
  pub cutting : Walks board
  pub heights : (p more : ℕ) →
      walk_from (length (shape_cut board) + more) (shape_cut board) (length (shape_cut board)) (replicate (length (shape_cut board)) none) p ≡ reached_from (shape_cut board) p
  -- a walk of module 6 gives no node the row 0, so that none above it is cut off there
  pub rows : (p : ℕ) → p < length (shape_cut board) → All (λ (o : Option ℕ). o ≡ some 0 → ⊥) (reached_from (shape_cut board) p)

-- what `sheet` promises, in each setting w, for every byte string s and every origin x y
pub record IsSheet (w : Setting) (s : List ℕ) (x y : ℕ) (r : Result SheetRecord Refusal) : Type 0 where
  -- every field of the answer is the definition's
  pub whole : r ≡ answer_of x y (sheeted w s x y)
  -- a refusal is document 01's first
  pub refused : (why : Refusal) → sheeted w s x y ≡ refusal why → r ≡ Err why
  pub numbers : (why : Refusal) → sheeted w s x y ≡ refusal why → numbers_in r ≡ numbers_of why
  -- the sheet that is drawn
  pub laid : (sheet : SheetRecord) → r ≡ Ok sheet → LaidOut w s x y sheet
  -- at origin 0 0 no chart that 1 to 13 leave is refused
  pub at_origin : (d : Dag) → graphed w s ≡ cut d → x ≡ 0 → y ≡ 0 → (sheet : SheetRecord) × (r ≡ Ok sheet)
  -- the walks, also of a board that 13 refuses
  pub walks : (board : Board) → chart w s ≡ accepted board → AllWalks board
