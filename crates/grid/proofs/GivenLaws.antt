-- The box of a given node: its size and what is written in it are those of the node as the chart gives it. And what `sheet` promises, `IsSheet`.
-- Assumes nothing.
use Prim.Native.Nat.{ℕ, zero, suc, ◌+◌, ◌-◌, ◌*◌, ◌/◌, ◌≤◌, ◌<◌, max}
use native.Mathlib.Omega.{arith}
use native.Mathlib.Nat.{zero-add}
use mathlib.Core.Path.{◌≡◌, refl, ap, sym, subst, ◌∙◌}
use mathlib.Core.Bool.{Bool, true, false, cond}
use mathlib.Core.List.{List, [], ◌∷◌, ◌++◌, map, append-nil, map-append, map-map}
use lib.Dec.{eqb, ltb}
use lib.ListN.{length, get_or, drop, replicate, length-map, length-drop}
use lib.Seq.{get_or-drop}
use Rattle.laws.specs.Lists.{one, keep, tabulate}
use Rattle.laws.proofs.Lists.{get_d_tabulate, tabulate_list, map-tabulate}
use Rattle.chart.specs.declared.Setting.{Setting}
use Rattle.chart.specs.Chart.{Part, Board}
use Rattle.graph.specs.Graph.{Line, given, invalid, Edge, Node, Graph, no_text, bare, given_node, given_graph, node_at}
use Rattle.graph.specs.Shape.{shape_of}
use Rattle.graph.specs.Joining.{leads_of}
use Rattle.graph.specs.Graphed.{Dag, ready as cut, graphed, leads_in}
use Rattle.graph.specs.Laws.{texts_at, Begins, Laws}
use Rattle.graph.proofs.AimLaws.{all_in}
use Rattle.graph.proofs.Gathers.{graph-laws, board-walks}
use Rattle.graph.proofs.EndsLaws.{shape-long}
use Rattle.order.specs.Chains.{columns as first_columns}
use Rattle.grid.specs.declared.BoxRecord.{BoxRecord}
use Rattle.grid.specs.declared.SheetRecord.{SheetRecord}
use Rattle.std.specs.Prelude.{Result}
use Rattle.refusals.specs.Refusals.{numbers_in}
use Rattle.refusals.specs.declared.Refusal.{Refusal}
use Rattle.grid.specs.Lists.{largest}
use Rattle.grid.specs.Heights.{heights}
use Rattle.grid.specs.Columns.{at, columns}
use Rattle.grid.specs.code.Placed.{FirstColumns}
use Rattle.grid.specs.RenderNode.{Text, text_length, line_length, end_width, text_if, end_texts, line_texts, lines_height, inner_width, center_width, input_y, center_y, output_y, box_width, box_height, source_gap, sink_gap, first_x, drawn}
use Rattle.grid.specs.RenderGrid.{Box, Sheet, begins, text_moved, widths, tallnesses, box_of, sheet_of, sheet}
use Rattle.grid.specs.Record.{boxes_of, sound_of}
use Rattle.grid.specs.Curves.{no_outputs, box_record, record_of}
use Rattle.grid.specs.Sheeted.{ready, sheet_of_dag, sheeted, answer_of}
use Rattle.grid.proofs.SheetTheorem.{edge_length}
use Rattle.grid.specs.BoxTheorem.{BoxTheorem}
use Rattle.grid.specs.LaidOut.{written_lines, labels_for, lines_in, LaidOut, shape_cut, IsSheet}
use Rattle.grid.proofs.ListLaws.{largest-below}
use Rattle.grid.proofs.HeightLaws.{heights-long, depth-enough, reached-rows}
use Rattle.grid.proofs.BoxTheorem.{placed}
use Rattle.grid.proofs.TextLaws.{length_of, length-kept, Blank, blank}
use Rattle.grid.proofs.Sheets.{leads-are, firsts-of, never_14, Made}
use Rattle.grid.proofs.SoundLaws.{Drawing, drawing, Held, held, boxes-are, sheet-sound, Own, own}

-- ---- a box's size, from the characters of the texts on its ends and its lines
abbrev inner_by : ℕ → ℕ → List Line → ℕ
inner_by a b ls = max (max (128 * a) (128 * b)) (256 * largest (map line_length ls)) + 128

abbrev height_by : ℕ → ℕ → List Line → ℕ
height_by a b ls =
    let e : ℕ = cond (eqb (inner_by a b ls) 128) 128 0 in
    e + cond (ltb 0 a) 256 0 + 128 + lines_height ls + cond (ltb 0 b) 256 0 + e

by_size : (f : ℕ → ℕ → List Line → ℕ) (n m : Node) → length_of n.sources ≡ length_of m.sources → length_of n.sinks ≡ length_of m.sinks → n.lines ≡ m.lines →
    f (length_of n.sources) (length_of n.sinks) n.lines ≡ f (length_of m.sources) (length_of m.sinks) m.lines
by_size f n m a b c = rw (a, b, c)

-- ---- what is written in it
keep-line : (b : Bool) (t : Text) (ts : List Text) → map (λ (u : Text). u.line) (text_if b t ts) ≡ keep b t.line (map (λ (u : Text). u.line) ts)
keep-line true t ts = refl
keep-line false t ts = refl

end-lines : (sep x y : ℕ) (es : List Edge) → map (λ (u : Text). u.line) (end_texts sep x y es) ≡ written_lines (texts_at es)
end-lines sep x y [] = refl
end-lines sep x y (e ∷ es) =
    keep-line (ltb 0 (text_length e)) (record { x = x; y = y; size = 232; width = end_width e; line = given e.text }) (end_texts sep (x + end_width e + sep) y es)
    ∙ ap (keep (ltb 0 (text_length e)) (given e.text)) (end-lines sep (x + end_width e + sep) y es)

center_lines : (x wy : ℕ) (ls : List Line) → map (λ (u : Text). u.line) (line_texts x wy ls) ≡ ls
center_lines x wy [] = refl
center_lines x wy (l ∷ ls) = ap (λ (m : List Line). l ∷ m) (center_lines x (wy + 512 + 128) ls)

node_lines : (n : Node) → map (λ (u : Text). u.line) (drawn n).texts ≡ labels_for n
unfolding drawn
node_lines n =
    let a : List Text = end_texts (source_gap n) (first_x (source_gap n) n.sources) (input_y n + 256 - 48) n.sources in
    let b : List Text = line_texts ((inner_width n - center_width n) / 2 + 128) (center_y n) n.lines in
    let c : List Text = end_texts (sink_gap n) (first_x (sink_gap n) n.sinks) (output_y n - 48) n.sinks in
    rw (
      map-append (λ (u : Text). u.line) (a ++ b) c,
      map-append (λ (u : Text). u.line) a b,
      end-lines (source_gap n) (first_x (source_gap n) n.sources) (input_y n + 256 - 48) n.sources,
      center_lines ((inner_width n - center_width n) / 2 + 128) (center_y n) n.lines,
      end-lines (sink_gap n) (first_x (sink_gap n) n.sinks) (output_y n - 48) n.sinks,
    )

moved_lines : (x y : ℕ) (ts : List Text) → map (λ (u : Text). u.line) (map (text_moved x y) ts) ≡ map (λ (u : Text). u.line) ts
moved_lines x y [] = refl
moved_lines x y (t ∷ ts) = ap (λ (m : List Line). t.line ∷ m) (moved_lines x y ts)

-- empty texts are not written
written-blanks : (ts : List Part) (k : ℕ) → written_lines (ts ++ replicate k no_text) ≡ written_lines ts
written-blanks [] zero = refl
written-blanks [] (suc k) = written-blanks [] k
written-blanks (t ∷ ts) k = ap (keep (ltb 0 t.len) (given t)) (written-blanks ts k)

written-kept : (es fs : List Edge) → Begins (texts_at es) (texts_at fs) → written_lines (texts_at fs) ≡ written_lines (texts_at es)
written-kept es fs b = ap written_lines b.texts ∙ written-blanks (texts_at es) b.blanks

-- no characters, nothing written
written_none : (es : List Edge) → length_of es ≡ 0 → written_lines (texts_at es) ≡ []
written_none [] h = refl
written_none (e ∷ es) h =
    let z : e.text.len ≡ 0 = omega arith in
    rw z (written_none es (omega arith))

-- ---- a node of the cut graph
module _ (v : Setting) (s : List ℕ) (d : Dag) (laws : Laws v s d) where
  abbrev ps : Board
  ps = laws.board

  abbrev g : Graph
  g = d.graph

  module _ (k : ℕ) (h : k < length ps) where
    abbrev new : Node
    new = node_at g k

    abbrev old : Node
    old = node_at (given_graph ps) k

    sources_kept : length_of new.sources ≡ length_of old.sources
    sources_kept = length-kept old.sources new.sources (laws.texts k h).sources

    sinks-kept : length_of new.sinks ≡ length_of old.sinks
    sinks-kept = length-kept old.sinks new.sinks (laws.texts k h).sinks

    width-kept : box_width new ≡ box_width old
    width-kept = by_size (λ a b ls. inner_by a b ls + 256) new old sources_kept sinks-kept (laws.lines k h)

    height-kept : box_height new ≡ box_height old
    height-kept = by_size height_by new old sources_kept sinks-kept (laws.lines k h)

    labels_kept : labels_for new ≡ labels_for old
    labels_kept =
        rw (written-kept old.sources new.sources (laws.texts k h).sources, written-kept old.sinks new.sinks (laws.texts k h).sinks, laws.lines k h)

  -- a node that no chart gives: a lead's box, or one that a cut inserted
  module _ (k : ℕ) (h : length ps ≤ k) (l : k < length g) where
    no-characters : edge_length (node_at g k) ≡ 0
    no-characters =
        let n : length (given_graph ps) ≡ length ps = length-map ps given_node in
        let i : length (given_graph ps) + (k - length (given_graph ps)) ≡ k = omega arith in
        subst (λ (j : ℕ). edge_length (node_at g j) ≡ 0) i
        (subst (λ (x : Node). edge_length x ≡ 0) (get_or-drop (length (given_graph ps)) g (k - length (given_graph ps)) bare)
        (all_in Blank (drop (length (given_graph ps)) g) (k - length (given_graph ps)) bare (omega (arith, length-drop (length (given_graph ps)) g)) (blank v s d laws)))

    lines-alone : labels_for (node_at g k) ≡ (node_at g k).lines
    lines-alone =
        let a : written_lines (texts_at (node_at g k).sources) ≡ [] = written_none (node_at g k).sources (omega (arith, no-characters)) in
        let b : written_lines (texts_at (node_at g k).sinks) ≡ [] = written_none (node_at g k).sinks (omega (arith, no-characters)) in
        rw (a, b) (append-nil (node_at g k).lines)

    labels_lead : k < length ps + leads_of ps → (t : ℕ) × (length ps ≤ t) × (labels_for (node_at g k) ≡ one (invalid t))
    labels_lead m =
        let b = laws.joined k h m in
        (b.target, b.past, lines-alone ∙ ap (λ (x : Node). x.lines) (laws.kept k h m) ∙ b.line)

-- ---- the sheet of a cut graph
module _ (g : Graph) (cuts : ℕ) (cols rows : List ℕ) (wide : length cols ≡ length g) (tall : length rows ≡ length g) where
  abbrev sh : Sheet
  sh = sheet_of g cuts cols rows

  lines_are : (k : ℕ) → k < length g → lines_in sh k ≡ labels_for (node_at g k)
  unfolding sheet_of
  lines_are k h =
      ap (λ (b : Box). map (λ (t : Text). t.line) b.texts) (get_d_tabulate (box_of g cols rows) 0 (length g) k no_outputs h ∙ ap (box_of g cols rows) (zero-add k))
      ∙ moved_lines (begins 1024 cols (widths g) (at cols k)) (begins 2048 rows (tallnesses g) (at rows k)) (drawn (node_at g k)).texts
      ∙ node_lines (node_at g k)

  -- the columns and the rows of its boxes
  places-are : (f : Box → ℕ) (ps : List ℕ) → length ps ≡ length g → ((k : ℕ) → f (box_of g cols rows k) ≡ at ps k) → map f sh.boxes ≡ ps
  unfolding sheet_of
  places-are f ps long e =
      map-tabulate f (box_of g cols rows) 0 (length g) ∙ ap (tabulate (λ k. f (box_of g cols rows k)) 0) (sym long)
      ∙ tabulate_list 0 (λ k. f (box_of g cols rows k)) 0 ps (λ i l. e (0 + i) ∙ ap (at ps) (zero-add i))

-- what a sheet's record says of it
record Told (d : Dag) (sh : Sheet) : Type 0 where
  columns : sh.columns ≡ suc (largest (map (λ (b : Box). b.column) sh.boxes))
  rows : sh.rows ≡ suc (largest (map (λ (b : Box). b.row) sh.boxes))
  few_columns : 0 < length d.graph → sh.columns ≤ 3 * length d.graph
  lines : (k : ℕ) → k < length d.graph → lines_in sh k ≡ labels_for (node_at d.graph k)

told : (v : Setting) (s : List ℕ) (d : Dag) → graphed v s ≡ cut d → Told d (sheet_of_dag d)
unfolding sheet_of_dag sheet sheet_of
told v s d e =
    let g : Graph = d.graph in
    let first : List ℕ = first_columns (shape_of g) in
    let rs : List ℕ = heights (shape_of g) in
    let cs : List ℕ = columns (shape_of g) rs first in
    let f : FirstColumns (length g) first = firsts-of g (graph-laws v s d e).aimed in
    let wide : length cs ≡ length g = (placed g first f).long in
    let tall : length rs ≡ length g = heights-long (shape_of g) ∙ shape-long g in
    record {
      columns = ap (λ (l : List ℕ). suc (largest l)) (sym (places-are g d.cuts cs rs wide tall (λ (b : Box). b.column) cs wide (λ k. refl)));
      rows = ap (λ (l : List ℕ). suc (largest l)) (sym (places-are g d.cuts cs rs wide tall (λ (b : Box). b.row) rs tall (λ k. refl)));
      few_columns = λ h.
          let l : largest cs < 3 * length g = largest-below cs (3 * length g) (omega arith) (λ k i. (placed g first f).below k (omega (arith, wide))) in
          omega arith;
      lines = lines_are g d.cuts cs rs wide tall;
    }

record_columns : (sh : Sheet) (x y : ℕ) → (record_of sh x y).columns ≡ sh.columns
unfolding record_of
record_columns sh x y = refl

record_rows : (sh : Sheet) (x y : ℕ) → (record_of sh x y).rows ≡ sh.rows
unfolding record_of
record_rows sh x y = refl

-- ---- of every chart, at every origin
module _ (v : Setting) (s : List ℕ) (x y : ℕ) (sh : Sheet) (e : sheeted v s x y ≡ ready sh) (r : SheetRecord) (is : r ≡ record_of sh x y)
    (theorem : (d : Dag) → graphed v s ≡ cut d → BoxTheorem (get_or s 1 0) (leads_in v s) d.cuts d.graph r) where
  d : Drawing v s x y sh
  d = drawing v s x y sh e

  laws : Laws v s d.dag
  laws = graph-laws v s d.dag d.walked

  h : Held d.dag sh
  h = subst (Held d.dag) (sym d.is) (held v s d.dag d.walked)

  t : Told d.dag sh
  t = subst (Told d.dag) (sym d.is) (told v s d.dag d.walked)

  b : BoxTheorem (get_or s 1 0) (leads_in v s) d.dag.cuts d.dag.graph r
  b = theorem d.dag d.walked

  boxes-same : boxes_of r ≡ map box_record sh.boxes
  boxes-same = ap boxes_of is ∙ boxes-are sh x y (omega (arith, h.count, laws.boxes))

  in_graph : (k : ℕ) → k < length laws.board → k < length d.dag.graph
  in_graph k l = omega (arith, laws.nodes)

  in_count : (k : ℕ) → k < length laws.board → k < r.count
  in_count k l = omega (arith, laws.nodes, b.one_each)

  leads : leads_of laws.board ≡ leads_in v s
  leads = leads-are v s d.dag laws

  laid-sheet : LaidOut v s x y r
  laid-sheet =
      record {
        dag = d.dag;
        walked = d.walked;
        boxes = b;
        at_most = omega (arith, b.one_each, laws.boxes);
        sound = ap sound_of is ∙ sheet-sound v s x y sh e;
        few_columns = λ l. omega (arith, ap (λ (u : SheetRecord). u.columns) is, record_columns sh x y, b.one_each, t.few_columns (omega (arith, b.one_each)));
        columns =
            ap (λ (u : SheetRecord). u.columns) is ∙ record_columns sh x y ∙ t.columns
            ∙ ap (λ (l : List ℕ). suc (largest l)) (sym (map-map (λ (c : BoxRecord). c.column) box_record sh.boxes) ∙ ap (map (λ (c : BoxRecord). c.column)) (sym boxes-same));
        rows =
            ap (λ (u : SheetRecord). u.rows) is ∙ record_rows sh x y ∙ t.rows
            ∙ ap (λ (l : List ℕ). suc (largest l)) (sym (map-map (λ (c : BoxRecord). c.row) box_record sh.boxes) ∙ ap (map (λ (c : BoxRecord). c.row)) (sym boxes-same));
        board = laws.board;
        read = laws.read;
        nodes = laws.given;
        sheet = sh;
        laid = e;
        is = is;
        given_width = λ k l. b.widths k (in_count k l) ∙ width-kept v s d.dag laws k l;
        given_height = λ k l. b.heights k (in_count k l) ∙ height-kept v s d.dag laws k l;
        given_labels = λ k l. t.lines k (in_graph k l) ∙ labels_kept v s d.dag laws k l;
        lead_labels = λ k l m.
            let i : k < length d.dag.graph = omega (arith, laws.nodes, leads) in
            let z = labels_lead v s d.dag laws k l i (omega (arith, leads)) in
            (z.0, z.1, t.lines k i ∙ z.2);
        inserted_labels = λ k l m.
            let i : k < length d.dag.graph = omega (arith, b.one_each) in
            let z = b.owner_cut k (omega (arith, laws.given)) m in
            (omega (arith, laws.given, z.0), t.lines k i ∙ lines-alone v s d.dag laws k (omega arith) i ∙ z.1);
      }

-- what `sheet` promises
pub is-sheet : (v : Setting) (s : List ℕ) (x y : ℕ) (r : Result SheetRecord Refusal) → Made v s x y r → IsSheet v s x y r
is-sheet v s x y r m =
    record {
      whole = m.whole;
      refused = λ why e. m.whole ∙ ap (answer_of x y) e;
      numbers = λ why e. ap numbers_in (m.whole ∙ ap (answer_of x y) e);
      laid = λ sheet q. let o : Own v s x y sheet = own v s x y sheet (sym m.whole ∙ q) in laid-sheet v s x y o.sheet o.laid sheet o.is (λ d e. m.boxes d e sheet q);
      at_origin = λ d e p q. (record_of (sheet_of_dag d) x y, m.whole ∙ rw (p, q, never_14 v s d e));
      walks = λ ps e. record { cutting = board-walks ps; heights = depth-enough (shape_cut ps); rows = λ p l. reached-rows (shape_cut ps) p l };
    }
