-- A label from the chart's bytes: what the code finds is the definition's, its text lies within the chart or is one of the 287 fixed texts, and its width counts
-- the text's characters.
-- Assumes nothing.
use Prim.Native.Nat.{ℕ, zero, suc, ◌+◌, ◌-◌, ◌*◌, ◌/◌, ◌≤◌, ◌<◌}
use native.Mathlib.Omega.{arith}
use mathlib.Core.Path.{◌≡◌, refl, ap, sym, ◌∙◌}
use mathlib.Core.Bool.{Bool, true, false, cond, ◌&&◌}
use mathlib.Core.List.{List, [], ◌∷◌, ◌++◌, map}
use lib.Dec.{ltb}
use lib.ListN.{length, get_or, drop, replicate, length-drop, length-map, get_or-eq_default}
use lib.Seq.{get_or-drop}
use borrow.Author.Tests.{ltb-true, ltb-false, lt-ltb, le-ltb, leb-true}
use native.Mathlib.Nat.{zero-add}
use Rattle.laws.specs.Lists.{All, tabulate}
use Rattle.laws.proofs.Lists.{all_join, all_made, get_d_tabulate, length-tabulate}
use Rattle.refusals.specs.declared.Refusal.{Refusal}
use Rattle.refusals.specs.declared.Refusal.TheVariants.{TooFar, NotThere}
use Rattle.chart.specs.declared.Setting.{Setting}
use Rattle.chart.specs.Chart.{Part, End, Board}
use Rattle.chart.specs.Chart.{Node as GivenNode}
use Rattle.chart.specs.Text.{Texted, characters_in, ending, text_of}
use Rattle.chart.specs.Accepted.{Fitting, Aimed, Formed, Accepted}
use Rattle.chart.proofs.Accepts.{accepted}
use Rattle.graph.specs.declared.Tables.{Tables}
use Rattle.graph.specs.Graph.{Line, given, number, invalid, Edge, Node, Graph, no_text, bare, unmarked, given_node, given_graph, node_at}
use Rattle.graph.specs.Graphed.{Dag, Graphed, ready as cut, refusal as uncut, graphed, leads_in}
use Rattle.graph.specs.Joining.{leads_of}
use Rattle.graph.specs.Shape.{shape_of}
use Rattle.graph.specs.code.Tables.{items_of, lines_of, graph_of}
use Rattle.graph.specs.code.Graphs.{dag_in, IsAnswer}
use Rattle.graph.specs.Laws.{texts_at, Begins, Texts, Named, Laws}
use Rattle.graph.proofs.AimLaws.{all_in}
use Rattle.graph.proofs.Gathers.{Bytes, graph-laws, box-byte}
use Rattle.graph.proofs.Cuts.{length-graph}
use Rattle.order.specs.Chains.{columns as first_columns}
use Rattle.grid.specs.declared.BoxRecord.{BoxRecord}
use Rattle.grid.specs.declared.SheetRecord.{SheetRecord}
use Rattle.grid.specs.declared.LabelPlace.{LabelPlace}
use Rattle.grid.specs.declared.TextPlace.{TextPlace}
use Rattle.grid.specs.declared.TextPlace.TheVariants.{InChart, InTable}
use Rattle.grid.specs.Lists.{total}
use Rattle.grid.specs.Record.{no_box}
use Rattle.grid.specs.Heights.{heights}
use Rattle.grid.specs.Columns.{columns}
use Rattle.grid.specs.RenderNode.{Text, drawn, end_texts, text_if, line_texts, line_length, text_length, end_width, source_gap, sink_gap, first_x, input_y, output_y, center_y, inner_width, center_width}
use Rattle.grid.specs.RenderGrid.{Sheet, text_moved, box_of, sheet_of, sheet}
use Rattle.grid.specs.Curves.{no_outputs, record_of}
use Rattle.grid.specs.Sheeted.{Sheeted, ready, refusal, within, drawn as drawn_at, sheet_of_dag, sheeted, answer_of}
use Rattle.grid.specs.BoxTheorem.{BoxTheorem}
use Rattle.grid.proofs.Sheets.{Made}
use Rattle.grid.specs.Labels.{character_width, place_of, label_at, label_of}
use Rattle.grid.specs.code.Sited.{node_label}
use Rattle.std.specs.Prelude.{Option, Some, None, Result, Ok, Err}
use Rattle.grid.specs.Labelled.{ready as labels, ready_or_15, label_in, label_on, labelled, label_place_of}
use Rattle.grid.proofs.LabelLaws.{label_sheet, label_past}
use Rattle.grid.proofs.TextLaws.{Blank, blank}

-- ---- the code's label is the definition's
-- a sheet that is handed out is that of the cut graph, and it is small
record Drawing (v : Setting) (s : List ℕ) (x y : ℕ) (d : Dag) : Type 0 where
  made : sheeted v s x y ≡ ready (sheet_of_dag d)
  wide : x + (sheet_of_dag d).width ≤ 8388608
  high : y + (sheet_of_dag d).height ≤ 8388608

fits : (v : Setting) (s : List ℕ) (x y : ℕ) (d : Dag) (r : SheetRecord) → graphed v s ≡ cut d → (a b : Bool) → within x (sheet_of_dag d).width ≡ a → within y (sheet_of_dag d).height ≡ b → answer_of x y (sheeted v s x y) ≡ Ok r → Drawing v s x y d
unfolding sheeted
fits v s x y d r c true true e f h = record { made = rw (c, e, f); wide = leb-true (x + (sheet_of_dag d).width) 8388608 e; high = leb-true (y + (sheet_of_dag d).height) 8388608 f }
fits v s x y d r c true false e f h =
    let g : answer_of x y (sheeted v s x y) ≡ Err TooFar = rw (c, e, f) in
    let z : ◌≡◌ {A = ℕ} 0 1 = cc in absurd (omega arith)
fits v s x y d r c false b e f h =
    let g : answer_of x y (sheeted v s x y) ≡ Err TooFar = rw (c, e) in
    let z : ◌≡◌ {A = ℕ} 0 1 = cc in absurd (omega arith)

module _ (v : Setting) (s : List ℕ) (x y : ℕ) (o : Result SheetRecord Refusal) (q : Made v s x y o) (w : Result Tables Refusal) (a : IsAnswer (graphed v s) w) (t : Tables) (h : w ≡ Ok t) where
  module _ (r : SheetRecord) (answered : o ≡ Ok r) where
    cut-is : graphed v s ≡ cut (dag_in t)
    cut-is = sym a.graphs ∙ rw h

    abbrev sh : Sheet
    sh = sheet_of_dag (dag_in t)

    drawing : Drawing v s x y (dag_in t)
    drawing = fits v s x y (dag_in t) r cut-is (within x sh.width) (within y sh.height) refl refl (sym q.whole ∙ answered)

    sheet-is : r ≡ record_of sh x y
    sheet-is = let z : Ok r ≡ answer_of x y (ready sh) = sym answered ∙ q.whole ∙ ap (answer_of x y) drawing.made in cc

    theorem : BoxTheorem (get_or s 1 0) (leads_in v s) t.cuts (graph_of t) r
    theorem = q.boxes (dag_in t) cut-is r answered

    width_is : r.width ≡ sh.width
    unfolding record_of
    width_is = ap (λ (r : SheetRecord). r.width) sheet-is

    height-is : r.height ≡ sh.height
    unfolding record_of
    height-is = ap (λ (r : SheetRecord). r.height) sheet-is

    many : length (graph_of t) ≡ t.n
    many = length-graph t.n (lines_of t) (items_of t.sources) (items_of t.sinks)

    abbrev box_at : ℕ → BoxRecord
    box_at k = get_or r.boxes k no_box

    -- a box's place is small enough for the sums
    pub sited : (k : ℕ) → k < t.n → ((box_at k).x ≤ 1250000000) × ((box_at k).y ≤ 1250000000)
    sited k l =
        let h : k < r.count = omega (arith, theorem.one_each, many) in
        (omega (arith, theorem.right k h, width_is, drawing.wide), omega (arith, theorem.bottom k h, height-is, drawing.high))

    labelled-is : (k i : ℕ) → labelled v s x y k i ≡ label_in sh k i
    unfolding labelled
    labelled-is k i = rw drawing.made

    module _ (k i : ℕ) where
      answer-by : (p : Option LabelPlace) → p ≡ label_of sh k i → label_place_of (ready_or_15 p) ≡ label_place_of (labelled v s x y k i)
      answer-by p e = ap (λ (u : Option LabelPlace). label_place_of (ready_or_15 u)) e ∙ sym (ap label_place_of (labelled-is k i))

      -- no such box
      pub place-past : t.n ≤ k → Err NotThere ≡ label_place_of (labelled v s x y k i)
      unfolding sheet_of_dag sheet
      place-past l =
          let g : Graph = graph_of t in
          let f : List ℕ = first_columns (shape_of g) in
          answer-by None (sym (label_past g t.cuts (columns (shape_of g) (heights (shape_of g)) f) (heights (shape_of g)) k i (omega (arith, many))))

      -- a box, whose node has a label i or not
      module _ (l : k < t.n) (p : Option LabelPlace) (e : p ≡ node_label (node_at (graph_of t) k) (box_at k).x (box_at k).y i) where
        place_is : p ≡ label_of sh k i
        unfolding sheet_of_dag sheet
        place_is =
            let g : Graph = graph_of t in
            let f : List ℕ = first_columns (shape_of g) in
            e
            ∙ ap (λ (r : SheetRecord). node_label (node_at g k) (get_or r.boxes k no_box).x (get_or r.boxes k no_box).y i) sheet-is
            ∙ label_sheet g t.cuts (columns (shape_of g) (heights (shape_of g)) f) (heights (shape_of g)) x y (omega (arith, many, (a.linked t h).nodes)) k i (omega (arith, many))

        pub place_answer : label_place_of (ready_or_15 p) ≡ label_place_of (labelled v s x y k i)
        place_answer = answer-by p place_is

-- a refused sheet has no label
pub place-refused : (v : Setting) (s : List ℕ) (x y : ℕ) (o : Result SheetRecord Refusal) → Made v s x y o → (k i : ℕ) (why : Refusal) → o ≡ Err why → Err why ≡ label_place_of (labelled v s x y k i)
unfolding labelled
place-refused v s x y o q k i why e = go (sheeted v s x y) (sym q.whole ∙ e)
  where
    go : (h : Sheeted) → answer_of x y h ≡ Err why → Err why ≡ label_place_of (label_on k i h)
    go (ready sh) f = let z : ◌≡◌ {A = ℕ} 0 1 = cc in absurd (omega arith)
    go (refusal u) f = let z : u ≡ why = cc in rw z

-- ---- where a label's text lies
-- a text of the chart s: it lies within, has whole characters, and these are as many as its length says
pub record Whole (s : List ℕ) (at len : ℕ) : Type 0 where
  pub inside : ending len s at ≤ length s
  pub texted : Texted (text_of s (record { at = at; len = len }))
  pub counted : characters_in (text_of s (record { at = at; len = len })) ≡ len

fitting-whole : (s : List ℕ) (p : Part) → Fitting s p → Whole s p.at p.len
fitting-whole s p h = record { inside = h.inside; texted = h.texted; counted = h.counted }

-- a text of the chart s, or one of the 287 fixed texts
abbrev Held : List ℕ → Line → Type 0
Held s (given p) = Whole s p.at p.len
Held s (number q) = q < 32
Held s (invalid t) = (0 < t) × (t < 256)

-- the line that fixed text j shows
abbrev pub fixed_line : ℕ → Line
fixed_line j = cond (ltb j 32) (number j) (invalid (j - 31))

-- how many characters a label's text has
abbrev pub characters_of : TextPlace → ℕ
characters_of (InChart at len) = len
characters_of (InTable q) = line_length (fixed_line q)

pub record Lies (s : List ℕ) (p : LabelPlace) : Type 0 where
  pub whole : (at len : ℕ) → p.text ≡ InChart at len → Whole s at len
  pub below : (q : ℕ) → p.text ≡ InTable q → q < 287
  -- 'The rule for widths moves from bytes to characters'
  pub wide : p.width ≡ character_width p.size * characters_of p.text

module _ (v : Setting) (s : List ℕ) where
  abbrev Kept : Text → Type 0
  Kept t = Held s t.line × (t.width ≡ character_width t.size * line_length t.line)

  -- an edge's text is drawn only if it is not empty
  abbrev Short : Part → Type 0
  Short p = 0 < p.len → Whole s p.at p.len

  place-lies : (x y size width : ℕ) (l : Line) → Held s l → width ≡ character_width size * line_length l → Lies s (place_of (record { x = x; y = y; size = size; width = width; line = l }))
  place-lies x y size width (given p) h w = record { whole = λ at len e. let a : p.at ≡ at = cc in let b : p.len ≡ len = cc in rw (a, b) at h; below = λ q e. let z : ◌≡◌ {A = ℕ} 0 1 = cc in absurd (omega arith); wide = w }
  place-lies x y size width (number q) h w =
      record {
        whole = λ at len e. let z : ◌≡◌ {A = ℕ} 0 1 = cc in absurd (omega arith);
        below = λ r e. let a : q ≡ r = cc in omega (arith, h, a);
        wide = rw (lt-ltb q 32 h) w;
      }
  place-lies x y size width (invalid t) h w =
      let z : t + 31 - 31 ≡ t = omega arith in
      record {
        whole = λ at len e. let z : ◌≡◌ {A = ℕ} 0 1 = cc in absurd (omega arith);
        below = λ r e. let a : t + 31 ≡ r = cc in omega (arith, h.1, a);
        wide = rw (le-ltb (t + 31) 32 (omega (arith, h.0)), z) w;
      }

  label_lies : (ts : List Text) → All Kept ts → (i : ℕ) (p : LabelPlace) → label_at ts i ≡ Some p → Lies s p
  label_lies [] a i p e = let z : ◌≡◌ {A = ℕ} 0 1 = cc in absurd (omega arith)
  label_lies (t ∷ ts) a zero p e = let f : place_of t ≡ p = cc in rw f at (place-lies t.x t.y t.size t.width t.line a.0.0 a.0.1)
  label_lies (t ∷ ts) a (suc i) p e = label_lies ts a.1 i p e

  if_kept : (b : Bool) (t : Text) (ts : List Text) → (b ≡ true → Kept t) → All Kept ts → All Kept (text_if b t ts)
  if_kept true t ts h a = (h refl, a)
  if_kept false t ts h a = a

  ends-kept : (gap x y : ℕ) (es : List Edge) → All Short (texts_at es) → All Kept (end_texts gap x y es)
  ends-kept gap x y [] a = tt
  ends-kept gap x y (e ∷ es) a =
      if_kept (ltb 0 (text_length e)) (record { x = x; y = y; size = 232; width = end_width e; line = given e.text }) (end_texts gap (x + end_width e + gap) y es)
      (λ h. (a.0 (ltb-true 0 (text_length e) h), refl)) (ends-kept gap (x + end_width e + gap) y es a.1)

  lines-kept : (x wy : ℕ) (ls : List Line) → All (Held s) ls → All Kept (line_texts x wy ls)
  lines-kept x wy [] a = tt
  lines-kept x wy (l ∷ ls) a = ((a.0, refl), lines-kept x (wy + 512 + 128) ls a.1)

  record Holds (n : Node) : Type 0 where
    sources : All Short (texts_at n.sources)
    lines : All (Held s) n.lines
    sinks : All Short (texts_at n.sinks)

  node_kept : (n : Node) → Holds n → All Kept (drawn n).texts
  unfolding drawn
  node_kept n h =
      let a = end_texts (source_gap n) (first_x (source_gap n) n.sources) (input_y n + 256 - 48) n.sources in
      let b = line_texts ((inner_width n - center_width n) / 2 + 128) (center_y n) n.lines in
      let c = end_texts (sink_gap n) (first_x (sink_gap n) n.sinks) (output_y n - 48) n.sinks in
      all_join Kept (a ++ b) c
      (all_join Kept a b
      (ends-kept (source_gap n) (first_x (source_gap n) n.sources) (input_y n + 256 - 48) n.sources h.sources)
      (lines-kept ((inner_width n - center_width n) / 2 + 128) (center_y n) n.lines h.lines))
      (ends-kept (sink_gap n) (first_x (sink_gap n) n.sinks) (output_y n - 48) n.sinks h.sinks)

  -- ---- of a given node, and of an inserted one
  blanks_short : (k : ℕ) → All Short (replicate k no_text)
  blanks_short zero = tt
  blanks_short (suc k) = (λ h. absurd (omega arith), blanks_short k)

  begun_short : (old new : List Part) → Begins old new → All Short old → All Short new
  begun_short old new b a = rw b.texts (all_join Short old (replicate b.blanks no_text) a (blanks_short b.blanks))

  none_short : (es : List Edge) → total (map text_length es) ≡ 0 → All Short (texts_at es)
  none_short [] e = tt
  none_short (x ∷ es) e = (λ h. absurd (omega (arith, e)), none_short es (omega (arith, e)))

  ends_short : (n : ℕ) (es : List End) → All (Aimed v s n) es → All Short (texts_at (map unmarked es))
  ends_short n [] a = tt
  ends_short n (e ∷ es) a = (λ h. fitting-whole s e.text a.0.fits.text, ends_short n es a.1)

  given_holds : (n : ℕ) (p : GivenNode) → Formed v s n p → Holds (given_node p)
  given_holds n p f =
      record {
        sources = ends_short n p.sources f.sources;
        lines = all_made (Fitting s) (Held s) given (fitting-whole s) p.lines f.lines;
        sinks = ends_short n p.sinks f.sinks;
      }

  module _ (bytes : Bytes s) (d : Dag) (laws : Laws v s d) where
    abbrev ps : Board
    ps = laws.board

    abbrev old : Graph
    old = given_graph ps

    ac : Accepted v s ps
    ac = accepted v s ps laws.read

    long : length old ≡ length ps
    long = length-map ps given_node

    all_hold : All Holds old
    all_hold = all_made (Formed v s (length ps)) Holds given_node (given_holds (length ps)) ps ac.formed

    node_holds : (k : ℕ) → k < length d.graph → (b : Bool) → ltb k (length ps) ≡ b → Holds (node_at d.graph k)
    node_holds k h true e =
        let i : k < length ps = ltb-true k (length ps) e in
        let o : Holds (node_at old k) = all_in Holds old k bare (omega (arith, long)) all_hold in
        let t : Texts old d.graph k = laws.texts k i in
        record {
          sources = begun_short (texts_at (node_at old k).sources) (texts_at (node_at d.graph k).sources) t.sources o.sources;
          lines = rw (laws.lines k i) o.lines;
          sinks = begun_short (texts_at (node_at old k).sinks) (texts_at (node_at d.graph k).sinks) t.sinks o.sinks;
        }
    node_holds k h false e =
        let l : length ps ≤ k = ltb-false k (length ps) e in
        let b : Blank (node_at d.graph k) = past_blank k h l in
        record {
          sources = none_short (node_at d.graph k).sources (omega (arith, b));
          lines = past_line k h l (ltb k (length ps + leads_of ps)) refl;
          sinks = none_short (node_at d.graph k).sinks (omega (arith, b));
        }
      where
        -- a lead's box, or a cut's
        past_line : (k : ℕ) → k < length d.graph → length ps ≤ k → (c : Bool) → ltb k (length ps + leads_of ps) ≡ c → All (Held s) (node_at d.graph k).lines
        past_line k h l true e =
            let o = box-byte v s bytes d laws k l (ltb-true k (length ps + leads_of ps) e) in
            rw o.line ((omega (arith, o.given, o.past), omega (arith, o.small)), tt)
        past_line k h l false e =
            let m : Named (length ps) (node_at d.graph k).lines = laws.inserted k (ltb-false k (length ps + leads_of ps) e) h in
            rw m.line (omega (arith, m.inside, ac.nodes), tt)

        past_blank : (k : ℕ) → k < length d.graph → length ps ≤ k → Blank (node_at d.graph k)
        past_blank k h l =
            let z : length old + (k - length old) ≡ k = omega (arith, long) in
            let b : Blank (get_or (drop (length old) d.graph) (k - length old) bare) =
            all_in Blank (drop (length old) d.graph) (k - length old) bare (omega (arith, length-drop (length old) d.graph, long)) (blank v s d laws) in
            rw (get_or-drop (length old) d.graph (k - length old) bare, z) at b

    box_kept : (cols rows : List ℕ) (k : ℕ) → (b : Bool) → ltb k (length d.graph) ≡ b → All Kept (get_or (tabulate (box_of d.graph cols rows) 0 (length d.graph)) k no_outputs).texts
    box_kept cols rows k true e =
        let h : k < length d.graph = ltb-true k (length d.graph) e in
        let f : get_or (tabulate (box_of d.graph cols rows) 0 (length d.graph)) k no_outputs ≡ box_of d.graph cols rows k =
        get_d_tabulate (box_of d.graph cols rows) 0 (length d.graph) k no_outputs h ∙ ap (box_of d.graph cols rows) (zero-add k) in
        rw f
        (all_made Kept Kept (text_moved (box_of d.graph cols rows k).x (box_of d.graph cols rows k).y) (λ t m. m) (drawn (node_at d.graph k)).texts
        (node_kept (node_at d.graph k) (node_holds k h (ltb k (length ps)) refl)))
    box_kept cols rows k false e =
        let l : length (tabulate (box_of d.graph cols rows) 0 (length d.graph)) ≤ k =
        omega (arith, length-tabulate (box_of d.graph cols rows) 0 (length d.graph), ltb-false k (length d.graph) e) in
        rw (get_or-eq_default (tabulate (box_of d.graph cols rows) 0 (length d.graph)) no_outputs l) tt

    sheet_lies : (k i : ℕ) (p : LabelPlace) → label_of (sheet_of_dag d) k i ≡ Some p → Lies s p
    unfolding sheet_of_dag sheet sheet_of
    sheet_lies k i =
        let g : Graph = d.graph in
        let rows : List ℕ = heights (shape_of g) in
        let cols : List ℕ = columns (shape_of g) rows (first_columns (shape_of g)) in
        label_lies (get_or (tabulate (box_of g cols rows) 0 (length g)) k no_outputs).texts (box_kept cols rows k (ltb k (length g)) refl) i

  -- a label's text is a text of the chart, or one of the 287 fixed texts
  pub labelled_lies : Bytes s → (x y k i : ℕ) (p : LabelPlace) → labelled v s x y k i ≡ labels p → Lies s p
  unfolding labelled sheeted
  labelled_lies bytes x y k i p e = go (graphed v s) refl e
    where
      in_sheet : (sh : Sheet) → ((q : LabelPlace) → label_of sh k i ≡ Some q → Lies s q) → (o : Option LabelPlace) → label_of sh k i ≡ o → ready_or_15 o ≡ labels p → Lies s p
      in_sheet sh l (Some q) f e = let g : q ≡ p = cc in rw g at (l q f)
      in_sheet sh l None f e = let z : ◌≡◌ {A = ℕ} 0 1 = cc in absurd (omega arith)

      fitting : (sh : Sheet) → ((q : LabelPlace) → label_of sh k i ≡ Some q → Lies s q) → (b : Bool) → label_on k i (cond b (ready sh) (refusal TooFar)) ≡ labels p → Lies s p
      fitting sh l true e = in_sheet sh l (label_of sh k i) refl e
      fitting sh l false e = let z : ◌≡◌ {A = ℕ} 0 1 = cc in absurd (omega arith)

      go : (h : Graphed) → graphed v s ≡ h → label_on k i (drawn_at x y h) ≡ labels p → Lies s p
      go (cut d) c f = fitting (sheet_of_dag d) (sheet_lies bytes d (graph-laws v s d c) k i) (within x (sheet_of_dag d).width && within y (sheet_of_dag d).height) f
      go (uncut why) c f = let z : ◌≡◌ {A = ℕ} 0 1 = cc in absurd (omega arith)
