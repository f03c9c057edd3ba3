-- From the definition's sheet to the record that is handed out: the box theorem of what `sheet` makes.
-- Assumes nothing.
use Prim.Native.Nat.{ℕ, ◌+◌, ◌-◌, ◌*◌, ◌≤◌, ◌<◌}
use native.Mathlib.Omega.{arith}
use mathlib.Core.Path.{◌≡◌, refl, ap, sym, subst, ◌∙◌}
use mathlib.Core.Logic.{◌⊎◌}
use mathlib.Core.Bool.{Bool, true, false, cond, ◌&&◌}
use mathlib.Core.List.{List, [], ◌∷◌, ◌++◌, map}
use lib.Dec.{ltb}
use lib.ListN.{length, get_or, take, drop, replicate, get_or-map}
use lib.Seq.{get_or-take, take_at}
use borrow.Author.Tests.{ltb-true, ltb-false, le-leb}
use Rattle.laws.specs.Lists.{All}
use Rattle.laws.proofs.Lists.{all_made, get_d_padded, take-padded}
use Rattle.tables.specs.declared.Table.{Table}
use Rattle.tables.specs.Tables.{empty}
use Rattle.refusals.specs.declared.Refusal.{Refusal}
use Rattle.refusals.specs.declared.Refusal.TheVariants.{TooFar}
use Rattle.chart.specs.declared.Setting.{Setting}
use Rattle.graph.specs.declared.Tables.{Tables}
use Rattle.graph.specs.Graph.{Edge, Graph, node_at}
use Rattle.graph.specs.Shape.{Shape, targets, shape_of}
use Rattle.graph.specs.Items.{Ends}
use Rattle.graph.specs.Ends.{ends_in, shape_from, Linked}
use Rattle.graph.specs.Graphed.{Dag, ready as cut, refusal as refused, graphed, leads_read, leads_in}
use Rattle.graph.specs.Joining.{leads_of}
use Rattle.graph.specs.code.Tables.{items_of, lines_of, graph_of}
use Rattle.graph.specs.code.Graphs.{dag_in, IsAnswer}
use Rattle.graph.specs.Laws.{Aimed, Laws}
use Rattle.graph.proofs.Gathers.{graph-laws, line-room, tables-are, laws-of}
use Rattle.graph.proofs.Cuts.{length-graph}
use Rattle.graph.proofs.EndsLaws.{shape-held, sources-long, sinks-long, shape-long}
use Rattle.order.specs.Chains.{columns as first_columns}
use Rattle.order.specs.Claims.{Under, Aimed as Led, EachOnce}
use Rattle.order.proofs.Nodes.{each-once}
use Rattle.order.proofs.Pushed.{shape_size}
use Rattle.std.specs.Prelude.{Option, Some, Result, Ok, Err}
use Rattle.std.specs.Option.{unwrap_or}
use Rattle.order.specs.Ordered.{columns_held, columns_in, IsColumns}
use Rattle.order.proofs.Graphs.{columns-are, sources-linked, sinks-linked, size}
use Rattle.grid.specs.declared.BoxRecord.{BoxRecord}
use Rattle.grid.specs.declared.SheetRecord.{SheetRecord}
use Rattle.grid.specs.Heights.{heights}
use Rattle.grid.specs.Columns.{columns}
use Rattle.grid.specs.code.Arrays.{Inside}
use Rattle.grid.specs.code.Laid.{Bounded}
use Rattle.grid.specs.code.Placed.{Placed, FirstColumns}
use Rattle.grid.specs.code.Rendered.{Seated}
use Rattle.grid.specs.RenderNode.{drawn, box_width, box_height}
use Rattle.grid.specs.RenderGrid.{Box, Sheet, owner_in, sheet_of, sheet}
use Rattle.grid.specs.Record.{no_box}
use Rattle.grid.specs.Curves.{no_outputs, box_record, record_of}
use Rattle.grid.specs.Cells.{Apart}
use Rattle.grid.proofs.SheetTheorem.{SheetTheorem, box as box_in}
use Rattle.grid.specs.Sheeted.{ready, refusal, within, fitted, sheet_of_dag, sheeted, answer_of}
use Rattle.grid.specs.code.Laid.{fitted_of}
use Rattle.grid.specs.BoxTheorem.{box, cell, Names, Across, Down, BoxTheorem}
use Rattle.grid.proofs.HeightLaws.{heights-long}
use Rattle.grid.proofs.ColumnLaws.{first-placed, columns-placed}
use Rattle.grid.proofs.RoundLaws.{heights-take, heights-inside}
use Rattle.grid.proofs.BoxTheorem.{sheet-theorem, columns-few, rows_few, never_14 as fits}
use Rattle.grid.proofs.TextLaws.{small}
use Rattle.grid.proofs.OwnerLaws.{Owners, owners-inside, graph-owners}
use Rattle.grid.proofs.CellLaws.{cell-named, named-cell, cell-empty, empty-cell}

-- the sheet sh of the graph g, at the origin x y
module _ (n leads cuts : ℕ) (g : Graph) (sh : Sheet) (t : SheetTheorem n leads cuts g sh) (o : Owners n leads cuts g) (few : length sh.boxes ≤ 48) (wide : sh.columns ≤ 144) (high : sh.rows ≤ 48) (x y : ℕ) where
  abbrev r : SheetRecord
  r = record_of sh x y

  count-is : r.count ≡ length sh.boxes
  unfolding record_of
  count-is = refl

  -- a box of the record is that of the sheet
  box-is : (k : ℕ) → k < r.count → box r k ≡ box_record (box_in sh k)
  unfolding record_of
  box-is k h = get_d_padded 48 no_box (map box_record sh.boxes) k no_box (omega arith) ∙ get_or-map box_record sh.boxes k no_outputs

  in_sheet : (k : ℕ) → k < r.count → k < length sh.boxes
  in_sheet k h = omega (arith, count-is)

  in_graph : (k : ℕ) → k < r.count → k < length g
  in_graph k h = omega (arith, count-is, t.one_each)

  width_of : (k : ℕ) → k < r.count → (box r k).width ≡ box_width (node_at g k)
  unfolding drawn
  width_of k h = ap (λ (b : BoxRecord). b.width) (box-is k h) ∙ ap (λ (b : Box). b.width) (t.node's k (in_graph k h))

  height-of : (k : ℕ) → k < r.count → (box r k).height ≡ box_height (node_at g k)
  unfolding drawn
  height-of k h = ap (λ (b : BoxRecord). b.height) (box-is k h) ∙ ap (λ (b : Box). b.height) (t.node's k (in_graph k h))

  owner-is : (k : ℕ) → k < r.count → (box r k).owner ≡ owner_in k (node_at g k).lines
  owner-is k h = ap (λ (b : BoxRecord). b.owner) (box-is k h) ∙ ap (λ (b : Box). b.owner) (t.node's k (in_graph k h))

  column-below : (k : ℕ) → k < r.count → (box r k).column < sh.columns
  column-below k h = omega (arith, ap (λ (b : BoxRecord). b.column) (box-is k h), (t.has_cell k (in_sheet k h)).0)

  row_below : (k : ℕ) → k < r.count → (box r k).row < sh.rows
  row_below k h = omega (arith, ap (λ (b : BoxRecord). b.row) (box-is k h), (t.has_cell k (in_sheet k h)).1)

  names : (k c w : ℕ) → k < r.count → Names r k c w → ((box_in sh k).column ≡ c) × ((box_in sh k).row ≡ w)
  names k c w h q = (sym (ap (λ (b : BoxRecord). b.column) (box-is k h)) ∙ q.0, sym (ap (λ (b : BoxRecord). b.row) (box-is k h)) ∙ q.1)

  two : (i j c w : ℕ) → i < r.count → j < r.count → Names r i c w → Names r j c w → i ≡ j
  two i j c w hi hj p q = t.no_two i j c w (in_sheet i hi) (in_sheet j hj) (names i c w hi p) (names j c w hj q)

  apart : Apart r
  apart =
      record {
        few = omega (arith, count-is);
        rows = λ k h. omega (arith, row_below k h);
        columns = λ k h. omega (arith, column-below k h);
        no_two = λ i j hi hj p q. two i j (box r j).column (box r j).row hi hj (q, p) (refl, refl);
      }

  -- the rows of cells show a box where it is named, and nothing elsewhere
  module _ (c w : ℕ) (hc : c < sh.columns) (hw : w < sh.rows) where
    lw : w < 48
    lw = omega arith

    lc : c < 144
    lc = omega arith

    shows : (k : ℕ) → k < r.count → Names r k c w → cell r c w ≡ k
    shows k h q = named-cell r apart w c lw lc k h (record { row = q.1; column = q.0 })

    hollow : cell r c w ≡ 255 → (k : ℕ) → k < r.count → Names r k c w → ⊥
    hollow e k h q = cell-empty r apart w c lw lc e k h (record { row = q.1; column = q.0 })

    unnamed : ((k : ℕ) → k < r.count → Names r k c w → ⊥) → cell r c w ≡ 255
    unnamed f = empty-cell r apart w c lw lc (λ k h q. f k h (q.column, q.row))

    other : (k : ℕ) → k < 255 → cell r c w ≡ k → (k < r.count) × Names r k c w
    other k l e = go (ltb k r.count) refl
      where
        far : r.count ≤ k → (j : ℕ) → j < r.count → Names r j c w → ⊥
        far m j h q = omega (arith, shows j h q, e)

        go : (b : Bool) → ltb k r.count ≡ b → (k < r.count) × Names r k c w
        go true i = let h = ltb-true k r.count i in let q = cell-named r apart w c lw lc k h e in (h, (q.column, q.row))
        go false i = let m = ltb-false k r.count i in absurd (omega (arith, unnamed (far m), e))

  across : (i j : ℕ) → i < r.count → j < r.count → (i ≡ j → ⊥) → Across (box r i) (box r j) ⊎ Down (box r i) (box r j)
  across i j hi hj o = rw (box-is i hi, box-is j hj) (t.distance i j (in_sheet i hi) (in_sheet j hj) o)

  pub boxed : BoxTheorem n leads cuts g r
  unfolding record_of
  boxed =
      record {
        one_each = t.one_each;
        given = t.given;
        widths = width_of;
        heights = height-of;
        boxes = t.boxes;
        walked = t.reports;
        columns = wide;
        rows = high;
        in_cell = λ k h. (column-below k h, row_below k h, shows (box r k).column (box r k).row (column-below k h) (row_below k h) k h (refl, refl));
        no_other = λ k c w hc hw l e. other c w hc hw k l e;
        no_two = two;
        empty = λ c w hc hw. (hollow c w hc hw, unnamed c w hc hw);
        distance = across;
        left = λ k h. rw (box-is k h) (t.left k (in_sheet k h));
        top = λ k h. rw (box-is k h) (t.top k (in_sheet k h));
        right = λ k h. rw (box-is k h) (t.right k (in_sheet k h));
        bottom = λ k h. rw (box-is k h) (t.bottom k (in_sheet k h));
        owner_given = λ k h. owner-is k (omega (arith, t.given, count-is)) ∙ o.given k h;
        owner_lead = λ k l h. owner-is k (omega (arith, t.boxes, count-is)) ∙ o.lead k l h;
        owner_cut = λ k l h. let q = o.cut k l (in_graph k h) in rw (owner-is k h) q;
        owner_halves = λ j h.
            owner-is (n + leads + 2 * j) (omega (arith, t.boxes, count-is, t.reports)) ∙ o.halves j h
            ∙ sym (owner-is (n + leads + 2 * j + 1) (omega (arith, t.boxes, count-is, t.reports)));
        owners = λ k h e. rw (owner-is k h) (owners-inside n leads cuts g o k (in_graph k h) (λ z. e (owner-is k h ∙ z)));
      }

-- ---- what the lower crates promise
module _ (v : Setting) (s : List ℕ) (w : Result Tables Refusal) (a : IsAnswer (graphed v s) w) (t : Tables) (o : w ≡ Ok t) (first : Table ℕ 48) (f : first ≡ unwrap_or (columns_in t.n (ends_in t.sources) (ends_in t.sinks)) (empty 48 0)) where
  abbrev firsts : List ℕ
  firsts = first_columns (shape_of (graph_of t))

  from : Linked t.n (ends_in t.sources)
  from = sources-linked t (sources-long t v s w a o) (sinks-long t v s w a o) (a.linked t o)

  to : Linked t.n (ends_in t.sinks)
  to = sinks-linked t (sources-long t v s w a o) (sinks-long t v s w a o) (a.linked t o)

  -- the table of the first columns
  abbrev held : Table ℕ 48
  held = columns_held (first_columns (shape_from t.n (ends_in t.sources) (ends_in t.sinks)))

  columned : IsColumns t.n (ends_in t.sources) (ends_in t.sinks) (Some held)
  columned = columns-are t.n (ends_in t.sources) (ends_in t.sinks) from to held refl

  held-is : first ≡ held
  held-is = f ∙ ap (λ (o : Option (Table ℕ 48)). unwrap_or o (empty 48 0)) (sym columned.whole)

  once : EachOnce t.n (take t.n first.items)
  once = rw held-is (columned.each held refl)

  -- the first columns that the code hands on
  pub first-is : take t.n first.items ≡ firsts
  first-is =
      let long : length firsts ≡ t.n = size t (sources-long t v s w a o) (sinks-long t v s w a o) (a.linked t o) in
      ap (λ (cs : Table ℕ 48). take t.n cs.items) (held-is ∙ ap (λ (g : Shape). columns_held (first_columns g)) (shape-held t))
      ∙ ap (λ (k : ℕ). take k (columns_held firsts).items) (sym long)
      ∙ take-padded 48 0 firsts (omega (arith, long, (a.linked t o).nodes))

  pub firsts-are : FirstColumns t.n (take t.n first.items)
  firsts-are =
      record {
        long = once.size;
        below = λ k h. let e = once.even k h in omega (arith, e.1, e.2);
        distinct = λ i j hi hj e. once.one i j hi hj e;
      }

  pub seated : Seated t
  seated = record { linked = a.linked t o; line_room = line-room v s t (tables-are v s w a t o) (laws-of v s w a t o); sources_long = sources-long t v s w a o; sinks_long = sinks-long t v s w a o }

-- ---- the stages one after the other
module _ (t : Tables) (z : Seated t) (from to : Ends) (e : from ≡ ends_in t.sources) (e₂ : to ≡ ends_in t.sinks) where
  abbrev shape : Shape
  shape = shape_from t.n from to

  shape_is : shape ≡ shape_of (graph_of t)
  shape_is = rw (e, e₂) (shape-held t)

  pub from-linked : Linked t.n from
  from-linked = rw e (sources-linked t z.sources_long z.sinks_long z.linked)

  pub to-linked : Linked t.n to
  to-linked = rw e₂ (sinks-linked t z.sources_long z.sinks_long z.linked)

  shape-nodes : length shape ≡ t.n
  shape-nodes = shape_size t.n from to from-linked to-linked

  few-boxes : t.n ≤ 48
  few-boxes = z.linked.nodes

  rows_long : length (heights shape) ≡ t.n
  rows_long = heights-long shape ∙ shape-nodes

  -- the leads that the code holds are the shape's
  module _ (held : Shape) (s : held ≡ shape) (rows : List ℕ) (h : rows ≡ heights held ++ replicate (48 - length held) 0) where
    pub held-nodes : length held ≡ t.n
    held-nodes = ap length s ∙ shape-nodes

    rows_are : take t.n rows ≡ heights shape
    rows_are = heights-take t.n shape shape-nodes few-boxes rows (rw (s, shape-nodes) at h)

    pub rows_inside : (length (take t.n rows) ≡ length held) × Inside 48 (take t.n rows)
    rows_inside = rw (rows_are, held-nodes) (rows_long, heights-inside t.n shape shape-nodes few-boxes)

    pub rows_bounded : Bounded 47 rows t.n
    rows_bounded =
        record { most = λ k l. omega (arith, get_or-take t.n rows k 0 l, rows_inside.1.below k (omega (arith, rows_inside.0, held-nodes))) }

    module _ (first : List ℕ) (f : FirstColumns t.n (take t.n first)) (some : List ℕ) (c : some ≡ columns held (take t.n rows) (take t.n first)) where
      placed : Placed t.n (3 * t.n) (heights shape) (columns shape (heights shape) (take t.n first))
      placed = columns-placed t.n (heights shape) rows_long shape shape-nodes (take t.n first) (first-placed t.n (heights shape) (take t.n first) f)

      abbrev cols : List ℕ
      cols = some ++ drop t.n first

      cols_are : take t.n cols ≡ columns shape (heights shape) (take t.n first)
      cols_are = let e = rw (s, rows_are) at c in take_at some (drop t.n first) t.n (rw e placed.long) ∙ e

      pub cols_bounded : Bounded 143 cols t.n
      cols_bounded =
          record { most = λ k l. omega (arith, few-boxes, get_or-take t.n cols k 0 l, ap (λ (u : List ℕ). get_or u k 0) cols_are, placed.below k l) }

      pub laid-is : sheet_of (graph_of t) t.cuts (take t.n cols) (take t.n rows) ≡ sheet (graph_of t) t.cuts (take t.n first)
      unfolding sheet
      laid-is =
          let a : take t.n rows ≡ heights (shape_of (graph_of t)) = rows_are ∙ ap heights shape_is in
          let b : take t.n cols ≡ columns (shape_of (graph_of t)) (heights (shape_of (graph_of t))) (take t.n first) =
          cols_are ∙ ap (λ (g : Shape). columns g (heights g) (take t.n first)) shape_is in
          cc

-- ---- refusal 14
fit-cases : (b : Bool) (sh : Sheet) (x y : ℕ) → cond b (Ok (record_of sh x y)) (Err TooFar) ≡ answer_of x y (cond b (ready sh) (refusal TooFar))
fit-cases true sh x y = refl
fit-cases false sh x y = refl

fit_record : (sh : Sheet) (x y : ℕ) → fitted_of (record_of sh x y) ≡ answer_of x y (fitted x y sh)
unfolding record_of
fit_record sh x y = fit-cases (within x sh.width && within y sh.height) sh x y

-- a sheet that fits is handed out as it is
fit-ready : (b : Bool) (sh : Sheet) (x y : ℕ) (r : SheetRecord) → answer_of x y (cond b (ready sh) (refusal TooFar)) ≡ Ok r → r ≡ record_of sh x y
fit-ready true sh x y r e = cc
fit-ready false sh x y r e = let z : ◌≡◌ {A = ℕ} 0 1 = cc in absurd (omega arith)

-- a graph's sheet, by whether it fits
module _ (sh : Sheet) (x y : ℕ) (s : SheetRecord) (e : s ≡ record_of sh x y) where
  at_x : s.x ≡ x
  unfolding record_of
  at_x = ap (λ (r : SheetRecord). r.x) e

  at_y : s.y ≡ y
  unfolding record_of
  at_y = ap (λ (r : SheetRecord). r.y) e

  pub arranged_fits : (within x s.width && within y s.height) ≡ true → Ok s ≡ fitted_of (record_of sh x y)
  arranged_fits b = let f : Ok s ≡ fitted_of s = rw (at_x, at_y, b) in f ∙ ap fitted_of e

  pub arranged_past : (within x s.width && within y s.height) ≡ false → Err TooFar ≡ fitted_of (record_of sh x y)
  arranged_past b = let f : Err TooFar ≡ fitted_of s = rw (at_x, at_y, b) in f ∙ ap fitted_of e

-- ---- what `sheet` makes: every field is the definition's, and the box theorem holds of it
pub record Made (v : Setting) (s : List ℕ) (x y : ℕ) (r : Result SheetRecord Refusal) : Type 0 where
  pub whole : r ≡ answer_of x y (sheeted v s x y)
  pub boxes : (d : Dag) → graphed v s ≡ cut d → (sheet : SheetRecord) → r ≡ Ok sheet → BoxTheorem (get_or s 1 0) (leads_in v s) d.cuts d.graph sheet

-- the leads of a chart that is drawn
pub leads-are : (v : Setting) (s : List ℕ) (d : Dag) (l : Laws v s d) → leads_of l.board ≡ leads_in v s
unfolding leads_in
leads-are v s d l = sym (ap leads_read l.read)

module _ (v : Setting) (s : List ℕ) (x y : ℕ) (w : Result Tables Refusal) (a : IsAnswer (graphed v s) w) where
  none-cut : {A : Type 0} (why : Refusal) (d : Dag) → refused why ≡ cut d → A
  none-cut why d e = let z : ◌≡◌ {A = ℕ} 0 1 = cc in absurd (omega arith)

  same-dag : (d e : Dag) → cut d ≡ cut e → d ≡ e
  same-dag d e q = cc

  pub sheet-refused : (why : Refusal) → w ≡ Err why → Made v s x y (Err why)
  unfolding sheeted
  sheet-refused why q =
      let g : graphed v s ≡ refused why = sym a.graphs ∙ rw q in
      record { whole = rw g; boxes = λ d h sheet k. none-cut why d (sym g ∙ h) }

  module _ (t : Tables) (o : w ≡ Ok t) (cs : Table ℕ 48) (q : cs ≡ unwrap_or (columns_in t.n (ends_in t.sources) (ends_in t.sinks)) (empty 48 0)) where
    abbrev g : Graph
    g = graph_of t

    abbrev first : List ℕ
    first = first_columns (shape_of g)

    abbrev drawing : Sheet
    drawing = sheet g t.cuts first

    laws : Laws v s (dag_in t)
    laws = laws-of v s w a t o

    many : length g ≡ t.n
    many = length-graph t.n (lines_of t) (items_of t.sources) (items_of t.sinks)

    columned_first : FirstColumns (length g) first
    columned_first =
        subst (λ (k : ℕ). FirstColumns k first) (sym many)
        (subst (λ (l : List ℕ). FirstColumns t.n l) (first-is v s w a t o cs q) (firsts-are v s w a t o cs q))

    theorem : SheetTheorem (get_or s 1 0) (leads_in v s) t.cuts g drawing
    theorem =
        sheet-theorem g first columned_first (get_or s 1 0) (leads_in v s) t.cuts
        (laws.nodes ∙ ap (λ (n : ℕ). n + leads_of laws.board + 2 * t.cuts) laws.given ∙ ap (λ (l : ℕ). get_or s 1 0 + l + 2 * t.cuts) (leads-are v s (dag_in t) laws))

    owned : Owners (get_or s 1 0) (leads_in v s) t.cuts g
    owned =
        subst (λ (n : ℕ). Owners n (leads_in v s) t.cuts g) laws.given
        (subst (λ (l : ℕ). Owners (length laws.board) l t.cuts g) (leads-are v s (dag_in t) laws) (graph-owners v s (dag_in t) laws))

    boxes-of : BoxTheorem (get_or s 1 0) (leads_in v s) t.cuts g (record_of drawing x y)
    boxes-of =
        boxed (get_or s 1 0) (leads_in v s) t.cuts g drawing theorem owned (omega (arith, theorem.one_each, laws.boxes))
        (columns-few g first columned_first t.cuts laws.boxes) (rows_few g first columned_first t.cuts laws.boxes) x y

    -- the sheet of an accepted chart, or 14
    pub sheet-is : (r : Result SheetRecord Refusal) → r ≡ fitted_of (record_of (sheet g t.cuts (take t.n cs.items)) x y) → Made v s x y r
    unfolding sheeted sheet_of_dag
    sheet-is r e =
        let c : graphed v s ≡ cut (dag_in t) = sym a.graphs ∙ rw o in
        let f : r ≡ answer_of x y (fitted x y drawing) = e ∙ ap (λ (l : List ℕ). fitted_of (record_of (sheet g t.cuts l) x y)) (first-is v s w a t o cs q) ∙ fit_record drawing x y in
        record {
          whole = rw c f;
          boxes = λ d h made k.
              let m : made ≡ record_of drawing x y = fit-ready (within x drawing.width && within y drawing.height) drawing x y made (sym f ∙ k) in
              subst (λ (i : Dag). BoxTheorem (get_or s 1 0) (leads_in v s) i.cuts i.graph made) (same-dag (dag_in t) d (sym c ∙ h)) (rw m boxes-of);
        }

-- ---- at origin 0 0 no chart meets refusal 14
under : (n : ℕ) (es : List Edge) → All (λ (e : Edge). e.to < n) es → Under n (targets es)
under n es a = all_made (λ (e : Edge). e.to < n) (λ (q : ℕ). q < n) (λ (e : Edge). e.to) (λ e h. h) es a

shape-aims : (n : ℕ) (g : Graph) → Aimed n g → Led n (shape_of g)
unfolding shape_of
shape-aims n [] a = tt
shape-aims n (p ∷ g) a = (under n p.sources a.0.sources, under n p.sinks a.0.sinks, shape-aims n g a.1)

pub firsts-of : (g : Graph) → Aimed (length g) g → FirstColumns (length g) (first_columns (shape_of g))
firsts-of g a =
    let h : Shape = shape_of g in
    let o : EachOnce (length g) (first_columns h) = rw (shape-long g) at (each-once h (subst (λ (k : ℕ). Led k h) (sym (shape-long g)) (shape-aims (length g) g a))) in
    record {
      long = o.size;
      below = λ k i. let e = o.even k i in omega (arith, e.1, e.2);
      distinct = λ i j hi hj e. o.one i j hi hj e;
    }

pub never_14 : (w : Setting) (s : List ℕ) (d : Dag) → graphed w s ≡ cut d → sheeted w s 0 0 ≡ ready (sheet_of_dag d)
unfolding sheeted sheet_of_dag
never_14 w s d c =
    let f = firsts-of d.graph (graph-laws w s d c).aimed in
    let z = fits d.graph (first_columns (shape_of d.graph)) f d.cuts (small w s d c) in
    rw (c, le-leb (0 + (sheet_of_dag d).width) 8388608 (omega (arith, z.0)), le-leb (0 + (sheet_of_dag d).height) 8388608 (omega (arith, z.1)))
