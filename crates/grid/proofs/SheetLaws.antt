-- The sheet that the arrays hold is the definition's.
-- Assumes nothing.
use Prim.Native.Nat.{ℕ, zero, suc, ◌+◌, ◌-◌, ◌/◌, ◌≤◌, ◌<◌}
use native.Mathlib.Omega.{arith}
use native.Mathlib.Numerals.{add-one}
use mathlib.Core.Path.{◌≡◌, refl, ap, sym, ◌∙◌, subst}
use mathlib.Core.Option.{Option, none, some}
use mathlib.Core.Bool.{Bool, true, false}
use mathlib.Core.List.{List, [], ◌∷◌, ◌++◌, map, append_assoc, append-nil}
use lib.Dec.{eqb}
use lib.ListN.{length, get_or, take, drop, replicate, length-append, length-take, length-map}
use lib.Seq.{get_or-take, length-take-le, drop-append_seam}
use borrow.Author.Tests.{lt-ltb}
use Rattle.laws.specs.Lists.{All, one, tabulate, keep, padded}
use Rattle.laws.specs.Each.{each}
use Rattle.laws.proofs.Lists.{length-tabulate, get_d_tabulate, tabulate_list, tabulate-same, map-tabulate, all_made, take-padded, padded-is, padded-set}
use Rattle.chart.specs.code.Filled.{lines_of as texts_of}
use Rattle.graph.specs.declared.Item.{Item}
use Rattle.graph.specs.declared.Name.TheVariants.{Nothing}
use Rattle.graph.specs.declared.Tables.{Tables}
use Rattle.graph.specs.Graph.{Edge, Node, node_at}
use Rattle.graph.specs.code.Tables.{owned, edge_of, items_of, name_line, lines_of, graph_of, graph_from, node_of, dues, Aimed}
use Rattle.graph.proofs.Lists.{node-graph}
use Rattle.graph.proofs.Pairs.{dues_le}
use Rattle.grid.specs.declared.BoxRecord.{BoxRecord}
use Rattle.grid.specs.declared.Curve.{Curve}
use Rattle.grid.specs.declared.SheetRecord.{SheetRecord}
use Rattle.grid.specs.declared.render_node.Sides.{Sides}
use Rattle.grid.specs.declared.render_grid.Axis.TheVariants.{Across, Down}
use Rattle.grid.specs.declared.render_node.Run.{Run}
use Rattle.grid.specs.Lists.{largest}
use Rattle.grid.specs.Columns.{at}
use Rattle.grid.specs.Record.{no_box, no_curve}
use Rattle.grid.specs.RenderNode.{Input, Output, drawn, box_width, box_height, end_width, inputs_at, outputs_at}
use Rattle.grid.specs.RenderGrid.{Box, Sheet, begins, reach, extent, widths, tallnesses, owner_in, box_of, sheet_of, input_moved, output_moved}
use Rattle.grid.specs.Curves.{output_for, curve_if, no_outputs, curves_to, curves_from, curves, box_record, record_of}
use Rattle.grid.specs.code.Rendered.{Seated, Modest, render_of, inputs_of, outputs_of}
use Rattle.grid.specs.code.Laid.{Bounded, line_of, size_of, begins_to, sized, sized_in, placed_at, no_sides, sides_of, sides_in, moved, inputs_in, outputs_in, Near, laid_inputs, laid_outputs, Curves, no_curves, added, add_all, curves_over, curves_at}
use Rattle.grid.proofs.ListLaws.{at-largest}
use Rattle.grid.proofs.Arrays.{filled_at, all-tabulate}
use Rattle.grid.proofs.NodeLaws.{node-is, graph_long}
use Rattle.grid.proofs.LaidLaws.{largest_le, begins_le}
use Rattle.grid.proofs.OwnerLaws.{owner-held}

length-take-most : {A : Type 0} (n : ℕ) (l : List A) → length (take n l) ≤ n
length-take-most n l = omega (arith, length-take n l)

-- ---- points that are moved
module _ (dx dy : ℕ) where
  outputs-moved : (gap x y : ℕ) (es : List Edge) → outputs_at gap (x + dx) (y + dy) es ≡ map (output_moved dx dy) (outputs_at gap x y es)
  outputs-moved gap x y [] = refl
  outputs-moved gap x y (e ∷ es) =
      let a : x + dx + end_width e / 2 ≡ x + end_width e / 2 + dx = omega arith in
      let b : x + dx + end_width e + gap ≡ x + end_width e + gap + dx = omega arith in
      rw (a, b, outputs-moved gap (x + end_width e + gap) y es)

  inputs-moved : (gap x y : ℕ) (es : List Edge) → inputs_at gap (x + dx) (y + dy) es ≡ map (input_moved dx dy) (inputs_at gap x y es)
  inputs-moved gap x y [] = refl
  inputs-moved gap x y (e ∷ es) =
      let a : x + dx + end_width e / 2 ≡ x + end_width e / 2 + dx = omega arith in
      let b : x + dx + end_width e + gap ≡ x + end_width e + gap + dx = omega arith in
      rw (a, b, inputs-moved gap (x + end_width e + gap) y es)

-- ---- curves

pub if_short : (o : Option Output) (i : Input) → length (curve_if o i) ≤ 1
if_short none i = omega arith
if_short (some o) i = omega arith

pub to-short : (bs : List Box) (k : ℕ) (is : List Input) → length (curves_to bs k is) ≤ length is
to-short bs k [] = omega arith
to-short bs k (i ∷ is) =
    let o = output_for i.mark (get_or bs i.from no_outputs).outputs k in
    omega (arith, length-append (curve_if o i) (curves_to bs k is), if_short o i, to-short bs k is)

pub inputs_long : (gap x y : ℕ) (es : List Edge) → length (inputs_at gap x y es) ≡ length es
inputs_long gap x y [] = refl
inputs_long gap x y (e ∷ es) = ap suc (inputs_long gap (x + end_width e + gap) y es)

-- one box more
curves-more : (bs : List Box) (box : ℕ → Box) (q k : ℕ) →
    curves_from bs q (tabulate box q (suc k)) ≡ curves_from bs q (tabulate box q k) ++ curves_to bs (q + k) (box (q + k)).inputs
curves-more bs box q zero =
    let e : q ≡ q + 0 = omega arith in
    append-nil (curves_to bs q (box q).inputs) ∙ ap (λ (i : ℕ). curves_to bs i (box i).inputs) e
curves-more bs box q (suc k) =
    let e : suc q + k ≡ q + suc k = omega arith in
    ap (λ (l : List Curve). curves_to bs q (box q).inputs ++ l) (curves-more bs box (suc q) k ∙ ap (λ (i : ℕ). curves_from bs (suc q) (tabulate box (suc q) k) ++ curves_to bs i (box i).inputs) e)
    ∙ sym (append_assoc (curves_to bs q (box q).inputs) (curves_from bs (suc q) (tabulate box (suc q) k)) (curves_to bs (q + suc k) (box (q + suc k)).inputs))

-- the curves that are held
abbrev held : List Curve → Curves
held l = record { items = padded 88 no_curve l; count = length l }

add-held : (l cs : List Curve) → length l + length cs ≤ 88 → add_all (held l) cs ≡ held (l ++ cs)
add-held l [] h = ap held (sym (append-nil l))
add-held l (c ∷ cs) h =
    let n : length (l ++ one c) ≡ length l + 1 = length-append l (one c) in
    let e : added (held l) c ≡ held (l ++ one c) = rw (lt-ltb (length l) 88 (omega arith)) (cc (n, padded-set 88 no_curve l c)) in
    ap (λ (s : Curves). add_all s cs) e ∙ add-held (l ++ one c) cs (omega (arith, n)) ∙ ap held (append_assoc l (one c) cs)

-- every end of a node leads to a node
keep-aimed : (n : ℕ) (b : Bool) (e : Edge) (es : List Edge) → e.to < n → All (λ (e : Edge). e.to < n) es → All (λ (e : Edge). e.to < n) (keep b e es)
keep-aimed n true e es h a = (h, a)
keep-aimed n false e es h a = a

all-owned : (n k : ℕ) (xs : List Item) → Aimed n xs → All (λ (e : Edge). e.to < n) (owned k xs)
all-owned n k [] a = tt
all-owned n k (x ∷ xs) a = keep-aimed n (eqb x.owner k) (edge_of x) (owned k xs) a.0 (all-owned n k xs a.1)

all-inputs : (n gap x y : ℕ) (es : List Edge) → All (λ (e : Edge). e.to < n) es → All (λ (i : Input). i.from < n) (inputs_at gap x y es)
all-inputs n gap x y [] a = tt
all-inputs n gap x y (e ∷ es) a = (a.0, all-inputs n gap (x + end_width e + gap) y es a.1)

over-is : (n : ℕ) (ys : List Item) (outs : ℕ → Run) (bs : List Box) (k : ℕ) →
    ((q : ℕ) → q < n → laid_outputs (outs q) (owned q ys) ≡ (get_or bs q no_outputs).outputs) →
    (is : List Input) → All (λ (i : Input). i.from < n) is → curves_over ys outs k is ≡ curves_to bs k is
over-is n ys outs bs k h [] a = refl
over-is n ys outs bs k h (i ∷ is) a =
    ap (λ (os : List Output). curve_if (output_for i.mark os k) i ++ curves_over ys outs k is) (h i.from a.0)
    ∙ ap (λ (l : List Curve). curve_if (output_for i.mark (get_or bs i.from no_outputs).outputs k) i ++ l) (over-is n ys outs bs k h is a.1)

-- ---- the sheet of the tables
-- the lines of boxes at these places, with these sizes, begin at xs
abbrev pub Begun : ℕ → List ℕ → List ℕ → List ℕ → Type 0
Begun gap ps ss xs = (c : ℕ) → c ≤ largest ps → get_or xs c 0 ≡ begins gap ps ss c

pub begun : (gap : ℕ) (ps ss xs : List ℕ) (last : ℕ) → last ≡ largest ps → last ≤ 143 → xs ≡ begins_to gap ps ss (last + 1) → Begun gap ps ss xs
begun gap ps ss xs last e l is c h = ap (λ (v : List ℕ). get_or v c 0) is ∙ filled_at (begins gap ps ss) 144 0 (last + 1) c (omega arith) (omega arith)

-- a table's slice holds what the table was filled with
pub filled-front : {A : Type 0} (f : ℕ → A) (m : ℕ) (z : A) (n : ℕ) → n ≤ m → take n (padded m z (tabulate f 0 n)) ≡ tabulate f 0 n
filled-front f m z n h =
    ap (λ (k : ℕ). take k (padded m z (tabulate f 0 n))) (sym (length-tabulate f 0 n)) ∙ take-padded m z (tabulate f 0 n) (omega (arith, length-tabulate f 0 n))

-- as many others are stored over them
pub filled-over : {A : Type 0} (m : ℕ) (z : A) (n : ℕ) (xs ys : List A) → length xs ≡ n → length ys ≡ n → n ≤ m → ys ++ drop n (padded m z xs) ≡ padded m z ys
filled-over {A = A} m z n xs ys a b h =
    let e : drop n (padded m z xs) ≡ replicate (m - n) z =
    ap (drop n) (padded-is m z xs (omega arith)) ∙ ap (λ (k : ℕ). drop k (xs ++ replicate (m - length xs) z)) (sym a) ∙ drop-append_seam xs (replicate (m - length xs) z)
    ∙ ap (λ (k : ℕ). replicate (m - k) z) a in
    ap (λ (l : List A). ys ++ l) e ∙ ap (λ (k : ℕ). ys ++ replicate (m - k) z) (sym b) ∙ sym (padded-is m z ys (omega arith))

module _ (g : Tables) (seat : Seated g) (cols rows : List ℕ) (wide : g.n ≤ length cols) (tall : g.n ≤ length rows)
    (in-cols : Bounded 143 cols g.n) (in_rows : Bounded 143 rows g.n) where
  long : length (graph_of g) ≡ g.n
  long = graph_long g

  map-nodes : {A : Type 0} (f : Node → A) → map f (graph_of g) ≡ tabulate (λ k. f (node_at (graph_of g) k)) 0 g.n
  unfolding graph_from
  map-nodes f =
      map-tabulate f (node_of (lines_of g) (items_of g.sources) (items_of g.sinks)) 0 g.n
      ∙ tabulate-same _ _ 0 g.n (λ i l u. ap f (sym (node-graph g.n (lines_of g) (items_of g.sources) (items_of g.sinks) i (omega arith))))

  abbrev cs : List ℕ
  cs = take g.n cols

  abbrev rs : List ℕ
  rs = take g.n rows

  -- the boxes before they have a place
  abbrev before : List BoxRecord
  before = sized_in g rows cols

  pub before-long : length before ≡ g.n
  before-long = length-tabulate (sized g rows cols) 0 g.n

  front : (xs : List ℕ) → g.n ≤ length xs → tabulate (λ k. get_or xs k 0) 0 g.n ≡ take g.n xs
  front xs l =
      let n : length (take g.n xs) ≡ g.n = length-take-le g.n xs l in
      ap (tabulate (λ k. get_or xs k 0) 0) (sym n)
      ∙ tabulate_list 0 (λ k. get_or xs k 0) 0 (take g.n xs) (λ i h. let e : 0 + i ≡ i = omega arith in rw e (sym (get_or-take g.n xs i 0 (omega arith))))

  pub columns-are : map (line_of Across) before ≡ cs
  columns-are = map-tabulate (line_of Across) (sized g rows cols) 0 g.n ∙ front cols wide

  pub rows-are : map (line_of Down) before ≡ rs
  rows-are = map-tabulate (line_of Down) (sized g rows cols) 0 g.n ∙ front rows tall

  pub widths-are : map (size_of Across) before ≡ widths (graph_of g)
  widths-are = map-tabulate (size_of Across) (sized g rows cols) 0 g.n ∙ sym (map-nodes box_width)

  pub heights-are : map (size_of Down) before ≡ tallnesses (graph_of g)
  heights-are = map-tabulate (size_of Down) (sized g rows cols) 0 g.n ∙ sym (map-nodes box_height)

  pub last-column : largest cs ≤ 143
  last-column = largest_le 143 g.n cols wide in-cols

  pub last_row : largest rs ≤ 143
  last_row = largest_le 143 g.n rows tall in_rows

  pub placeable : All (λ b. (b.column ≤ 143) × (b.row ≤ 143)) before
  placeable = all-tabulate (λ b. (b.column ≤ 143) × (b.row ≤ 143)) (sized g rows cols) 0 g.n (λ i l u. (in-cols.most i (omega arith), in_rows.most i (omega arith)))

  module _ (modest : (k : ℕ) → k < g.n → Modest (render_of (node_at (graph_of g) k))) where
    pub small-widths : All (λ b. size_of Across b ≤ 8389000) before
    unfolding render_of
    small-widths = all-tabulate (λ b. size_of Across b ≤ 8389000) (sized g rows cols) 0 g.n (λ i l u. (modest i (omega arith)).wide)

    pub small-heights : All (λ b. size_of Down b ≤ 8389000) before
    unfolding render_of
    small-heights = all-tabulate (λ b. size_of Down b ≤ 8389000) (sized g rows cols) 0 g.n (λ i l u. omega (arith, (modest i (omega arith)).tall))

    low-widths : All (λ s. s ≤ 8389000) (widths (graph_of g))
    low-widths = rw (← widths-are) (all_made (λ b. size_of Across b ≤ 8389000) (λ s. s ≤ 8389000) (size_of Across) (λ b h. h) before small-widths)

    low-heights : All (λ s. s ≤ 8389000) (tallnesses (graph_of g))
    low-heights = rw (← heights-are) (all_made (λ b. size_of Down b ≤ 8389000) (λ s. s ≤ 8389000) (size_of Down) (λ b h. h) before small-heights)

  -- columns begin at xs and rows at ys
  module _ (xs ys : List ℕ) (xs-at : Begun 1024 cs (widths (graph_of g)) xs) (ys-at : Begun 2048 rs (tallnesses (graph_of g)) ys) where
    abbrev box : ℕ → Box
    box = box_of (graph_of g) cs rs

    in_largest : (places : List ℕ) → g.n ≤ length places → (k : ℕ) → k < g.n → get_or places k 0 ≤ largest (take g.n places)
    in_largest places l k h =
        omega (arith, get_or-take g.n places k 0 h, at-largest (take g.n places) k (omega (arith, length-take-le g.n places l)))

    place_at : (gap : ℕ) (places ss starts : List ℕ) → g.n ≤ length places → Begun gap (take g.n places) ss starts → (k : ℕ) → k < g.n →
        get_or starts (get_or places k 0) 0 ≡ begins gap (take g.n places) ss (at (take g.n places) k)
    place_at gap places ss starts l b k h =
        b (get_or places k 0) (in_largest places l k h) ∙ ap (begins gap (take g.n places) ss) (sym (get_or-take g.n places k 0 h))

    x-at : (k : ℕ) → k < g.n → get_or xs (get_or cols k 0) 0 ≡ (box k).x
    x-at = place_at 1024 cols (widths (graph_of g)) xs wide xs-at

    y-at : (k : ℕ) → k < g.n → get_or ys (get_or rows k 0) 0 ≡ (box k).y
    y-at = place_at 2048 rows (tallnesses (graph_of g)) ys tall ys-at

    owner_at : (k : ℕ) → k < g.n → owner_in k (name_line (get_or g.names k Nothing)) ≡ (box k).owner
    owner_at k h = owner-held (texts_of g.lines) g.names k ∙ ap (λ (x : Node). owner_in k x.lines) (sym (node-is g k h))

    box-is : (k : ℕ) → k < g.n → placed_at xs ys (sized g rows cols k) ≡ box_record (box k)
    unfolding drawn
    box-is k h =
        let ec : get_or cols k 0 ≡ at cs k = sym (get_or-take g.n cols k 0 h) in
        let er : get_or rows k 0 ≡ at rs k = sym (get_or-take g.n rows k 0 h) in
        rw (x-at k h, y-at k h, ec, er, owner_at k h)

    -- the boxes in their places
    abbrev after : List BoxRecord
    after = map (placed_at xs ys) before

    pub after-long : length after ≡ g.n
    after-long = length-map before (placed_at xs ys) ∙ before-long

    after-made : after ≡ tabulate (λ k. placed_at xs ys (sized g rows cols k)) 0 g.n
    after-made = map-tabulate (placed_at xs ys) (sized g rows cols) 0 g.n

    after-at : (k : ℕ) → k < g.n → get_or after k no_box ≡ box_record (box k)
    after-at k h =
        let e : 0 + k ≡ k = omega arith in
        ap (λ (l : List BoxRecord). get_or l k no_box) after-made ∙ get_d_tabulate (λ k. placed_at xs ys (sized g rows cols k)) 0 g.n k no_box h ∙ rw e (box-is k h)

    after-are : after ≡ map box_record (tabulate box 0 (length (graph_of g)))
    after-are =
        after-made
        ∙ tabulate-same (λ k. placed_at xs ys (sized g rows cols k)) (λ k. box_record (box k)) 0 g.n (λ i l u. box-is i (omega arith))
        ∙ sym (map-tabulate box_record box 0 g.n)
        ∙ ap (λ (m : ℕ). map box_record (tabulate box 0 m)) (sym long)

    -- the points in their final places
    abbrev sides : List Sides
    sides = sides_in g

    side_at : (k : ℕ) → k < g.n → get_or sides k no_sides ≡ sides_of (node_at (graph_of g) k)
    side_at k h = get_d_tabulate (λ k. sides_of (node_at (graph_of g) k)) 0 g.n k no_sides h ∙ ap (λ (k : ℕ). sides_of (node_at (graph_of g) k)) (omega arith)

    abbrev ins : ℕ → Run
    ins = inputs_in sides after

    abbrev outs : ℕ → Run
    outs = outputs_in sides after

    ins-at : (k : ℕ) → k < g.n → ins k ≡ moved (inputs_of (node_at (graph_of g) k)) (box_record (box k))
    ins-at k h = rw (side_at k h, after-at k h)

    outs-at : (k : ℕ) → k < g.n → outs k ≡ moved (outputs_of (node_at (graph_of g) k)) (box_record (box k))
    outs-at k h = rw (side_at k h, after-at k h)

    module _ (modest : (k : ℕ) → k < g.n → Modest (render_of (node_at (graph_of g) k))) where
      near-by : (k : ℕ) → k < g.n → (r : Run) → r.x ≤ 8389000 → r.y ≤ 200000 → r.gap ≤ 8389000 → Near r (box_record (box k))
      near-by k h r a b c =
          record {
            first = a;
            height = b;
            gap = c;
            across = omega (arith, begins_le 1024 cs (widths (graph_of g)) (omega arith) (low-widths modest) (at cs k), get_or-take g.n cols k 0 h, in-cols.most k h);
            down = omega (arith, begins_le 2048 rs (tallnesses (graph_of g)) (omega arith) (low-heights modest) (at rs k), get_or-take g.n rows k 0 h, in_rows.most k h);
          }

      pub inputs-near : (k : ℕ) → k < g.n → Near (get_or sides k no_sides).inputs (get_or after k no_box)
      unfolding render_of
      inputs-near k h =
          rw (side_at k h, after-at k h) (near-by k h (inputs_of (node_at (graph_of g) k)) (modest k h).first_input (modest k h).input_height (modest k h).input_gap)

      pub outputs-near : (k : ℕ) → k < g.n → Near (get_or sides k no_sides).outputs (get_or after k no_box)
      unfolding render_of
      outputs-near k h =
          rw (side_at k h, after-at k h) (near-by k h (outputs_of (node_at (graph_of g) k)) (modest k h).first_output (modest k h).output_height (modest k h).output_gap)

    -- the curves
    abbrev bs : List Box
    bs = tabulate box 0 (length (graph_of g))

    abbrev us : List Item
    us = items_of g.sources

    abbrev vs : List Item
    vs = items_of g.sinks

    bs-at : (q : ℕ) → q < g.n → get_or bs q no_outputs ≡ box q
    bs-at q h = get_d_tabulate box 0 (length (graph_of g)) q no_outputs (omega (arith, long)) ∙ ap box (omega arith)

    sinks-are : (q : ℕ) → q < g.n → (node_at (graph_of g) q).sinks ≡ owned q vs
    sinks-are q h = ap (λ (v : Node). v.sinks) (node-is g q h)

    sources-are : (q : ℕ) → q < g.n → (node_at (graph_of g) q).sources ≡ owned q us
    sources-are q h = ap (λ (v : Node). v.sources) (node-is g q h)

    outputs-are : (q : ℕ) → q < g.n → laid_outputs (outs q) (owned q vs) ≡ (get_or bs q no_outputs).outputs
    unfolding drawn
    outputs-are q h =
        let r : Run = outputs_of (node_at (graph_of g) q) in
        ap (λ (v : Run). laid_outputs v (owned q vs)) (outs-at q h)
        ∙ rw (bs-at q h, ← sinks-are q h) (outputs-moved (box q).x (box q).y r.gap r.x r.y (node_at (graph_of g) q).sinks)

    inputs_are : (k : ℕ) → k < g.n → laid_inputs (ins k) (owned k us) ≡ (box k).inputs
    unfolding drawn
    inputs_are k h =
        let r : Run = inputs_of (node_at (graph_of g) k) in
        ap (λ (v : Run). laid_inputs v (owned k us)) (ins-at k h)
        ∙ rw (← sources-are k h) (inputs-moved (box k).x (box k).y r.gap r.x r.y (node_at (graph_of g) k).sources)

    abbrev to : ℕ → List Curve
    to k = curves_over vs outs k (laid_inputs (ins k) (owned k us))

    to_is : (k : ℕ) → k < g.n → to k ≡ curves_to bs k (box k).inputs
    to_is k h =
        over-is g.n vs outs bs k outputs-are (laid_inputs (ins k) (owned k us))
        (all-inputs g.n (ins k).gap (ins k).x (ins k).y (owned k us) (all-owned g.n k us seat.linked.source_aims))
        ∙ ap (curves_to bs k) (inputs_are k h)

    to-few : (k : ℕ) → k < g.n → length (curves_to bs k (box k).inputs) ≤ length (owned k us)
    to-few k h =
        omega (arith, to-short bs k (box k).inputs, ap length (inputs_are k h), inputs_long (ins k).gap (ins k).x (ins k).y (owned k us))

    -- at most as many as sources
    from-few : (q k : ℕ) → q + k ≤ g.n → length (curves_from bs q (tabulate box q k)) ≤ dues us q k
    from-few q zero h = omega arith
    from-few q (suc k) h =
        let d : length (curves_to bs q (box q).inputs) ≤ length (owned q us) = to-few q (omega arith) in
        let r : length (curves_from bs (suc q) (tabulate box (suc q) k)) ≤ dues us (suc q) k = from-few (suc q) k (omega arith) in
        omega (arith, length-append (curves_to bs q (box q).inputs) (curves_from bs (suc q) (tabulate box (suc q) k)))

    few-items : length us ≤ g.sources.count
    few-items = omega (arith, length-take-most g.sources.count g.sources.items)

    from-room : (k : ℕ) → k ≤ g.n → length (curves_from bs 0 (tabulate box 0 k)) ≤ 88
    from-room k h = omega (arith, from-few 0 k (omega arith), dues_le us 0 k, few-items, seat.linked.source_room)

    made : (k : ℕ) → k ≤ g.n → each no_curves (curves_at us vs ins outs) k ≡ held (curves_from bs 0 (tabulate box 0 k))
    unfolding each
    made zero h = refl
    made (suc k) h =
        let z : 0 + k ≡ k = omega arith in
        let m : curves_from bs 0 (tabulate box 0 (suc k)) ≡ curves_from bs 0 (tabulate box 0 k) ++ curves_to bs k (box k).inputs =
        curves-more bs box 0 k ∙ ap (λ (i : ℕ). curves_from bs 0 (tabulate box 0 k) ++ curves_to bs i (box i).inputs) z in
        ap (curves_at us vs ins outs k) (made k (omega arith))
        ∙ ap (add_all (held (curves_from bs 0 (tabulate box 0 k)))) (to_is k (omega arith))
        ∙ add-held (curves_from bs 0 (tabulate box 0 k)) (curves_to bs k (box k).inputs)
        (omega (arith, from-room (suc k) h, ap length m, length-append (curves_from bs 0 (tabulate box 0 k)) (curves_to bs k (box k).inputs)))
        ∙ ap held (sym m)

    abbrev whole : Sheet
    whole = sheet_of (graph_of g) g.cuts cs rs

    curves-are : each no_curves (curves_at us vs ins outs) g.n ≡ held (curves whole)
    unfolding sheet_of curves
    curves-are = made g.n (omega arith) ∙ ap (λ (m : ℕ). held (curves_from bs 0 (tabulate box 0 m))) (sym long)

    pub drawn-few : (all : Curves) → all ≡ each no_curves (curves_at us vs ins outs) g.n → all.count ≤ 88
    unfolding sheet_of curves
    drawn-few all e =
        let f : length (curves whole) ≤ 88 = subst (λ (m : ℕ). length (curves_from bs 0 (tabulate box 0 m)) ≤ 88) (sym long) (from-room g.n (omega arith)) in
        omega (arith, ap (λ (s : Curves). s.count) (e ∙ curves-are))

    -- what the code makes, one after the other, is the definition's
    pub laid-is : (right low width height : ℕ) (boxes : List BoxRecord) (all : Curves) → right ≡ largest cs → low ≡ largest rs →
        width ≡ begins 1024 cs (widths (graph_of g)) right + extent cs (widths (graph_of g)) right + 128 →
        height ≡ begins 2048 rs (tallnesses (graph_of g)) low + extent rs (tallnesses (graph_of g)) low + 128 →
        boxes ≡ padded 48 no_box after → all ≡ each no_curves (curves_at us vs ins outs) g.n → (x y : ℕ) →
        ◌≡◌ {A = SheetRecord}
        (record {
          width = width;
          height = height;
          x = x;
          y = y;
          columns = right + 1;
          rows = low + 1;
          cuts = g.cuts;
          count = g.n;
          drawn = all.count;
          boxes = boxes;
          curves = all.items;
        })
        (record_of whole x y)
    unfolding record_of sheet_of
    laid-is right low width height boxes all is_right is-low is-width is-height is-boxes is_all x y =
        let w : width ≡ reach 1024 cs (widths (graph_of g)) = is-width ∙ rw is_right in
        let t : height ≡ reach 2048 rs (tallnesses (graph_of g)) = is-height ∙ rw is-low in
        rw (w, t, is_right, is-low, is-boxes ∙ ap (padded 48 no_box) after-are, is_all ∙ curves-are, length-tabulate box 0 (length (graph_of g)), long, add-one (largest cs), add-one (largest rs))
