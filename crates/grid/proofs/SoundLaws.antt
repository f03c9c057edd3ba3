-- A chart's own sheet is sound: whatever the chart and the origin, no call on it is refused by 14. Its boxes and its curves, with the origin, are within 8,388,608;
-- there are at most 64 curves and one for each cut; and the two ends of a curve are at even heights.
-- Assumes nothing.
use Prim.Native.Nat.{ℕ, zero, suc, ◌+◌, ◌≤◌, ◌<◌}
use native.Mathlib.Omega.{arith}
use mathlib.Core.Path.{◌≡◌, refl, ap, sym, subst, ◌∙◌}
use mathlib.Core.Option.{Option, none, some}
use mathlib.Core.Bool.{Bool, true, false, cond, ◌&&◌}
use mathlib.Core.List.{List, [], ◌∷◌, map}
use lib.Dec.{eqb, leb}
use lib.ListN.{length, get_or, take, length-append, length-map}
use borrow.Author.Tests.{le-leb, leb-true}
use Rattle.laws.specs.Bytes.{all_of}
use Rattle.laws.specs.Lists.{All, tabulate, padded}
use Rattle.laws.proofs.Tests.{pick}
use Rattle.laws.proofs.Lists.{all_made, all_join, length-tabulate, take-padded}
use Rattle.std.specs.Prelude.{Ok}
use Rattle.refusals.specs.declared.Refusal.TheVariants.{TooFar}
use Rattle.graph.specs.Graph.{Node, Graph, node_at, bare}
use Rattle.graph.specs.Shape.{shape_of}
use Rattle.graph.specs.Graphed.{Dag, Graphed, ready as cut, refusal as refused, graphed}
use Rattle.graph.specs.Laws.{ends, Laws}
use Rattle.graph.proofs.AimLaws.{all-at}
use Rattle.chart.specs.declared.Setting.{Setting}
use Rattle.graph.proofs.Gathers.{graph-laws}
use Rattle.graph.proofs.EndsLaws.{shape-long}
use Rattle.order.specs.Chains.{columns as first_columns}
use Rattle.grid.specs.declared.Curve.{Curve}
use Rattle.grid.specs.declared.SheetRecord.{SheetRecord}
use Rattle.grid.specs.Heights.{heights}
use Rattle.grid.specs.Columns.{at, columns}
use Rattle.grid.specs.code.Placed.{FirstColumns}
use Rattle.grid.specs.RenderNode.{Input, Output, source_gap, first_x, input_y, drawn, box_width, box_height}
use Rattle.grid.specs.RenderGrid.{Box, Sheet, extent, begins, reach, input_moved, output_moved, widths, tallnesses, box_of, sheet_of, sheet}
use Rattle.grid.specs.Record.{no_box, no_curve, boxes_of, curves_of, box_near, curve_near, sound_of}
use Rattle.grid.specs.Curves.{output_at, first_to, output_for, curve_if, no_outputs, curves_to, curves_from, curves, box_record, record_of}
use Rattle.grid.specs.Sheeted.{Sheeted, ready, refusal, within, sheet_of_dag, drawn as drawn_at, sheeted, answer_of}
use Rattle.grid.proofs.ListLaws.{at_map}
use Rattle.grid.proofs.Arrays.{all-tabulate}
use Rattle.grid.proofs.HeightLaws.{heights-long}
use Rattle.grid.proofs.GridLaws.{box-within}
use Rattle.grid.proofs.SheetLaws.{to-short, inputs_long}
use Rattle.grid.proofs.PointLaws.{Even, InputIn, OutputIn, height-even, inputs_in_lem, outputs_in}
use Rattle.grid.proofs.BoxTheorem.{placed}
use Rattle.grid.proofs.Sheets.{firsts-of}

-- ---- boxes and curves in a sheet of this width and height
pub record BoxIn (w h : ℕ) (b : Box) : Type 0 where
  pub right : b.x + b.width ≤ w
  pub bottom : b.y + b.height ≤ h
  pub inputs : All (InputIn w h) b.inputs
  pub outputs : All (OutputIn w h) b.outputs

pub record CurveIn (w h : ℕ) (c : Curve) : Type 0 where
  pub left : c.x0 ≤ w
  pub top : c.y0 ≤ h
  pub right : c.x1 ≤ w
  pub bottom : c.y1 ≤ h
  pub even_top : Even c.y0
  pub even_bottom : Even c.y1

module _ (w h : ℕ) where
  -- an output that is found is one of the box's
  abbrev Some : Option Output → Type 0
  Some none = Unit {0}
  Some (some o) = OutputIn w h o

  at_in : (os : List Output) (m : ℕ) → All (OutputIn w h) os → Some (output_at os m)
  at_in [] m a = tt
  at_in (o ∷ os) zero a = a.0
  at_in (o ∷ os) (suc m) a = at_in os m a.1

  first_in_lem : (os : List Output) (k : ℕ) → All (OutputIn w h) os → Some (first_to os k)
  first_in_lem [] k a = tt
  first_in_lem (o ∷ os) k a = pick Some (eqb o.to k) (some o) (first_to os k) a.0 (first_in_lem os k a.1)

  for_in : (mark : Option ℕ) (os : List Output) (k : ℕ) → All (OutputIn w h) os → Some (output_for mark os k)
  for_in none os k a = first_in_lem os k a
  for_in (some m) os k a = at_in os m a

  if_in : (o : Option Output) (i : Input) → Some o → InputIn w h i → All (CurveIn w h) (curve_if o i)
  if_in none i s t = tt
  if_in (some o) i s t = (record { left = s.0; top = s.1; right = t.0; bottom = t.1; even_top = s.2; even_bottom = t.2 }, tt)

  module _ (bs : List Box) (a : All (BoxIn w h) bs) where
    outputs-of : (q : ℕ) → All (OutputIn w h) (get_or bs q no_outputs).outputs
    outputs-of q = (all-at (BoxIn w h) bs q no_outputs (record { right = omega arith; bottom = omega arith; inputs = tt; outputs = tt }) a).outputs

    to_in : (k : ℕ) (is : List Input) → All (InputIn w h) is → All (CurveIn w h) (curves_to bs k is)
    to_in k [] t = tt
    to_in k (i ∷ is) t =
        let o : Option Output = output_for i.mark (get_or bs i.from no_outputs).outputs k in
        all_join (CurveIn w h) (curve_if o i) (curves_to bs k is) (if_in o i (for_in i.mark (get_or bs i.from no_outputs).outputs k (outputs-of i.from)) t.0) (to_in k is t.1)

    from_in : (k : ℕ) (rest : List Box) → All (BoxIn w h) rest → All (CurveIn w h) (curves_from bs k rest)
    from_in k [] t = tt
    from_in k (b ∷ rest) t =
        all_join (CurveIn w h) (curves_to bs k b.inputs) (curves_from bs (suc k) rest) (to_in k b.inputs t.0.inputs) (from_in (suc k) rest t.1)

-- ---- a curve for an input, at most
abbrev inputs_in : List Box → ℕ
inputs_in [] = 0
inputs_in (b ∷ bs) = length b.inputs + inputs_in bs

from-short : (bs : List Box) (k : ℕ) (rest : List Box) → length (curves_from bs k rest) ≤ inputs_in rest
from-short bs k [] = omega arith
from-short bs k (b ∷ rest) =
    omega (arith, length-append (curves_to bs k b.inputs) (curves_from bs (suc k) rest), to-short bs k b.inputs, from-short bs (suc k) rest)

inputs_are : (f : ℕ → Box) (g : Graph) (q : ℕ) → ((i : ℕ) → i < length g → length (f (q + i)).inputs ≡ length (node_at g i).sources) → inputs_in (tabulate f q (length g)) ≡ ends (λ (x : Node). x.sources) g
inputs_are f [] q h = refl
inputs_are f (x ∷ g) q h =
    let e : q + 0 ≡ q = omega arith in
    let a : length (f q).inputs ≡ length x.sources = ap (λ (k : ℕ). length (f k).inputs) (sym e) ∙ h 0 (omega arith) in
    let b : inputs_in (tabulate f (suc q) (length g)) ≡ ends (λ (y : Node). y.sources) g =
    inputs_are f g (suc q) (λ i l. let z : suc q + i ≡ q + suc i = omega arith in ap (λ (k : ℕ). length (f k).inputs) z ∙ h (suc i) (omega arith)) in
    omega arith

-- ---- rows begin at even heights
extent-even : (places sizes : List ℕ) (c : ℕ) → All Even sizes → Even (extent places sizes c)
extent-even [] sizes c a = refl
extent-even (p ∷ places) [] c a = refl
extent-even (p ∷ places) (s ∷ sizes) c a = omega (arith, pick Even (eqb p c) s 0 a.0 refl, extent-even places sizes c a.1)

begins-even : (places sizes : List ℕ) → All Even sizes → (c : ℕ) → Even (begins 2048 places sizes c)
begins-even places sizes a zero = refl
begins-even places sizes a (suc c) = omega (arith, begins-even places sizes a c, extent-even places sizes c a)

tall-even : (g : Graph) → All Even (tallnesses g)
tall-even [] = tt
tall-even (n ∷ g) = (height-even n, tall-even g)

-- ---- the sheet of a graph with these columns and rows
module _ (g : Graph) (cuts : ℕ) (cols rows : List ℕ) (wide : length cols ≡ length g) (tall : length rows ≡ length g) where
  abbrev width : ℕ
  width = reach 1024 cols (widths g)

  abbrev height : ℕ
  height = reach 2048 rows (tallnesses g)

  box_in : (k : ℕ) → k < length g → BoxIn width height (box_of g cols rows k)
  unfolding drawn
  box_in k h =
      let n : Node = node_at g k in
      let x : ℕ = begins 1024 cols (widths g) (at cols k) in
      let y : ℕ = begins 2048 rows (tallnesses g) (at rows k) in
      let r : x + box_width n ≤ width =
      omega (arith, box-within 1024 cols (widths g) (length g) wide (length-map g box_width) k h, at_map box_width g k bare h) in
      let b : y + box_height n ≤ height =
      omega (arith, box-within 2048 rows (tallnesses g) (length g) tall (length-map g box_height) k h, at_map box_height g k bare h) in
      let e : Even y = begins-even rows (tallnesses g) (tall-even g) (at rows k) in
      record {
        right = r;
        bottom = b;
        inputs = all_made (InputIn (box_width n) (box_height n)) (InputIn width height) (input_moved x y) (λ i m. (omega (arith, m.0), omega (arith, m.1), omega (arith, m.2))) (drawn n).inputs (inputs_in_lem n);
        outputs = all_made (OutputIn (box_width n) (box_height n)) (OutputIn width height) (output_moved x y) (λ i m. (omega (arith, m.0), omega (arith, m.1), omega (arith, m.2))) (drawn n).outputs (outputs_in n);
      }

  boxes_in : All (BoxIn width height) (sheet_of g cuts cols rows).boxes
  unfolding sheet_of
  boxes_in = all-tabulate (BoxIn width height) (box_of g cols rows) 0 (length g) (λ k l u. box_in k (omega arith))

  curves_in : All (CurveIn width height) (curves (sheet_of g cuts cols rows))
  unfolding curves
  curves_in = from_in width height (sheet_of g cuts cols rows).boxes boxes_in 0 (sheet_of g cuts cols rows).boxes boxes_in

  inputs-of : (k : ℕ) → k < length g → length (box_of g cols rows (0 + k)).inputs ≡ length (node_at g k).sources
  unfolding drawn
  inputs-of k h =
      let e : 0 + k ≡ k = omega arith in
      let n : Node = node_at g k in
      ap (λ (i : ℕ). length (box_of g cols rows i).inputs) e
      ∙ length-map (drawn n).inputs (input_moved (begins 1024 cols (widths g) (at cols k)) (begins 2048 rows (tallnesses g) (at rows k)))
      ∙ inputs_long (source_gap n) (first_x (source_gap n) n.sources) (input_y n) n.sources

  curves-few : length (curves (sheet_of g cuts cols rows)) ≤ ends (λ (x : Node). x.sources) g
  unfolding curves sheet_of
  curves-few =
      omega (arith, from-short (tabulate (box_of g cols rows) 0 (length g)) 0 (tabulate (box_of g cols rows) 0 (length g)), inputs_are (box_of g cols rows) g 0 inputs-of)

-- ---- its record, at an origin
boxes-near : (x y w h : ℕ) (bs : List Box) → x + w ≤ 8388608 → y + h ≤ 8388608 → All (BoxIn w h) bs → all_of (box_near x y) (map box_record bs) ≡ true
boxes-near x y w h [] p q a = refl
boxes-near x y w h (b ∷ bs) p q a =
    rw (le-leb (x + b.x + b.width) 8388608 (omega (arith, a.0.right)), le-leb (y + b.y + b.height) 8388608 (omega (arith, a.0.bottom))) (boxes-near x y w h bs p q a.1)

curves-near : (x y w h : ℕ) (cs : List Curve) → x + w ≤ 8388608 → y + h ≤ 8388608 → All (CurveIn w h) cs → all_of (curve_near x y) cs ≡ true
curves-near x y w h [] p q a = refl
curves-near x y w h (c ∷ cs) p q a =
    rw (
      le-leb (x + c.x0) 8388608 (omega (arith, a.0.left)),
      le-leb (y + c.y0) 8388608 (omega (arith, a.0.top)),
      le-leb (x + c.x1) 8388608 (omega (arith, a.0.right)),
      le-leb (y + c.y1) 8388608 (omega (arith, a.0.bottom)),
    )
    (curves-near x y w h cs p q a.1)

module _ (sh : Sheet) (x y : ℕ) where
  pub boxes-are : length sh.boxes ≤ 48 → boxes_of (record_of sh x y) ≡ map box_record sh.boxes
  unfolding record_of
  boxes-are few =
      let e : length (map box_record sh.boxes) ≡ length sh.boxes = length-map sh.boxes box_record in
      ap (λ (k : ℕ). take k (padded 48 no_box (map box_record sh.boxes))) (sym e) ∙ take-padded 48 no_box (map box_record sh.boxes) (omega arith)

  pub curves-are : length (curves sh) ≤ 88 → curves_of (record_of sh x y) ≡ curves sh
  unfolding record_of
  curves-are few = take-padded 88 no_curve (curves sh) few

  all_true : (s : SheetRecord) → leb s.count 48 ≡ true → leb s.drawn 88 ≡ true → all_of (box_near s.x s.y) (boxes_of s) ≡ true → all_of (curve_near s.x s.y) (curves_of s) ≡ true → sound_of s ≡ true
  unfolding sound_of
  all_true s a b c d = rw (a, b, c, d)

  record_sound : (w h : ℕ) → length sh.boxes ≤ 48 → length (curves sh) ≤ 88 → All (BoxIn w h) sh.boxes → All (CurveIn w h) (curves sh) → x + w ≤ 8388608 → y + h ≤ 8388608 → sound_of (record_of sh x y) ≡ true
  unfolding record_of
  record_sound w h few thin bs cs p q =
      all_true (record_of sh x y) (le-leb (length sh.boxes) 48 few) (le-leb (length (curves sh)) 88 thin)
      (ap (all_of (box_near x y)) (boxes-are few) ∙ boxes-near x y w h sh.boxes p q bs)
      (ap (all_of (curve_near x y)) (curves-are thin) ∙ curves-near x y w h (curves sh) p q cs)

-- ---- a chart's sheet
-- the sheet of a cut graph, and what the origin leaves room for
pub record Drawing (v : Setting) (s : List ℕ) (x y : ℕ) (sh : Sheet) : Type 0 where
  pub dag : Dag
  pub walked : graphed v s ≡ cut dag
  pub is : sh ≡ sheet_of_dag dag
  pub across : x + sh.width ≤ 8388608
  pub down : y + sh.height ≤ 8388608

fitted-is : (v : Setting) (s : List ℕ) (x y : ℕ) (d : Dag) (sh : Sheet) → graphed v s ≡ cut d → (b c : Bool) → within x (sheet_of_dag d).width ≡ b → within y (sheet_of_dag d).height ≡ c →
    cond (b && c) (ready (sheet_of_dag d)) (refusal TooFar) ≡ ready sh → Drawing v s x y sh
fitted-is v s x y d sh g true true a b e =
    let i : sh ≡ sheet_of_dag d = cc in
    record { dag = d; walked = g; is = i; across = rw i (leb-true (x + (sheet_of_dag d).width) 8388608 a); down = rw i (leb-true (y + (sheet_of_dag d).height) 8388608 b) }
fitted-is v s x y d sh g true false a b e = let z : ◌≡◌ {A = ℕ} 0 1 = cc in absurd (omega arith)
fitted-is v s x y d sh g false c a b e = let z : ◌≡◌ {A = ℕ} 0 1 = cc in absurd (omega arith)

pub drawing : (v : Setting) (s : List ℕ) (x y : ℕ) (sh : Sheet) → sheeted v s x y ≡ ready sh → Drawing v s x y sh
unfolding sheeted
drawing v s x y sh e = go (graphed v s) refl e
  where
    go : (g : Graphed) → graphed v s ≡ g → drawn_at x y g ≡ ready sh → Drawing v s x y sh
    go (cut d) i j = fitted-is v s x y d sh i (within x (sheet_of_dag d).width) (within y (sheet_of_dag d).height) refl refl j
    go (refused why) i j = let z : ◌≡◌ {A = ℕ} 0 1 = cc in absurd (omega arith)

-- what the sheet of a cut graph holds
pub record Held (d : Dag) (sh : Sheet) : Type 0 where
  pub count : length sh.boxes ≡ length d.graph
  pub drawn : length (curves sh) ≤ ends (λ (x : Node). x.sources) d.graph
  pub boxes : All (BoxIn sh.width sh.height) sh.boxes
  pub curves_in : All (CurveIn sh.width sh.height) (curves sh)

pub held : (v : Setting) (s : List ℕ) (d : Dag) → graphed v s ≡ cut d → Held d (sheet_of_dag d)
unfolding sheet_of_dag sheet sheet_of
held v s d e =
    let g : Graph = d.graph in
    let first : List ℕ = first_columns (shape_of g) in
    let rows : List ℕ = heights (shape_of g) in
    let cols : List ℕ = columns (shape_of g) rows first in
    let f : FirstColumns (length g) first = firsts-of g (graph-laws v s d e).aimed in
    let wide : length cols ≡ length g = (placed g first f).long in
    let tall : length rows ≡ length g = heights-long (shape_of g) ∙ shape-long g in
    record {
      count = length-tabulate (box_of g cols rows) 0 (length g);
      drawn = curves-few g d.cuts cols rows wide tall;
      boxes = boxes_in g d.cuts cols rows wide tall;
      curves_in = curves_in g d.cuts cols rows wide tall;
    }

-- the sheet that is laid out of any bytes at any origin is sound
pub sheet-sound : (v : Setting) (s : List ℕ) (x y : ℕ) (sh : Sheet) → sheeted v s x y ≡ ready sh → sound_of (record_of sh x y) ≡ true
sheet-sound v s x y sh e =
    let d : Drawing v s x y sh = drawing v s x y sh e in
    let l : Laws v s d.dag = graph-laws v s d.dag d.walked in
    let h : Held d.dag sh = subst (Held d.dag) (sym d.is) (held v s d.dag d.walked) in
    record_sound sh x y sh.width sh.height (omega (arith, h.count, l.boxes)) (omega (arith, h.drawn, l.sources)) h.boxes h.curves_in d.across d.down

-- an answer that is not refused holds a chart's own sheet
pub record Own (v : Setting) (s : List ℕ) (x y : ℕ) (r : SheetRecord) : Type 0 where
  pub sheet : Sheet
  pub laid : sheeted v s x y ≡ ready sheet
  pub is : r ≡ record_of sheet x y

pub own : (v : Setting) (s : List ℕ) (x y : ℕ) (r : SheetRecord) → answer_of x y (sheeted v s x y) ≡ Ok r → Own v s x y r
own v s x y r q = go (sheeted v s x y) refl q
  where
    go : (t : Sheeted) → sheeted v s x y ≡ t → answer_of x y t ≡ Ok r → Own v s x y r
    go (ready sh) e f = let z : record_of sh x y ≡ r = cc in record { sheet = sh; laid = e; is = sym z }
    go (refusal why) e f = let z : ◌≡◌ {A = ℕ} 0 1 = cc in absurd (omega arith)
