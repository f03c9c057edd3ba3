-- `render_grid::laid`: what the leaves make, one after the other, is the definition's.
-- Assumes nothing.
use Rattle.std.proofs.Common.{◌≡◌, ◌+◌, ◌≤◌, ◌<◌, ◌++◌, ℕ, List, length, get_or, take, drop, map, ap, sym, ◌∙◌, arith}
use Rattle.std.proofs.Math.Seq.{take-append_seam}
use Rattle.laws.specs.Lists.{padded}
use Rattle.laws.specs.Each.{each}
use Rattle.graph.specs.declared.Tables.{Tables}
use Rattle.graph.specs.Graph.{node_at}
use Rattle.graph.specs.code.Tables.{items_of, graph_of}
use Rattle.grid.specs.declared.BoxRecord.{BoxRecord}
use Rattle.grid.specs.declared.render_node.Sides.{Sides}
use Rattle.grid.specs.declared.render_grid.Axis.TheVariants.{Across, Down}
use Rattle.grid.specs.Record.{no_box}
use Rattle.grid.specs.RenderGrid.{begins, extent, widths, tallnesses}
use Rattle.grid.specs.code.Laid.{Bounded, line_of, size_of, begins_to, sized, sized_in, placed_at, no_sides, sides_of, sides_in, inputs_in, outputs_in, Near, Curves, no_curves, curves_at}
use Rattle.grid.proofs.SheetLaws.{Begun, begun, before-long, columns-are, rows-are, widths-are, heights-are, last-column, last_row, small-widths, small-heights, placeable, after-long, inputs-near, outputs-near, drawn-few, laid-is, filled-front, filled-over}
use Rattle.grid.proofs.render_grid.laid.Goals as goal
use Rattle.grid.proofs.render_grid.laid.Goals.{After-largest_of-last_row}

both : {X Y A : Type 0} (f : X → Y → A) (p q : X) (s t : Y) → p ≡ q → s ≡ t → f p s ≡ f q t
both f p q s t e d = rw (e, d)

-- once the last column and the last row are found
module _ (z : After-largest_of-last_row) where
  abbrev g : Tables
  g = z.args.g.now

  nodes : g.n ≤ 48
  nodes = z.requires.seated.linked.nodes

  cols-room : g.n ≤ length z.args.cols.now
  cols-room = omega (arith, z.told-cols, nodes)

  rows-room : g.n ≤ length z.args.rows.now
  rows-room = omega (arith, z.told-rows, nodes)

  low_rows : Bounded 143 z.args.rows.now g.n
  low_rows = record { most = λ k h. omega (arith, z.requires.bounded.most k h) }

  -- the slices that are lent
  boxes-are : take g.n z.render_nodes.new.boxes ≡ sized_in g z.args.rows.now z.args.cols.now
  boxes-are = ap (take g.n) z.render_nodes.ensures.boxes ∙ filled-front (sized g z.args.rows.now z.args.cols.now) 48 no_box g.n nodes

  sides-are : take g.n z.render_nodes.new.sides ≡ sides_in g
  sides-are = ap (take g.n) z.render_nodes.ensures.sides ∙ filled-front (λ (k : ℕ). sides_of (node_at (graph_of g) k)) 48 no_sides g.n nodes

  right-most : z.largest_of-last_column.result ≤ 143
  right-most = omega (arith, z.largest_of-last_column.ensures, last-column g z.requires.seated z.args.cols.now z.args.rows.now cols-room rows-room z.requires.bounded_2 low_rows)

  low-most : z.largest_of-last_row.result ≤ 143
  low-most = omega (arith, z.largest_of-last_row.ensures, last_row g z.requires.seated z.args.cols.now z.args.rows.now cols-room rows-room z.requires.bounded_2 low_rows)

  -- the lists that the axes go by
  columns : map (line_of Across) (take g.n z.render_nodes.new.boxes) ≡ take g.n z.args.cols.now
  columns =
      ap (map (line_of Across)) boxes-are ∙ columns-are g z.requires.seated z.args.cols.now z.args.rows.now cols-room rows-room z.requires.bounded_2 low_rows

  rows : map (line_of Down) (take g.n z.render_nodes.new.boxes) ≡ take g.n z.args.rows.now
  rows = ap (map (line_of Down)) boxes-are ∙ rows-are g z.requires.seated z.args.cols.now z.args.rows.now cols-room rows-room z.requires.bounded_2 low_rows

  wide : map (size_of Across) (take g.n z.render_nodes.new.boxes) ≡ widths (graph_of g)
  wide = ap (map (size_of Across)) boxes-are ∙ widths-are g z.requires.seated z.args.cols.now z.args.rows.now cols-room rows-room z.requires.bounded_2 low_rows

  tall : map (size_of Down) (take g.n z.render_nodes.new.boxes) ≡ tallnesses (graph_of g)
  tall = ap (map (size_of Down)) boxes-are ∙ heights-are g z.requires.seated z.args.cols.now z.args.rows.now cols-room rows-room z.requires.bounded_2 low_rows

  -- once the lines are stored, and the boxes placed
  module _ (xs ys : List ℕ)
      (xs-is : xs ≡ begins_to 1024 (map (line_of Across) (take g.n z.render_nodes.new.boxes)) (map (size_of Across) (take g.n z.render_nodes.new.boxes)) (z.largest_of-last_column.result + 1))
      (ys-is : ys ≡ begins_to 2048 (map (line_of Down) (take g.n z.render_nodes.new.boxes)) (map (size_of Down) (take g.n z.render_nodes.new.boxes)) (z.largest_of-last_row.result + 1))
      (bs : List BoxRecord) (bs-are : bs ≡ map (placed_at xs ys) (take g.n z.render_nodes.new.boxes)) where
    xs-at : Begun 1024 (take g.n z.args.cols.now) (widths (graph_of g)) xs
    xs-at =
        begun 1024 (take g.n z.args.cols.now) (widths (graph_of g)) xs z.largest_of-last_column.result z.largest_of-last_column.ensures right-most
        (xs-is ∙ both (λ (ps ss : List ℕ). begins_to 1024 ps ss (z.largest_of-last_column.result + 1)) _ _ _ _ columns wide)

    ys-at : Begun 2048 (take g.n z.args.rows.now) (tallnesses (graph_of g)) ys
    ys-at =
        begun 2048 (take g.n z.args.rows.now) (tallnesses (graph_of g)) ys z.largest_of-last_row.result z.largest_of-last_row.ensures low-most
        (ys-is ∙ both (λ (ps ss : List ℕ). begins_to 2048 ps ss (z.largest_of-last_row.result + 1)) _ _ _ _ rows tall)

    abbrev after : List BoxRecord
    after = map (placed_at xs ys) (sized_in g z.args.rows.now z.args.cols.now)

    now-are : bs ≡ after
    now-are = bs-are ∙ ap (map (placed_at xs ys)) boxes-are

    long : length after ≡ g.n
    long = after-long g z.requires.seated z.args.cols.now z.args.rows.now cols-room rows-room z.requires.bounded_2 low_rows xs ys xs-at ys-at

    slice-are : take g.n (bs ++ drop g.n z.render_nodes.new.boxes) ≡ after
    slice-are =
        let n : length bs ≡ g.n = ap length now-are ∙ long in
        ap (λ (k : ℕ). take k (bs ++ drop g.n z.render_nodes.new.boxes)) (sym n) ∙ take-append_seam bs (drop g.n z.render_nodes.new.boxes) ∙ now-are

    array-is : bs ++ drop g.n z.render_nodes.new.boxes ≡ padded 48 no_box after
    array-is =
        both (λ (l m : List BoxRecord). l ++ drop g.n m) _ _ _ _ now-are z.render_nodes.ensures.boxes
        ∙ filled-over 48 no_box g.n (sized_in g z.args.rows.now z.args.cols.now) after
        (before-long g z.requires.seated z.args.cols.now z.args.rows.now cols-room rows-room z.requires.bounded_2 low_rows) long nodes

    abbrev slice : List BoxRecord
    slice = take g.n (bs ++ drop g.n z.render_nodes.new.boxes)

    inside : (k : ℕ) → k < length slice → k < g.n
    inside k h = omega (arith, ap length slice-are, long)

    inputs-small : (k : ℕ) → k < length slice → Near (get_or (take g.n z.render_nodes.new.sides) k no_sides).inputs (get_or slice k no_box)
    inputs-small k h =
        rw (sides-are, slice-are)
        (inputs-near g z.requires.seated z.args.cols.now z.args.rows.now cols-room rows-room z.requires.bounded_2 low_rows xs ys xs-at ys-at z.render_nodes.ensures.modest k (inside k h))

    outputs-small : (k : ℕ) → k < length slice → Near (get_or (take g.n z.render_nodes.new.sides) k no_sides).outputs (get_or slice k no_box)
    outputs-small k h =
        rw (sides-are, slice-are)
        (outputs-near g z.requires.seated z.args.cols.now z.args.rows.now cols-room rows-room z.requires.bounded_2 low_rows xs ys xs-at ys-at z.render_nodes.ensures.modest k (inside k h))

    abbrev curves-in : List Sides → List BoxRecord → ℕ → Curves
    curves-in ss ds k = each no_curves (curves_at (items_of g.sources) (items_of g.sinks) (inputs_in ss ds) (outputs_in ss ds)) k

    curves-as : (all : Curves) → all ≡ curves-in (take g.n z.render_nodes.new.sides) slice (length slice) → all ≡ curves-in (sides_in g) after g.n
    curves-as all e =
        e ∙ both (λ (ss : List Sides) (ds : List BoxRecord). curves-in ss ds (length ds)) _ _ _ _ sides-are slice-are ∙ ap (curves-in (sides_in g) after) long

    few : (all : Curves) → all ≡ curves-in (take g.n z.render_nodes.new.sides) slice (length slice) → all.count ≤ 88
    few all e =
        drawn-few g z.requires.seated z.args.cols.now z.args.rows.now cols-room rows-room z.requires.bounded_2 low_rows xs ys xs-at ys-at all (curves-as all e)

pub lay-width-requires-clause-last_bound : goal.lay-width-requires-clause-last_bound
lay-width-requires-clause-last_bound c = right-most (goal.at.lay-width-requires-clause-last_bound c).After-largest_of-last_row

pub lay-width-requires-clause-small : goal.lay-width-requires-clause-small
lay-width-requires-clause-small c =
    let z = (goal.at.lay-width-requires-clause-small c).After-largest_of-last_row in
    rw (boxes-are z) (small-widths (g z) z.requires.seated z.args.cols.now z.args.rows.now (cols-room z) (rows-room z) z.requires.bounded_2 (low_rows z) z.render_nodes.ensures.modest)

pub lay-height-requires-clause-last_bound : goal.lay-height-requires-clause-last_bound
lay-height-requires-clause-last_bound c = low-most (goal.at.lay-height-requires-clause-last_bound c).After-largest_of-last_row

pub lay-height-requires-clause-small : goal.lay-height-requires-clause-small
lay-height-requires-clause-small c =
    let z = (goal.at.lay-height-requires-clause-small c).After-largest_of-last_row in
    rw (boxes-are z) (small-heights (g z) z.requires.seated z.args.cols.now z.args.rows.now (cols-room z) (rows-room z) z.requires.bounded_2 (low_rows z) z.render_nodes.ensures.modest)

pub place-requires : goal.place-requires
place-requires c =
    let z = (goal.at.place-requires c).After-largest_of-last_row in
    rw (boxes-are z) (placeable (g z) z.requires.seated z.args.cols.now z.args.rows.now (cols-room z) (rows-room z) z.requires.bounded_2 (low_rows z))

pub all_curves-requires-clause-inputs : goal.all_curves-requires-clause-inputs
all_curves-requires-clause-inputs c =
    let z = (goal.at.all_curves-requires-clause-inputs c).After-largest_of-last_row in
    inputs-small z _ _ c.lay-width.ensures.starts c.lay-height.ensures.starts c.place.new.boxes c.place.ensures

pub all_curves-requires-clause-outputs : goal.all_curves-requires-clause-outputs
all_curves-requires-clause-outputs c =
    let z = (goal.at.all_curves-requires-clause-outputs c).After-largest_of-last_row in
    outputs-small z _ _ c.lay-width.ensures.starts c.lay-height.ensures.starts c.place.new.boxes c.place.ensures

pub overflow_add-result : goal.overflow_add-result
overflow_add-result c = omega (arith, right-most (goal.at.overflow_add-result c).After-largest_of-last_row)

pub overflow_add-result-2 : goal.overflow_add-result-2
overflow_add-result-2 c = omega (arith, low-most (goal.at.overflow_add-result-2 c).After-largest_of-last_row)

pub overflow_cast-result-2 : goal.overflow_cast-result-2
overflow_cast-result-2 c =
    let z = (goal.at.overflow_cast-result-2 c).After-largest_of-last_row in
    omega (arith, few z _ _ c.lay-width.ensures.starts c.lay-height.ensures.starts c.place.new.boxes c.place.ensures _ c.all_curves.ensures)

pub returns : goal.returns
returns c =
    let z = (goal.at.returns c).After-largest_of-last_row in
    let a = z.args in
    let xs = c.lay-width.new.starts in
    let ys = c.lay-height.new.starts in
    let xs-is = c.lay-width.ensures.starts in
    let ys-is = c.lay-height.ensures.starts in
    let bs = c.place.new.boxes in
    let right = c.largest_of-last_column.result in
    let low = c.largest_of-last_row.result in
    laid-is (g z) z.requires.seated a.cols.now a.rows.now (cols-room z) (rows-room z) z.requires.bounded_2 (low_rows z) xs ys (xs-at z xs ys xs-is ys-is bs c.place.ensures) (ys-at z xs ys xs-is ys-is bs c.place.ensures)
    right low c.lay-width.result c.lay-height.result (bs ++ drop (g z).n z.render_nodes.new.boxes) c.all_curves.new.all z.largest_of-last_column.ensures z.largest_of-last_row.ensures
    (c.lay-width.ensures.size ∙ both (λ (ps ss : List ℕ). begins 1024 ps ss right + extent ps ss right + 128) _ _ _ _ (columns z) (wide z))
    (c.lay-height.ensures.size ∙ both (λ (ps ss : List ℕ). begins 2048 ps ss low + extent ps ss low + 128) _ _ _ _ (rows z) (tall z))
    (array-is z xs ys xs-is ys-is bs c.place.ensures) (curves-as z xs ys xs-is ys-is bs c.place.ensures _ c.all_curves.ensures) a.x a.y
