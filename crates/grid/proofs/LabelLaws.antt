-- Laws of the labels.
-- Assumes nothing.
use Prim.Native.Nat.{ℕ, zero, suc, ◌+◌, ◌-◌, ◌*◌, ◌/◌, ◌≤◌, ◌<◌}
use native.Mathlib.Omega.{arith}
use mathlib.Core.Path.{◌≡◌, refl, ap, sym, ◌∙◌}
use mathlib.Core.Bool.{Bool, true, false, cond}
use mathlib.Core.List.{List, [], ◌∷◌, ◌++◌, map}
use lib.Dec.{ltb}
use lib.ListN.{length, get_or, get_or-eq_default}
use native.Mathlib.Nat.{zero-add}
use Rattle.laws.specs.Lists.{tabulate, padded}
use Rattle.laws.proofs.Lists.{length-tabulate, get_d_tabulate, map-tabulate}
use Rattle.chart.specs.code.Filled.{owned_lines, lines_of as texts_of'}
use Rattle.graph.specs.declared.Name.TheVariants.{Nothing}
use Rattle.graph.specs.declared.Item.{Item}
use Rattle.graph.specs.declared.Tables.{Tables}
use Rattle.graph.specs.Graph.{Line, given, Edge, Node, Graph, node_at}
use Rattle.graph.specs.code.Tables.{owned, edge_of, items_of, name_line, graph_of}
use Rattle.grid.specs.declared.LabelPlace.{LabelPlace}
use Rattle.grid.specs.declared.TextPlace.TheVariants.{InChart}
use Rattle.std.specs.Prelude.{Some, None}
use Rattle.std.specs.List.{filter_map, cons_option, slice_get}
use Rattle.std.proofs.lemmas.List.{map-append}
use Rattle.grid.specs.declared.render_node.RenderNode.{RenderNode}
use Rattle.grid.specs.RenderNode.{Text, end_texts, text_if, line_texts, end_width, text_length, drawn, source_gap, sink_gap, first_x, input_y, output_y, center_y, inner_width, center_width}
use Rattle.grid.specs.Record.{no_box}
use Rattle.grid.specs.RenderGrid.{text_moved, box_of, sheet_of}
use Rattle.grid.specs.Curves.{no_outputs, box_record, record_of}
use Rattle.grid.specs.declared.BoxRecord.{BoxRecord}
use Rattle.grid.proofs.Arrays.{filled_at}
use Rattle.grid.specs.Labels.{place_of, label_at, label_of}
use Rattle.grid.specs.code.Sited.{end_place, node_label}
use Rattle.grid.specs.code.Row.{ends_at, own}
use Rattle.grid.proofs.RowLaws.{owned-are}
use Rattle.grid.specs.code.Rendered.{render_of}
use Rattle.grid.proofs.NodeLaws.{node-is}

-- ---- the labels of texts
label-get : (ts : List Text) (i : ℕ) → label_at ts i ≡ slice_get (map place_of ts) i
label-get [] i = refl
label-get (t ∷ ts) zero = refl
label-get (t ∷ ts) (suc i) = label-get ts i

end_labels : (gap y : ℕ) (es : List Item) (x : ℕ) → map place_of (end_texts gap x y (map edge_of es)) ≡ filter_map (end_place y) (ends_at gap x es)
end_labels gap y [] x = refl
end_labels gap y (e ∷ es) x = go (ltb 0 e.len) (end_labels gap y es (x + 128 * e.len + gap))
  where
    go : (b : Bool) → map place_of (end_texts gap (x + 128 * e.len + gap) y (map edge_of es)) ≡ filter_map (end_place y) (ends_at gap (x + 128 * e.len + gap) es) →
        map place_of (text_if b (record { x = x; y = y; size = 232; width = 128 * e.len; line = given (edge_of e).text }) (end_texts gap (x + 128 * e.len + gap) y (map edge_of es)))
        ≡ cons_option (cond b (Some (record { x = x; y = y; size = 232; width = 128 * e.len; text = InChart e.at e.len })) None) (filter_map (end_place y) (ends_at gap (x + 128 * e.len + gap) es))
    go true rest = ap (λ ps. record { x = x; y = y; size = 232; width = 128 * e.len; text = InChart e.at e.len } ∷ ps) rest
    go false rest = rest

-- those of the ends that p owns
abbrev pub labels-at : ℕ → ℕ → ℕ → ℕ → List Item → List LabelPlace
labels-at p gap x y xs = filter_map (end_place y) (ends_at gap x (own p xs))

labels_owned : (p gap x y : ℕ) (xs : List Item) → map place_of (end_texts gap x y (owned p xs)) ≡ labels-at p gap x y xs
labels_owned p gap x y xs = rw (owned-are (λ r. r.owner) edge_of p xs) (end_labels gap y (own p xs) x)

-- ---- texts that are moved
module _ (dx dy : ℕ) where
  if_moved : (b : Bool) (t : Text) (ts : List Text) → map (text_moved dx dy) (text_if b t ts) ≡ text_if b (text_moved dx dy t) (map (text_moved dx dy) ts)
  if_moved true t ts = refl
  if_moved false t ts = refl

  pub ends-moved : (gap x y : ℕ) (es : List Edge) → end_texts gap (x + dx) (y + dy) es ≡ map (text_moved dx dy) (end_texts gap x y es)
  ends-moved gap x y [] = refl
  ends-moved gap x y (e ∷ es) =
      let b : x + dx + end_width e + gap ≡ x + end_width e + gap + dx = omega arith in
      let t : Text = record { x = x; y = y; size = 232; width = end_width e; line = given e.text } in
      ap (λ (i : ℕ). text_if (ltb 0 (text_length e)) (text_moved dx dy t) (end_texts gap i (y + dy) es)) b
      ∙ ap (text_if (ltb 0 (text_length e)) (text_moved dx dy t)) (ends-moved gap (x + end_width e + gap) y es)
      ∙ sym (if_moved (ltb 0 (text_length e)) t (end_texts gap (x + end_width e + gap) y es))

  pub lines-moved : (x wy : ℕ) (ls : List Line) → line_texts (x + dx) (wy + dy) ls ≡ map (text_moved dx dy) (line_texts x wy ls)
  lines-moved x wy [] = refl
  lines-moved x wy (l ∷ ls) =
      let a : wy + dy + 512 - 192 ≡ wy + 512 - 192 + dy = omega arith in
      let b : wy + dy + 512 + 128 ≡ wy + 512 + 128 + dy = omega arith in
      rw (a, b, lines-moved x (wy + 512 + 128) ls)

-- ---- the texts of a node whose box is at x and y
abbrev top : Node → ℕ → ℕ → List Text
top n x y = end_texts (source_gap n) (first_x (source_gap n) n.sources + x) (input_y n + 256 - 48 + y) n.sources

abbrev mid : Node → ℕ → ℕ → List Text
mid n x y = line_texts ((inner_width n - center_width n) / 2 + 128 + x) (center_y n + y) n.lines

abbrev low : Node → ℕ → ℕ → List Text
low n x y = end_texts (sink_gap n) (first_x (sink_gap n) n.sinks + x) (output_y n - 48 + y) n.sinks

module _ (n : Node) (x y : ℕ) where
  parts : map (text_moved x y) (drawn n).texts ≡ top n x y ++ mid n x y ++ low n x y
  unfolding drawn
  parts =
      let a = end_texts (source_gap n) (first_x (source_gap n) n.sources) (input_y n + 256 - 48) n.sources in
      let b = line_texts ((inner_width n - center_width n) / 2 + 128) (center_y n) n.lines in
      let c = end_texts (sink_gap n) (first_x (sink_gap n) n.sinks) (output_y n - 48) n.sinks in
      map-append (text_moved x y) (a ++ b) c
      ∙ ap (λ (l : List Text). l ++ map (text_moved x y) c) (map-append (text_moved x y) a b)
      ∙ cc (
        ends-moved x y (source_gap n) (first_x (source_gap n) n.sources) (input_y n + 256 - 48) n.sources,
        lines-moved x y ((inner_width n - center_width n) / 2 + 128) (center_y n) n.lines,
        ends-moved x y (sink_gap n) (first_x (sink_gap n) n.sinks) (output_y n - 48) n.sinks,
      )

  label-parts : (i : ℕ) → node_label n x y i ≡ slice_get (map place_of (top n x y) ++ map place_of (mid n x y) ++ map place_of (low n x y)) i
  label-parts i =
      ap (λ (l : List Text). label_at l i) parts
      ∙ label-get (top n x y ++ mid n x y ++ low n x y) i
      ∙ ap (λ (l : List LabelPlace). slice_get l i)
      (map-append place_of (top n x y ++ mid n x y) (low n x y) ∙ ap (λ (l : List LabelPlace). l ++ map place_of (low n x y)) (map-append place_of (top n x y) (mid n x y)))

-- the labels of node p of the tables: those of its sources, of its lines and of its sinks
pub labels-are : (g : Tables) (p : ℕ) → p < g.n → (x y i : ℕ) (v : RenderNode) → v ≡ render_of (node_at (graph_of g) p) →
    node_label (node_at (graph_of g) p) x y i
    ≡ slice_get
    (labels-at p v.inputs.gap (v.inputs.x + x) (v.inputs.y + 256 - 48 + y) (items_of g.sources)
    ++ map place_of (line_texts (v.cx + x) (v.cy + y) (map given (owned_lines p (texts_of' g.lines)) ++ name_line (get_or g.names p Nothing)))
    ++ labels-at p v.outputs.gap (v.outputs.x + x) (v.outputs.y - 48 + y) (items_of g.sinks)) i
unfolding render_of
labels-are g p h x y i v is =
    label-parts (node_at (graph_of g) p) x y i ∙ rw (is, node-is g p h) (simp labels_owned)

-- the label of a box of the sheet, by the box's place in the record
pub label_sheet : (g : Graph) (cuts : ℕ) (cols rows : List ℕ) (x y : ℕ) → length g ≤ 48 → (k i : ℕ) → k < length g →
    node_label (node_at g k) (get_or (record_of (sheet_of g cuts cols rows) x y).boxes k no_box).x (get_or (record_of (sheet_of g cuts cols rows) x y).boxes k no_box).y i
    ≡ label_of (sheet_of g cuts cols rows) k i
unfolding record_of sheet_of
label_sheet g cuts cols rows x y few k i h =
    let b : get_or (padded 48 no_box (map box_record (tabulate (box_of g cols rows) 0 (length g)))) k no_box ≡ box_record (box_of g cols rows k) =
    ap (λ (l : List BoxRecord). get_or (padded 48 no_box l) k no_box) (map-tabulate box_record (box_of g cols rows) 0 (length g))
    ∙ filled_at (λ k. box_record (box_of g cols rows k)) 48 no_box (length g) k few h in
    let d : get_or (tabulate (box_of g cols rows) 0 (length g)) k no_outputs ≡ box_of g cols rows k =
    get_d_tabulate (box_of g cols rows) 0 (length g) k no_outputs h ∙ ap (box_of g cols rows) (zero-add k) in
    rw (b, d)

-- past the boxes there is none
pub label_past : (g : Graph) (cuts : ℕ) (cols rows : List ℕ) (k i : ℕ) → length g ≤ k → label_of (sheet_of g cuts cols rows) k i ≡ None
unfolding sheet_of
label_past g cuts cols rows k i h =
    let l : length (tabulate (box_of g cols rows) 0 (length g)) ≤ k = omega (arith, length-tabulate (box_of g cols rows) 0 (length g)) in
    rw (get_or-eq_default (tabulate (box_of g cols rows) 0 (length g)) no_outputs l)
