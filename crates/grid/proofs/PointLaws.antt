-- A node's box: each input and each output point lies in it, edges counted, and at an even height.
-- Assumes nothing.
use Prim.Native.Nat.{ℕ, ◌+◌, ◌-◌, ◌*◌, ◌/◌, ◌%◌, ◌≤◌}
use native.Mathlib.Omega.{arith}
use native.Mathlib.Nat.{div-mul-le_self, mul-suc}
use mathlib.Core.Path.{◌≡◌, refl}
use mathlib.Core.List.{List, [], ◌∷◌}
use lib.ListN.{length}
use Rattle.laws.specs.Lists.{All}
use Rattle.laws.proofs.Tests.{pick}
use Rattle.graph.specs.Graph.{Line, Edge, Node}
use Rattle.grid.specs.RenderNode.{Input, Output, end_width, ends_width, inner_width, no_width, written, separation, first_x, inputs_at, outputs_at, lines_height, input_y, output_y, box_width, box_height, source_gap, sink_gap, drawn}

abbrev pub Even : ℕ → Type 0
Even k = k % 2 ≡ 0

-- in a box of this width and height, edges counted
abbrev pub InputIn : ℕ → ℕ → Input → Type 0
InputIn w h i = (i.x ≤ w) × (i.y ≤ h) × Even i.y

abbrev pub OutputIn : ℕ → ℕ → Output → Type 0
OutputIn w h o = (o.x ≤ w) × (o.y ≤ h) × Even o.y

-- ---- ends take their widths, and a gap after each but the last
abbrev span : ℕ → List Edge → ℕ
span sep [] = 0
span sep (e ∷ []) = end_width e
span sep (e ∷ f ∷ es) = end_width e + sep + span sep (f ∷ es)

module _ (w h sep y : ℕ) (low : y ≤ h) (even : Even y) where
  inputs-at : (es : List Edge) (x : ℕ) → x + span sep es + 128 ≤ w → All (InputIn w h) (inputs_at sep x y es)
  inputs-at [] x k = tt
  inputs-at (e ∷ []) x k = ((omega arith, low, even), tt)
  inputs-at (e ∷ f ∷ es) x k = ((omega arith, low, even), inputs-at (f ∷ es) (x + end_width e + sep) (omega arith))

  outputs-at : (es : List Edge) (x : ℕ) → x + span sep es + 128 ≤ w → All (OutputIn w h) (outputs_at sep x y es)
  outputs-at [] x k = tt
  outputs-at (e ∷ []) x k = ((omega arith, low, even), tt)
  outputs-at (e ∷ f ∷ es) x k = ((omega arith, low, even), outputs-at (f ∷ es) (x + end_width e + sep) (omega arith))

span-is : (sep : ℕ) (f : Edge) (es : List Edge) → span sep (f ∷ es) ≡ ends_width (f ∷ es) + sep * length es
span-is sep f [] = omega arith
span-is sep f (e ∷ es) = omega (arith, span-is sep e es, mul-suc sep (length es))

gaps_fit : (inner : ℕ) (es : List Edge) → ends_width es ≤ inner → first_x (separation (inner - ends_width es) es) es + span (separation (inner - ends_width es) es) es ≤ 128 + inner
gaps_fit inner [] h = omega arith
gaps_fit inner (e ∷ []) h = omega arith
gaps_fit inner (e ∷ f ∷ es) h =
    let free : ℕ = inner - ends_width (e ∷ f ∷ es) in
    let sep : ℕ = free / length (f ∷ es) in
    let m : sep * length (f ∷ es) ≤ free = div-mul-le_self free (length (f ∷ es)) in
    let s : span sep (e ∷ f ∷ es) ≡ ends_width (e ∷ f ∷ es) + sep * length (f ∷ es) = span-is sep e (f ∷ es) in
    omega arith

lines-even : (ls : List Line) → Even (lines_height ls)
lines-even [] = refl
lines-even (l ∷ ls) = omega arith

-- ---- a node's box
module _ (n : Node) where
  input_even : Even (input_y n)
  input_even = pick Even (no_width n) 128 0 refl refl

  output_even : Even (output_y n)
  output_even =
      omega (arith, input_even, pick Even (written n.sources) 256 0 refl refl, pick Even (written n.sinks) 256 0 refl refl, lines-even n.lines)

  pub height-even : Even (box_height n)
  height-even = omega (arith, output_even, pick Even (no_width n) 128 0 refl refl)

  pub inputs_in_lem : All (InputIn (box_width n) (box_height n)) (drawn n).inputs
  unfolding drawn
  inputs_in_lem =
      inputs-at (box_width n) (box_height n) (source_gap n) (input_y n) (omega arith) input_even n.sources (first_x (source_gap n) n.sources)
      (omega (arith, gaps_fit (inner_width n) n.sources (omega arith)))

  pub outputs_in : All (OutputIn (box_width n) (box_height n)) (drawn n).outputs
  unfolding drawn
  outputs_in =
      outputs-at (box_width n) (box_height n) (sink_gap n) (output_y n) (omega arith) output_even n.sinks (first_x (sink_gap n) n.sinks)
      (omega (arith, gaps_fit (inner_width n) n.sinks (omega arith)))
