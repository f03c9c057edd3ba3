-- Laws of the curves: an output that is joined is an end.
-- Assumes nothing.
use Prim.Native.Nat.{ℕ, zero, suc}
use mathlib.Core.Path.{◌≡◌, refl}
use mathlib.Core.Option.{none, some}
use mathlib.Core.Option as maybe
use mathlib.Core.Bool.{Bool, true, false, cond}
use mathlib.Core.List.{List, [], ◌∷◌, map}
use lib.Dec.{eqb}
use Rattle.std.specs.Prelude.{Option, Some, None, MatchOption}
use Rattle.std.specs.List.{find, slice_get}
use Rattle.laws.specs.Lists.{one}
use Rattle.grid.specs.declared.Curve.{Curve}
use Rattle.grid.specs.declared.render_node.row.End.{End}
use Rattle.grid.specs.RenderNode.{Input}
use Rattle.grid.specs.Curves.{output_at, first_to, output_for, curve_if}
use Rattle.grid.specs.code.Row.{end_for}
use Rattle.grid.proofs.RowLaws.{output_of}

-- the curve from an end at height y
abbrev pub curve_of : Option End → ℕ → Input → List Curve
curve_of None y i = []
curve_of (Some e) y i = one (record { x0 = e.point; y0 = y; x1 = i.x; y1 = i.y })

module _ (y k : ℕ) (i : Input) where
  first-end : (es : List End) → curve_if (first_to (map (output_of y) es) k) i ≡ curve_of (find (λ e. eqb e.item.to k) es) y i
  first-end [] = refl
  first-end (e ∷ es) = go (eqb e.item.to k) (first-end es)
    where
      go : (b : Bool) → curve_if (first_to (map (output_of y) es) k) i ≡ curve_of (find (λ e. eqb e.item.to k) es) y i →
          curve_if (cond b (some (output_of y e)) (first_to (map (output_of y) es) k)) i ≡ curve_of (cond b (Some e) (find (λ e. eqb e.item.to k) es)) y i
      go true rest = refl
      go false rest = rest

  numbered-end : (es : List End) (m : ℕ) → curve_if (output_at (map (output_of y) es) m) i ≡ curve_of (slice_get es m) y i
  numbered-end [] m = refl
  numbered-end (e ∷ es) zero = refl
  numbered-end (e ∷ es) (suc m) = numbered-end es m

  pub curve-is : (mark : maybe.Option ℕ) (number : Option ℕ) → MatchOption number (mark ≡ none) (λ m. mark ≡ some m) → (es : List End) →
      curve_if (output_for mark (map (output_of y) es) k) i ≡ curve_of (end_for number k es) y i
  curve-is mark None e es = rw e (first-end es)
  curve-is mark (Some m) e es = rw e (numbered-end es m)
