-- What `grid` promises, as the result for C: where the number is 0 nothing is refused, and the promises are handed on.
-- Assumes nothing.
use Prim.Native.Nat.{ℕ}
use mathlib.Core.Path.{◌≡◌, sym, ap, ◌∙◌, subst}
use mathlib.Core.List.{List}
use Rattle.std.specs.Prelude.{Result, Ok}
use Rattle.refusals.specs.declared.Refusal.{Refusal}
use Rattle.chart.specs.declared.Setting.{Setting}
use Rattle.grid.specs.declared.SheetRecord.{SheetRecord}
use Rattle.grid.specs.LaidOut.{IsSheet}
use Rattle.path.proofs.TextSizes.{own-text-most}
use Rattle.margalhosa.specs.declared.SheetResult.{SheetResult}
use Rattle.margalhosa.specs.Results.{sheet_result, IsSheetResult}
use Rattle.margalhosa.proofs.Zeros.{sheet_zero}

pub sheet-is : (v : Setting) (s : List ℕ) (x y : ℕ) (o : Result SheetRecord Refusal) → IsSheet v s x y o → (r : SheetResult) → r ≡ sheet_result o → IsSheetResult v s x y r
sheet-is v s x y o i r e =
    let own : r.refused ≡ 0 → o ≡ Ok r.sheet = λ z. sheet_zero o (ap (λ (u : SheetResult). u.refused) (sym e) ∙ z) ∙ ap (λ (u : SheetResult). Ok u.sheet) (sym e) in
    record {
      whole = e ∙ ap sheet_result i.whole;
      promised = subst (IsSheet v s x y) i.whole i;
      drawn = λ z. sym i.whole ∙ own z;
      laid = λ z. i.laid r.sheet (own z);
      text_most = λ z. own-text-most v s x y o i r.sheet (own z);
    }
