-- Laws on lines and digits.
-- Assumes nothing.
use Prim.Native.Nat.{ℕ, zero, suc, ◌+◌, ◌≤◌, ◌<◌, min}
use native.Mathlib.Omega.{arith}
use native.Mathlib.Numerals.{add-one}
use mathlib.Core.Path.{◌≡◌, refl, sym, ap, ◌∙◌}
use mathlib.Core.Bool.{Bool, true, false, cond, and-true}
use mathlib.Core.List.{List, [], ◌∷◌}
use lib.Dec.{eqb, ltb}
use lib.ListN.{length, set, take, drop, length-drop}
use borrow.Author.Tests.{ltb-false}
use Rattle.std.specs.Prelude.{Some, None, nat_eq}
use Rattle.std.specs.Cmp.Lexicographic.{pointwise}
use Rattle.std.specs.Option.{unwrap_or}
use Rattle.std.specs.List.{starts_with}
use Rattle.std.proofs.lemmas.Bool.Decides.{nat_tests}
use Rattle.std.proofs.lemmas.List.{drop_min}
use Rattle.laws.proofs.Each.{next}
use Rattle.lines.specs.Lines.{line_of, lines_from, lines_of, is_default, byte_at, decoded}

-- the place that `position` found, or the length
pub found-or-length : (p l : ℕ) → p ≤ l → unwrap_or (cond (ltb p l) (Some p) None) l ≡ p
found-or-length p l h = go (ltb p l) refl
  where
    go : (q : Bool) → ltb p l ≡ q → unwrap_or (cond q (Some p) None) l ≡ p
    go true e = refl
    go false e = omega (arith, ltb-false p l e)

-- a text without a byte has no line, and a number of lines that is not less than the text's length leaves none out
pub no-line : (n : ℕ) → lines_from n [] ≡ []
unfolding lines_from
no-line zero = refl
no-line (suc n) = refl

enough : (n m : ℕ) (s : List ℕ) → length s ≤ n → length s ≤ m → lines_from n s ≡ lines_from m s
unfolding lines_from
enough n m [] h k = no-line n ∙ sym (no-line m)
enough zero m (b ∷ s) h k = absurd (omega arith)
enough (suc n) zero (b ∷ s) h k = absurd (omega arith)
enough (suc n) (suc m) (b ∷ s) h k =
    let line = line_of (b ∷ s) 0 in
    let d = length-drop (length line) s in
    ap (λ t. line ∷ t) (enough n m (drop (length line) s) (omega (arith, d)) (omega (arith, d)))

-- the first line, and those after it
pub first-line : (s : List ℕ) → 0 < length s → let line = line_of s 0 in lines_of s ≡ line ∷ lines_of (drop (min (length line + 1) (length s)) s)
unfolding lines_from
first-line [] h = absurd (omega arith)
first-line (b ∷ s) h =
    let k = length (line_of (b ∷ s) 0) in
    let rest = drop (min (k + 1) (suc (length s))) (b ∷ s) in
    let d : rest ≡ drop k s = drop_min (k + 1) (b ∷ s) ∙ rw (add-one k) in
    let l : length (drop k s) ≤ length s = omega (arith, length-drop k s) in
    ap (λ t. line_of (b ∷ s) 0 ∷ t) (enough (length s) (length (drop k s)) (drop k s) l (omega arith) ∙ sym (ap lines_of d))

-- whether a line begins with D, as `strip_prefix` and `starts_with` say it
pub stripped-byte : (s : List ℕ) → pointwise nat_eq (take 1 s) (68 ∷ []) ≡ is_default s
unfolding is_default
stripped-byte [] = refl
stripped-byte (b ∷ s) = and-true (eqb b 68)

pub starts : (s : List ℕ) → starts_with nat_eq s (68 ∷ []) ≡ is_default s
unfolding is_default
starts [] = refl
starts (b ∷ s) = and-true (eqb 68 b) ∙ grind (arith, nat_tests)

-- one byte more
pub decoded-next : (s : List ℕ) (k : ℕ) (buf : List ℕ) → decoded s (k + 1) buf ≡ set (decoded s k buf) k (byte_at s k)
decoded-next s k buf = next buf (λ i b. set b i (byte_at s i)) k
