-- The pass over a text: byte by byte, and what it keeps is small enough. Assumes nothing.
use mathlib.Core.Path.{◌≡◌, refl, sym, ap}
use mathlib.Core.Bool.{Bool, true, false, cond, not, ◌&&◌}
use mathlib.Core.List.{List}
use Prim.Native.Nat.{ℕ, zero, suc, ◌+◌, ◌*◌, ◌≤◌, ◌<◌}
use native.Mathlib.Numerals.{add-one}
use native.Mathlib.Omega.{arith}
use borrow.Author.Tests.{leb-true}
use lib.Dec.{eqb, leb}
use lib.ListN.{get_or}
use Rattle.path.specs.declared.reader.Phase.{Phase}
use Rattle.path.specs.declared.reader.Phase.TheVariants.{Begin, Letter, Lettered, Digit, Number, Point, Halved, Stopped}
use Rattle.path.specs.declared.reader.Act.{Act}
use Rattle.path.specs.declared.reader.Act.TheVariants.{Letter as letter, Space as space, First as first, More as more, Point as point, Half as half, Stop as stop, Stay as stay}
use Rattle.path.specs.declared.reader.Stand.{Stand}
use Rattle.path.specs.declared.pass.Pass.{Pass}
use Rattle.path.specs.Number.{limit}
use Rattle.path.specs.Reader.{is_digit, on_space, on_letter, act_of, act, grown, moved}
use Rattle.path.specs.code.Pass.{begins, passed, pass_to}
use Rattle.path.proofs.Readings.{choose, by-letter, both, digit-small}

pub pass-next : (k : ℕ) (s : List ℕ) (i : ℕ) → pass_to k s (i + 1) ≡ passed k (act (pass_to k s i).stand (get_or s i 0)) i (pass_to k s i)
unfolding pass_to
pass-next k s i = ap (pass_to k s) (add-one i)

pub begins-small : (a : Act) → begins a ≤ 1
begins-small (letter b) = omega arith
begins-small space = omega arith
begins-small (first d) = omega arith
begins-small (more d) = omega arith
begins-small point = omega arith
begins-small half = omega arith
begins-small stop = omega arith
begins-small stay = omega arith

pub count_le : (k : ℕ) (s : List ℕ) (i : ℕ) → (pass_to k s i).count ≤ i
unfolding pass_to
count_le k s zero = omega arith
count_le k s (suc i) = omega (arith, count_le k s i, begins-small (act (pass_to k s i).stand (get_or s i 0)))

-- ---- a digit is below ten, so a whole part stays below ten times the limit and ten
abbrev Tens : Act → Type 0
Tens (letter b) = Unit {0}
Tens space = Unit {0}
Tens (first d) = d < 10
Tens (more d) = d < 10
Tens point = Unit {0}
Tens half = Unit {0}
Tens stop = Unit {0}
Tens stay = Unit {0}

spaced-tens : (b : ℕ) → Tens (on_space b)
spaced-tens b = choose Tens (eqb b 32) (λ e. tt) (λ e. tt)

letter-tens : (b : ℕ) → Tens (on_letter b)
letter-tens b = by-letter Tens b (λ c e. tt) tt

act-tens : (p : Phase) (v b : ℕ) → Tens (act_of p v b)
act-tens Begin v b = letter-tens b
act-tens Letter v b = letter-tens b
act-tens Lettered v b = spaced-tens b
act-tens Digit v b = choose Tens (is_digit b) (λ (e : is_digit b ≡ true). (digit-small b e).0) (λ e. tt)
act-tens Number v b =
    choose Tens (not (eqb v 0) && is_digit b) (λ (e : (not (eqb v 0) && is_digit b) ≡ true). (digit-small b (both (not (eqb v 0)) (is_digit b) e).1).0)
    (λ e. choose Tens (eqb b 46) (λ f. tt) (λ f. spaced-tens b))
act-tens Point v b = choose Tens (eqb b 53) (λ e. tt) (λ e. tt)
act-tens Halved v b = spaced-tens b
act-tens (Stopped q) v b = tt

grown-small : (v d : ℕ) → d < 10 → v < 100000000 → grown v d < 100000000
grown-small v d h l = go (leb v limit) refl
  where
    go : (t : Bool) → leb v limit ≡ t → cond t (10 * v + d) v < 100000000
    go true e = let k : v ≤ limit = leb-true v limit e in omega arith
    go false e = l

moved-small : (a : Act) (at : ℕ) (s : Stand) → Tens a → s.value < 100000000 → (moved a at s).value < 100000000
moved-small (letter b) at s t l = l
moved-small space at s t l = l
moved-small (first d) at s t l = omega arith
moved-small (more d) at s t l = grown-small s.value d t l
moved-small point at s t l = l
moved-small half at s t l = l
moved-small stop at s t l = l
moved-small stay at s t l = l

pub value-small : (k : ℕ) (s : List ℕ) (i : ℕ) → (pass_to k s i).stand.value < 100000000
unfolding pass_to
value-small k s zero = omega arith
value-small k s (suc i) = moved-small (act (pass_to k s i).stand (get_or s i 0)) i (pass_to k s i).stand (act-tens (pass_to k s i).stand.phase (pass_to k s i).stand.value (get_or s i 0)) (value-small k s i)

pub next_small : (k : ℕ) (s : List ℕ) (i : ℕ) → (moved (act (pass_to k s i).stand (get_or s i 0)) i (pass_to k s i).stand).value < 100000000
next_small k s i = moved-small (act (pass_to k s i).stand (get_or s i 0)) i (pass_to k s i).stand (act-tens (pass_to k s i).stand.phase (pass_to k s i).stand.value (get_or s i 0)) (value-small k s i)

-- ---- a turn of the loop
module _ (k : ℕ) (s : List ℕ) (i : ℕ) (m : Pass) (a : Act) (e : m ≡ pass_to k s i) (f : a ≡ act m.stand (get_or s i 0)) where
  pub turn_count : m.count ≤ i
  turn_count = rw e (count_le k s i)

  pub turn_value : (moved a i m.stand).value < 100000000
  turn_value = rw (f, e) (next_small k s i)

  pub turn_next : passed k a i m ≡ pass_to k s (i + 1)
  turn_next = rw (f, e) (sym (pass-next k s i))
