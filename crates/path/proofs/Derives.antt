-- The text of segments derives in SVG's grammar, and the derivation's commands are the segments. Assumes nothing.
use mathlib.Core.Path.{◌≡◌, refl, subst}
use mathlib.Core.Bool.{Bool, true, false}
use mathlib.Core.List.{List, [], ◌∷◌, ◌++◌, append_assoc}
use Prim.Native.Nat.{ℕ, zero, suc, ◌+◌, ◌*◌, ◌/◌, ◌%◌, ◌^◌, ◌≤◌, ◌<◌}
use native.Mathlib.Nat.{div-lt_self}
use native.Mathlib.Omega.{arith}
use borrow.Author.Tests.{ltb-true, ltb-false}
use lib.Dec.{ltb, lit<}
use Rattle.path.specs.declared.drawn.Drawn.{Drawn}
use Rattle.path.specs.declared.drawn.Drawn.TheVariants.{Move, Line, Cubic, Close}
use Rattle.path.specs.Number.{digits, number_text, half_text}
use Rattle.path.specs.Text.{segment_text, rest_text, text_of, Led}
use Rattle.path.specs.Text as text
use Rattle.path.specs.Meaning as meaning
use Rattle.path.specs.Meaning.{IsHalf, Means, MeanAll}
use Rattle.path.specs.Svg as svg
use Rattle.path.specs.Svg.{Wsps, Between, Value, Digit, Digits, NotDigit, NotFraction, NotInteger, Apart, Number, Pair, Command, moveTo, lineTo, curve_to, close_path, MoveTo, DrawTo, DrawTos, Groups, SvgPath}
use Rattle.path.proofs.Words.{numbers-spaced}
use Rattle.path.proofs.Numbers.{digits-one, digits-tens}

-- ---- digits
snoc : {a v k c d : ℕ} {s r : List ℕ} → Digits a s v k (c ∷ r) → Digit c d → Digits a s (10 * v + d) (suc k) r
snoc (svg.one e) g = svg.more e (svg.one g)
snoc (svg.more e f) g = svg.more e (snoc f g)

digits-derive : (f n : ℕ) (r : List ℕ) → n < f → (k : ℕ) × Digits 0 (digits n ++ r) n k r
digits-derive zero n r h = absurd (omega arith)
digits-derive (suc f) n r h = go (ltb n 10) refl (λ (s : n / 10 < n). digits-derive f (n / 10) ((48 + n % 10) ∷ r) (omega arith))
  where
    go : (t : Bool) → ltb n 10 ≡ t → (n / 10 < n → (k : ℕ) × Digits 0 (digits (n / 10) ++ (48 + n % 10) ∷ r) (n / 10) k ((48 + n % 10) ∷ r)) → (k : ℕ) × Digits 0 (digits n ++ r) n k r
    go true e i =
        let s : n < 10 = ltb-true n 10 e in
        let z : 10 * 0 + n ≡ n = omega arith in
        (1, rw (digits-one n s) (subst (λ (v : ℕ). Digits 0 ((48 + n) ∷ r) v 1 r) z (svg.one (record { is = refl; small = s }))))
    go false e i =
        let l : 10 ≤ n = ltb-false n 10 e in
        let d : n % 10 < 10 = omega arith in
        let w : (k : ℕ) × Digits 0 (digits (n / 10) ++ (48 + n % 10) ∷ r) (n / 10) k ((48 + n % 10) ∷ r) = i (div-lt_self (omega arith) (omega arith)) in
        let z : 10 * (n / 10) + n % 10 ≡ n = omega arith in
        (suc w.0, rw (digits-tens n l, append_assoc) (subst (λ (v : ℕ). Digits 0 (digits (n / 10) ++ (48 + n % 10) ∷ r) v (suc w.0) r) z (snoc w.1 (record { is = refl; small = d }))))

-- ---- a number, where it ends or a space follows
pub data Gap : List ℕ → Type 0 where
  end : Gap []
  space : {r : List ℕ} → Gap (32 ∷ r)

no_digit_lem : NotDigit 32
no_digit_lem = record { no = λ d e. omega (arith, e.is) }

no_fraction_lem : NotFraction 32
no_fraction_lem = record { no_digit = no_digit_lem; no_small = λ e. omega arith; no_large = λ e. omega arith }

no-integer : NotInteger 32
no-integer = record { no_fraction = no_fraction_lem; no_point = λ e. omega arith }

apart : (P : ℕ → Type 0) → P 32 → (r : List ℕ) → Gap r → Apart P r
apart P h r end = svg.end
apart P h r space = svg.byte h

-- the value of h halves: n / 1, or (10 n + 5) / 10
abbrev value_for : ℕ → ℕ → Value
value_for zero n = record { minus = false; over = n; under = 1 }
value_for (suc m) n = record { minus = false; over = 10 * n + 5; under = 10 ^ 1 }

abbrev value : ℕ → Value
value h = value_for (h % 2) (h / 2)

value-half : (h : ℕ) → IsHalf (value h) h
value-half h = go (h % 2) refl (omega arith)
  where
    go : (m : ℕ) → h % 2 ≡ m → m < 2 → IsHalf (value_for m (h / 2)) h
    go zero e l = record { positive = refl; same = omega arith }
    go (suc zero) e l = record { positive = refl; same = omega arith }
    go (suc (suc m)) e l = absurd (omega arith)

-- the text of h and what follows it
abbrev word : ℕ → List ℕ → List ℕ
word h r = number_text h ++ r

number-derive : (h : ℕ) (r : List ℕ) → Gap r → Number (word h r) (value h) r
unfolding number_text
number-derive h r g = rw (append_assoc (digits (h / 2)) (half_text (h % 2)) r) (go (h % 2))
  where
    go : (m : ℕ) → Number (digits (h / 2) ++ (half_text m ++ r)) (value_for m (h / 2)) r
    go zero =
        let d : (k : ℕ) × Digits 0 (digits (h / 2) ++ r) (h / 2) k r = digits-derive (suc (h / 2)) (h / 2) r (omega arith) in
        svg.number svg.none (svg.integer d.1 (apart NotInteger no-integer r g))
    go (suc m) =
        let d : (k : ℕ) × Digits 0 (digits (h / 2) ++ 46 ∷ 53 ∷ r) (h / 2) k (46 ∷ 53 ∷ r) = digits-derive (suc (h / 2)) (h / 2) (46 ∷ 53 ∷ r) (omega arith) in
        svg.number svg.none (svg.fraction (svg.both d.1 (svg.one {d = 5} (record { is = refl; small = lit< tt }))) (apart NotFraction no_fraction_lem r g))

pair-derive : (x y : ℕ) (r : List ℕ) → Gap r → Pair (word x (32 ∷ word y r)) (value x) (value y) r
pair-derive x y r g = svg.pair (number-derive x (32 ∷ word y r) space) (svg.something (svg.spaces svg.space svg.none)) (number-derive y r g)

-- ---- commands
abbrev command : Drawn → Command
command (Move x y) = moveTo false (value x) (value y)
command (Line x y) = lineTo false (value x) (value y)
command (Cubic a b c d x y) = curve_to false (value a) (value b) (value c) (value d) (value x) (value y)
command Close = close_path

abbrev commands : List Drawn → List Command
commands [] = []
commands (d ∷ ds) = command d ∷ commands ds

means : (d : Drawn) → Means (command d) d
means (Move x y) = meaning.move (value-half x) (value-half y)
means (Line x y) = meaning.line (value-half x) (value-half y)
means (Cubic a b c d x y) = meaning.cubic (value-half a) (value-half b) (value-half c) (value-half d) (value-half x) (value-half y)
means Close = meaning.close

mean-all : (ds : List Drawn) → MeanAll (commands ds) ds
mean-all [] = meaning.none
mean-all (d ∷ ds) = meaning.more (means d) (mean-all ds)

one-space : {r : List ℕ} → Wsps (32 ∷ r) r
one-space = svg.more svg.space svg.none

between : {r : List ℕ} → Between (32 ∷ r) r
between = svg.something (svg.spaces svg.space svg.none)

move-derive : (x y : ℕ) (r : List ℕ) → Gap r → MoveTo (segment_text (Move x y) ++ r) (command (Move x y) ∷ []) r
move-derive x y r g = subst (λ (z : List ℕ). MoveTo (77 ∷ z) (command (Move x y) ∷ []) r) (numbers-spaced (x ∷ y ∷ []) r) (svg.one svg.absolute one-space (pair-derive x y r g))

line-derive : (x y : ℕ) (r : List ℕ) → Gap r → DrawTo (segment_text (Line x y) ++ r) (command (Line x y) ∷ []) r
line-derive x y r g = subst (λ (z : List ℕ). DrawTo (76 ∷ z) (command (Line x y) ∷ []) r) (numbers-spaced (x ∷ y ∷ []) r) (svg.lines svg.absolute one-space (svg.one (svg.argument (pair-derive x y r g))))

cubic-derive : (a b c d x y : ℕ) (r : List ℕ) → Gap r → DrawTo (segment_text (Cubic a b c d x y) ++ r) (command (Cubic a b c d x y) ∷ []) r
cubic-derive a b c d x y r g =
    subst (λ (z : List ℕ). DrawTo (67 ∷ z) (command (Cubic a b c d x y) ∷ []) r) (numbers-spaced (a ∷ b ∷ c ∷ d ∷ x ∷ y ∷ []) r)
    (svg.curves svg.absolute one-space
    (svg.one (svg.argument (pair-derive a b (32 ∷ word c (32 ∷ word d (32 ∷ word x (32 ∷ word y r)))) space) between (pair-derive c d (32 ∷ word x (32 ∷ word y r)) space) between (pair-derive x y r g))))

close-derive : (r : List ℕ) → DrawTo (segment_text Close ++ r) (command Close ∷ []) r
close-derive r = svg.closed svg.absolute

-- ---- what may follow a command: drawto-commands, groups, both or nothing
data Follow : List ℕ → List Command → Type 0 where
  nothing : Follow [] []
  groups : {s : List ℕ} {cs : List Command} → Groups s cs [] → Follow (32 ∷ s) cs
  draws : {s : List ℕ} {cs : List Command} → DrawTos s cs [] → Follow (32 ∷ s) cs
  draws_groups : {s t : List ℕ} {cs ds : List Command} → DrawTos s cs (32 ∷ t) → Groups t ds [] → Follow (32 ∷ s) (cs ++ ds)

gap : {s : List ℕ} {cs : List Command} → Follow s cs → Gap s
gap nothing = end
gap (groups f) = space
gap (draws f) = space
gap (draws_groups f g) = space

move-first : {s r : List ℕ} {c : Command} {cs : List Command} → MoveTo s (c ∷ []) r → Follow r cs → Groups s (c ∷ cs) []
move-first m nothing = svg.one (svg.bare m svg.none)
move-first m (groups g) = svg.more (svg.bare m svg.none) one-space g
move-first m (draws d) = svg.one (svg.drawn m one-space d)
move-first m (draws_groups d g) = svg.more (svg.drawn m one-space d) one-space g

draw_first : {s r : List ℕ} {c : Command} {cs : List Command} → DrawTo s (c ∷ []) r → Follow r cs → Follow (32 ∷ s) (c ∷ cs)
draw_first d nothing = draws (svg.one d)
draw_first d (groups g) = draws_groups (svg.one d) g
draw_first d (draws e) = draws (svg.more d one-space e)
draw_first d (draws_groups e g) = draws_groups (svg.more d one-space e) g

rest-derive : (ds : List Drawn) → Follow (rest_text ds) (commands ds)
rest-derive [] = nothing
rest-derive (Move x y ∷ ds) = groups (move-first (move-derive x y (rest_text ds) (gap (rest-derive ds))) (rest-derive ds))
rest-derive (Line x y ∷ ds) = draw_first (line-derive x y (rest_text ds) (gap (rest-derive ds))) (rest-derive ds)
rest-derive (Cubic a b c d x y ∷ ds) = draw_first (cubic-derive a b c d x y (rest_text ds) (gap (rest-derive ds))) (rest-derive ds)
rest-derive (Close ∷ ds) = draw_first (close-derive (rest_text ds)) (rest-derive ds)

-- every text that is written derives, and its commands are the segments
pub derives : (ds : List Drawn) → Led ds → (cs : List Command) × SvgPath (text_of ds) cs × MeanAll cs ds
unfolding text_of
derives ds text.none = ([], svg.empty svg.none svg.none, meaning.none)
derives ds (text.move {x = x} {y = y} {ds = es}) =
    (commands (Move x y ∷ es), svg.path svg.none (move-first (move-derive x y (rest_text es) (gap (rest-derive es))) (rest-derive es)) svg.none, mean-all (Move x y ∷ es))

-- ---- and they mean no other segments
value-back : (h k : ℕ) → IsHalf (value h) k → k ≡ h
value-back h k i = go (h % 2) refl (omega arith) i
  where
    go : (m : ℕ) → h % 2 ≡ m → m < 2 → IsHalf (value_for m (h / 2)) k → k ≡ h
    go zero e l j = omega (arith, j.same)
    go (suc zero) e l j = omega (arith, j.same)
    go (suc (suc m)) e l j = absurd (omega arith)

means-back : (d e : Drawn) → Means (command d) e → e ≡ d
means-back (Move x y) e (meaning.move {a = a} {b = b} p q) = cc (value-back x a p, value-back y b q)
means-back (Line x y) e (meaning.line {a = a} {b = b} p q) = cc (value-back x a p, value-back y b q)
means-back (Cubic t u v w x y) e (meaning.cubic {a = a} {b = b} {c = c} {d = d} {e = f} {f = g} i j k l m n) =
    cc (value-back t a i, value-back u b j, value-back v c k, value-back w d l, value-back x f m, value-back y g n)
means-back Close e meaning.close = refl

mean-back : (ds es : List Drawn) → MeanAll (commands ds) es → es ≡ ds
mean-back [] es meaning.none = refl
mean-back (d ∷ ds) es (meaning.more {d = e} {ds = fs} m r) = cc (means-back d e m, mean-back ds fs r)

pub derives-back : (ds : List Drawn) (l : Led ds) (es : List Drawn) → MeanAll (derives ds l).0 es → es ≡ ds
unfolding text_of derives
derives-back ds text.none es m = mean-back [] es m
derives-back ds (text.move {x = x} {y = y} {ds = fs}) es m = mean-back (Move x y ∷ fs) es m
