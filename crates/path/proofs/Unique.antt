-- One text, one reading: SVG's grammar gives a text at most one list of commands. Assumes nothing.
use mathlib.Core.Path.{◌≡◌, refl, sym, ap, ◌∙◌, subst}
use mathlib.Core.Logic.{◌⊎◌, inl, inr}
use mathlib.Core.Bool.{Bool, true, false, cond, ◌||◌}
use mathlib.Core.List.{List, [], ◌∷◌}
use Prim.Native.Nat.{ℕ, suc, ◌+◌, ◌-◌, ◌*◌, ◌^◌, ◌≤◌, ◌<◌}
use native.Mathlib.Omega.{arith}
use borrow.Author.Tests.{ne_eqb}
use lib.Dec.{eqb}
use Rattle.path.specs.Svg as svg
use Rattle.path.specs.Svg.{Wsp, Wsps, CommaWsp, Between, Value, Digit, Digits, Sign, Fraction, Exponent, NotDigit, NotFraction, NotInteger, Apart, scaled, Nonnegative, signed, Number, Pair, Command, moveTo, lineTo, smoothQuadratic, horizontal, vertical, curve_to, smoothCurve, quadratic, arc, close_path, Letter, Arguments, LineArgument, HorizontalArgument, VerticalArgument, CurveArgument, SmoothArgument, QuadraticArgument, SmoothQuadraticArgument, Flag, ArcArgument, MoveTo, DrawTo, DrawTos, Group, Groups, SvgPath}
use Rattle.path.proofs.DigitBytes.{is_digit, digit-is, not_digit}

-- the first byte
abbrev Head : (ℕ → Type 0) → List ℕ → Type 0
Head P [] = ⊥
Head P (b ∷ s) = P b

head-map : (P Q : ℕ → Type 0) → ((b : ℕ) → P b → Q b) → (s : List ℕ) → Head P s → Head Q s
head-map P Q f [] h = h
head-map P Q f (b ∷ s) h = f b h

-- of a number without a sign; of any number and of a flag; of what no white space is
abbrev Low : ℕ → Type 0
Low b = (46 ≤ b) × (b < 58)

abbrev Start : ℕ → Type 0
Start b = (43 ≤ b) × (b < 58) × (b ≡ 44 → ⊥)

abbrev Solid : ℕ → Type 0
Solid b = 33 ≤ b

low-start : (b : ℕ) → Low b → Start b
low-start b h = (omega arith, omega arith, λ e. omega arith)

start_solid : (b : ℕ) → Start b → Solid b
start_solid b h = omega arith

-- ---- white space
abbrev is_wsp : ℕ → Bool
is_wsp b = eqb b 32 || eqb b 9 || eqb b 13 || eqb b 10

abbrev pass : Bool → List ℕ → List ℕ → List ℕ
pass true s t = s
pass false s t = t

abbrev skip : List ℕ → List ℕ
skip [] = []
skip (b ∷ s) = pass (is_wsp b) (skip s) (b ∷ s)

abbrev past : List ℕ → List ℕ
past [] = []
past (b ∷ s) = pass (eqb b 44) (skip s) (b ∷ s)

no_wsp : (b : ℕ) → Solid b → is_wsp b ≡ false
no_wsp b h = rw (ne_eqb b 32 (λ e. omega arith), ne_eqb b 9 (λ e. omega arith), ne_eqb b 13 (λ e. omega arith), ne_eqb b 10 (λ e. omega arith))

skip_solid : (s : List ℕ) → Head Solid s → skip s ≡ s
skip_solid [] h = refl
skip_solid (b ∷ s) h = rw (no_wsp b h)

wsp_skips : {s t : List ℕ} → Wsp s t → skip s ≡ skip t
wsp_skips svg.space = refl
wsp_skips svg.tab = refl
wsp_skips svg.return = refl
wsp_skips svg.feed = refl

wsps_skip : {s t : List ℕ} → Wsps s t → skip s ≡ skip t
wsps_skip svg.none = refl
wsps_skip (svg.more w ws) = wsp_skips w ∙ wsps_skip ws

skipped : {s t : List ℕ} → Wsps s t → Head Solid t → skip s ≡ t
skipped {t = t} w h = wsps_skip w ∙ skip_solid t h

past-start : (s : List ℕ) → Head Start s → past s ≡ s
past-start [] h = refl
past-start (b ∷ s) h = rw (ne_eqb b 44 h.2)

start-skips : {s t : List ℕ} → Wsps s t → Head Start t → skip s ≡ t
start-skips {t = t} w h = skipped w (head-map Start Solid start_solid t h)

comma-past : {s t : List ℕ} → CommaWsp s t → Head Start t → past (skip s) ≡ t
comma-past {t = t} (svg.spaces w ws) h = ap past (wsp_skips w ∙ start-skips ws h) ∙ past-start t h
comma-past (svg.spaces_comma w ws vs) h = ap past (wsp_skips w ∙ wsps_skip ws) ∙ start-skips vs h
comma-past (svg.comma ws) h = start-skips ws h

between-past : {s t : List ℕ} → Between s t → Head Start t → past (skip s) ≡ t
between-past {t = t} svg.nothing h = ap past (skip_solid t (head-map Start Solid start_solid t h)) ∙ past-start t h
between-past (svg.something c) h = comma-past c h

-- ---- digits: as many as there are
record Taken : Type 0 where
  value : ℕ
  count : ℕ
  rest : List ℕ

abbrev take_if : Bool → Taken → Taken → Taken
take_if true t e = record { value = t.value; count = suc t.count; rest = t.rest }
take_if false t e = e

unfoldable taken : ℕ → List ℕ → Taken
taken a [] = record { value = a; count = 0; rest = [] }
taken a (b ∷ s) = take_if (is_digit b) (taken (10 * a + (b - 48)) s) (record { value = a; count = 0; rest = b ∷ s })

digit_low : {b d : ℕ} → Digit b d → (b - 48 ≡ d) × Low b
digit_low g = (omega (arith, g.is), (omega (arith, g.is), omega (arith, g.is, g.small)))

taken_none : (a : ℕ) (r : List ℕ) → Apart NotDigit r → taken a r ≡ record { value = a; count = 0; rest = r }
unfolding taken
taken_none a r svg.end = refl
taken_none a r (svg.byte {b = b} n) = rw (not_digit b n)

taken_is : {a v k : ℕ} {s r : List ℕ} → Digits a s v k r → Apart NotDigit r → taken a s ≡ record { value = v; count = k; rest = r }
unfolding taken
taken_is {a} {v} {k} {s} {r} (svg.one {d = d} g) p = rw (digit-is g, (digit_low g).0, taken_none (10 * a + d) r p)
taken_is (svg.more g f) p = rw (digit-is g, (digit_low g).0, taken_is f p)

digits_low : {a v k : ℕ} {s r : List ℕ} → Digits a s v k r → Head Low s
digits_low (svg.one g) = (digit_low g).1
digits_low (svg.more g f) = (digit_low g).1

point_apart : {r : List ℕ} → Apart NotDigit (46 ∷ r)
point_apart = svg.byte {b = 46} (record { no = λ d e. omega (arith, e.is) })

-- ---- numbers
record Got (A : Type 0) : Type 0 where
  value : A
  rest : List ℕ

abbrev got : {A : Type 0} → A → List ℕ → Got A
got a r = record { value = a; rest = r }

abbrev plain : ℕ → ℕ → Value
plain v u = record { minus = false; over = v; under = u }

unfoldable sign_of : List ℕ → Got Bool
sign_of [] = got false []
sign_of (b ∷ s) = cond (eqb b 43) (got false s) (cond (eqb b 45) (got true s) (got false (b ∷ s)))

sign-is : {s t : List ℕ} {m : Bool} → Sign s m t → Head Low t → sign_of s ≡ got m t
unfolding sign_of
sign-is svg.plus h = refl
sign-is svg.minus h = refl
sign-is {t = t} svg.none h = go t h
  where
    go : (r : List ℕ) → Head Low r → sign_of r ≡ got false r
    go [] l = refl
    go (b ∷ r) l = rw (ne_eqb b 43 (λ e. omega (arith, l.0)), ne_eqb b 45 (λ e. omega (arith, l.0)))

-- after a fraction v / u: an exponent, if there is an `e`
unfoldable scaled_by : ℕ → ℕ → List ℕ → Got Value
scaled_by v u r = let g = sign_of r in let t = taken 0 g.rest in got (scaled g.value v u t.value) t.rest

unfoldable exponent_of : ℕ → ℕ → List ℕ → Got Value
exponent_of v u [] = got (plain v u) []
exponent_of v u (b ∷ r) = cond (eqb b 101) (scaled_by v u r) (cond (eqb b 69) (scaled_by v u r) (got (plain v u) (b ∷ r)))

no-exponent : (v u : ℕ) (r : List ℕ) → Apart NotFraction r → exponent_of v u r ≡ got (plain v u) r
unfolding exponent_of
no-exponent v u r svg.end = refl
no-exponent v u r (svg.byte {b = b} n) = rw (ne_eqb b 101 n.no_small, ne_eqb b 69 n.no_large)

scaled-is : {m : Bool} {e k : ℕ} {s t r : List ℕ} (v u : ℕ) → Sign s m t → Digits 0 t e k r → Apart NotDigit r → scaled_by v u s ≡ got (scaled m v u e) r
unfolding scaled_by
scaled-is v u g f p = rw (sign-is g (digits_low f), taken_is f p)

exponent-is : {n : Bool} {e : ℕ} {s r : List ℕ} (v u : ℕ) → Exponent s n e r → Apart NotDigit r → exponent_of v u s ≡ got (scaled n v u e) r
unfolding exponent_of
exponent-is v u (svg.exponent {e = b} (inl i) g f) p = rw i (scaled-is v u g f p)
exponent-is v u (svg.exponent {e = b} (inr i) g f) p = rw i (scaled-is v u g f p)

-- after digits with the value v: a point, or not
unfoldable point_of : ℕ → List ℕ → Got Value
point_of v [] = exponent_of v 1 []
point_of v (b ∷ r) = cond (eqb b 46) (exponent_of (taken v r).value (10 ^ (taken v r).count) (taken v r).rest) (exponent_of v 1 (b ∷ r))

unfoldable unsigned : List ℕ → Got Value
unsigned s = point_of (taken 0 s).value (taken 0 s).rest

fraction-is : {v j : ℕ} {s r : List ℕ} → Fraction s v j r → Apart NotDigit r → unsigned s ≡ exponent_of v (10 ^ j) r
unfolding unsigned point_of
fraction-is (svg.both f g) p = rw (taken_is f point_apart, taken_is g p)
fraction-is (svg.right {t = t} f) p = rw (taken_none 0 (46 ∷ t) point_apart, taken_is f p)
fraction-is {r = r} (svg.left {v = v} f) p = rw (taken_is f point_apart, taken_none v r p)

no_point_lem : (v : ℕ) (r : List ℕ) → Apart NotInteger r → point_of v r ≡ got (plain v 1) r
unfolding point_of
no_point_lem v r svg.end = no-exponent v 1 [] svg.end
no_point_lem v r (svg.byte {b = b} {r = q} n) = rw (ne_eqb b 46 n.no_point) (no-exponent v 1 (b ∷ q) (svg.byte n.no_fraction))

point_exponent : {n : Bool} {e : ℕ} {s r : List ℕ} (v : ℕ) → Exponent s n e r → Apart NotDigit r → point_of v s ≡ got (scaled n v 1 e) r
unfolding point_of
point_exponent v (svg.exponent {e = b} {s = s} (inl i) g f) p = rw i (exponent-is v 1 (svg.exponent (inl refl) g f) p)
point_exponent v (svg.exponent {e = b} {s = s} (inr i) g f) p = rw i (exponent-is v 1 (svg.exponent (inr refl) g f) p)

exponent-apart : {n : Bool} {e : ℕ} {s r : List ℕ} → Exponent s n e r → Apart NotDigit s
exponent-apart (svg.exponent {e = b} (inl i) g f) = svg.byte {b = b} (record { no = λ d e. omega (arith, e.is, e.small) })
exponent-apart (svg.exponent {e = b} (inr i) g f) = svg.byte {b = b} (record { no = λ d e. omega (arith, e.is, e.small) })

integer-apart : {r : List ℕ} → Apart NotInteger r → Apart NotDigit r
integer-apart svg.end = svg.end
integer-apart (svg.byte n) = svg.byte n.no_fraction.no_digit

fraction-apart : {r : List ℕ} → Apart NotFraction r → Apart NotDigit r
fraction-apart svg.end = svg.end
fraction-apart (svg.byte n) = svg.byte n.no_digit

whole_is : {v k : ℕ} {s r : List ℕ} → Digits 0 s v k r → Apart NotDigit r → unsigned s ≡ point_of v r
unfolding unsigned
whole_is f p = rw (taken_is f p)

unsigned_is : {v : Value} {s r : List ℕ} → Nonnegative s v r → unsigned s ≡ got v r
unsigned_is {r = r} (svg.integer {v = v} f p) = whole_is f (integer-apart p) ∙ no_point_lem v r p
unsigned_is {r = r} (svg.fraction {v = v} {j = j} f p) = fraction-is f (fraction-apart p) ∙ no-exponent v (10 ^ j) r p
unsigned_is (svg.fraction_exponent {v = v} {j = j} f x p) = fraction-is f (exponent-apart x) ∙ exponent-is v (10 ^ j) x p
unsigned_is (svg.integer_exponent {v = v} f x p) = whole_is f (exponent-apart x) ∙ point_exponent v x p

fraction-low : {v j : ℕ} {s r : List ℕ} → Fraction s v j r → Head Low s
fraction-low (svg.both f g) = digits_low f
fraction-low (svg.right f) = (omega arith, omega arith)
fraction-low (svg.left f) = digits_low f

unsigned-low : {v : Value} {s r : List ℕ} → Nonnegative s v r → Head Low s
unsigned-low (svg.integer f p) = digits_low f
unsigned-low (svg.fraction f p) = fraction-low f
unsigned-low (svg.fraction_exponent f x p) = fraction-low f
unsigned-low (svg.integer_exponent f x p) = digits_low f

unsigned-start : {v : Value} {s r : List ℕ} → Nonnegative s v r → Head Start s
unsigned-start {s = s} n = head-map Low Start low-start s (unsigned-low n)

unfoldable number_of : List ℕ → Got Value
number_of s = let u = unsigned (sign_of s).rest in got (signed (sign_of s).value u.value) u.rest

number_is : {v : Value} {s r : List ℕ} → Number s v r → number_of s ≡ got v r
unfolding number_of
number_is (svg.number g n) = rw (sign-is g (unsigned-low n), unsigned_is n)

number-start : {v : Value} {s r : List ℕ} → Number s v r → Head Start s
number-start {s = s} (svg.number svg.none n) = unsigned-start n
number-start (svg.number svg.plus n) = (omega arith, omega arith, λ e. omega arith)
number-start (svg.number svg.minus n) = (omega arith, omega arith, λ e. omega arith)

-- ---- arguments
-- the number after comma-wsp?
unfoldable next : List ℕ → Got Value
next s = number_of (past (skip s))

next-is : {v : Value} {s t r : List ℕ} → Between s t → Number t v r → next s ≡ got v r
unfolding next
next-is b n = ap number_of (between-past b (number-start n)) ∙ number_is n

record Two : Type 0 where
  x : Value
  y : Value

unfoldable pair_of : List ℕ → Got Two
pair_of s = let a = number_of s in let b = next a.rest in got (record { x = a.value; y = b.value }) b.rest

unfoldable next_pair : List ℕ → Got Two
next_pair s = pair_of (past (skip s))

pair_is : {x y : Value} {s r : List ℕ} → Pair s x y r → pair_of s ≡ got (record { x = x; y = y }) r
unfolding pair_of
pair_is (svg.pair n b m) = rw (number_is n, next-is b m)

pair-start : {x y : Value} {s r : List ℕ} → Pair s x y r → Head Start s
pair-start (svg.pair n b m) = number-start n

next-pair : {x y : Value} {s t r : List ℕ} → Between s t → Pair t x y r → next_pair s ≡ got (record { x = x; y = y }) r
unfolding next_pair
next-pair b p = ap pair_of (between-past b (pair-start p)) ∙ pair_is p

data Kind : Type 0 where
  lines horizontals verticals curves smooths quadratics smooth_quadratics arcs : Kind

abbrev Argument : Kind → Bool → List ℕ → Command → List ℕ → Type 0
Argument lines rel = LineArgument rel
Argument horizontals rel = HorizontalArgument rel
Argument verticals rel = VerticalArgument rel
Argument curves rel = CurveArgument rel
Argument smooths rel = SmoothArgument rel
Argument quadratics rel = QuadraticArgument rel
Argument smooth_quadratics rel = SmoothQuadraticArgument rel
Argument arcs rel = ArcArgument rel

-- a flag: `1` or not
unfoldable flag_of : List ℕ → Got Bool
flag_of [] = got false []
flag_of (b ∷ s) = got (eqb b 49) s

flag_is : {f : Bool} {s r : List ℕ} → Flag s f r → flag_of s ≡ got f r
unfolding flag_of
flag_is svg.zero_flag = refl
flag_is svg.one_flag = refl

flag-start : {f : Bool} {s r : List ℕ} → Flag s f r → Head Start s
flag-start svg.zero_flag = (omega arith, omega arith, λ e. omega arith)
flag-start svg.one_flag = (omega arith, omega arith, λ e. omega arith)

unfoldable argument_of : Kind → Bool → List ℕ → Got Command
argument_of lines rel s = let p = pair_of s in got (lineTo rel p.value.x p.value.y) p.rest
argument_of horizontals rel s = let a = number_of s in got (horizontal rel a.value) a.rest
argument_of verticals rel s = let a = number_of s in got (vertical rel a.value) a.rest
argument_of curves rel s =
    let p = pair_of s in
    let q = next_pair p.rest in
    let r = next_pair q.rest in
    got (curve_to rel p.value.x p.value.y q.value.x q.value.y r.value.x r.value.y) r.rest
argument_of smooths rel s = let p = pair_of s in let q = next_pair p.rest in got (smoothCurve rel p.value.x p.value.y q.value.x q.value.y) q.rest
argument_of quadratics rel s = let p = pair_of s in let q = next_pair p.rest in got (quadratic rel p.value.x p.value.y q.value.x q.value.y) q.rest
argument_of smooth_quadratics rel s = let p = pair_of s in got (smoothQuadratic rel p.value.x p.value.y) p.rest
argument_of arcs rel s =
    let a = unsigned s in
    let b = unsigned (past (skip a.rest)) in
    let c = next b.rest in
    let f = flag_of (past (skip c.rest)) in
    let g = flag_of (past (skip f.rest)) in
    let p = next_pair g.rest in
    got (arc rel a.value b.value c.value f.value g.value p.value.x p.value.y) p.rest

argument_is : (k : Kind) (rel : Bool) (s : List ℕ) (c : Command) (r : List ℕ) → Argument k rel s c r → argument_of k rel s ≡ got c r
unfolding argument_of
argument_is lines rel s c r (svg.argument p) = rw (pair_is p)
argument_is horizontals rel s c r (svg.argument n) = rw (number_is n)
argument_is verticals rel s c r (svg.argument n) = rw (number_is n)
argument_is curves rel s c r (svg.argument p b q d z) = rw (pair_is p, next-pair b q, next-pair d z)
argument_is smooths rel s c r (svg.argument p b q) = rw (pair_is p, next-pair b q)
argument_is quadratics rel s c r (svg.argument p b q) = rw (pair_is p, next-pair b q)
argument_is smooth_quadratics rel s c r (svg.argument p) = rw (pair_is p)
argument_is arcs rel s c r (svg.argument a i b j d m f n g o p) =
    rw (unsigned_is a, between-past i (unsigned-start b), unsigned_is b, next-is j d, comma-past m (flag-start f), flag_is f, between-past n (flag-start g), flag_is g, next-pair o p)

argument-start : (k : Kind) (rel : Bool) (s : List ℕ) (c : Command) (r : List ℕ) → Argument k rel s c r → Head Start s
argument-start lines rel s c r (svg.argument p) = pair-start p
argument-start horizontals rel s c r (svg.argument n) = number-start n
argument-start verticals rel s c r (svg.argument n) = number-start n
argument-start curves rel s c r (svg.argument p b q d z) = pair-start p
argument-start smooths rel s c r (svg.argument p b q) = pair-start p
argument-start quadratics rel s c r (svg.argument p b q) = pair-start p
argument-start smooth_quadratics rel s c r (svg.argument p) = pair-start p
argument-start arcs rel s c r (svg.argument a i b j d m f n g o p) = unsigned-start a

-- ---- what may follow arguments: white space, and a letter or the end
abbrev Stop : List ℕ → Type 0
Stop [] = Unit {0}
Stop (b ∷ s) = 65 ≤ b

stop_start : (s : List ℕ) → Stop s → Head Start (past s) → ⊥
stop_start [] h l = l
stop_start (b ∷ s) h l = let z : Head Start (b ∷ s) = rw (ne_eqb b 44 (λ e. omega arith)) at l in omega (arith, z.1)

same-value : {A : Type 0} {a b : A} {r q : List ℕ} (g : Got A) → g ≡ got a r → g ≡ got b q → (a ≡ b) × (r ≡ q)
same-value {A} g e f = (sym (ap (λ (z : Got A). z.value) e) ∙ ap (λ (z : Got A). z.value) f, sym (ap (λ (z : Got A). z.rest) e) ∙ ap (λ (z : Got A). z.rest) f)

module _ (k : Kind) (rel : Bool) where
  arguments_start : {s r : List ℕ} {cs : List Command} → Arguments (Argument k rel) s cs r → Head Start s
  arguments_start {s} {r} (svg.one {c = c} p) = argument-start k rel s c r p
  arguments_start {s} (svg.more {c = c} {t = t} p b a) = argument-start k rel s c t p

  -- the arguments go on exactly if a number follows
  no_more : {r t u q : List ℕ} {cs : List Command} → Stop (skip r) → r ≡ t → Between t u → Arguments (Argument k rel) u cs q → ⊥
  no_more {r} {t} {u} h e b a =
      stop_start (skip r) h (subst (Head Start) (sym (ap (λ (l : List ℕ). past (skip l)) e ∙ between-past b (arguments_start a))) (arguments_start a))

  one_same : {s s' r q : List ℕ} {c d : Command} → s ≡ s' → Argument k rel s c r → Argument k rel s' d q → (c ≡ d) × (r ≡ q)
  one_same {s} {s'} {r} {q} {c} {d} e p p' = same-value (argument_of k rel s) (argument_is k rel s c r p) (ap (argument_of k rel) e ∙ argument_is k rel s' d q p')

  next-same : {t t' u u' r r' : List ℕ} {cs ds : List Command} → t ≡ t' → Between t u → Arguments (Argument k rel) u cs r → Between t' u' → Arguments (Argument k rel) u' ds r' → u ≡ u'
  next-same e b a b' a' = sym (between-past b (arguments_start a)) ∙ ap (λ (l : List ℕ). past (skip l)) e ∙ between-past b' (arguments_start a')

  arguments_same : {s s' r q : List ℕ} {cs ds : List Command} → s ≡ s' → Arguments (Argument k rel) s cs r → Arguments (Argument k rel) s' ds q → Stop (skip r) → Stop (skip q) → (cs ≡ ds) × (r ≡ q)
  arguments_same e (svg.one p) (svg.one p') h l = let z = one_same e p p' in (ap (λ (c : Command). c ∷ []) z.0, z.1)
  arguments_same e (svg.one p) (svg.more p' b a) h l = absurd (no_more h (one_same e p p').1 b a)
  arguments_same e (svg.more p b a) (svg.one p') h l = absurd (no_more l (sym (one_same e p p').1) b a)
  arguments_same e (svg.more p b a) (svg.more p' b' a') h l =
      let z = one_same e p p' in
      let y = arguments_same (next-same z.1 b a b' a') a a' h l in
      (cc (z.0, y.0), y.1)

-- ---- letters
letter-holds : {a c b : ℕ} {rel : Bool} (P : ℕ → Type 0) → Letter a c b rel → P a → P c → P b
letter-holds P svg.absolute p q = p
letter-holds P svg.relative p q = q

abbrev Draws : ℕ → Type 0
Draws b = (65 ≤ b) × (b ≡ 77 → ⊥) × (b ≡ 109 → ⊥)

abbrev Moves : ℕ → Type 0
Moves b = (b ≡ 77) ⊎ (b ≡ 109)

draws_solid : (b : ℕ) → Draws b → Solid b
draws_solid b h = omega (arith, h.0)

moves_solid : (b : ℕ) → Moves b → Solid b
moves_solid b (inl e) = omega arith
moves_solid b (inr e) = omega arith

-- ---- moveto
-- its first pair
abbrev pair_to : Bool → Got Two → Got Command
pair_to rel p = got (moveTo rel p.value.x p.value.y) p.rest

unfoldable move_of : List ℕ → Got Command
move_of [] = got close_path []
move_of (b ∷ s) = pair_to (eqb b 109) (pair_of (skip s))

unfoldable rel_of : List ℕ → Bool
rel_of [] = false
rel_of (b ∷ s) = eqb b 109

move-letter : {b : ℕ} {rel : Bool} → Letter 77 109 b rel → eqb b 109 ≡ rel
move-letter svg.absolute = refl
move-letter svg.relative = refl

move-is : {b : ℕ} {rel : Bool} {x y : Value} {s t r : List ℕ} → Letter 77 109 b rel → Wsps s t → Pair t x y r → move_of (b ∷ s) ≡ got (moveTo rel x y) r
unfolding move_of
move-is l w p = rw (move-letter l, start-skips w (pair-start p), pair_is p)

-- what follows the first pair
data Tail (rel : Bool) : List ℕ → List Command → List ℕ → Type 0 where
  ended : {u : List ℕ} → Tail rel u [] u
  going : {u v r : List ℕ} {cs : List Command} → Between u v → Arguments (Argument lines rel) v cs r → Tail rel u cs r

tail-same : {u u' r q : List ℕ} {cs ds : List Command} (rel : Bool) → u ≡ u' → Tail rel u cs r → Tail rel u' ds q → Stop (skip r) → Stop (skip q) → (cs ≡ ds) × (r ≡ q)
tail-same rel e ended ended h l = (refl, e)
tail-same rel e ended (going b a) h l = absurd (no_more lines rel h e b a)
tail-same rel e (going b a) ended h l = absurd (no_more lines rel l (sym e) b a)
tail-same rel e (going b a) (going b' a') h l = arguments_same lines rel (next-same lines rel e b a b' a') a a' h l

record Moved (s : List ℕ) (cs : List Command) (r : List ℕ) : Type 0 where
  rel : Bool
  first : Command
  rest : List ℕ
  others : List Command
  letter : rel_of s ≡ rel
  is : move_of s ≡ got first rest
  tail : Tail rel rest others r
  all : cs ≡ first ∷ others
  head : Head Moves s

moved : {s r : List ℕ} {cs : List Command} → MoveTo s cs r → Moved s cs r
unfolding rel_of
moved {r = r} (svg.one {rel = m} {x = x} {y = y} l w p) =
    record { rel = m; first = moveTo m x y; rest = r; others = []; letter = move-letter l; is = move-is l w p; tail = ended; all = refl; head = letter-holds Moves l (inl refl) (inr refl) }
moved (svg.more {rel = m} {x = x} {y = y} {cs = cs} {u = u} l w p b a) =
    record { rel = m; first = moveTo m x y; rest = u; others = cs; letter = move-letter l; is = move-is l w p; tail = going b a; all = refl; head = letter-holds Moves l (inl refl) (inr refl) }

move-head : {s r : List ℕ} {cs : List Command} → MoveTo s cs r → Head Moves s
move-head m = (moved m).head

move_same : {s s' r q : List ℕ} {cs ds : List Command} → s ≡ s' → MoveTo s cs r → MoveTo s' ds q → Stop (skip r) → Stop (skip q) → (cs ≡ ds) × (r ≡ q)
move_same {s} {s'} {r} {q} e m n h l =
    let a = moved m in
    let b = moved n in
    let z = same-value (move_of s) a.is (ap move_of e ∙ b.is) in
    let i : b.rel ≡ a.rel = sym b.letter ∙ ap rel_of (sym e) ∙ a.letter in
    let y = tail-same a.rel z.1 a.tail (subst (λ (v : Bool). Tail v b.rest b.others q) i b.tail) h l in
    (a.all ∙ cc (z.0, y.0) ∙ sym b.all, y.1)

-- ---- drawto-command
data Choice : Type 0 where
  closing other : Choice
  drawing : Kind → Bool → Choice

abbrev choose : ℕ → Choice
choose b =
    cond (eqb b 90 || eqb b 122) closing
    (cond (eqb b 76) (drawing lines false) (cond (eqb b 108) (drawing lines true)
    (cond (eqb b 72) (drawing horizontals false) (cond (eqb b 104) (drawing horizontals true)
    (cond (eqb b 86) (drawing verticals false) (cond (eqb b 118) (drawing verticals true)
    (cond (eqb b 67) (drawing curves false) (cond (eqb b 99) (drawing curves true)
    (cond (eqb b 83) (drawing smooths false) (cond (eqb b 115) (drawing smooths true)
    (cond (eqb b 81) (drawing quadratics false) (cond (eqb b 113) (drawing quadratics true)
    (cond (eqb b 84) (drawing smooth_quadratics false) (cond (eqb b 116) (drawing smooth_quadratics true)
    (cond (eqb b 65) (drawing arcs false) (cond (eqb b 97) (drawing arcs true) other))))))))))))))))

abbrev Body : Choice → List ℕ → List Command → List ℕ → Type 0
Body closing s cs r = (cs ≡ close_path ∷ []) × (s ≡ r)
Body other s cs r = ⊥
Body (drawing k rel) s cs r = (t : List ℕ) × Wsps s t × Arguments (Argument k rel) t cs r

body_same : (s r q : List ℕ) (cs ds : List Command) (c : Choice) → Body c s cs r → Body c s ds q → Stop (skip r) → Stop (skip q) → (cs ≡ ds) × (r ≡ q)
body_same s r q cs ds closing a b h l = (a.0 ∙ sym b.0, sym a.1 ∙ b.1)
body_same s r q cs ds other a b h l = absurd a
body_same s r q cs ds (drawing k rel) a b h l =
    arguments_same k rel (sym (start-skips a.1 (arguments_start k rel a.2)) ∙ start-skips b.1 (arguments_start k rel b.2)) a.2 b.2 h l

record Drew (s : List ℕ) (cs : List Command) (r : List ℕ) : Type 0 where
  letter : ℕ
  rest : List ℕ
  is : s ≡ letter ∷ rest
  body : Body (choose letter) rest cs r
  draws : Draws letter

-- a command whose letter is a, or c for the relative one
by-letter : {a c b : ℕ} {rel : Bool} {s t r : List ℕ} {cs : List Command} (k : Kind) → choose a ≡ drawing k false → choose c ≡ drawing k true → Draws a → Draws c → Letter a c b rel → Wsps s t → Arguments (Argument k rel) t cs r → Drew (b ∷ s) cs r
by-letter {a} {c} {b} {rel} {s} {t} {r} {cs} k p q da dc svg.absolute w x =
    record { letter = a; rest = s; is = refl; body = subst (λ (i : Choice). Body i s cs r) (sym p) (t, w, x); draws = da }
by-letter {a} {c} {b} {rel} {s} {t} {r} {cs} k p q da dc svg.relative w x =
    record { letter = c; rest = s; is = refl; body = subst (λ (i : Choice). Body i s cs r) (sym q) (t, w, x); draws = dc }

draws : (b : ℕ) → 65 ≤ b → (b ≡ 77 → ⊥) → (b ≡ 109 → ⊥) → Draws b
draws b h l m = (h, l, m)

drew : {s r : List ℕ} {cs : List Command} → DrawTo s cs r → Drew s cs r
drew {r = r} (svg.closed svg.absolute) = record { letter = 90; rest = r; is = refl; body = (refl, refl); draws = (omega arith, λ e. omega arith, λ e. omega arith) }
drew {r = r} (svg.closed svg.relative) = record { letter = 122; rest = r; is = refl; body = (refl, refl); draws = (omega arith, λ e. omega arith, λ e. omega arith) }
drew (svg.lines l w a) = by-letter lines refl refl (omega arith, λ e. omega arith, λ e. omega arith) (omega arith, λ e. omega arith, λ e. omega arith) l w a
drew (svg.horizontals l w a) = by-letter horizontals refl refl (omega arith, λ e. omega arith, λ e. omega arith) (omega arith, λ e. omega arith, λ e. omega arith) l w a
drew (svg.verticals l w a) = by-letter verticals refl refl (omega arith, λ e. omega arith, λ e. omega arith) (omega arith, λ e. omega arith, λ e. omega arith) l w a
drew (svg.curves l w a) = by-letter curves refl refl (omega arith, λ e. omega arith, λ e. omega arith) (omega arith, λ e. omega arith, λ e. omega arith) l w a
drew (svg.smooths l w a) = by-letter smooths refl refl (omega arith, λ e. omega arith, λ e. omega arith) (omega arith, λ e. omega arith, λ e. omega arith) l w a
drew (svg.quadratics l w a) = by-letter quadratics refl refl (omega arith, λ e. omega arith, λ e. omega arith) (omega arith, λ e. omega arith, λ e. omega arith) l w a
drew (svg.smooth_quadratics l w a) = by-letter smooth_quadratics refl refl (omega arith, λ e. omega arith, λ e. omega arith) (omega arith, λ e. omega arith, λ e. omega arith) l w a
drew (svg.arcs l w a) = by-letter arcs refl refl (omega arith, λ e. omega arith, λ e. omega arith) (omega arith, λ e. omega arith, λ e. omega arith) l w a

draw_head : {s r : List ℕ} {cs : List Command} → DrawTo s cs r → Head Draws s
draw_head d = let a = drew d in subst (Head Draws) (sym a.is) a.draws

draw_same : {s s' r q : List ℕ} {cs ds : List Command} → s ≡ s' → DrawTo s cs r → DrawTo s' ds q → Stop (skip r) → Stop (skip q) → (cs ≡ ds) × (r ≡ q)
draw_same {s} {s'} {r} {q} {cs} {ds} e d f h l =
    let a = drew d in
    let b = drew f in
    let i : b.letter ∷ b.rest ≡ a.letter ∷ a.rest = sym b.is ∙ sym e ∙ a.is in
    let m : b.letter ≡ a.letter = cc in
    let n : b.rest ≡ a.rest = cc in
    body_same a.rest r q cs ds (choose a.letter) a.body (subst (λ (u : List ℕ). Body (choose a.letter) u ds q) n (subst (λ (u : ℕ). Body (choose u) b.rest ds q) m b.body)) h l

-- ---- drawto-commands: what may follow them is white space, and a moveto or the end
abbrev Rest : List ℕ → Type 0
Rest [] = Unit {0}
Rest (b ∷ s) = Moves b

rest_stop : (s : List ℕ) → Rest s → Stop s
rest_stop [] h = tt
rest_stop (b ∷ s) (inl e) = omega arith
rest_stop (b ∷ s) (inr e) = omega arith

draws_stop : (s : List ℕ) → Head Draws s → Stop s
draws_stop [] h = tt
draws_stop (b ∷ s) h = h.0

draws-rest : (s : List ℕ) → Head Draws s → Rest s → ⊥
draws-rest [] h r = h
draws-rest (b ∷ s) h (inl e) = h.1 e
draws-rest (b ∷ s) h (inr e) = h.2 e

-- a drawto-command follows
draw_skips : {t u : List ℕ} → Wsps t u → Head Draws u → skip t ≡ u
draw_skips {u = u} w h = skipped w (head-map Draws Solid draws_solid u h)

draw_stops : {t u : List ℕ} → Wsps t u → Head Draws u → Stop (skip t)
draw_stops {u = u} w h = subst Stop (sym (draw_skips w h)) (draws_stop u h)

no_draw : {t u : List ℕ} (r : List ℕ) → Rest (skip r) → skip r ≡ skip t → Wsps t u → Head Draws u → ⊥
no_draw {u = u} r h e w d = draws-rest u d (subst Rest (e ∙ draw_skips w d) h)

draws-head : {s r : List ℕ} {cs : List Command} → DrawTos s cs r → Head Draws s
draws-head (svg.one d) = draw_head d
draws-head (svg.more d w f) = draw_head d

draws-same : {s s' r q : List ℕ} {cs ds : List Command} → s ≡ s' → DrawTos s cs r → DrawTos s' ds q → Rest (skip r) → Rest (skip q) → (cs ≡ ds) × (r ≡ q)
draws-same {r = r} {q = q} e (svg.one d) (svg.one d') h l = draw_same e d d' (rest_stop (skip r) h) (rest_stop (skip q) l)
draws-same {r = r} e (svg.one d) (svg.more d' w f) h l =
    absurd (no_draw r h (ap skip (draw_same e d d' (rest_stop (skip r) h) (draw_stops w (draws-head f))).1) w (draws-head f))
draws-same {q = q} e (svg.more d w f) (svg.one d') h l =
    absurd (no_draw q l (ap skip (sym (draw_same e d d' (draw_stops w (draws-head f)) (rest_stop (skip q) l)).1)) w (draws-head f))
draws-same e (svg.more d w f) (svg.more d' w' f') h l =
    let z = draw_same e d d' (draw_stops w (draws-head f)) (draw_stops w' (draws-head f')) in
    let y = draws-same (sym (draw_skips w (draws-head f)) ∙ ap skip z.1 ∙ draw_skips w' (draws-head f')) f f' h l in
    (cc (z.0, y.0), y.1)

-- ---- groups
group_head : {s r : List ℕ} {cs : List Command} → Group s cs r → Head Moves s
group_head (svg.bare m w) = move-head m
group_head (svg.drawn m w d) = move-head m

groups-head : {s r : List ℕ} {cs : List Command} → Groups s cs r → Head Moves s
groups-head (svg.one g) = group_head g
groups-head (svg.more g w f) = group_head g

wsps_stop : {t r : List ℕ} → Wsps t r → Rest (skip r) → Stop (skip t)
wsps_stop {r = r} w h = subst Stop (sym (wsps_skip w)) (rest_stop (skip r) h)

group_same : {s s' r q : List ℕ} {cs ds : List Command} → s ≡ s' → Group s cs r → Group s' ds q → Rest (skip r) → Rest (skip q) → (cs ≡ ds) × (skip r ≡ skip q)
group_same e (svg.bare m w) (svg.bare m' w') h l =
    let z = move_same e m m' (wsps_stop w h) (wsps_stop w' l) in
    (z.0, sym (wsps_skip w) ∙ ap skip z.1 ∙ wsps_skip w')
group_same {r = r} e (svg.bare m w) (svg.drawn m' w' d) h l =
    absurd (no_draw r h (sym (wsps_skip w) ∙ ap skip (move_same e m m' (wsps_stop w h) (draw_stops w' (draws-head d))).1) w' (draws-head d))
group_same {q = q} e (svg.drawn m w d) (svg.bare m' w') h l =
    absurd (no_draw q l (sym (wsps_skip w') ∙ ap skip (sym (move_same e m m' (draw_stops w (draws-head d)) (wsps_stop w' l)).1)) w (draws-head d))
group_same e (svg.drawn m w d) (svg.drawn m' w' d') h l =
    let z = move_same e m m' (draw_stops w (draws-head d)) (draw_stops w' (draws-head d')) in
    let y = draws-same (sym (draw_skips w (draws-head d)) ∙ ap skip z.1 ∙ draw_skips w' (draws-head d')) d d' h l in
    (cc (z.0, y.0), ap skip y.1)

move-skips : {t u : List ℕ} → Wsps t u → Head Moves u → skip t ≡ u
move-skips {u = u} w h = skipped w (head-map Moves Solid moves_solid u h)

moves_rest : (s : List ℕ) → Head Moves s → Rest s
moves_rest [] h = tt
moves_rest (b ∷ s) h = h

move_rests : {t u : List ℕ} → Wsps t u → Head Moves u → Rest (skip t)
move_rests {u = u} w h = subst Rest (sym (move-skips w h)) (moves_rest u h)

no_move : (s : List ℕ) → s ≡ [] → Head Moves s → ⊥
no_move s e h = subst (Head Moves) e h

end_rest : (r : List ℕ) → skip r ≡ [] → Rest (skip r)
end_rest r e = subst Rest (sym e) tt

groups-same : {s s' r q : List ℕ} {cs ds : List Command} → s ≡ s' → Groups s cs r → Groups s' ds q → skip r ≡ [] → skip q ≡ [] → cs ≡ ds
groups-same {r = r} {q = q} e (svg.one g) (svg.one g') h l = (group_same e g g' (end_rest r h) (end_rest q l)).0
groups-same {r = r} e (svg.one g) (svg.more {u = u} g' w f) h l =
    absurd (no_move u (sym (move-skips w (groups-head f)) ∙ sym (group_same e g g' (end_rest r h) (move_rests w (groups-head f))).1 ∙ h) (groups-head f))
groups-same {q = q} e (svg.more {u = u} g w f) (svg.one g') h l =
    absurd (no_move u (sym (move-skips w (groups-head f)) ∙ (group_same e g g' (move_rests w (groups-head f)) (end_rest q l)).1 ∙ l) (groups-head f))
groups-same e (svg.more g w f) (svg.more g' w' f') h l =
    let z = group_same e g g' (move_rests w (groups-head f)) (move_rests w' (groups-head f')) in
    let y = groups-same (sym (move-skips w (groups-head f)) ∙ z.1 ∙ move-skips w' (groups-head f')) f f' h l in
    cc (z.0, y)

-- ---- one text, one reading
pub one-reading : {s : List ℕ} {cs ds : List Command} → SvgPath s cs → SvgPath s ds → cs ≡ ds
one-reading (svg.empty w v) (svg.empty w' v') = refl
one-reading (svg.empty w v) (svg.path {t = t} w' g v') = absurd (no_move t (sym (move-skips w' (groups-head g)) ∙ wsps_skip w ∙ wsps_skip v) (groups-head g))
one-reading (svg.path {t = t} w g v) (svg.empty w' v') = absurd (no_move t (sym (move-skips w (groups-head g)) ∙ wsps_skip w' ∙ wsps_skip v') (groups-head g))
one-reading (svg.path w g v) (svg.path w' g' v') = groups-same (sym (move-skips w (groups-head g)) ∙ move-skips w' (groups-head g')) g g' (wsps_skip v) (wsps_skip v')
