-- The tables of specs/SvgCases: the texts that derive by their derivations, the others by the machine. Assumes nothing.
use mathlib.Core.Path.{◌≡◌, refl, sym, ◌∙◌}
use mathlib.Core.Logic.{inl, inr}
use mathlib.Core.Bool.{Bool, true, false, not, ◌&&◌, ◌||◌, and-eq-true_iff, false≢true, true≢false}
use mathlib.Core.List.{List, [], ◌∷◌}
use Prim.Native.Nat.{ℕ, ◌+◌, ◌-◌, ◌*◌}
use Prim.Native.String.{String}
use borrow.Author.Tests.{eqb-false, not-true}
use lib.Dec.{eqb}
use Rattle.laws.specs.Bytes.{ascii, all_of}
use Rattle.laws.specs.Lists.{All}
use Rattle.path.specs.Svg as svg
use Rattle.path.specs.Svg.{Wsps, Between, Value, Digits, NotDigit, NotFraction, NotInteger, Apart, Nonnegative, signed, Number, Pair, Command, moveTo, MoveTo, DrawTos, SvgPath}
use Rattle.path.specs.SvgCases.{whole, derive, AllDerive, underived, NoneDerives}
use Rattle.path.proofs.DigitBytes.{is_digit, digit-is, is_digit_lem}
use Rattle.path.proofs.Machine.{either, accepts, derived_accepted}

-- ---- none of these derives
-- the machine refuses the text
abbrev is_refused : String → Bool
is_refused t = not (accepts (ascii t))

refused : (ts : List String) → all_of is_refused ts ≡ true → All (λ (t : String). (cs : List Command) → SvgPath (ascii t) cs → ⊥) ts
refused [] e = tt
refused (t ∷ ts) e =
    let both = (and-eq-true_iff (is_refused t) (all_of is_refused ts)).0 e in
    (λ cs p. false≢true (sym (not-true (accepts (ascii t)) both.0) ∙ derived_accepted p), refused ts both.1)

pub none-derives : NoneDerives
unfolding NoneDerives underived accepts
none-derives = refused underived refl

-- ---- each of these derives
-- a byte that goes on with a number: behind a point, before it
abbrev in_fraction : ℕ → Bool
in_fraction b = is_digit b || either b 101 69

abbrev in_integer : ℕ → Bool
in_integer b = in_fraction b || eqb b 46

no_digit_lem : {b : ℕ} → is_digit b ≡ false → NotDigit b
no_digit_lem e = record { no = λ d g. false≢true (sym e ∙ digit-is g) }

-- both tests fail
neither : (s t : Bool) → (s || t) ≡ false → (s ≡ false) × (t ≡ false)
neither true t e = absurd (true≢false e)
neither false t e = (refl, e)

not_fraction : {b : ℕ} → in_fraction b ≡ false → NotFraction b
not_fraction {b} e =
    let f = neither (is_digit b) (either b 101 69) e in
    let g = neither (eqb b 101) (eqb b 69) f.1 in
    record { no_digit = no_digit_lem f.0; no_small = eqb-false b 101 g.0; no_large = eqb-false b 69 g.1 }

not_integer : {b : ℕ} → in_integer b ≡ false → NotInteger b
not_integer {b} e =
    let f = neither (in_fraction b) (eqb b 46) e in
    record { no_fraction = not_fraction f.0; no_point = eqb-false b 46 f.1 }

-- the test holds of no first byte
abbrev ends : (ℕ → Bool) → List ℕ → Bool
ends f [] = true
ends f (b ∷ r) = not (f b)

apart : (f : ℕ → Bool) (P : ℕ → Type 0) → ((b : ℕ) → f b ≡ false → P b) → (r : List ℕ) → ends f r ≡ true → Apart P r
apart f P h [] e = svg.end
apart f P h (b ∷ r) e = svg.byte (h b (not-true (f b) e))

end-digits : {r : List ℕ} → ends is_digit r ≡ true → Apart NotDigit r
end-digits {r} e = apart is_digit NotDigit (λ b f. no_digit_lem f) r e

end-fraction : {r : List ℕ} → ends in_fraction r ≡ true → Apart NotFraction r
end-fraction {r} e = apart in_fraction NotFraction (λ b f. not_fraction f) r e

end-integer : {r : List ℕ} → ends in_integer r ≡ true → Apart NotInteger r
end-integer {r} e = apart in_integer NotInteger (λ b f. not_integer f) r e

sp : {r : List ℕ} → Wsps (32 ∷ r) r
sp = svg.more svg.space svg.none

gap : {r : List ℕ} → Between (32 ∷ r) r
gap = svg.something (svg.spaces svg.space svg.none)

-- a number without a sign
num : {v : Value} {s r : List ℕ} → Nonnegative s v r → Number s (signed false v) r
num u = svg.number svg.none u

-- a digit, the last of them; a number of one digit; two of them with a space between
last : {a b : ℕ} {r : List ℕ} → is_digit b ≡ true → Digits a (b ∷ r) (10 * a + (b - 48)) 1 r
last e = svg.one (is_digit_lem e)

unsigned : {b : ℕ} {r : List ℕ} → (is_digit b && ends in_integer r) ≡ true → Nonnegative (b ∷ r) (whole (10 * 0 + (b - 48))) r
unsigned {b} {r} e = let both = (and-eq-true_iff (is_digit b) (ends in_integer r)).0 e in svg.integer (last both.0) (end-integer both.1)

n : {b : ℕ} {r : List ℕ} → (is_digit b && ends in_integer r) ≡ true → Number (b ∷ r) (whole (10 * 0 + (b - 48))) r
n e = num (unsigned e)

xy : {a b : ℕ} {r : List ℕ} → (is_digit a && (is_digit b && ends in_integer r)) ≡ true → Pair (a ∷ 32 ∷ b ∷ r) (whole (10 * 0 + (a - 48))) (whole (10 * 0 + (b - 48))) r
xy {a} {b} {r} e =
    let both = (and-eq-true_iff (is_digit a) (is_digit b && ends in_integer r)).0 e in
    let first : (is_digit a && true) ≡ true = rw both.0 in
    svg.pair (n first) gap (n both.1)

-- a moveto alone; one pair after `M `; `M 0 0`, and commands after it and a space
alone : {s : List ℕ} {cs : List Command} → MoveTo s cs [] → SvgPath s cs
alone m = svg.path svg.none (svg.one (svg.bare m svg.none)) svg.none

moved : {x y : Value} {s : List ℕ} → Pair s x y [] → SvgPath (77 ∷ 32 ∷ s) (moveTo false x y ∷ [])
moved p = alone (svg.one svg.absolute sp p)

start : {r : List ℕ} → ends in_integer r ≡ true → MoveTo (77 ∷ 32 ∷ 48 ∷ 32 ∷ 48 ∷ r) (moveTo false (whole 0) (whole 0) ∷ []) r
start e = svg.one svg.absolute sp (xy e)

from : {s : List ℕ} {cs : List Command} → DrawTos s cs [] → SvgPath (77 ∷ 32 ∷ 48 ∷ 32 ∷ 48 ∷ 32 ∷ s) (moveTo false (whole 0) (whole 0) ∷ cs)
from d = svg.path svg.none (svg.one (svg.drawn (start refl) sp d)) svg.none

infixr 3 ◌and◌
◌and◌ : {A B : Type 0} → A → B → A × B
◌and◌ a b = (a, b)

pub all-derive : AllDerive
unfolding AllDerive derive
all-derive =
    svg.empty svg.none svg.none
    and svg.empty (svg.more svg.space (svg.more svg.tab (svg.more svg.return (svg.more svg.feed svg.none)))) svg.none
    and svg.path (svg.more svg.space (svg.more svg.tab svg.none)) (svg.one (svg.bare (svg.one svg.absolute sp (xy refl)) svg.none)) (svg.more svg.return (svg.more svg.feed svg.none))
    -- what we write
    and svg.path svg.none
    (svg.more
    (svg.drawn (svg.one svg.absolute sp (xy refl)) sp
    (svg.more (svg.lines svg.absolute sp (svg.one (svg.argument (xy refl)))) sp
    (svg.more (svg.curves svg.absolute sp (svg.one (svg.argument (xy refl) gap (xy refl) gap (xy refl)))) sp
    (svg.one (svg.closed svg.absolute)))))
    sp (svg.one (svg.bare (svg.one svg.absolute sp (xy refl)) svg.none)))
    svg.none
    and moved (svg.pair (num (svg.fraction (svg.both (last refl) (last refl)) (end-fraction refl))) gap
    (num (svg.integer (svg.more (is_digit_lem refl) (last refl)) svg.end)))
    -- moveto
    and moved (xy refl)
    and alone (svg.one svg.absolute svg.none (xy refl))
    and alone (svg.one svg.relative sp (xy refl))
    and alone (svg.more svg.absolute sp (xy refl) gap (svg.one (svg.argument (xy refl))))
    and alone (svg.more svg.relative sp (xy refl) gap (svg.one (svg.argument (xy refl))))
    -- comma-wsp
    and alone (svg.one svg.absolute svg.none (svg.pair (n refl) (svg.something (svg.comma svg.none)) (n refl)))
    and moved (svg.pair (n refl) (svg.something (svg.spaces_comma svg.space svg.none sp)) (n refl))
    and moved (svg.pair (n refl) (svg.something (svg.spaces svg.feed (svg.more svg.tab svg.none))) (n refl))
    and alone (svg.more svg.absolute sp (xy refl) (svg.something (svg.comma svg.none)) (svg.one (svg.argument (xy refl))))
    -- number
    and moved (svg.pair (svg.number svg.plus (unsigned refl)) gap (n refl))
    and moved (svg.pair (n refl) gap (svg.number svg.minus (unsigned refl)))
    and alone (svg.one svg.absolute svg.none (svg.pair (n refl) svg.nothing (svg.number svg.minus (unsigned refl))))
    and moved (svg.pair (num (svg.integer (svg.more (is_digit_lem refl) (last refl)) (end-integer refl))) gap
    (num (svg.integer (svg.more (is_digit_lem refl) (last refl)) svg.end)))
    and moved (svg.pair (num (svg.fraction (svg.left (last refl)) (end-fraction refl))) gap (n refl))
    and moved (svg.pair (num (svg.fraction (svg.both (last refl) (last refl)) (end-fraction refl))) svg.nothing
    (num (svg.fraction (svg.right (last refl)) svg.end)))
    and moved (svg.pair (num (svg.integer_exponent (last refl) (svg.exponent (inl refl) svg.none (last refl)) (end-digits refl))) gap
    (svg.number svg.minus (svg.integer_exponent (last refl) (svg.exponent (inr refl) svg.minus (last refl)) svg.end)))
    and moved (svg.pair (num (svg.fraction_exponent (svg.both (last refl) (last refl)) (svg.exponent (inl refl) svg.plus (last refl)) (end-digits refl))) svg.nothing
    (num (svg.fraction_exponent (svg.right (last refl)) (svg.exponent (inr refl) svg.none (last refl)) svg.end)))
    and moved (svg.pair (num (svg.integer_exponent (last refl) (svg.exponent (inl refl) svg.none (last refl)) (end-digits refl))) svg.nothing
    (num (svg.fraction (svg.right (last refl)) svg.end)))
    -- lineto, curveto
    and from (svg.one (svg.lines svg.absolute sp (svg.more (svg.argument (xy refl)) gap (svg.one (svg.argument (xy refl))))))
    and svg.path svg.none
    (svg.one (svg.drawn (start refl) svg.none
    (svg.more (svg.lines svg.absolute svg.none (svg.one (svg.argument (xy refl)))) svg.none (svg.one (svg.lines svg.relative svg.none (svg.one (svg.argument (xy refl))))))))
    svg.none
    and from (svg.one (svg.curves svg.absolute sp (svg.one (svg.argument (xy refl) gap (xy refl) gap (xy refl)))))
    and from (svg.one (svg.curves svg.absolute sp (svg.more (svg.argument (xy refl) gap (xy refl) gap (xy refl)) gap (svg.one (svg.argument (xy refl) gap (xy refl) gap (xy refl))))))
    and from (svg.one (svg.curves svg.relative sp (svg.one (svg.argument (xy refl) gap (xy refl) gap (xy refl)))))
    -- closepath
    and svg.path svg.none (svg.one (svg.drawn (start refl) svg.none (svg.one (svg.closed svg.absolute)))) svg.none
    and from (svg.more (svg.closed svg.absolute) sp (svg.one (svg.closed svg.absolute)))
    and svg.path svg.none
    (svg.one (svg.drawn (start refl) svg.none (svg.more (svg.closed svg.relative) svg.none (svg.one (svg.lines svg.absolute svg.none (svg.one (svg.argument (xy refl))))))))
    svg.none
    -- groups
    and svg.path svg.none
    (svg.more (svg.drawn (start refl) sp (svg.one (svg.closed svg.absolute))) sp (svg.one (svg.bare (svg.one svg.absolute sp (xy refl)) svg.none)))
    svg.none
    and svg.path svg.none (svg.more (svg.bare (start refl) svg.none) svg.none (svg.one (svg.bare (svg.one svg.absolute svg.none (xy refl)) svg.none))) svg.none
    -- the commands that we do not write
    and from (svg.more (svg.horizontals svg.absolute sp (svg.one (svg.argument (n refl)))) sp (svg.one (svg.verticals svg.absolute sp (svg.one (svg.argument (n refl))))))
    and from (svg.more (svg.horizontals svg.relative sp (svg.more (svg.argument (n refl)) gap (svg.one (svg.argument (n refl))))) sp (svg.one (svg.verticals svg.relative sp (svg.one (svg.argument (n refl))))))
    and from (svg.one (svg.smooths svg.absolute sp (svg.one (svg.argument (xy refl) gap (xy refl)))))
    and from (svg.one (svg.smooths svg.relative sp (svg.one (svg.argument (xy refl) gap (xy refl)))))
    and from (svg.one (svg.quadratics svg.absolute sp (svg.one (svg.argument (xy refl) gap (xy refl)))))
    and from (svg.one (svg.quadratics svg.relative sp (svg.one (svg.argument (xy refl) gap (xy refl)))))
    and from (svg.one (svg.smooth_quadratics svg.absolute sp (svg.one (svg.argument (xy refl)))))
    and from (svg.one (svg.smooth_quadratics svg.relative sp (svg.one (svg.argument (xy refl)))))
    and from (svg.one (svg.arcs svg.absolute sp (svg.one
    (svg.argument (unsigned refl) gap (unsigned refl) gap (n refl) (svg.spaces svg.space svg.none) svg.zero_flag gap svg.one_flag gap (xy refl)))))
    and from (svg.one (svg.arcs svg.absolute sp (svg.one
    (svg.argument (unsigned refl) gap (unsigned refl) gap (n refl) (svg.spaces svg.space svg.none) svg.zero_flag svg.nothing svg.one_flag gap (xy refl)))))
    and from (svg.one (svg.arcs svg.relative sp (svg.one
    (svg.argument (unsigned refl) gap (unsigned refl) gap (n refl) (svg.spaces svg.space svg.none) svg.zero_flag svg.nothing svg.one_flag svg.nothing (xy refl)))))
    and tt
