-- A machine that takes SVG's path data byte by byte: a text that derives is accepted. So a text that it refuses, which is computed, does not derive.
-- Assumes nothing.
use mathlib.Core.Path.{◌≡◌, refl, ◌∙◌}
use mathlib.Core.Logic.{inl, inr}
use mathlib.Core.Bool.{Bool, true, false, cond, ◌||◌, false≢true}
use mathlib.Core.List.{List, [], ◌∷◌}
use Prim.Native.Nat.{ℕ}
use borrow.Author.Tests.{ne_eqb}
use lib.Dec.{eqb, ltb}
use Rattle.path.specs.Svg as svg
use Rattle.path.specs.Svg.{Wsp, Wsps, CommaWsp, Between, Value, Digits, Sign, Fraction, Exponent, NotDigit, NotFraction, NotInteger, Apart, Nonnegative, Number, Pair, Command, Letter, Arguments, LineArgument, HorizontalArgument, VerticalArgument, CurveArgument, SmoothArgument, QuadraticArgument, SmoothQuadraticArgument, Flag, ArcArgument, MoveTo, DrawTo, DrawTos, Group, Groups, SvgPath}
use Rattle.path.proofs.DigitBytes.{is_digit, digit-is, not_digit}

-- ---- bytes
pub data Token : Type 0 where
  number unsigned flag : Token

-- a command's arguments
pub record Shape : Type 0 where
  pub first : Token
  pub others : List Token

pub data Name : Type 0 where
  closing moving nothing : Name
  drawing : Shape → Name

pub data Plain : Type 0 where
  white comma sign : Plain
  letter : Name → Plain

-- a digit may be a flag or not
pub data Class : Type 0 where
  digit : Bool → Class
  power point : Class
  plain : Plain → Class

abbrev single : Shape
single = record { first = number; others = [] }

abbrev pairs : List Token → Shape
pairs ts = record { first = number; others = number ∷ ts }

abbrev two : Shape
two = pairs []

abbrev four : Shape
four = pairs (number ∷ number ∷ [])

abbrev six : Shape
six = pairs (number ∷ number ∷ number ∷ number ∷ [])

abbrev seven : Shape
seven = record { first = unsigned; others = unsigned ∷ number ∷ flag ∷ flag ∷ number ∷ number ∷ [] }

-- capital or small
abbrev pub either : ℕ → ℕ → ℕ → Bool
either b c d = eqb b c || eqb b d

abbrev name_of : ℕ → Name
name_of b =
    cond (either b 90 122) closing
    (cond (either b 77 109) moving
    (cond (either b 76 108) (drawing two)
    (cond (either b 72 104) (drawing single)
    (cond (either b 86 118) (drawing single)
    (cond (either b 67 99) (drawing six)
    (cond (either b 83 115) (drawing four)
    (cond (either b 81 113) (drawing four)
    (cond (either b 84 116) (drawing two)
    (cond (either b 65 97) (drawing seven) nothing)))))))))

abbrev plain_of : ℕ → Plain
plain_of b = cond (either b 32 9 || either b 13 10) white (cond (eqb b 44) comma (cond (either b 43 45) sign (letter (name_of b))))

abbrev later_of : ℕ → Class
later_of b = cond (either b 101 69) power (cond (eqb b 46) point (plain (plain_of b)))

abbrev class_of : ℕ → Class
class_of b = cond (is_digit b) (digit (ltb b 50)) (later_of b)

-- ---- the machine; each state of a number or between numbers has the arguments that come after, and the command's
pub data State : Type 0 where
  -- refused; before the first moveto; where a command may begin
  dead begin free : State
  -- an argument comes
  want : Token → List Token → Shape → State
  -- one has come
  after : List Token → Shape → State
  -- within a number, after: a sign; digits; a point without digits; a point and digits; `e`; its sign; its digits
  signed whole bare fraction raised raisedSign exponent : List Token → Shape → State

-- the argument that comes next: the first of the ts, or the command's first anew
abbrev next_of : List Token → Shape → Token
next_of [] h = h.first
next_of (t ∷ ts) h = t

abbrev rest_of : List Token → Shape → List Token
rest_of [] h = h.others
rest_of (t ∷ ts) h = ts

abbrev wanted : List Token → Shape → State
wanted ts h = want (next_of ts h) (rest_of ts h) h

-- how an argument begins
abbrev digit_at : Token → List Token → Shape → Bool → State
digit_at number ts h z = whole ts h
digit_at unsigned ts h z = whole ts h
digit_at flag ts h z = cond z (after ts h) dead

abbrev point_at : Token → List Token → Shape → State
point_at number ts h = bare ts h
point_at unsigned ts h = bare ts h
point_at flag ts h = dead

abbrev sign_at : Token → List Token → Shape → State
sign_at number ts h = signed ts h
sign_at unsigned ts h = dead
sign_at flag ts h = dead

-- how a command begins
abbrev draw_at : Name → State
draw_at closing = free
draw_at moving = wanted [] two
draw_at nothing = dead
draw_at (drawing h) = wanted [] h

abbrev move_at : Name → State
move_at closing = dead
move_at moving = wanted [] two
move_at nothing = dead
move_at (drawing h) = dead

-- a command ends where none of its arguments is left
abbrev is_last : List Token → Bool
is_last [] = true
is_last (t ∷ ts) = false

abbrev pick_plain : State → State → State → (Name → State) → Plain → State
pick_plain w c s n white = w
pick_plain w c s n comma = c
pick_plain w c s n sign = s
pick_plain w c s n (letter l) = n l

abbrev pick : (Bool → State) → State → State → (Plain → State) → Class → State
pick d e p q (digit z) = d z
pick d e p q power = e
pick d e p q point = p
pick d e p q (plain b) = q b

abbrev no_plain : Plain → State
no_plain b = dead

abbrev after_plain : List Token → Shape → Plain → State
after_plain ts h b = pick_plain (after ts h) (wanted ts h) (sign_at (next_of ts h) (rest_of ts h) h) (λ l. cond (is_last ts) (draw_at l) dead) b

abbrev next_point : List Token → Shape → State
next_point ts h = point_at (next_of ts h) (rest_of ts h) h

abbrev step : State → Class → State
step dead c = dead
step begin c = pick (λ z. dead) dead dead (pick_plain begin dead dead move_at) c
step free c = pick (λ z. dead) dead dead (pick_plain free dead dead draw_at) c
step (want t ts h) c = pick (digit_at t ts h) dead (point_at t ts h) (pick_plain (want t ts h) dead (sign_at t ts h) (λ l. dead)) c
step (after ts h) c = pick (digit_at (next_of ts h) (rest_of ts h) h) dead (next_point ts h) (after_plain ts h) c
step (signed ts h) c = pick (λ z. whole ts h) dead (bare ts h) no_plain c
step (whole ts h) c = pick (λ z. whole ts h) (raised ts h) (fraction ts h) (after_plain ts h) c
step (bare ts h) c = pick (λ z. fraction ts h) dead dead no_plain c
step (fraction ts h) c = pick (λ z. fraction ts h) (raised ts h) (next_point ts h) (after_plain ts h) c
step (raised ts h) c = pick (λ z. exponent ts h) dead dead (pick_plain dead dead (raisedSign ts h) (λ l. dead)) c
step (raisedSign ts h) c = pick (λ z. exponent ts h) dead dead no_plain c
step (exponent ts h) c = pick (λ z. exponent ts h) dead (next_point ts h) (after_plain ts h) c

abbrev final : State → Bool
final dead = false
final begin = true
final free = true
final (want t ts h) = false
final (after ts h) = is_last ts
final (signed ts h) = false
final (whole ts h) = is_last ts
final (bare ts h) = false
final (fraction ts h) = is_last ts
final (raised ts h) = false
final (raisedSign ts h) = false
final (exponent ts h) = is_last ts

unfoldable takes : State → List ℕ → Bool
takes q [] = final q
takes q (b ∷ s) = takes (step q (class_of b)) s

-- the same, as a family
data Ok : State → List ℕ → Type 0 where
  end : {q : State} → final q ≡ true → Ok q []
  byte : {q : State} {b : ℕ} {s : List ℕ} → Ok (step q (class_of b)) s → Ok q (b ∷ s)

ok_takes : {q : State} {s : List ℕ} → Ok q s → takes q s ≡ true
unfolding takes
ok_takes (end e) = e
ok_takes (byte k) = ok_takes k

dead_no : {A : Type 0} {s : List ℕ} → Ok dead s → A
dead_no (end e) = absurd (false≢true e)
dead_no (byte k) = dead_no k

-- from q by a byte to p
to : {q p : State} {b : ℕ} {s : List ℕ} → step q (class_of b) ≡ p → Ok p s → Ok q (b ∷ s)
to {q} {p} {b} {s} e k = byte {q = q} {b = b} {s = s} (rw e k)

-- ---- each law: a production is taken from the state before it, if what it leaves is taken from the state after it
-- ---- white space
wsp_run : {s t : List ℕ} {q : State} → Wsp s t → step q (plain white) ≡ q → Ok q t → Ok q s
wsp_run svg.space e k = to e k
wsp_run svg.tab e k = to e k
wsp_run svg.return e k = to e k
wsp_run svg.feed e k = to e k

wsps_run : {s t : List ℕ} {q : State} → Wsps s t → step q (plain white) ≡ q → Ok q t → Ok q s
wsps_run svg.none e k = k
wsps_run (svg.more w ws) e k = wsp_run w e (wsps_run ws e k)

-- an argument may follow another at once, a command the last argument, a group the command before it
want-after : (ts : List Token) (h : Shape) (s : List ℕ) → Ok (wanted ts h) s → Ok (after ts h) s
want-after ts h [] (end e) = absurd (false≢true e)
want-after ts h (b ∷ s) (byte k) = byte (go (class_of b) (want-after ts h s) k)
  where
    go : (c : Class) → (Ok (wanted ts h) s → Ok (after ts h) s) → Ok (step (wanted ts h) c) s → Ok (step (after ts h) c) s
    go (digit z) i j = j
    go power i j = j
    go point i j = j
    go (plain white) i j = i j
    go (plain comma) i j = dead_no j
    go (plain sign) i j = j
    go (plain (letter l)) i j = dead_no j

free-after : (h : Shape) (s : List ℕ) → Ok free s → Ok (after [] h) s
free-after h [] k = end refl
free-after h (b ∷ s) (byte k) = byte (go (class_of b) (free-after h s) k)
  where
    go : (c : Class) → (Ok free s → Ok (after [] h) s) → Ok (step free c) s → Ok (step (after [] h) c) s
    go (digit z) i j = dead_no j
    go power i j = j
    go point i j = dead_no j
    go (plain white) i j = i j
    go (plain comma) i j = dead_no j
    go (plain sign) i j = dead_no j
    go (plain (letter l)) i j = j

begin-free : (s : List ℕ) → Ok begin s → Ok free s
begin-free [] k = end refl
begin-free (b ∷ s) (byte k) = byte (go (class_of b) (begin-free s) k)
  where
    go : (c : Class) → (Ok begin s → Ok free s) → Ok (step begin c) s → Ok (step free c) s
    go (digit z) i j = j
    go power i j = j
    go point i j = j
    go (plain white) i j = i j
    go (plain comma) i j = j
    go (plain sign) i j = j
    go (plain (letter closing)) i j = dead_no j
    go (plain (letter moving)) i j = j
    go (plain (letter nothing)) i j = j
    go (plain (letter (drawing h))) i j = dead_no j

module _ (ts : List Token) (h : Shape) where
  comma-run : {s r : List ℕ} → CommaWsp s r → Ok (wanted ts h) r → Ok (after ts h) s
  comma-run {r = r} (svg.spaces w ws) k = wsp_run w refl (wsps_run ws refl (want-after ts h r k))
  comma-run (svg.spaces_comma w ws vs) k = wsp_run w refl (wsps_run ws refl (byte (wsps_run vs refl k)))
  comma-run (svg.comma ws) k = byte (wsps_run ws refl k)

  between_run : {s r : List ℕ} → Between s r → Ok (wanted ts h) r → Ok (after ts h) s
  between_run {r = r} svg.nothing k = want-after ts h r k
  between_run (svg.something c) k = comma-run c k

-- ---- numbers
later-is : (b : ℕ) → NotDigit b → class_of b ≡ later_of b
later-is b n = rw (not_digit b n)

-- from p into q, where digits stay
digits-run : {a v k : ℕ} {s r : List ℕ} (p q : State) → ((z : Bool) → step p (digit z) ≡ q) → ((z : Bool) → step q (digit z) ≡ q) → Digits a s v k r → Ok q r → Ok p s
digits-run p q e f (svg.one {b = b} g) k = to (rw (digit-is g) (e (ltb b 50))) k
digits-run p q e f (svg.more {b = b} g ds) k = to (rw (digit-is g) (e (ltb b 50))) (digits-run q q f f ds k)

module _ (ts : List Token) (h : Shape) where
  -- a number ends where no more of it follows
  exponent-ends : {r : List ℕ} → Apart NotDigit r → Ok (after ts h) r → Ok (exponent ts h) r
  exponent-ends svg.end (end e) = end e
  exponent-ends (svg.byte {b = b} n) (byte k) = to (rw (later-is b n) (go (either b 101 69) (eqb b 46))) (rw (later-is b n) at k)
    where
      go : (t u : Bool) → step (exponent ts h) (cond t power (cond u point (plain (plain_of b)))) ≡ step (after ts h) (cond t power (cond u point (plain (plain_of b))))
      go true u = refl
      go false true = refl
      go false false = refl

  no_power : (b : ℕ) → NotFraction b → class_of b ≡ cond (eqb b 46) point (plain (plain_of b))
  no_power b n = later-is b n.no_digit ∙ rw (ne_eqb b 101 n.no_small, ne_eqb b 69 n.no_large)

  fraction-ends : {r : List ℕ} → Apart NotFraction r → Ok (after ts h) r → Ok (fraction ts h) r
  fraction-ends svg.end (end e) = end e
  fraction-ends (svg.byte {b = b} n) (byte k) = to (rw (no_power b n) (go (eqb b 46))) (rw (no_power b n) at k)
    where
      go : (t : Bool) → step (fraction ts h) (cond t point (plain (plain_of b))) ≡ step (after ts h) (cond t point (plain (plain_of b)))
      go true = refl
      go false = refl

  no_point_lem : (b : ℕ) → NotInteger b → class_of b ≡ plain (plain_of b)
  no_point_lem b n = no_power b n.no_fraction ∙ rw (ne_eqb b 46 n.no_point)

  whole-ends : {r : List ℕ} → Apart NotInteger r → Ok (after ts h) r → Ok (whole ts h) r
  whole-ends svg.end (end e) = end e
  whole-ends (svg.byte {b = b} n) (byte k) = to (rw (no_point_lem b n)) (rw (no_point_lem b n) at k)

  sign-run : {m : Bool} {v k : ℕ} {s t r : List ℕ} → Sign s m t → Digits 0 t v k r → Apart NotDigit r → Ok (after ts h) r → Ok (raised ts h) s
  sign-run svg.none f a k = digits-run (raised ts h) (exponent ts h) (λ z. refl) (λ z. refl) f (exponent-ends a k)
  sign-run svg.plus f a k = byte (digits-run (raisedSign ts h) (exponent ts h) (λ z. refl) (λ z. refl) f (exponent-ends a k))
  sign-run svg.minus f a k = byte (digits-run (raisedSign ts h) (exponent ts h) (λ z. refl) (λ z. refl) f (exponent-ends a k))

  -- from p, before an exponent
  exponent-run : {m : Bool} {v : ℕ} {s r : List ℕ} (p : State) → step p power ≡ raised ts h → Exponent s m v r → Apart NotDigit r → Ok (after ts h) r → Ok p s
  exponent-run p e (svg.exponent (inl j) g f) a k = to (rw j e) (sign-run g f a k)
  exponent-run p e (svg.exponent (inr j) g f) a k = to (rw j e) (sign-run g f a k)

  -- from p, before a number without its sign
  module _ (p : State) (d : (z : Bool) → step p (digit z) ≡ whole ts h) (e : step p point ≡ bare ts h) where
    whole_run : {v k : ℕ} {s r : List ℕ} → Digits 0 s v k r → Ok (whole ts h) r → Ok p s
    whole_run f k = digits-run p (whole ts h) d (λ z. refl) f k

    fraction-run : {v j : ℕ} {s r : List ℕ} → Fraction s v j r → Ok (fraction ts h) r → Ok p s
    fraction-run (svg.both f g) k = whole_run f (byte (digits-run (fraction ts h) (fraction ts h) (λ z. refl) (λ z. refl) g k))
    fraction-run (svg.right f) k = to e (digits-run (bare ts h) (fraction ts h) (λ z. refl) (λ z. refl) f k)
    fraction-run (svg.left f) k = whole_run f (byte k)

    unsigned-run : {v : Value} {s r : List ℕ} → Nonnegative s v r → Ok (after ts h) r → Ok p s
    unsigned-run (svg.integer f a) k = whole_run f (whole-ends a k)
    unsigned-run (svg.fraction f a) k = fraction-run f (fraction-ends a k)
    unsigned-run (svg.fraction_exponent f x a) k = fraction-run f (exponent-run (fraction ts h) refl x a k)
    unsigned-run (svg.integer_exponent f x a) k = whole_run f (exponent-run (whole ts h) refl x a k)

  number-run : {v : Value} {s r : List ℕ} → Number s v r → Ok (after ts h) r → Ok (want number ts h) s
  number-run (svg.number svg.none n) k = unsigned-run (want number ts h) (λ z. refl) refl n k
  number-run (svg.number svg.plus n) k = byte (unsigned-run (signed ts h) (λ z. refl) refl n k)
  number-run (svg.number svg.minus n) k = byte (unsigned-run (signed ts h) (λ z. refl) refl n k)

  flag_run : {f : Bool} {s r : List ℕ} → Flag s f r → Ok (after ts h) r → Ok (want flag ts h) s
  flag_run svg.zero_flag k = byte k
  flag_run svg.one_flag k = byte k

-- an argument after another
next-run : {v : Value} {s t r : List ℕ} (ts : List Token) (h : Shape) → Between s t → Number t v r → Ok (after ts h) r → Ok (after (number ∷ ts) h) s
next-run ts h b n k = between_run (number ∷ ts) h b (number-run ts h n k)

pair-run : {x y : Value} {s r : List ℕ} (ts : List Token) (h : Shape) → Pair s x y r → Ok (after ts h) r → Ok (want number (number ∷ ts) h) s
pair-run ts h (svg.pair n b m) k = number-run (number ∷ ts) h n (next-run ts h b m k)

next-pair : {x y : Value} {s t r : List ℕ} (ts : List Token) (h : Shape) → Between s t → Pair t x y r → Ok (after ts h) r → Ok (after (number ∷ number ∷ ts) h) s
next-pair ts h b p k = between_run (number ∷ number ∷ ts) h b (pair-run ts h p k)

-- ---- arguments
module _ (h : Shape) (P : List ℕ → Command → List ℕ → Type 0) (run : (s : List ℕ) (c : Command) (r : List ℕ) → P s c r → Ok (after [] h) r → Ok (wanted [] h) s) where
  arguments_run : {s r : List ℕ} {cs : List Command} → Arguments P s cs r → Ok (after [] h) r → Ok (wanted [] h) s
  arguments_run {s} {r} (svg.one {c = c} p) k = run s c r p k
  arguments_run {s} (svg.more {c = c} {t = t} p b a) k = run s c t p (between_run [] h b (arguments_run a k))

line-run : (rel : Bool) (s : List ℕ) (c : Command) (r : List ℕ) → LineArgument rel s c r → Ok (after [] two) r → Ok (wanted [] two) s
line-run rel s c r (svg.argument p) k = pair-run [] two p k

horizontal_run : (rel : Bool) (s : List ℕ) (c : Command) (r : List ℕ) → HorizontalArgument rel s c r → Ok (after [] single) r → Ok (wanted [] single) s
horizontal_run rel s c r (svg.argument n) k = number-run [] single n k

vertical_run : (rel : Bool) (s : List ℕ) (c : Command) (r : List ℕ) → VerticalArgument rel s c r → Ok (after [] single) r → Ok (wanted [] single) s
vertical_run rel s c r (svg.argument n) k = number-run [] single n k

curve-run : (rel : Bool) (s : List ℕ) (c : Command) (r : List ℕ) → CurveArgument rel s c r → Ok (after [] six) r → Ok (wanted [] six) s
curve-run rel s c r (svg.argument p b q d z) k = pair-run (number ∷ number ∷ number ∷ number ∷ []) six p (next-pair (number ∷ number ∷ []) six b q (next-pair [] six d z k))

smooth_run : (rel : Bool) (s : List ℕ) (c : Command) (r : List ℕ) → SmoothArgument rel s c r → Ok (after [] four) r → Ok (wanted [] four) s
smooth_run rel s c r (svg.argument p b q) k = pair-run (number ∷ number ∷ []) four p (next-pair [] four b q k)

quadratic_run : (rel : Bool) (s : List ℕ) (c : Command) (r : List ℕ) → QuadraticArgument rel s c r → Ok (after [] four) r → Ok (wanted [] four) s
quadratic_run rel s c r (svg.argument p b q) k = pair-run (number ∷ number ∷ []) four p (next-pair [] four b q k)

smooth_quadratic_run : (rel : Bool) (s : List ℕ) (c : Command) (r : List ℕ) → SmoothQuadraticArgument rel s c r → Ok (after [] two) r → Ok (wanted [] two) s
smooth_quadratic_run rel s c r (svg.argument p) k = pair-run [] two p k

arc-run : (rel : Bool) (s : List ℕ) (c : Command) (r : List ℕ) → ArcArgument rel s c r → Ok (after [] seven) r → Ok (wanted [] seven) s
arc-run rel s c r (svg.argument a i b j d m f n g o p) k =
    let gs : List Token = number ∷ number ∷ [] in
    let fs : List Token = flag ∷ gs in
    let ds : List Token = flag ∷ fs in
    let bs : List Token = number ∷ ds in
    first (unsigned ∷ bs) a (between_run (unsigned ∷ bs) seven i (first bs b (next-run ds seven j d (comma-run ds seven m (flag_run fs seven f (between_run fs seven n (flag_run gs seven g (next-pair [] seven o p k))))))))
  where
    first : {v : Value} {s r : List ℕ} (ts : List Token) → Nonnegative s v r → Ok (after ts seven) r → Ok (want unsigned ts seven) s
    first ts n k = unsigned-run ts seven (want unsigned ts seven) (λ z. refl) refl n k

-- ---- commands
letter_class : {a c b : ℕ} {rel : Bool} {n : Name} → Letter a c b rel → class_of a ≡ plain (letter n) → class_of c ≡ plain (letter n) → class_of b ≡ plain (letter n)
letter_class svg.absolute e f = e
letter_class svg.relative e f = f

command-run : {a c b : ℕ} {rel : Bool} {s t r : List ℕ} {cs : List Command} (h : Shape) (P : List ℕ → Command → List ℕ → Type 0) → ((s : List ℕ) (c : Command) (r : List ℕ) → P s c r → Ok (after [] h) r → Ok (wanted [] h) s)
    → Letter a c b rel → class_of a ≡ plain (letter (drawing h)) → class_of c ≡ plain (letter (drawing h)) → Wsps s t → Arguments P t cs r → Ok free r → Ok free (b ∷ s)
command-run {r = r} h P run l e f w a k = to (rw (letter_class l e f)) (wsps_run w refl (arguments_run h P run a (free-after h r k)))

draw_run : {s r : List ℕ} {cs : List Command} → DrawTo s cs r → Ok free r → Ok free s
draw_run (svg.closed l) k = to (rw (letter_class {n = closing} l refl refl)) k
draw_run (svg.lines {rel = rel} l w a) k = command-run two (LineArgument rel) (line-run rel) l refl refl w a k
draw_run (svg.horizontals {rel = rel} l w a) k = command-run single (HorizontalArgument rel) (horizontal_run rel) l refl refl w a k
draw_run (svg.verticals {rel = rel} l w a) k = command-run single (VerticalArgument rel) (vertical_run rel) l refl refl w a k
draw_run (svg.curves {rel = rel} l w a) k = command-run six (CurveArgument rel) (curve-run rel) l refl refl w a k
draw_run (svg.smooths {rel = rel} l w a) k = command-run four (SmoothArgument rel) (smooth_run rel) l refl refl w a k
draw_run (svg.quadratics {rel = rel} l w a) k = command-run four (QuadraticArgument rel) (quadratic_run rel) l refl refl w a k
draw_run (svg.smooth_quadratics {rel = rel} l w a) k = command-run two (SmoothQuadraticArgument rel) (smooth_quadratic_run rel) l refl refl w a k
draw_run (svg.arcs {rel = rel} l w a) k = command-run seven (ArcArgument rel) (arc-run rel) l refl refl w a k

draws-run : {s r : List ℕ} {cs : List Command} → DrawTos s cs r → Ok free r → Ok free s
draws-run (svg.one d) k = draw_run d k
draws-run (svg.more d w f) k = draw_run d (wsps_run w refl (draws-run f k))

move-run : {s r : List ℕ} {cs : List Command} → MoveTo s cs r → Ok free r → Ok begin s
move-run {r = r} (svg.one l w p) k = to (rw (letter_class {n = moving} l refl refl)) (wsps_run w refl (pair-run [] two p (free-after two r k)))
move-run {r = r} (svg.more {rel = rel} l w p b a) k =
    to (rw (letter_class {n = moving} l refl refl)) (wsps_run w refl (pair-run [] two p (between_run [] two b (arguments_run two (LineArgument rel) (line-run rel) a (free-after two r k)))))

-- ---- groups
group_run : {s r : List ℕ} {cs : List Command} → Group s cs r → Ok free r → Ok begin s
group_run (svg.bare m w) k = move-run m (wsps_run w refl k)
group_run (svg.drawn m w d) k = move-run m (wsps_run w refl (draws-run d k))

groups-run : {s r : List ℕ} {cs : List Command} → Groups s cs r → Ok free r → Ok begin s
groups-run (svg.one g) k = group_run g k
groups-run (svg.more {u = u} g w f) k = group_run g (wsps_run w refl (begin-free u (groups-run f k)))

path-run : {s : List ℕ} {cs : List Command} → SvgPath s cs → Ok begin s
path-run (svg.empty w v) = wsps_run w refl (wsps_run v refl (end refl))
path-run (svg.path w g v) = wsps_run w refl (groups-run g (wsps_run v refl (end refl)))

-- what derives is accepted
unfoldable pub accepts : List ℕ → Bool
unfolding takes
accepts s = takes begin s

pub derived_accepted : {s : List ℕ} {cs : List Command} → SvgPath s cs → accepts s ≡ true
unfolding accepts
derived_accepted p = ok_takes (path-run p)
