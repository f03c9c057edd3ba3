-- SVG 1.1's path data (chapter 8.3.9), production by production, from the facts in svg-path-data.md. It knows nothing of the writer and the reader.
-- A production is a family: `P s v r` says that it takes the front of the bytes s, with the value v, and leaves r.
-- `?` is optional, `*` any number, `+` one or more. A number token is as long as it can be: `Apart`.
use Rattle.std.specs.Prelude.{◌≡◌, ◌⊎◌, Bool, true, false, List, [], ◌∷◌, ◌++◌, ℕ, suc, ◌+◌, ◌*◌, ◌^◌, ◌<◌}

-- ---- white space
-- wsp: byte 32, 9, 13 or 10
pub data Wsp : List ℕ → List ℕ → Type 0 where
  space : {r : List ℕ} → Wsp (32 ∷ r) r
  tab : {r : List ℕ} → Wsp (9 ∷ r) r
  return : {r : List ℕ} → Wsp (13 ∷ r) r
  feed : {r : List ℕ} → Wsp (10 ∷ r) r

-- wsp*
pub data Wsps : List ℕ → List ℕ → Type 0 where
  none : {r : List ℕ} → Wsps r r
  more : {s t r : List ℕ} → Wsp s t → Wsps t r → Wsps s r

-- comma-wsp: wsp+ `,`? wsp*, or `,` wsp*
pub data CommaWsp : List ℕ → List ℕ → Type 0 where
  spaces : {s t r : List ℕ} → Wsp s t → Wsps t r → CommaWsp s r
  spaces_comma : {s t u r : List ℕ} → Wsp s t → Wsps t (44 ∷ u) → Wsps u r → CommaWsp s r
  comma : {s r : List ℕ} → Wsps s r → CommaWsp (44 ∷ s) r

-- comma-wsp?
pub data Between : List ℕ → List ℕ → Type 0 where
  nothing : {r : List ℕ} → Between r r
  something : {s r : List ℕ} → CommaWsp s r → Between s r

-- ---- numbers
-- a number's value: the fraction over / under, negative or not
pub record Value : Type 0 where
  pub minus : Bool
  pub over : ℕ
  pub under : ℕ

pub record Digit (b d : ℕ) : Type 0 where
  pub is : b ≡ 48 + d
  pub small : d < 10

-- digits, one or more, after a number a: the number with them, and how many
pub data Digits : ℕ → List ℕ → ℕ → ℕ → List ℕ → Type 0 where
  one : {a b d : ℕ} {r : List ℕ} → Digit b d → Digits a (b ∷ r) (10 * a + d) 1 r
  more : {a b d v k : ℕ} {s r : List ℕ} → Digit b d → Digits (10 * a + d) s v k r → Digits a (b ∷ s) v (suc k) r

pub data Sign : List ℕ → Bool → List ℕ → Type 0 where
  none : {r : List ℕ} → Sign r false r
  plus : {r : List ℕ} → Sign (43 ∷ r) false r
  minus : {r : List ℕ} → Sign (45 ∷ r) true r

-- fraction: digits? `.` digits, or digits `.`; the number without its point, and how many digits follow that
pub data Fraction : List ℕ → ℕ → ℕ → List ℕ → Type 0 where
  both : {a k v j : ℕ} {s t r : List ℕ} → Digits 0 s a k (46 ∷ t) → Digits a t v j r → Fraction s v j r
  right : {v j : ℕ} {t r : List ℕ} → Digits 0 t v j r → Fraction (46 ∷ t) v j r
  left : {v k : ℕ} {s r : List ℕ} → Digits 0 s v k (46 ∷ r) → Fraction s v 0 r

-- exponent: `e` or `E`, sign?, digits
pub data Exponent : List ℕ → Bool → ℕ → List ℕ → Type 0 where
  exponent : {e v k : ℕ} {m : Bool} {s t r : List ℕ} → (e ≡ 101) ⊎ (e ≡ 69) → Sign s m t → Digits 0 t v k r → Exponent (e ∷ s) m v r

-- what follows goes on with none of these bytes
pub record NotDigit (b : ℕ) : Type 0 where
  pub no : (d : ℕ) → Digit b d → ⊥

pub record NotFraction (b : ℕ) : Type 0 where
  pub no_digit : NotDigit b
  pub no_small : b ≡ 101 → ⊥
  pub no_large : b ≡ 69 → ⊥

pub record NotInteger (b : ℕ) : Type 0 where
  pub no_fraction : NotFraction b
  pub no_point : b ≡ 46 → ⊥

pub data Apart (P : ℕ → Type 0) : List ℕ → Type 0 where
  end : Apart P []
  byte : {b : ℕ} {r : List ℕ} → P b → Apart P (b ∷ r)

-- a fraction with an exponent: multiplied, or divided
abbrev pub scaled : Bool → ℕ → ℕ → ℕ → Value
scaled false v u e = record { minus = false; over = v * 10 ^ e; under = u }
scaled true v u e = record { minus = false; over = v; under = u * 10 ^ e }

-- nonnegative-number, which has no sign: integer, or floating point (fraction exponent?, or digits exponent)
pub data Nonnegative : List ℕ → Value → List ℕ → Type 0 where
  integer : {v k : ℕ} {s r : List ℕ} → Digits 0 s v k r → Apart NotInteger r → Nonnegative s (record { minus = false; over = v; under = 1 }) r
  fraction : {v j : ℕ} {s r : List ℕ} → Fraction s v j r → Apart NotFraction r → Nonnegative s (record { minus = false; over = v; under = 10 ^ j }) r
  fraction_exponent : {n : Bool} {v j e : ℕ} {s t r : List ℕ} → Fraction s v j t → Exponent t n e r → Apart NotDigit r → Nonnegative s (scaled n v (10 ^ j) e) r
  integer_exponent : {n : Bool} {v k e : ℕ} {s t r : List ℕ} → Digits 0 s v k t → Exponent t n e r → Apart NotDigit r → Nonnegative s (scaled n v 1 e) r

-- number: sign? nonnegative-number
abbrev pub signed : Bool → Value → Value
signed m v = record { minus = m; over = v.over; under = v.under }

pub data Number : List ℕ → Value → List ℕ → Type 0 where
  number : {m : Bool} {v : Value} {s t r : List ℕ} → Sign s m t → Nonnegative t v r → Number s (signed m v) r

-- pair: number comma-wsp? number
pub data Pair : List ℕ → Value → Value → List ℕ → Type 0 where
  pair : {x y : Value} {s t u r : List ℕ} → Number s x t → Between t u → Number u y r → Pair s x y r

-- ---- commands; the first field of each says whether it is relative
pub data Command : Type 0 where
  moveTo lineTo smoothQuadratic : Bool → Value → Value → Command
  horizontal vertical : Bool → Value → Command
  curve_to : Bool → Value → Value → Value → Value → Value → Value → Command
  smoothCurve quadratic : Bool → Value → Value → Value → Value → Command
  arc : Bool → Value → Value → Value → Bool → Bool → Value → Value → Command
  close_path : Command

-- a letter: the capital is absolute
pub data Letter (capital small : ℕ) : ℕ → Bool → Type 0 where
  absolute : Letter capital small capital false
  relative : Letter capital small small true

-- arguments, one or more, with comma-wsp? between
pub data Arguments (P : List ℕ → Command → List ℕ → Type 0) : List ℕ → List Command → List ℕ → Type 0 where
  one : {c : Command} {s r : List ℕ} → P s c r → Arguments P s (c ∷ []) r
  more : {c : Command} {cs : List Command} {s t u r : List ℕ} → P s c t → Between t u → Arguments P u cs r → Arguments P s (c ∷ cs) r

pub data LineArgument (rel : Bool) : List ℕ → Command → List ℕ → Type 0 where
  argument : {x y : Value} {s r : List ℕ} → Pair s x y r → LineArgument rel s (lineTo rel x y) r

pub data HorizontalArgument (rel : Bool) : List ℕ → Command → List ℕ → Type 0 where
  argument : {x : Value} {s r : List ℕ} → Number s x r → HorizontalArgument rel s (horizontal rel x) r

pub data VerticalArgument (rel : Bool) : List ℕ → Command → List ℕ → Type 0 where
  argument : {y : Value} {s r : List ℕ} → Number s y r → VerticalArgument rel s (vertical rel y) r

pub data CurveArgument (rel : Bool) : List ℕ → Command → List ℕ → Type 0 where
  argument : {a b c d x y : Value} {s t u v w r : List ℕ} → Pair s a b t → Between t u → Pair u c d v → Between v w → Pair w x y r → CurveArgument rel s (curve_to rel a b c d x y) r

pub data SmoothArgument (rel : Bool) : List ℕ → Command → List ℕ → Type 0 where
  argument : {a b x y : Value} {s t u r : List ℕ} → Pair s a b t → Between t u → Pair u x y r → SmoothArgument rel s (smoothCurve rel a b x y) r

pub data QuadraticArgument (rel : Bool) : List ℕ → Command → List ℕ → Type 0 where
  argument : {a b x y : Value} {s t u r : List ℕ} → Pair s a b t → Between t u → Pair u x y r → QuadraticArgument rel s (quadratic rel a b x y) r

pub data SmoothQuadraticArgument (rel : Bool) : List ℕ → Command → List ℕ → Type 0 where
  argument : {x y : Value} {s r : List ℕ} → Pair s x y r → SmoothQuadraticArgument rel s (smoothQuadratic rel x y) r

pub data Flag : List ℕ → Bool → List ℕ → Type 0 where
  zero_flag : {r : List ℕ} → Flag (48 ∷ r) false r
  one_flag : {r : List ℕ} → Flag (49 ∷ r) true r

-- two nonnegative numbers, a number, two flags, a pair
pub data ArcArgument (rel : Bool) : List ℕ → Command → List ℕ → Type 0 where
  argument : {a b c x y : Value} {f g : Bool} {s t u v w i j k l m n r : List ℕ} → Nonnegative s a t → Between t u → Nonnegative u b v → Between v w → Number w c i → CommaWsp i j → Flag j f k → Between k l → Flag l g m → Between m n → Pair n x y r → ArcArgument rel s (arc rel a b c f g x y) r

-- moveto: `M` or `m`, wsp*, a pair; further pairs are linetos
pub data MoveTo : List ℕ → List Command → List ℕ → Type 0 where
  one : {b : ℕ} {rel : Bool} {x y : Value} {s t r : List ℕ} → Letter 77 109 b rel → Wsps s t → Pair t x y r → MoveTo (b ∷ s) (moveTo rel x y ∷ []) r
  more : {b : ℕ} {rel : Bool} {x y : Value} {cs : List Command} {s t u v r : List ℕ} → Letter 77 109 b rel → Wsps s t → Pair t x y u → Between u v → Arguments (LineArgument rel) v cs r → MoveTo (b ∷ s) (moveTo rel x y ∷ cs) r

-- drawto-command
pub data DrawTo : List ℕ → List Command → List ℕ → Type 0 where
  closed : {b : ℕ} {rel : Bool} {r : List ℕ} → Letter 90 122 b rel → DrawTo (b ∷ r) (close_path ∷ []) r
  lines : {b : ℕ} {rel : Bool} {cs : List Command} {s t r : List ℕ} → Letter 76 108 b rel → Wsps s t → Arguments (LineArgument rel) t cs r → DrawTo (b ∷ s) cs r
  horizontals : {b : ℕ} {rel : Bool} {cs : List Command} {s t r : List ℕ} → Letter 72 104 b rel → Wsps s t → Arguments (HorizontalArgument rel) t cs r → DrawTo (b ∷ s) cs r
  verticals : {b : ℕ} {rel : Bool} {cs : List Command} {s t r : List ℕ} → Letter 86 118 b rel → Wsps s t → Arguments (VerticalArgument rel) t cs r → DrawTo (b ∷ s) cs r
  curves : {b : ℕ} {rel : Bool} {cs : List Command} {s t r : List ℕ} → Letter 67 99 b rel → Wsps s t → Arguments (CurveArgument rel) t cs r → DrawTo (b ∷ s) cs r
  smooths : {b : ℕ} {rel : Bool} {cs : List Command} {s t r : List ℕ} → Letter 83 115 b rel → Wsps s t → Arguments (SmoothArgument rel) t cs r → DrawTo (b ∷ s) cs r
  quadratics : {b : ℕ} {rel : Bool} {cs : List Command} {s t r : List ℕ} → Letter 81 113 b rel → Wsps s t → Arguments (QuadraticArgument rel) t cs r → DrawTo (b ∷ s) cs r
  smooth_quadratics : {b : ℕ} {rel : Bool} {cs : List Command} {s t r : List ℕ} → Letter 84 116 b rel → Wsps s t → Arguments (SmoothQuadraticArgument rel) t cs r → DrawTo (b ∷ s) cs r
  arcs : {b : ℕ} {rel : Bool} {cs : List Command} {s t r : List ℕ} → Letter 65 97 b rel → Wsps s t → Arguments (ArcArgument rel) t cs r → DrawTo (b ∷ s) cs r

-- drawto-commands: drawto-command, or drawto-command wsp* drawto-commands
pub data DrawTos : List ℕ → List Command → List ℕ → Type 0 where
  one : {cs : List Command} {s r : List ℕ} → DrawTo s cs r → DrawTos s cs r
  more : {cs ds : List Command} {s t u r : List ℕ} → DrawTo s cs t → Wsps t u → DrawTos u ds r → DrawTos s (cs ++ ds) r

-- group: moveto wsp* drawto-commands?
pub data Group : List ℕ → List Command → List ℕ → Type 0 where
  bare : {cs : List Command} {s t r : List ℕ} → MoveTo s cs t → Wsps t r → Group s cs r
  drawn : {cs ds : List Command} {s t u r : List ℕ} → MoveTo s cs t → Wsps t u → DrawTos u ds r → Group s (cs ++ ds) r

-- groups: group, or group wsp* groups
pub data Groups : List ℕ → List Command → List ℕ → Type 0 where
  one : {cs : List Command} {s r : List ℕ} → Group s cs r → Groups s cs r
  more : {cs ds : List Command} {s t u r : List ℕ} → Group s cs t → Wsps t u → Groups u ds r → Groups s (cs ++ ds) r

-- svg-path: wsp* groups? wsp*
pub data SvgPath : List ℕ → List Command → Type 0 where
  empty : {s t : List ℕ} → Wsps s t → Wsps t [] → SvgPath s []
  path : {cs : List Command} {s t u : List ℕ} → Wsps s t → Groups t cs u → Wsps u [] → SvgPath s cs
