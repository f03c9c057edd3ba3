-- Texts to hold SVG 1.1's grammar (`Svg`) to, beside chapter 8.3.9: those that derive, each with its commands, and those that do not.
-- Both tables are proved in proofs/SvgCases. By `one-reading` in proofs/Unique a text has no other commands than those beside it here.
-- Assumes nothing.
use Rattle.std.specs.Prelude.{ℕ, true, false, List, [], ◌∷◌}
use Prim.Native.String.{String}
use Rattle.laws.specs.Bytes.{ascii}
use Rattle.laws.specs.Lists.{All}
use Rattle.path.specs.Svg.{Value, Command, moveTo, lineTo, smoothQuadratic, horizontal, vertical, curve_to, smoothCurve, quadratic, arc, close_path, SvgPath}

-- ---- values and commands, shortly
abbrev pub whole : ℕ → Value
whole n = record { minus = false; over = n; under = 1 }

abbrev ratio : ℕ → ℕ → Value
ratio n d = record { minus = false; over = n; under = d }

abbrev negative : ℕ → ℕ → Value
negative n d = record { minus = true; over = n; under = d }

abbrev M : ℕ → ℕ → Command
M x y = moveTo false (whole x) (whole y)

abbrev L : ℕ → ℕ → Command
L x y = lineTo false (whole x) (whole y)

abbrev C : ℕ → ℕ → ℕ → ℕ → ℕ → ℕ → Command
C a b c d x y = curve_to false (whole a) (whole b) (whole c) (whole d) (whole x) (whole y)

abbrev Z : Command
Z = close_path

-- ---- texts that derive, and their commands
unfoldable pub derive : List (String × List Command)
derive =
    -- svg-path: no group, white space around
    ("", []) ∷
    (" \t\r\n", []) ∷
    (" \tM 1 2\r\n", M 1 2 ∷ []) ∷
    -- what we write
    ("M 1 2 L 3 4 C 5 6 7 8 9 0 Z M 1 1", M 1 2 ∷ L 3 4 ∷ C 5 6 7 8 9 0 ∷ Z ∷ M 1 1 ∷ []) ∷
    ("M 0.5 12", moveTo false (ratio 5 10) (whole 12) ∷ []) ∷
    -- moveto: further pairs are linetos; a small letter is relative
    ("M 1 2", M 1 2 ∷ []) ∷
    ("M1 2", M 1 2 ∷ []) ∷
    ("m 1 2", moveTo true (whole 1) (whole 2) ∷ []) ∷
    ("M 1 2 3 4", M 1 2 ∷ L 3 4 ∷ []) ∷
    ("m 1 2 3 4", moveTo true (whole 1) (whole 2) ∷ lineTo true (whole 3) (whole 4) ∷ []) ∷
    -- comma-wsp
    ("M1,2", M 1 2 ∷ []) ∷
    ("M 1 , 2", M 1 2 ∷ []) ∷
    ("M 1\n\t2", M 1 2 ∷ []) ∷
    ("M 1 2,3 4", M 1 2 ∷ L 3 4 ∷ []) ∷
    -- number: sign, fraction, exponent; each as long as it can be, and then nothing need stand between
    ("M +1 2", M 1 2 ∷ []) ∷
    ("M 1 -0", moveTo false (whole 1) (negative 0 1) ∷ []) ∷
    ("M1-2", moveTo false (whole 1) (negative 2 1) ∷ []) ∷
    ("M 00 08", M 0 8 ∷ []) ∷
    ("M 1. 2", M 1 2 ∷ []) ∷
    ("M 1.5.5", moveTo false (ratio 15 10) (ratio 5 10) ∷ []) ∷
    ("M 1e3 -2E-1", moveTo false (whole 1000) (negative 2 10) ∷ []) ∷
    ("M 1.5e+2.5E2", moveTo false (ratio 1500 10) (ratio 500 10) ∷ []) ∷
    ("M 1e1.5", moveTo false (whole 10) (ratio 5 10) ∷ []) ∷
    -- lineto, curveto: further arguments repeat the command
    ("M 0 0 L 1 1 2 2", M 0 0 ∷ L 1 1 ∷ L 2 2 ∷ []) ∷
    ("M 0 0L1 1l2 2", M 0 0 ∷ L 1 1 ∷ lineTo true (whole 2) (whole 2) ∷ []) ∷
    ("M 0 0 C 1 1 2 2 3 3", M 0 0 ∷ C 1 1 2 2 3 3 ∷ []) ∷
    ("M 0 0 C 1 1 2 2 3 3 4 4 5 5 6 6", M 0 0 ∷ C 1 1 2 2 3 3 ∷ C 4 4 5 5 6 6 ∷ []) ∷
    ("M 0 0 c 1 1 2 2 3 3", M 0 0 ∷ curve_to true (whole 1) (whole 1) (whole 2) (whole 2) (whole 3) (whole 3) ∷ []) ∷
    -- closepath, and what follows it
    ("M 0 0Z", M 0 0 ∷ Z ∷ []) ∷
    ("M 0 0 Z Z", M 0 0 ∷ Z ∷ Z ∷ []) ∷
    ("M 0 0zL1 1", M 0 0 ∷ Z ∷ L 1 1 ∷ []) ∷
    -- groups
    ("M 0 0 Z M 1 1", M 0 0 ∷ Z ∷ M 1 1 ∷ []) ∷
    ("M 0 0M1 1", M 0 0 ∷ M 1 1 ∷ []) ∷
    -- the commands that we do not write
    ("M 0 0 H 1 V 2", M 0 0 ∷ horizontal false (whole 1) ∷ vertical false (whole 2) ∷ []) ∷
    ("M 0 0 h 1 2 v 3", M 0 0 ∷ horizontal true (whole 1) ∷ horizontal true (whole 2) ∷ vertical true (whole 3) ∷ []) ∷
    ("M 0 0 S 1 1 2 2", M 0 0 ∷ smoothCurve false (whole 1) (whole 1) (whole 2) (whole 2) ∷ []) ∷
    ("M 0 0 s 1 1 2 2", M 0 0 ∷ smoothCurve true (whole 1) (whole 1) (whole 2) (whole 2) ∷ []) ∷
    ("M 0 0 Q 1 1 2 2", M 0 0 ∷ quadratic false (whole 1) (whole 1) (whole 2) (whole 2) ∷ []) ∷
    ("M 0 0 q 1 1 2 2", M 0 0 ∷ quadratic true (whole 1) (whole 1) (whole 2) (whole 2) ∷ []) ∷
    ("M 0 0 T 1 1", M 0 0 ∷ smoothQuadratic false (whole 1) (whole 1) ∷ []) ∷
    ("M 0 0 t 1 1", M 0 0 ∷ smoothQuadratic true (whole 1) (whole 1) ∷ []) ∷
    ("M 0 0 A 1 1 0 0 1 5 5", M 0 0 ∷ arc false (whole 1) (whole 1) (whole 0) false true (whole 5) (whole 5) ∷ []) ∷
    ("M 0 0 A 1 1 0 01 5 5", M 0 0 ∷ arc false (whole 1) (whole 1) (whole 0) false true (whole 5) (whole 5) ∷ []) ∷
    ("M 0 0 a 1 1 0 015 5", M 0 0 ∷ arc true (whole 1) (whole 1) (whole 0) false true (whole 5) (whole 5) ∷ []) ∷
    []

unfoldable pub AllDerive : Type 0
AllDerive = All (λ (c : String × List Command). SvgPath (ascii c.0) c.1) derive

-- ---- texts that do not
unfoldable pub underived : List String
underived =
    -- svg-path: a moveto comes first, and nothing else stands around
    "L 1 1" ∷
    "Z" ∷
    "1 2" ∷
    "," ∷
    "N 1 2" ∷
    "M 1 2 x" ∷
    "M 1 2 B 3" ∷
    "M 1 2 R 3 4" ∷
    -- wsp: neither 12 nor 11
    "M 1\u{c}2" ∷
    "M\u{b}1 2" ∷
    -- moveto: a pair, and pairs
    "M" ∷
    "M 1" ∷
    "M 1 2 3" ∷
    "M M 1 2" ∷
    "M Z" ∷
    -- comma-wsp: one comma, and between numbers alone
    "M ,1 2" ∷
    "M 1,,2" ∷
    "M 1 , , 2" ∷
    "M 1 2," ∷
    "M 1 2 , " ∷
    ",M 1 2" ∷
    "M 1 2, L 3 4" ∷
    "M 1;2" ∷
    -- number: as long as it can be, so no two of one
    "M 12" ∷
    "M 1.5" ∷
    "M 1.25" ∷
    "M 1e23" ∷
    -- number: digits before or after the point, one sign next to them, digits in the exponent
    "M . 2" ∷
    "M -. 2" ∷
    "M --1 2" ∷
    "M +-1 2" ∷
    "M - 1 2" ∷
    "M 1 2-" ∷
    "M 1e 2" ∷
    "M 1e- 2" ∷
    "M 1 e2 3" ∷
    "M 0x1 2" ∷
    -- lineto, curveto: whole arguments
    "M 0 0 L" ∷
    "M 0 0 L 1" ∷
    "M 0 0 L 1 1 2" ∷
    "M 0 0 L,1 1" ∷
    "M 0 0 L L 1 1" ∷
    "M 0 0 C" ∷
    "M 0 0 C 1 1 2 2" ∷
    "M 0 0 C 1 1 2 2 3" ∷
    "M 0 0 C 1 1 2 2 3 3 4 4" ∷
    -- closepath has no argument
    "M 0 0 Z 1" ∷
    "M 0 0 Z 1 1" ∷
    "M 0 0 Z," ∷
    "M 1 2 Z, M 3 4" ∷
    -- the commands that we do not write
    "M 0 0 H" ∷
    "M 0 0 V" ∷
    "M 0 0 S 1 1 2" ∷
    "M 0 0 Q 1 1" ∷
    "M 0 0 T 1" ∷
    -- arc: radii without a sign, flags 0 or 1 with something before the first, a pair
    "M 0 0 A -1 1 0 0 1 5 5" ∷
    "M 0 0 A +1 1 0 0 1 5 5" ∷
    "M 0 0 A 1 -1 0 0 1 5 5" ∷
    "M 0 0 A 1 1 0 2 1 5 5" ∷
    "M 0 0 A 1 1 0 0 2 5 5" ∷
    "M 0 0 A 1 1 0 +1 1 5 5" ∷
    "M 0 0 A 1 1 00 1 5 5" ∷
    "M 0 0 A 1 1 0 0 1 5" ∷
    []

unfoldable pub NoneDerives : Type 0
NoneDerives = All (λ (t : String). (cs : List Command) → SvgPath (ascii t) cs → ⊥) underived
