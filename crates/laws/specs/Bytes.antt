-- Bytes written as a text or in hexadecimal, for tables of cases.
-- Assumes nothing.
use Rattle.std.specs.Prelude.{ℕ, zero, suc, ◌+◌, ◌-◌, ◌*◌, Bool, true, false, cond, ◌&&◌, List, [], ◌∷◌, eqb, ltb}
use Prim.Native.Char.{code}
use Prim.Native.String.{String, len, char_at}

-- k bytes of a text, from place i on
abbrev bytes_from : ℕ → String → ℕ → List ℕ
bytes_from zero s i = []
bytes_from (suc k) s i = code (char_at s i) ∷ bytes_from k s (suc i)

-- the bytes of a text in ASCII
abbrev pub ascii : String → List ℕ
ascii s = bytes_from (len s) s 0

-- the value of a digit, 0 to 9 or a to f
abbrev digit : ℕ → ℕ
digit c = cond (ltb c 58) (c - 48) (c - 87)

abbrev pairs : List ℕ → List ℕ
pairs [] = []
pairs (a ∷ []) = []
pairs (a ∷ b ∷ l) = (16 * digit a + digit b) ∷ pairs l

-- the bytes that a text in hexadecimal names
abbrev pub hex : String → List ℕ
hex s = pairs (ascii s)

-- the test holds of each case of the table
abbrev pub all_of : {A : Type 0} → (A → Bool) → List A → Bool
all_of test [] = true
all_of test (x ∷ xs) = test x && all_of test xs

-- the two are the same numbers in the same order
abbrev pub same : List ℕ → List ℕ → Bool
same [] [] = true
same [] (y ∷ ys) = false
same (x ∷ xs) [] = false
same (x ∷ xs) (y ∷ ys) = eqb x y && same xs ys
