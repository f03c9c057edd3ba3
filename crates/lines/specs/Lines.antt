-- Lines of hexadecimal digits in lower case, after a D or not.
-- Assumes nothing.
use Rattle.std.specs.Prelude.{ℕ, zero, suc, ◌+◌, ◌-◌, ◌*◌, ◌/◌, min, Bool, false, cond, List, [], ◌∷◌, length, eqb, ltb, get_or, set, take, drop}
use Rattle.std.specs.List.{position_or_len}
use Rattle.laws.specs.Each.{each}
use Rattle.chart.specs.declared.Setting.{Setting}
use Rattle.chart.specs.declared.Setting.TheVariants.{Default, Strict}
use Rattle.lines.specs.declared.Iter.{Iter}

-- a digit's value, 0 for any other byte
abbrev pub digit_of : ℕ → ℕ
digit_of c = cond (ltb c 48) 0 (cond (ltb c 58) (c - 48) (cond (ltb c 97) 0 (cond (ltb c 103) (c - 87) 0)))

-- how many bytes stand before the first line feed
abbrev pub before : List ℕ → ℕ
before s = position_or_len (λ b. eqb b 10) s

-- the line from at on
abbrev pub line_of : List ℕ → ℕ → List ℕ
line_of s at = take (before (drop at s)) (drop at s)

-- the lines of the text, each after the line feed of the one before, at most n; no empty line stands after a last line feed
unfoldable pub lines_from : ℕ → List ℕ → List (List ℕ)
lines_from zero s = []
lines_from (suc n) [] = []
lines_from (suc n) (b ∷ s) = let line = line_of (b ∷ s) 0 in line ∷ lines_from n (drop (suc (length line)) (b ∷ s))

abbrev pub lines_of : List ℕ → List (List ℕ)
lines_of s = lines_from (length s) s

-- the lines that the iterator has left
abbrev pub lines_left : Iter → List (List ℕ)
lines_left it = lines_of it.rest.now

-- whether the line begins with D (68)
unfoldable pub is_default : List ℕ → Bool
is_default [] = false
is_default (b ∷ s) = eqb b 68

-- the setting of the line's chart: the default one after a D, else the strict one
abbrev pub setting_of : List ℕ → Setting
setting_of s = cond (is_default s) Default Strict

-- the line without a D at its start
abbrev pub digits_of : List ℕ → List ℕ
digits_of s = cond (is_default s) (drop 1 s) s

-- byte k that the text names
abbrev pub byte_at : List ℕ → ℕ → ℕ
byte_at s k = 16 * digit_of (get_or s (2 * k) 0) + digit_of (get_or s (2 * k + 1) 0)

-- the buffer with the text's first k bytes at its start
abbrev pub decoded : List ℕ → ℕ → List ℕ → List ℕ
decoded s k buf = each buf (λ i b. set b i (byte_at s i)) k

-- the bytes that the text names, as many as the buffer has room for
abbrev pub chart_in : List ℕ → List ℕ → List ℕ
chart_in s buf = let n = min (length s / 2) (length buf) in take n (decoded s n buf)
