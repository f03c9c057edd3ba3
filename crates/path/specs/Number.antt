-- The text of a number, in doubled whole numbers.
use Rattle.std.specs.Prelude.{cond, List, [], ◌∷◌, ◌++◌, ℕ, zero, suc, ◌+◌, ◌/◌, ◌%◌, ltb}

-- 'at most 8388608': the largest whole number, and the largest number of halves
abbrev pub limit : ℕ
limit = 8388608

abbrev pub limit_halves : ℕ
limit_halves = 16777216

-- 'whole decimals without leading zeros (zero is `0`)': the last digit stands after the text of the tens; f bounds the digits (`digits` gives it more than enough)
abbrev pub digits_with : ℕ → ℕ → List ℕ
digits_with zero n = []
digits_with (suc f) n =
    let more : List ℕ = digits_with f (n / 10) ++ ((48 + n % 10) ∷ []) in
    cond (ltb n 10) ((48 + n) ∷ []) more

unfoldable pub digits : ℕ → List ℕ
digits n = digits_with (suc n) n

-- 'bare or followed by `.5`'
abbrev pub half_text : ℕ → List ℕ
half_text zero = []
half_text (suc r) = 46 ∷ 53 ∷ []

-- h halves
unfoldable pub number_text : ℕ → List ℕ
number_text h = digits (h / 2) ++ half_text (h % 2)
