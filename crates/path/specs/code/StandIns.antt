-- A text of the stand-in table as the code makes it: the number that it shows, and that number's digits.
-- Assumes nothing.
use Rattle.std.specs.Prelude.{ℕ, ◌+◌, ◌-◌, ◌/◌, ◌%◌, cond, eqb, ltb}

-- the number that text j shows
abbrev pub shown_in : ℕ → ℕ
shown_in j = cond (ltb j 32) j (j - 31)

-- how many digits a number below 1,000 has, and the digit with so many after it
abbrev pub places_of : ℕ → ℕ
places_of v = cond (ltb v 10) 1 (cond (ltb v 100) 2 3)

abbrev pub digit_of : ℕ → ℕ → ℕ
digit_of v after = cond (eqb after 0) (48 + v % 10) (cond (eqb after 1) (48 + v / 10 % 10) (48 + v / 100 % 10))
