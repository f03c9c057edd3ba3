-- The bytes of a text, with the degree signs of document 02 (L4): 'a degree sign, the byte pair C2 B0 (hexadecimal)', which 'counts as one' character.
-- Assumes nothing.
use Rattle.std.specs.Prelude.{ℕ, zero, suc, ◌+◌, ◌-◌, ◌≡◌, true, cond, List, [], ◌∷◌, eqb, get_or, take, drop}
use Rattle.chart.specs.Chart.{Part, is_text, byte_c2, byte_b0}

-- what a text may be: 'text bytes 32 to 126', and degree signs
pub data Texted : List ℕ → Type 0 where
  empty : Texted []
  plain : {b : ℕ} {t : List ℕ} → is_text b ≡ true → Texted t → Texted (b ∷ t)
  degree : {t : List ℕ} → Texted t → Texted (byte_c2 ∷ byte_b0 ∷ t)

-- how many characters a text has: 'that pair counts as one'
abbrev pub characters_in : List ℕ → ℕ
characters_in [] = 0
characters_in (b ∷ []) = 1
characters_in (b ∷ c ∷ t) = cond (eqb b byte_c2) (suc (characters_in t)) (suc (characters_in (c ∷ t)))

-- ---- in a chart, where a text is a place and a count of characters

-- how many bytes the character has that begins with b
abbrev pub character_bytes : ℕ → ℕ
character_bytes b = cond (eqb b byte_c2) 2 1

-- the place after k characters
unfoldable pub ending : ℕ → List ℕ → ℕ → ℕ
ending zero s at = at
ending (suc k) s at = ending k s (at + character_bytes (get_or s at 0))

-- how many bytes a text of the chart s has, and these
abbrev pub bytes_of : List ℕ → Part → ℕ
bytes_of s t = ending t.len s t.at - t.at

abbrev pub text_of : List ℕ → Part → List ℕ
text_of s t = take (bytes_of s t) (drop t.at s)
