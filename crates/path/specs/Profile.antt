-- Profile texts, 'range and first letter apart': the texts of segments with numbers of any size, whatever the first letter.
use Rattle.std.specs.Prelude.{◌≡◌, ◌⊎◌, List, [], ◌∷◌, ◌++◌, ℕ, suc, ◌<◌, length, take}
use Rattle.path.specs.Number.{limit_halves}
use Rattle.path.specs.declared.drawn.Drawn.{Drawn}
use Rattle.path.specs.Text.{letter_of, numbers_of, numbers_text, text_of, Small, Smalls}

abbrev pub IsProfile : List ℕ → Type 0
IsProfile t = (ds : List Drawn) × (text_of ds ≡ t)

-- some profile text continues t
abbrev pub Continues : List ℕ → Type 0
Continues t = (ds : List Drawn) × (r : List ℕ) × (t ++ r ≡ text_of ds)

-- ---- 17: 'Path text that no profile text continues: that byte's place, or the length if it breaks off'
pub record Refusal (s : List ℕ) (p : ℕ) : Type 0 where
  pub before : Continues (take p s)
  pub after : ((p < length s) × (Continues (take (suc p) s) → ⊥)) ⊎ ((p ≡ length s) × (IsProfile s → ⊥))

-- ---- 18: 'A number is too large: the place of the first digit of the first such'
-- the first number above the limit: it stands in the segment `here`, after the numbers `passed`
pub record Large (ds : List Drawn) : Type 0 where
  pub early : List Drawn
  pub here : Drawn
  pub late : List Drawn
  pub passed : List ℕ
  pub large : ℕ
  pub rest : List ℕ
  pub segments : ds ≡ early ++ here ∷ late
  pub numbers : numbers_of here ≡ passed ++ large ∷ rest
  pub early_small : Smalls early
  pub passed_small : Small passed
  pub over : limit_halves < large

-- segments, with the space after them
abbrev pub lead_text : List Drawn → List ℕ
lead_text [] = []
lead_text (d ∷ ds) = text_of (d ∷ ds) ++ 32 ∷ []

-- what stands before it: the segments before, its segment's letter, the numbers before, and a space
abbrev pub text_before : {ds : List Drawn} → Large ds → List ℕ
text_before l = (lead_text l.early ++ letter_of l.here ∷ []) ++ numbers_text l.passed ++ 32 ∷ []

abbrev pub place_of : {ds : List Drawn} → Large ds → ℕ
place_of l = length (text_before l)
