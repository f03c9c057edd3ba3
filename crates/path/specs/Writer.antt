-- What a writer leaves in the buffer that it is lent, and what it answers.
use Rattle.std.specs.Prelude.{◌≡◌, cond, List, ℕ, ◌+◌, leb, length, Result, Ok, Err}
use Rattle.refusals.specs.declared.TextRefusal.{TextRefusal}
use Rattle.refusals.specs.declared.TextRefusal.TheVariants.{ShortBuffer}
use Rattle.std.proofs.lemmas.List.Edits.{sets}

-- 'Buffer bytes past the text keep their content': the bytes t from place `at` on, all others as they were (`put-parts` of proofs/Puts.antt)
abbrev pub put : List ℕ → ℕ → List ℕ → List ℕ
put buf at t = sets buf at t

-- t is put at `at`: `out` is what is left in the buffer, and `next` the place after t
pub record IsPut (buf : List ℕ) (at : ℕ) (t out : List ℕ) (next : ℕ) : Type 0 where
  pub bytes : out ≡ put buf at t
  pub after : next ≡ at + length t

-- where t does not fit, nothing is written
abbrev pub placed : List ℕ → ℕ → List ℕ → List ℕ
placed buf at t = cond (leb (at + length t) (length buf)) (put buf at t) buf

-- 16: 'The text buffer is too short: the length needed' (from the place on)
abbrev pub answered : List ℕ → ℕ → List ℕ → Result ℕ TextRefusal
answered buf at t = cond (leb (at + length t) (length buf)) (Ok (length t)) (Err (ShortBuffer (length t)))
