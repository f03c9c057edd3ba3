-- `columns::is_taken`: the test of the chain is that of the definition.
-- Assumes nothing.
use Rattle.std.proofs.Common.{ℕ, Bool, List, [], ◌∷◌, rules, tests, ◌≡◌, refl, ap, ◌∙◌, eqb, ◌&&◌, ◌||◌}
use Rattle.std.specs.List.{list_any, zip}
use Rattle.std.proofs.lemmas.Iterator.{YieldsList-from_slice, YieldsList-from_zip}
use Rattle.std.proofs.lemmas.Iterator.Consumers.{YieldsList-at}
use Rattle.std.proofs.lemmas.Iterator.Search.{any_from_yields_List}
use Rattle.grid.specs.Columns.{taken}
use Rattle.grid.proofs.columns.is_taken.Goals as goal

-- box p stands there
abbrev stands : ℕ → ℕ → ℕ × ℕ → Bool
stands r x p = eqb p.0 r && eqb p.1 x

taken-is : (r x : ℕ) (rows cols : List ℕ) → list_any (stands r x) (zip rows cols) ≡ taken rows cols r x
taken-is r x [] cols = refl
taken-is r x (y ∷ rows) [] = refl
taken-is r x (y ∷ rows) (c ∷ cols) = ap (λ b. (eqb y r && eqb c x) || b) (taken-is r x rows cols)

pub returns : goal.returns
returns c =
    let a = c.args in
    any_from_yields_List (stands a.r a.x) c.any.new.self _ _ c.any.ensures.ran
    (YieldsList-from_zip (YieldsList-at c.zip.ensures.first (YieldsList-from_slice a.rows.now c.iter.ensures.rest)) (YieldsList-from_slice a.cols.now cc))
    (λ p b q k. search (rules, tests))
    ∙ taken-is a.r a.x a.rows.now a.cols.now
