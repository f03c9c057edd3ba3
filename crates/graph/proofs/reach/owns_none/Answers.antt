-- `reach::owns_none`: no record is one of p.
-- Assumes nothing.
use mathlib.Core.Path.{◌≡◌, refl, ◌∙◌}
use mathlib.Core.Bool.{Bool, true, false, not, ◌&&◌}
use mathlib.Core.List.{List, [], ◌∷◌}
use Prim.Native.Nat.{ℕ}
use lib.Dec.{eqb}
use Rattle.std.proofs.Common.{rules, tests}
use Rattle.std.specs.List.{list_all}
use Rattle.std.proofs.lemmas.Iterator.{YieldsList-from_slice}
use Rattle.std.proofs.lemmas.Iterator.Search.{all_from_yields_List}
use Rattle.graph.specs.declared.Item.{Item}
use Rattle.graph.specs.Graph.{none?}
use Rattle.laws.specs.Lists.{keep}
use Rattle.graph.specs.code.Tables.{owned, edge_of}
use Rattle.graph.proofs.reach.owns_none.Goals as goal

none-owned : (p : ℕ) (xs : List Item) → list_all (λ (e : Item). not (eqb e.owner p)) xs ≡ none? (owned p xs)
none-owned p [] = refl
none-owned p (x ∷ xs) = go (eqb x.owner p) (none-owned p xs)
  where
    go : (b : Bool) → list_all (λ (e : Item). not (eqb e.owner p)) xs ≡ none? (owned p xs) → (not b && list_all (λ (e : Item). not (eqb e.owner p)) xs) ≡ none? (keep b (edge_of x) (owned p xs))
    go true i = refl
    go false i = i

pub returns : goal.returns
returns c =
    all_from_yields_List (λ (e : Item). not (eqb e.owner c.args.p)) _ _ _ c.all.ensures.ran (YieldsList-from_slice c.args.items.now cc) (λ x b q k. search (rules, tests))
    ∙ none-owned c.args.p c.args.items.now
