-- How a node stands: what the two tests say.
-- Assumes nothing.
use mathlib.Core.Path.{◌≡◌, refl, ap, sym, ◌∙◌}
use mathlib.Core.Bool.{Bool, true, false, not}
use mathlib.Core.Logic.{◌⊎◌, inl, inr}
use denote.Enum.Bare.{sameb}
use Rattle.graph.specs.contracts.reach.Seen.{the_type}
use Rattle.graph.specs.declared.reach.Seen.{Seen}
use Rattle.graph.specs.declared.reach.Seen.TheVariants.{Unseen, Marked, OnPath, Explored}
use Rattle.graph.specs.Cutting.{unseen?, on_path?}

pub unseen-true : (x : Seen) → unseen? x ≡ true → x ≡ Unseen
unseen-true Unseen e = refl
unseen-true Marked e = cc
unseen-true OnPath e = cc
unseen-true Explored e = cc

pub on_path-true : (x : Seen) → on_path? x ≡ true → x ≡ OnPath
on_path-true Unseen e = cc
on_path-true Marked e = cc
on_path-true OnPath e = refl
on_path-true Explored e = cc

-- a node on the path is not unseen
pub seen-on_path : (x : Seen) → on_path? x ≡ true → unseen? x ≡ false
seen-on_path Unseen e = cc
seen-on_path Marked e = refl
seen-on_path OnPath e = refl
seen-on_path Explored e = refl

-- the code's `==` and `!=`
same-unseen : (x : Seen) → sameb the_type x Unseen ≡ unseen? x
same-unseen Unseen = refl
same-unseen Marked = refl
same-unseen OnPath = refl
same-unseen Explored = refl

pub unseen-eq : (x : Seen) (r b : Bool) → r ≡ sameb the_type x Unseen → r ≡ b → unseen? x ≡ b
unseen-eq x r b e i = sym (same-unseen x) ∙ sym e ∙ i

not-not : (b : Bool) → not (not b) ≡ b
not-not true = refl
not-not false = refl

pub unseen-ne : (x : Seen) (r b : Bool) → r ≡ not (sameb the_type x Unseen) → r ≡ b → unseen? x ≡ not b
unseen-ne x r b e i = sym (same-unseen x) ∙ sym (not-not (sameb the_type x Unseen)) ∙ ap not (sym e ∙ i)

-- a node that is marked or explored is passed over
pub passed-over : (x : Seen) → (x ≡ Marked) ⊎ (x ≡ Explored) → (unseen? x ≡ false) × (on_path? x ≡ false)
passed-over x (inl e) = rw e (refl, refl)
passed-over x (inr e) = rw e (refl, refl)
