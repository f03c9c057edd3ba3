-- Document 01, module 4: pair weights.
-- Assumes nothing.
use Rattle.std.specs.Prelude.{ℕ, ◌+◌, Bool, true, false, cond, ◌&&◌, ◌||◌, List, [], ◌∷◌, ◌++◌, map, eqb, leb, ltb}
use Rattle.graph.specs.Shape.{Shape}
use Rattle.order.specs.Against.{Against, all}

-- "a pair is kept smaller first with (before, after) sums and a flag"
pub record Pair : Type 0 where
  pub smaller : ℕ
  pub larger : ℕ
  pub before : ℕ
  pub after : ℕ
  pub flag : Bool

-- a pair table in order of insertion
abbrev pub Table : Type 0
Table = List Pair

-- the pair is that of a and b
abbrev pub of : ℕ → ℕ → Pair → Bool
of a b e = eqb e.smaller a && eqb e.larger b

-- the pair of a and b stands in the table
abbrev pub stands : ℕ → ℕ → Table → Bool
stands a b [] = false
stands a b (e ∷ es) = of a b e || stands a b es

-- the pair with x more before and y more after
abbrev pub more : ℕ → ℕ → Pair → Pair
more x y e = record { smaller = e.smaller; larger = e.larger; before = e.before + x; after = e.after + y; flag = e.flag }

-- the table with x more before and y more after at the pair of a and b
abbrev pub raise : ℕ → ℕ → ℕ → ℕ → Table → Table
raise a b x y [] = []
raise a b x y (e ∷ es) = cond (of a b e) (more x y e) e ∷ raise a b x y es

-- An addition: what the pair of a smaller and a larger node gains, and whether it is made if it is missing, with which flag.
-- "A missing pair is made only if ..; else the addition is dropped."
abbrev pub add : Bool → Bool → ℕ → ℕ → ℕ → ℕ → Table → Table
add make flag a b x y t =
    cond (stands a b t) (raise a b x y t)
    (cond make (t ++ (record { smaller = a; larger = b; before = x; after = y; flag = flag } ∷ [])) t)

-- "earlier against later, 1", "equal nodes add nothing", the flag "true at first"
abbrev pub count : Table → Against → Table
count t c =
    cond (ltb c.first c.second) (add true true c.first c.second 1 0 t)
    (cond (ltb c.second c.first) (add true true c.second c.first 0 1 t) t)

abbrev pub counted : Table → List Against → Table
counted t [] = t
counted t (c ∷ cs) = counted (count t c) cs

-- "a region is all pairs with a given smaller member, by rising larger member"
abbrev pub placed : Pair → Table → Table
placed e [] = e ∷ []
placed e (f ∷ fs) = cond (leb e.larger f.larger) (e ∷ f ∷ fs) (f ∷ placed e fs)

abbrev pub region : ℕ → Table → Table
region b [] = []
region b (e ∷ es) = cond (eqb e.smaller b) (placed e (region b es)) (region b es)

-- "add both sums to (a, c)", from the pairs (a, b) and (b, c): the flag is whether both flags are true
abbrev pub both : Pair → Pair → Pair
both e f =
    record {
      smaller = e.smaller;
      larger = f.larger;
      before = e.before + f.before;
      after = e.after + f.after;
      flag = e.flag && f.flag;
    }

-- "A missing pair is made only if both flags are true, with flag false"
abbrev pub apply : Table → Pair → Table
apply t d = add d.flag false d.smaller d.larger d.before d.after t

abbrev pub applied : Table → List Pair → Table
applied t [] = t
applied t (d ∷ ds) = applied (apply t d) ds

-- "for each pair (a, b), each region pair (b, c)": es are the pairs (a, b), t the table when the round began
abbrev pub additions : Table → List Pair → List Pair
additions t [] = []
additions t (e ∷ es) = map (both e) (region e.larger t) ++ additions t es

-- "all read as they were when the round began, applied in that order"
unfoldable pub round : Table → Table
round t = applied t (additions t t)

-- the table before the rounds
unfoldable pub first : Shape → Table
unfolding all
first g = counted [] (all g)

-- "Two rounds"
unfoldable pub weights : Shape → Table
unfolding round first
weights g = round (round (first g))

-- the sums of the pair of a and b, 0 where no pair stands
abbrev pub before_of : ℕ → ℕ → Table → ℕ
before_of a b [] = 0
before_of a b (e ∷ es) = cond (of a b e) e.before (before_of a b es)

abbrev pub after_of : ℕ → ℕ → Table → ℕ
after_of a b [] = 0
after_of a b (e ∷ es) = cond (of a b e) e.after (after_of a b es)
