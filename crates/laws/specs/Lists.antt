-- Lists: each of them, whether and where a number is in one, a table of a function, the records that a node owns, an array that holds a list, a path in an array.
-- Assumes nothing.
use Rattle.std.specs.Prelude.{ℕ, zero, suc, Bool, true, false, cond, ◌||◌, List, [], ◌∷◌, ◌++◌, map, eqb, get_or}

-- P holds of each of the list
abbrev pub All : {A : Type 0} → (A → Type 0) → List A → Type 0
All P [] = Unit {0}
All P (x ∷ xs) = P x × All P xs

-- p is in the list
abbrev pub has : ℕ → List ℕ → Bool
has p [] = false
has p (q ∷ qs) = eqb q p || has p qs

-- where p stands in the list, the length where it is not in it
abbrev pub place_of : ℕ → List ℕ → ℕ
place_of p [] = 0
place_of p (q ∷ qs) = cond (eqb q p) 0 (suc (place_of p qs))

abbrev pub one : {A : Type 0} → A → List A
one x = x ∷ []

-- f at k numbers, the first of them p
abbrev pub tabulate : {A : Type 0} → (ℕ → A) → ℕ → ℕ → List A
tabulate f p zero = []
tabulate f p (suc k) = f p ∷ tabulate f (suc p) k

-- x before xs where b
abbrev pub keep : {A : Type 0} → Bool → A → List A → List A
keep true x xs = x ∷ xs
keep false x xs = xs

-- the values of the records that p owns, in order
abbrev pub owned_by : {R W : Type 0} → (R → ℕ) → (R → W) → ℕ → List R → List W
owned_by owner value p [] = []
owned_by owner value p (r ∷ rs) = keep (eqb (owner r) p) (value r) (owned_by owner value p rs)

-- the lists one after the other
abbrev pub joined : {A : Type 0} → List (List A) → List A
joined [] = []
joined (xs ∷ xss) = xs ++ joined xss

-- the records of a list of nodes, node after node, the first of them number p: `make p` is the record of a value of node p
abbrev pub flat : {N R W : Type 0} → (ℕ → W → R) → (N → List W) → ℕ → List N → List R
flat make list p [] = []
flat make list p (q ∷ qs) = map (make p) (list q) ++ flat make list (suc p) qs

-- an array of m that holds the list from its start, and z past it
abbrev pub padded : {A : Type 0} → ℕ → A → List A → List A
padded zero z xs = []
padded (suc m) z [] = z ∷ padded m z []
padded (suc m) z (x ∷ xs) = x ∷ padded m z xs

-- the first d of an array, the last first
abbrev pub stack_of : {A : Type 0} → A → List A → ℕ → List A
stack_of z fs zero = []
stack_of z fs (suc d) = get_or fs d z ∷ stack_of z fs d

-- one more where b
abbrev pub tally : Bool → ℕ → ℕ
tally true k = suc k
tally false k = k
