-- The pair sums as the code holds them: a table of 1,128 numbers, each both sums of a pair, row by row; and the
-- codes, one node against another. Not document 01's words: `Weights` and `Chains` have those.
-- Assumes nothing.
use Rattle.std.specs.Prelude.{ℕ, zero, suc, ◌+◌, ◌-◌, ◌*◌, ◌/◌, ◌%◌, ◌≤◌, ◌<◌, Bool, true, false, cond, ◌||◌, ◌≡◌, List, [], map, eqb, ltb, length, get_or, set}
use Rattle.graph.specs.Shape.{Shape}
use Rattle.order.specs.Against.{Against, all}
use Rattle.order.specs.Claims.{Aimed}
use Rattle.order.specs.declared.codes.Pair.{Pair}
use Rattle.order.specs.declared.keys.Key.{Key}
use Rattle.order.specs.declared.weights.Round.{Round}
use Rattle.order.specs.declared.weights.Round.TheVariants.{First, Second}
use Rattle.order.specs.code.Keys.{key, placed_key}
use Rattle.order.specs.Weights.{Table, before_of, after_of, weights}

-- how far on the row of a stands, and the place of the pair of a and b, a < b
abbrev pub row_at : ℕ → ℕ
row_at a = a * (93 - a) / 2

abbrev pub pair_at : ℕ → ℕ → ℕ
pair_at a b = row_at a + b - 1

-- one node against another
abbrev pub code_of : Against → Pair
code_of c = record { first = c.first; second = c.second }

abbrev pub no_pair : Pair
no_pair = record { first = 0; second = 0 }

-- both nodes of each code are below n
pub record Coded (n : ℕ) (cs : List Pair) : Type 0 where
  pub few : n ≤ 48
  pub first : (k : ℕ) → k < length cs → (get_or cs k no_pair).first < n
  pub second : (k : ℕ) → k < length cs → (get_or cs k no_pair).second < n

-- both sums of a pair as one number, so that one addition adds both: x before and y after
abbrev pub sums_of : ℕ → ℕ → ℕ
sums_of x y = x + 65536 * y

-- the key of the pair of a and b with the sums v
abbrev pub turn_key : ℕ → ℕ → ℕ → Key
turn_key v a b = cond (ltb (v % 65536) (v / 65536)) (key (v % 65536) b a) (key (v / 65536) a b)

-- the number that the table has for the pair of a and b
abbrev pub at : List ℕ → ℕ → ℕ → ℕ
at l a b = get_or l (pair_at a b) 0

-- the key of p against q
abbrev pub key_at : List ℕ → ℕ → ℕ → Key
key_at l p q = cond (eqb p q) (turn_key 0 p q) (cond (ltb p q) (turn_key (at l p q) p q) (turn_key (at l q p) q p))

-- the keys of the first k codes, each placed among those before it
unfoldable pub keys_after : List Pair → List ℕ → ℕ → List Key
keys_after cs l zero = []
keys_after cs l (suc k) = placed_key (key_at l (get_or cs k no_pair).first (get_or cs k no_pair).second) (keys_after cs l k)

-- v more for the pair of a and b
abbrev pub raised : List ℕ → ℕ → ℕ → ℕ → List ℕ
raised l a b v = set l (pair_at a b) (at l a b + v)

-- p against q: 1 more before or after for their pair, nothing for equal nodes
abbrev pub count_of : List ℕ → ℕ → ℕ → List ℕ
count_of l p q = cond (ltb p q) (raised l p q 1) (cond (ltb q p) (raised l q p 65536) l)

-- the table after k codes
unfoldable pub tallied : List Pair → List ℕ → ℕ → List ℕ
tallied cs l zero = l
tallied cs l (suc k) = count_of (tallied cs l k) (get_or cs k no_pair).first (get_or cs k no_pair).second

-- What a pair with the sums x and one with y add to a third; nothing if one does not stand.
abbrev pub leg_at : ℕ → ℕ → ℕ
leg_at x y = cond (ltb 0 x) (cond (ltb 0 y) (x + y) 0) 0

-- the way from a over b to c
abbrev pub leg_of : List ℕ → ℕ → ℕ → ℕ → ℕ
leg_of l a c b = leg_at (at l a b) (at l b c)

-- the sum of f at the m numbers after a
unfoldable pub sum_up : (ℕ → ℕ) → ℕ → ℕ → ℕ
sum_up f a zero = 0
sum_up f a (suc m) = sum_up f a m + f (suc a + m)

-- all ways from a to c over nodes after k
abbrev pub ways_of : List ℕ → ℕ → ℕ → ℕ → ℕ
ways_of l a c k = sum_up (leg_of l a c) k (c - suc k)

-- whether the pair with the sums v takes part in a round in which missing pairs are made, or not
abbrev pub takes : Bool → ℕ → Bool
takes make v = make || ltb 0 v

-- whether missing pairs are made in a round
abbrev pub makes : Round → Bool
makes First = true
makes Second = false

-- what the way over b adds to the pair of a and c, and what the pair has with all ways over nodes after k
abbrev pub way_of : Bool → List ℕ → ℕ → ℕ → ℕ → ℕ
way_of make l a c b = cond (takes make (at l a c)) (leg_of l a c b) 0

abbrev pub part_at : Bool → List ℕ → ℕ → ℕ → ℕ → ℕ
part_at make l a c k = at l a c + cond (takes make (at l a c)) (ways_of l a c k) 0

-- the pair of a and c after a round
abbrev pub round_at : Bool → List ℕ → ℕ → ℕ → ℕ
round_at make l a c = part_at make l a c a

-- r is t with the ways from a over b to nodes below n
pub record Over (make : Bool) (n a b : ℕ) (t r : List ℕ) : Type 0 where
  pub long : length r ≡ length t
  pub more : (c : ℕ) → b < c → c < n → at r a c ≡ at t a c + way_of make t a c b
  pub same : (x y : ℕ) → x < y → y < 48 → ((x ≡ a) × (b < y) × (y < n) → ⊥) → at r x y ≡ at t x y

-- r is t with all ways from a over nodes after k; with the rows of the first a nodes done
pub record Row (make : Bool) (n a k : ℕ) (t r : List ℕ) : Type 0 where
  pub long : length r ≡ length t
  pub did : (c : ℕ) → a < c → c < n → at r a c ≡ part_at make t a c k
  pub same : (x y : ℕ) → x < y → y < 48 → (x ≡ a → ⊥) → at r x y ≡ at t x y

pub record Rows (make : Bool) (n a : ℕ) (t r : List ℕ) : Type 0 where
  pub long : length r ≡ length t
  pub did : (x y : ℕ) → x < y → y < n → x < a → at r x y ≡ round_at make t x y
  pub same : (x y : ℕ) → x < y → y < n → a ≤ x → at r x y ≡ at t x y

-- all sums fit: with the ways from a over b, of a row, of a round
pub record OverFits (make : Bool) (n a b : ℕ) (t : List ℕ) : Type 0 where
  pub long : length t ≡ 1128
  pub few : n ≤ 48
  pub rising : a < b
  pub inside : b < n
  pub fits : (c : ℕ) → b < c → c < n → at t a c + way_of make t a c b < 4294967296

pub record RowFits (make : Bool) (n a : ℕ) (t : List ℕ) : Type 0 where
  pub long : length t ≡ 1128
  pub few : n ≤ 48
  pub inside : a < n
  pub fits : (c : ℕ) → a < c → c < n → round_at make t a c < 4294967296

pub record RoundFits (make : Bool) (n : ℕ) (t : List ℕ) : Type 0 where
  pub long : length t ≡ 1128
  pub few : n ≤ 48
  pub fits : (a c : ℕ) → a < c → c < n → round_at make t a c < 4294967296

-- the codes are those of a graph of at most 48 nodes, in order
pub record Codes (g : Shape) (xs : List Pair) : Type 0 where
  pub few : length g ≤ 48
  pub aimed : Aimed (length g) g
  pub room : length xs ≤ 352
  pub same : xs ≡ map code_of (all g)

-- the codes are those of some graph of n nodes
pub record Charted (xs : List Pair) (n : ℕ) : Type 0 where
  pub graph : Shape
  pub size : length graph ≡ n
  pub codes : Codes graph xs

-- the table s has the sums of the pair table t of n nodes
abbrev pub Hold : ℕ → Table → List ℕ → Type 0
Hold n t s = (a b : ℕ) → a < b → b < n → at s a b ≡ sums_of (before_of a b t) (after_of a b t)

-- s has the weights of each graph of n nodes whose codes these are
abbrev pub Weighed : List Pair → ℕ → List ℕ → Type 0
Weighed xs n s = (g : Shape) → Codes g xs → length g ≡ n → Hold (length g) (weights g) s
