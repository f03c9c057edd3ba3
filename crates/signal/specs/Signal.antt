-- Document 02, L2: the signal order of n nodes, given the sources of each: the lowest free number next; or a cycle.
-- Assumes nothing.
use Rattle.std.specs.Prelude.{ℕ, zero, suc, ◌-◌, Bool, cond, not, ◌&&◌, List, [], ◌∷◌, ◌++◌, eqb, ltb, length}
use Rattle.laws.specs.Bytes.{all_of}
use Rattle.laws.specs.Each.{each}
use Rattle.laws.specs.Lists.{has, one}
use Rattle.walks.specs.Walks.{walk}
use Rattle.refusals.specs.declared.Refusal.{Refusal}
use Rattle.chart.specs.declared.Setting.TheVariants.{Strict}
use Rattle.chart.specs.Chart.{Board, Reading, ready as accepted, refusal as refused, chart}
use Rattle.graph.specs.Graph.{given_graph}
use Rattle.graph.specs.Completion.{complete}
use Rattle.graph.specs.Shape.{Shape, incidents_at, shape_of}

-- the sources of each node
abbrev pub Sources : Type 0
Sources = ℕ → List ℕ

-- p is left: it is not listed
abbrev pub is_left : List ℕ → ℕ → Bool
is_left done p = not (has p done)

-- p is left, and each of its sources is listed
abbrev pub free : Sources → List ℕ → ℕ → Bool
free src done p = is_left done p && all_of (λ q. has q done) (src p)

-- the first of k numbers from p on that passes the test; the number after them where none does
abbrev pub lowest : ℕ → (ℕ → Bool) → ℕ → ℕ
lowest zero test p = p
lowest (suc k) test p = cond (test p) p (lowest k test (suc p))

-- p after the others, if it is one of n
abbrev pub put : ℕ → List ℕ → ℕ → List ℕ
put n done p = cond (ltb p n) (done ++ one p) done

-- k times 'the lowest free number next'
unfoldable pub listed : ℕ → Sources → ℕ → List ℕ
unfolding each
listed n src k = each [] (λ i done. put n done (lowest n (free src done) 0)) k

-- the first of them that is not listed
abbrev pub first_out : List ℕ → List ℕ → ℕ
first_out done [] = 0
first_out done (q ∷ qs) = cond (has q done) (first_out done qs) q

-- the first of p's sources that is not listed
abbrev pub behind : Sources → List ℕ → ℕ → ℕ
behind src done p = first_out done (src p)

-- where a path, last reached first, goes on
abbrev pub back : Sources → List ℕ → List ℕ → ℕ
back src done [] = 0
back src done (p ∷ path) = behind src done p

-- from the lowest node left, back to sources that are left, until a node comes again
unfoldable pub back_from : ℕ → Sources → List ℕ → List ℕ
unfolding walk
back_from n src done = walk (back src done) (n - 1) (one (lowest n (is_left done) 0))

-- an order, a cycle (refusal 20), or another refusal
pub data Signalled : Type 0 where
  ordered : List ℕ → Signalled
  cyclic : List ℕ → Signalled
  refusal : Refusal → Signalled

-- done lists all n nodes, or a cycle is shown
abbrev pub order_or_cycle : ℕ → Sources → List ℕ → Signalled
order_or_cycle n src done = cond (eqb (length done) n) (ordered done) (cyclic (back_from n src done))

abbrev pub signalled_by : ℕ → Sources → Signalled
signalled_by n src = order_or_cycle n src (listed n src n)

abbrev pub sources_in : Shape → Sources
sources_in g p = (incidents_at g p).sources

abbrev pub signalled : Shape → Signalled
signalled g = signalled_by (length g) (sources_in g)

-- the completed, uncut graph of a board
abbrev pub completed_of : Board → Shape
completed_of ps = shape_of (complete (given_graph ps))

-- a refused chart stays refused; an accepted one is completed, and not cut
abbrev pub signals : Reading → Signalled
signals (accepted ps) = signalled (completed_of ps)
signals (refused why) = refusal why

-- the signal order of a chart's bytes, or the first of the refusals 1 to 12 and 20. Document 02, L5: 'the order of L2 relied on the old default and now use strict'
unfoldable pub signal : List ℕ → Signalled
unfolding chart complete shape_of listed back_from
signal s = signals (chart Strict s)
