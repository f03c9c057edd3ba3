-- Worked cases of document 01, from the chart's bytes. Assumes nothing.
use Rattle.std.specs.Prelude.{ℕ, ◌≡◌, refl, List, [], ◌∷◌, length, replicate}
use Rattle.std.proofs.Math.Option.{none, some}
use Rattle.chart.specs.Chart.{chart}
use Rattle.laws.specs.Each.{each}
use Rattle.graph.specs.Graph.{Line, given, number, Edge, Node, Graph}
use Rattle.graph.specs.Completion.{complete}
use Rattle.graph.specs.Joining.{joined, uncut}
use Rattle.graph.specs.Cutting.{cutting, reached}
use Rattle.chart.specs.declared.Setting.TheVariants.{Strict}
use Rattle.refusals.specs.Refusals.{numbers_of}
use Rattle.refusals.specs.declared.Refusal.TheVariants.{ManyBoxes, Outside}
use Rattle.graph.specs.Graphed.{Graphed, ready, refusal, graphed}

abbrev node : List Edge → List Line → List Edge → Node
node xs ls ys = record { sources = xs; lines = ls; sinks = ys }

-- an end without a mark, and one with a mark: the other node, the text's place and length
abbrev to : ℕ → ℕ → ℕ → Edge
to q at len = record { to = q; mark = none; text = record { at = at; len = len } }

abbrev from : ℕ → ℕ → ℕ → ℕ → Edge
from q i at len = record { to = q; mark = some i; text = record { at = at; len = len } }

-- a sink, or a source, that completion or a cut made
abbrev plain : ℕ → Edge
plain q = to q 0 0

abbrev made : ℕ → ℕ → Edge
made q i = from q i 0 0

abbrev drawing : Graph → ℕ → Graphed
drawing g k = ready (record { graph = g; cuts = k })

-- boxes and cuts, or the refusal
pub data Size : Type 0 where
  size : ℕ → ℕ → Size
  refused : ℕ → ℕ → Size

size_of : Graphed → Size
size_of (ready d) = size (length d.graph) d.cuts
size_of (refusal why) = refused (numbers_of why).first (numbers_of why).second

-- 0→0: 3 boxes, 1 cut
self :
    graphed Strict (1 ∷ 1 ∷ 4 ∷ 0 ∷ 0 ∷ 0 ∷ 1 ∷ 0 ∷ 0 ∷ [])
    ≡ drawing
    (node (made 2 0 ∷ []) [] (to 1 9 0 ∷ []) ∷
    node (made 0 0 ∷ []) (number 0 ∷ []) [] ∷
    node [] (number 0 ∷ []) (plain 0 ∷ []) ∷ []) 1
unfolding each chart complete joined uncut cutting reached graphed
self = refl

-- 0→1→0: 4 boxes, 1 cut
two :
    graphed Strict (1 ∷ 2 ∷ 6 ∷ 0 ∷ 11 ∷ 0 ∷ 0 ∷ 0 ∷ 1 ∷ 1 ∷ 0 ∷ 0 ∷ 0 ∷ 1 ∷ 0 ∷ 0 ∷ [])
    ≡ drawing
    (node (made 3 0 ∷ []) [] (to 1 11 0 ∷ []) ∷
    node (made 0 0 ∷ []) [] (to 2 16 0 ∷ []) ∷
    node (made 1 0 ∷ []) (number 0 ∷ []) [] ∷
    node [] (number 0 ∷ []) (plain 0 ∷ []) ∷ []) 1
unfolding each chart complete joined uncut cutting reached graphed
two = refl

-- 0→1→2→1: 3 boxes, no cut
three :
    graphed Strict (1 ∷ 3 ∷ 8 ∷ 0 ∷ 13 ∷ 0 ∷ 18 ∷ 0 ∷ 0 ∷ 0 ∷ 1 ∷ 1 ∷ 0 ∷ 0 ∷ 0 ∷ 1 ∷ 2 ∷ 0 ∷ 0 ∷ 0 ∷ 1 ∷ 1 ∷ 0 ∷ [])
    ≡ drawing
    (node [] [] (to 1 13 0 ∷ []) ∷
    node (made 0 0 ∷ made 2 0 ∷ []) [] (to 2 18 0 ∷ []) ∷
    node (made 1 0 ∷ []) [] (to 1 23 0 ∷ []) ∷ []) 0
unfolding each chart complete joined uncut cutting reached graphed
three = refl

-- 0→1 given at both ends: node 1 has 2 sources
both :
    graphed Strict (1 ∷ 2 ∷ 6 ∷ 0 ∷ 11 ∷ 0 ∷ 0 ∷ 0 ∷ 1 ∷ 1 ∷ 0 ∷ 1 ∷ 0 ∷ 0 ∷ 0 ∷ 0 ∷ [])
    ≡ drawing
    (node [] [] (to 1 11 0 ∷ []) ∷
    node (to 0 16 0 ∷ made 0 0 ∷ []) [] [] ∷ []) 0
unfolding each chart complete joined uncut cutting reached graphed
both = refl

-- 0→0 with a text, and a source from 1 with a text, which gains its sink: texts and lines stay
texts :
    graphed Strict (1 ∷ 2 ∷ 6 ∷ 0 ∷ 17 ∷ 0 ∷ 1 ∷ 1 ∷ 1 ∷ 1 ∷ 1 ∷ 97 ∷ 1 ∷ 108 ∷ 0 ∷ 1 ∷ 98 ∷ 0 ∷ 2 ∷ 0 ∷ 1 ∷ 109 ∷ 2 ∷ 110 ∷ 110 ∷ [])
    ≡ drawing
    (node (from 1 0 11 1 ∷ made 0 0 ∷ []) (given (record { at = 13; len = 1 }) ∷ []) (to 0 16 1 ∷ []) ∷
    node [] (given (record { at = 21; len = 1 }) ∷ given (record { at = 23; len = 2 }) ∷ []) (plain 0 ∷ []) ∷ []) 0
unfolding each chart complete joined uncut cutting reached graphed
texts = refl

-- a cycle that a root reaches stays
rooted :
    graphed Strict (1 ∷ 2 ∷ 6 ∷ 0 ∷ 11 ∷ 0 ∷ 0 ∷ 0 ∷ 1 ∷ 0 ∷ 0 ∷ 0 ∷ 0 ∷ 1 ∷ 0 ∷ 0 ∷ [])
    ≡ drawing
    (node (made 0 0 ∷ made 1 0 ∷ []) [] (to 0 11 0 ∷ []) ∷
    node [] [] (to 0 16 0 ∷ []) ∷ []) 0
unfolding each chart complete joined uncut cutting reached graphed
rooted = refl

-- two cuts of one pair: the second finds no source left to turn
turned :
    graphed Strict (1 ∷ 1 ∷ 4 ∷ 0 ∷ 0 ∷ 0 ∷ 2 ∷ 0 ∷ 0 ∷ 0 ∷ 0 ∷ [])
    ≡ drawing
    (node (made 2 0 ∷ made 2 0 ∷ []) [] (to 1 9 0 ∷ to 3 11 0 ∷ []) ∷
    node (made 0 0 ∷ []) (number 0 ∷ []) [] ∷
    node [] (number 0 ∷ []) (plain 0 ∷ []) ∷
    node (made 0 1 ∷ []) (number 0 ∷ []) [] ∷
    node [] (number 0 ∷ []) (plain 0 ∷ []) ∷ []) 2
unfolding each chart complete joined uncut cutting reached graphed
turned = refl

-- a sink to a marked node is passed over
passed :
    graphed Strict (1 ∷ 3 ∷ 8 ∷ 0 ∷ 11 ∷ 0 ∷ 16 ∷ 0 ∷ 0 ∷ 0 ∷ 0 ∷ 0 ∷ 0 ∷ 1 ∷ 1 ∷ 0 ∷ 2 ∷ 0 ∷ 1 ∷ 1 ∷ 0 ∷ 0 ∷ 0 ∷ 2 ∷ 0 ∷ [])
    ≡ drawing
    (node [] [] (plain 2 ∷ []) ∷
    node (made 4 0 ∷ []) [] (to 3 16 0 ∷ plain 2 ∷ []) ∷
    node (from 1 1 21 0 ∷ from 0 0 23 0 ∷ made 2 0 ∷ []) [] (to 2 25 0 ∷ []) ∷
    node (made 1 0 ∷ []) (number 1 ∷ []) [] ∷
    node [] (number 1 ∷ []) (plain 1 ∷ []) ∷ []) 1
unfolding each chart complete joined uncut cutting reached graphed
passed = refl

-- one node, 23 sinks to itself: 47 boxes, 23 cuts; 24: refusal 13
many : size_of (graphed Strict (1 ∷ 1 ∷ 4 ∷ 0 ∷ 0 ∷ 0 ∷ 23 ∷ replicate 46 0)) ≡ size 47 23
unfolding each chart complete joined uncut cutting reached graphed size_of
many = refl

one_more : graphed Strict (1 ∷ 1 ∷ 4 ∷ 0 ∷ 0 ∷ 0 ∷ 24 ∷ replicate 48 0) ≡ refusal ManyBoxes
unfolding each chart complete joined uncut cutting reached graphed
one_more = refl

-- a chart's refusal stays
outside : graphed Strict (1 ∷ 2 ∷ 6 ∷ 0 ∷ 11 ∷ 0 ∷ 1 ∷ 0 ∷ 0 ∷ 5 ∷ 0 ∷ 0 ∷ 0 ∷ 1 ∷ 6 ∷ 0 ∷ []) ≡ refusal (Outside 5)
unfolding each chart complete joined uncut cutting reached graphed
outside = refl

empty : graphed Strict (1 ∷ 0 ∷ []) ≡ drawing [] 0
unfolding each chart complete joined uncut cutting reached graphed
empty = refl
