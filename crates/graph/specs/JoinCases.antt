-- Worked cases of document 02, L5: boards with leads to parts taken out, before and after cutting. Assumes nothing.
use Rattle.std.specs.Prelude.{ℕ, ◌≡◌, refl, List, [], ◌∷◌, length, replicate}
use Rattle.std.proofs.Math.Option.{none, some}
use Rattle.laws.specs.Each.{each}
use Rattle.chart.specs.Chart.{Part, End, Board}
use Rattle.chart.specs.Chart.{Node as GivenNode}
use Rattle.graph.specs.Graph.{Line, given, number, invalid, Edge, Node, no_text}
use Rattle.graph.specs.Completion.{complete}
use Rattle.graph.specs.Cutting.{reached, cutting}
use Rattle.graph.specs.Joining.{joined, uncut}
use Rattle.refusals.specs.Refusals.{numbers_of}
use Rattle.graph.specs.Graphed.{Graphed, ready, refusal, boxed}

-- a given end without a text, and one with a text's place and length
abbrev end : ℕ → End
end q = record { to = q; text = no_text }

abbrev named : ℕ → ℕ → ℕ → End
named q at len = record { to = q; text = record { at = at; len = len } }

abbrev block : List End → List Part → List End → GivenNode
block xs ls ys = record { sources = xs; lines = ls; sinks = ys }

abbrev node : List Edge → List Line → List Edge → Node
node xs ls ys = record { sources = xs; lines = ls; sinks = ys }

abbrev to : ℕ → ℕ → ℕ → Edge
to q at len = record { to = q; mark = none; text = record { at = at; len = len } }

abbrev plain : ℕ → Edge
plain q = to q 0 0

abbrev made : ℕ → ℕ → Edge
made q i = record { to = q; mark = some i; text = no_text }

abbrev off : ℕ → List Line
off t = invalid t ∷ []

-- 0: snk[200]: box 1's input has mark 0
one-sink : uncut (block [] [] (end 200 ∷ []) ∷ []) ≡ node [] [] (plain 1 ∷ []) ∷ node (made 0 0 ∷ []) (off 200) [] ∷ []
unfolding each complete joined uncut
one-sink = refl

-- 0: src[200]: the source stays unmarked
one_source : uncut (block (end 200 ∷ []) [] [] ∷ []) ≡ node (plain 1 ∷ []) [] [] ∷ node [] (off 200) (plain 0 ∷ []) ∷ []
unfolding each complete joined uncut
one_source = refl

-- 0: snk[1]: target 1 is the box's own number
own-number : uncut (block [] [] (end 1 ∷ []) ∷ []) ≡ node [] [] (plain 1 ∷ []) ∷ node (made 0 0 ∷ []) (off 1) [] ∷ []
unfolding each complete joined uncut
own-number = refl

-- 0: snk[2]; 1: snk[2]: two boxes, one for each lead, and the first is not taken for target 2
two-leads :
    uncut (block [] [] (end 2 ∷ []) ∷ block [] [] (end 2 ∷ []) ∷ [])
    ≡ node [] [] (plain 2 ∷ []) ∷ node [] [] (plain 3 ∷ []) ∷ node (made 0 0 ∷ []) (off 2) [] ∷ node (made 1 0 ∷ []) (off 2) [] ∷ []
unfolding each complete joined uncut
two-leads = refl

-- 0: src[200] snk[0]: the lead's box is a root, nothing is cut
rooted :
    (cutting (uncut (block (end 200 ∷ []) [] (end 0 ∷ []) ∷ []))).graph
    ≡ node (plain 1 ∷ made 0 0 ∷ []) [] (plain 0 ∷ []) ∷ node [] (off 200) (plain 0 ∷ []) ∷ []
unfolding each complete joined uncut reached cutting
rooted = refl

-- 0: snk[0, 200]: box 1 is the lead's, 2 and 3 the cut's
cut-after :
    boxed (cutting (uncut (block [] [] (end 0 ∷ end 200 ∷ []) ∷ [])))
    ≡ ready
    (record {
      graph =
          node (made 3 0 ∷ []) [] (plain 2 ∷ plain 1 ∷ []) ∷
          node (made 0 1 ∷ []) (off 200) [] ∷
          node (made 0 0 ∷ []) (number 0 ∷ []) [] ∷
          node [] (number 0 ∷ []) (plain 0 ∷ []) ∷ [];
      cuts = 1;
    })
unfolding each complete joined uncut reached cutting
cut-after = refl

-- 0: src[7] snk[9]: a node's sinks before its sources
sinks-first :
    uncut (block (end 7 ∷ []) [] (end 9 ∷ []) ∷ [])
    ≡ node (plain 2 ∷ []) [] (plain 1 ∷ []) ∷ node (made 0 0 ∷ []) (off 9) [] ∷ node [] (off 7) (plain 0 ∷ []) ∷ []
unfolding each complete joined uncut
sinks-first = refl

-- 0: src[255] lin['k'] snk[255]
both-255 :
    uncut (block (end 255 ∷ []) (record { at = 8; len = 1 } ∷ []) (end 255 ∷ []) ∷ [])
    ≡ node (plain 2 ∷ []) (given (record { at = 8; len = 1 }) ∷ []) (plain 1 ∷ []) ∷ node (made 0 0 ∷ []) (off 255) [] ∷ node [] (off 255) (plain 0 ∷ []) ∷ []
unfolding each complete joined uncut
both-255 = refl

-- 0: snk[1 'a', 200 'out', 1 'b']: texts stay on box 0; inputs of box 1 have marks 0 and 2, of box 2 mark 1
texts-stay :
    uncut (block [] [] (named 1 11 1 ∷ named 200 14 3 ∷ named 1 19 1 ∷ []) ∷ block [] [] [] ∷ [])
    ≡ node [] [] (to 1 11 1 ∷ to 2 14 3 ∷ to 1 19 1 ∷ []) ∷ node (made 0 0 ∷ made 0 2 ∷ []) [] [] ∷ node (made 0 1 ∷ []) (off 200) [] ∷ []
unfolding each complete joined uncut
texts-stay = refl

-- 0: snk[3, 1]; 1: src[2]; 2: snk[1]: target 3 is the first box's own number, and completion passes over it
mixed :
    uncut (block [] [] (end 3 ∷ end 1 ∷ []) ∷ block (end 2 ∷ []) [] [] ∷ block [] [] (end 1 ∷ []) ∷ [])
    ≡ node [] [] (plain 3 ∷ plain 1 ∷ []) ∷ node (plain 2 ∷ made 0 1 ∷ made 2 0 ∷ []) [] [] ∷ node [] [] (plain 1 ∷ []) ∷ node (made 0 0 ∷ []) (off 3) [] ∷ []
unfolding each complete joined uncut
mixed = refl

-- 0: src[1]; 1: snk[2]: node by node, not all sinks and then all sources
by-node :
    uncut (block (end 2 ∷ []) [] [] ∷ block [] [] (end 2 ∷ []) ∷ [])
    ≡ node (plain 2 ∷ []) [] [] ∷ node [] [] (plain 3 ∷ []) ∷ node [] (off 2) (plain 0 ∷ []) ∷ node (made 1 0 ∷ []) (off 2) [] ∷ []
unfolding each complete joined uncut
by-node = refl

-- boxes and cuts, or the refusal
pub data Size : Type 0 where
  size : ℕ → ℕ → Size
  refused : ℕ → ℕ → Size

size_of : Graphed → Size
size_of (ready d) = size (length d.graph) d.cuts
size_of (refusal why) = refused (numbers_of why).first (numbers_of why).second

-- one node, 47 sinks to 200: 48 boxes; 48: 13
leads_47 : size_of (boxed (cutting (uncut (block [] [] (replicate 47 (end 200)) ∷ [])))) ≡ size 48 0
unfolding each complete joined uncut reached cutting size_of
leads_47 = refl

leads_48 : size_of (boxed (cutting (uncut (block [] [] (replicate 48 (end 200)) ∷ [])))) ≡ refused 13 0
unfolding each complete joined uncut reached cutting size_of
leads_48 = refl

-- one node, a sink to itself and 45 to 200: 48 boxes, 1 cut; 46: 13
cut_45 : size_of (boxed (cutting (uncut (block [] [] (end 0 ∷ replicate 45 (end 200)) ∷ [])))) ≡ size 48 1
unfolding each complete joined uncut reached cutting size_of
cut_45 = refl

cut_46 : size_of (boxed (cutting (uncut (block [] [] (end 0 ∷ replicate 46 (end 200)) ∷ [])))) ≡ refused 13 0
unfolding each complete joined uncut reached cutting size_of
cut_46 = refl

-- 32 nodes, 16 leads: 48 boxes; 17: 13
abbrev bares : ℕ → Board
bares k = replicate k (block [] [] [])

leads_16 : size_of (boxed (cutting (uncut (block (replicate 6 (end 40)) [] (replicate 10 (end 255)) ∷ bares 31)))) ≡ size 48 0
unfolding each complete joined uncut reached cutting size_of
leads_16 = refl

leads_17 : size_of (boxed (cutting (uncut (block (replicate 6 (end 40)) [] (replicate 11 (end 255)) ∷ bares 31)))) ≡ refused 13 0
unfolding each complete joined uncut reached cutting size_of
leads_17 = refl
