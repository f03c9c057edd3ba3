-- Charts and their signal orders, from the chart's bytes. A case has the chart in hexadecimal, both numbers of the refusal, 0 0 for none,
-- and the nodes: all in order, or a cycle's (20). The orders and refusals are those of an independent program (differential/signals.py).
-- Assumes nothing.
use Rattle.std.specs.Prelude.{ℕ, ◌≡◌, refl, Bool, true, List, [], ◌∷◌}
use Prim.Native.String.{String}
use Rattle.laws.specs.Bytes.{hex, all_of, same}
use Rattle.laws.specs.Each.{each}
use Rattle.walks.specs.Walks.{walk}
use Rattle.chart.specs.Chart.{chart}
use Rattle.graph.specs.Completion.{complete}
use Rattle.graph.specs.Shape.{shape_of}
use Rattle.refusals.specs.Refusals.{numbers_of}
use Rattle.signal.specs.Signal.{Signalled, ordered, cyclic, refusal, listed, back_from, signal}

data Case : Type 0 where
  is : String → ℕ → ℕ → List ℕ → Case

abbrev numbers : Signalled → List ℕ
numbers (ordered os) = 0 ∷ 0 ∷ os
numbers (cyclic cs) = 20 ∷ 0 ∷ cs
numbers (refusal why) = (numbers_of why).first ∷ (numbers_of why).second ∷ []

holds : Case → Bool
holds (is s a b ns) = same (numbers (signal (hex s))) (a ∷ b ∷ ns)

cases : List Case
cases =
    -- no node
    is "0100" 0 0 [] ∷
    is "" 0 0 [] ∷
    -- 0: snk[1]
    is "010206000b000000010100000000" 0 0 (0 ∷ 1 ∷ []) ∷
    -- 0: src[1]
    is "010206000b000100000100000000" 0 0 (1 ∷ 0 ∷ []) ∷
    -- 0: src[2]
    is "010308000d0010000100000200000000000000" 0 0 (1 ∷ 2 ∷ 0 ∷ []) ∷
    -- 1: snk[0, 2]; a queue would give 1 3 0 2
    is "01040a000d001400170000000000000200000200000000000000" 0 0 (1 ∷ 0 ∷ 2 ∷ 3 ∷ []) ∷
    -- 0: src[3]; 2: snk[1]
    is "01040a000f001200170001000003000000000000010100000000" 0 0 (2 ∷ 1 ∷ 3 ∷ 0 ∷ []) ∷
    -- 0→1 at both ends
    is "010206000b0000000101000100000000" 0 0 (0 ∷ 1 ∷ []) ∷
    -- 0→0
    is "010104000000010000" 20 0 (0 ∷ []) ∷
    -- 0→1→0
    is "010206000b0000000101000000010000" 20 0 (1 ∷ 0 ∷ []) ∷
    -- 0→1→2→1: a root reaches it
    is "010308000d001200000001010000000102000000010100" 20 0 (2 ∷ 1 ∷ []) ∷
    -- 1: src[2]; 2: src[3]; 3: src[1]
    is "01040a000d0012001700000000010000020001000003000100000100" 20 0 (3 ∷ 2 ∷ 1 ∷ []) ∷
    -- 0: snk[1, 2]; 1: snk[2]; 2: snk[0]; 3: snk[3]
    is "01040a00110016001b0000000201000200000001020000000100000000010300" 20 0 (2 ∷ 0 ∷ []) ∷
    -- 0: src[1]; 1: src[2]; 2: src[1]: node 0 is left, and in no cycle
    is "010308000d001200010000010001000002000100000100" 20 0 (2 ∷ 1 ∷ []) ∷
    -- 0: src[2, 1]; 1: src[0]; 2: src[0]: the first source, not the lowest
    is "010308000f0014000200000200010001000000000100000000" 20 0 (2 ∷ 0 ∷ []) ∷
    -- one node, 24 sinks to itself: 13 as a sheet
    is "01010400000018000000000000000000000000000000000000000000000000000000000000000000000000000000000000000000000000" 20 0 (0 ∷ []) ∷
    -- 0: snk[7]; 1: snk[1]: 12 goes before 20
    is "010206000b0000000107000000010100" 12 7 [] ∷
    -- one byte
    is "01" 1 0 [] ∷
    []

all_hold : all_of holds cases ≡ true
unfolding holds cases each walk chart complete shape_of listed back_from signal
all_hold = refl
