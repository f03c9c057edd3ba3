-- Charts and what they are read as. A case has the chart in hexadecimal and document 01's two numbers, 0 0 where it is accepted, in both settings;
-- or it has the second number of 12, in the strict setting alone;
-- the answers are those of an independent reader written from documents 01 and 02 (docs/DIFFERENCES.md).
-- Assumes nothing.
use Rattle.std.specs.Prelude.{ℕ, ◌≡◌, refl, Bool, true, ◌&&◌, List, [], ◌∷◌, eqb}
use Prim.Native.String.{String}
use Rattle.chart.specs.declared.Setting.TheVariants.{Default, Strict}
use Rattle.laws.specs.Bytes.{hex, all_of}
use Rattle.refusals.specs.Refusals.{numbers_of}
use Rattle.chart.specs.Chart.{Part, Reading, ready, refusal, chart}

data Case : Type 0 where
  is : String → ℕ → ℕ → Case
  strict : String → ℕ → Case

-- both numbers of the answer are these; an accepted chart's are 0
abbrev numbered : Reading → ℕ → ℕ → Bool
numbered (ready ps) a b = eqb a 0 && eqb b 0
numbered (refusal why) a b = eqb (numbers_of why).first a && eqb (numbers_of why).second b

holds : Case → Bool
unfolding chart
holds (is s a b) = numbered (chart Strict (hex s)) a b && numbered (chart Default (hex s)) a b
holds (strict s b) = numbered (chart Strict (hex s)) 12 b && numbered (chart Default (hex s)) 0 0

cases : List Case
cases =
    -- document 02, L1: no byte is no node
    is "" 0 0 ∷
    -- 1: one byte
    is "01" 1 0 ∷
    -- 1 before 2
    is "00" 1 0 ∷
    is "ff" 1 0 ∷
    -- 2
    is "0200" 2 0 ∷
    -- 2 before 3
    is "0021" 2 0 ∷
    -- 3
    is "012100000000000000000000000000000000000000000000000000000000000000000000000000000000000000000000000000000000000000000000000000000000000000000000000000000000000000000000000000000000000000000000000000000000" 3 0 ∷
    -- 3 before 4
    is "01ff" 3 0 ∷
    -- 4
    is "0101" 4 0 ∷
    -- 4: half an entry
    is "010104" 4 0 ∷
    -- 4 before 5
    is "010105" 4 0 ∷
    -- 5
    is "01010500000000" 5 0 ∷
    -- 5: the high byte
    is "01010401000000" 5 0 ∷
    -- 5 before 6
    is "01010500" 5 0 ∷
    -- 5: at body 1
    is "010206000a00000000000000" 5 0 ∷
    -- 6: inside a count
    is "01010400" 6 0 ∷
    -- 6: inside a count
    is "0101040000" 6 0 ∷
    -- 6: inside a count
    is "010104000000" 6 0 ∷
    -- 6: no target
    is "01010400010000" 6 0 ∷
    -- 6: a target and no length
    is "0101040001000000" 6 0 ∷
    -- 6: no length, the target is not yet judged
    is "01010400010000c8" 6 0 ∷
    -- 6: inside a text
    is "010104000001000241" 6 0 ∷
    -- 7: judged before the next is looked for
    is "010104000005" 7 0 ∷
    -- 7
    is "010104000005000000000000" 7 0 ∷
    -- 7 before 8
    is "0101040000050019" 7 0 ∷
    -- 8 of body 0 before 7 of body 1
    is "01020600230000010019616161616161616161616161616161616161616161616161610005000000000000" 8 0 ∷
    -- 8: a line
    is "010104000001001961616161616161616161616161616161616161616161616161" 8 0 ∷
    -- 8: a source
    is "01010400010000001961616161616161616161616161616161616161616161616161" 8 0 ∷
    -- 8: a sink
    is "01010400000001001961616161616161616161616161616161616161616161616161" 8 0 ∷
    -- 8: judged before the text is looked for
    is "0101040000010019" 8 0 ∷
    -- 8 before 9
    is "010104000001001900000000000000000000000000000000000000000000000000" 8 0 ∷
    -- 9 of the first line before 8 of the second
    is "0101040000020001001961616161616161616161616161616161616161616161616161" 9 0 ∷
    -- 9: 31
    is "010104000001000361621f" 9 0 ∷
    -- 9: 127
    is "01010400000100017f" 9 0 ∷
    -- 9: judged before the next is looked for
    is "01010400000100021f" 9 0 ∷
    -- 6: the next text byte
    is "010104000001000220" 6 0 ∷
    -- 9 of body 0 before 5 of body 1
    is "01020600ffff0001000100000000" 9 0 ∷
    -- 9 before 10
    is "01010400000100010000" 9 0 ∷
    -- 10: after no body
    is "010000" 10 0 ∷
    -- 10
    is "0101040000000000" 10 0 ∷
    -- 10 before 11
    is "010104000000410000000000000000000000000000000000000000000000000000000000000000000000000000000000000000000000000000000000000000000000000000000000000000000000000000000000000000000000000000000000000000000000000000000000000000000000000000000000000000000000000000000000000000000000" 10 0 ∷
    -- 11: sources and sinks
    is "0101040020002100000000000000000000000000000000000000000000000000000000000000000000000000000000000000000000000000000000000000000000000000000000000000000000000000000000000000000000000000000000000000000000000000000000000000000000000000000000000000000000000000000000000000000000" 11 0 ∷
    -- accepted: 64
    is "010104002000200000000000000000000000000000000000000000000000000000000000000000000000000000000000000000000000000000000000000000000000000000000000000000000000000000000000000000000000000000000000000000000000000000000000000000000000000000000000000000000000000000000000000000" 0 0 ∷
    -- 11: over all nodes
    is "010206004b0021000000000000000000000000000000000000000000000000000000000000000000000000000000000000000000000000000000000000000000000000000000000000000020000000000000000000000000000000000000000000000000000000000000000000000000000000000000000000000000000000000000000000000000000000000000" 11 0 ∷
    -- 11 before 12
    is "01010400000041c800c800c800c800c800c800c800c800c800c800c800c800c800c800c800c800c800c800c800c800c800c800c800c800c800c800c800c800c800c800c800c800c800c800c800c800c800c800c800c800c800c800c800c800c800c800c800c800c800c800c800c800c800c800c800c800c800c800c800c800c800c800c800c800c800" 11 0 ∷
    -- 12: node by node
    strict "010206000b0001000005000000010600" 5 ∷
    -- 12: sinks before sources
    strict "010206000d0001000105000600000000" 6 ∷
    -- 12: 2 is not below 2
    strict "010206000f00000003010002000300000000" 2 ∷
    -- accepted: 32 nodes, 4 lines each, 64 sources and sinks
    is "012042004d00580063006e00790084008f009a00a500b000bb00c600d100dc00e700f200fd00080113011e01290134013f014a01550160016b01760181018c0197010104011f000000000000000104011f000000000000000104011f000000000000000104011f000000000000000104011f000000000000000104011f000000000000000104011f000000000000000104011f000000000000000104011f000000000000000104011f000000000000000104011f000000000000000104011f000000000000000104011f000000000000000104011f000000000000000104011f000000000000000104011f000000000000000104011f000000000000000104011f000000000000000104011f000000000000000104011f000000000000000104011f000000000000000104011f000000000000000104011f000000000000000104011f000000000000000104011f000000000000000104011f000000000000000104011f000000000000000104011f000000000000000104011f000000000000000104011f000000000000000104011f000000000000000104011f00000000000000" 0 0 ∷
    -- 01 00: no node, and below
    is "0100" 0 0 ∷
    -- the worked chart, and below
    is "010206000b000000010100000000" 0 0 ∷
    -- texts of all three kinds, and below
    is "010104000102020002696e024120017e00036f75740000" 0 0 ∷
    -- three nodes, and below
    is "010308000b00120000000001010000000178000001010179" 0 0 ∷
    -- accepted: 32 and 126, and below
    is "0101040000010002207e" 0 0 ∷
    -- accepted: a text of 24, and below
    is "0101040000010018616161616161616161616161616161616161616161616161" 0 0 ∷
    -- accepted: a degree sign, and below
    is "0101040000010002c2b0" 0 0 ∷
    -- accepted: 45 degrees, and below
    is "01010400000100043435c2b0" 0 0 ∷
    -- accepted: 12 degree signs, 24 bytes, and below
    is "0101040000010018c2b0c2b0c2b0c2b0c2b0c2b0c2b0c2b0c2b0c2b0c2b0c2b0" 0 0 ∷
    -- 8: 13 characters, but 25 bytes
    is "0101040000010019c2b0c2b0c2b0c2b0c2b0c2b0c2b0c2b0c2b0c2b0c2b0c2b078" 8 0 ∷
    -- 9: C2 as the last byte of its text, where the chart ends too
    is "0101040000010001c2" 9 0 ∷
    is "010104000001000261c2" 9 0 ∷
    is "0101040000010003c2b0c2" 9 0 ∷
    -- 9: and where the chart goes on with its partner
    is "0101040000020001c201b0" 9 0 ∷
    is "0101040000010001c2b0" 9 0 ∷
    -- 6: the chart ends after a C2 whose text goes on
    is "0101040000010002c2" 6 0 ∷
    is "010104000001000361c2" 6 0 ∷
    -- 6: the chart ends after a degree sign whose text goes on
    is "0101040000010003c2b0" 6 0 ∷
    -- 9 before 6: C2 and no B0, judged before the next is looked for
    is "0101040000010003c261" 9 0 ∷
    -- 9: B0 without C2
    is "0101040000010001b0" 9 0 ∷
    is "0101040000010002b0c2" 9 0 ∷
    is "0101040000010003c2b0b0" 9 0 ∷
    -- 9: C2 without B0
    is "0101040000010002c261" 9 0 ∷
    is "0101040000010002c2b1" 9 0 ∷
    is "0101040000010003c2c2b0" 9 0 ∷
    -- 9: another pair that ends in B0
    is "0101040000010002c3b0" 9 0 ∷
    -- accepted: sinks with a degree sign and with two letters
    is "0102060011000000020102c2b001026162000000" 0 0 ∷
    -- accepted: degree signs in texts of all three kinds, and below
    is "010104000102020002c2b003c2b04303616263000330c2b00000" 0 0 ∷
    []

all_hold : all_of holds cases ≡ true
unfolding holds cases chart
all_hold = refl

-- ---- whole boards
abbrev part : ℕ → ℕ → Part
part at len = record { at = at; len = len }

-- 01 00: no node
empty : chart Strict (hex "0100") ≡ ready []
unfolding chart
empty = refl

-- document 02, L1: no byte, the same
no_byte : chart Strict (hex "") ≡ ready []
unfolding chart
no_byte = refl

-- the worked chart
worked : chart Strict (hex "010206000b000000010100000000") ≡ ready (record { sources = []; lines = []; sinks = record { to = 1; text = part 11 0 } ∷ [] } ∷ record { sources = []; lines = []; sinks = [] } ∷ [])
unfolding chart
worked = refl

-- texts of all three kinds
one : chart Strict (hex "010104000102020002696e024120017e00036f75740000") ≡ ready (record { sources = record { to = 0; text = part 9 2 } ∷ []; lines = part 12 2 ∷ part 15 1 ∷ []; sinks = record { to = 0; text = part 18 3 } ∷ record { to = 0; text = part 23 0 } ∷ [] } ∷ [])
unfolding chart
one = refl

-- three nodes
three : chart Strict (hex "010308000b00120000000001010000000178000001010179") ≡ ready (record { sources = []; lines = []; sinks = [] } ∷ record { sources = record { to = 0; text = part 16 0 } ∷ []; lines = part 17 1 ∷ []; sinks = [] } ∷ record { sources = []; lines = []; sinks = record { to = 1; text = part 23 1 } ∷ [] } ∷ [])
unfolding chart
three = refl

-- accepted: 32 and 126
r9c : chart Strict (hex "0101040000010002207e") ≡ ready (record { sources = []; lines = part 8 2 ∷ []; sinks = [] } ∷ [])
unfolding chart
r9c = refl

-- accepted: a text of 24
r8_24 : chart Strict (hex "0101040000010018616161616161616161616161616161616161616161616161") ≡ ready (record { sources = []; lines = part 8 24 ∷ []; sinks = [] } ∷ [])
unfolding chart
r8_24 = refl

-- a degree sign: one character
sign : chart Strict (hex "0101040000010002c2b0") ≡ ready (record { sources = []; lines = part 8 1 ∷ []; sinks = [] } ∷ [])
unfolding chart
sign = refl

-- 45 degrees: three
angle : chart Strict (hex "01010400000100043435c2b0") ≡ ready (record { sources = []; lines = part 8 3 ∷ []; sinks = [] } ∷ [])
unfolding chart
angle = refl

-- 24 bytes: twelve
signs : chart Strict (hex "0101040000010018c2b0c2b0c2b0c2b0c2b0c2b0c2b0c2b0c2b0c2b0c2b0c2b0") ≡ ready (record { sources = []; lines = part 8 12 ∷ []; sinks = [] } ∷ [])
unfolding chart
signs = refl

-- in texts of all three kinds
kinds : chart Strict (hex "010104000102020002c2b003c2b04303616263000330c2b00000") ≡ ready (record { sources = record { to = 0; text = part 9 1 } ∷ []; lines = part 12 2 ∷ part 16 3 ∷ []; sinks = record { to = 0; text = part 21 2 } ∷ record { to = 0; text = part 26 0 } ∷ [] } ∷ [])
unfolding chart
kinds = refl

-- 'A target not below n is now drawn by default'
lead : chart Default (hex "01010400000001c800") ≡ ready (record { sources = []; lines = []; sinks = record { to = 200; text = part 9 0 } ∷ [] } ∷ [])
unfolding chart
lead = refl
