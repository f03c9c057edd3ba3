-- A part of an array, from a up to b, and the incidents of a node as such a part.
-- Assumes nothing.
use Prim.Native.Nat.{ℕ, ◌+◌, ◌-◌, ◌*◌, ◌≤◌, ◌<◌}
use native.Mathlib.Omega.{arith}
use mathlib.Core.Path.{◌≡◌, ap, sym, ◌∙◌}
use mathlib.Core.List.{List, ◌++◌}
use lib.ListN.{length, take, drop, length-take, length-drop}
use lib.Seq.{drop-drop, take-add, get_or-take, get_or-drop, length-take-le}
use Rattle.graph.specs.Shape.{Incidents, incidents_at}
use Rattle.grid.specs.Columns.{at, incidents}
use Rattle.grid.specs.code.Arrays.{Inside}
use Rattle.grid.specs.code.Leads.{part, shape_in}
use Rattle.grid.proofs.LeadLaws.{leads-at, led-sources, led-sinks, led-within}

module _ (xs : List ℕ) where
  part_join : (a b c : ℕ) → a ≤ b → b ≤ c → part xs a b ++ part xs b c ≡ part xs a c
  part_join a b c h k =
      let e : a + (b - a) ≡ b = omega arith in
      let f : b - a + (c - b) ≡ c - a = omega arith in
      ap (λ (i : ℕ). part xs a b ++ take (c - b) (drop i xs)) (sym e)
      ∙ ap (λ (l : List ℕ). part xs a b ++ take (c - b) l) (sym (drop-drop (b - a) a xs))
      ∙ sym (take-add (b - a) (c - b) (drop a xs))
      ∙ ap (λ (i : ℕ). take i (drop a xs)) f

  pub part-long : (a b : ℕ) → a ≤ b → b ≤ length xs → length (part xs a b) ≡ b - a
  part-long a b h l = length-take-le (b - a) (drop a xs) (omega (arith, length-drop a xs))

  part-short : (a b : ℕ) → length (part xs a b) ≤ b - a
  part-short a b = omega (arith, length-take (b - a) (drop a xs))

  part_at : (a b i : ℕ) → i < b - a → at (part xs a b) i ≡ at xs (a + i)
  part_at a b i h = get_or-take (b - a) (drop a xs) i 0 h ∙ get_or-drop a xs i 0

-- the incidents of node p, where the bounds rise
module _ (n : ℕ) (to bounds : List ℕ) (rising : (i : ℕ) → i < 2 * n → at bounds i ≤ at bounds (i + 1)) (p : ℕ) (hp : p < n) where
  abbrev a : ℕ
  a = at bounds (2 * p)

  abbrev b : ℕ
  b = at bounds (2 * p + 2)

  pub rise : a ≤ b
  rise = omega (arith, led-sources n to bounds rising p hp, led-sinks n to bounds rising p hp)

  pub are : incidents (shape_in n to bounds) p ≡ part to a b
  are =
      ap (λ (m : Incidents). m.sources ++ m.sinks) (leads-at n to bounds p hp)
      ∙ part_join to a (at bounds (2 * p + 1)) b (led-sources n to bounds rising p hp) (led-sinks n to bounds rising p hp)

  -- each end leads to a node
  module _ (node : (k : ℕ) → k < at bounds (2 * n) → at to k < n) where
    pub leads : (k : ℕ) → k < b → at to k < n
    leads k h = node k (omega (arith, led-within n to bounds rising p hp))

    pub to-nodes : Inside n (part to a b)
    to-nodes = record { below = λ k h. let m : k < b - a = omega (arith, part-short to a b) in rw (part_at to a b k m) (leads (a + k) (omega arith)) }

  -- the bounds end within the array
  module _ (room : at bounds (2 * n) ≤ 176) where
    pub few : b ≤ 176
    few = omega (arith, led-within n to bounds rising p hp, room)

    pub short : length (part to a b) ≤ 176
    short = omega (arith, part-short to a b, few)

    pub sources-long : length to ≡ 176 → length (incidents_at (shape_in n to bounds) p).sources ≡ at bounds (2 * p + 1) - a
    sources-long long =
        ap (λ (m : Incidents). length m.sources) (leads-at n to bounds p hp)
        ∙ part-long to a (at bounds (2 * p + 1)) (led-sources n to bounds rising p hp) (omega (arith, long, led-sinks n to bounds rising p hp, few))
