-- The test of the ends holds where they are linked, and only there.
-- Assumes nothing.
use Prim.Native.Nat.{ℕ, zero, suc, ◌≤◌, ◌<◌}
use native.Mathlib.Omega.{arith}
use mathlib.Core.Path.{◌≡◌, refl, ap}
use mathlib.Core.Bool.{Bool, true, false, ◌&&◌}
use mathlib.Core.List.{List, [], ◌∷◌}
use lib.Dec.{leb, ltb}
use lib.ListN.{length, get_or, take}
use lib.Seq.{length-take-le, get_or-take}
use borrow.Author.Tests.{ltb-true, leb-true, lt-ltb, le-leb}
use Rattle.std.specs.Prelude.{None}
use Rattle.std.specs.List.{list_all}
use Rattle.laws.specs.Bytes.{all_of}
use Rattle.laws.proofs.Lists.{test_at}
use Rattle.graph.specs.declared.Lead.{Lead}
use Rattle.graph.specs.Items.{Ends}
use Rattle.graph.specs.Ends.{no_lead, Linked}
use Rattle.order.specs.Ordered.{linked_of, columns_in, IsColumns}
use Rattle.order.proofs.Tables.{and_left, and_right}

-- a lead of one of n nodes to one
abbrev pub inside : ℕ → Lead → Bool
inside n l = ltb l.owner n && ltb l.to n

pub all-is : {A : Type 0} (test : A → Bool) (xs : List A) → list_all test xs ≡ all_of test xs
all-is test [] = refl
all-is test (x ∷ xs) = ap (λ (b : Bool). test x && b) (all-is test xs)

module _ (n : ℕ) where
  all-inside : (m : ℕ) (es : List Lead) → ((k : ℕ) → k < m → (get_or es k no_lead).owner < n) → ((k : ℕ) → k < m → (get_or es k no_lead).to < n) → all_of (inside n) (take m es) ≡ true
  all-inside zero es h i = refl
  all-inside (suc m) [] h i = refl
  all-inside (suc m) (e ∷ es) h i = rw (lt-ltb e.owner n (h 0 (omega arith)), lt-ltb e.to n (i 0 (omega arith))) (all-inside m es (λ k l. h (suc k) (omega arith)) (λ k l. i (suc k) (omega arith)))

  each-inside : (m : ℕ) (es : List Lead) → m ≤ length es → all_of (inside n) (take m es) ≡ true → (k : ℕ) → k < m → inside n (get_or es k no_lead) ≡ true
  each-inside m es l e k h =
      let i : k < length (take m es) = omega (arith, length-take-le m es l) in
      rw (← get_or-take m es k no_lead h) (test_at (inside n) no_lead (take m es) k i e)

module _ (n : ℕ) (e : Ends) where
  pub linked_yes : Linked n e → linked_of n e ≡ true
  linked_yes l = rw (le-leb n 48 l.nodes, le-leb e.count 88 l.few, all-inside n e.count e.items l.owner l.node)

  pub yes_linked : length e.items ≡ 88 → linked_of n e ≡ true → Linked n e
  yes_linked long h =
      let a = leb n 48 in
      let b = leb e.count 88 in
      let c = all_of (inside n) (take e.count e.items) in
      let i : (b && c) ≡ true = and_right a (b && c) h in
      let few : e.count ≤ 88 = leb-true e.count 88 (and_left b c i) in
      let all = each-inside n e.count e.items (omega arith) (and_right b c i) in
      record {
        few = few;
        nodes = leb-true n 48 (and_left a (b && c) h);
        owner = λ k l. let x = get_or e.items k no_lead in ltb-true x.owner n (and_left (ltb x.owner n) (ltb x.to n) (all k l));
        node = λ k l. let x = get_or e.items k no_lead in ltb-true x.to n (and_right (ltb x.owner n) (ltb x.to n) (all k l));
      }

-- no columns where the ends are not linked
pub columns-none : (n : ℕ) (sources sinks : Ends) → (linked_of n sources && linked_of n sinks) ≡ false → IsColumns n sources sinks None
unfolding columns_in
columns-none n sources sinks h = record { whole = rw h; count = λ cs e. absurd (cc); each = λ cs e. absurd (cc) }
