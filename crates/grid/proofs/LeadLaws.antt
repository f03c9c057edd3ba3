-- The table of where the ends of each node lead: the room for it, that it holds the shape, and what it holds of a node.
-- Assumes nothing.
use Prim.Native.Nat.{ℕ, zero, suc, ◌+◌, ◌-◌, ◌*◌, ◌/◌, ◌≤◌, ◌<◌}
use native.Mathlib.Omega.{arith}
use native.Mathlib.Nat.{not-suc-le-zero, zero-add}
use native.Mathlib.Numerals.{add-one}
use mathlib.Core.Path.{◌≡◌, refl, ap, sym, ◌∙◌}
use mathlib.Core.Logic.{inl, inr}
use mathlib.Core.List.{List, [], ◌++◌, append_assoc, append-nil}
use lib.ListN.{length, set, drop, replicate, length-append, length-set, get_or-append}
use lib.Seq.{sets-eq, length-sets, get_or-set_same, get_or-set_other, take-append_seam, drop-append_seam}
use Rattle.laws.proofs.Lists.{length-tabulate, get_d_tabulate, tabulate-same, sets_append, all_join}
use Rattle.laws.proofs.Tests.{same?}
use Rattle.tables.specs.declared.Table.{Table}
use Rattle.tables.specs.Tables.{empty}
use Rattle.graph.specs.Items.{Ends}
use Rattle.graph.specs.Shape.{incidents_at, no_incidents}
use Rattle.graph.specs.Ends.{ends_of, incidents_in, shape_from, Linked}
use Rattle.order.specs.Claims.{Under}
use Rattle.order.proofs.Legs.{sum_to}
use Rattle.order.proofs.Pushed.{under-targets, ends-few}
use Rattle.grid.specs.Columns.{at}
use Rattle.grid.specs.code.Leads.{part, leads_at, with_all, shape_in, Led}
use Rattle.grid.proofs.Arrays.{all-at}

-- the ends of the first p nodes, node by node, sources before sinks
unfoldable pub ends_to : Ends → Ends → ℕ → List ℕ
ends_to s k zero = []
ends_to s k (suc p) = ends_to s k p ++ (ends_of s p ++ ends_of k p)

-- they stand in a table
unfoldable pub table_to : Ends → Ends → ℕ → Table ℕ 176
table_to s k p = with_all (empty 176 0) (ends_to s k p)

-- these, and then those
with-more : (t : Table ℕ 176) (xs ys : List ℕ) → with_all (with_all t xs) ys ≡ with_all t (xs ++ ys)
with-more t xs ys =
    let e : t.count + length xs + length ys ≡ t.count + length (xs ++ ys) = omega (arith, length-append xs ys) in
    cc (sets_append t.items t.count xs ys, e)

module _ (s k : Ends) where
  ends_next : (p : ℕ) → ends_to s k (p + 1) ≡ ends_to s k p ++ (ends_of s p ++ ends_of k p)
  unfolding ends_to
  ends_next p = ap (ends_to s k) (add-one p)

  -- node p's are put: first its sources, then its sinks
  pub ends-put : (p : ℕ) → with_all (with_all (table_to s k p) (ends_of s p)) (ends_of k p) ≡ table_to s k (p + 1)
  unfolding table_to
  ends-put p =
      with-more (table_to s k p) (ends_of s p) (ends_of k p) ∙ with-more (empty 176 0) (ends_to s k p) (ends_of s p ++ ends_of k p)
      ∙ ap (with_all (empty 176 0)) (sym (ends_next p))

  pub table-count : (p : ℕ) → (table_to s k p).count ≡ length (ends_to s k p)
  unfolding table_to
  table-count p = omega arith

  pub ends-long : (p : ℕ) → length (ends_to s k (p + 1)) ≡ length (ends_to s k p) + length (ends_of s p) + length (ends_of k p)
  ends-long p = rw (ends_next p, length-append, length-append) (omega arith)

  ends-sum : (p : ℕ) → length (ends_to s k p) ≡ sum_to p (λ q. length (ends_of s q)) + sum_to p (λ q. length (ends_of k q))
  unfolding ends_to
  ends-sum zero = refl
  ends-sum (suc p) = rw (length-append, length-append, ends-sum p) (omega arith)

  -- one begins the other
  record Begun (xs ys : List ℕ) : Type 0 where
    rest : List ℕ
    whole : ys ≡ xs ++ rest

  ends_begun : (p n : ℕ) → p ≤ n → Begun (ends_to s k p) (ends_to s k n)
  unfolding ends_to
  ends_begun p zero h = let e : p ≡ 0 = omega arith in record { rest = []; whole = rw e }
  ends_begun p (suc n) h =
      elim (same? p (suc n)) [
        | inl e ↦ record { rest = []; whole = rw e (sym (append-nil (ends_to s k (suc n)))) }
        | inr d ↦
            let b = ends_begun p n (omega arith) in
            let x = ends_of s n ++ ends_of k n in
            record { rest = b.rest ++ x; whole = ap (λ (l : List ℕ). l ++ x) b.whole ∙ append_assoc (ends_to s k p) b.rest x }
      ]

  -- the bounds of the first p nodes
  pub record Bounds (p : ℕ) (bounds : List ℕ) : Type 0 where
    pub long : length bounds ≡ 97
    pub start : (q : ℕ) → q ≤ p → at bounds (2 * q) ≡ length (ends_to s k q)
    pub mid : (q : ℕ) → q < p → at bounds (2 * q + 1) ≡ length (ends_to s k q) + length (ends_of s q)

  pub bounds_none : Bounds 0 (replicate 97 0)
  unfolding ends_to
  bounds_none = record { long = refl; start = λ q h. let e : q ≡ 0 = omega arith in rw e; mid = λ q h. absurd (not-suc-le-zero h) }

  pub bounds_next : (p : ℕ) (bounds : List ℕ) (m e : ℕ) → p < 48 → Bounds p bounds → m ≡ length (ends_to s k p) + length (ends_of s p) → e ≡ m + length (ends_of k p) →
      Bounds (p + 1) (set (set bounds (2 * p + 1) m) (2 * p + 2) e)
  bounds_next p bounds m e h b im ie =
      record {
        long = length-set (set bounds (2 * p + 1) m) (2 * p + 2) e ∙ length-set bounds (2 * p + 1) m ∙ b.long;
        start = λ q l. elim (same? q (p + 1)) [
          | inl z ↦
              let j : 2 * q ≡ 2 * p + 2 = omega arith in
              rw (j, get_or-set_same (set bounds (2 * p + 1) m) (2 * p + 2) e 0 (omega (arith, length-set bounds (2 * p + 1) m, b.long)), z) (omega (arith, ends-long p))
          | inr d ↦
              get_or-set_other (set bounds (2 * p + 1) m) (2 * p + 2) (2 * q) e 0 (omega arith)
              ∙ get_or-set_other bounds (2 * p + 1) (2 * q) m 0 (omega arith) ∙ b.start q (omega arith)
        ];
        mid = λ q l.
            get_or-set_other (set bounds (2 * p + 1) m) (2 * p + 2) (2 * q + 1) e 0 (omega arith)
            ∙ elim (same? q p) [
              | inl z ↦ rw z (get_or-set_same bounds (2 * p + 1) m 0 (omega (arith, b.long)) ∙ im)
              | inr d ↦ get_or-set_other bounds (2 * p + 1) (2 * q + 1) m 0 (omega arith) ∙ b.mid q (omega arith)
            ];
      }

part-mid : (a b c : List ℕ) → part (a ++ (b ++ c)) (length a) (length a + length b) ≡ b
part-mid a b c = let e : length a + length b - length a ≡ length b = omega arith in rw (e, drop-append_seam, take-append_seam)

module _ (n : ℕ) (s k : Ends) (x : Linked n s) (y : Linked n k) where
  -- each record is one node's
  pub ends-room : (p : ℕ) → length (ends_to s k p) + length (ends_of s p) + length (ends_of k p) ≤ 176
  ends-room p = omega (arith, ends-sum s k p, ends-few s (suc p), ends-few k (suc p), x.few, y.few)

  ends-under : (p : ℕ) → Under n (ends_to s k p)
  unfolding ends_to
  ends-under zero = tt
  ends-under (suc p) =
      all_join (λ (q : ℕ). q < n) (ends_to s k p) (ends_of s p ++ ends_of k p) (ends-under p)
      (all_join (λ (q : ℕ). q < n) (ends_of s p) (ends_of k p)
      (under-targets n p s.count s.items x.node) (under-targets n p k.count k.items y.node))

  -- the table of all nodes
  module _ (bounds : List ℕ) (b : Bounds s k n bounds) where
    abbrev to : List ℕ
    to = (table_to s k n).items

    -- what stands after them
    free : List ℕ
    free = drop (length (ends_to s k n)) (replicate 176 0)

    to_is : to ≡ ends_to s k n ++ free
    unfolding table_to free
    to_is =
        let z : 0 + length (ends_to s k n) ≡ length (ends_to s k n) = omega arith in
        sets-eq (ends_to s k n) (replicate 176 0) 0 (omega (arith, ends-room n)) ∙ ap (λ i. ends_to s k n ++ drop i (replicate 176 0)) z

    -- node p's in their places
    abbrev past : (p : ℕ) → p < n → List ℕ
    past p h = (ends_begun s k (p + 1) n (omega arith)).rest ++ free

    split : (p : ℕ) (h : p < n) → to ≡ ends_to s k p ++ (ends_of s p ++ (ends_of k p ++ past p h))
    split p h =
        let r = ends_begun s k (p + 1) n (omega arith) in
        to_is ∙ ap (λ (z : List ℕ). z ++ free) (r.whole ∙ ap (λ (z : List ℕ). z ++ r.rest) (ends_next s k p)) ∙ simp append_assoc

    sources-at : (p : ℕ) (h : p < n) → part to (at bounds (2 * p)) (at bounds (2 * p + 1)) ≡ ends_of s p
    sources-at p h = rw (split p h, b.start p (omega arith), b.mid p h) (part-mid (ends_to s k p) (ends_of s p) (ends_of k p ++ past p h))

    sinks-at : (p : ℕ) (h : p < n) → part to (at bounds (2 * p + 1)) (at bounds (2 * p + 2)) ≡ ends_of k p
    sinks-at p h =
        let a = ends_to s k p ++ ends_of s p in
        let i : 2 * p + 2 ≡ 2 * (p + 1) = omega arith in
        let e : at bounds (2 * p + 1) ≡ length a = b.mid p h ∙ sym (length-append (ends_to s k p) (ends_of s p)) in
        let f : at bounds (2 * p + 2) ≡ length a + length (ends_of k p) =
        ap (at bounds) i ∙ b.start (p + 1) (omega arith) ∙ omega (arith, ends-long s k p, length-append (ends_to s k p) (ends_of s p)) in
        rw (split p h ∙ sym (append_assoc (ends_to s k p) (ends_of s p) (ends_of k p ++ past p h)), e, f) (part-mid a (ends_of k p) (past p h))

    pub leads-shape : shape_in n to bounds ≡ shape_from n s k
    unfolding shape_in shape_from
    leads-shape = tabulate-same (leads_at to bounds) (incidents_in s k) 0 n (λ p a h. let i : p < n = omega arith in rw (sources-at p i, sinks-at p i))

    rises : (i : ℕ) → i < 2 * n → at bounds i ≤ at bounds (i + 1)
    rises i h =
        let q = i / 2 in
        elim (same? i (2 * q)) [
          | inl e ↦
              let f : i + 1 ≡ 2 * q + 1 = omega arith in
              omega (arith, ap (at bounds) e, ap (at bounds) f, b.start q (omega arith), b.mid q (omega arith))
          | inr d ↦
              let e : i ≡ 2 * q + 1 = omega arith in
              let f : i + 1 ≡ 2 * (q + 1) = omega arith in
              omega (arith, ap (at bounds) e, ap (at bounds) f, b.mid q (omega arith), b.start (q + 1) (omega arith), ends-long s k q)
        ]

    pub leads-led : Led n to bounds
    unfolding ends_to table_to
    leads-led =
        record {
          long = length-sets (replicate 176 0) 0 (ends_to s k n);
          nodes = x.nodes;
          first = b.start 0 (omega arith);
          rising = rises;
          few = omega (arith, b.start n (omega arith), ends-room n);
          node = λ i h.
              let j : i < length (ends_to s k n) = omega (arith, b.start n (omega arith)) in
              rw (to_is, get_or-append (ends_to s k n) free 0 i j) (all-at (λ (q : ℕ). q < n) 0 (ends_to s k n) i j (ends-under n));
        }

-- ---- a table of n nodes
module _ (n : ℕ) (to bounds : List ℕ) where
  pub leads-long : length (shape_in n to bounds) ≡ n
  unfolding shape_in
  leads-long = length-tabulate (leads_at to bounds) 0 n

  pub leads-at : (p : ℕ) → p < n → incidents_at (shape_in n to bounds) p ≡ leads_at to bounds p
  unfolding shape_in
  leads-at p h = get_d_tabulate (leads_at to bounds) 0 n p no_incidents h ∙ ap (leads_at to bounds) (zero-add p)

  -- where the bounds rise
  module _ (rising : (i : ℕ) → i < 2 * n → at bounds i ≤ at bounds (i + 1)) where
    rise : (d i : ℕ) → i + d ≤ 2 * n → at bounds i ≤ at bounds (i + d)
    rise zero i h = let e : i + 0 ≡ i = omega arith in rw e (omega arith)
    rise (suc d) i h = let e : i + suc d ≡ i + d + 1 = omega arith in rw e (omega (arith, rise d i (omega arith), rising (i + d) (omega arith)))

    -- the bounds of node p
    module _ (p : ℕ) (h : p < n) where
      pub led-sources : at bounds (2 * p) ≤ at bounds (2 * p + 1)
      led-sources = rise 1 (2 * p) (omega arith)

      pub led-sinks : at bounds (2 * p + 1) ≤ at bounds (2 * p + 2)
      led-sinks = let e : 2 * p + 1 + 1 ≡ 2 * p + 2 = omega arith in omega (arith, rising (2 * p + 1) (omega arith), ap (at bounds) e)

      pub led-within : at bounds (2 * p + 2) ≤ at bounds (2 * n)
      led-within = let e : 2 * p + 2 + (2 * n - (2 * p + 2)) ≡ 2 * n = omega arith in omega (arith, rise (2 * n - (2 * p + 2)) (2 * p + 2) (omega arith), ap (at bounds) e)
