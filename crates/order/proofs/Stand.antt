-- The code's arrays hold the chains of `Chains`: at first, and after each pair.
-- Assumes nothing.
use Prim.Native.Nat.{ℕ, zero, suc, ◌+◌, ◌-◌, ◌≤◌, ◌<◌}
use native.Mathlib.Omega.{arith}
use native.Mathlib.Nat.{le_of_suc-le-suc, not-suc-le-zero}
use mathlib.Core.Logic.{inl, inr}
use mathlib.Core.Path.{◌≡◌, refl, ap, sym, ◌∙◌, subst}
use mathlib.Core.Bool.{Bool, true, false, cond, ◌||◌}
use mathlib.Core.List.{List, [], ◌∷◌, ◌++◌}
use lib.Dec.{eqb}
use lib.ListN.{length, get_or, set, length-set, length-append, get_or-append}
use lib.Seq.{get_or-set_same, get_or-set_other, get_or-append-add}
use borrow.Author.Tests.{eq-eqb, ne_eqb, eqb-true, eqb-false}
use Rattle.laws.specs.Lists.{has}
use Rattle.laws.proofs.Lists.{length-tabulate, get_d_tabulate}
use Rattle.laws.proofs.Tests.{less?, same?}
use Rattle.order.specs.declared.chains.Chain.{Chain}
use Rattle.order.specs.declared.chains.Seat.{Seat}
use Rattle.order.specs.declared.chains.Held.{Held}
use Rattle.order.specs.Chains.{Chains, chain, chain_of, join, link, single}
use Rattle.order.specs.code.Held.{seat, top, no_top, seat_at, colour_at, place_at, top_at, separate_of, moved, joined_of, pair_of, Fit}
use Rattle.order.specs.code.Stand.{top_of, At, Has, Stand}
use Rattle.order.proofs.Flat.{flat}
use Rattle.order.proofs.Fills.{length-mapped, mapped_at}
use Rattle.order.proofs.Nodes.{Sound, length-join}

-- ---- the number of a node's chain is its colour
has_here : (p : ℕ) (xs : List ℕ) (i : ℕ) → i < length xs → get_or xs i 0 ≡ p → has p xs ≡ true
has_here p [] i h e = absurd (not-suc-le-zero h)
has_here p (x ∷ xs) zero h e = rw (eq-eqb x p e)
has_here p (x ∷ xs) (suc i) h e = rw (has_here p xs i (le_of_suc-le-suc h) e) (either (eqb x p))
  where
    either : (b : Bool) → (b || true) ≡ true
    either true = refl
    either false = refl

pub record Found (p : ℕ) (xs : List ℕ) : Type 0 where
  pub i : ℕ
  pub inside : i < length xs
  pub node : get_or xs i 0 ≡ p

found_cons : (p x : ℕ) (xs : List ℕ) (b : Bool) → eqb x p ≡ b → (has p xs ≡ true → Found p xs) → (b || has p xs) ≡ true → Found p (x ∷ xs)
found_cons p x xs true e f h = record { i = 0; inside = omega arith; node = eqb-true x p e }
found_cons p x xs false e f h = let r = f h in record { i = suc r.i; inside = omega (arith, r.inside); node = r.node }

found : (p : ℕ) (xs : List ℕ) → has p xs ≡ true → Found p xs
found p [] h = absurd (let z : ◌≡◌ {A = ℕ} 0 1 = cc in omega arith)
found p (x ∷ xs) h = found_cons p x xs (eqb x p) refl (found p xs) h

chain-is : (p : ℕ) (cs : Chains) (k : ℕ) → k < length cs → has p (chain cs k) ≡ true → ((j : ℕ) → j < k → has p (chain cs j) ≡ false) → chain_of p cs ≡ k
chain-is p [] k h e f = absurd (not-suc-le-zero h)
chain-is p (c ∷ cs) zero h e f = rw e
chain-is p (c ∷ cs) (suc k) h e f = rw (f 0 (omega arith)) (ap suc (chain-is p cs k (le_of_suc-le-suc h) e (λ j l. f (suc j) (omega arith))))

-- a chain has no more nodes than all have
pub chain-short : (cs : Chains) (k : ℕ) → length (chain cs k) ≤ length (flat cs)
chain-short [] k = omega arith
chain-short (c ∷ cs) zero = omega (arith, length-append c (flat cs))
chain-short (c ∷ cs) (suc k) = omega (arith, length-append c (flat cs), chain-short cs k)

module _ (n : ℕ) (cs : Chains) (h : Held) (s : Stand n cs h) where
  not_there : (p j : ℕ) (b : Bool) → j < n → (colour_at h p ≡ j → ⊥) → has p (chain cs j) ≡ b → b ≡ false
  not_there p j true l ne e =
      let f = found p (chain cs j) e in
      absurd (ne (ap (colour_at h) (sym f.node) ∙ (s.has j f.i l f.inside).colour))
  not_there p j false l ne e = refl

  pub colour-is : (p : ℕ) → p < n → chain_of p cs ≡ colour_at h p
  colour-is p l =
      let a = s.at p l in
      chain-is p cs (colour_at h p) (omega (arith, a.colour, s.tops.size)) (has_here p (chain cs (colour_at h p)) (place_at h p) a.place a.node)
      (λ j k. not_there p j (has p (chain cs j)) (omega (arith, a.colour)) (λ e. omega arith) refl)

  pub fit : Sound n cs → Fit h
  fit o =
      record {
        few = omega (arith, s.count, s.tops.few);
        colours = λ p l. omega (arith, s.count, (s.at p (omega (arith, s.count))).colour);
        places = λ p l. omega (arith, (s.at p (omega (arith, s.count))).place, chain-short cs (colour_at h p), o.nodes, s.tops.few);
        lengths = λ k l. omega (arith, ap (λ (t : Chain). t.length) (s.tops.each k (omega (arith, s.count))), chain-short cs k, o.nodes, s.tops.few);
      }

-- ---- each node in a chain of its own
single-at : (p k i : ℕ) → i < k → chain (single p k) i ≡ (p + i) ∷ []
single-at p zero i h = absurd (not-suc-le-zero h)
single-at p (suc k) zero h = let e : p ≡ p + 0 = omega arith in ap (λ (q : ℕ). q ∷ []) e
single-at p (suc k) (suc i) h = let e : suc p + i ≡ p + suc i = omega arith in single-at (suc p) k i (le_of_suc-le-suc h) ∙ ap (λ (q : ℕ). q ∷ []) e

single-long : (p k : ℕ) → length (single p k) ≡ k
single-long p zero = refl
single-long p (suc k) = ap suc (single-long (suc p) k)

single-chain : (n k : ℕ) → k < n → chain (single 0 n) k ≡ k ∷ []
single-chain n k h = let e : 0 + k ≡ k = omega arith in single-at 0 n k h ∙ ap (λ (q : ℕ). q ∷ []) e

separate_seat : (n k : ℕ) → k < 48 → seat_at (separate_of n) k ≡ seat k 0
separate_seat n k h = get_d_tabulate (λ (k : ℕ). seat k 0) 0 48 k (seat 0 0) h ∙ ap (λ (k : ℕ). seat k 0) (omega arith)

separate_chain : (n k : ℕ) → k < 48 → top_at (separate_of n).chains k ≡ top 1 k
separate_chain n k h = get_d_tabulate (top 1) 0 48 k no_top h ∙ ap (top 1) (omega arith)

module _ (n : ℕ) (few : n ≤ 48) where
  abbrev cs : Chains
  cs = single 0 n

  separate_at : (p : ℕ) → p < n → At n cs (separate_of n) p
  separate_at p l =
      let a = separate_seat n p (omega arith) in
      let e : colour_at (separate_of n) p ≡ p = ap (λ (s : Seat). s.colour.0) a in
      let z : place_at (separate_of n) p ≡ 0 = ap (λ (s : Seat). s.place) a in
      let c : chain cs (colour_at (separate_of n) p) ≡ p ∷ [] = ap (chain cs) e ∙ single-chain n p l in
      record {
        colour = omega (arith, e);
        place = rw (c, z) (omega arith);
        node = rw (c, z);
      }

  separate_has : (k i : ℕ) → k < n → i < length (chain cs k) → Has n (separate_of n) k i (get_or (chain cs k) i 0)
  separate_has k i l h =
      let c : chain cs k ≡ k ∷ [] = single-chain n k l in
      let z : i ≡ 0 = omega (arith, h, ap (λ (x : List ℕ). length x) c) in
      let r : get_or (chain cs k) i 0 ≡ k = rw (c, z) in
      let a = separate_seat n k (omega arith) in
      record {
        node = omega (arith, r);
        colour = ap (colour_at (separate_of n)) r ∙ ap (λ (s : Seat). s.colour.0) a;
        place = ap (place_at (separate_of n)) r ∙ ap (λ (s : Seat). s.place) a ∙ sym z;
      }

  pub stand-first : Stand n (single 0 n) (separate_of n)
  stand-first =
      record {
        count = refl;
        tops =
            record {
              size = single-long 0 n;
              few = few;
              long = length-tabulate (top 1) 0 48;
              each = λ k l. separate_chain n k (omega arith) ∙ sym (ap top_of (single-chain n k l));
            };
        long = length-tabulate (λ (k : ℕ). seat k 0) 0 48;
        at = separate_at;
        has = separate_has;
      }

-- ---- the chain y joined to the chain x
module _ (cs : Chains) (x y : ℕ) (l : x < length cs) (k : y < length cs) (ne : x ≡ y → ⊥) where
  abbrev A : List ℕ
  A = chain cs x

  abbrev B : List ℕ
  B = chain cs y

  pub join-second : chain (join cs x y) y ≡ []
  join-second = get_or-set_same (set cs x (A ++ B)) y [] [] (rw (length-set cs x (A ++ B)) k)

  pub join_first : chain (join cs x y) x ≡ A ++ B
  join_first = get_or-set_other (set cs x (A ++ B)) y x [] [] ne ∙ get_or-set_same cs x (A ++ B) [] l

  pub join-other : (j : ℕ) → (j ≡ x → ⊥) → (j ≡ y → ⊥) → chain (join cs x y) j ≡ chain cs j
  join-other j a b = get_or-set_other (set cs x (A ++ B)) y j [] [] b ∙ get_or-set_other cs x j (A ++ B) [] a

module _ (n : ℕ) (cs : Chains) (h : Held) (s : Stand n cs h) (x y : ℕ) (l : x < n) (k : y < n) (ne : x ≡ y → ⊥) (some : 0 < length (chain cs x)) where
  abbrev h' : Held
  h' = joined_of h x y

  abbrev ds : Chains
  ds = join cs x y

  lx : x < length cs
  lx = omega (arith, s.tops.size)

  ly : y < length cs
  ly = omega (arith, s.tops.size)

  first : chain ds x ≡ chain cs x ++ chain cs y
  first = join_first cs x y lx ly ne

  second : chain ds y ≡ []
  second = join-second cs x y lx ly ne

  other : (j : ℕ) → (j ≡ x → ⊥) → (j ≡ y → ⊥) → chain ds j ≡ chain cs j
  other = join-other cs x y lx ly ne

  -- node p sat in the chain y, or in another
  new-seat : (p : ℕ) → p < n → seat_at h' p ≡ moved x y (top_at h.chains x).length (seat_at h p)
  new-seat p i = mapped_at (moved x y (top_at h.chains x).length) h.seats h.n (omega (arith, s.long, s.tops.few, s.count)) p (seat 0 0) (omega (arith, s.count))

  seat-y : (p : ℕ) → p < n → colour_at h p ≡ y → seat_at h' p ≡ seat x (place_at h p + length (chain cs x))
  seat-y p i e = new-seat p i ∙ rw (eq-eqb (colour_at h p) y e, s.tops.each x l)

  seat-other : (p : ℕ) → p < n → (colour_at h p ≡ y → ⊥) → seat_at h' p ≡ seat_at h p
  seat-other p i e = new-seat p i ∙ rw (ne_eqb (colour_at h p) y e)

  colour-y : (p : ℕ) → p < n → colour_at h p ≡ y → colour_at h' p ≡ x
  colour-y p i e = ap (λ (s : Seat). s.colour.0) (seat-y p i e)

  colour-other : (p : ℕ) → p < n → (colour_at h p ≡ y → ⊥) → colour_at h' p ≡ colour_at h p
  colour-other p i e = ap (λ (s : Seat). s.colour.0) (seat-other p i e)

  place-y : (p : ℕ) → p < n → colour_at h p ≡ y → place_at h' p ≡ length (chain cs x) + place_at h p
  place-y p i e = ap (λ (s : Seat). s.place) (seat-y p i e) ∙ omega arith

  place_other : (p : ℕ) → p < n → (colour_at h p ≡ y → ⊥) → place_at h' p ≡ place_at h p
  place_other p i e = ap (λ (s : Seat). s.place) (seat-other p i e)

  -- a node that is where its new colour c and its new place i say
  at-made : (p c i : ℕ) (d : List ℕ) → c < n → chain ds c ≡ d → i < length d → get_or d i 0 ≡ p → colour_at h' p ≡ c → place_at h' p ≡ i → At n ds h' p
  at-made p c i d b f j g e z =
      let w : chain ds (colour_at h' p) ≡ d = ap (chain ds) e ∙ f in
      record { colour = rw e b; place = rw (w, z) j; node = rw (w, z) g }

  joined_at : (p : ℕ) → p < n → At n ds h' p
  joined_at p i =
      let a = s.at p i in
      let c = colour_at h p in
      elim (same? c y) [
        | inl e ↦
            let w : chain cs c ≡ chain cs y = ap (chain cs) e in
            at-made p x (length (chain cs x) + place_at h p) (chain cs x ++ chain cs y) l first
            (omega (arith, length-append (chain cs x) (chain cs y), a.place, ap (λ (v : List ℕ). length v) w))
            (get_or-append-add (chain cs x) (chain cs y) (place_at h p) 0 ∙ ap (λ (v : List ℕ). get_or v (place_at h p) 0) (sym w) ∙ a.node)
            (colour-y p i e) (place-y p i e)
        | inr o ↦ elim (same? c x) [
          | inl e ↦
              let w : chain cs c ≡ chain cs x = ap (chain cs) e in
              let j : place_at h p < length (chain cs x) = omega (arith, a.place, ap (λ (v : List ℕ). length v) w) in
              at-made p x (place_at h p) (chain cs x ++ chain cs y) l first
              (omega (arith, length-append (chain cs x) (chain cs y)))
              (get_or-append (chain cs x) (chain cs y) 0 (place_at h p) j ∙ ap (λ (v : List ℕ). get_or v (place_at h p) 0) (sym w) ∙ a.node)
              (colour-other p i o ∙ e) (place_other p i o)
          | inr u ↦ at-made p c (place_at h p) (chain cs c) a.colour (other c u o) a.place a.node (colour-other p i o) (place_other p i o)
        ]
      ]

  -- the node at place i of chain j, which had the colour c and the place m
  has-y : (m r : ℕ) → m < length (chain cs y) → get_or (chain cs y) m 0 ≡ r → Has n h' x (length (chain cs x) + m) r
  has-y m r b e =
      let f = s.has y m k b in
      rw (← e) (record { node = f.node; colour = colour-y _ f.node f.colour; place = place-y _ f.node f.colour ∙ ap (λ (v : ℕ). length (chain cs x) + v) f.place })

  has_other : (j m r : ℕ) → j < n → (j ≡ y → ⊥) → m < length (chain cs j) → get_or (chain cs j) m 0 ≡ r → Has n h' j m r
  has_other j m r i o b e =
      let f = s.has j m i b in
      let v : (colour_at h (get_or (chain cs j) m 0) ≡ y → ⊥) = λ z. o (sym f.colour ∙ z) in
      rw (← e) (record { node = f.node; colour = colour-other _ f.node v ∙ f.colour; place = place_other _ f.node v ∙ f.place })

  joined-has : (j i : ℕ) → j < n → i < length (chain ds j) → Has n h' j i (get_or (chain ds j) i 0)
  joined-has j i b m =
      elim (same? j y) [
        | inl e ↦ absurd (omega (arith, m, ap (λ (v : List ℕ). length v) (ap (chain ds) e ∙ second)))
        | inr o ↦ elim (same? j x) [
          | inl e ↦
              let w : chain ds j ≡ chain cs x ++ chain cs y = ap (chain ds) e ∙ first in
              elim (less? i (length (chain cs x))) [
                | inl u ↦
                    rw (e) (has_other x i (get_or (chain ds x) i 0) l ne u (sym (ap (λ (v : List ℕ). get_or v i 0) first ∙ get_or-append (chain cs x) (chain cs y) 0 i u)))
                | inr u ↦
                    let d : length (chain cs x) + (i - length (chain cs x)) ≡ i = omega arith in
                    rw (e) (subst (λ (v : ℕ). Has n h' x v (get_or (chain ds x) i 0)) d
                    (has-y (i - length (chain cs x)) (get_or (chain ds x) i 0)
                    (omega (arith, m, ap (λ (v : List ℕ). length v) w, length-append (chain cs x) (chain cs y)))
                    (sym (ap (λ (v : List ℕ). get_or v i 0) first ∙ ap (λ (v : ℕ). get_or (chain cs x ++ chain cs y) v 0) (sym d) ∙ get_or-append-add (chain cs x) (chain cs y) (i - length (chain cs x)) 0))))
              ]
          | inr u ↦
              let w : chain ds j ≡ chain cs j = other j u o in
              has_other j i (get_or (chain ds j) i 0) b o (omega (arith, m, ap (λ (v : List ℕ). length v) w)) (sym (ap (λ (v : List ℕ). get_or v i 0) w))
        ]
      ]

  top-append : (a b : List ℕ) → 0 < length a → top_of (a ++ b) ≡ record { length = length a + length b; first = (top_of a).first }
  top-append a b z = rw (length-append a b, get_or-append a b 0 0 z)

  -- the chain x with that of y, as it is stored
  abbrev both : Chain
  both = record { length = (top_at h.chains x).length + (top_at h.chains y).length; first = (top_at h.chains x).first }

  both-is : both ≡ top_of (chain cs x ++ chain cs y)
  both-is = rw (s.tops.each x l, s.tops.each y k) (sym (top-append (chain cs x) (chain cs y) some))

  joined-tops : (j : ℕ) → j < n → top_at h'.chains j ≡ top_of (chain ds j)
  joined-tops j b =
      elim (same? j y) [
        | inl e ↦ rw (e, second) (get_or-set_same (set h.chains x both) y no_top no_top (rw (length-set h.chains x both) (omega (arith, s.tops.long, s.tops.few))))
        | inr o ↦
            let past : top_at h'.chains j ≡ top_at (set h.chains x both) j = get_or-set_other (set h.chains x both) y j no_top no_top o in
            elim (same? j x) [
              | inl e ↦
                  past ∙ ap (top_at (set h.chains x both)) e ∙ get_or-set_same h.chains x both no_top (omega (arith, s.tops.long, s.tops.few))
                  ∙ both-is ∙ ap top_of (sym (ap (chain ds) e ∙ first))
              | inr u ↦ past ∙ get_or-set_other h.chains x j both no_top u ∙ s.tops.each j b ∙ ap top_of (sym (other j u o))
            ]
      ]

  pub stand-join : Stand n ds h'
  stand-join =
      record {
        count = s.count;
        tops =
            record {
              size = length-join cs x y ∙ s.tops.size;
              few = s.tops.few;
              long = length-set (set h.chains x both) y no_top ∙ length-set h.chains x both ∙ s.tops.long;
              each = joined-tops;
            };
        long = length-mapped (moved x y (top_at h.chains x).length) h.seats h.n (omega (arith, s.long, s.tops.few, s.count)) ∙ s.long;
        at = joined_at;
        has = joined-has;
      }

pick-stand : (n : ℕ) (cs ds : Chains) (h g : Held) (b : Bool) → Stand n cs h → (b ≡ false → Stand n ds g) → Stand n (cond b cs ds) (cond b h g)
pick-stand n cs ds h g true s f = s
pick-stand n cs ds h g false s f = f refl

pub stand-link : (n : ℕ) (cs : Chains) (h : Held) (p q : ℕ) → Stand n cs h → p < n → q < n → Stand n (link cs p q) (pair_of h p q)
stand-link n cs h p q s i j =
    let x = colour_at h p in
    let y = colour_at h q in
    rw (colour-is n cs h s p i, colour-is n cs h s q j)
    (pick-stand n cs (join cs x y) h (joined_of h x y) (eqb x y) s
    (λ e. stand-join n cs h s x y (s.at p i).colour (s.at q j).colour (eqb-false x y e) (omega (arith, (s.at p i).place))))
