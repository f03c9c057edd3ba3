-- An order has each node once, each after its sources, at each place the lowest free number; where none is free there is a cycle.
-- Assumes nothing.
use Prim.Native.Nat.{ℕ, suc, ◌+◌, ◌-◌, ◌≤◌, ◌<◌}
use native.Mathlib.Omega.{arith}
use native.Mathlib.Nat.{not-suc-le-zero}
use mathlib.Core.Path.{◌≡◌, refl, ap, sym, ◌∙◌, subst}
use mathlib.Core.Logic.{◌⊎◌, inl, inr}
use mathlib.Core.Bool.{Bool, true, false, cond, not, ◌&&◌, ◌||◌, false≢true, true≢false, and-eq-true_iff}
use mathlib.Core.List.{List, [], ◌∷◌, ◌++◌}
use lib.Dec.{eqb, ltb}
use lib.ListN.{length, get_or, take, get_or-append, get_or-eq_default}
use lib.Seq.{take-append-le, take-append_seam, get_or-append_seam}
use borrow.Author.Tests.{eqb-true, eqb-false, ltb-true, ltb-false, not-true, not-false}
use Rattle.laws.specs.Bytes.{all_of}
use Rattle.laws.specs.Lists.{All, has, place_of, one}
use Rattle.laws.proofs.Each.{each_holds}
use Rattle.laws.proofs.Lists.{length-one, all_join, take-padded, test_at}
use Rattle.laws.proofs.Tests.{less?, pick-by}
use Rattle.walks.specs.Walks.{Distinct, Cycle, walk}
use Rattle.walks.proofs.Few.{has_more, has_first, distinct-one, every, few, many, place_in, place-early}
use Rattle.walks.proofs.WalkLaws.{walk_cycle, walk_enough, no-cycle, cycle-by, cycle-all}
use Rattle.std.specs.Prelude.{Result, Ok, Err}
use Rattle.chart.specs.declared.Setting.TheVariants.{Strict}
use Rattle.chart.specs.Chart.{Board, Reading, ready as accepted, refusal as unread, chart}
use Rattle.graph.specs.Graph.{Edge, Node, Graph, bare, given_graph, node_at, leads_to}
use Rattle.graph.specs.Completion.{complete}
use Rattle.graph.specs.Laws.{Aimed}
use Rattle.graph.specs.Completed.{Mutual, CompletedLaws}
use Rattle.graph.specs.Shape.{Incidents, Shape, incidents_at, targets, shape_of}
use Rattle.graph.proofs.AimLaws.{node-aims}
use Rattle.graph.proofs.EndsLaws.{shape_at, shape-long}
use Rattle.graph.proofs.MutualLaws.{leads_in_lem}
use Rattle.graph.proofs.Gathers.{completed-laws}
use Rattle.signal.specs.Signal.{Sources, is_left, free, lowest, put, listed, first_out, behind, back, back_from, Signalled, ordered, cyclic, signalled_by, sources_in, signalled, completed_of, signals, signal}
use Rattle.signal.specs.declared.NoOrder.{NoOrder}
use Rattle.signal.specs.declared.NoOrder.TheVariants.{Cycle as CycleShown}
use Rattle.signal.specs.Outcome.{Nodes, nodes_held, answer_of, numbers_in}
use Rattle.signal.proofs.Lowest.{Lowest, is_lowest}
use Rattle.signal.specs.Laws.{Leads, Order, nodes_of, Signals, FewNodes, IsSignalOrder}

-- ---- what all of them pass, one passes
all_tested : (t : ℕ → Bool) (q : ℕ) (qs : List ℕ) → all_of t qs ≡ true → has q qs ≡ true → t q ≡ true
all_tested t q qs e h = let p = place_in q qs h in subst (λ (z : ℕ). t z ≡ true) p.1 (test_at t 0 qs (place_of q qs) p.0 e)

-- ---- the first that is not listed
record Out (done qs : List ℕ) (q : ℕ) : Type 0 where
  there : has q qs ≡ true
  unlisted : has q done ≡ false

out_more : (done : List ℕ) (x : ℕ) (qs : List ℕ) (q : ℕ) → Out done qs q → Out done (x ∷ qs) q
out_more done x qs q o = record { there = has_more q x qs o.there; unlisted = o.unlisted }

first_out_lem : (done qs : List ℕ) → all_of (λ q. has q done) qs ≡ false → Out done qs (first_out done qs)
first_out_lem done [] e = absurd (true≢false e)
first_out_lem done (x ∷ qs) e = go (has x done) refl e (first_out_lem done qs)
  where
    go : (b : Bool) → has x done ≡ b → (b && all_of (λ q. has q done) qs) ≡ false → (all_of (λ q. has q done) qs ≡ false → Out done qs (first_out done qs)) → Out done (x ∷ qs) (cond b (first_out done qs) x)
    go true i e f = out_more done x qs (first_out done qs) (f e)
    go false i e f = record { there = has_first x qs; unlisted = i }

module _ (n : ℕ) (src : Sources) where
  -- ---- the list after k turns
  pub record Listed (k : ℕ) (done : List ℕ) : Type 0 where
    pub once : Distinct done
    pub inside : All (λ p. p < n) done
    pub turns : (length done ≡ k) ⊎ (lowest n (free src done) 0 ≡ n)
    pub frees : (i : ℕ) → i < length done → free src (take i done) (get_or done i 0) ≡ true
    pub lows : (i q : ℕ) → i < length done → q < get_or done i 0 → free src (take i done) q ≡ false

  module _ (k : ℕ) (done : List ℕ) (a : Listed k done) (r : ℕ) (o : Lowest (free src done) n 0 r) (e : lowest n (free src done) 0 ≡ r) where
    -- an entry of the longer list, at a place before the last, and at the last
    module _ (P : List ℕ → ℕ → Type 0) (at : (i : ℕ) → i < length done → P (take i done) (get_or done i 0)) (last : P done r) where
      one_more : (i : ℕ) → i < length (done ++ one r) → P (take i (done ++ one r)) (get_or (done ++ one r) i 0)
      one_more i h = go (less? i (length done))
        where
          go : (i < length done) ⊎ (length done ≤ i) → P (take i (done ++ one r)) (get_or (done ++ one r) i 0)
          go (inl l) =
              let m : i ≤ length done = omega arith in
              rw (take-append-le i done (one r) m, get_or-append done (one r) 0 i l) (at i l)
          go (inr l) =
              let z : length done ≡ i = omega (arith, length-one done r) in
              subst (λ (j : ℕ). P (take j (done ++ one r)) (get_or (done ++ one r) j 0)) z (rw (take-append_seam done (one r), get_or-append_seam done r [] 0) last)

    free_parts : r < n → (has r done ≡ false) × (all_of (λ q. has q done) (src r) ≡ true)
    free_parts h = let b = (and-eq-true_iff (not (has r done)) (all_of (λ q. has q done) (src r))).0 (o.passes (omega arith)) in (not-true (has r done) b.0, b.1)

    placed : r < n → Listed (suc k) (done ++ one r)
    placed h =
        record {
          once = distinct-one done r a.once (free_parts h).0;
          inside = all_join (λ p. p < n) done (one r) a.inside (h, tt);
          turns = inl (long a.turns);
          frees = one_more (λ d p. free src d p ≡ true) a.frees (o.passes (omega arith));
          lows = λ i q h l. one_more (λ d p. (q : ℕ) → q < p → free src d q ≡ false) (λ j m q l. a.lows j q m l) (λ q l. o.none q (omega arith) l) i h q l;
        }
      where
        long : (length done ≡ k) ⊎ (lowest n (free src done) 0 ≡ n) → length (done ++ one r) ≡ suc k
        long (inl i) = omega (arith, length-one done r)
        long (inr i) = absurd (omega arith)

    stuck : n ≤ r → Listed (suc k) done
    stuck h =
        record {
          once = a.once;
          inside = a.inside;
          turns = inr (let w = o.within in omega arith);
          frees = a.frees;
          lows = a.lows;
        }

    turned : Listed (suc k) (put n done r)
    turned = pick-by (Listed (suc k)) (ltb r n) (done ++ one r) done (λ t. placed (ltb-true r n t)) (λ t. stuck (ltb-false r n t))

  is_listed : Listed n (listed n src n)
  unfolding listed
  is_listed =
      each_holds Listed (λ i done. put n done (lowest n (free src done) 0)) n
      (λ k done h a. turned k done a (lowest n (free src done) 0) (is_lowest (free src done) n 0) refl) []
      (record { once = tt; inside = tt; turns = inl refl; frees = λ i h. absurd (not-suc-le-zero h); lows = λ i q h l. absurd (not-suc-le-zero h) }) n (omega arith)

  -- p is a source of q
  abbrev From : ℕ → ℕ → Type 0
  From p q = has p (src q) ≡ true

  module _ (aims : (p q : ℕ) → From p q → (p < n) × (q < n)) where
    -- ---- all are listed
    module _ (os : List ℕ) (a : Listed n os) (long : length os ≡ n) where
      all_in : (p : ℕ) → p < n → has p os ≡ true
      all_in p h = every n os a.once a.inside (omega arith) p h

      comes_after : (p q : ℕ) → From p q → place_of p os < place_of q os
      comes_after p q e =
          let h = place_in q os (all_in q (aims p q e).1) in
          let f : free src (take (place_of q os) os) q ≡ true = subst (λ (z : ℕ). free src (take (place_of q os) os) z ≡ true) h.1 (a.frees (place_of q os) h.0) in
          let l : all_of (λ x. has x (take (place_of q os) os)) (src q) ≡ true = ((and-eq-true_iff (not (has q (take (place_of q os) os))) (all_of (λ x. has x (take (place_of q os) os)) (src q))).0 f).1 in
          place-early p (place_of q os) os (all_tested (λ x. has x (take (place_of q os) os)) p (src q) l e)

      unknotted : (cs : List ℕ) → Cycle From cs → ⊥
      unknotted = no-cycle From (λ p. place_of p os) comes_after

    -- ---- some are left
    module _ (done : List ℕ) (a : Listed n done) (short : length done ≡ n → ⊥) where
      none_free : lowest n (free src done) 0 ≡ n
      none_free = go a.turns
        where
          go : (length done ≡ n) ⊎ (lowest n (free src done) 0 ≡ n) → lowest n (free src done) 0 ≡ n
          go (inl e) = absurd (short e)
          go (inr e) = e

      waits : (p : ℕ) → p < n → free src done p ≡ false
      waits p h = (is_lowest (free src done) n 0).none p (omega arith) (omega (arith, none_free))

      -- a node left has a source left
      source_left : (p : ℕ) → p < n → has p done ≡ false → Out done (src p) (behind src done p)
      source_left p h e = first_out_lem done (src p) (go (has p done) e (waits p h))
        where
          go : (b : Bool) → b ≡ false → (not b && all_of (λ q. has q done) (src p)) ≡ false → all_of (λ q. has q done) (src p) ≡ false
          go true i f = absurd (true≢false i)
          go false i f = f

      -- the head is a node that is left
      abbrev Good : List ℕ → Type 0
      Good [] = ⊥
      Good (x ∷ rest) = (x < n) × (has x done ≡ false)

      -- where the walk back begins
      abbrev begin : ℕ
      begin = lowest n (is_left done) 0

      some_left : begin < n
      some_left = go (less? begin n)
        where
          o : Lowest (is_left done) n 0 begin
          o = is_lowest (is_left done) n 0

          go : (begin < n) ⊎ (n ≤ begin) → begin < n
          go (inl h) = h
          go (inr h) =
              let m : n ≤ length done = many n done (λ q l. not-false (has q done) (o.none q (omega arith) (omega arith))) in
              let l : length done ≤ n = few n done a.once a.inside in
              absurd (short (omega arith))

      starts : (begin < n) × (has begin done ≡ false)
      starts = (some_left, not-true (has begin done) ((is_lowest (is_left done) n 0).passes (let h = some_left in omega arith)))

      below : (x : ℕ) (rest : List ℕ) → Good (x ∷ rest) → back src done (x ∷ rest) < n
      below x rest g = (aims (behind src done x) x (source_left x g.0 g.1).there).0

      related : (x : ℕ) (rest : List ℕ) → Good (x ∷ rest) → From (back src done (x ∷ rest)) x
      related x rest g = (source_left x g.0 g.1).there

      goes_on : (x : ℕ) (rest : List ℕ) → Good (x ∷ rest) → has (back src done (x ∷ rest)) (x ∷ rest) ≡ false → Good (back src done (x ∷ rest) ∷ x ∷ rest)
      goes_on x rest g e = (below x rest g, (source_left x g.0 g.1).unlisted)

      shown : Cycle From (back_from n src done)
      unfolding back_from
      shown = walk_cycle n From (back src done) Good below related goes_on (n - 1) begin starts starts.0 (omega arith)

      -- the walk back ends by itself: no bound is used up
      pub back_enough : (more : ℕ) → walk (back src done) (n - 1 + more) (one begin) ≡ back_from n src done
      unfolding back_from
      back_enough more = walk_enough n From (back src done) Good below related goes_on more (n - 1) begin starts starts.0 (omega arith)

    -- ---- an order, or a cycle
    record Told (r : Signalled) : Type 0 where
      told : ((os : List ℕ) × (r ≡ ordered os) × Listed n os × (length os ≡ n)) ⊎ ((cs : List ℕ) × (r ≡ cyclic cs) × Cycle From cs)

    tells : Told (signalled_by n src)
    tells =
        pick-by Told (eqb (length done) n) (ordered done) (cyclic (back_from n src done))
        (λ e. record { told = inl (done, refl, is_listed, eqb-true (length done) n e) })
        (λ e. record { told = inr (back_from n src done, refl, shown done is_listed (eqb-false (length done) n e)) })
      where
        done : List ℕ
        done = listed n src n

ok_is : (t u : Nodes) → ◌≡◌ {A = Result Nodes NoOrder} (Ok t) (Ok u) → t ≡ u
ok_is t u e = cc

err_is : (t u : Nodes) → ◌≡◌ {A = Result Nodes NoOrder} (Err (CycleShown t)) (Err (CycleShown u)) → t ≡ u
err_is t u e = cc

-- ---- of a graph whose sources and sinks lead to nodes and name each other
module _ (g : Shape) (inside : (p q : ℕ) → Leads g p q → (p < length g) × (q < length g))
    (both : (p q : ℕ) → has q (incidents_at g p).sinks ≡ has p (incidents_at g q).sources) where
  abbrev src : Sources
  src = sources_in g

  sunk : (p q : ℕ) → From (length g) src p q → Leads g p q
  sunk p q e = both p q ∙ e

  sourced : (p q : ℕ) → Leads g p q → From (length g) src p q
  sourced p q e = sym (both p q) ∙ e

  aims : (p q : ℕ) → From (length g) src p q → (p < length g) × (q < length g)
  aims p q e = inside p q (sunk p q e)

  is-order : (os : List ℕ) → Listed (length g) src (length g) os → length os ≡ length g → Order g os
  is-order os a long =
      record {
        count = long;
        once = a.once;
        every = all_in (length g) src aims os a long;
        after = λ p q e. comes_after (length g) src aims os a long p q (sourced p q e);
        frees = λ i h. a.frees i (omega (arith, long));
        lowest = λ i q h l. a.lows i q (omega (arith, long)) l;
      }

  cycle-inside : (cs : List ℕ) → Cycle (Leads g) cs → All (λ p. p < length g) cs
  cycle-inside = cycle-all (Leads g) (λ p. p < length g) (λ p q e. (inside p q e).0)

  module _ (s : List ℕ) (given-nodes : length g ≡ get_or s 1 0) (few-nodes : length g ≤ 32) (r : Result Nodes NoOrder) (w : r ≡ answer_of (signalled g)) where
    -- the nodes handed over are the list
    handed-is : (l : List ℕ) → length l ≤ 32 → nodes_of (nodes_held l) ≡ l
    handed-is l h = take-padded 32 0 l h

    ok_err : {A : Type 0} (t u : Nodes) → ◌≡◌ {A = Result Nodes NoOrder} (Ok t) (Err (CycleShown u)) → A
    ok_err t u e = let z : ◌≡◌ {A = ℕ} 0 1 = cc in absurd (omega arith)

    -- the count is within the array, and the promise
    pub says : FewNodes r × Signals s g r
    says = go (tells (length g) src aims).told
      where
        go : ((os : List ℕ) × (signalled g ≡ ordered os) × Listed (length g) src (length g) os × (length os ≡ length g)) ⊎ ((cs : List ℕ) × (signalled g ≡ cyclic cs) × Cycle (From (length g) src) cs) → FewNodes r × Signals s g r
        go (inl t) =
            let v : r ≡ Ok (nodes_held t.0) = w ∙ ap answer_of t.1 in
            let e : nodes_of (nodes_held t.0) ≡ t.0 = handed-is t.0 (omega (arith, t.3)) in (
              rw v (omega (arith, t.3)),
              record {
                nodes = given-nodes;
                both = both;
                inside = rw (v, e) t.2.inside;
                either = inl (nodes_held t.0, v);
                order = λ u h. let z : nodes_held t.0 ≡ u = ok_is (nodes_held t.0) u (sym v ∙ h) in rw (← z, e) (is-order t.0 t.2 t.3);
                cycle = λ u h. ok_err (nodes_held t.0) u (sym v ∙ h);
                refused = λ cs c. absurd (unknotted (length g) src aims t.0 t.2 t.3 cs (cycle-by (Leads g) (From (length g) src) sourced cs c));
                given = λ h. (nodes_held t.0, v);
              },
            )
        go (inr t) =
            let v : r ≡ Err (CycleShown (nodes_held t.0)) = w ∙ ap answer_of t.1 in
            let c : Cycle (Leads g) t.0 = cycle-by (From (length g) src) (Leads g) sunk t.0 t.2 in
            let f : length t.0 ≤ length g = few (length g) t.0 c.distinct (cycle-inside t.0 c) in
            let e : nodes_of (nodes_held t.0) ≡ t.0 = handed-is t.0 (omega arith) in (
              rw v (omega arith),
              record {
                nodes = given-nodes;
                both = both;
                inside = rw (v, e) (cycle-inside t.0 c);
                either = inr (nodes_held t.0, v);
                order = λ u h. ok_err u (nodes_held t.0) (sym h ∙ v);
                cycle = λ u h. let z : nodes_held t.0 ≡ u = err_is (nodes_held t.0) u (sym v ∙ h) in rw (← z, e) c;
                refused = λ cs h. (nodes_held t.0, v);
                given = λ h. absurd (h t.0 c);
              },
            )

-- ---- the shape of a completed graph
leads-has : (es : List Edge) (q : ℕ) → has q (targets es) ≡ leads_to es q
leads-has [] q = refl
leads-has (e ∷ es) q = ap (λ (b : Bool). eqb e.to q || b) (leads-has es q)

module _ (g : Graph) where
  sinks-at : (p q : ℕ) → has q (incidents_at (shape_of g) p).sinks ≡ leads_to (node_at g p).sinks q
  sinks-at p q = ap (λ (x : Incidents). has q x.sinks) (shape_at g p) ∙ leads-has (node_at g p).sinks q

  sources-at : (p q : ℕ) → has p (incidents_at (shape_of g) q).sources ≡ leads_to (node_at g q).sources p
  sources-at p q = ap (λ (x : Incidents). has p x.sources) (shape_at g q) ∙ leads-has (node_at g q).sources p

  shape-both : Mutual g → (p q : ℕ) → has q (incidents_at (shape_of g) p).sinks ≡ has p (incidents_at (shape_of g) q).sources
  shape-both m p q = sinks-at p q ∙ m p q ∙ sym (sources-at p q)

  shape-inside : Aimed (length g) g → (p q : ℕ) → Leads (shape_of g) p q → (p < length (shape_of g)) × (q < length (shape_of g))
  shape-inside a p q e =
      let l : leads_to (node_at g p).sinks q ≡ true = sym (sinks-at p q) ∙ e in
      rw (shape-long g) (begins l (less? p (length g)), leads_in_lem (length g) (node_at g p).sinks q (node-aims (length g) g p a).sinks l)
    where
      begins : leads_to (node_at g p).sinks q ≡ true → (p < length g) ⊎ (length g ≤ p) → p < length g
      begins l (inl h) = h
      begins l (inr h) = absurd (false≢true (ap (λ (x : Node). leads_to x.sinks q) (sym (get_or-eq_default g bare h)) ∙ l))

-- ---- the promise, from the answer's equation alone
module _ (s : List ℕ) (r : Result Nodes NoOrder) (w : r ≡ answer_of (signal s)) where
  read_is : (c : Reading) → chart Strict s ≡ c → r ≡ answer_of (signals c)
  unfolding signal
  read_is c e = w ∙ ap (λ (x : Reading). answer_of (signals x)) e

  accepts : (ps : Board) → chart Strict s ≡ accepted ps → FewNodes r × Signals s (completed_of ps) r
  accepts ps e =
      let g : Graph = complete (given_graph ps) in
      let l : CompletedLaws s (given_graph ps) g = completed-laws s ps e in
      says (shape_of g) (shape-inside g l.aimed) (shape-both g l.both) s (shape-long g ∙ l.nodes) (omega (arith, shape-long g, l.few)) r (read_is (accepted ps) e)

  count-few : (c : Reading) → chart Strict s ≡ c → FewNodes r
  count-few (accepted ps) e = (accepts ps e).0
  count-few (unread why) e = rw (read_is (unread why) e) tt

  pub is-signal-order : IsSignalOrder s r
  is-signal-order =
      record {
        whole = w;
        few = count-few (chart Strict s) refl;
        refused = λ why e. read_is (unread why) e;
        numbers = λ why e. ap numbers_in (read_is (unread why) e);
        laws = λ ps e. (accepts ps e).1;
      }
