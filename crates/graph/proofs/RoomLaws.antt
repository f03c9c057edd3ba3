-- Completion leaves at most 64 sources and at most 64 sinks.
-- A sink is gained only by an unmarked source, which is then marked: sinks and unmarked sources together do not grow.
-- A source is gained only by a given sink that leads to a node, once: a sink that was gained has its source. So sources and the given sinks of this
-- kind that are not yet gone through do not grow. The others each give a source in joining, and an unmarked source that leads to nothing gives a sink.
-- Assumes nothing.
use Prim.Native.Nat.{ℕ, zero, suc, ◌+◌, ◌≤◌, ◌<◌}
use native.Mathlib.Omega.{arith}
use native.Mathlib.Nat.{le_of_suc-le-suc, not-suc-le-zero}
use mathlib.Core.Path.{◌≡◌, refl, ap, sym, ◌∙◌, subst}
use mathlib.Core.Bool.{Bool, true, false, cond, ◌&&◌, ◌||◌}
use mathlib.Core.Option.{Option, none, some}
use mathlib.Core.Logic.{◌⊎◌, inl, inr, ⊎_elim}
use mathlib.Core.List.{List, [], ◌∷◌, ◌++◌, map, map-append}
use lib.Dec.{eqb, ltb}
use lib.ListN.{length, get_or, set, drop, length-map, length-set, length-append, get_or-append}
use lib.Seq.{map-set_same, get_or-append_seam, drop-cons}
use borrow.Author.Tests.{eq-eqb, ltb-true, ltb-false, lt-ltb}
use Rattle.laws.proofs.Each.{each_holds}
use Rattle.laws.specs.Lists.{All, one, tally}
use Rattle.laws.proofs.Lists.{all_map}
use Rattle.laws.proofs.Tests.{pick, pick-by}
use Rattle.graph.specs.Graph.{Edge, Node, Graph, no_text, no_edge, bare, node_at, degree, is_mark, leads_to, has_marked, with_sources, with_sinks}
use Rattle.graph.specs.Completion.{gain_source, complete_sinks, marked, gain_sink, complete_node, complete}
use Rattle.graph.specs.Cutting.{turned, pointed, first_node, second_node, cut_graph, reached, cutting}
use Rattle.graph.specs.Joining.{outside}
use Rattle.graph.specs.Laws.{SinkAt, Names, ends}
use Rattle.graph.proofs.Keeps.{cutting_keeps}
use Rattle.graph.proofs.Pairs.{false_true, or_mono, or_right, and_false}
use Rattle.graph.proofs.Completes.{unmark, SourceAt, sinks_in, sources_in, sinks-at, gain_source_sinks, gain-sink-sources, sources_hold, complete-holds, drop_head}
use Rattle.graph.proofs.AimLaws.{all_in}
use Rattle.graph.proofs.MarkLaws.{node-set, node-same, Good, moved, gain_source_good, gain-sink-good, h₂, k₂, both, sources-same}
use Rattle.graph.proofs.Joins.{either}
use Rattle.graph.proofs.JoinLaws.{either-by, bare-lead, outers}

-- ---- totals over the nodes
abbrev sum : List ℕ → ℕ
sum [] = 0
sum (x ∷ xs) = x + sum xs

abbrev total : (Node → ℕ) → Graph → ℕ
total f g = sum (map f g)

total-same : (f : Node → ℕ) (g : Graph) (p : ℕ) (x : Node) → f x ≡ f (node_at g p) → total f (set g p x) ≡ total f g
total-same f g p x e = ap sum (map-set_same f g p x bare e)

total-set : (f : Node → ℕ) (g : Graph) (p : ℕ) (x : Node) → p < length g → total f (set g p x) + f (node_at g p) ≡ total f g + f x
total-set f [] p x h = absurd (not-suc-le-zero h)
total-set f (y ∷ g) zero x h = omega arith
total-set f (y ∷ g) (suc p) x h = omega (arith, total-set f g p x (le_of_suc-le-suc h))

pub ends-total : (list : Node → List Edge) (g : Graph) → ends list g ≡ total (λ (x : Node). length (list x)) g
ends-total list [] = refl
ends-total list (x ∷ g) = ap (λ (k : ℕ). length (list x) + k) (ends-total list g)

abbrev sink_count : Node → ℕ
sink_count x = length x.sinks

abbrev source_count : Node → ℕ
source_count x = length x.sources

-- ---- unmarked sources
abbrev none_is : Option ℕ → Bool
none_is none = true
none_is (some i) = false

abbrev bares : List Edge → ℕ
bares [] = 0
bares (e ∷ es) = tally (none_is e.mark) (bares es)

abbrev bare_count : Node → ℕ
bare_count x = bares x.sources

bares-more : (es : List Edge) (e : Edge) (i : ℕ) → e.mark ≡ some i → bares (es ++ one e) ≡ bares es
bares-more [] e i z = ap (λ (m : Option ℕ). tally (none_is m) 0) z
bares-more (x ∷ es) e i z = ap (tally (none_is x.mark)) (bares-more es e i z)

tally-less : (b : Bool) {m n : ℕ} → suc m ≡ n → suc (tally b m) ≡ tally b n
tally-less true e = ap suc e
tally-less false e = e

bares-set : (es : List Edge) (j : ℕ) (y : Edge) (i : ℕ) → j < length es → (get_or es j no_edge).mark ≡ none → y.mark ≡ some i → suc (bares (set es j y)) ≡ bares es
bares-set [] j y i h a b = absurd (not-suc-le-zero h)
bares-set (x ∷ es) zero y i h a b = ap (λ (m : Option ℕ). suc (tally (none_is m) (bares es))) b ∙ sym (ap (λ (m : Option ℕ). tally (none_is m) (bares es)) a)
bares-set (x ∷ es) (suc j) y i h a b = tally-less (none_is x.mark) (bares-set es j y i (le_of_suc-le-suc h) a b)

-- ---- what a list of edges has
leads-at : (es : List Edge) (i p : ℕ) → i < length es → (get_or es i no_edge).to ≡ p → leads_to es p ≡ true
leads-at [] i p h e = absurd (not-suc-le-zero h)
leads-at (x ∷ es) zero p h e = ap (λ (b : Bool). b || leads_to es p) (eq-eqb x.to p e)
leads-at (x ∷ es) (suc i) p h e = or_right (eqb x.to p) (leads-at es i p (le_of_suc-le-suc h) e)

marked_append : (es : List Edge) (e : Edge) (p i : ℕ) → has_marked es p i ≡ true → has_marked (es ++ one e) p i ≡ true
marked_append [] e p i h = false_true h
marked_append (x ∷ es) e p i h = or_mono (eqb x.to p && is_mark x.mark i) (marked_append es e p i) h

-- an unmarked edge gains a mark
marked-set : (es : List Edge) (j : ℕ) (y : Edge) (p i : ℕ) → (get_or es j no_edge).mark ≡ none → has_marked es p i ≡ true → has_marked (set es j y) p i ≡ true
marked-set [] j y p i z h = h
marked-set (x ∷ es) zero y p i z h =
    or_right (eqb y.to p && is_mark y.mark i)
    (sym (ap (λ (b : Bool). b || has_marked es p i) (ap (λ (m : Option ℕ). eqb x.to p && is_mark m i) z ∙ and_false (eqb x.to p))) ∙ h)
marked-set (x ∷ es) (suc j) y p i z h = or_mono (eqb x.to p && is_mark x.mark i) (marked-set es j y p i z) h

marked-new : (es : List Edge) (j : ℕ) (y : Edge) (p i : ℕ) → j < length es → y.to ≡ p → y.mark ≡ some i → has_marked (set es j y) p i ≡ true
marked-new [] j y p i h a b = absurd (not-suc-le-zero h)
marked-new (x ∷ es) zero y p i h a b =
    ap (λ (c : Bool). (c && is_mark y.mark i) || has_marked es p i) (eq-eqb y.to p a)
    ∙ ap (λ (m : Option ℕ). is_mark m i || has_marked es p i) b
    ∙ ap (λ (c : Bool). c || has_marked es p i) (eq-eqb i i refl)
marked-new (x ∷ es) (suc j) y p i h a b = or_right (eqb x.to p && is_mark x.mark i) (marked-new es j y p i (le_of_suc-le-suc h) a b)

-- ---- the edges that lead to one of the first n nodes
abbrev inner : ℕ → List Edge → ℕ
inner n [] = 0
inner n (e ∷ es) = cond (ltb e.to n) (suc (inner n es)) (inner n es)

inner-outside : (n : ℕ) (es : List Edge) → inner n es + outside n es ≡ length es
inner-outside n [] = refl
inner-outside n (e ∷ es) =
    either (λ c. cond c (suc (inner n es)) (inner n es) + cond c (outside n es) (suc (outside n es)) ≡ suc (length es))
    (omega (arith, inner-outside n es)) (omega (arith, inner-outside n es)) (ltb e.to n)

inner_cons : (n : ℕ) (e : Edge) (es : List Edge) → inner n es ≤ inner n (e ∷ es)
inner_cons n e es = either (λ c. inner n es ≤ cond c (suc (inner n es)) (inner n es)) (omega arith) (omega arith) (ltb e.to n)

inner-less : (n : ℕ) (es : List Edge) (i : ℕ) → inner n (drop (suc i) es) ≤ inner n (drop i es)
inner-less n [] zero = omega arith
inner-less n [] (suc i) = omega arith
inner-less n (e ∷ es) zero = inner_cons n e es
inner-less n (e ∷ es) (suc i) = inner-less n es i

-- one of them gone through
inner-next : (n : ℕ) (es : List Edge) (i : ℕ) → i < length es → (get_or es i no_edge).to < n → inner n (drop i es) ≡ suc (inner n (drop (suc i) es))
inner-next n es i h l = ap (inner n) (drop-cons es i no_edge h) ∙ ap (λ (c : Bool). cond c (suc (inner n (drop (suc i) es))) (inner n (drop (suc i) es))) (lt-ltb (get_or es i no_edge).to n l)

-- ---- what holds before each step; g₀ is the graph that was given, m the number of its sources and sinks
module _ (n m : ℕ) (g₀ : Graph) where
  abbrev d₀ : ℕ → ℕ
  d₀ p = degree g₀ p

  -- the sinks of p that have yet to be gone through, from number i on
  abbrev due : ℕ → ℕ → ℕ
  due p i = inner n (drop i (node_at g₀ p).sinks)

  -- a sink that was gained has its source
  abbrev Paired : Graph → Type 0
  Paired g = (p i q : ℕ) → d₀ p ≤ i → SinkAt g p i q → has_marked (node_at g q).sources p i ≡ true

  pub record Roomed (g : Graph) : Type 0 where
    pub good : Good n g
    pub paired : Paired g
    pub front : (p i q : ℕ) → SinkAt g₀ p i q → SinkAt g p i q
    pub room : total sink_count g + total bare_count g ≤ m

  -- ---- sink i of p gains its source
  module _ (g : Graph) (p i q : ℕ) (l : p < n) (q-in : q < length g) (s : SinkAt g p i q) (a : Roomed g) where
    abbrev es : List Edge
    es = (node_at g q).sources

    abbrev new : Edge
    new = record { to = p; mark = some i; text = no_text }

    abbrev h : Graph
    h = with_sources g q (es ++ one new)

    h_sinks : (r : ℕ) → (node_at h r).sinks ≡ (node_at g r).sinks
    h_sinks r = sinks-at g h (map-set_same (λ (y : Node). y.sinks) g q _ bare refl) r

    h_paired : Paired h
    h_paired r k x o t =
        let t' : SinkAt g r k x = record { inside = rw (h_sinks r) at t.inside; leads = rw (h_sinks r) at t.leads } in
        let old : has_marked (node_at g x).sources r k ≡ true = a.paired r k x o t' in
        node-set (λ (y : Node). has_marked y.sources r k ≡ true) g q _ x
        (λ z. marked_append es new r k (subst (λ (j : ℕ). has_marked (node_at g j).sources r k ≡ true) z old)) old

    h_room : total sink_count h + total bare_count h ≤ m
    h_room = omega (arith, a.room, total-same sink_count g q (record { sources = es ++ one new; lines = (node_at g q).lines; sinks = (node_at g q).sinks }) refl, total-same bare_count g q (record { sources = es ++ one new; lines = (node_at g q).lines; sinks = (node_at g q).sinks }) (bares-more es new i refl))

    gains_source : Roomed (gain_source g p i q)
    gains_source =
        record {
          good = gain_source_good n g p i q l q-in s a.good;
          paired = pick Paired (has_marked es p i) g h a.paired h_paired;
          front = pick (λ u. (r k x : ℕ) → SinkAt g₀ r k x → SinkAt u r k x) (has_marked es p i) g h a.front (λ r k x t. moved g p i q s a.good.marks r k x (a.front r k x t));
          room = pick (λ u. total sink_count u + total bare_count u ≤ m) (has_marked es p i) g h a.room h_room;
        }

    -- at most one more, and none for a sink that was gained
    gains_count : total source_count (gain_source g p i q) + due p (suc i) ≤ total source_count g + due p i
    gains_count =
        pick-by (λ u. total source_count u + due p (suc i) ≤ total source_count g + due p i) (has_marked es p i) g h (λ z. omega (arith, inner-less n (node_at g₀ p).sinks i))
        (λ z.
        let few : i < d₀ p = below z (ltb i (d₀ p)) refl in
        let to_is : (get_or (node_at g₀ p).sinks i no_edge).to ≡ q = sym (a.front p i (get_or (node_at g₀ p).sinks i no_edge).to (record { inside = few; leads = refl })).leads ∙ s.leads in
        let next : due p i ≡ suc (due p (suc i)) = inner-next n (node_at g₀ p).sinks i few (omega (arith, to_is, q-in, a.good.long)) in
        omega (arith, next, total-set source_count g q (record { sources = es ++ one new; lines = (node_at g q).lines; sinks = (node_at g q).sinks }) q-in, length-append es (one new)))
      where
        below : has_marked es p i ≡ false → (b : Bool) → ltb i (d₀ p) ≡ b → i < d₀ p
        below z true e = ltb-true i (d₀ p) e
        below z false e = false_true (sym z ∙ a.paired p i q (ltb-false i (d₀ p) e) s)

  -- ---- source j of p gains its sink
  module _ (g : Graph) (p j : ℕ) (e : Edge) (l : p < n) (q-in : e.to < length g) (s : SourceAt g p j e) (a : Roomed g) (lack : leads_to (node_at g e.to).sinks p ≡ false) where
    abbrev q₁ : ℕ
    q₁ = e.to

    abbrev ys : List Edge
    ys = (node_at g q₁).sinks

    abbrev sink : Edge
    sink = record { to = p; mark = none; text = no_text }

    abbrev h₁ : Graph
    h₁ = h₂ n g p j e l q-in s a.good

    abbrev xs : List Edge
    xs = (node_at h₁ p).sources

    abbrev k₁ : Graph
    k₁ = k₂ n g p j e l q-in s a.good

    same : (r : ℕ) → (node_at h₁ r).sources ≡ (node_at g r).sources
    same = sources-same n g p j e l q-in s a.good

    to_is : (get_or (node_at g p).sources j no_edge).to ≡ q₁
    to_is = ap (λ (x : Edge). x.to) s.is

    unmarked_by : (m : Option ℕ) → (get_or (node_at g p).sources j no_edge).mark ≡ m → m ≡ none
    unmarked_by none z = refl
    unmarked_by (some i) z =
        let t : SinkAt g (get_or (node_at g p).sources j no_edge).to i p = all_in (Names g p) (node_at g p).sources j no_edge s.inside (a.good.marks p) i z in
        let u : SinkAt g q₁ i p = subst (λ (k : ℕ). SinkAt g k i p) to_is t in
        false_true (sym lack ∙ leads-at ys i p u.inside u.leads)

    bare_j : (get_or xs j no_edge).mark ≡ none
    bare_j = ap (λ (es : List Edge). (get_or es j no_edge).mark) (same p) ∙ unmarked_by (get_or (node_at g p).sources j no_edge).mark refl

    j_in : j < length xs
    j_in = rw (same p) s.inside

    p_in : p < length h₁
    p_in = rw (length-set g q₁ (record { sources = (node_at g q₁).sources; lines = (node_at g q₁).lines; sinks = ys ++ one sink })) (rw a.good.long l)

    k_room : total sink_count k₁ + total bare_count k₁ ≤ m
    k_room =
        let x : Node = record { sources = (node_at g q₁).sources; lines = (node_at g q₁).lines; sinks = ys ++ one sink } in
        let y : Node = record { sources = set xs j (marked (length ys) e); lines = (node_at h₁ p).lines; sinks = (node_at h₁ p).sinks } in
        omega (
          arith,
          a.room,
          total-set sink_count g q₁ x q-in,
          length-append ys (one sink),
          total-same bare_count g q₁ x refl,
          total-same sink_count h₁ p y refl,
          total-set bare_count h₁ p y p_in,
          bares-set xs j (marked (length ys) e) (length ys) j_in bare_j refl,
        )

    -- a sink of k₁ is one of g, or the new one
    abbrev Old : ℕ → ℕ → ℕ → Type 0
    Old r i x = SinkAt g r i x ⊎ ((r ≡ q₁) × (i ≡ length ys) × (x ≡ p))

    new_or_old : (r i x : ℕ) → r ≡ q₁ → i < length (ys ++ one sink) → (get_or (ys ++ one sink) i no_edge).to ≡ x → (b : Bool) → ltb i (length ys) ≡ b → Old r i x
    new_or_old r i x z t u true w =
        let k : i < length ys = ltb-true i (length ys) w in
        inl
        (subst (λ (o : ℕ). SinkAt g o i x) (sym z)
        (record { inside = k; leads = sym (ap (λ (y : Edge). y.to) (get_or-append ys (one sink) no_edge i k)) ∙ u }))
    new_or_old r i x z t u false w =
        let k : i ≡ length ys = omega (arith, t, length-append ys (one sink), ltb-false i (length ys) w) in
        inr (z, k, sym u ∙ ap (λ (o : ℕ). (get_or (ys ++ one sink) o no_edge).to) k ∙ ap (λ (y : Edge). y.to) (get_or-append_seam ys sink [] no_edge))

    k_sinks : (r : ℕ) → (node_at k₁ r).sinks ≡ (node_at h₁ r).sinks
    k_sinks r = sinks-at h₁ k₁ (map-set_same (λ (y : Node). y.sinks) h₁ p _ bare refl) r

    old : (r i x : ℕ) → SinkAt k₁ r i x → Old r i x
    old r i x t =
        node-set (λ (y : Node). i < length y.sinks → (get_or y.sinks i no_edge).to ≡ x → Old r i x) g q₁ _ r
        (λ z u v. new_or_old r i x z u v (ltb i (length ys)) refl)
        (λ u v. inl (record { inside = u; leads = v }))
        (rw (k_sinks r) at t.inside) (rw (k_sinks r) at t.leads)

    kept_mark : (r i x : ℕ) → has_marked (node_at g x).sources r i ≡ true → has_marked (node_at k₁ x).sources r i ≡ true
    kept_mark r i x w =
        let v : has_marked (node_at h₁ x).sources r i ≡ true = rw (same x) w in
        node-set (λ (y : Node). has_marked y.sources r i ≡ true) h₁ p _ x
        (λ z. marked-set xs j (marked (length ys) e) r i bare_j (subst (λ (o : ℕ). has_marked (node_at h₁ o).sources r i ≡ true) z v)) v

    new_mark : has_marked (node_at k₁ p).sources q₁ (length ys) ≡ true
    new_mark =
        let y : Node = record { sources = set xs j (marked (length ys) e); lines = (node_at h₁ p).lines; sinks = (node_at h₁ p).sinks } in
        ap (λ (o : Node). has_marked o.sources q₁ (length ys)) (node-same h₁ p y p_in) ∙ marked-new xs j (marked (length ys) e) q₁ (length ys) j_in refl refl

    k_paired : Paired k₁
    k_paired r i x o t =
        ⊎_elim (λ u. kept_mark r i x (a.paired r i x o u))
        (λ u.
        subst (λ (c : ℕ). has_marked (node_at k₁ x).sources c i ≡ true) (sym u.0)
        (subst (λ (c : ℕ). has_marked (node_at k₁ x).sources q₁ c ≡ true) (sym u.1)
        (subst (λ (c : ℕ). has_marked (node_at k₁ c).sources q₁ (length ys) ≡ true) (sym u.2) new_mark)))
        (old r i x t)

  gains_sink : (g : Graph) (p j : ℕ) (e : Edge) → p < n → e.to < length g → SourceAt g p j e → Roomed g → Roomed (gain_sink g p j e)
  gains_sink g p j e l q-in s a =
      pick-by Roomed (leads_to (node_at g e.to).sinks p) g (k₂ n g p j e l q-in s a.good) (λ z. a)
      (λ z.
      record {
        good = rw z at (gain-sink-good n g p j e l q-in s a.good);
        paired = k_paired g p j e l q-in s a z;
        front = λ r i x t. both n g p j e l q-in s a.good r i x (a.front r i x t);
        room = k_room g p j e l q-in s a z;
      })

  -- ---- the sinks of p, and then its sources
  sources_kept : (g u : Graph) → sources_in u ≡ sources_in g → total source_count u ≡ total source_count g
  sources_kept g u e = sum_of u ∙ ap (λ (l : List (List Edge)). sum (map (λ (es : List Edge). length es) l)) e ∙ sym (sum_of g)
    where
      sum_of : (v : Graph) → total source_count v ≡ sum (map (λ (es : List Edge). length es) (sources_in v))
      sum_of [] = refl
      sum_of (x ∷ v) = rw (length-map x.sources unmark, sum_of v)

  -- what holds, and as many sources as g₀ has
  pub record Same (c : ℕ) (g : Graph) : Type 0 where
    pub roomed : Roomed g
    pub count : total source_count g ≡ c

  same_sink : (c : ℕ) (g : Graph) (p j : ℕ) (e : Edge) → p < n → e.to < length g → SourceAt g p j e → Same c g → Same c (gain_sink g p j e)
  same_sink c g p j e l q-in s a = record { roomed = gains_sink g p j e l q-in s a.roomed; count = sources_kept g (gain_sink g p j e) (gain-sink-sources g p j e s.is) ∙ a.count }

  sinks_room : (es : List Edge) (g : Graph) (p i : ℕ) → p < n → drop i (node_at g p).sinks ≡ es → Roomed g → Roomed (complete_sinks g p i es) × (total source_count (complete_sinks g p i es) ≤ total source_count g + due p i)
  sinks_room [] g p i l e a = (a, omega arith)
  sinks_room (x ∷ es) g p i l e a =
      let f = drop_head (node_at g p).sinks i x es no_edge e in
      let at : SinkAt g p i x.to = record { inside = f.0; leads = ap (λ (y : Edge). y.to) f.1 } in
      let v : Graph = gain_source g p i x.to in
      let b : Bool = ltb x.to (length g) in
      let u : Graph = cond b v g in
      let same : sinks_in u ≡ sinks_in g = pick (λ k. sinks_in k ≡ sinks_in g) b v g (gain_source_sinks g p i x.to) refl in
      let roomed : Roomed u = pick-by Roomed b v g (λ z. gains_source g p i x.to l (ltb-true x.to (length g) z) at a) (λ z. a) in
      let count : total source_count u + due p (suc i) ≤ total source_count g + due p i =
      pick-by (λ k. total source_count k + due p (suc i) ≤ total source_count g + due p i) b v g (λ z. gains_count g p i x.to l (ltb-true x.to (length g) z) at a) (λ z. omega (arith, inner-less n (node_at g₀ p).sinks i)) in
      let r = sinks_room es u p (suc i) l (ap (drop (suc i)) (sinks-at g u same p) ∙ f.2) roomed in
      (r.0, omega (arith, r.1, count))

  node_room : (g : Graph) (p : ℕ) → p < n → Roomed g → Roomed (complete_node g p) × (total source_count (complete_node g p) ≤ total source_count g + due p 0)
  node_room g p l a =
      let u : Graph = complete_sinks g p 0 (node_at g p).sinks in
      let r = sinks_room (node_at g p).sinks g p 0 l refl a in
      let k : Same (total source_count u) (complete_node g p) =
      sources_hold n (Same (total source_count u)) (same_sink (total source_count u)) (node_at u p).sources u p 0 l refl (record { roomed = r.0; count = refl }) in
      (k.roomed, omega (arith, k.count, r.1))

bares_le : (g : Graph) → total bare_count g ≤ total source_count g
bares_le [] = omega arith
bares_le (x ∷ g) = omega (arith, bares_le g, each_bare x.sources)
  where
    tally_le : (b : Bool) {i k : ℕ} → i ≤ k → tally b i ≤ suc k
    tally_le true h = omega arith
    tally_le false h = omega arith

    each_bare : (es : List Edge) → bares es ≤ length es
    each_bare [] = omega arith
    each_bare (e ∷ es) = tally_le (none_is e.mark) (each_bare es)

-- ---- all nodes: the sources so far, and the sinks to nodes that were given to the nodes not yet gone through
abbrev given-from : ℕ → Graph → ℕ → ℕ
given-from n g p = sum (map (λ (x : Node). inner n x.sinks) (drop p g))

given-next : (n : ℕ) (g : Graph) (p : ℕ) → p < length g → given-from n g p ≡ inner n (node_at g p).sinks + given-from n g (suc p)
given-next n g p h = rw (drop-cons g p bare h)

outers-total : (list : Node → List Edge) (n : ℕ) (g : Graph) → outers list n g ≡ total (λ (x : Node). outside n (list x)) g
outers-total list n [] = refl
outers-total list n (x ∷ g) = omega (arith, outers-total list n g)

given-all : (n : ℕ) (g : Graph) → sum (map (λ (x : Node). inner n x.sinks) g) + outers (λ (x : Node). x.sinks) n g ≡ total sink_count g
given-all n [] = refl
given-all n (x ∷ g) = omega (arith, given-all n g, inner-outside n x.sinks)

-- an unmarked source is one of those that may give a sink
leads_bare : (n : ℕ) (es : List Edge) → All (λ (e : Edge). n ≤ e.to → e.mark ≡ none) es → outside n es ≤ bares es
leads_bare n [] a = omega arith
leads_bare n (e ∷ es) a =
    either-by (ltb e.to n) (λ c. cond c (outside n es) (suc (outside n es)) ≤ tally (none_is e.mark) (bares es))
    (λ z. tally-more (none_is e.mark) (leads_bare n es a.1))
    (λ z. rw (a.0 (ltb-false e.to n z)) (omega (arith, leads_bare n es a.1)))
  where
    tally-more : (b : Bool) {i k : ℕ} → i ≤ k → i ≤ tally b k
    tally-more true h = omega arith
    tally-more false h = h

all-leads-bare : (n : ℕ) (g : Graph) → ((p : ℕ) → All (λ (e : Edge). n ≤ e.to → e.mark ≡ none) (node_at g p).sources) → outers (λ (x : Node). x.sources) n g ≤ total bare_count g
all-leads-bare n [] f = omega arith
all-leads-bare n (x ∷ g) f = omega (arith, leads_bare n x.sources (f 0), all-leads-bare n g (λ p. f (suc p)))

module _ (g : Graph) (m : ℕ) (good : Good (length g) g) (few : ends (λ (x : Node). x.sources) g + ends (λ (x : Node). x.sinks) g ≤ m) where
  room : total source_count g + total sink_count g ≤ m
  room = omega (arith, few, ends-total (λ (x : Node). x.sources) g, ends-total (λ (x : Node). x.sinks) g)

  abbrev outer : ℕ
  outer = outers (λ (x : Node). x.sinks) (length g) g

  pub record Before (p : ℕ) (u : Graph) : Type 0 where
    pub roomed : Roomed (length g) m g u
    pub count : total source_count u + given-from (length g) g p + outer ≤ m

  all_nodes : Before (length g) (complete g)
  unfolding complete
  all_nodes =
      each_holds Before (λ p u. complete_node u p) (length g)
      (λ p u l b.
      let r = node_room (length g) m g u p l b.roomed in
      record { roomed = r.0; count = omega (arith, r.1, b.count, given-next (length g) g p l) })
      g
      (record {
        roomed = record { good = good; paired = λ p i q o t. absurd (omega (arith, o, t.inside)); front = λ p i q t. t; room = omega (arith, room, bares_le g) };
        count = omega (arith, room, given-all (length g) g);
      })
      (length g) (omega arith)

  -- the sources, with one for each sink that leads to nothing
  pub few_sources : ends (λ (x : Node). x.sources) (complete g) + outer ≤ m
  few_sources = omega (arith, all_nodes.count, ends-total (λ (x : Node). x.sources) (complete g))

  -- the sinks, with one for each source that leads to nothing
  pub few_sinks : ends (λ (x : Node). x.sinks) (complete g) + outers (λ (x : Node). x.sources) (length g) (complete g) ≤ m
  few_sinks =
      let u : Graph = complete g in
      let b : outers (λ (x : Node). x.sources) (length g) u ≤ total bare_count u =
      all-leads-bare (length g) u (λ p. all_map (λ e k h. bare-lead u p e k (rw all_nodes.roomed.good.long h)) (node_at u p).sources (all_nodes.roomed.good.marks p)) in
      omega (arith, b, all_nodes.roomed.room, ends-total (λ (x : Node). x.sinks) u)

-- ---- completion neither takes nor adds a lead to nothing
module _ (n : ℕ) where
  outside-one : (es : List Edge) (e : Edge) → e.to < n → outside n (es ++ one e) ≡ outside n es
  outside-one [] e h = ap (λ (c : Bool). cond c 0 1) (lt-ltb e.to n h)
  outside-one (x ∷ es) e h =
      either (λ c. cond c (outside n (es ++ one e)) (suc (outside n (es ++ one e))) ≡ cond c (outside n es) (suc (outside n es)))
      (outside-one es e h) (ap suc (outside-one es e h)) (ltb x.to n)

  outside-unmarked : (es : List Edge) → outside n (map unmark es) ≡ outside n es
  outside-unmarked [] = refl
  outside-unmarked (x ∷ es) =
      either (λ c. cond c (outside n (map unmark es)) (suc (outside n (map unmark es))) ≡ cond c (outside n es) (suc (outside n es)))
      (outside-unmarked es) (ap suc (outside-unmarked es)) (ltb x.to n)

  outers-of-sources : (v : Graph) → outers (λ (x : Node). x.sources) n v ≡ sum (map (λ (es : List Edge). outside n es) (sources_in v))
  outers-of-sources [] = refl
  outers-of-sources (x ∷ v) = rw (outside-unmarked x.sources, outers-of-sources v)

  -- as many sinks and sources that lead to nothing as g has
  pub record SameLeads (g u : Graph) : Type 0 where
    pub sinks : outers (λ (x : Node). x.sinks) n u ≡ outers (λ (x : Node). x.sinks) n g
    pub sources : outers (λ (x : Node). x.sources) n u ≡ outers (λ (x : Node). x.sources) n g

  leads_source : (g u : Graph) (p i q : ℕ) → p < n → q < length u → SinkAt u p i q → SameLeads g u → SameLeads g (gain_source u p i q)
  leads_source g u p i q l t s a =
      let es : List Edge = (node_at u q).sources in
      let new : Edge = record { to = p; mark = some i; text = no_text } in
      let y : Node = record { sources = es ++ one new; lines = (node_at u q).lines; sinks = (node_at u q).sinks } in
      let v : Graph = with_sources u q (es ++ one new) in
      pick (SameLeads g) (has_marked es p i) u v a
      (record {
        sinks = outers-total (λ (x : Node). x.sinks) n v ∙ total-same (λ (x : Node). outside n x.sinks) u q y refl ∙ sym (outers-total (λ (x : Node). x.sinks) n u) ∙ a.sinks;
        sources = outers-total (λ (x : Node). x.sources) n v ∙ total-same (λ (x : Node). outside n x.sources) u q y (outside-one es new l) ∙ sym (outers-total (λ (x : Node). x.sources) n u) ∙ a.sources;
      })

  leads_sink : (g u : Graph) (p j : ℕ) (e : Edge) → p < n → e.to < length u → SourceAt u p j e → SameLeads g u → SameLeads g (gain_sink u p j e)
  leads_sink g u p j e l t s a =
      let es : List Edge = (node_at u e.to).sinks in
      let new : Edge = record { to = p; mark = none; text = no_text } in
      let y : Node = record { sources = (node_at u e.to).sources; lines = (node_at u e.to).lines; sinks = es ++ one new } in
      let h : Graph = with_sinks u e.to (es ++ one new) in
      let xs : List Edge = set (node_at h p).sources j (marked (length es) e) in
      let z : Node = record { sources = xs; lines = (node_at h p).lines; sinks = (node_at h p).sinks } in
      let v : Graph = with_sources h p xs in
      record {
        sinks =
            pick (λ k. outers (λ (x : Node). x.sinks) n k ≡ outers (λ (x : Node). x.sinks) n g) (leads_to es p) u v a.sinks
            (outers-total (λ (x : Node). x.sinks) n v ∙ total-same (λ (x : Node). outside n x.sinks) h p z refl ∙ total-same (λ (x : Node). outside n x.sinks) u e.to y (outside-one es new l)
            ∙ sym (outers-total (λ (x : Node). x.sinks) n u) ∙ a.sinks);
        sources =
            outers-of-sources (gain_sink u p j e) ∙ ap (λ (k : List (List Edge)). sum (map (λ (es : List Edge). outside n es) k)) (gain-sink-sources u p j e s.is)
            ∙ sym (outers-of-sources u) ∙ a.sources;
      }

  pub complete_leads : (g : Graph) → length g ≡ n → SameLeads g (complete g)
  complete_leads g e = complete-holds n (SameLeads g) (leads_source g) (leads_sink g) g e (record { sinks = refl; sources = refl })

-- ---- a cut adds a source and a sink
cut-total : (f : Node → ℕ) (g : Graph) (c s : ℕ) (e : Edge) → ((x : Node) (es : List Edge) → length es ≡ length x.sinks → f (record { sources = x.sources; lines = x.lines; sinks = es }) ≡ f x) →
    ((x : Node) (es : List Edge) → length es ≡ length x.sources → f (record { sources = es; lines = x.lines; sinks = x.sinks }) ≡ f x) →
    total f (cut_graph g c s e) ≡ total f g + (f (first_node c s e.to) + f (second_node e.to))
cut-total f g c s e h k =
    let fs : List Edge = set (node_at g c).sinks s (pointed (length g) e) in
    let g₁ : Graph = with_sinks g c fs in
    let hs : List Edge = map (turned c (suc (length g))) (node_at g₁ e.to).sources in
    let g₂ : Graph = with_sources g₁ e.to hs in
    let one-is : total f g₁ ≡ total f g = total-same f g c _ (h (node_at g c) fs (length-set (node_at g c).sinks s (pointed (length g) e))) in
    let two_is : total f g₂ ≡ total f g₁ = total-same f g₁ e.to _ (k (node_at g₁ e.to) hs (length-map (node_at g₁ e.to).sources (turned c (suc (length g))))) in
    ap sum (map-append f g₂ (first_node c s e.to ∷ second_node e.to ∷ []))
    ∙ sum-append (map f g₂) (f (first_node c s e.to) ∷ f (second_node e.to) ∷ [])
    ∙ omega (arith, one-is, two_is)
  where
    sum-append : (xs ys : List ℕ) → sum (xs ++ ys) ≡ sum xs + sum ys
    sum-append [] ys = omega arith
    sum-append (x ∷ xs) ys = omega (arith, sum-append xs ys)

pub cutting-ends : (g : Graph) → (ends (λ (x : Node). x.sources) (cutting g).graph ≡ ends (λ (x : Node). x.sources) g + (cutting g).cuts) × (ends (λ (x : Node). x.sinks) (cutting g).graph ≡ ends (λ (x : Node). x.sinks) g + (cutting g).cuts)
cutting-ends g =
    let r =
    (cutting_keeps (length g) (reached g) (λ w. (total source_count w.graph ≡ total source_count g + w.cuts) × (total sink_count w.graph ≡ total sink_count g + w.cuts)) (λ w c x h. h)
    (λ w c s hc hs hq lo bz fr h.
    let e : Edge = get_or (node_at w.graph c).sinks s no_edge in (
      omega (arith, h.0, cut-total source_count w.graph c s e (λ x es z. refl) (λ x es z. z)),
      omega (arith, h.1, cut-total sink_count w.graph c s e (λ x es z. z) (λ x es z. refl)),
    ))
    g refl refl (omega arith, omega arith)).keeps in (
      omega (arith, r.0, ends-total (λ (x : Node). x.sources) g, ends-total (λ (x : Node). x.sources) (cutting g).graph),
      omega (arith, r.1, ends-total (λ (x : Node). x.sinks) g, ends-total (λ (x : Node). x.sinks) (cutting g).graph),
    )
