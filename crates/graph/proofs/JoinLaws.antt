-- What joining does: every target is then a node, a mark still names the sink that leads here, texts and lines stay, and each lead has its box.
-- Assumes nothing.
use Prim.Native.Nat.{ℕ, zero, suc, ◌+◌, ◌-◌, ◌≤◌, ◌<◌}
use native.Mathlib.Omega.{arith}
use native.Mathlib.Nat.{zero-add, add-zero, not-suc-le-zero, le_of_suc-le-suc}
use mathlib.Core.Path.{◌≡◌, refl, ap, sym, ◌∙◌, subst}
use mathlib.Core.Bool.{Bool, true, false, cond}
use mathlib.Core.Option.{Option, none, some}
use mathlib.Core.Logic.{◌⊎◌, inl, inr, ⊎_elim}
use mathlib.Core.List.{List, [], ◌∷◌, ◌++◌, map-append, append-nil}
use lib.Dec.{ltb}
use lib.ListN.{length, get_or, drop, length-append, get_or-append, get_or-eq_default}
use lib.Seq.{get_or-append-add}
use borrow.Author.Tests.{ltb-true, ltb-false, lt-ltb, le-ltb}
use Rattle.laws.specs.Lists.{All, one}
use Rattle.laws.proofs.Lists.{all_map, all_join}
use Rattle.graph.specs.Graph.{Line, invalid, Edge, Node, Graph, no_edge, bare, node_at, degree}
use Rattle.graph.specs.Cutting.{pointed}
use Rattle.graph.specs.Joining.{outside, leads, sink_box, source_box, joined}
use Rattle.graph.specs.Laws.{Leads, Aimed, SinkAt, Names, Marked, texts_at, Unmarked, ends, SourceTo, OfSink, OfSource, BoxOf, OwnBox}
use Rattle.graph.proofs.Completes.{drop_head}
use Rattle.graph.proofs.LineLaws.{lines_in, Ends, Closed}
use Rattle.graph.proofs.AimLaws.{all_in}
use Rattle.graph.proofs.Joins.{renumbered, sink_boxes, source_boxes, joined_node, boxes_of, nodes_from, boxes_from, either, renumbered-long, boxes-of-long, sink-boxes-long, source_boxes-long, nodes-long, boxes-long, joined-shape, joined-long}

-- the same where the test's answer is known in each case
pub either-by : (b : Bool) (P : Bool → Type 0) → (b ≡ true → P true) → (b ≡ false → P false) → P b
either-by true P x y = x refl
either-by false P x y = y refl

abbrev To : ℕ → Edge → Type 0
To m e = e.to < m

-- ---- every target is a node
renumbered-aims : (n m b : ℕ) (es : List Edge) → n ≤ m → b + outside n es ≤ m → All (To m) (renumbered n b es)
renumbered-aims n m b [] l h = tt
renumbered-aims n m b (e ∷ es) l h =
    either-by (ltb e.to n)
    (λ c. b + cond c (outside n es) (suc (outside n es)) ≤ m → All (To m) (cond c (e ∷ renumbered n b es) (pointed b e ∷ renumbered n (suc b) es)))
    (λ z k. (omega (arith, ltb-true e.to n z), renumbered-aims n m b es l k))
    (λ z k. (omega (arith, k), renumbered-aims n m (suc b) es l (omega (arith, k))))
    h

node-aims : (n m b : ℕ) (x : Node) → n ≤ m → b + (outside n x.sinks + outside n x.sources) ≤ m → Leads m (joined_node n b x)
node-aims n m b x l h =
    record {
      sources = renumbered-aims n m (b + outside n x.sinks) x.sources l (omega arith);
      sinks = renumbered-aims n m b x.sinks l (omega arith);
    }

nodes_aim : (n m b : ℕ) (g : Graph) → n ≤ m → b + leads n g ≤ m → Aimed m (nodes_from n b g)
nodes_aim n m b [] l h = tt
nodes_aim n m b (x ∷ g) l h = (node-aims n m b x l (omega arith), nodes_aim n m (b + (outside n x.sinks + outside n x.sources)) g l (omega arith))

-- ---- the boxes of node p: what holds of the box of each sink and of each source
module _ (P : Node → Type 0) (n p : ℕ) where
  each-sink-box : ((i t : ℕ) → n ≤ t → P (sink_box p i t)) → (i : ℕ) (es : List Edge) → All P (sink_boxes n p i es)
  each-sink-box f i [] = tt
  each-sink-box f i (e ∷ es) =
      either-by (ltb e.to n) (λ c. All P (cond c (sink_boxes n p (suc i) es) (sink_box p i e.to ∷ sink_boxes n p (suc i) es)))
      (λ z. each-sink-box f (suc i) es)
      (λ z. (f i e.to (ltb-false e.to n z), each-sink-box f (suc i) es))

  each_source_box : ((t : ℕ) → n ≤ t → P (source_box p t)) → (es : List Edge) → All P (source_boxes n p es)
  each_source_box f [] = tt
  each_source_box f (e ∷ es) =
      either-by (ltb e.to n) (λ c. All P (cond c (source_boxes n p es) (source_box p e.to ∷ source_boxes n p es)))
      (λ z. each_source_box f es)
      (λ z. (f e.to (ltb-false e.to n z), each_source_box f es))

pub each-box : (P : Node → Type 0) (n m : ℕ) → ((p i t : ℕ) → p < m → n ≤ t → P (sink_box p i t)) → ((p t : ℕ) → p < m → n ≤ t → P (source_box p t)) →
    (p : ℕ) (g : Graph) → p + length g ≤ m → All P (boxes_from n p g)
each-box P n m f k p [] h = tt
each-box P n m f k p (x ∷ g) h =
    all_join P (boxes_of n p x) (boxes_from n (suc p) g)
    (all_join P (sink_boxes n p 0 x.sinks) (source_boxes n p x.sources)
    (each-sink-box P n p (λ i t l. f p i t (omega arith) l) 0 x.sinks)
    (each_source_box P n p (λ t l. k p t (omega arith) l) x.sources))
    (each-box P n m f k (suc p) g (omega arith))

-- 'Every target is a node'
pub joined-aims : (g : Graph) → Aimed (length (joined (length g) g)) (joined (length g) g)
joined-aims g =
    let n : ℕ = length g in
    let m : ℕ = n + leads n g in
    rw (joined-long g)
    (rw (joined-shape g)
    (all_join (Leads m) (nodes_from n n g) (boxes_from n 0 g) (nodes_aim n m n g (omega arith) (omega arith))
    (each-box (Leads m) n n (λ p i t h l. record { sources = (omega arith, tt); sinks = tt }) (λ p t h l. record { sources = tt; sinks = (omega arith, tt) }) 0 g (omega arith))))

-- ---- no lead: nothing changes
renumbered-none : (n b : ℕ) (es : List Edge) → outside n es ≡ 0 → renumbered n b es ≡ es
renumbered-none n b [] h = refl
renumbered-none n b (e ∷ es) h =
    either
    (λ c. cond c (outside n es) (suc (outside n es)) ≡ 0 → cond c (e ∷ renumbered n b es) (pointed b e ∷ renumbered n (suc b) es) ≡ e ∷ es)
    (λ k. ap (λ (l : List Edge). e ∷ l) (renumbered-none n b es k))
    (λ k. absurd (omega arith))
    (ltb e.to n) h

nodes-none : (n b : ℕ) (g : Graph) → leads n g ≡ 0 → nodes_from n b g ≡ g
nodes-none n b [] h = refl
nodes-none n b (x ∷ g) h =
    let one-is : joined_node n b x ≡ x =
    ap (λ (xs : List Edge). record { sources = xs; lines = x.lines; sinks = renumbered n b x.sinks }) (renumbered-none n (b + outside n x.sinks) x.sources (omega arith))
    ∙ ap (λ (ys : List Edge). record { sources = x.sources; lines = x.lines; sinks = ys }) (renumbered-none n b x.sinks (omega arith)) in
    ap (λ (y : Node). y ∷ nodes_from n (b + (outside n x.sinks + outside n x.sources)) g) one-is
    ∙ ap (λ (l : Graph). x ∷ l) (nodes-none n (b + (outside n x.sinks + outside n x.sources)) g (omega arith))

empty : {A : Type 0} (l : List A) → length l ≡ 0 → l ≡ []
empty [] e = refl
empty (x ∷ l) e = absurd (omega arith)

pub joined-none : (g : Graph) → leads (length g) g ≡ 0 → joined (length g) g ≡ g
joined-none g h =
    let n : ℕ = length g in
    joined-shape g ∙ ap (λ (l : Graph). nodes_from n n g ++ l) (empty (boxes_from n 0 g) (boxes-long n 0 g ∙ h)) ∙ append-nil (nodes_from n n g) ∙ nodes-none n n g h

-- ---- where the boxes stand
-- the boxes xs stand in j from number b on, after the n given nodes
pub record Stands (n : ℕ) (j : Graph) (b : ℕ) (xs : Graph) : Type 0 where
  pub after : n ≤ b
  pub room : b + length xs ≤ length j
  pub same : (k : ℕ) → k < length xs → node_at j (b + k) ≡ node_at xs k

-- node p of the given graph is x: in j it is y, with its ends renumbered from some number on, and there its boxes stand
pub record Seat (n : ℕ) (j : Graph) (p : ℕ) (x y : Node) : Type 0 where
  pub first : ℕ
  pub is : y ≡ joined_node n first x
  pub boxes : Stands n j first (boxes_of n p x)

module _ (n : ℕ) (j : Graph) where
  -- the first of them, and those after them
  stands-left : (b : ℕ) (xs ys : Graph) → Stands n j b (xs ++ ys) → Stands n j b xs
  stands-left b xs ys s =
      record {
        after = s.after;
        room = omega (arith, length-append xs ys);
        same = λ k h. s.same k (omega (arith, length-append xs ys)) ∙ get_or-append xs ys bare k h;
      }

  stands-right : (b c : ℕ) (xs ys : Graph) → b + length xs ≡ c → Stands n j b (xs ++ ys) → Stands n j c ys
  stands-right b c xs ys e s =
      record {
        after = omega arith;
        room = omega (arith, length-append xs ys);
        same = λ k h.
            let z : c + k ≡ b + (length xs + k) = omega arith in
            ap (node_at j) z ∙ s.same (length xs + k) (omega (arith, length-append xs ys)) ∙ get_or-append-add xs ys k bare;
      }

  -- the nodes, the first of them number p
  seats : (p b : ℕ) (g : Graph) → Stands n j b (boxes_from n p g) → (k : ℕ) → k < length g → Seat n j (p + k) (node_at g k) (node_at (nodes_from n b g) k)
  seats p b [] s k h = absurd (not-suc-le-zero h)
  seats p b (x ∷ g) s zero h = rw (add-zero p) (record { first = b; is = refl; boxes = stands-left b (boxes_of n p x) (boxes_from n (suc p) g) s })
  seats p b (x ∷ g) s (suc k) h =
      let m : ℕ = outside n x.sinks + outside n x.sources in
      let z : suc p + k ≡ p + suc k = omega arith in
      subst (λ (i : ℕ). Seat n j i (node_at g k) (node_at (nodes_from n (b + m) g) k)) z
      (seats (suc p) (b + m) g (stands-right b (b + m) (boxes_of n p x) (boxes_from n (suc p) g) (omega (arith, boxes-of-long n p x)) s) k (le_of_suc-le-suc h))

-- ---- what a node keeps
renumbered-texts : (n b : ℕ) (es : List Edge) → texts_at (renumbered n b es) ≡ texts_at es
renumbered-texts n b [] = refl
renumbered-texts n b (e ∷ es) =
    either (λ c. texts_at (cond c (e ∷ renumbered n b es) (pointed b e ∷ renumbered n (suc b) es)) ≡ texts_at (e ∷ es))
    (ap (λ (l : List _). e.text ∷ l) (renumbered-texts n b es)) (ap (λ (l : List _). e.text ∷ l) (renumbered-texts n (suc b) es)) (ltb e.to n)

module _ (g : Graph) where
  abbrev n₀ : ℕ
  n₀ = length g

  abbrev j₀ : Graph
  j₀ = joined n₀ g

  pub joined-below : (k : ℕ) → k < n₀ → node_at j₀ k ≡ node_at (nodes_from n₀ n₀ g) k
  joined-below k h = ap (λ (l : Graph). node_at l k) (joined-shape g) ∙ get_or-append (nodes_from n₀ n₀ g) (boxes_from n₀ 0 g) bare k (omega (arith, nodes-long n₀ n₀ g))

  pub joined-box : (k : ℕ) → node_at j₀ (n₀ + k) ≡ node_at (boxes_from n₀ 0 g) k
  joined-box k =
      let e : n₀ + k ≡ length (nodes_from n₀ n₀ g) + k = omega (arith, nodes-long n₀ n₀ g) in
      ap (λ (l : Graph). node_at l (n₀ + k)) (joined-shape g) ∙ ap (λ (i : ℕ). node_at (nodes_from n₀ n₀ g ++ boxes_from n₀ 0 g) i) e ∙ get_or-append-add (nodes_from n₀ n₀ g) (boxes_from n₀ 0 g) k bare

  pub joined-stand : Stands n₀ j₀ n₀ (boxes_from n₀ 0 g)
  joined-stand = record { after = omega arith; room = omega (arith, joined-long g, boxes-long n₀ 0 g); same = λ k h. joined-box k }

  pub joined-node : (k : ℕ) → k < n₀ → Seat n₀ j₀ k (node_at g k) (node_at j₀ k)
  joined-node k h = rw (joined-below k h) (subst (λ (p : ℕ). Seat n₀ j₀ p (node_at g k) (node_at (nodes_from n₀ n₀ g) k)) (zero-add k) (seats n₀ j₀ 0 n₀ g joined-stand k h))

  -- a given node keeps its lines, and the texts of its ends in order
  pub joined-texts : (k : ℕ) → k < n₀ → (texts_at (node_at j₀ k).sources ≡ texts_at (node_at g k).sources) × (texts_at (node_at j₀ k).sinks ≡ texts_at (node_at g k).sinks) × ((node_at j₀ k).lines ≡ (node_at g k).lines)
  joined-texts k h =
      let r = joined-node k h in (
        ap (λ (y : Node). texts_at y.sources) r.is ∙ renumbered-texts n₀ _ (node_at g k).sources,
        ap (λ (y : Node). texts_at y.sinks) r.is ∙ renumbered-texts n₀ _ (node_at g k).sinks,
        ap (λ (y : Node). y.lines) r.is,
      )

-- ---- with the number of each
-- P holds of each of the list and its number, the first of them b
abbrev pub AllAt : {A : Type 0} → (ℕ → A → Type 0) → ℕ → List A → Type 0
AllAt P b [] = Unit {0}
AllAt P b (x ∷ xs) = P b x × AllAt P (suc b) xs

at_join : {A : Type 0} (P : ℕ → A → Type 0) (b : ℕ) (xs ys : List A) → AllAt P b xs → AllAt P (b + length xs) ys → AllAt P b (xs ++ ys)
at_join P b [] ys a c = let e : b + 0 ≡ b = omega arith in subst (λ (k : ℕ). AllAt P k ys) e c
at_join P b (x ∷ xs) ys a c = let e : b + suc (length xs) ≡ suc b + length xs = omega arith in (a.0, at_join P (suc b) xs ys a.1 (subst (λ (k : ℕ). AllAt P k ys) e c))

at_in : {A : Type 0} (P : ℕ → A → Type 0) (b : ℕ) (xs : List A) (k : ℕ) (d : A) → k < length xs → AllAt P b xs → P (b + k) (get_or xs k d)
at_in P b [] k d h a = absurd (not-suc-le-zero h)
at_in P b (x ∷ xs) zero d h a = let e : b ≡ b + 0 = omega arith in subst (λ (i : ℕ). P i x) e a.0
at_in P b (x ∷ xs) (suc k) d h a = let e : suc b + k ≡ b + suc k = omega arith in subst (λ (i : ℕ). P i (get_or xs k d)) e (at_in P (suc b) xs k d (le_of_suc-le-suc h) a.1)

-- ---- the box of each lead: g is the graph before joining, j the one after it
module _ (g j : Graph) (n : ℕ) where
  abbrev Box : ℕ → Node → Type 0
  Box = BoxOf g j n

  module _ (p : ℕ) (h : p < n) where
    sink-boxes-at : (i b : ℕ) (es : List Edge) → drop i (node_at g p).sinks ≡ es → drop i (node_at j p).sinks ≡ renumbered n b es → AllAt Box b (sink_boxes n p i es)
    sink-boxes-at i b [] d e = tt
    sink-boxes-at i b (x ∷ es) d e =
        let f = drop_head (node_at g p).sinks i x es no_edge d in
        either-by (ltb x.to n)
        (λ c. drop i (node_at j p).sinks ≡ cond c (x ∷ renumbered n b es) (pointed b x ∷ renumbered n (suc b) es) → AllAt Box b (cond c (sink_boxes n p (suc i) es) (sink_box p i x.to ∷ sink_boxes n p (suc i) es)))
        (λ z k. sink-boxes-at (suc i) b es f.2 (drop_head (node_at j p).sinks i x (renumbered n b es) no_edge k).2)
        (λ z k.
        let r = drop_head (node_at j p).sinks i (pointed b x) (renumbered n (suc b) es) no_edge k in (
          record {
            node = p;
            given = h;
            number = i;
            target = x.to;
            past = ltb-false x.to n z;
            line = refl;
            end = inl (record { sources = refl; sinks = refl; joined = record { inside = r.0; leads = ap (λ (y : Edge). y.to) r.1 }; was = record { inside = f.0; leads = ap (λ (y : Edge). y.to) f.1 } });
          },
          sink-boxes-at (suc i) (suc b) es f.2 r.2,
        ))
        e

    source_boxes-at : (i b : ℕ) (es : List Edge) → All (λ (e : Edge). n ≤ e.to → e.mark ≡ none) es → drop i (node_at g p).sources ≡ es → drop i (node_at j p).sources ≡ renumbered n b es → AllAt Box b (source_boxes n p es)
    source_boxes-at i b [] u d e = tt
    source_boxes-at i b (x ∷ es) u d e =
        let f = drop_head (node_at g p).sources i x es no_edge d in
        either-by (ltb x.to n)
        (λ c. drop i (node_at j p).sources ≡ cond c (x ∷ renumbered n b es) (pointed b x ∷ renumbered n (suc b) es) → AllAt Box b (cond c (source_boxes n p es) (source_box p x.to ∷ source_boxes n p es)))
        (λ z k. source_boxes-at (suc i) b es u.1 f.2 (drop_head (node_at j p).sources i x (renumbered n b es) no_edge k).2)
        (λ z k.
        let r = drop_head (node_at j p).sources i (pointed b x) (renumbered n (suc b) es) no_edge k in (
          record {
            node = p;
            given = h;
            number = i;
            target = x.to;
            past = ltb-false x.to n z;
            line = refl;
            end =
                inr
                (record {
                  sources = refl;
                  sinks = refl;
                  joined = record { inside = r.0; leads = ap (λ (y : Edge). y.to) r.1 };
                  unmarked = ap (λ (y : Edge). y.mark) r.1 ∙ u.0 (ltb-false x.to n z);
                  was = record { inside = f.0; leads = ap (λ (y : Edge). y.to) f.1 };
                });
          },
          source_boxes-at (suc i) (suc b) es u.1 f.2 r.2,
        ))
        e

  -- the boxes of the nodes from p on
  boxes-at : (p b : ℕ) (h : Graph) → p + length h ≤ n → ((r : ℕ) → r < length h → node_at g (p + r) ≡ node_at h r) → ((r : ℕ) → r < length h → node_at j (p + r) ≡ node_at (nodes_from n b h) r) →
      All (λ (x : Node). All (λ (e : Edge). n ≤ e.to → e.mark ≡ none) x.sources) h → AllAt Box b (boxes_from n p h)
  boxes-at p b [] l f k u = tt
  boxes-at p b (x ∷ h) l f k u =
      let o : ℕ = outside n x.sinks in
      let z : p + 0 ≡ p = omega arith in
      let gp : node_at g p ≡ x = subst (λ (i : ℕ). node_at g i ≡ x) z (f 0 (omega arith)) in
      let jp : node_at j p ≡ joined_node n b x = subst (λ (i : ℕ). node_at j i ≡ joined_node n b x) z (k 0 (omega arith)) in
      let long : length (boxes_of n p x) ≡ o + outside n x.sources = boxes-of-long n p x in
      at_join Box b (boxes_of n p x) (boxes_from n (suc p) h)
      (at_join Box b (sink_boxes n p 0 x.sinks) (source_boxes n p x.sources)
      (sink-boxes-at p (omega arith) 0 b x.sinks (ap (λ (y : Node). y.sinks) gp) (ap (λ (y : Node). y.sinks) jp))
      (rw (sink-boxes-long n p 0 x.sinks)
      (source_boxes-at p (omega arith) 0 (b + o) x.sources u.0 (ap (λ (y : Node). y.sources) gp) (ap (λ (y : Node). y.sources) jp))))
      (rw long
      (boxes-at (suc p) (b + (o + outside n x.sources)) h (omega arith)
      (λ r s. let w : suc p + r ≡ p + suc r = omega arith in subst (λ (i : ℕ). node_at g i ≡ node_at h r) (sym w) (f (suc r) (omega arith)))
      (λ r s. let w : suc p + r ≡ p + suc r = omega arith in subst (λ (i : ℕ). node_at j i ≡ node_at (nodes_from n (b + (o + outside n x.sources)) h) r) (sym w) (k (suc r) (omega arith)))
      u.1))

-- ---- marks
sink_in : (g : Graph) (t i x : ℕ) → SinkAt g t i x → t < length g
sink_in g t i x k = by (ltb t (length g)) refl
  where
    by : (b : Bool) → ltb t (length g) ≡ b → t < length g
    by true e = ltb-true t (length g) e
    by false e =
        let z : node_at g t ≡ bare = get_or-eq_default g bare (ltb-false t (length g) e) in
        let y : i < 0 = subst (λ (y : Node). i < length y.sinks) z k.inside in
        absurd (not-suc-le-zero y)

-- a source that leads to nothing has no mark
pub bare-lead : (g : Graph) (p : ℕ) (e : Edge) → Names g p e → length g ≤ e.to → e.mark ≡ none
bare-lead g p e k h = by e.mark refl
  where
    by : (m : Option ℕ) → e.mark ≡ m → m ≡ none
    by none z = refl
    by (some i) z = absurd (omega (arith, h, sink_in g e.to i p (k i z)))

renumbered-at : (n b : ℕ) (es : List Edge) (i : ℕ) → i < length es → (get_or es i no_edge).to < n → get_or (renumbered n b es) i no_edge ≡ get_or es i no_edge
renumbered-at n b [] i h l = absurd (not-suc-le-zero h)
renumbered-at n b (e ∷ es) zero h l = ap (λ (c : Bool). get_or (cond c (e ∷ renumbered n b es) (pointed b e ∷ renumbered n (suc b) es)) 0 no_edge) (lt-ltb e.to n l)
renumbered-at n b (e ∷ es) (suc i) h l =
    either (λ c. get_or (cond c (e ∷ renumbered n b es) (pointed b e ∷ renumbered n (suc b) es)) (suc i) no_edge ≡ get_or es i no_edge)
    (renumbered-at n b es i (le_of_suc-le-suc h) l) (renumbered-at n (suc b) es i (le_of_suc-le-suc h) l) (ltb e.to n)

module _ (g : Graph) (m : Marked g) where
  -- a sink to a given node stays where it is
  stays : (q i p : ℕ) → p < n₀ g → SinkAt g q i p → SinkAt (j₀ g) q i p
  stays q i p h s =
      let r = joined-node g q (sink_in g q i p s) in
      let ys : List Edge = (node_at g q).sinks in
      let e : (get_or (renumbered (n₀ g) r.first ys) i no_edge).to ≡ p = ap (λ (y : Edge). y.to) (renumbered-at (n₀ g) r.first ys i s.inside (rw s.leads h)) ∙ s.leads in
      record {
        inside = rw (r.is, renumbered-long (n₀ g) r.first ys) s.inside;
        leads = rw r.is e;
      }

  names_stay : (p b : ℕ) → p < n₀ g → (es : List Edge) → All (Names g p) es → All (Names (j₀ g) p) (renumbered (n₀ g) b es)
  names_stay p b h [] a = tt
  names_stay p b h (e ∷ es) a =
      either-by (ltb e.to (n₀ g)) (λ c. All (Names (j₀ g) p) (cond c (e ∷ renumbered (n₀ g) b es) (pointed b e ∷ renumbered (n₀ g) (suc b) es)))
      (λ z. (λ i k. stays e.to i p h (a.0 i k), names_stay p b h es a.1))
      (λ z. (λ i k. absurd (omega (arith, ltb-false e.to (n₀ g) z, sink_in g e.to i p (a.0 i k))), names_stay p (suc b) h es a.1))

  boxes-stand : AllAt (BoxOf g (j₀ g) (n₀ g)) (n₀ g) (boxes_from (n₀ g) 0 g)
  boxes-stand =
      boxes-at g (j₀ g) (n₀ g) 0 (n₀ g) g (omega arith) (λ r h. ap (node_at g) (zero-add r)) (λ r h. ap (node_at (j₀ g)) (zero-add r) ∙ joined-below g r h)
      (all_of g (λ p. all_map (λ e k. bare-lead g p e k) (node_at g p).sources (m p)))
    where
      all_of : (h : Graph) → ((p : ℕ) → All (λ (e : Edge). n₀ g ≤ e.to → e.mark ≡ none) (node_at h p).sources) → All (λ (x : Node). All (λ (e : Edge). n₀ g ≤ e.to → e.mark ≡ none) x.sources) h
      all_of [] f = tt
      all_of (x ∷ h) f = (f 0, all_of h (λ p. f (suc p)))

  -- node k after the given ones is the box of a lead
  pub joined-boxes : (k : ℕ) → n₀ g ≤ k → k < n₀ g + leads (n₀ g) g → BoxOf g (j₀ g) (n₀ g) k (node_at (j₀ g) k)
  joined-boxes k l h =
      let z : n₀ g + (k - n₀ g) ≡ k = omega arith in
      subst (λ (i : ℕ). BoxOf g (j₀ g) (n₀ g) i (node_at (j₀ g) i)) z
      (rw (joined-box g (k - n₀ g)) (at_in (BoxOf g (j₀ g) (n₀ g)) (n₀ g) (boxes_from (n₀ g) 0 g) (k - n₀ g) bare (omega (arith, boxes-long (n₀ g) 0 g)) boxes-stand))

  some_is : (i k : ℕ) → some i ≡ some k → i ≡ k
  some_is i k e = cc

  box-named : (k : ℕ) (x : Node) → BoxOf g (j₀ g) (n₀ g) k x → All (Names (j₀ g) k) x.sources
  box-named k x b =
      ⊎_elim
      (λ s. rw s.sources (λ i z. subst (λ (l : ℕ). SinkAt (j₀ g) b.node l k) (some_is b.number i z) s.joined, tt))
      (λ s. rw s.sources tt)
      b.end

  pub joined-marks : Marked (j₀ g)
  joined-marks p = by (ltb p (n₀ g)) refl (ltb p (n₀ g + leads (n₀ g) g)) refl
    where
      by : (b : Bool) → ltb p (n₀ g) ≡ b → (c : Bool) → ltb p (n₀ g + leads (n₀ g) g) ≡ c → All (Names (j₀ g) p) (node_at (j₀ g) p).sources
      by true z c w = let h : p < n₀ g = ltb-true p (n₀ g) z in let r = joined-node g p h in rw r.is (names_stay p (r.first + outside (n₀ g) (node_at g p).sinks) h (node_at g p).sources (m p))
      by false z true w = box-named p (node_at (j₀ g) p) (joined-boxes p (ltb-false p (n₀ g) z) (ltb-true p (n₀ g + leads (n₀ g) g) w))
      by false z false w =
          let e : node_at (j₀ g) p ≡ bare = get_or-eq_default (j₀ g) bare (omega (arith, joined-long g, ltb-false p (n₀ g + leads (n₀ g) g) w)) in
          rw e tt

-- ---- each lead has its own box
own-map : {P Q : ℕ → Node → Type 0} {j : Graph} {n m t : ℕ} → ((k : ℕ) (x : Node) → P k x → Q k x) → OwnBox P j n m t → OwnBox Q j n m t
own-map {j = j} f o = record { at = o.at; after = o.after; before = o.before; line = o.line; box = f o.at (node_at j o.at) o.box }

-- One side of a node: the boxes of its sinks, or of its sources, the first of them number i. End k, which led to t, is pointed at its box.
module _ (n m : ℕ) (j : Graph) (long : length j ≡ n + m) (t : ℕ) (l : n ≤ t) (box : ℕ → ℕ → Node) (line : (i : ℕ) → (box i t).lines ≡ one (invalid t)) (boxes : ℕ → List Edge → Graph)
    (step : (i : ℕ) (e : Edge) (es : List Edge) → boxes i (e ∷ es) ≡ cond (ltb e.to n) (boxes (suc i) es) (box i e.to ∷ boxes (suc i) es)) where
  owns : (i b : ℕ) (es : List Edge) → Stands n j b (boxes i es) → (k : ℕ) → k < length es → (get_or es k no_edge).to ≡ t →
      OwnBox (λ a x. (get_or (renumbered n b es) k no_edge ≡ pointed a (get_or es k no_edge)) × (x ≡ box (i + k) t)) j n m t
  owns i b [] s k h q = absurd (not-suc-le-zero h)
  owns i b (e ∷ es) s zero h q =
      let z : ltb e.to n ≡ false = le-ltb e.to n (omega arith) in
      let u : Stands n j b (box i e.to ∷ boxes (suc i) es) = rw (step i e es, z) at s in
      let is : node_at j b ≡ box i t = rw (add-zero b) at (u.same 0 (omega arith)) ∙ ap (box i) q in
      rw (z, add-zero i) (record { at = b; after = u.after; before = omega arith; line = ap (λ (y : Node). y.lines) is ∙ line i; box = (refl, is) })
  owns i b (e ∷ es) s (suc k) h q =
      let w : i + suc k ≡ suc i + k = omega arith in
      either
      (λ c.
      Stands n j b (cond c (boxes (suc i) es) (box i e.to ∷ boxes (suc i) es)) →
      OwnBox (λ a x. (get_or (cond c (e ∷ renumbered n b es) (pointed b e ∷ renumbered n (suc b) es)) (suc k) no_edge ≡ pointed a (get_or es k no_edge)) × (x ≡ box (i + suc k) t)) j n m t)
      (λ u. rw w (owns (suc i) b es u k (le_of_suc-le-suc h) q))
      (λ u. rw w (owns (suc i) (suc b) es (stands-right n j b (suc b) (one (box i e.to)) (boxes (suc i) es) (omega arith) u) k (le_of_suc-le-suc h) q))
      (ltb e.to n) (rw (step i e es) at s)

module _ (g : Graph) (p i t : ℕ) (h : p < n₀ g) where
  abbrev seat : Seat (n₀ g) (j₀ g) p (node_at g p) (node_at (j₀ g) p)
  seat = joined-node g p h

  abbrev xs : List Edge
  xs = (node_at g p).sources

  abbrev ys : List Edge
  ys = (node_at g p).sinks

  pub own-sink : SinkAt g p i t → n₀ g ≤ t → OwnBox (OfSink g (j₀ g) p i t) (j₀ g) (n₀ g) (leads (n₀ g) g) t
  own-sink s l =
      own-map
      (λ k x o.
      rw (o.1, zero-add i)
      (record {
        sources = refl;
        sinks = refl;
        joined = record { inside = rw (seat.is, renumbered-long) s.inside; leads = rw seat.is (ap (λ (y : Edge). y.to) o.0) };
        was = s;
      }))
      (owns (n₀ g) (leads (n₀ g) g) (j₀ g) (joined-long g) t l (sink_box p) (λ k. refl) (sink_boxes (n₀ g) p) (λ k e es. refl) 0 seat.first ys
      (stands-left (n₀ g) (j₀ g) seat.first (sink_boxes (n₀ g) p 0 ys) (source_boxes (n₀ g) p xs) seat.boxes) i s.inside s.leads)

  pub own_source : Marked g → SourceTo g p i t → n₀ g ≤ t → OwnBox (OfSource g (j₀ g) p i t) (j₀ g) (n₀ g) (leads (n₀ g) g) t
  own_source m s l =
      let b : ℕ = seat.first + outside (n₀ g) ys in
      let e : Edge = get_or xs i no_edge in
      let plain : e.mark ≡ none = bare-lead g p e (all_in (Names g p) xs i no_edge s.inside (m p)) (rw s.leads l) in
      own-map
      (λ k x o.
      rw o.1
      (record {
        sources = refl;
        sinks = refl;
        joined = record { inside = rw (seat.is, renumbered-long) s.inside; leads = rw seat.is (ap (λ (y : Edge). y.to) o.0) };
        unmarked = rw seat.is (ap (λ (y : Edge). y.mark) o.0 ∙ plain);
        was = s;
      }))
      (owns (n₀ g) (leads (n₀ g) g) (j₀ g) (joined-long g) t l (λ k. source_box p) (λ k. refl) (λ k. source_boxes (n₀ g) p) (λ k e es. refl) 0 b xs
      (stands-right (n₀ g) (j₀ g) seat.first b (sink_boxes (n₀ g) p 0 ys) (source_boxes (n₀ g) p xs) (omega (arith, sink-boxes-long (n₀ g) p 0 ys)) seat.boxes) i s.inside s.leads)

-- ---- a sink leads to a given node, or to the box of a sink, which has no sinks
module _ (n : ℕ) (j : Graph) where
  abbrev Ending : Node → Type 0
  Ending x = All (Ends n j) x.sinks

  renumbered-ends : (b : ℕ) (es : List Edge) → ((r : ℕ) → r < outside n es → (b + r < length j) × (degree j (b + r) ≡ 0)) → All (Ends n j) (renumbered n b es)
  renumbered-ends b [] f = tt
  renumbered-ends b (e ∷ es) f =
      either-by (ltb e.to n)
      (λ c. ((r : ℕ) → r < cond c (outside n es) (suc (outside n es)) → (b + r < length j) × (degree j (b + r) ≡ 0)) → All (Ends n j) (cond c (e ∷ renumbered n b es) (pointed b e ∷ renumbered n (suc b) es)))
      (λ z k. (inl (ltb-true e.to n z), renumbered-ends b es k))
      (λ z k.
      let w : b + 0 ≡ b = omega arith in (
        inr (subst (λ (i : ℕ). (i < length j) × (degree j i ≡ 0)) w (k 0 (omega arith))),
        renumbered-ends (suc b) es (λ r h. let v : b + suc r ≡ suc b + r = omega arith in subst (λ (i : ℕ). (i < length j) × (degree j i ≡ 0)) v (k (suc r) (omega arith))),
      ))
      f

  nodes-end : (p b : ℕ) (h : Graph) → Stands n j b (boxes_from n p h) → All Ending (nodes_from n b h)
  nodes-end p b [] s = tt
  nodes-end p b (x ∷ h) s =
      let m : ℕ = outside n x.sinks + outside n x.sources in
      let boxes : Graph = sink_boxes n p 0 x.sinks in
      let size : length boxes ≡ outside n x.sinks = sink-boxes-long n p 0 x.sinks in
      let bare-sinks : All (λ (y : Node). length y.sinks ≡ 0) boxes = each-sink-box (λ (y : Node). length y.sinks ≡ 0) n p (λ i t k. refl) 0 x.sinks in
      let t : Stands n j b boxes = stands-left n j b boxes (source_boxes n p x.sources) (stands-left n j b (boxes_of n p x) (boxes_from n (suc p) h) s) in (
        renumbered-ends b x.sinks
            (λ r k. (omega arith, ap (λ (y : Node). length y.sinks) (t.same r (omega arith)) ∙ all_in (λ (y : Node). length y.sinks ≡ 0) boxes r bare (omega arith) bare-sinks)),
        nodes-end (suc p) (b + m) h (stands-right n j b (b + m) (boxes_of n p x) (boxes_from n (suc p) h) (omega (arith, boxes-of-long n p x)) s),
      )

pub joined-closed : (g : Graph) → Closed (length g) (joined (length g) g)
joined-closed g =
    let n : ℕ = length g in
    let j : Graph = joined n g in
    subst (λ (u : Graph). All (Ending n j) u) (sym (joined-shape g))
    (all_join (Ending n j) (nodes_from n n g) (boxes_from n 0 g) (nodes-end n j 0 n g (joined-stand g))
    (each-box (Ending n j) n n (λ p i t h l. tt) (λ p t h l. (inl h, tt)) 0 g (omega arith)))

-- ---- lines
-- the line of a target that isn't one of the n given nodes
pub record Off (n : ℕ) (ls : List Line) : Type 0 where
  pub target : ℕ
  pub past : n ≤ target
  pub line : ls ≡ one (invalid target)

nodes-lines : (n b : ℕ) (g : Graph) → lines_in (nodes_from n b g) ≡ lines_in g
nodes-lines n b [] = refl
nodes-lines n b (x ∷ g) = ap (λ (l : List (List Line)). x.lines ∷ l) (nodes-lines n (b + (outside n x.sinks + outside n x.sources)) g)

pub joined-lines : (g : Graph) → lines_in (joined (length g) g) ≡ lines_in g ++ lines_in (boxes_from (length g) 0 g)
joined-lines g =
    let n : ℕ = length g in
    ap lines_in (joined-shape g) ∙ map-append (λ (x : Node). x.lines) (nodes_from n n g) (boxes_from n 0 g) ∙ ap (λ (l : List (List Line)). l ++ lines_in (boxes_from n 0 g)) (nodes-lines n n g)

all_lines : (P : List Line → Type 0) (g : Graph) → All (λ (x : Node). P x.lines) g → All P (lines_in g)
all_lines P [] a = tt
all_lines P (x ∷ g) a = (a.0, all_lines P g a.1)

pub boxes-off : (g : Graph) → All (Off (length g)) (lines_in (boxes_from (length g) 0 g))
boxes-off g =
    let n : ℕ = length g in
    all_lines (Off n) (boxes_from n 0 g)
    (each-box (λ (x : Node). Off n x.lines) n n (λ p i t h l. record { target = t; past = l; line = refl }) (λ p t h l. record { target = t; past = l; line = refl }) 0 g (omega arith))

-- ---- no sink has a mark
abbrev Plain : Edge → Type 0
Plain e = e.mark ≡ none

renumbered-plain : (n b : ℕ) (es : List Edge) → All Plain es → All Plain (renumbered n b es)
renumbered-plain n b [] a = tt
renumbered-plain n b (e ∷ es) a =
    either (λ c. All Plain (cond c (e ∷ renumbered n b es) (pointed b e ∷ renumbered n (suc b) es)))
    (a.0, renumbered-plain n b es a.1) (a.0, renumbered-plain n (suc b) es a.1) (ltb e.to n)

nodes-plain : (n b : ℕ) (g : Graph) → Unmarked g → Unmarked (nodes_from n b g)
nodes-plain n b [] a = tt
nodes-plain n b (x ∷ g) a = (renumbered-plain n b x.sinks a.0, nodes-plain n (b + (outside n x.sinks + outside n x.sources)) g a.1)

pub joined-unmarked : (g : Graph) → Unmarked g → Unmarked (joined (length g) g)
joined-unmarked g a =
    let n : ℕ = length g in
    rw (joined-shape g)
    (all_join (λ (x : Node). All Plain x.sinks) (nodes_from n n g) (boxes_from n 0 g) (nodes-plain n n g a)
    (each-box (λ (x : Node). All Plain x.sinks) n n (λ p i t h l. tt) (λ p t h l. (refl, tt)) 0 g (omega arith)))

-- ---- as many sources more as sinks led to nothing, and as many sinks more as sources did
pub ends-append : (list : Node → List Edge) (g h : Graph) → ends list (g ++ h) ≡ ends list g + ends list h
ends-append list [] h = omega arith
ends-append list (x ∷ g) h = omega (arith, ends-append list g h)

-- the sinks, or the sources, that lead to none of the first n nodes
abbrev pub outers : (Node → List Edge) → ℕ → Graph → ℕ
outers list n [] = 0
outers list n (x ∷ g) = outside n (list x) + outers list n g

pub leads-all : (n : ℕ) (g : Graph) → leads n g ≡ outers (λ (x : Node). x.sinks) n g + outers (λ (x : Node). x.sources) n g
leads-all n [] = refl
leads-all n (x ∷ g) = omega (arith, leads-all n g)

nodes-sources : (n b : ℕ) (g : Graph) → ends (λ (x : Node). x.sources) (nodes_from n b g) ≡ ends (λ (x : Node). x.sources) g
nodes-sources n b [] = refl
nodes-sources n b (x ∷ g) =
    let m : ℕ = outside n x.sinks + outside n x.sources in
    omega (arith, nodes-sources n (b + m) g, renumbered-long n (b + outside n x.sinks) x.sources)

nodes-sinks : (n b : ℕ) (g : Graph) → ends (λ (x : Node). x.sinks) (nodes_from n b g) ≡ ends (λ (x : Node). x.sinks) g
nodes-sinks n b [] = refl
nodes-sinks n b (x ∷ g) =
    let m : ℕ = outside n x.sinks + outside n x.sources in
    omega (arith, nodes-sinks n (b + m) g, renumbered-long n b x.sinks)

-- each box of a list has k of them
ends-each : (list : Node → List Edge) (k : ℕ) (h : Graph) → All (λ (x : Node). length (list x) ≡ k) h → (k ≡ 0) ⊎ (k ≡ 1) → (k ≡ 0 → ends list h ≡ 0) × (k ≡ 1 → ends list h ≡ length h)
ends-each list k [] a c = (λ z. refl, λ z. refl)
ends-each list k (x ∷ h) a c = let r = ends-each list k h a.1 c in (λ z. omega (arith, a.0, r.0 z), λ z. omega (arith, a.0, r.1 z))

boxes-sources : (n p : ℕ) (g : Graph) → ends (λ (x : Node). x.sources) (boxes_from n p g) ≡ outers (λ (x : Node). x.sinks) n g
boxes-sources n p [] = refl
boxes-sources n p (x ∷ g) =
    let a : List Node = sink_boxes n p 0 x.sinks in
    let b : List Node = source_boxes n p x.sources in
    let one_each = (ends-each (λ (y : Node). y.sources) 1 a (each-sink-box (λ (y : Node). length y.sources ≡ 1) n p (λ i t k. refl) 0 x.sinks) (inr refl)).1 refl in
    let none_Each = (ends-each (λ (y : Node). y.sources) 0 b (each_source_box (λ (y : Node). length y.sources ≡ 0) n p (λ t k. refl) x.sources) (inl refl)).0 refl in
    omega (arith, ends-append (λ (y : Node). y.sources) (a ++ b) (boxes_from n (suc p) g), ends-append (λ (y : Node). y.sources) a b, one_each, none_Each, sink-boxes-long n p 0 x.sinks, boxes-sources n (suc p) g)

boxes-sinks : (n p : ℕ) (g : Graph) → ends (λ (x : Node). x.sinks) (boxes_from n p g) ≡ outers (λ (x : Node). x.sources) n g
boxes-sinks n p [] = refl
boxes-sinks n p (x ∷ g) =
    let a : List Node = sink_boxes n p 0 x.sinks in
    let b : List Node = source_boxes n p x.sources in
    let none_Each = (ends-each (λ (y : Node). y.sinks) 0 a (each-sink-box (λ (y : Node). length y.sinks ≡ 0) n p (λ i t k. refl) 0 x.sinks) (inl refl)).0 refl in
    let one_each = (ends-each (λ (y : Node). y.sinks) 1 b (each_source_box (λ (y : Node). length y.sinks ≡ 1) n p (λ t k. refl) x.sources) (inr refl)).1 refl in
    omega (arith, ends-append (λ (y : Node). y.sinks) (a ++ b) (boxes_from n (suc p) g), ends-append (λ (y : Node). y.sinks) a b, one_each, none_Each, source_boxes-long n p x.sources, boxes-sinks n (suc p) g)

pub joined-sources : (g : Graph) → ends (λ (x : Node). x.sources) (joined (length g) g) ≡ ends (λ (x : Node). x.sources) g + outers (λ (x : Node). x.sinks) (length g) g
joined-sources g =
    let n : ℕ = length g in
    ap (ends (λ (x : Node). x.sources)) (joined-shape g) ∙ omega (arith, ends-append (λ (x : Node). x.sources) (nodes_from n n g) (boxes_from n 0 g), nodes-sources n n g, boxes-sources n 0 g)

pub joined-sinks : (g : Graph) → ends (λ (x : Node). x.sinks) (joined (length g) g) ≡ ends (λ (x : Node). x.sinks) g + outers (λ (x : Node). x.sources) (length g) g
joined-sinks g =
    let n : ℕ = length g in
    ap (ends (λ (x : Node). x.sinks)) (joined-shape g) ∙ omega (arith, ends-append (λ (x : Node). x.sinks) (nodes_from n n g) (boxes_from n 0 g), nodes-sinks n n g, boxes-sinks n 0 g)

-- ---- the targets that the boxes show are those of the ends: below m where each end's target is
-- the line of a target below m that isn't one of the n given nodes
pub record OffIn (n m : ℕ) (ls : List Line) : Type 0 where
  pub target : ℕ
  pub given : 0 < n
  pub past : n ≤ target
  pub small : target < m
  pub line : ls ≡ one (invalid target)

module _ (n m p : ℕ) (h : p < n) where
  abbrev Shows : Node → Type 0
  Shows x = OffIn n m x.lines

  sink-boxes_in : (i : ℕ) (es : List Edge) → All (To m) es → All Shows (sink_boxes n p i es)
  sink-boxes_in i [] a = tt
  sink-boxes_in i (e ∷ es) a =
      either-by (ltb e.to n) (λ c. All Shows (cond c (sink_boxes n p (suc i) es) (sink_box p i e.to ∷ sink_boxes n p (suc i) es)))
      (λ z. sink-boxes_in (suc i) es a.1)
      (λ z. (record { target = e.to; given = omega arith; past = ltb-false e.to n z; small = a.0; line = refl }, sink-boxes_in (suc i) es a.1))

  source_boxes_in : (es : List Edge) → All (To m) es → All Shows (source_boxes n p es)
  source_boxes_in [] a = tt
  source_boxes_in (e ∷ es) a =
      either-by (ltb e.to n) (λ c. All Shows (cond c (source_boxes n p es) (source_box p e.to ∷ source_boxes n p es)))
      (λ z. source_boxes_in es a.1)
      (λ z. (record { target = e.to; given = omega arith; past = ltb-false e.to n z; small = a.0; line = refl }, source_boxes_in es a.1))

boxes_in : (n m p : ℕ) (g : Graph) → p + length g ≤ n → Aimed m g → All (λ (x : Node). OffIn n m x.lines) (boxes_from n p g)
boxes_in n m p [] h a = tt
boxes_in n m p (x ∷ g) h a =
    all_join (λ (y : Node). OffIn n m y.lines) (boxes_of n p x) (boxes_from n (suc p) g)
    (all_join (λ (y : Node). OffIn n m y.lines) (sink_boxes n p 0 x.sinks) (source_boxes n p x.sources)
    (sink-boxes_in n m p (omega arith) 0 x.sinks a.0.sinks) (source_boxes_in n m p (omega arith) x.sources a.0.sources))
    (boxes_in n m (suc p) g (omega arith) a.1)

pub boxes-off_in : (m : ℕ) (g : Graph) → Aimed m g → All (OffIn (length g) m) (lines_in (boxes_from (length g) 0 g))
boxes-off_in m g a = all_lines (OffIn (length g) m) (boxes_from (length g) 0 g) (boxes_in (length g) m 0 g (omega arith) a)
