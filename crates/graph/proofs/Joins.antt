-- Joining, all at once: the given nodes with the ends that lead to nothing pointed at their boxes, and after them the boxes.
-- Assumes nothing.
use Prim.Native.Nat.{ℕ, zero, suc, ◌+◌, ◌<◌}
use native.Mathlib.Omega.{arith}
use native.Mathlib.Nat.{zero-add}
use mathlib.Core.Path.{◌≡◌, refl, ap, sym, ◌∙◌}
use mathlib.Core.Bool.{Bool, true, false, cond}
use mathlib.Core.List.{List, [], ◌∷◌, ◌++◌, append-nil, append_assoc}
use lib.Dec.{ltb}
use lib.ListN.{length, get_or, set, take, drop, length-append}
use lib.Seq.{set_at, get_or_at, take-suc, drop-cons, take_all, length-take-le}
use Rattle.laws.specs.Lists.{one}
use Rattle.laws.proofs.Each.{each_holds}
use Rattle.laws.proofs.Lists.{length-one}
use Rattle.graph.specs.Graph.{Line, Edge, Node, Graph, bare, node_at, with_sources, with_sinks}
use Rattle.graph.specs.Cutting.{pointed}
use Rattle.graph.specs.Joining.{outside, leads, sink_box, source_box, join_sinks, join_sources, join_node, joined}

-- the edges, where those that lead to none of the first n nodes are pointed at b, b + 1, ..
abbrev pub renumbered : ℕ → ℕ → List Edge → List Edge
renumbered n b [] = []
renumbered n b (e ∷ es) = cond (ltb e.to n) (e ∷ renumbered n b es) (pointed b e ∷ renumbered n (suc b) es)

-- the boxes of the sinks of p, the first of them number i
abbrev pub sink_boxes : ℕ → ℕ → ℕ → List Edge → List Node
sink_boxes n p i [] = []
sink_boxes n p i (e ∷ es) = cond (ltb e.to n) (sink_boxes n p (suc i) es) (sink_box p i e.to ∷ sink_boxes n p (suc i) es)

-- the boxes of the sources of p
abbrev pub source_boxes : ℕ → ℕ → List Edge → List Node
source_boxes n p [] = []
source_boxes n p (e ∷ es) = cond (ltb e.to n) (source_boxes n p es) (source_box p e.to ∷ source_boxes n p es)

-- a node whose first box is number b
abbrev pub joined_node : ℕ → ℕ → Node → Node
joined_node n b x = record { sources = renumbered n (b + outside n x.sinks) x.sources; lines = x.lines; sinks = renumbered n b x.sinks }

-- the boxes of node p
abbrev pub boxes_of : ℕ → ℕ → Node → List Node
boxes_of n p x = sink_boxes n p 0 x.sinks ++ source_boxes n p x.sources

-- nodes one after the other, the first box number b
abbrev pub nodes_from : ℕ → ℕ → Graph → Graph
nodes_from n b [] = []
nodes_from n b (x ∷ g) = joined_node n b x ∷ nodes_from n (b + (outside n x.sinks + outside n x.sources)) g

-- the boxes of the nodes, the first of them number p
abbrev pub boxes_from : ℕ → ℕ → Graph → Graph
boxes_from n p [] = []
boxes_from n p (x ∷ g) = boxes_of n p x ++ boxes_from n (suc p) g

pub either : (P : Bool → Type 0) → P true → P false → (c : Bool) → P c
either P x y true = x
either P x y false = y

-- ---- lengths
pub renumbered-long : (n b : ℕ) (es : List Edge) → length (renumbered n b es) ≡ length es
renumbered-long n b [] = refl
renumbered-long n b (e ∷ es) =
    either
    (λ c.
    length (cond c (e ∷ renumbered n b es) (pointed b e ∷ renumbered n (suc b) es)) ≡ suc (length es))
    (ap suc (renumbered-long n b es))
    (ap suc (renumbered-long n (suc b) es))
    (ltb e.to n)

pub sink-boxes-long : (n p i : ℕ) (es : List Edge) → length (sink_boxes n p i es) ≡ outside n es
sink-boxes-long n p i [] = refl
sink-boxes-long n p i (e ∷ es) =
    either
    (λ c.
    length (cond c (sink_boxes n p (suc i) es) (sink_box p i e.to ∷ sink_boxes n p (suc i) es)) ≡ cond c (outside n es) (suc (outside n es)))
    (sink-boxes-long n p (suc i) es)
    (ap suc (sink-boxes-long n p (suc i) es))
    (ltb e.to n)

pub source_boxes-long : (n p : ℕ) (es : List Edge) → length (source_boxes n p es) ≡ outside n es
source_boxes-long n p [] = refl
source_boxes-long n p (e ∷ es) =
    either
    (λ c.
    length (cond c (source_boxes n p es) (source_box p e.to ∷ source_boxes n p es)) ≡ cond c (outside n es) (suc (outside n es)))
    (source_boxes-long n p es)
    (ap suc (source_boxes-long n p es))
    (ltb e.to n)

pub boxes-of-long : (n p : ℕ) (x : Node) → length (boxes_of n p x) ≡ outside n x.sinks + outside n x.sources
boxes-of-long n p x = length-append (sink_boxes n p 0 x.sinks) (source_boxes n p x.sources) ∙ rw (sink-boxes-long, source_boxes-long)

pub nodes-long : (n b : ℕ) (g : Graph) → length (nodes_from n b g) ≡ length g
nodes-long n b [] = refl
nodes-long n b (x ∷ g) = ap suc (nodes-long n (b + (outside n x.sinks + outside n x.sources)) g)

pub boxes-long : (n p : ℕ) (g : Graph) → length (boxes_from n p g) ≡ leads n g
boxes-long n p [] = refl
boxes-long n p (x ∷ g) = length-append (boxes_of n p x) (boxes_from n (suc p) g) ∙ rw (boxes-of-long n p x, boxes-long n (suc p) g)

-- ---- one node more
nodes-snoc : (n b : ℕ) (g : Graph) (x : Node) → nodes_from n b (g ++ one x) ≡ nodes_from n b g ++ one (joined_node n (b + leads n g) x)
nodes-snoc n b [] x = let e : b ≡ b + 0 = omega arith in ap (λ (k : ℕ). one (joined_node n k x)) e
nodes-snoc n b (y ∷ g) x =
    let m : ℕ = outside n y.sinks + outside n y.sources in
    let e : b + m + leads n g ≡ b + (m + leads n g) = omega arith in
    ap (λ (l : Graph). joined_node n b y ∷ l) (nodes-snoc n (b + m) g x ∙ ap (λ (k : ℕ). nodes_from n (b + m) g ++ one (joined_node n k x)) e)

boxes-snoc : (n p : ℕ) (g : Graph) (x : Node) → boxes_from n p (g ++ one x) ≡ boxes_from n p g ++ boxes_of n (p + length g) x
boxes-snoc n p [] x = append-nil (boxes_of n p x) ∙ (let e : p ≡ p + 0 = omega arith in ap (λ (k : ℕ). boxes_of n k x) e)
boxes-snoc n p (y ∷ g) x =
    let e : suc p + length g ≡ p + suc (length g) = omega arith in
    ap (λ (l : Graph). boxes_of n p y ++ l) (boxes-snoc n (suc p) g x ∙ ap (λ (k : ℕ). boxes_from n (suc p) g ++ boxes_of n k x) e)
    ∙ sym (append_assoc (boxes_of n p y) (boxes_from n (suc p) g) (boxes_of n (p + suc (length g)) x))

-- ---- one node
abbrev node : List Edge → List Line → List Edge → Node
node xs ls ys = record { sources = xs; lines = ls; sinks = ys }

at_seam : (a : Graph) (x : Node) (b : Graph) → node_at (a ++ (x ∷ b)) (length a) ≡ x
at_seam a x b = get_or_at a x b bare (length a) refl

set_seam : (a : Graph) (x : Node) (b : Graph) (y : Node) → set (a ++ (x ∷ b)) (length a) y ≡ a ++ (y ∷ b)
set_seam a x b y = set_at a x b y (length a) refl

-- the last of the list goes over
over : {A : Type 0} (done : List A) (x : A) (es : List A) → (done ++ one x) ++ es ≡ done ++ (x ∷ es)
over done x es = append_assoc done (one x) es

module _ (n : ℕ) (a : Graph) (ls : List Line) where
  abbrev p : ℕ
  p = length a

  -- the sink e, number i, gets its box
  module _ (e : Edge) (es : List Edge) (b : Graph) (xs done : List Edge) (i m : ℕ) (h : length done ≡ i) (l : length (a ++ (node xs ls (done ++ (e ∷ es)) ∷ b)) ≡ m) where
    abbrev g₁ : Graph
    g₁ = a ++ (node xs ls (done ++ (e ∷ es)) ∷ b)

    abbrev box₁ : Node
    box₁ = sink_box p i e.to

    abbrev step₁ : Graph
    step₁ = with_sinks g₁ p (set (node_at g₁ p).sinks i (pointed (length g₁) e)) ++ one box₁

    stepped₁ : step₁ ≡ a ++ (node xs ls ((done ++ one (pointed m e)) ++ es) ∷ (b ++ one box₁))
    stepped₁ =
        ap (λ (k : ℕ). with_sinks g₁ p (set (node_at g₁ p).sinks i (pointed k e)) ++ one box₁) l
        ∙ ap (λ (x : Node). set g₁ p (node x.sources x.lines (set x.sinks i (pointed m e))) ++ one box₁) (at_seam a (node xs ls (done ++ (e ∷ es))) b)
        ∙ ap (λ (ys : List Edge). set g₁ p (node xs ls ys) ++ one box₁) (set_at done e es (pointed m e) i h ∙ sym (over done (pointed m e) es))
        ∙ ap (λ (u : Graph). u ++ one box₁) (set_seam a (node xs ls (done ++ (e ∷ es))) b (node xs ls ((done ++ one (pointed m e)) ++ es)))
        ∙ append_assoc a (node xs ls ((done ++ one (pointed m e)) ++ es) ∷ b) (one box₁)

    long₁ : length (a ++ (node xs ls ((done ++ one (pointed m e)) ++ es) ∷ (b ++ one box₁))) ≡ suc m
    long₁ =
        length-append a (node xs ls ((done ++ one (pointed m e)) ++ es) ∷ (b ++ one box₁))
        ∙ omega (arith, length-one b box₁, sym l ∙ length-append a (node xs ls (done ++ (e ∷ es)) ∷ b))

  sinks-shape : (es : List Edge) (b : Graph) (xs done : List Edge) (i m : ℕ) → length done ≡ i → length (a ++ (node xs ls (done ++ es) ∷ b)) ≡ m →
      join_sinks n (a ++ (node xs ls (done ++ es) ∷ b)) p i es ≡ a ++ (node xs ls (done ++ renumbered n m es) ∷ (b ++ sink_boxes n p i es))
  sinks-shape [] b xs done i m h l = ap (λ (r : Graph). a ++ (node xs ls (done ++ []) ∷ r)) (sym (append-nil b))
  sinks-shape (e ∷ es) b xs done i m h l =
      either
      (λ c.
      join_sinks n (cond c (g₁ e es b xs done i m h l) (step₁ e es b xs done i m h l)) p (suc i) es
      ≡ a ++ (node xs ls (done ++ cond c (e ∷ renumbered n m es) (pointed m e ∷ renumbered n (suc m) es)) ∷ (b ++ cond c (sink_boxes n p (suc i) es) (sink_box p i e.to ∷ sink_boxes n p (suc i) es))))
      (ap (λ (ys : List Edge). join_sinks n (a ++ (node xs ls ys ∷ b)) p (suc i) es) (sym (over done e es))
      ∙ sinks-shape es b xs (done ++ one e) (suc i) m (length-one done e ∙ omega (arith, h)) (ap (λ (ys : List Edge). length (a ++ (node xs ls ys ∷ b))) (over done e es) ∙ l)
      ∙ ap (λ (ys : List Edge). a ++ (node xs ls ys ∷ (b ++ sink_boxes n p (suc i) es))) (over done e (renumbered n m es)))
      (let y : Edge = pointed m e in
      let box : Node = sink_box p i e.to in
      ap (λ (u : Graph). join_sinks n u p (suc i) es) (stepped₁ e es b xs done i m h l)
      ∙ sinks-shape es (b ++ one box) xs (done ++ one y) (suc i) (suc m) (length-one done y ∙ omega (arith, h)) (long₁ e es b xs done i m h l)
      ∙ ap (λ (ys : List Edge). a ++ (node xs ls ys ∷ ((b ++ one box) ++ sink_boxes n p (suc i) es))) (over done y (renumbered n (suc m) es))
      ∙ ap (λ (r : Graph). a ++ (node xs ls (done ++ (y ∷ renumbered n (suc m) es)) ∷ r)) (over b box (sink_boxes n p (suc i) es)))
      (ltb e.to n)

  -- the source e, number j, gets its box
  module _ (e : Edge) (es : List Edge) (b : Graph) (ys done : List Edge) (j m : ℕ) (h : length done ≡ j) (l : length (a ++ (node (done ++ (e ∷ es)) ls ys ∷ b)) ≡ m) where
    abbrev g₂ : Graph
    g₂ = a ++ (node (done ++ (e ∷ es)) ls ys ∷ b)

    abbrev box₂ : Node
    box₂ = source_box p e.to

    abbrev step₂ : Graph
    step₂ = with_sources g₂ p (set (node_at g₂ p).sources j (pointed (length g₂) e)) ++ one box₂

    stepped₂ : step₂ ≡ a ++ (node ((done ++ one (pointed m e)) ++ es) ls ys ∷ (b ++ one box₂))
    stepped₂ =
        ap (λ (k : ℕ). with_sources g₂ p (set (node_at g₂ p).sources j (pointed k e)) ++ one box₂) l
        ∙ ap (λ (x : Node). set g₂ p (node (set x.sources j (pointed m e)) x.lines x.sinks) ++ one box₂) (at_seam a (node (done ++ (e ∷ es)) ls ys) b)
        ∙ ap (λ (xs : List Edge). set g₂ p (node xs ls ys) ++ one box₂) (set_at done e es (pointed m e) j h ∙ sym (over done (pointed m e) es))
        ∙ ap (λ (u : Graph). u ++ one box₂) (set_seam a (node (done ++ (e ∷ es)) ls ys) b (node ((done ++ one (pointed m e)) ++ es) ls ys))
        ∙ append_assoc a (node ((done ++ one (pointed m e)) ++ es) ls ys ∷ b) (one box₂)

    long₂ : length (a ++ (node ((done ++ one (pointed m e)) ++ es) ls ys ∷ (b ++ one box₂))) ≡ suc m
    long₂ =
        length-append a (node ((done ++ one (pointed m e)) ++ es) ls ys ∷ (b ++ one box₂))
        ∙ omega (arith, length-one b box₂, sym l ∙ length-append a (node (done ++ (e ∷ es)) ls ys ∷ b))

  sources-shape : (es : List Edge) (b : Graph) (ys done : List Edge) (j m : ℕ) → length done ≡ j → length (a ++ (node (done ++ es) ls ys ∷ b)) ≡ m →
      join_sources n (a ++ (node (done ++ es) ls ys ∷ b)) p j es ≡ a ++ (node (done ++ renumbered n m es) ls ys ∷ (b ++ source_boxes n p es))
  sources-shape [] b ys done j m h l = ap (λ (r : Graph). a ++ (node (done ++ []) ls ys ∷ r)) (sym (append-nil b))
  sources-shape (e ∷ es) b ys done j m h l =
      either
      (λ c.
      join_sources n (cond c (g₂ e es b ys done j m h l) (step₂ e es b ys done j m h l)) p (suc j) es
      ≡ a ++ (node (done ++ cond c (e ∷ renumbered n m es) (pointed m e ∷ renumbered n (suc m) es)) ls ys ∷ (b ++ cond c (source_boxes n p es) (source_box p e.to ∷ source_boxes n p es))))
      (ap (λ (xs : List Edge). join_sources n (a ++ (node xs ls ys ∷ b)) p (suc j) es) (sym (over done e es))
      ∙ sources-shape es b ys (done ++ one e) (suc j) m (length-one done e ∙ omega (arith, h)) (ap (λ (xs : List Edge). length (a ++ (node xs ls ys ∷ b))) (over done e es) ∙ l)
      ∙ ap (λ (xs : List Edge). a ++ (node xs ls ys ∷ (b ++ source_boxes n p es))) (over done e (renumbered n m es)))
      (let y : Edge = pointed m e in
      let box : Node = source_box p e.to in
      ap (λ (u : Graph). join_sources n u p (suc j) es) (stepped₂ e es b ys done j m h l)
      ∙ sources-shape es (b ++ one box) ys (done ++ one y) (suc j) (suc m) (length-one done y ∙ omega (arith, h)) (long₂ e es b ys done j m h l)
      ∙ ap (λ (xs : List Edge). a ++ (node xs ls ys ∷ ((b ++ one box) ++ source_boxes n p es))) (over done y (renumbered n (suc m) es))
      ∙ ap (λ (r : Graph). a ++ (node (done ++ (y ∷ renumbered n (suc m) es)) ls ys ∷ r)) (over b box (source_boxes n p es)))
      (ltb e.to n)

module _ (n : ℕ) (a : Graph) (x : Node) (b : Graph) (m : ℕ) (l : length (a ++ (x ∷ b)) ≡ m) where
  abbrev q : ℕ
  q = length a

  abbrev half : Graph
  half = a ++ (node x.sources x.lines (renumbered n m x.sinks) ∷ (b ++ sink_boxes n q 0 x.sinks))

  half-long : length half ≡ m + outside n x.sinks
  half-long =
      length-append a (node x.sources x.lines (renumbered n m x.sinks) ∷ (b ++ sink_boxes n q 0 x.sinks))
      ∙ omega (arith, length-append b (sink_boxes n q 0 x.sinks), sink-boxes-long n q 0 x.sinks, sym l ∙ length-append a (x ∷ b))

  node-shape : join_node n (a ++ (x ∷ b)) q ≡ a ++ (joined_node n m x ∷ (b ++ boxes_of n q x))
  node-shape =
      ap (λ (u : Graph). join_sources n u q 0 (node_at u q).sources)
      (ap (λ (y : Node). join_sinks n (a ++ (x ∷ b)) q 0 y.sinks) (at_seam a x b) ∙ sinks-shape n a x.lines x.sinks b x.sources [] 0 m refl l)
      ∙ ap (λ (y : Node). join_sources n half q 0 y.sources) (at_seam a (node x.sources x.lines (renumbered n m x.sinks)) (b ++ sink_boxes n q 0 x.sinks))
      ∙ sources-shape n a x.lines x.sources (b ++ sink_boxes n q 0 x.sinks) (renumbered n m x.sinks) [] 0 (m + outside n x.sinks) refl half-long
      ∙ ap (λ (r : Graph). a ++ (joined_node n m x ∷ r)) (append_assoc b (sink_boxes n q 0 x.sinks) (source_boxes n q x.sources))

-- ---- all nodes
rest-long : (l : Graph) (k : ℕ) → k < length l → k + suc (length (drop (suc k) l)) ≡ length l
rest-long [] k h = absurd (omega arith)
rest-long (y ∷ l) zero h = omega arith
rest-long (y ∷ l) (suc k) h = omega (arith, rest-long l k (omega arith))

none_left : (l : Graph) → drop (length l) l ≡ []
none_left [] = refl
none_left (x ∷ l) = none_left l

module _ (g : Graph) where
  abbrev n : ℕ
  n = length g

  abbrev after : ℕ → Graph
  after k = nodes_from n n (take k g) ++ (drop k g ++ boxes_from n 0 (take k g))

  one-node : (k : ℕ) (u : Graph) → k < n → u ≡ after k → join_node n u k ≡ after (suc k)
  one-node k u h e =
      let x : Node = get_or g k bare in
      let old : Graph = take k g in
      let a : Graph = nodes_from n n old in
      let b : Graph = drop (suc k) g ++ boxes_from n 0 old in
      let size : length old ≡ k = length-take-le k g (omega arith) in
      let a-long : length a ≡ k = nodes-long n n old ∙ size in
      let d : drop k g ≡ x ∷ drop (suc k) g = drop-cons g k bare h in
      let t : take (suc k) g ≡ old ++ one x = take-suc g k bare h in
      let is : u ≡ a ++ (x ∷ b) = e ∙ ap (λ (r : Graph). a ++ (r ++ boxes_from n 0 old)) d in
      let long : length (a ++ (x ∷ b)) ≡ n + leads n old =
      length-append a (x ∷ b) ∙ omega (arith, a-long, length-append (drop (suc k) g) (boxes_from n 0 old), boxes-long n 0 old, rest-long g k h) in
      ap (λ (v : Graph). join_node n v k) is
      ∙ ap (λ (j : ℕ). join_node n (a ++ (x ∷ b)) j) (sym a-long)
      ∙ node-shape n a x b (n + leads n old) long
      ∙ ap (λ (j : ℕ). a ++ (joined_node n (n + leads n old) x ∷ (b ++ boxes_of n j x))) a-long
      ∙ ap (λ (j : ℕ). a ++ (joined_node n (n + leads n old) x ∷ (b ++ boxes_of n j x))) (sym size ∙ sym (zero-add (length old)))
      ∙ ap (λ (r : Graph). a ++ (joined_node n (n + leads n old) x ∷ r)) (append_assoc (drop (suc k) g) (boxes_from n 0 old) (boxes_of n (0 + length old) x) ∙ ap (λ (r : Graph). drop (suc k) g ++ r) (sym (boxes-snoc n 0 old x)))
      ∙ sym (append_assoc a (one (joined_node n (n + leads n old) x)) (drop (suc k) g ++ boxes_from n 0 (old ++ one x)))
      ∙ ap (λ (r : Graph). r ++ (drop (suc k) g ++ boxes_from n 0 (old ++ one x))) (sym (nodes-snoc n n old x))
      ∙ ap (λ (r : Graph). nodes_from n n r ++ (drop (suc k) g ++ boxes_from n 0 r)) (sym t)

  pub joined-shape : joined n g ≡ nodes_from n n g ++ boxes_from n 0 g
  unfolding joined
  joined-shape =
      each_holds (λ k u. u ≡ after k) (λ k u. join_node n u k) n one-node g (sym (append-nil g)) n (omega arith)
      ∙ ap (λ (l : Graph). nodes_from n n l ++ (drop n g ++ boxes_from n 0 l)) (take_all n g (omega arith))
      ∙ ap (λ (l : Graph). nodes_from n n g ++ (l ++ boxes_from n 0 g)) (none_left g)

  pub joined-long : length (joined n g) ≡ n + leads n g
  joined-long = ap length joined-shape ∙ length-append (nodes_from n n g) (boxes_from n 0 g) ∙ omega (arith, nodes-long n n g, boxes-long n 0 g)
