-- What a cut does to the tables is what `cut` does to the graph that they hold.
-- Assumes nothing.
use Prim.Native.Nat.{ℕ, zero, suc, ◌+◌, ◌≤◌, ◌<◌}
use native.Mathlib.Omega.{arith}
use native.Mathlib.Nat.{zero-add, le_of_suc-le-suc, not-suc-le-zero}
use native.Mathlib.Numerals.{add-one}
use mathlib.Core.Path.{◌≡◌, refl, ap, sym, ◌∙◌}
use mathlib.Core.Option.{Option, some}
use mathlib.Core.Bool.{Bool, true, false, cond, ◌&&◌}
use mathlib.Core.List.{List, [], ◌∷◌, ◌++◌, map, append-nil, append_assoc}
use lib.Dec.{eqb}
use lib.ListN.{length, get_or, set, take, drop, length-append, length-map, length-set, get_or-append}
use lib.Seq.{get_or-set_same, get_or-set_other, set_split, split_at, take-suc, set_at, get_or_at, get_or-append-add}
use borrow.Author.Tests.{eq-eqb, ne_eqb, eqb-true}
use Rattle.laws.specs.Lists.{keep, one, tabulate}
use Rattle.laws.proofs.Tests.{pick-through}
use Rattle.laws.proofs.Lists.{length-tabulate, all_map, tabulate-set, tabulate-same, tabulate-snoc}
use Rattle.chart.specs.declared.Line.{Line as LineItem}
use Rattle.chart.specs.code.Filled.{lines_of as texts_of, owned_lines}
use Rattle.graph.specs.declared.Item.{Item}
use Rattle.graph.specs.Items.{Items}
use Rattle.graph.specs.declared.Name.{Name}
use Rattle.graph.specs.declared.Name.TheVariants.{Nothing, Number}
use Rattle.graph.specs.declared.Tables.{Tables}
use Rattle.graph.specs.Graph.{Edge, Node, Graph, Line, number, no_text, node_at, with_sources, with_sinks}
use Rattle.graph.specs.Cutting.{cut_graph, turned, pointed, second_node}
use Rattle.graph.specs.code.Tables.{source_of, sink_of, owned, mark_of, edge_of, node_of, graph_from, Below, Aimed, Roomy, Sunk, CutTo, Linked, Texted, items_of, lines_at, lines_of, graph_of, point_item, turn_item}
use Rattle.graph.specs.Outcome.{no_item}
use Rattle.graph.proofs.AimLaws.{all_in}
use Rattle.graph.proofs.Lists.{node-graph}
use Rattle.graph.proofs.Gains.{owned-join, owned-new, owned-old}

-- record k is sink s of c
module _ (ys : List Item) (c s k : ℕ) (f : Sunk ys c s k) where
  owned-split : (y : Item) → y.owner ≡ c → owned c (take k ys ++ y ∷ drop (suc k) ys) ≡ owned c (take k ys) ++ edge_of y ∷ owned c (drop (suc k) ys)
  owned-split y e = owned-join c (take k ys) (y ∷ drop (suc k) ys) ∙ rw (eq-eqb y.owner c e)

  pub sunk-is : get_or (owned c ys) s (edge_of no_item) ≡ edge_of (get_or ys k no_item)
  sunk-is =
      ap (λ (l : List Item). get_or (owned c l) s (edge_of no_item)) (split_at ys k no_item f.inside)
      ∙ ap (λ (l : List Edge). get_or l s (edge_of no_item)) (owned-split (get_or ys k no_item) f.owner)
      ∙ get_or_at (owned c (take k ys)) (edge_of (get_or ys k no_item)) (owned c (drop (suc k) ys)) (edge_of no_item) s f.number

  pub sunk-less : s < length (owned c ys)
  sunk-less =
      rw (split_at ys k no_item f.inside, owned-split (get_or ys k no_item) f.owner)
      (simp length-append (omega (arith, f.number)))

  -- another record of c in its place
  owned-set : (y : Item) → y.owner ≡ c → owned c (set ys k y) ≡ set (owned c ys) s (edge_of y)
  owned-set y e =
      ap (owned c) (set_split ys k y f.inside) ∙ owned-split y e
      ∙ sym (ap (λ (l : List Item). set (owned c l) s (edge_of y)) (split_at ys k no_item f.inside)
      ∙ ap (λ (l : List Edge). set l s (edge_of y)) (owned-split (get_or ys k no_item) f.owner)
      ∙ set_at (owned c (take k ys)) (edge_of (get_or ys k no_item)) (owned c (drop (suc k) ys)) (edge_of y) s f.number)

  owned-split-other : (y : Item) → y.owner ≡ c → (p : ℕ) → (p ≡ c → ⊥) → owned p (take k ys ++ y ∷ drop (suc k) ys) ≡ owned p (take k ys) ++ owned p (drop (suc k) ys)
  owned-split-other y e p o = owned-join p (take k ys) (y ∷ drop (suc k) ys) ∙ rw (ne_eqb y.owner p (λ z. o (omega arith)))

  owned-set-other : (y : Item) → y.owner ≡ c → (p : ℕ) → (p ≡ c → ⊥) → owned p (set ys k y) ≡ owned p ys
  owned-set-other y e p o =
      ap (owned p) (set_split ys k y f.inside) ∙ owned-split-other y e p o
      ∙ sym (ap (owned p) (split_at ys k no_item f.inside) ∙ owned-split-other (get_or ys k no_item) f.owner p o)

  -- the sink is pointed at node a
  pub point_graph : (n : ℕ) (ls : List (List Line)) (xs : List Item) (a : ℕ) → c < n →
      with_sinks (graph_from n ls xs ys) c (set (owned c ys) s (pointed a (edge_of (get_or ys k no_item)))) ≡ graph_from n ls xs (set ys k (point_item a (get_or ys k no_item)))
  unfolding graph_from
  point_graph n ls xs a h =
      let y : Item = point_item a (get_or ys k no_item) in
      let x : Node = record { sources = owned c xs; lines = get_or ls c []; sinks = set (owned c ys) s (edge_of y) } in
      ap (λ (z : Node). set (graph_from n ls xs ys) c (record { sources = z.sources; lines = z.lines; sinks = set (owned c ys) s (edge_of y) })) (node-graph n ls xs ys c h)
      ∙ tabulate-set (node_of ls xs ys) (node_of ls xs (set ys k y)) x 0 n c h
      (rw (zero-add c, owned-set y f.owner))
      (λ m o. rw (owned-set-other y f.owner m (λ z. o (omega arith))))

  -- ys as the records of the sources: source s of c has another record of c in its place
  pub mark-graph : (n : ℕ) (ls : List (List Line)) (zs : List Item) (y : Item) → y.owner ≡ c → c < n →
      with_sources (graph_from n ls ys zs) c (set (node_at (graph_from n ls ys zs) c).sources s (edge_of y)) ≡ graph_from n ls (set ys k y) zs
  unfolding graph_from
  mark-graph n ls zs y e h =
      let x : Node = record { sources = set (owned c ys) s (edge_of y); lines = get_or ls c []; sinks = owned c zs } in
      ap (λ (z : Node). set (graph_from n ls ys zs) c (record { sources = set z.sources s (edge_of y); lines = z.lines; sinks = z.sinks })) (node-graph n ls ys zs c h)
      ∙ tabulate-set (node_of ls ys zs) (node_of ls (set ys k y) zs) x 0 n c h
      (rw (zero-add c, owned-set y e))
      (λ m o. rw (owned-set-other y e m (λ z. o (omega arith))))

-- the sources of q with target c are turned
module _ (q c to : ℕ) where
  pick-owner : (b : Bool) (x y : Item) → x.owner ≡ y.owner → (cond b x y).owner ≡ y.owner
  pick-owner true x y e = e
  pick-owner false x y e = refl

  turn_owner : (x : Item) → (turn_item q c to x).owner ≡ x.owner
  turn_owner x = pick-owner (eqb x.owner q && eqb x.to c) _ x refl

  turn_edge : (x : Item) → x.owner ≡ q → edge_of (turn_item q c to x) ≡ turned c to (edge_of x)
  turn_edge x e = rw (eq-eqb x.owner q e) (pick-through edge_of (eqb x.to c) _ x)

  turn_not : (x : Item) → (x.owner ≡ q → ⊥) → turn_item q c to x ≡ x
  turn_not x e = rw (ne_eqb x.owner q e)

  turn_keep : (x : Item) (es fs : List Edge) (b : Bool) → eqb x.owner q ≡ b → es ≡ map (turned c to) fs →
      keep b (edge_of (turn_item q c to x)) es ≡ map (turned c to) (keep b (edge_of x) fs)
  turn_keep x es fs true e i = cc (turn_edge x (eqb-true x.owner q e))
  turn_keep x es fs false e i = i

  owned_turn : (xs : List Item) → owned q (map (turn_item q c to) xs) ≡ map (turned c to) (owned q xs)
  owned_turn [] = refl
  owned_turn (x ∷ xs) = rw (turn_owner x) (turn_keep x (owned q (map (turn_item q c to) xs)) (owned q xs) (eqb x.owner q) refl (owned_turn xs))

  turn_keep-other : (x : Item) (es fs : List Edge) (p : ℕ) → (p ≡ q → ⊥) → (b : Bool) → eqb x.owner p ≡ b → es ≡ fs →
      keep b (edge_of (turn_item q c to x)) es ≡ keep b (edge_of x) fs
  turn_keep-other x es fs p o true e i =
      let w : x.owner ≡ p = eqb-true x.owner p e in
      cc (turn_not x (λ z. o (sym w ∙ z)))
  turn_keep-other x es fs p o false e i = i

  owned_turn_other : (p : ℕ) → (p ≡ q → ⊥) → (xs : List Item) → owned p (map (turn_item q c to) xs) ≡ owned p xs
  owned_turn_other p o [] = refl
  owned_turn_other p o (x ∷ xs) =
      rw (turn_owner x) (turn_keep-other x (owned p (map (turn_item q c to) xs)) (owned p xs) p o (eqb x.owner p) refl (owned_turn_other p o xs))

  pub turn_graph : (n : ℕ) (ls : List (List Line)) (xs ys : List Item) → q < n →
      with_sources (graph_from n ls xs ys) q (map (turned c to) (node_at (graph_from n ls xs ys) q).sources) ≡ graph_from n ls (map (turn_item q c to) xs) ys
  unfolding graph_from
  turn_graph n ls xs ys h =
      let x : Node = record { sources = map (turned c to) (owned q xs); lines = get_or ls q []; sinks = owned q ys } in
      ap (λ (z : Node). set (graph_from n ls xs ys) q (record { sources = map (turned c to) z.sources; lines = z.lines; sinks = z.sinks })) (node-graph n ls xs ys q h)
      ∙ tabulate-set (node_of ls xs ys) (node_of ls (map (turn_item q c to) xs) ys) x 0 n q h
      (rw (zero-add q, owned_turn xs))
      (λ m o. rw (owned_turn_other m (λ z. o (omega arith)) xs))

  pub below_turn : (n : ℕ) (xs : List Item) → Below n xs → Below n (map (turn_item q c to) xs)
  below_turn n [] a = tt
  below_turn n (x ∷ xs) a = (rw (turn_owner x) a.0, below_turn n xs a.1)

  pick_to : (n : ℕ) (b : Bool) (x y : Item) → x.to < n → y.to < n → (cond b x y).to < n
  pick_to n true x y h l = h
  pick_to n false x y h l = l

  pub aimed_turn : (n : ℕ) → to < n → (xs : List Item) → Aimed n xs → Aimed n (map (turn_item q c to) xs)
  aimed_turn n h [] a = tt
  aimed_turn n h (x ∷ xs) a = (pick_to n (eqb x.owner q && eqb x.to c) _ x h a.0, aimed_turn n h xs a.1)

pub below_set : (n : ℕ) (ys : List Item) (k : ℕ) (y : Item) → y.owner < n → Below n ys → Below n (set ys k y)
below_set n [] k y h a = tt
below_set n (x ∷ xs) zero y h a = (h, a.1)
below_set n (x ∷ xs) (suc k) y h a = (a.0, below_set n xs k y h a.1)

pub below_one : (n m : ℕ) (xs : List Item) (r : Item) → n ≤ m → r.owner < m → Below n xs → Below m (xs ++ one r)
below_one n m [] r l h a = (h, tt)
below_one n m (x ∷ xs) r l h a = (omega (arith, a.0), below_one n m xs r l h a.1)

pub below_more : (n m : ℕ) (xs : List Item) → n ≤ m → Below n xs → Below m xs
below_more n m [] l a = tt
below_more n m (x ∷ xs) l a = (omega (arith, a.0), below_more n m xs l a.1)

pub none_owned : (n p : ℕ) → n ≤ p → (xs : List Item) → Below n xs → owned p xs ≡ []
none_owned n p l [] a = refl
none_owned n p l (x ∷ xs) a = rw (ne_eqb x.owner p (λ z. omega (arith, a.0)), none_owned n p l xs a.1)

-- two nodes more: r is the one source of the first, z the one sink of the second
module _ (n : ℕ) (ls : List (List Line)) (xs ys : List Item) (r z : Item) (m : List Line)
    (full : length ls ≡ n) (bx : Below n xs) (by : Below n ys) (hr : r.owner ≡ n) (hz : z.owner ≡ suc n) where
  abbrev first : Node
  first = record { sources = one (edge_of r); lines = m; sinks = [] }

  abbrev second : Node
  second = record { sources = []; lines = m; sinks = one (edge_of z) }

  abbrev node : ℕ → Node
  node = node_of (ls ++ (m ∷ m ∷ [])) (xs ++ one r) (ys ++ one z)

  node-old : (p : ℕ) → p < n → node p ≡ node_of ls xs ys p
  node-old p h = rw (owned-old p xs r (λ e. omega arith), owned-old p ys z (λ e. omega arith), get_or-append ls (m ∷ m ∷ []) [] p (omega arith))

  node-first : node n ≡ first
  node-first =
      rw (owned-new n xs r hr, none_owned n n (omega arith) xs bx, owned-old n ys z (λ e. omega arith), none_owned n n (omega arith) ys by, get_or_at ls m (m ∷ []) [] n full)

  node-second : node (suc n) ≡ second
  node-second =
      let k : suc n ≡ length ls + 1 = omega arith in
      let e : get_or (ls ++ (m ∷ m ∷ [])) (suc n) [] ≡ m = ap (λ (j : ℕ). get_or (ls ++ (m ∷ m ∷ [])) j []) k ∙ get_or-append-add ls (m ∷ m ∷ []) 1 [] in
      rw (owned-old (suc n) xs r (λ e. omega arith), none_owned n (suc n) (omega arith) xs bx, owned-new (suc n) ys z hz, none_owned n (suc n) (omega arith) ys by, e)

  pub two-more : graph_from n ls xs ys ++ (first ∷ second ∷ []) ≡ graph_from (suc (suc n)) (ls ++ (m ∷ m ∷ [])) (xs ++ one r) (ys ++ one z)
  unfolding graph_from
  two-more =
      let old : tabulate node 0 n ≡ graph_from n ls xs ys = tabulate-same node (node_of ls xs ys) 0 n (λ p l h. node-old p (omega arith)) in
      let a : node (0 + n) ≡ first = ap node (zero-add n) ∙ node-first in
      let b : node (0 + suc n) ≡ second = ap node (zero-add (suc n)) ∙ node-second in
      sym (tabulate-snoc node 0 (suc n)
      ∙ ap (λ (l : List Node). l ++ one (node (0 + suc n))) (tabulate-snoc node 0 n)
      ∙ append_assoc (tabulate node 0 n) (one (node (0 + n))) (one (node (0 + suc n)))
      ∙ cc (old, a, b))

pub length-graph : (n : ℕ) (ls : List (List Line)) (xs ys : List Item) → length (graph_from n ls xs ys) ≡ n
unfolding graph_from
length-graph n ls xs ys = length-tabulate (node_of ls xs ys) 0 n

-- the records that a cut of sink s of c, record k, adds
abbrev pub new_source : ℕ → ℕ → ℕ → Item
new_source n c s = record { owner = n; to = c; mark = s + 1; at = 0; len = 0 }

abbrev pub new_sink : ℕ → ℕ → Item
new_sink n q = record { owner = suc n; to = q; mark = 0; at = 0; len = 0 }

-- the whole cut
module _ (n : ℕ) (ls : List (List Line)) (xs ys : List Item) (c s k : ℕ) (f : Sunk ys c s k) (full : length ls ≡ n) (bx : Below n xs) (by : Below n ys) (hc : c < n)
    (hq : (get_or ys k no_item).to < n) where
  abbrev y : Item
  y = get_or ys k no_item

  abbrev q : ℕ
  q = y.to

  abbrev g : Graph
  g = graph_from n ls xs ys

  abbrev new_at : Option ℕ → List Node
  new_at m = record { sources = one (record { to = c; mark = m; text = no_text }); lines = one (number q); sinks = [] } ∷ second_node q ∷ []

  abbrev new : List Node
  new = new_at (some s)

  held : some s ≡ mark_of (s + 1)
  held = rw add-one

  abbrev turning : ℕ → Graph → Graph
  turning a h = with_sources h q (map (turned c (suc a)) (node_at h q).sources)

  abbrev ys₁ : List Item
  ys₁ = set ys k (point_item n y)

  abbrev xs₁ : List Item
  xs₁ = map (turn_item q c (suc n)) xs

  pub cut-graph : cut_graph g c s (edge_of y)
      ≡ graph_from (suc (suc n)) (ls ++ (one (number q) ∷ one (number q) ∷ [])) (xs₁ ++ one (new_source n c s)) (ys₁ ++ one (new_sink n q))
  cut-graph =
      ap (λ (a : ℕ). turning a (with_sinks g c (set (node_at g c).sinks s (pointed a (edge_of y)))) ++ new) (length-graph n ls xs ys)
      ∙ ap (λ (l : Node). turning n (with_sinks g c (set l.sinks s (pointed n (edge_of y)))) ++ new) (node-graph n ls xs ys c hc)
      ∙ ap (λ (h : Graph). turning n h ++ new) (point_graph ys c s k f n ls xs n hc)
      ∙ ap (λ (h : Graph). h ++ new) (turn_graph q c (suc n) n ls xs ys₁ hq)
      ∙ ap (λ (m : Option ℕ). graph_from n ls xs₁ ys₁ ++ new_at m) held
      ∙ two-more n ls xs₁ ys₁ (new_source n c s) (new_sink n q) (one (number q)) full
      (below_turn q c (suc n) n xs bx) (below_set n ys k (point_item n y) (omega (arith, f.owner)) by) refl refl

-- one more record gone through, of c or of another
module _ (ys : List Item) (c k : ℕ) (h : k < length ys) where
  take_more : owned c (take (k + 1) ys) ≡ owned c (take k ys) ++ keep (eqb (get_or ys k no_item).owner c) (edge_of (get_or ys k no_item)) []
  take_more = rw (add-one k, take-suc ys k no_item) (owned-join c (take k ys) (one (get_or ys k no_item)))

  pub counted-own : (get_or ys k no_item).owner ≡ c → length (owned c (take (k + 1) ys)) ≡ length (owned c (take k ys)) + 1
  counted-own e = rw (take_more, eq-eqb (get_or ys k no_item).owner c e) (length-append (owned c (take k ys)) (one (edge_of (get_or ys k no_item))))

  pub counted-other : ((get_or ys k no_item).owner ≡ c → ⊥) → length (owned c (take (k + 1) ys)) ≡ length (owned c (take k ys))
  counted-other e = rw (take_more, ne_eqb (get_or ys k no_item).owner c e, append-nil (owned c (take k ys)))

keep_le : {A : Type 0} (b : Bool) (x : A) (l : List A) (n : ℕ) → length l ≤ n → length (keep b x l) ≤ suc n
keep_le true x l n h = omega arith
keep_le false x l n h = omega arith

pub owned_le : (c : ℕ) (xs : List Item) → length (owned c xs) ≤ length xs
owned_le c [] = omega arith
owned_le c (x ∷ xs) = keep_le (eqb x.owner c) (edge_of x) (owned c xs) (length xs) (owned_le c xs)

pub aimed_more : (n m : ℕ) → n ≤ m → (xs : List Item) → Aimed n xs → Aimed m xs
aimed_more n m l [] a = tt
aimed_more n m l (x ∷ xs) a = (omega (arith, a.0), aimed_more n m l xs a.1)

pub aimed-set : (n : ℕ) (ys : List Item) (k : ℕ) (y : Item) → y.to < n → Aimed n ys → Aimed n (set ys k y)
aimed-set n [] k y h a = tt
aimed-set n (x ∷ xs) zero y h a = (h, a.1)
aimed-set n (x ∷ xs) (suc k) y h a = (a.0, aimed-set n xs k y h a.1)

pub aimed-one : (n : ℕ) (xs : List Item) (r : Item) → r.to < n → Aimed n xs → Aimed n (xs ++ one r)
aimed-one n [] r h a = (h, tt)
aimed-one n (x ∷ xs) r h a = (a.0, aimed-one n xs r h a.1)

-- two elements more
pub take-two : {A : Type 0} (l : List A) (n : ℕ) (a b : A) → suc (suc n) ≤ length l →
    take (suc (suc n)) (set (set l n a) (suc n) b) ≡ take n l ++ (a ∷ b ∷ [])
take-two [] n a b h = absurd (not-suc-le-zero h)
take-two (x ∷ []) zero a b h = absurd (not-suc-le-zero (le_of_suc-le-suc h))
take-two (x ∷ y ∷ l) zero a b h = refl
take-two (x ∷ []) (suc n) a b h = absurd (not-suc-le-zero (le_of_suc-le-suc h))
take-two (x ∷ y ∷ l) (suc n) a b h = cc (take-two (y ∷ l) n a b (le_of_suc-le-suc h))

pub texted-none : (n p : ℕ) → n ≤ p → (ts : List LineItem) → Texted n ts → owned_lines p ts ≡ []
texted-none n p l [] a = refl
texted-none n p l (x ∷ xs) a = rw (ne_eqb x.owner p (λ z. omega (arith, a.0)), texted-none n p l xs a.1)

pub texted-more : (n m : ℕ) → n ≤ m → (ts : List LineItem) → Texted n ts → Texted m ts
texted-more n m l ts a = all_map (λ x h. omega (arith, h)) ts a

-- the lines of two nodes more, each the Debug text of q
module _ (ts : List LineItem) (names : List Name) (n q : ℕ) (h : n + 2 ≤ length names) (a : Texted n ts) where
  abbrev renamed : List Name
  renamed = set (set names n (Number q)) (n + 1) (Number q)

  line-old : (p : ℕ) → p < n → lines_at ts renamed p ≡ lines_at ts names p
  line-old p i =
      let e : get_or renamed p Nothing ≡ get_or names p Nothing = get_or-set_other (set names n (Number q)) (n + 1) p (Number q) Nothing (omega arith) ∙ get_or-set_other names n p (Number q) Nothing (omega arith) in
      rw e

  line-new : (p : ℕ) → n ≤ p → get_or renamed p Nothing ≡ Number q → lines_at ts renamed p ≡ one (number q)
  line-new p i e = rw (e, texted-none n p i ts a)

  pub lines_more : tabulate (lines_at ts renamed) 0 (n + 2) ≡ tabulate (lines_at ts names) 0 n ++ (one (number q) ∷ one (number q) ∷ [])
  lines_more =
      let f = lines_at ts renamed in
      let old : tabulate f 0 n ≡ tabulate (lines_at ts names) 0 n = tabulate-same f (lines_at ts names) 0 n (λ p i k. line-old p (omega arith)) in
      let e : get_or renamed n Nothing ≡ Number q = get_or-set_other (set names n (Number q)) (n + 1) n (Number q) Nothing (omega arith) ∙ get_or-set_same names n (Number q) Nothing (omega arith) in
      let e' : get_or renamed (n + 1) Nothing ≡ Number q = get_or-set_same (set names n (Number q)) (n + 1) (Number q) Nothing (simp length-set (omega arith)) in
      let a : f (0 + n) ≡ one (number q) = ap f (zero-add n) ∙ line-new n (omega arith) e in
      let z : 0 + suc n ≡ n + 1 = omega arith in
      let b : f (0 + suc n) ≡ one (number q) = ap f z ∙ line-new (n + 1) (omega arith) e' in
      let two : n + 2 ≡ suc (suc n) = omega arith in
      ap (tabulate f 0) two
      ∙ tabulate-snoc f 0 (suc n)
      ∙ ap (λ (k : List (List Line)). k ++ one (f (0 + suc n))) (tabulate-snoc f 0 n)
      ∙ append_assoc (tabulate f 0 n) (one (f (0 + n))) (one (f (0 + suc n)))
      ∙ cc (old, a, b)

-- a cut of the tables: t before it, r after it
module _ (t r : Tables) (b : Roomy t) (c s k : ℕ) (f : Sunk (items_of t.sinks) c s k) (hc : c < t.n) (room : t.n + 2 ≤ 48)
    (long : length t.names ≡ 48)
    (en : r.n ≡ t.n + 2)
    (el : r.lines ≡ t.lines)
    (em : r.names ≡ set (set t.names t.n (Number (get_or (items_of t.sinks) k no_item).to)) (t.n + 1) (Number (get_or (items_of t.sinks) k no_item).to))
    (ex : items_of r.sources ≡ map (turn_item (get_or (items_of t.sinks) k no_item).to c (suc t.n)) (items_of t.sources) ++ one (new_source t.n c s))
    (ey : items_of r.sinks ≡ set (items_of t.sinks) k (point_item t.n (get_or (items_of t.sinks) k no_item)) ++ one (new_sink t.n (get_or (items_of t.sinks) k no_item).to))
    (cx : r.sources.count ≤ 88) (cy : r.sinks.count ≤ 88) where
  abbrev yk : Item
  yk = get_or (items_of t.sinks) k no_item

  abbrev xs₂ : List Item
  xs₂ = map (turn_item yk.to c (suc t.n)) (items_of t.sources)

  abbrev ys₂ : List Item
  ys₂ = set (items_of t.sinks) k (point_item t.n yk)

  pub to_in : yk.to < t.n
  to_in = all_in (λ (x : Item). x.to < t.n) (items_of t.sinks) k no_item f.inside b.linked.sink_aims

  pub cut-linked : Linked r
  cut-linked =
      record {
        nodes = omega arith;
        source_room = cx;
        sink_room = cy;
        source_owners = rw (ex, en) (below_one t.n (t.n + 2) xs₂ (new_source t.n c s) (omega arith) (omega arith) (below_turn yk.to c (suc t.n) t.n (items_of t.sources) b.linked.source_owners));
        sink_owners = rw (ey, en) (below_one t.n (t.n + 2) ys₂ (new_sink t.n yk.to) (omega arith) (omega arith) (below_set t.n (items_of t.sinks) k (point_item t.n yk) (omega (arith, f.owner)) b.linked.sink_owners));
        source_aims =
            rw (ex, en)
            (aimed-one (t.n + 2) xs₂ (new_source t.n c s) (omega arith)
            (aimed_turn yk.to c (suc t.n) (t.n + 2) (omega arith) (items_of t.sources) (aimed_more t.n (t.n + 2) (omega arith) (items_of t.sources) b.linked.source_aims)));
        sink_aims =
            rw (ey, en)
            (aimed-one (t.n + 2) ys₂ (new_sink t.n yk.to) (omega (arith, to_in))
            (aimed-set (t.n + 2) (items_of t.sinks) k (point_item t.n yk) (omega arith) (aimed_more t.n (t.n + 2) (omega arith) (items_of t.sinks) b.linked.sink_aims)));
        line_owners = rw (el, en) (texted-more t.n (t.n + 2) (omega arith) (texts_of t.lines) b.linked.line_owners);
      }

  pub cut-sound : Roomy r
  cut-sound =
      record {
        linked = cut-linked;
        source_room = rw ex (simp (length-append, length-map) (omega (arith, b.source_room)));
        sink_room = rw ey (simp (length-append, length-set) (omega (arith, b.sink_room)));
        blank = λ m h l.
            rw em
            (get_or-set_other (set t.names t.n (Number yk.to)) (t.n + 1) m (Number yk.to) Nothing (omega arith)
            ∙ get_or-set_other t.names t.n m (Number yk.to) Nothing (omega arith)
            ∙ b.blank m (omega arith) l);
      }

  pub cut-graphs : graph_of r ≡ cut_graph (graph_of t) c s (edge_of yk)
  cut-graphs =
      let q = yk.to in
      let size : length (lines_of t) ≡ t.n = length-tabulate (lines_at (texts_of t.lines) t.names) 0 t.n in
      let lines : lines_of r ≡ lines_of t ++ (one (number q) ∷ one (number q) ∷ []) =
      rw (en, em, el) (lines_more (texts_of t.lines) t.names t.n q (omega arith) b.linked.line_owners) in
      let two : r.n ≡ suc (suc t.n) = omega arith in
      rw (lines, ex, ey, two)
      (sym (cut-graph t.n (lines_of t) (items_of t.sources) (items_of t.sinks) c s k f size b.linked.source_owners b.linked.sink_owners hc to_in))

-- the same as the code makes r: a and y are the tables turned and pointed, x and z those with a record more
pub cut-to : (t : Tables) (b : Roomy t) (c s k : ℕ) (f : Sunk (items_of t.sinks) c s k) (hc : c < t.n) (room : t.n + 2 ≤ 48) (long : length t.names ≡ 48)
    (q : Item) → get_or (items_of t.sinks) k no_item ≡ q → (x z : Items) →
    (items_of x ≡ map (turn_item q.to c (t.n + 1)) (items_of t.sources) ++ one (source_of c s t.n)) × (x.count ≤ 88) →
    (items_of z ≡ set (items_of t.sinks) k (point_item t.n q) ++ one (sink_of q.to (t.n + 1))) × (z.count ≤ 88) →
    CutTo t c s k (record { n = t.n + 2; cuts = t.cuts + 1; names = set (set t.names t.n (Number q.to)) (t.n + 1) (Number q.to); lines = t.lines; sources = x; sinks = z })
cut-to t b c s k f hc room long q e x z hx hz =
    let r : Tables = record { n = t.n + 2; cuts = t.cuts + 1; names = set (set t.names t.n (Number q.to)) (t.n + 1) (Number q.to); lines = t.lines; sources = x; sinks = z } in
    let em : r.names ≡ set (set t.names t.n (Number (get_or (items_of t.sinks) k no_item).to)) (t.n + 1) (Number (get_or (items_of t.sinks) k no_item).to) = rw e in
    let ex : items_of x ≡ map (turn_item (get_or (items_of t.sinks) k no_item).to c (suc t.n)) (items_of t.sources) ++ one (new_source t.n c s) =
    rw (e, ← add-one t.n) hx.0 in
    let ey : items_of z ≡ set (items_of t.sinks) k (point_item t.n (get_or (items_of t.sinks) k no_item)) ++ one (new_sink t.n (get_or (items_of t.sinks) k no_item).to) =
    rw (e, ← add-one t.n) hz.0 in
    record {
      sound = cut-sound t r b c s k f hc room long refl refl em ex ey hx.1 hz.1;
      named = simp length-set long;
      more = refl;
      cuts = refl;
      lines = refl;
      graph = cut-graphs t r b c s k f hc room long refl refl em ex ey hx.1 hz.1;
    }
