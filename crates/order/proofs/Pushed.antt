-- The codes that are pushed list by list are those of `Against`, and there is room for them: each record is owned by one node, so all
-- lists of 88 records together are at most 88 long, and a list of m makes at most 2 m codes.
-- Assumes nothing.
use Prim.Native.Nat.{ℕ, zero, suc, ◌+◌, ◌-◌, ◌*◌, ◌/◌, ◌≤◌, ◌<◌}
use native.Mathlib.Omega.{arith}
use native.Mathlib.Numerals.{add-one}
use mathlib.Core.Logic.{inl, inr}
use mathlib.Core.Path.{◌≡◌, refl, ap, sym, ◌∙◌}
use mathlib.Core.Bool.{Bool, true, false}
use mathlib.Core.List.{List, [], ◌∷◌, ◌++◌, map, append_assoc, append-nil}
use lib.Dec.{eqb, leb, ltb}
use lib.ListN.{length, get_or, set, take, drop, length-append, length-map}
use lib.Seq.{take-suc, take-suc-set}
use Rattle.std.proofs.lemmas.List.{drop_more}
use borrow.Author.Tests.{eq-eqb, ne_eqb, lt-ltb}
use Rattle.laws.proofs.Tests.{same?}
use Rattle.laws.specs.Lists.{one, tabulate, keep, tally, padded}
use Rattle.laws.proofs.Lists.{length-tabulate, owned-append, length-one, padded-set, take-padded}
use Rattle.tables.specs.declared.Table.{Table}
use Rattle.tables.specs.Tables.{pushed_if}
use Rattle.graph.specs.declared.Lead.{Lead}
use Rattle.graph.specs.Items.{Ends}
use Rattle.graph.specs.Shape.{Incidents}
use Rattle.graph.specs.Ends.{no_lead, targets_of, ends_of, incidents_in, shape_from, Linked}
use Rattle.order.specs.declared.codes.Pair.{Pair}
use Rattle.order.specs.Against.{Against, against, neighbours, neighbours_from, reversed_if, with_sources, with_sinks, of_node, of_nodes, all}
use Rattle.order.specs.Claims.{Under, Aimed}
use Rattle.order.specs.code.Sums.{code_of, Codes}
use Rattle.order.specs.code.Codes.{held, Pushed, with_from, list_codes, node_codes}
use Rattle.order.proofs.Legs.{sum_to, sum_zero, sum_same}

-- ---- the targets of a node
-- lead k is looked at
pub targets_next : (p k : ℕ) (es : List Lead) → k < length es →
    targets_of p (take (suc k) es) ≡ targets_of p (take k es) ++ keep (eqb (get_or es k no_lead).owner p) (get_or es k no_lead).to []
targets_next p k es h = ap (targets_of p) (take-suc es k no_lead h) ∙ owned-append (λ (l : Lead). l.owner) (λ (l : Lead). l.to) p (take k es) (one (get_or es k no_lead))

module _ (p : ℕ) (es : List Lead) (k : ℕ) (h : k < length es) where
  abbrev lead : Lead
  lead = get_or es k no_lead

  targets-step : targets_of p (take (k + 1) es) ≡ targets_of p (take k es) ++ keep (eqb lead.owner p) lead.to []
  targets-step = ap (λ j. targets_of p (take j es)) (add-one k) ∙ targets_next p k es h

  pub targets-own : lead.owner ≡ p → targets_of p (take (k + 1) es) ≡ targets_of p (take k es) ++ one lead.to
  targets-own e = targets-step ∙ rw (eq-eqb lead.owner p e)

  pub targets-other : (lead.owner ≡ p → ⊥) → targets_of p (take (k + 1) es) ≡ targets_of p (take k es)
  targets-other o = targets-step ∙ rw (ne_eqb lead.owner p o) (append-nil (targets_of p (take k es)))

-- what a table of targets holds
pub held_list : (t : Table ℕ 88) (ts : List ℕ) → t ≡ held ts → length ts ≤ 88 → take t.count t.items ≡ ts
held_list t ts e h = rw e (take-padded 88 0 ts h)

-- one item more of a table that holds a list
pub held-one : (m : ℕ) (ts : List ℕ) (x : ℕ) (t u : Table ℕ m) (r : Bool) → t ≡ record { items = padded m 0 ts; count = length ts } → length ts < m → r ≡ ltb t.count m → u ≡ pushed_if r t x → u ≡ record { items = padded m 0 (ts ++ one x); count = length (ts ++ one x) }
held-one m ts x t u r e h b w = rw (w, b, e, lt-ltb (length ts) m h) (cc (padded-set m 0 ts x, length-one ts x))

length-keep : (b : Bool) (t : ℕ) (xs : List ℕ) → length (keep b t xs) ≡ tally b (length xs)
length-keep true t xs = refl
length-keep false t xs = refl

tally-most : (b : Bool) (k m : ℕ) → k ≤ m → tally b k ≤ suc m
tally-most true k m h = omega arith
tally-most false k m h = omega arith

pub targets-few : (p : ℕ) (es : List Lead) → length (targets_of p es) ≤ length es
targets-few p [] = omega arith
targets-few p (e ∷ es) = omega (arith, length-keep (eqb e.owner p) e.to (targets_of p es), tally-most (eqb e.owner p) (length (targets_of p es)) (length es) (targets-few p es))

under-keep : (n : ℕ) (b : Bool) (t : ℕ) (xs : List ℕ) → t < n → Under n xs → Under n (keep b t xs)
under-keep n true t xs h u = (h, u)
under-keep n false t xs h u = u

pub under-targets : (n p c : ℕ) (es : List Lead) → ((k : ℕ) → k < c → (get_or es k no_lead).to < n) → Under n (targets_of p (take c es))
under-targets n p zero es h = tt
under-targets n p (suc c) [] h = tt
under-targets n p (suc c) (e ∷ es) h = under-keep n (eqb e.owner p) e.to (targets_of p (take c es)) (h 0 (omega arith)) (under-targets n p c es (λ k l. h (suc k) (omega arith)))

module _ (n : ℕ) (sources sinks : Ends) (x : Linked n sources) (y : Linked n sinks) where
  aimed-from : (p k : ℕ) → Aimed n (tabulate (incidents_in sources sinks) p k)
  aimed-from p zero = tt
  aimed-from p (suc k) =
      (under-targets n p sources.count sources.items x.node, under-targets n p sinks.count sinks.items y.node, aimed-from (suc p) k)

  pub shape_size : length (shape_from n sources sinks) ≡ n
  unfolding shape_from
  shape_size = length-tabulate (incidents_in sources sinks) 0 n

  -- each source and each sink of the shape leads to one of its nodes
  pub shape-aimed : Aimed (length (shape_from n sources sinks)) (shape_from n sources sinks)
  unfolding shape_from
  shape-aimed = rw shape_size (aimed-from 0 n)

-- ---- what is pushed
pub pushed-none : (t : Table Pair 352) → Pushed t t []
pushed-none t = record { list = append-nil-back (take t.count t.items); count = omega arith }
  where
    append-nil-back : (l : List Pair) → l ≡ l ++ []
    append-nil-back l = sym (append-nil l)

pub pushed-then : (t u v : Table Pair 352) (xs ys : List Pair) → Pushed t u xs → Pushed u v ys → Pushed t v (xs ++ ys)
pushed-then t u v xs ys a b =
    record {
      list = b.list ∙ ap (λ (l : List Pair). l ++ ys) a.list ∙ append_assoc (take t.count t.items) xs ys;
      count = omega (arith, a.count, b.count, length-append xs ys);
    }

pub pushed-one : (t u : Table Pair 352) (x : Pair) (r : Bool) → length t.items ≡ 352 → t.count < 352 → r ≡ ltb t.count 352 → u ≡ pushed_if r t x → Pushed t u (one x)
pushed-one t u x r long room b w =
    rw (w, b, lt-ltb t.count 352 room)
    (record { list = ap (λ k. take k (set t.items t.count x)) (add-one t.count) ∙ take-suc-set t.items t.count x (omega arith); count = refl })

-- of ys, which are pushed on t, xs are left
pub record Left (t u : Table Pair 352) (ys xs : List Pair) : Type 0 where
  pub done : List Pair
  pub parts : ys ≡ done ++ xs
  pub pushed : Pushed t u done

pub left-next : (t u v : Table Pair 352) (ys : List Pair) (x y : Pair) (xs : List Pair) (r : Bool) → t.count + length ys ≤ 352 → Left t u ys (x ∷ xs) → y ≡ x → length u.items ≡ 352 → r ≡ ltb u.count 352 → v ≡ pushed_if r u y → Left t v ys xs
left-next t u v ys x y xs r room l e long b w =
    let few : u.count < 352 = omega (arith, l.pushed.count, ap (λ (z : List Pair). length z) l.parts, length-append l.done (x ∷ xs)) in
    record {
      done = l.done ++ one x;
      parts = l.parts ∙ sym (append_assoc l.done (one x) xs);
      pushed = pushed-then t u v l.done (one x) l.pushed (pushed-one u v x r long few b (w ∙ ap (λ z. pushed_if r u z) e));
    }

-- ---- the codes of a list
-- a window of two, and the neighbours past it
two-first : (ts : List ℕ) → 2 ≤ length ts → map code_of (neighbours ts) ≡ code_of (against (get_or (take 2 ts) 0 0) (get_or (take 2 ts) 1 0)) ∷ map code_of (neighbours (drop 1 ts))
two-first [] h = absurd (omega arith)
two-first (x ∷ []) h = absurd (omega arith)
two-first (x ∷ y ∷ ts) h = refl

pub neighbours-next : (n : ℕ) (ts w us : List ℕ) → n ≡ 2 → n ≤ length ts → w ≡ take n ts → us ≡ drop 1 ts → map code_of (neighbours ts) ≡ code_of (against (get_or w 0 0) (get_or w 1 0)) ∷ map code_of (neighbours us)
neighbours-next n ts w us e h f g = rw (g, f, e) (two-first ts (omega arith))

-- the pairs from number k on
pub pairs-next : (p turn k : ℕ) (ts : List ℕ) → k < length ts →
    map code_of (with_from p turn k (drop k ts)) ≡ code_of (reversed_if (leb turn k) p (get_or ts k 0)) ∷ map code_of (with_from p turn (k + 1) (drop (k + 1) ts))
pairs-next p turn k ts h = rw (drop_more ts k 0 h, add-one k)

length_from : (q : ℕ) (xs : List ℕ) → length (neighbours_from q xs) ≡ length xs
length_from q [] = refl
length_from q (x ∷ xs) = ap suc (length_from x xs)

pub length-neighbours : (xs : List ℕ) → length (neighbours xs) ≡ length xs - 1
length-neighbours [] = refl
length-neighbours (x ∷ xs) = omega (arith, length_from x xs)

pub length-with : (p turn i : ℕ) (xs : List ℕ) → length (with_from p turn i xs) ≡ length xs
length-with p turn i [] = refl
length-with p turn i (x ∷ xs) = ap suc (length-with p turn (suc i) xs)

pub length_list : (later p : ℕ) (xs : List ℕ) → length (list_codes later p xs) ≡ length xs - 1 + length xs
length_list later p xs =
    omega (arith, length-append (map code_of (neighbours xs)) (map code_of (with_from p (length xs / 2 + later) 0 xs)), length-map (neighbours xs) code_of, length-neighbours xs, length-map (with_from p (length xs / 2 + later) 0 xs) code_of, length-with p (length xs / 2 + later) 0 xs)

-- ---- the codes of a node
with-sources : (p len i : ℕ) (qs : List ℕ) → with_from p (suc (len / 2)) i qs ≡ with_sources p len i qs
with-sources p len i [] = refl
with-sources p len i (q ∷ qs) = ap (λ (l : List Against). reversed_if (ltb (len / 2) i) p q ∷ l) (with-sources p len (suc i) qs)

with-sinks : (p len i : ℕ) (qs : List ℕ) → with_from p (len / 2) i qs ≡ with_sinks p len i qs
with-sinks p len i [] = refl
with-sinks p len i (q ∷ qs) = ap (λ (l : List Against). reversed_if (leb (len / 2) i) p q ∷ l) (with-sinks p len (suc i) qs)

map-join : (xs ys : List Against) → map code_of (xs ++ ys) ≡ map code_of xs ++ map code_of ys
map-join [] ys = refl
map-join (x ∷ xs) ys = ap (λ (l : List Pair). code_of x ∷ l) (map-join xs ys)

pub node-is : (p : ℕ) (e : Incidents) → list_codes 1 p e.sources ++ list_codes 0 p e.sinks ≡ node_codes p e
node-is p e =
    let a = neighbours e.sources in
    let b = with_sources p (length e.sources) 0 e.sources in
    let c = neighbours e.sinks in
    let d = with_sinks p (length e.sinks) 0 e.sinks in
    let z : length e.sinks / 2 + 0 ≡ length e.sinks / 2 = omega arith in
    let u : with_from p (length e.sources / 2 + 1) 0 e.sources ≡ b = ap (λ t. with_from p t 0 e.sources) (add-one (length e.sources / 2)) ∙ with-sources p (length e.sources) 0 e.sources in
    let v : with_from p (length e.sinks / 2 + 0) 0 e.sinks ≡ d = ap (λ t. with_from p t 0 e.sinks) z ∙ with-sinks p (length e.sinks) 0 e.sinks in
    rw (u, v, map-join ((a ++ b) ++ c) d, map-join (a ++ b) c, map-join a b) (sym (append_assoc (map code_of a ++ map code_of b) (map code_of c) (map code_of d)))

pub length-node : (p : ℕ) (e : Incidents) → length (node_codes p e) ≤ 2 * length e.sources + 2 * length e.sinks
length-node p e =
    omega (arith, ap (λ (l : List Pair). length l) (node-is p e), length-append (list_codes 1 p e.sources) (list_codes 0 p e.sinks), length_list 1 p e.sources, length_list 0 p e.sinks)

-- ---- the codes of the first nodes
module _ (f : ℕ → Incidents) where
  nodes-next : (p k : ℕ) → of_nodes p (tabulate f p (suc k)) ≡ of_nodes p (tabulate f p k) ++ of_node (p + k) (f (p + k))
  nodes-next p zero = let e : p ≡ p + 0 = omega arith in append-nil (of_node p (f p)) ∙ ap (λ i. of_node i (f i)) e
  nodes-next p (suc k) =
      let e : suc p + k ≡ p + suc k = omega arith in
      ap (λ (l : List Against). of_node p (f p) ++ l) (nodes-next (suc p) k ∙ ap (λ i. of_nodes (suc p) (tabulate f (suc p) k) ++ of_node i (f i)) e)
      ∙ sym (append_assoc (of_node p (f p)) (of_nodes (suc p) (tabulate f (suc p) k)) (of_node (p + suc k) (f (p + suc k))))

-- the codes of the first k nodes
unfoldable pub codes_to : Ends → Ends → ℕ → List Pair
codes_to sources sinks k = map code_of (of_nodes 0 (tabulate (incidents_in sources sinks) 0 k))

module _ (sources sinks : Ends) where
  abbrev f : ℕ → Incidents
  f = incidents_in sources sinks

  codes_suc : (k : ℕ) → codes_to sources sinks (suc k) ≡ codes_to sources sinks k ++ node_codes k (f k)
  unfolding codes_to
  codes_suc k =
      let e : 0 + k ≡ k = omega arith in
      ap (map code_of) (nodes-next f 0 k ∙ ap (λ i. of_nodes 0 (tabulate f 0 k) ++ of_node i (f i)) e) ∙ map-join (of_nodes 0 (tabulate f 0 k)) (of_node k (f k))

  pub codes-none : codes_to sources sinks 0 ≡ []
  unfolding codes_to
  codes-none = refl

  pub codes-next : (k : ℕ) → codes_to sources sinks (k + 1) ≡ codes_to sources sinks k ++ node_codes k (f k)
  codes-next k = ap (codes_to sources sinks) (add-one k) ∙ codes_suc k

  abbrev most : ℕ → ℕ
  most k = 2 * sum_to k (λ q. length (ends_of sources q)) + 2 * sum_to k (λ q. length (ends_of sinks q))

  codes-most : (k : ℕ) → length (codes_to sources sinks k) ≤ most k
  codes-most zero = omega (arith, ap (λ (l : List Pair). length l) codes-none)
  codes-most (suc k) =
      omega (arith, ap (λ (l : List Pair). length l) (codes_suc k), length-append (codes_to sources sinks k) (node_codes k (f k)), codes-most k, length-node k (f k))

-- ---- the room: each record is one node's
sum_past : (n o : ℕ) (g : ℕ → ℕ) → n ≤ o → sum_to n (λ q. tally (eqb o q) (g q)) ≡ sum_to n g
sum_past n o g h = sum_same n (λ q. tally (eqb o q) (g q)) g (λ b l. rw (ne_eqb o b (omega arith)))

sum-tally : (n o : ℕ) (g : ℕ → ℕ) → sum_to n (λ q. tally (eqb o q) (g q)) ≤ suc (sum_to n g)
sum-tally zero o g = omega arith
sum-tally (suc n) o g =
    elim (same? o n) [
      | inl e ↦ rw (eq-eqb o n e) (omega (arith, sum_past n o g (omega arith)))
      | inr d ↦ rw (ne_eqb o n d) (omega (arith, sum-tally n o g))
    ]

owned-few : (n : ℕ) (es : List Lead) → sum_to n (λ q. length (targets_of q es)) ≤ length es
owned-few n [] = omega (arith, sum_zero n (λ q. length (targets_of q [])) (λ b l. refl))
owned-few n (e ∷ es) =
    omega
    (arith, sum_same n (λ q. length (targets_of q (e ∷ es))) (λ q. tally (eqb e.owner q) (length (targets_of q es))) (λ b l. length-keep (eqb e.owner b) e.to (targets_of b es)), sum-tally n e.owner (λ q. length (targets_of q es)), owned-few n es)

take-few : {A : Type 0} (k : ℕ) (xs : List A) → length (take k xs) ≤ k
take-few zero xs = omega arith
take-few (suc k) [] = omega arith
take-few (suc k) (x ∷ xs) = omega (arith, take-few k xs)

pub ends-few : (e : Ends) (n : ℕ) → sum_to n (λ q. length (ends_of e q)) ≤ e.count
ends-few e n = omega (arith, owned-few n (take e.count e.items), take-few e.count e.items)

module _ (n : ℕ) (sources sinks : Ends) (x : Linked n sources) (y : Linked n sinks) where
  pub room_at : (k : ℕ) → length (codes_to sources sinks k) + 2 * length (ends_of sources k) + 2 * length (ends_of sinks k) ≤ 352
  room_at k = omega (arith, codes-most sources sinks k, ends-few sources (suc k), ends-few sinks (suc k), x.few, y.few)

  pub room-all : (k : ℕ) → length (codes_to sources sinks k) ≤ 352
  room-all k = omega (arith, room_at k)

  -- ---- the codes of all nodes
  codes_same : codes_to sources sinks n ≡ map code_of (all (shape_from n sources sinks))
  unfolding codes_to shape_from all
  codes_same = refl

  pub codes_all : (xs : List Pair) → xs ≡ codes_to sources sinks n → Codes (shape_from n sources sinks) xs
  codes_all xs e =
      record {
        few = omega (arith, shape_size n sources sinks x y, x.nodes);
        aimed = shape-aimed n sources sinks x y;
        room = omega (arith, ap (λ (v : List Pair). length v) e, room-all n);
        same = e ∙ codes_same;
      }
