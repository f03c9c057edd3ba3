-- What the loops of the code go through.
-- Assumes nothing.
use Prim.Native.Nat.{ℕ, zero, suc, ◌+◌, ◌-◌, ◌≤◌, ◌<◌}
use native.Mathlib.Omega.{arith}
use native.Mathlib.Numerals.{add-one}
use mathlib.Core.Path.{◌≡◌, refl, ap, sym, ◌∙◌}
use mathlib.Core.Logic.{◌⊎◌, inl, inr}
use denote.Ref.{Bor}
use mathlib.Core.Bool.{Bool, true, false, cond, not, ◌&&◌, ◌||◌}
use mathlib.Core.List.{List, [], ◌∷◌, ◌++◌, append_assoc, reverse, reverse-append}
use lib.Dec.{eqb, ltb}
use lib.ListN.{length, take}
use borrow.Author.Tests.{eq-eqb, ne_eqb, lt-ltb, le-ltb}
use Rattle.std.specs.Prelude.{Option, Some, None, IsSomeAnd, MatchOption}
use Rattle.std.specs.List.{list_any, find, range_with_len}
use Rattle.std.specs.Option.{is_none, unwrap_or, option_map}
use Rattle.std.proofs.lemmas.Iterator.Adapters.{option_map_id}
use Rattle.laws.specs.Bytes.{all_of}
use Rattle.laws.specs.Each.{each}
use Rattle.laws.specs.Lists.{has, one, keep}
use Rattle.laws.proofs.Each.{next}
use Rattle.laws.proofs.Lists.{length-one, padded-set, take-padded}
use Rattle.laws.proofs.Tests.{less?}
use Rattle.tables.specs.declared.Table.{Table}
use Rattle.tables.specs.Tables.{pushed_if}
use Rattle.walks.specs.Walks.{up_to, walk}
use Rattle.walks.proofs.Few.{has-append}
use Rattle.graph.specs.declared.Lead.{Lead}
use Rattle.graph.specs.Ends.{targets_of}
use Rattle.signal.specs.Signal.{Sources, is_left, free, lowest, put, listed, first_out, behind, back, back_from, signalled_by}
use Rattle.std.specs.Prelude.{Err}
use Rattle.signal.specs.declared.NoOrder.TheVariants.{Cycle}
use Rattle.signal.specs.Outcome.{nodes_held, answer_of}
use Rattle.signal.specs.code.Nodes.{out_of, lowest_of}
use Rattle.signal.proofs.Lowest.{is_lowest}

-- ---- what a slice's own search finds
pub has-any : (p : ℕ) (xs : List ℕ) → list_any (λ y. eqb y p) xs ≡ has p xs
has-any p [] = refl
has-any p (x ∷ xs) = ap (λ (b : Bool). eqb x p || b) (has-any p xs)

find_from : (test : ℕ → Bool) (k p : ℕ) → find test (range_with_len p k) ≡ cond (ltb (lowest k test p) (p + k)) (Some (lowest k test p)) None
find_from test zero p = let h : p + 0 ≤ p = omega arith in rw (le-ltb p (p + 0) h)
find_from test (suc k) p = go (test p) (find_from test k (suc p))
  where
    h : p < p + suc k
    h = omega arith

    e : suc p + k ≡ p + suc k
    e = omega arith

    go : (b : Bool) → find test (range_with_len (suc p) k) ≡ cond (ltb (lowest k test (suc p)) (suc p + k)) (Some (lowest k test (suc p))) None → cond b (Some p) (find test (range_with_len (p + 1) k)) ≡ cond (ltb (cond b p (lowest k test (suc p))) (p + suc k)) (Some (cond b p (lowest k test (suc p)))) None
    go true i = rw (lt-ltb p (p + suc k) h)
    go false i = rw (add-one p, i, e)

pub found-lowest : (test : ℕ → Bool) (n : ℕ) (r : Option ℕ) → option_map (λ x. x) r ≡ find test (range_with_len 0 n) → r ≡ lowest_of n test
found-lowest test n r e =
    let z : 0 + n ≡ n = omega arith in
    sym (option_map_id r) ∙ e ∙ find_from test n 0 ∙ ap (λ (k : ℕ). cond (ltb (lowest n test 0) k) (Some (lowest n test 0)) None) z

pub lowest_or : (test : ℕ → Bool) (n : ℕ) → unwrap_or (lowest_of n test) n ≡ lowest n test 0
lowest_or test n = go (less? (lowest n test 0) n)
  where
    go : (lowest n test 0 < n) ⊎ (n ≤ lowest n test 0) → unwrap_or (lowest_of n test) n ≡ lowest n test 0
    go (inl h) = rw (lt-ltb (lowest n test 0) n h)
    go (inr h) = let w = (is_lowest test n 0).within in rw (le-ltb (lowest n test 0) n h) (omega arith)

-- the first of the leads of p whose target is not listed
pub found-out : (done : List ℕ) (p : ℕ) (es : List Lead) → option_map (λ (e : Lead). e.to) (find (λ e. eqb e.owner p && not (list_any (λ y. eqb y e.to) done)) es) ≡ out_of done (targets_of p es)
found-out done p [] = refl
found-out done p (x ∷ xs) = go (eqb x.owner p) (list_any (λ y. eqb y x.to) done) (sym (has-any x.to done)) (found-out done p xs)
  where
    go : (b h : Bool) → has x.to done ≡ h → option_map (λ (e : Lead). e.to) (find (λ e. eqb e.owner p && not (list_any (λ y. eqb y e.to) done)) xs) ≡ out_of done (targets_of p xs)
        → option_map (λ (e : Lead). e.to) (cond (b && not h) (Some x) (find (λ e. eqb e.owner p && not (list_any (λ y. eqb y e.to) done)) xs)) ≡ out_of done (keep b x.to (targets_of p xs))
    go false h e i = i
    go true true e i = rw (e, i)
    go true false e i = rw e

-- what `find` found, mapped
pub mapped-found : (r : Option (Bor Lead)) (o : Option ℕ) (P : Bor Lead → ℕ → Type 0) → MatchOption r (o ≡ None) (λ x. IsSomeAnd o (P x)) → ((x : Bor Lead) (t : ℕ) → P x t → t ≡ x.now.to) → o ≡ option_map (λ (e : Lead). e.to) (option_map (λ (x : Bor Lead). x.now) r)
mapped-found None o P m k = m
mapped-found (Some x) None P m k = absurd m
mapped-found (Some x) (Some t) P m k = ap Some (k x t m)

-- ---- the first that is not listed, or each is
pub out-all : (done qs : List ℕ) → all_of (λ q. has q done) qs ≡ is_none (out_of done qs)
out-all done [] = refl
out-all done (q ∷ qs) = go (has q done) (out-all done qs)
  where
    go : (b : Bool) → all_of (λ r. has r done) qs ≡ is_none (out_of done qs) → (b && all_of (λ r. has r done) qs) ≡ is_none (cond b (out_of done qs) (Some q))
    go true i = i
    go false i = refl

pub out-first : (done qs : List ℕ) → first_out done qs ≡ unwrap_or (out_of done qs) 0
out-first done [] = refl
out-first done (q ∷ qs) = go (has q done) (out-first done qs)
  where
    go : (b : Bool) → first_out done qs ≡ unwrap_or (out_of done qs) 0 → cond b (first_out done qs) q ≡ unwrap_or (cond b (out_of done qs) (Some q)) 0
    go true i = i
    go false i = refl

-- the lowest that passes was found, or none does
pub found-some : (test : ℕ → Bool) (n p : ℕ) → lowest_of n test ≡ Some p → (p ≡ lowest n test 0) × (p < n)
found-some test n p e = go (less? (lowest n test 0) n)
  where
    go : (lowest n test 0 < n) ⊎ (n ≤ lowest n test 0) → (p ≡ lowest n test 0) × (p < n)
    go (inl h) =
        let i : lowest_of n test ≡ Some (lowest n test 0) = rw (lt-ltb (lowest n test 0) n h) in
        let j : p ≡ lowest n test 0 = cc in
        (j, omega arith)
    go (inr h) = let i : lowest_of n test ≡ None = rw (le-ltb (lowest n test 0) n h) in absurd (cc)

pub found-none : (test : ℕ → Bool) (n : ℕ) → lowest_of n test ≡ None → n ≤ lowest n test 0
found-none test n e = go (less? (lowest n test 0) n)
  where
    go : (lowest n test 0 < n) ⊎ (n ≤ lowest n test 0) → n ≤ lowest n test 0
    go (inl h) = let i : lowest_of n test ≡ Some (lowest n test 0) = rw (lt-ltb (lowest n test 0) n h) in absurd (cc)
    go (inr h) = h

-- ---- a table that holds a list
pub held_list : (t : Table ℕ 32) (l : List ℕ) → t ≡ nodes_held l → length l ≤ 32 → take t.count t.items ≡ l
held_list t l e h = rw e (take-padded 32 0 l h)

-- one item more
pub put_list : (l : List ℕ) (x : ℕ) (t u : Table ℕ 32) (r : Bool) → t ≡ nodes_held l → length l < 32 → r ≡ ltb t.count 32 → u ≡ pushed_if r t x → u ≡ nodes_held (l ++ one x)
put_list l x t u r e h b p = rw (p, b, e, lt-ltb (length l) 32 h) (cc (padded-set 32 0 l x, length-one l x))

-- ---- a path cut at q: acc has been written, and rest is left to look at, from its end on
pub record Cut (path : List ℕ) (q : ℕ) (nodes : Table ℕ 32) (rest : List ℕ) : Type 0 where
  pub acc : List ℕ
  pub held : nodes ≡ nodes_held acc
  pub sum : length acc + length rest ≡ length path
  pub whole : acc ++ up_to q (reverse rest) ≡ up_to q (reverse path)

module _ (path : List ℕ) (few : length path ≤ 32) (q : ℕ) (nodes : Table ℕ 32) (rest : List ℕ) (x : ℕ) (c : Cut path q nodes (rest ++ one x)) (next : Table ℕ 32) (r : Bool) (b : r ≡ ltb nodes.count 32) (w : next ≡ pushed_if r nodes x) where
  stored : next ≡ nodes_held (c.acc ++ one x)
  stored = put_list c.acc x nodes next r c.held (omega (arith, c.sum, length-one rest x)) b w

  step : (t : Bool) → eqb x q ≡ t → c.acc ++ (x ∷ cond t [] (up_to q (reverse rest))) ≡ up_to q (reverse path)
  step t e = ap (λ (u : Bool). c.acc ++ (x ∷ cond u [] (up_to q (reverse rest)))) (sym e) ∙ ap (λ (l : List ℕ). c.acc ++ up_to q l) (sym (reverse-append rest (one x))) ∙ c.whole

  pub cut-here : x ≡ q → next ≡ nodes_held (up_to q (reverse path))
  cut-here e = stored ∙ ap nodes_held (step true (eq-eqb x q e))

  pub cut-next : (x ≡ q → ⊥) → Cut path q next rest
  cut-next n =
      record {
        acc = c.acc ++ one x;
        held = stored;
        sum = omega (arith, length-one c.acc x, length-one rest x, c.sum);
        whole = append_assoc c.acc (one x) (up_to q (reverse rest)) ∙ step false (ne_eqb x q n);
      }

-- ---- one turn more of the list
module _ (n : ℕ) (src : Sources) (i : ℕ) where
  listed_next : listed n src (i + 1) ≡ put n (listed n src i) (lowest n (free src (listed n src i)) 0)
  unfolding listed
  listed_next = next [] (λ k done. put n done (lowest n (free src done) 0)) i

  listed-put : (p : ℕ) → p ≡ lowest n (free src (listed n src i)) 0 → p < n → listed n src (i + 1) ≡ listed n src i ++ one p
  listed-put p e h = listed_next ∙ rw (← e, lt-ltb p n h)

  listed-stays : n ≤ lowest n (free src (listed n src i)) 0 → listed n src (i + 1) ≡ listed n src i
  listed-stays h = listed_next ∙ rw (le-ltb (lowest n (free src (listed n src i)) 0) n h)

-- where none is free after i turns, no later turn lists one
listed-stuck : (more n : ℕ) (src : Sources) (i : ℕ) → n ≤ lowest n (free src (listed n src i)) 0 → listed n src (i + more) ≡ listed n src i
listed-stuck zero n src i h = let z : i + 0 ≡ i = omega arith in ap (listed n src) z
listed-stuck (suc more) n src i h =
    let z : i + suc more ≡ i + more + 1 = omega arith in
    let r = listed-stuck more n src i h in
    ap (listed n src) z ∙ listed-stays n src (i + more) (rw r h) ∙ r

-- after i turns
pub record Lists (n : ℕ) (src : Sources) (nodes : Table ℕ 32) (i : ℕ) : Type 0 where
  pub held : nodes ≡ nodes_held (listed n src i)
  pub long : length (listed n src i) ≡ i

pub lists-none : (n : ℕ) (src : Sources) (nodes : Table ℕ 32) → nodes ≡ nodes_held [] → Lists n src nodes 0
unfolding listed each
lists-none n src nodes e = record { held = e; long = refl }

module _ (n : ℕ) (src : Sources) (nodes : Table ℕ 32) (i : ℕ) (l : Lists n src nodes i) (few : n ≤ 32) where
  module _ (h : i < n) (r : Option ℕ) (e : r ≡ lowest_of n (free src (take nodes.count nodes.items))) where
    found : r ≡ lowest_of n (free src (listed n src i))
    found = e ∙ ap (λ d. lowest_of n (free src d)) (held_list nodes (listed n src i) l.held (omega (arith, l.long)))

    pub lists-put : (p : ℕ) → r ≡ Some p → (next : Table ℕ 32) (b : Bool) → b ≡ ltb nodes.count 32 → next ≡ pushed_if b nodes p → Lists n src next (i + 1)
    lists-put p s next b f w =
        let q = found-some (free src (listed n src i)) n p (sym found ∙ s) in
        let m = listed-put n src i p q.0 q.1 in
        record {
          held = put_list (listed n src i) p nodes next b l.held (omega (arith, l.long)) f w ∙ ap nodes_held (sym m);
          long = rw m (omega (arith, length-one (listed n src i) p, l.long));
        }

    pub lists-stuck : r ≡ None → (nodes ≡ nodes_held (listed n src n)) × (nodes.count ≤ 32)
    lists-stuck s =
        let z : n ≡ i + (n - i) = omega arith in
        let m : listed n src n ≡ listed n src i = ap (listed n src) z ∙ listed-stuck (n - i) n src i (found-none (free src (listed n src i)) n (sym found ∙ s)) in
        (l.held ∙ ap nodes_held (sym m), rw l.held (omega (arith, l.long)))

-- ---- back along a path
or_swap : (a b : Bool) → (a || (b || false)) ≡ (b || a)
or_swap true true = refl
or_swap true false = refl
or_swap false true = refl
or_swap false false = refl

has-reverse : (q : ℕ) (path : List ℕ) → has q (reverse path) ≡ has q path
has-reverse q [] = refl
has-reverse q (p ∷ path) = ap (has q) (reverse-append (one p) path) ∙ has-append q (reverse path) (one p) ∙ or_swap (has q (reverse path)) (eqb p q) ∙ ap (λ (b : Bool). eqb p q || b) (has-reverse q path)

-- n - depth steps are left
pub record Back (src : Sources) (done : List ℕ) (n : ℕ) (nodes : Table ℕ 32) (depth q : ℕ) : Type 0 where
  pub path : List ℕ
  pub held : nodes ≡ nodes_held path
  pub long : length path ≡ depth
  pub room : depth ≤ 32
  pub next : q ≡ back src done (reverse path)
  pub whole : walk (back src done) (n - depth) (reverse path) ≡ back_from n src done

module _ (src : Sources) (done : List ℕ) (n : ℕ) (nodes : Table ℕ 32) (depth q : ℕ) (b : Back src done n nodes depth q) where
  pub back-path : take nodes.count nodes.items ≡ b.path
  back-path = held_list nodes b.path b.held (omega (arith, b.long, b.room))

  pub back_end : n ≤ depth → up_to q (reverse b.path) ≡ back_from n src done
  unfolding walk
  back_end h =
      let e : 0 ≡ n - depth = omega arith in
      rw b.next (ap (λ (k : ℕ). walk (back src done) k (reverse b.path)) e) ∙ b.whole

  module _ (h : depth < n) where
    step_by : (t : Bool) → has q b.path ≡ t → cond t (up_to q (reverse b.path)) (walk (back src done) (n - (depth + 1)) (q ∷ reverse b.path)) ≡ back_from n src done
    unfolding walk
    step_by t e =
        let z : suc (n - (depth + 1)) ≡ n - depth = omega arith in
        ap (λ (u : Bool). cond u (up_to q (reverse b.path)) (walk (back src done) (n - (depth + 1)) (q ∷ reverse b.path))) (sym (has-reverse q b.path ∙ e))
        ∙ ap (λ (r : ℕ). cond (has r (reverse b.path)) (up_to r (reverse b.path)) (walk (back src done) (n - (depth + 1)) (r ∷ reverse b.path))) b.next
        ∙ ap (λ (k : ℕ). walk (back src done) k (reverse b.path)) z
        ∙ b.whole

    pub back_met : has q b.path ≡ true → up_to q (reverse b.path) ≡ back_from n src done
    back_met e = step_by true e

    pub back_on : n ≤ 32 → has q b.path ≡ false → (more : Table ℕ 32) (t : Bool) → t ≡ ltb nodes.count 32 → more ≡ pushed_if t nodes q → (r : ℕ) → r ≡ behind src done q → Back src done n more (depth + 1) r
    back_on few e more t u w r f =
        let s = reverse-append b.path (one q) in
        record {
          path = b.path ++ one q;
          held = put_list b.path q nodes more t b.held (omega (arith, b.long)) u w;
          long = omega (arith, length-one b.path q, b.long);
          room = omega arith;
          next = f ∙ sym (ap (back src done) s);
          whole = ap (walk (back src done) (n - (depth + 1))) s ∙ step_by false e;
        }

pub back-first : (src : Sources) (done : List ℕ) (n : ℕ) (nodes : Table ℕ 32) (first q : ℕ) → nodes ≡ nodes_held (one first) → first ≡ lowest n (is_left done) 0 → q ≡ behind src done first → Back src done n nodes 1 q
unfolding back_from
back-first src done n nodes first q w e f =
    record {
      path = one first;
      held = w;
      long = refl;
      room = omega arith;
      next = f;
      whole = ap (λ (p : ℕ). walk (back src done) (n - 1) (one p)) e;
    }

-- ---- the answer
module _ (n : ℕ) (src : Sources) (all : Table ℕ 32) (w : all ≡ nodes_held (listed n src n)) where
  long_is : all.count ≡ length (listed n src n)
  long_is = ap (λ (x : Table ℕ 32). x.count) w

  pub answer-cycle : all.count ≤ 32 → (all.count ≡ n → ⊥) → (f : Table ℕ 32) → f ≡ nodes_held (back_from n src (take all.count all.items)) → Err (Cycle f) ≡ answer_of (signalled_by n src)
  answer-cycle few e f v =
      let z : (length (listed n src n) ≡ n → ⊥) = λ i. e (long_is ∙ i) in
      let h : take all.count all.items ≡ listed n src n = held_list all (listed n src n) w (omega (arith, long_is)) in
      rw (ne_eqb (length (listed n src n)) n z, v, h)
