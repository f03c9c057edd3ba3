-- An accepted chart is within document 01's limits; and the answer of `read` is the definition's.
-- Assumes nothing.
use Prim.Native.Nat.{ℕ, suc, ◌+◌, ◌*◌, ◌≤◌, ◌<◌}
use native.Mathlib.Omega.{arith}
use mathlib.Core.Path.{◌≡◌, refl, ap, sym, ◌∙◌}
use Rattle.std.specs.Prelude.{Option, Some, None, Result, Ok, Err}
use Rattle.refusals.specs.Refusals.{numbers_in}
use Rattle.refusals.specs.declared.Refusal.{Refusal}
use mathlib.Core.Bool.{Bool, true, false, cond}
use mathlib.Core.List.{List, [], ◌∷◌, ◌++◌}
use lib.Dec.{eqb, leb, ltb}
use lib.ListN.{length, get_or}
use borrow.Author.Tests.{lt-ltb, le-ltb, ne_eqb, ltb-true, ltb-false, leb-true}
use Rattle.chart.specs.declared.Line.{Line}
use Rattle.chart.specs.declared.Board.{Board as Tables}
use Rattle.chart.specs.declared.Setting.{Setting}
use Rattle.chart.specs.declared.Setting.TheVariants.{Default, Strict}
use Rattle.chart.specs.Chart.{End, Node, Board, Reading, ready, refusal, Got, got, refused, ends_of, targets, targets_of, first_outside, outside_in, judge_targets, judge, judged, under_two, bodies, chart}
use Rattle.refusals.specs.declared.Refusal.TheVariants.{OneByte, Outside, BytesAfter, CutContents, ManyEnds, ManyNodes, OtherFormat}
use Rattle.chart.specs.Tables.{item_of, line_of, sources_from, lines_from, sinks_from, no_item, no_line}
use Rattle.chart.specs.code.Filled.{empty_board, board_of, with_nodes, tables_of}
use Rattle.chart.specs.code.Steps.{told, made}
use Rattle.laws.specs.Lists.{All}
use Rattle.laws.proofs.Lists.{all_map, all-flat, take-padded}
use Rattle.chart.specs.Accepted.{Fitting, EndFits, Aimed, Formed, Accepted}
use Rattle.chart.specs.Read.{answer_of, IsRead}
use Rattle.chart.specs.code.Reads.{reading_of, read_of, Owned, Sound, Reads, outside_judged, judged_of}
use Rattle.chart.proofs.Gives.{Gives, Shaped, Bodies, ending-from, bodies_give}
use Rattle.chart.proofs.Held.{LowNode, board-held, ends-count, lines-count, tables-held}

-- ---- the targets
all_append : {A : Type 0} (P : A → Type 0) (xs ys : List A) → All P (xs ++ ys) → All P xs × All P ys
all_append P [] ys a = (tt, a)
all_append P (x ∷ xs) ys a = let r = all_append P xs ys a.1 in ((a.0, r.0), r.1)

abbrev Below : ℕ → ℕ → Type 0
Below n t = t < n

targets-below : (n : ℕ) (ts : List ℕ) → first_outside ts n ≡ None → All (Below n) ts
targets-below n [] e = tt
targets-below n (t ∷ ts) e = go (ltb t n) refl (targets-below n ts) e
  where
    go : (b : Bool) → ltb t n ≡ b → (first_outside ts n ≡ None → All (Below n) ts) → cond b (first_outside ts n) (Some t) ≡ None → (t < n) × All (Below n) ts
    go true h r q = (ltb-true t n h, r q)
    go false h r q = let z : ◌≡◌ {A = ℕ} 0 1 = cc in absurd (omega arith)

not_strict : Default ≡ Strict → ⊥
not_strict e = let z : ◌≡◌ {A = ℕ} 0 1 = cc in omega arith

module _ (w : Setting) (s : List ℕ) (n : ℕ) where
  abbrev In : ℕ → Type 0
  In t = w ≡ Strict → t < n

  below_in : (ts : List ℕ) → outside_in w ts n ≡ None → All In ts
  below_in ts o = go w refl o
    where
      free : (us : List ℕ) → (w ≡ Strict → ⊥) → All In us
      free [] d = tt
      free (u ∷ us) d = (λ e. absurd (d e), free us d)

      go : (v : Setting) → w ≡ v → outside_in v ts n ≡ None → All In ts
      go Default e o = free ts (λ f. not_strict (sym e ∙ f))
      go Strict e o = all_map (λ t h u. h) ts (targets-below n ts o)

  aimed : (es : List End) → All In (targets es) → All (EndFits s) es → All (Aimed w s n) es
  aimed [] a f = tt
  aimed (e ∷ es) a f = (record { target = a.0; fits = f.0 }, aimed es a.1 f.1)

  formed : (ps : Board) → All In (targets_of ps) → All (Shaped s) ps → All (Formed w s n) ps
  formed [] a f = tt
  formed (p ∷ ps) a f =
      let r = all_append In (targets p.sinks ++ targets p.sources) (targets_of ps) a in
      let t = all_append In (targets p.sinks) (targets p.sources) r.0 in
      (record { sources = aimed p.sources t.1 f.0.sources; lines = f.0.lines; few = f.0.few; sinks = aimed p.sinks t.0 f.0.sinks }, formed ps r.1 f.1)

-- ---- the limits
never : {A : Type 0} (why : Refusal) (ps : Board) → refusal why ≡ ready ps → A
never why ps e = let z : ◌≡◌ {A = ℕ} 0 1 = cc in absurd (omega arith)

same : (ps qs : Board) → ready ps ≡ ready qs → ps ≡ qs
same ps qs e = cc

module _ (w : Setting) (s : List ℕ) (small : get_or s 1 0 ≤ 32) where
  abbrev count : ℕ
  count = get_or s 1 0

  within : (qs : Board) (at : ℕ) → Bodies s count (2 + 2 * count) qs at → length s ≤ at → ends_of qs ≤ 64 → outside_in w (targets_of qs) count ≡ None → Accepted w s qs
  within qs at h l m o =
      record {
        count = h.count;
        nodes = omega arith;
        ends = m;
        formed = rw h.count (formed w s count qs (below_in w s count (targets_of qs) o) h.shaped);
        size = omega arith;
      }

  judge-accepts : (ps qs : Board) (at : ℕ) → Bodies s count (2 + 2 * count) qs at → judge w s count qs at ≡ ready ps → Accepted w s ps
  judge-accepts ps qs at h e = go (ltb at (length s)) (leb (ends_of qs) 64) (outside_in w (targets_of qs) count) refl refl refl e
    where
      go : (a b : Bool) (o : Option ℕ) → ltb at (length s) ≡ a → leb (ends_of qs) 64 ≡ b → outside_in w (targets_of qs) count ≡ o
          → cond a (refusal BytesAfter) (cond b (judge_targets o qs) (refusal ManyEnds)) ≡ ready ps → Accepted w s ps
      go true b o i j k e = never BytesAfter ps e
      go false false o i j k e = never ManyEnds ps e
      go false true (Some t) i j k e = never (Outside t) ps e
      go false true None i j k e = rw (same qs ps e) at (within qs at h (ltb-false at (length s) i) (leb-true (ends_of qs) 64 j) k)

  judged-accepts : (ps : Board) (g : Got Board) → Gives g (Bodies s count (2 + 2 * count)) → judged w s count g ≡ ready ps → Accepted w s ps
  judged-accepts ps (got qs at) h e = judge-accepts ps qs at h e
  judged-accepts ps (refused r) h e = never r ps e

-- a chart of no byte has no node
under-two-accepts : (w : Setting) (s : List ℕ) (ps : Board) → under_two (length s) ≡ ready ps → Accepted w s ps
under-two-accepts w [] ps e =
    let a : Accepted w [] [] = record { count = refl; nodes = omega arith; ends = omega arith; formed = tt; size = omega arith } in
    rw (same [] ps e) at a
under-two-accepts w (b ∷ s) ps e =
    let z : eqb (suc (length s)) 0 ≡ false = ne_eqb (suc (length s)) 0 (λ q. omega arith) in
    never OneByte ps (rw z at e)

pub accepted : (w : Setting) (s : List ℕ) (ps : Board) → chart w s ≡ ready ps → Accepted w s ps
unfolding chart
accepted w s ps e = go (ltb (length s) 2) (eqb (get_or s 0 0) 1) (leb (get_or s 1 0) 32) (leb (2 + 2 * get_or s 1 0) (length s)) refl e
  where
    go : (a b c d : Bool) → leb (get_or s 1 0) 32 ≡ c
        → cond a (under_two (length s)) (cond b (cond c (cond d (judged w s (get_or s 1 0) (bodies (get_or s 1 0) s 0 (2 + 2 * get_or s 1 0))) (refusal CutContents)) (refusal ManyNodes)) (refusal OtherFormat)) ≡ ready ps
        → Accepted w s ps
    go true b c d h q = under-two-accepts w s ps q
    go false false c d h q = never OtherFormat ps q
    go false true false d h q = never ManyNodes ps q
    go false true true false h q = never CutContents ps q
    go false true true true h q =
        judged-accepts w s (leb-true (get_or s 1 0) 32 h) ps (bodies (get_or s 1 0) s 0 (2 + 2 * get_or s 1 0)) (bodies_give (get_or s 1 0) s 0 (2 + 2 * get_or s 1 0)) q

-- ---- the tables of an accepted chart
module _ (s : List ℕ) (size : length s ≤ 5026) where
  end_low : (e : End) → EndFits s e → e.text.at < 65536
  end_low e h = omega (arith, h.text.inside, ending-from e.text.len s e.text.at)

  shaped-low : (p : Node) → Shaped s p → LowNode p
  shaped-low p h =
      record {
        sources = all_map end_low p.sources h.sources;
        lines = all_map (λ t f. omega (arith, f.inside, ending-from t.len s t.at)) p.lines h.lines;
        sinks = all_map end_low p.sinks h.sinks;
      }

  formed-shaped : (w : Setting) (n : ℕ) (p : Node) → Formed w s n p → Shaped s p
  formed-shaped w n p h =
      record {
        sources = all_map (λ e a. a.fits) p.sources h.sources;
        lines = h.lines;
        few = h.few;
        sinks = all_map (λ e a. a.fits) p.sinks h.sinks;
      }

  shaped-held : (ps : Board) → All (Shaped s) ps → length ps ≤ 32 → ends_of ps ≤ 64 → board_of (tables_of (length ps) ps) ≡ ps
  shaped-held ps h n e = board-held ps (all_map shaped-low ps h) (all_map (λ p f. f.few) ps h) n e

pub accepted-held : (w : Setting) (s : List ℕ) (ps : Board) → Accepted w s ps → board_of (tables_of (length ps) ps) ≡ ps
accepted-held w s ps a = shaped-held s a.size ps (all_map (formed-shaped s a.size w (length ps)) ps a.formed) a.nodes a.ends

-- ---- their records
sound-held : (w : Setting) (s : List ℕ) (ps : Board) → Accepted w s ps → Sound (tables_of (length ps) ps)
sound-held w s ps a =
    let n = length ps in
    let xs = sources_from 0 ps in
    let ls = lines_from 0 ps in
    let ys = sinks_from 0 ps in
    let few : length ls ≤ 128 = omega (arith, lines-count 0 ps (all_map (λ p f. f.few) ps a.formed), a.nodes) in
    let i : length xs ≤ 64 = omega (arith, ends-count 0 ps, a.ends) in
    let k : length ys ≤ 64 = omega (arith, ends-count 0 ps, a.ends) in
    rw (tables-held n ps)
    (record {
      nodes = a.nodes;
      ends = omega (arith, ends-count 0 ps, a.ends);
      lines = few;
      sources = rw (take-padded 64 no_item xs i) (all-flat item_of (λ (q : Node). q.sources) n (Aimed w s n) (Owned n) (λ p e l h. l) 0 ps (omega arith) (all_map (λ p f. f.sources) ps a.formed));
      owners = rw (take-padded 128 no_line ls few) (all-flat line_of (λ (q : Node). q.lines) n (Fitting s) (λ (x : Line). x.owner < n) (λ p e l h. l) 0 ps (omega arith) (all_map (λ p f. f.lines) ps a.formed));
      sinks = rw (take-padded 64 no_item ys k) (all-flat item_of (λ (q : Node). q.sinks) n (Aimed w s n) (Owned n) (λ p e l h. l) 0 ps (omega arith) (all_map (λ p f. f.sinks) ps a.formed));
    })

-- ---- the contract of `read`
err_ok : {A : Type 0} {why : Refusal} {x : A} → Err why ≡ Ok x → ⊥
err_ok e = let z : ◌≡◌ {A = ℕ} 0 1 = cc in omega arith

reads-back : (w : Setting) (s : List ℕ) (g : Reading) → chart w s ≡ g → reading_of (read_of g) ≡ g
reads-back w s (ready ps) e = ap ready (accepted-held w s ps (accepted w s ps e))
reads-back w s (refusal why) e = refl

module _ (w : Setting) (s : List ℕ) (b : Tables) where
  limits_of : (g : Reading) → chart w s ≡ g → read_of g ≡ Ok b → Accepted w s (board_of b)
  limits_of (ready ps) e h = let a = accepted w s ps e in let z : tables_of (length ps) ps ≡ b = cc in rw (← z, accepted-held w s ps a) a
  limits_of (refusal why) e h = absurd (err_ok h)

  sound-of : (g : Reading) → chart w s ≡ g → read_of g ≡ Ok b → Sound b
  sound-of (ready ps) e h = let z : tables_of (length ps) ps ≡ b = cc in rw (← z) (sound-held w s ps (accepted w s ps e))
  sound-of (refusal why) e h = absurd (err_ok h)

-- the tables as the code makes them are those of the definition
read_same : (g : Reading) → read_of g ≡ answer_of g
read_same (ready ps) = ap Ok (tables-held (length ps) ps)
read_same (refusal why) = refl

pub is_read : (w : Setting) (s : List ℕ) (r : Result Tables Refusal) → r ≡ read_of (chart w s) → IsRead w s r
is_read w s r e =
    let h : r ≡ answer_of (chart w s) = e ∙ read_same (chart w s) in
    record { whole = h; refused = λ why q. h ∙ ap answer_of q; numbers = λ why q. ap numbers_in (h ∙ ap answer_of q); limits = accepted w s }

-- what the crates above take from it
pub reads_of : (w : Setting) (s : List ℕ) (r : Result Tables Refusal) → IsRead w s r → Reads w s r
reads_of w s r i =
    let e : r ≡ read_of (chart w s) = i.whole ∙ sym (read_same (chart w s)) in
    record {
      reads = rw e (reads-back w s (chart w s) refl);
      whole = e;
      limits = λ b h. limits_of w s b (chart w s) refl (sym e ∙ h);
      sound = λ b h. sound-of w s b (chart w s) refl (sym e ∙ h);
    }

-- ---- what was got
refused_got : {A : Type 0} {why : Refusal} {x : A} {at : ℕ} → ◌≡◌ {A = Got A} (refused why) (got x at) → ⊥
refused_got e = let z : ◌≡◌ {A = ℕ} 0 1 = cc in omega arith

same-refusal : {A : Type 0} {v w : Refusal} → ◌≡◌ {A = Got A} (refused v) (refused w) → v ≡ w
same-refusal e = cc

same-value : {A : Type 0} {x y : A} {a b : ℕ} → got x a ≡ got y b → x ≡ y
same-value e = cc

same_place : {A : Type 0} {x y : A} {a b : ℕ} → got x a ≡ got y b → a ≡ b
same_place e = cc

-- ---- 11 and 12, from the tables
-- a board once it is judged
abbrev pub judged_as : Tables → Result (Unit {0}) Refusal → Result Tables Refusal
judged_as b (Ok u) = Ok b
judged_as b (Err why) = Err why

module _ (w : Setting) (s : List ℕ) (n : ℕ) (small : n ≤ 32) (qs : Board) (at : ℕ) (h : Bodies s n (2 + 2 * n) qs at) (all : length s ≤ at) where
  abbrev b : Tables
  b = tables_of n qs

  ends-counted : b.sources.count + b.sinks.count ≡ ends_of qs
  ends-counted = rw (tables-held n qs) (ends-count 0 qs)

  nodes-count : b.n ≡ n
  nodes-count = ap (λ (t : Tables). t.n) (tables-held n qs)

  outcome : (o : Option ℕ) → judged_as b (outside_judged o) ≡ read_of (judge_targets o qs)
  outcome None = rw h.count
  outcome (Some t) = refl

  tables-judged : judged_as b (judged_of w b) ≡ read_of (judge w s n qs at)
  tables-judged = rw (le-ltb at (length s) all, ends-counted) (go (leb (ends_of qs) 64) refl)
    where
      go : (a : Bool) → leb (ends_of qs) 64 ≡ a
          → judged_as b (cond a (outside_judged (outside_in w (targets_of (board_of b)) b.n)) (Err ManyEnds)) ≡ read_of (cond a (judge_targets (outside_in w (targets_of qs) n) qs) (refusal ManyEnds))
      go true e =
          let m : ends_of qs ≤ 64 = leb-true (ends_of qs) 64 e in
          let held : board_of b ≡ qs = rw (← h.count) (shaped-held s (omega arith) qs h.shaped (omega arith) m) in
          rw held (ap (λ (m : ℕ). judged_as b (outside_judged (outside_in w (targets_of qs) m))) nodes-count ∙ outcome (outside_in w (targets_of qs) n))
      go false e = refl

-- ---- what the bodies' answer says of the chart: r, the place `at` reached and the tables b
module _ (w : Setting) (s : List ℕ) (n : ℕ) (b : Tables) (r : Result (Unit {0}) Refusal) (at : ℕ) where
  -- the bodies were read, or not, and put into the tables
  abbrev Filling : Got Board → Type 0
  Filling g = told (λ u. b) r at ≡ made (with_nodes (empty_board n) 0) g

  pub read-refused : (g : Got Board) → Filling g → (why : Refusal) → r ≡ Err why → Err why ≡ read_of (judged w s n g)
  read-refused (got qs a) i why e = absurd (refused_got (rw e at i))
  read-refused (refused v) i why e = ap Err (same-refusal (rw e at i))

  module _ (e : r ≡ Ok tt) where
    pub read_trailing : (g : Got Board) → Filling g → at < length s → Err BytesAfter ≡ read_of (judged w s n g)
    read_trailing (got qs a) i l = let z = rw e at i in rw (← same_place z, lt-ltb at (length s) l)
    read_trailing (refused v) i l = absurd (refused_got (sym (rw e at i)))

    module _ (small : n ≤ 32) (l : length s ≤ at) where
      whole-judged : (g : Got Board) → Gives g (Bodies s n (2 + 2 * n)) → Filling g → (v : Result (Unit {0}) Refusal) → judged_of w b ≡ v → judged_as b v ≡ read_of (judged w s n g)
      unfolding tables_of
      whole-judged (got qs a) f i v q =
          let z = rw e at i in
          let m : length s ≤ a = omega (arith, same_place z) in
          rw (← q, same-value z) (tables-judged w s n small qs a f m)
      whole-judged (refused x) f i v q = absurd (refused_got (sym (rw e at i)))

      pub read-judged : (g : Got Board) → Gives g (Bodies s n (2 + 2 * n)) → Filling g → judged_of w b ≡ Ok tt → Ok b ≡ read_of (judged w s n g)
      read-judged g f i q = whole-judged g f i (Ok tt) q

      pub read-unjudged : (g : Got Board) → Gives g (Bodies s n (2 + 2 * n)) → Filling g → (why : Refusal) → judged_of w b ≡ Err why → Err why ≡ read_of (judged w s n g)
      read-unjudged g f i why q = whole-judged g f i (Err why) q
