-- What the reader has read is the text so far: each byte that it takes is the next byte of that text. Assumes nothing.
use mathlib.Core.Path.{◌≡◌, refl, sym, ap, ◌∙◌, subst}
use mathlib.Core.Bool.{Bool, true, false, cond, not, ◌&&◌, false≢true}
use mathlib.Core.List.{List, [], ◌∷◌, ◌++◌, append-nil, append_assoc}
use Prim.Native.Nat.{ℕ, suc, ◌+◌, ◌-◌, ◌*◌, ◌≤◌, ◌<◌}
use native.Mathlib.Omega.{arith}
use borrow.Author.Tests.{eqb-true, eqb-false, leb-true, not-true}
use lib.Dec.{eqb, leb}
use lib.ListN.{length}
use Rattle.std.specs.Prelude.{Option, Some, None, Result, Ok, Err}
use Rattle.refusals.specs.declared.TextRefusal.{TextRefusal}
use Rattle.refusals.specs.declared.TextRefusal.TheVariants.{TooFar, NotThere, ShortBuffer, NotProfile, LargeNumber, NoMove}
use Rattle.path.specs.declared.reader.Phase.{Phase}
use Rattle.path.specs.declared.reader.Phase.TheVariants.{Begin, Letter, Lettered, Digit, Number, Point, Halved, Stopped}
use Rattle.path.specs.declared.reader.Command.{Command}
use Rattle.path.specs.declared.reader.Act.{Act}
use Rattle.path.specs.declared.reader.Act.TheVariants.{Letter as letter, First as first, Half as half, Stop as stop}
use Rattle.path.specs.declared.reader.Stand.{Stand}
use Rattle.path.specs.declared.drawn.Drawn.{Drawn}
use Rattle.path.specs.Number.{digits, number_text}
use Rattle.path.specs.Text.{text_of}
use Rattle.path.specs.Reader.{is_digit, arity, act_of, on_letter, on_space, Part, Reading, next, step, run_from, unread, run, drawn_all, ended, broken_at, whole_verdict, verdict_of, given, answer_of, segments, refused, read}
use Rattle.path.proofs.Numbers.{digits-one, digits_more, text-whole, text-half}
use Rattle.path.proofs.Backs.{letter_for, front, back, whole, Wholes, none, more as and, back-text}

-- ---- tests
pub choose : (P : Act → Type 0) (c : Bool) {x y : Act} → (c ≡ true → P x) → (c ≡ false → P y) → P (cond c x y)
choose P true f g = f refl
choose P false f g = g refl

pub by-letter : (P : Act → Type 0) (b : ℕ) → ((c : Command) → b ≡ letter_for c → P (letter c)) → P stop → P (on_letter b)
by-letter P b f z =
    choose P (eqb b 77) (λ (e : eqb b 77 ≡ true). f Command.Move (eqb-true b 77 e))
    (λ e. choose P (eqb b 76) (λ (e : eqb b 76 ≡ true). f Command.Line (eqb-true b 76 e))
    (λ e. choose P (eqb b 67) (λ (e : eqb b 67 ≡ true). f Command.Cubic (eqb-true b 67 e))
    (λ e. choose P (eqb b 90) (λ (e : eqb b 90 ≡ true). f Command.Close (eqb-true b 90 e)) (λ e. z))))

pub both : (a b : Bool) → (a && b) ≡ true → (a ≡ true) × (b ≡ true)
both true true e = (refl, refl)
both true false e = absurd (false≢true e)
both false b e = absurd (false≢true e)

pub digit-small : (b : ℕ) → is_digit b ≡ true → (b - 48 < 10) × (48 + (b - 48) ≡ b)
digit-small b e =
    let l : 48 ≤ b = leb-true 48 b (both (leb 48 b) (leb b 57) e).0 in
    let h : b ≤ 57 = leb-true b 57 (both (leb 48 b) (leb b 57) e).1 in
    (omega arith, omega arith)

-- ---- how the parts stand in each phase
-- what was taken of the text and is no part's yet
abbrev pub tail : Phase → List ℕ
tail Begin = []
tail Letter = 32 ∷ []
tail Lettered = []
tail Digit = 32 ∷ []
tail Number = []
tail Point = 46 ∷ []
tail Halved = []
tail (Stopped q) = []

-- the last part is b with the numbers hs, and l numbers are to come
pub record Last (b : Command) (hs : List ℕ) (l : ℕ) (ps : List Part) : Type 0 where
  pub counted : length hs + l ≡ arity b
  pub before : Wholes ps

abbrev pub part : Command → List ℕ → Part
part b hs = record { command = b; numbers = hs }

pub data Good : Phase → ℕ → ℕ → List Part → Type 0 where
  begin : {l v : ℕ} → Good Begin l v []
  after_segment : {l v : ℕ} {p : Part} {ps : List Part} → Wholes (p ∷ ps) → Good Letter l v (p ∷ ps)
  after_letter : {b : Command} {l v : ℕ} {ps : List Part} → Last b [] l ps → Good Lettered l v (part b [] ∷ ps)
  after_space : {b : Command} {l v : ℕ} {hs : List ℕ} {ps : List Part} → Last b hs l ps → 0 < l → Good Digit l v (part b hs ∷ ps)
  in_number : {b : Command} {l v h : ℕ} {hs : List ℕ} {ps : List Part} (n : ℕ) → h ≡ 2 * n → ((v ≡ 0 → ⊥) → 0 < n) → Last b (h ∷ hs) l ps → Good Number l v (part b (h ∷ hs) ∷ ps)
  after_point : {b : Command} {l v h : ℕ} {hs : List ℕ} {ps : List Part} (n : ℕ) → h ≡ 2 * n → Last b (h ∷ hs) l ps → Good Point l v (part b (h ∷ hs) ∷ ps)
  after_half : {b : Command} {l v h : ℕ} {hs : List ℕ} {ps : List Part} → Last b (h ∷ hs) l ps → Good Halved l v (part b (h ∷ hs) ∷ ps)

-- the bytes t are taken, or one of them was refused
pub data Held : Phase → ℕ → ℕ → List Part → List ℕ → Type 0 where
  held : {p : Phase} {l v : ℕ} {ps : List Part} {t : List ℕ} → Good p l v ps → back ps ++ tail p ≡ t → Held p l v ps t
  halted : {q l v : ℕ} {ps : List Part} {t : List ℕ} → Held (Stopped q) l v ps t

abbrev pub Holds : Reading → List ℕ → Type 0
Holds r t = Held r.stand.phase r.stand.left r.stand.value r.parts t

-- ---- a space after a word
space-held : (p : Phase) (b : Command) (l v c : ℕ) (hs : List ℕ) (ps : List Part) (t : List ℕ) → Last b hs l ps → back (part b hs ∷ ps) ≡ t → c ≡ 32
    → Held (cond (eqb l 0) Letter Digit) l v (part b hs ∷ ps) (t ++ c ∷ [])
space-held p b l v c hs ps t a e s = go (eqb l 0) refl
  where
    go : (z : Bool) → eqb l 0 ≡ z → Held (cond z Letter Digit) l v (part b hs ∷ ps) (t ++ c ∷ [])
    go true z =
        let n : l ≡ 0 = eqb-true l 0 z in
        held {t = t ++ c ∷ []} (after_segment (and (whole b hs (omega (arith, a.counted))) a.before)) (rw (e, s))
    go false z =
        let n : (l ≡ 0 → ⊥) = eqb-false l 0 z in
        held {t = t ++ c ∷ []} (after_space a (omega arith)) (rw (e, s))

module _ (s : Stand) (t : List ℕ) (at c : ℕ) where
  -- after the act a at a stand like s in all but the phase
  abbrev After : List Part → Act → Type 0
  After ps a = Holds (next a at (record { stand = s; parts = ps })) (t ++ c ∷ [])

  spaced : (b : Command) (hs : List ℕ) (ps : List Part) → Last b hs s.left ps → back (part b hs ∷ ps) ≡ t → After (part b hs ∷ ps) (on_space c)
  spaced b hs ps a e =
      choose (After (part b hs ∷ ps)) (eqb c 32)
      (λ (z : eqb c 32 ≡ true). space-held s.phase b s.left s.value c hs ps t a e (eqb-true c 32 z))
      (λ (z : eqb c 32 ≡ false). halted)

  lettered : (ps : List Part) → Wholes ps → front ps ≡ t → After ps (on_letter c)
  lettered ps w e =
      by-letter (After ps) c
      (λ (d : Command) (z : c ≡ letter_for d). held (after_letter (record { counted = omega arith; before = w })) (rw (append-nil, e, z)))
      halted

  begun : (b : Command) (hs : List ℕ) (ps : List Part) → Last b hs s.left ps → 0 < s.left → back (part b hs ∷ ps) ++ 32 ∷ [] ≡ t → After (part b hs ∷ ps) (cond (is_digit c) (first (c - 48)) stop)
  begun b hs ps a l e =
      choose (After (part b hs ∷ ps)) (is_digit c)
      (λ (z : is_digit c ≡ true).
      let d : (c - 48 < 10) × (48 + (c - 48) ≡ c) = digit-small c z in
      held (in_number (c - 48) refl (λ n. omega arith) (record { counted = omega (arith, a.counted); before = a.before }))
      (rw (text-whole, digits-one (c - 48) d.0, d.1, ← e) (simp (append_assoc, append-nil))))
      (λ (z : is_digit c ≡ false). halted)

  numbered : (b : Command) (h n : ℕ) (hs : List ℕ) (ps : List Part) → Last b (h ∷ hs) s.left ps → h ≡ 2 * n → ((s.value ≡ 0 → ⊥) → 0 < n) → back (part b (h ∷ hs) ∷ ps) ≡ t
      → After (part b (h ∷ hs) ∷ ps) (act_of Number s.value c)
  numbered b h n hs ps a w k e =
      choose (After (part b (h ∷ hs) ∷ ps)) (not (eqb s.value 0) && is_digit c)
      (λ (z : (not (eqb s.value 0) && is_digit c) ≡ true).
      let y : (not (eqb s.value 0) ≡ true) × (is_digit c ≡ true) = both (not (eqb s.value 0)) (is_digit c) z in
      let d : (c - 48 < 10) × (48 + (c - 48) ≡ c) = digit-small c y.1 in
      let m : 0 < n = k (eqb-false s.value 0 (not-true (eqb s.value 0) y.0)) in
      let f : 10 * h + 2 * (c - 48) ≡ 2 * (10 * n + (c - 48)) = omega arith in
      let i : number_text h ≡ digits n = ap number_text w ∙ text-whole n in
      held (in_number (10 * n + (c - 48)) f (λ q. omega arith) (record { counted = a.counted; before = a.before }))
      (rw (ap number_text f, text-whole, digits_more n (c - 48) m d.0, d.1, ← e, i) (simp (append_assoc, append-nil))))
      (λ (z : (not (eqb s.value 0) && is_digit c) ≡ false).
      choose (After (part b (h ∷ hs) ∷ ps)) (eqb c 46)
      (λ (y : eqb c 46 ≡ true). held (after_point n w a) (rw (e, eqb-true c 46 y)))
      (λ (y : eqb c 46 ≡ false). spaced b (h ∷ hs) ps a e))

  halved : (b : Command) (h n : ℕ) (hs : List ℕ) (ps : List Part) → Last b (h ∷ hs) s.left ps → h ≡ 2 * n → back (part b (h ∷ hs) ∷ ps) ++ 46 ∷ [] ≡ t
      → After (part b (h ∷ hs) ∷ ps) (cond (eqb c 53) half stop)
  halved b h n hs ps a w e =
      choose (After (part b (h ∷ hs) ∷ ps)) (eqb c 53)
      (λ (z : eqb c 53 ≡ true).
      let f : h + 1 ≡ 2 * n + 1 = omega arith in
      let i : number_text h ≡ digits n = ap number_text w ∙ text-whole n in
      held (after_half (record { counted = a.counted; before = a.before }))
      (rw (ap number_text f, text-half, ← e, i, eqb-true c 53 z) (simp (append_assoc, append-nil))))
      (λ (z : eqb c 53 ≡ false). halted)

-- a stand by its fields
abbrev pub stand_by : Phase → ℕ → ℕ → ℕ → Option ℕ → Bool → Stand
stand_by p l v g x y = record { phase = p; left = l; value = v; begun = g; large = x; other = y }

-- ---- one byte more
pub step-held : (p : Phase) (l v g : ℕ) (x : Option ℕ) (y : Bool) (ps : List Part) (t : List ℕ) (at c : ℕ) → Held p l v ps t
    → Holds (step at (record { stand = stand_by p l v g x y; parts = ps }) c) (t ++ c ∷ [])
step-held p l v g x y ps t at c (held begin e) =
    lettered (stand_by Begin l v g x y) t at c [] none e
step-held p l v g x y ps t at c (held (after_segment {p = r} {ps = rs} w) e) =
    lettered (stand_by Letter l v g x y) t at c (r ∷ rs) w e
step-held p l v g x y ps t at c (held (after_letter {b = b} {ps = rs} a) e) =
    spaced (stand_by Lettered l v g x y) t at c b [] rs a (sym (append-nil _) ∙ e)
step-held p l v g x y ps t at c (held (after_space {b = b} {hs = hs} {ps = rs} a n) e) =
    begun (stand_by Digit l v g x y) t at c b hs rs a n e
step-held p l v g x y ps t at c (held (in_number {b = b} {h = h} {hs = hs} {ps = rs} n w k a) e) =
    numbered (stand_by Number l v g x y) t at c b h n hs rs a w k (sym (append-nil _) ∙ e)
step-held p l v g x y ps t at c (held (after_point {b = b} {h = h} {hs = hs} {ps = rs} n w a) e) =
    halved (stand_by Point l v g x y) t at c b h n hs rs a w e
step-held p l v g x y ps t at c (held (after_half {b = b} {h = h} {hs = hs} {ps = rs} a) e) =
    spaced (stand_by Halved l v g x y) t at c b (h ∷ hs) rs a (sym (append-nil _) ∙ e)
step-held p l v g x y ps t at c halted = halted

run-held : (bs : List ℕ) (at : ℕ) (r : Reading) (t : List ℕ) → Holds r t → Holds (run_from bs at r) (t ++ bs)
run-held [] at r t h = rw append-nil h
run-held (b ∷ bs) at r t h =
    subst (λ (u : List ℕ). Holds (run_from bs (suc at) (step at r b)) u) (append_assoc t (b ∷ []) bs)
    (run-held bs (suc at) (step at r b) (t ++ b ∷ [])
    (step-held r.stand.phase r.stand.left r.stand.value r.stand.begun r.stand.large r.stand.other r.parts t at b h))

pub read_held : (s : List ℕ) → Holds (run s) s
unfolding run
read_held s = run-held s 0 unread [] (held begin refl)

-- ---- where the text may end, what was read is its segments
pub ended-text : (p : Phase) (l v : ℕ) (ps : List Part) (t : List ℕ) → Held p l v ps t → ended p l ≡ true → text_of (drawn_all ps) ≡ t
ended-text p l v ps t (held begin e) z = unfold text_of in e
ended-text p l v ps t (held (after_segment w) e) z = absurd (false≢true z)
ended-text p l v ps t (held (after_letter {b = b} {ps = rs} a) e) z =
    let n : l ≡ 0 = eqb-true l 0 z in
    back-text (part b [] ∷ rs) (and (whole b [] (omega (arith, a.counted))) a.before) ∙ sym (append-nil _) ∙ e
ended-text p l v ps t (held (after_space a n) e) z = absurd (false≢true z)
ended-text p l v ps t (held (in_number {b = b} {h = h} {hs = hs} {ps = rs} n w k a) e) z =
    let i : l ≡ 0 = eqb-true l 0 z in
    back-text (part b (h ∷ hs) ∷ rs) (and (whole b (h ∷ hs) (omega (arith, a.counted))) a.before) ∙ sym (append-nil _) ∙ e
ended-text p l v ps t (held (after_point n w a) e) z = absurd (false≢true z)
ended-text p l v ps t (held (after_half {b = b} {h = h} {hs = hs} {ps = rs} a) e) z =
    let i : l ≡ 0 = eqb-true l 0 z in
    back-text (part b (h ∷ hs) ∷ rs) (and (whole b (h ∷ hs) (omega (arith, a.counted))) a.before) ∙ sym (append-nil _) ∙ e
ended-text p l v ps t halted z = absurd (false≢true z)

-- ---- what an answer says of the stand
pub fine-told : (n : ℕ) (s : Stand) → verdict_of n s ≡ Ok tt → (ended s.phase s.left ≡ true) × (s.large ≡ None) × (s.other ≡ false)
fine-told n s = go (ended s.phase s.left) s.large s.other
  where
    go : (b : Bool) (c : Option ℕ) (d : Bool) → cond b (whole_verdict c d) (Err (NotProfile (broken_at n s.phase))) ≡ Ok tt → (b ≡ true) × (c ≡ None) × (d ≡ false)
    go true (Some p) d e = absurd cc
    go true None true e = absurd cc
    go true None false e = (refl, refl, refl)
    go false c d e = absurd cc

given-fine : (v : Result (Unit {0}) TextRefusal) (xs ds : List Drawn) → given v xs ≡ segments ds → (v ≡ Ok tt) × (xs ≡ ds)
given-fine (Ok u) xs ds e = (refl, cc)
given-fine (Err r) xs ds e = absurd cc

pub answered-fine : (n : ℕ) (s : Stand) (xs ds : List Drawn) → answer_of n s xs ≡ segments ds → (ended s.phase s.left ≡ true) × (s.large ≡ None) × (s.other ≡ false) × (xs ≡ ds)
answered-fine n s xs ds e =
    let v = given-fine (verdict_of n s) xs ds e in
    let t = fine-told n s v.0 in
    (t.0, t.1, t.2, v.1)

abbrev pub Told : ℕ → Stand → TextRefusal → Type 0
Told n s TooFar = ⊥
Told n s NotThere = ⊥
Told n s (ShortBuffer m) = ⊥
Told n s (NotProfile p) = (ended s.phase s.left ≡ false) × (p ≡ broken_at n s.phase)
Told n s (LargeNumber p) = (ended s.phase s.left ≡ true) × (s.large ≡ Some p)
Told n s NoMove = (ended s.phase s.left ≡ true) × (s.large ≡ None) × (s.other ≡ true)

pub refused-told : (n : ℕ) (s : Stand) (xs : List Drawn) (r : TextRefusal) → answer_of n s xs ≡ refused r → Told n s r
refused-told n s xs r = go (ended s.phase s.left) s.large s.other refl refl refl
  where
    go : (b : Bool) (c : Option ℕ) (d : Bool) → ended s.phase s.left ≡ b → s.large ≡ c → s.other ≡ d
        → given (cond b (whole_verdict c d) (Err (NotProfile (broken_at n s.phase)))) xs ≡ refused r → Told n s r
    go true (Some p) d i j k e = let q : LargeNumber p ≡ r = cc in subst (Told n s) q (i, j)
    go true None true i j k e = let q : NoMove ≡ r = cc in subst (Told n s) q (i, j, k)
    go true None false i j k e = absurd cc
    go false c d i j k e = let q : NotProfile (broken_at n s.phase) ≡ r = cc in subst (Told n s) q (i, refl)

-- ---- a text that is read is the text of what it reads
pub read-text : (s : List ℕ) (ds : List Drawn) → read s ≡ segments ds → text_of ds ≡ s
unfolding read
read-text s ds e =
    let z = answered-fine (length s) (run s).stand (drawn_all (run s).parts) ds e in
    ap text_of (sym z.3) ∙ ended-text _ _ _ _ s (read_held s) z.0
