-- Every profile text is taken to its end, whatever its numbers and its first letter; and what is taken so far goes on to a profile text. Assumes nothing.
use mathlib.Core.Path.{◌≡◌, refl, sym, ap, ◌∙◌, subst}
use mathlib.Core.Logic.{◌⊎◌, inl, inr}
use mathlib.Core.Bool.{Bool, true, false, cond, not, false≢true, true≢false}
use mathlib.Core.List.{List, [], ◌∷◌, ◌++◌, append-nil, append_assoc}
use Prim.Native.Nat.{ℕ, zero, suc, ◌+◌, ◌-◌, ◌*◌, ◌/◌, ◌%◌, ◌≤◌, ◌<◌}
use native.Mathlib.Nat.{div-lt_self}
use native.Mathlib.Omega.{arith}
use borrow.Author.Tests.{ltb-true, ltb-false, eq-eqb, ne_eqb}
use lib.Dec.{eqb, leb, ltb}
use lib.ListN.{length, take, get_or}
use lib.Seq.{take-length}
use Rattle.laws.proofs.Tests.{and_false}
use Rattle.refusals.specs.declared.TextRefusal.TheVariants.{NotProfile}
use Rattle.path.specs.declared.reader.Phase.{Phase}
use Rattle.path.specs.declared.reader.Phase.TheVariants.{Begin, Letter, Lettered, Digit, Number, Point, Halved, Stopped}
use Rattle.path.specs.declared.reader.Command.{Command}
use Rattle.path.specs.declared.reader.Act.{Act}
use Rattle.path.specs.declared.reader.Act.TheVariants.{Letter as letter, Space as space, First as first, More as more, Point as point, Half as half, Stop as stop, Stay as stay}
use Rattle.path.specs.declared.reader.Stand.{Stand}
use Rattle.path.specs.declared.drawn.Drawn.{Drawn}
use Rattle.path.specs.Number.{limit, digits, number_text}
use Rattle.path.specs.Text.{letter_of, numbers_of, numbers_text, segment_text, rest_text, text_of}
use Rattle.path.specs.Profile.{IsProfile, Continues, Refusal}
use Rattle.path.specs.Reader.{act_of, act, grown, moved, Part, Reading, step, run_from, unread, run, drawn_all, ended, broken_at, refused, read}
use Rattle.path.proofs.Numbers.{digits-one, digits-tens, text-whole, text-half}
use Rattle.path.proofs.Backs.{words_back, front, back, whole, back-text}
use Rattle.path.proofs.Backs as backs
use Rattle.path.proofs.Readings.{part, Last, begin, after_segment, after_letter, after_space, in_number, after_point, after_half, Held, held, halted, read_held, refused-told}
use Rattle.path.proofs.Wholes.{read_next}
use Rattle.path.proofs.Writings.{run-append, is_word, a-digit, letter_wants, command_of}

-- a byte was refused
abbrev is_stopped : Phase → Bool
is_stopped Begin = false
is_stopped Letter = false
is_stopped Lettered = false
is_stopped Digit = false
is_stopped Number = false
is_stopped Point = false
is_stopped Halved = false
is_stopped (Stopped q) = true

-- ---- a profile text is taken to its end
-- at the end of a word, with l numbers to come
record Taken (r : Reading) (l : ℕ) : Type 0 where
  end : is_word r.stand.phase ≡ true
  left : r.stand.left ≡ l

-- inside a number with the whole part n, with l numbers to come
record Inside (r : Reading) (l n : ℕ) : Type 0 where
  phase : r.stand.phase ≡ Number
  left : r.stand.left ≡ l
  pos : 0 < n → (r.stand.value ≡ 0 → ⊥)

-- a step whose act is known
step_as : (at c : ℕ) (r : Reading) (a : Act) → act r.stand c ≡ a → (step at r c).stand ≡ moved a at r.stand
step_as at c r a e = ap (λ (z : Act). moved z at r.stand) e

space-act : (p : Phase) (v : ℕ) → is_word p ≡ true → act_of p v 32 ≡ space
space-act Begin v e = absurd (false≢true e)
space-act Letter v e = absurd (false≢true e)
space-act Lettered v e = refl
space-act Digit v e = absurd (false≢true e)
space-act Number v e = rw (and_false (not (eqb v 0)))
space-act Point v e = absurd (false≢true e)
space-act Halved v e = refl
space-act (Stopped q) v e = absurd (false≢true e)

space-taken : (at l : ℕ) (r : Reading) → Taken r l → ((step at r 32).stand.phase ≡ cond (eqb l 0) Letter Digit) × ((step at r 32).stand.left ≡ l)
space-taken at l r t =
    let e : (step at r 32).stand ≡ moved space at r.stand = step_as at 32 r space (space-act r.stand.phase r.stand.value t.end) in
    (ap (λ (z : Stand). z.phase) e ∙ ap (λ (z : ℕ). cond (eqb z 0) Letter Digit) t.left, ap (λ (z : Stand). z.left) e ∙ t.left)

first-act : (p : Phase) (v d : ℕ) → d < 10 → p ≡ Digit → act_of p v (48 + d) ≡ first d
first-act p v d h e = let m : 48 + d - 48 ≡ d = omega arith in rw (e, a-digit d h, m)

more-act : (p : Phase) (v d : ℕ) → d < 10 → p ≡ Number → (v ≡ 0 → ⊥) → act_of p v (48 + d) ≡ more d
more-act p v d h e n = let m : 48 + d - 48 ≡ d = omega arith in rw (e, ne_eqb v 0 n, a-digit d h, m)

point_act : (p : Phase) (v : ℕ) → p ≡ Number → act_of p v 46 ≡ point
point_act p v e = rw (e, and_false (not (eqb v 0)))

half-act : (p : Phase) (v : ℕ) → p ≡ Point → act_of p v 53 ≡ half
half-act p v e = rw e

grown-pos : (v d : ℕ) → (v ≡ 0 → ⊥) → grown v d ≡ 0 → ⊥
grown-pos v d n = go (leb v limit)
  where
    go : (t : Bool) → cond t (10 * v + d) v ≡ 0 → ⊥
    go true e = omega arith
    go false e = n e

digits-taken : (f n at l : ℕ) (r : Reading) → n < f → r.stand.phase ≡ Digit → r.stand.left ≡ suc l → Inside (run_from (digits n) at r) l n
digits-taken zero n at l r h p q = absurd (omega arith)
digits-taken (suc f) n at l r h p q = go (ltb n 10) refl (λ (s : n / 10 < n). digits-taken f (n / 10) at l r (omega arith) p q)
  where
    go : (t : Bool) → ltb n 10 ≡ t → (n / 10 < n → Inside (run_from (digits (n / 10)) at r) l (n / 10)) → Inside (run_from (digits n) at r) l n
    go true z i =
        let s : n < 10 = ltb-true n 10 z in
        let e : (step at r (48 + n)).stand ≡ moved (first n) at r.stand = step_as at (48 + n) r (first n) (first-act r.stand.phase r.stand.value n s p) in
        rw (digits-one n s)
        (record {
          phase = ap (λ (y : Stand). y.phase) e;
          left = ap (λ (y : Stand). y.left) e ∙ omega (arith, q);
          pos = λ (o : 0 < n) (y : (step at r (48 + n)).stand.value ≡ 0). omega (arith, sym (ap (λ (x : Stand). x.value) e) ∙ y);
        })
    go false z i =
        let s : 10 ≤ n = ltb-false n 10 z in
        let w : Inside (run_from (digits (n / 10)) at r) l (n / 10) = i (div-lt_self (omega arith) (omega arith)) in
        let d : n % 10 < 10 = omega arith in
        let k : ℕ = at + length (digits (n / 10)) in
        let x : Reading = run_from (digits (n / 10)) at r in
        let e : (step k x (48 + n % 10)).stand ≡ moved (more (n % 10)) k x.stand = step_as k (48 + n % 10) x (more (n % 10)) (more-act x.stand.phase x.stand.value (n % 10) d w.phase (w.pos (omega arith))) in
        rw (digits-tens n s, run-append (digits (n / 10)) ((48 + n % 10) ∷ []) at r)
        (record {
          phase = ap (λ (y : Stand). y.phase) e;
          left = ap (λ (y : Stand). y.left) e ∙ w.left;
          pos = λ (o : 0 < n) (y : (step k x (48 + n % 10)).stand.value ≡ 0). grown-pos x.stand.value (n % 10) (w.pos (omega arith)) (sym (ap (λ (t : Stand). t.value) e) ∙ y);
        })

half-taken : (at l n : ℕ) (r : Reading) → Inside r l n → Taken (run_from (46 ∷ 53 ∷ []) at r) l
half-taken at l n r w =
    let e : (step at r 46).stand ≡ moved point at r.stand = step_as at 46 r point (point_act r.stand.phase r.stand.value w.phase) in
    let x : Reading = step at r 46 in
    let f : (step (suc at) x 53).stand ≡ moved half (suc at) x.stand = step_as (suc at) 53 x half (half-act x.stand.phase x.stand.value (ap (λ (y : Stand). y.phase) e)) in
    record { end = ap (λ (y : Stand). is_word y.phase) f; left = ap (λ (y : Stand). y.left) f ∙ ap (λ (y : Stand). y.left) e ∙ w.left }

number-taken : (h at l : ℕ) (r : Reading) → Taken r (suc l) → Taken (run_from (32 ∷ number_text h) at r) l
number-taken h at l r t = go (h % 2) refl (omega arith)
  where
    s : ((step at r 32).stand.phase ≡ Digit) × ((step at r 32).stand.left ≡ suc l)
    s = ((space-taken at (suc l) r t).0 ∙ ap (λ (z : Bool). cond z Letter Digit) (ne_eqb (suc l) 0 (omega arith)), (space-taken at (suc l) r t).1)

    w : Inside (run_from (digits (h / 2)) (suc at) (step at r 32)) l (h / 2)
    w = digits-taken (suc (h / 2)) (h / 2) (suc at) l (step at r 32) (omega arith) s.0 s.1

    go : (m : ℕ) → h % 2 ≡ m → m < 2 → Taken (run_from (32 ∷ number_text h) at r) l
    go zero e o =
        let u : h ≡ 2 * (h / 2) = omega arith in
        subst (λ (z : List ℕ). Taken (run_from z (suc at) (step at r 32)) l) (sym (ap number_text u ∙ text-whole (h / 2)))
        (record { end = ap is_word w.phase; left = w.left })
    go (suc zero) e o =
        let u : h ≡ 2 * (h / 2) + 1 = omega arith in
        subst (λ (z : List ℕ). Taken (run_from z (suc at) (step at r 32)) l) (sym (ap number_text u ∙ text-half (h / 2)))
        (rw (run-append (digits (h / 2)) (46 ∷ 53 ∷ []) (suc at) (step at r 32))
        (half-taken (suc at + length (digits (h / 2))) l (h / 2) (run_from (digits (h / 2)) (suc at) (step at r 32)) w))
    go (suc (suc m)) e o = absurd (omega arith)

numbers-taken : (ks : List ℕ) (at : ℕ) (r : Reading) → Taken r (length ks) → Taken (run_from (numbers_text ks) at r) 0
numbers-taken [] at r t = t
numbers-taken (k ∷ ks) at r t =
    rw (run-append (32 ∷ number_text k) (numbers_text ks) at r)
    (numbers-taken ks (at + length (32 ∷ number_text k)) (run_from (32 ∷ number_text k) at r) (number-taken k at (length ks) r t))

letter-act : (p : Phase) (v : ℕ) (d : Drawn) → (p ≡ Begin) ⊎ (p ≡ Letter) → act_of p v (letter_of d) ≡ letter (command_of d)
letter-act p v d (inl e) = rw (e, (letter_wants d).0)
letter-act p v d (inr e) = rw (e, (letter_wants d).0)

segment-taken : (d : Drawn) (at : ℕ) (r : Reading) → (r.stand.phase ≡ Begin) ⊎ (r.stand.phase ≡ Letter) → Taken (run_from (segment_text d) at r) 0
segment-taken d at r p =
    let e : (step at r (letter_of d)).stand ≡ moved (letter (command_of d)) at r.stand = step_as at (letter_of d) r (letter (command_of d)) (letter-act r.stand.phase r.stand.value d p) in
    numbers-taken (numbers_of d) (suc at) (step at r (letter_of d)) (record { end = ap (λ (y : Stand). is_word y.phase) e; left = ap (λ (y : Stand). y.left) e ∙ (letter_wants d).1 })

rest-taken : (ds : List Drawn) (at : ℕ) (r : Reading) → Taken r 0 → Taken (run_from (rest_text ds) at r) 0
rest-taken [] at r t = t
rest-taken (d ∷ ds) at r t =
    rw (run-append (32 ∷ segment_text d) (rest_text ds) at r)
    (rest-taken ds (at + length (32 ∷ segment_text d)) (run_from (32 ∷ segment_text d) at r) (segment-taken d (suc at) (step at r 32) (inr (space-taken at 0 r t).0)))

word-ended : (p : Phase) (l : ℕ) → is_word p ≡ true → l ≡ 0 → ended p l ≡ true
word-ended Begin l e z = refl
word-ended Letter l e z = absurd (false≢true e)
word-ended Lettered l e z = eq-eqb l 0 z
word-ended Digit l e z = absurd (false≢true e)
word-ended Number l e z = eq-eqb l 0 z
word-ended Point l e z = absurd (false≢true e)
word-ended Halved l e z = eq-eqb l 0 z
word-ended (Stopped q) l e z = absurd (false≢true e)

pub text-ended : (ds : List Drawn) → ended (run (text_of ds)).stand.phase (run (text_of ds)).stand.left ≡ true
unfolding run text_of
text-ended [] = refl
text-ended (d ∷ ds) =
    let t : Taken (run_from (segment_text d ++ rest_text ds) 0 unread) 0 =
    rw (run-append (segment_text d) (rest_text ds) 0 unread) (rest-taken ds (0 + length (segment_text d)) (run_from (segment_text d) 0 unread) (segment-taken d 0 unread (inl refl))) in
    word-ended (run_from (segment_text d ++ rest_text ds) 0 unread).stand.phase (run_from (segment_text d ++ rest_text ds) 0 unread).stand.left t.end t.left

-- ---- what is taken goes on to a profile text: with `0` for each number to come
abbrev zeros : ℕ → List ℕ
zeros zero = []
zeros (suc l) = 32 ∷ 48 ∷ zeros l

abbrev fill : ℕ → List ℕ → List ℕ
fill zero hs = hs
fill (suc l) hs = fill l (0 ∷ hs)

zero_text : number_text 0 ≡ 48 ∷ []
unfolding number_text digits
zero_text = refl

fill-words : (l : ℕ) (b : Command) (hs : List ℕ) → words_back b (fill l hs) ≡ words_back b hs ++ zeros l
fill-words zero b hs = sym (append-nil (words_back b hs))
fill-words (suc l) b hs =
    fill-words l b (0 ∷ hs)
    ∙ ap (λ (z : List ℕ). (words_back b hs ++ 32 ∷ z) ++ zeros l) zero_text
    ∙ append_assoc (words_back b hs) (32 ∷ 48 ∷ []) (zeros l)

fill-length : (l : ℕ) (hs : List ℕ) → length (fill l hs) ≡ length hs + l
fill-length zero hs = omega arith
fill-length (suc l) hs = omega (arith, fill-length l (0 ∷ hs))

last_goes : (b : Command) (l : ℕ) (hs : List ℕ) (ps : List Part) → Last b hs l ps → back (part b hs ∷ ps) ++ zeros l ≡ text_of (drawn_all (part b (fill l hs) ∷ ps))
last_goes b l hs ps a =
    append_assoc (front ps) (words_back b hs) (zeros l)
    ∙ ap (λ (z : List ℕ). front ps ++ z) (sym (fill-words l b hs))
    ∙ sym (back-text (part b (fill l hs) ∷ ps) (backs.more (whole b (fill l hs) (fill-length l hs ∙ a.counted)) a.before))

-- the same, where the text taken is x more than the part's
last-with : (b : Command) (l : ℕ) (hs : List ℕ) (ps : List Part) (t r : List ℕ) → Last b hs l ps → t ++ r ≡ back (part b hs ∷ ps) ++ zeros l → Continues t
last-with b l hs ps t r a e = (drawn_all (part b (fill l hs) ∷ ps), r, e ∙ last_goes b l hs ps a)

pub goes : (p : Phase) (l v : ℕ) (ps : List Part) (t : List ℕ) → Held p l v ps t → is_stopped p ≡ false → Continues t
goes p l v ps t (held begin e) z = ([], [], append-nil t ∙ sym e ∙ unfold text_of in refl)
goes p l v ps t (held (after_segment {p = q} {ps = qs} w) e) z = (
  drawn_all (part Command.Close [] ∷ q ∷ qs),
  90 ∷ [],
  ap (λ (y : List ℕ). y ++ 90 ∷ []) (sym e) ∙ sym (back-text (part Command.Close [] ∷ q ∷ qs) (backs.more (whole Command.Close [] refl) w)),
)
goes p l v ps t (held (after_letter {b = b} {ps = qs} a) e) z =
    last-with b l [] qs t (zeros l) a (ap (λ (y : List ℕ). y ++ zeros l) (sym e ∙ append-nil (back (part b [] ∷ qs))))
goes p l v ps t (held (after_space {b = b} {hs = hs} {ps = qs} a n) e) z = go l a n
  where
    go : (l : ℕ) → Last b hs l qs → 0 < l → Continues t
    go zero a n = absurd (omega arith)
    go (suc m) a n = last-with b (suc m) hs qs t (48 ∷ zeros m) a (ap (λ (y : List ℕ). y ++ 48 ∷ zeros m) (sym e) ∙ append_assoc (back (part b hs ∷ qs)) (32 ∷ []) (48 ∷ zeros m))
goes p l v ps t (held (in_number {b = b} {h = h} {hs = hs} {ps = qs} n w k a) e) z =
    last-with b l (h ∷ hs) qs t (zeros l) a (ap (λ (y : List ℕ). y ++ zeros l) (sym e ∙ append-nil (back (part b (h ∷ hs) ∷ qs))))
goes p l v ps t (held (after_point {b = b} {h = h} {hs = hs} {ps = qs} n w a) e) z =
    let u : h + 1 ≡ 2 * n + 1 = omega arith in
    let i : number_text h ≡ digits n = ap number_text w ∙ text-whole n in
    let j : number_text (h + 1) ≡ digits n ++ 46 ∷ 53 ∷ [] = ap number_text u ∙ text-half n in
    last-with b l ((h + 1) ∷ hs) qs t (53 ∷ zeros l) (record { counted = a.counted; before = a.before })
    (ap (λ (y : List ℕ). y ++ 53 ∷ zeros l) (sym e) ∙ rw (i, j) (simp append_assoc))
goes p l v ps t (held (after_half {b = b} {h = h} {hs = hs} {ps = qs} a) e) z =
    last-with b l (h ∷ hs) qs t (zeros l) a (ap (λ (y : List ℕ). y ++ zeros l) (sym e ∙ append-nil (back (part b (h ∷ hs) ∷ qs))))
goes p l v ps t halted z = absurd (true≢false z)

-- ---- and nothing goes on from a byte refused
stay_act : (p : Phase) (v b : ℕ) → is_stopped p ≡ true → act_of p v b ≡ stay
stay_act Begin v b e = absurd (false≢true e)
stay_act Letter v b e = absurd (false≢true e)
stay_act Lettered v b e = absurd (false≢true e)
stay_act Digit v b e = absurd (false≢true e)
stay_act Number v b e = absurd (false≢true e)
stay_act Point v b e = absurd (false≢true e)
stay_act Halved v b e = absurd (false≢true e)
stay_act (Stopped q) v b e = refl

stays : (at b : ℕ) (r : Reading) → is_stopped r.stand.phase ≡ true → (step at r b).stand ≡ r.stand
stays at b r e = step_as at b r stay (stay_act r.stand.phase r.stand.value b e)

run-stopped : (bs : List ℕ) (at : ℕ) (r : Reading) → is_stopped r.stand.phase ≡ true → is_stopped (run_from bs at r).stand.phase ≡ true
run-stopped [] at r e = e
run-stopped (b ∷ bs) at r e = run-stopped bs (suc at) (step at r b) (ap (λ (y : Stand). is_stopped y.phase) (stays at b r e) ∙ e)

ended-going : (p : Phase) (l : ℕ) → ended p l ≡ true → is_stopped p ≡ true → ⊥
ended-going Begin l e z = false≢true z
ended-going Letter l e z = false≢true z
ended-going Lettered l e z = false≢true z
ended-going Digit l e z = false≢true z
ended-going Number l e z = false≢true z
ended-going Point l e z = false≢true z
ended-going Halved l e z = false≢true z
ended-going (Stopped q) l e z = false≢true e

pub continues_going : (t : List ℕ) → Continues t → is_stopped (run t).stand.phase ≡ true → ⊥
unfolding run
continues_going t c z =
    ended-going (run (text_of c.0)).stand.phase (run (text_of c.0)).stand.left (text-ended c.0)
    (ap (λ (y : List ℕ). is_stopped (run y).stand.phase) (sym c.2)
    ∙ ap (λ (y : Reading). is_stopped y.stand.phase) (run-append t c.1 0 unread)
    ∙ run-stopped c.1 (0 + length t) (run t) z)

-- ---- the place of the byte refused
stop_now : (a : Act) (at p : ℕ) (s : Stand) → is_stopped s.phase ≡ false → (moved a at s).phase ≡ Stopped p → at ≡ p
stop_now (letter b) at p s e z = absurd cc
stop_now space at p s e z = go (eqb s.left 0) z
  where
    go : (t : Bool) → cond t Letter Digit ≡ Stopped p → at ≡ p
    go true y = absurd cc
    go false y = absurd cc
stop_now (first d) at p s e z = absurd cc
stop_now (more d) at p s e z = absurd cc
stop_now point at p s e z = absurd cc
stop_now half at p s e z = absurd cc
stop_now stop at p s e z = cc
stop_now stay at p s e z = absurd (true≢false (ap is_stopped (sym z) ∙ e))

record Stop (s : List ℕ) (i p : ℕ) : Type 0 where
  below : p < i
  before : is_stopped (run (take p s)).stand.phase ≡ false
  after : is_stopped (run (take (suc p) s)).stand.phase ≡ true

none_stopped : (p : ℕ) → (run []).stand.phase ≡ Stopped p → ⊥
unfolding run
none_stopped p z = cc

stop_place : (s : List ℕ) (i p : ℕ) → i ≤ length s → (run (take i s)).stand.phase ≡ Stopped p → Stop s i p
stop_place s zero p h z = absurd (none_stopped p z)
stop_place s (suc i) p h z = go (is_stopped (run (take i s)).stand.phase) refl (λ (y : (run (take i s)).stand.phase ≡ Stopped p). stop_place s i p (omega arith) y)
  where
    e : run (take (suc i) s) ≡ step i (run (take i s)) (get_or s i 0)
    e = read_next s i (omega arith)

    go : (t : Bool) → is_stopped (run (take i s)).stand.phase ≡ t → ((run (take i s)).stand.phase ≡ Stopped p → Stop s i p) → Stop s (suc i) p
    go true y j =
        let k : Stop s i p = j (sym (ap (λ (x : Stand). x.phase) (stays i (get_or s i 0) (run (take i s)) y)) ∙ ap (λ (x : Reading). x.stand.phase) (sym e) ∙ z) in
        record { below = omega (arith, k.below); before = k.before; after = k.after }
    go false y j =
        let k : i ≡ p = stop_now (act (run (take i s)).stand (get_or s i 0)) i p (run (take i s)).stand y (sym (ap (λ (x : Reading). x.stand.phase) e) ∙ z) in
        subst (λ (q : ℕ). Stop s (suc i) q) k (record { below = omega arith; before = y; after = ap is_stopped z })

pub going_on : (t : List ℕ) → is_stopped (run t).stand.phase ≡ false → Continues t
going_on t z = goes (run t).stand.phase (run t).stand.left (run t).stand.value (run t).parts t (read_held t) z

-- ---- 17
broken-stopped : (n : ℕ) (p : Phase) → is_stopped p ≡ true → p ≡ Stopped (broken_at n p)
broken-stopped n Begin e = absurd (false≢true e)
broken-stopped n Letter e = absurd (false≢true e)
broken-stopped n Lettered e = absurd (false≢true e)
broken-stopped n Digit e = absurd (false≢true e)
broken-stopped n Number e = absurd (false≢true e)
broken-stopped n Point e = absurd (false≢true e)
broken-stopped n Halved e = absurd (false≢true e)
broken-stopped n (Stopped q) e = refl

broken-off : (n : ℕ) (p : Phase) → is_stopped p ≡ false → broken_at n p ≡ n
broken-off n Begin e = refl
broken-off n Letter e = refl
broken-off n Lettered e = refl
broken-off n Digit e = refl
broken-off n Number e = refl
broken-off n Point e = refl
broken-off n Halved e = refl
broken-off n (Stopped q) e = absurd (true≢false e)

pub refused_17 : (s : List ℕ) (p : ℕ) → read s ≡ refused (NotProfile p) → Refusal s p
refused_17 s p e = go (is_stopped (run s).stand.phase) refl
  where
    told : (ended (run s).stand.phase (run s).stand.left ≡ false) × (p ≡ broken_at (length s) (run s).stand.phase)
    told = refused-told (length s) (run s).stand (drawn_all (run s).parts) (NotProfile p) (unfold read in e)

    at_stop : Stop s (length s) p → Refusal s p
    at_stop k = record { before = going_on (take p s) k.before; after = inl (k.below, λ (c : Continues (take (suc p) s)). continues_going (take (suc p) s) c k.after) }

    go : (a : Bool) → is_stopped (run s).stand.phase ≡ a → Refusal s p
    go true z =
        let q : (run s).stand.phase ≡ Stopped p = broken-stopped (length s) (run s).stand.phase z ∙ ap Stopped (sym told.1) in
        at_stop (stop_place s (length s) p (omega arith) (subst (λ (y : List ℕ). (run y).stand.phase ≡ Stopped p) (sym (take-length s)) q))
    go false z =
        let q : length s ≡ p = sym (told.1 ∙ broken-off (length s) (run s).stand.phase z) in
        subst (Refusal s) q
        (record {
          before = subst Continues (sym (take-length s)) (going_on s z);
          after = inr (refl, λ (k : IsProfile s). true≢false (sym (subst (λ (x : List ℕ). ended (run x).stand.phase (run x).stand.left ≡ true) k.1 (text-ended k.0)) ∙ told.0));
        })
