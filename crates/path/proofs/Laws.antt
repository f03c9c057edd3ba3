-- What the public promises say beyond their equations, law by law. Assumes nothing.
use mathlib.Core.Path.{◌≡◌, refl, sym, ap, ◌∙◌, subst}
use mathlib.Core.Logic.{◌⊎◌, inl, inr}
use mathlib.Core.Bool.{Bool, true, false, cond, true≢false}
use mathlib.Core.List.{List, [], ◌∷◌, ◌++◌, append_assoc}
use Prim.Native.Nat.{ℕ, suc, ◌+◌, ◌≤◌, ◌<◌}
use native.Mathlib.Omega.{arith}
use borrow.Author.Tests.{le-leb, lt-leb, ltb-true, ltb-false}
use lib.Dec.{leb, ltb}
use lib.ListN.{length, take, drop, take-append-drop}
use lib.Seq.{take-append-le, take-append_seam, drop-append_seam, length-take-le, length-sets}
use Rattle.laws.specs.Lists.{All}
use Rattle.std.specs.Prelude.{None, Err}
use Rattle.refusals.specs.declared.TextRefusal.{TextRefusal}
use Rattle.refusals.specs.declared.TextRefusal.TheVariants.{NotProfile, LargeNumber, NoMove}
use Rattle.grid.specs.declared.SheetRecord.{SheetRecord}
use Rattle.grid.specs.Record.{sound_of}
use Rattle.path.specs.declared.drawn.Drawn.{Drawn}
use Rattle.path.specs.declared.drawn.Drawn.TheVariants.{Move, Line, Cubic, Close}
use Rattle.path.specs.Drawn.{Exactly, ExactAll}
use Rattle.path.specs.Number.{number_text}
use Rattle.path.specs.Text as text
use Rattle.path.specs.Text.{numbers_of, numbers_text, rest_text, text_of, Small, Smalls, Led}
use Rattle.path.specs.Segments.{drawn_of}
use Rattle.path.specs.Profile.{IsProfile, Continues, Refusal, Large, text_before, place_of}
use Rattle.path.specs.Writer.{put}
use Rattle.path.specs.Reader.{Answer, step, unread, run, drawn_all, ended, broken_at, whole_verdict, given, segments, refused, read}
use Rattle.refusals.specs.Refusals.{text_numbers_in}
use Rattle.path.specs.Answers.{sheet_answer, count_of, given_of, written_of, left_of, refusal_of, segment_refusal, text_refusal}
use Rattle.path.specs.Svg.{Command, SvgPath}
use Rattle.path.specs.Meaning.{MeanAll}
use Rattle.path.proofs.Exact.{exact}
use Rattle.path.proofs.Puts.{put-parts}
use Rattle.path.proofs.Readings.{read_held, ended-text, refused-told, read-text}
use Rattle.path.proofs.Writings.{written_read}
use Rattle.path.proofs.Derives.{derives}
use Rattle.path.proofs.Accepts as accepts
use Rattle.path.proofs.Accepts.{run-other}
use Rattle.path.proofs.Sheets.{drawn-led, drawn-smalls}
use Rattle.path.proofs.Fronts.{text-ended}
use Rattle.path.proofs.Fronts as fronts
use Rattle.path.proofs.Larges as larges
use Rattle.path.proofs.Larges.{smalls_not, either}

-- ---- a sheet
module _ (s : SheetRecord) where
  -- its text derives in SVG's grammar, and the derivation's commands are its segments
  pub sheet-derives : (cs : List Command) × SvgPath (text_of (drawn_of s)) cs × MeanAll cs (drawn_of s)
  sheet-derives = derives (drawn_of s) (drawn-led s)

  module _ (e : sound_of s ≡ true) where
    -- its text is read back to the same segments
    pub write_read : read (text_of (drawn_of s)) ≡ segments (drawn_of s)
    write_read = written_read (drawn_of s) (drawn-led s) (drawn-smalls s e)

    -- so a segment of the text is that segment of the sheet
    pub same-segment : (k : ℕ) → given_of k (read (text_of (drawn_of s))) ≡ given_of k (sheet_answer s)
    same-segment k = rw (write_read, e)

-- ---- positions: each number of halves that is handed out is that single-precision number, not rounded
small-exact : (hs : List ℕ) → Small hs → All Exactly hs
small-exact hs text.none = tt
small-exact hs (text.more {h = h} {hs = gs} l r) = (exact h l, small-exact gs r)

smalls-exact : (ds : List Drawn) → Smalls ds → ExactAll ds
smalls-exact ds text.none = tt
smalls-exact xs (text.more {d = d} {ds = ds} h r) = (small-exact (numbers_of d) h, smalls-exact ds r)

pub sheet-exact : (s : SheetRecord) → sound_of s ≡ true → ExactAll (drawn_of s)
sheet-exact s e = smalls-exact (drawn_of s) (drawn-smalls s e)

pub text-exact : (s : List ℕ) (ds : List Drawn) → read s ≡ segments ds → ExactAll ds
text-exact s ds e = smalls-exact ds (accepts.read-smalls s ds e)

-- ---- buffers: the text at the start, and the bytes past it as they were; refused, all as they were
module _ (buf : List ℕ) (ds : List Drawn) where
  pub buffer_fits : length (text_of ds) ≤ length buf → left_of buf (segments ds) ≡ text_of ds ++ drop (length (text_of ds)) buf
  buffer_fits h =
      let z : 0 + length (text_of ds) ≡ length (text_of ds) = omega arith in
      rw (z, le-leb (length (text_of ds)) (length buf) h) (put-parts (text_of ds) buf 0 (omega arith) ∙ ap (λ (k : ℕ). text_of ds ++ drop k buf) z)

  pub buffer_text : length (text_of ds) ≤ length buf → take (length (text_of ds)) (left_of buf (segments ds)) ≡ text_of ds
  buffer_text h = ap (take (length (text_of ds))) (buffer_fits h) ∙ take-append_seam (text_of ds) (drop (length (text_of ds)) buf)

  pub buffer_past : length (text_of ds) ≤ length buf → drop (length (text_of ds)) (left_of buf (segments ds)) ≡ drop (length (text_of ds)) buf
  buffer_past h = ap (drop (length (text_of ds))) (buffer_fits h) ∙ drop-append_seam (text_of ds) (drop (length (text_of ds)) buf)

  pub buffer_short : length buf < length (text_of ds) → left_of buf (segments ds) ≡ buf
  buffer_short h = let z : 0 + length (text_of ds) ≡ length (text_of ds) = omega arith in rw (z, lt-leb (length (text_of ds)) (length buf) h)

-- a buffer is as long as it was
pub left-long : (buf : List ℕ) (a : Answer) → length (left_of buf a) ≡ length buf
left-long buf (refused r) = refl
left-long buf (segments ds) = go (leb (0 + length (text_of ds)) (length buf))
  where
    go : (b : Bool) → length (cond b (put buf 0 (text_of ds)) buf) ≡ length buf
    go true = length-sets buf 0 (text_of ds)
    go false = refl

pub buffer_refused : (buf : List ℕ) (r : TextRefusal) → left_of buf (refused r) ≡ buf
buffer_refused buf r = refl

-- ---- a path text that is read
module _ (s : List ℕ) (ds : List Drawn) (e : read s ≡ segments ds) where
  -- it is the text of its segments, which begin with a move, if there are any, and have no number above the limit
  pub accepted : (text_of ds ≡ s) × Led ds × Smalls ds
  accepted = (read-text s ds e, accepts.read-led s ds e, accepts.read-smalls s ds e)

  -- it derives in SVG's grammar, with the same segments
  pub text-derives : (cs : List Command) × SvgPath s cs × MeanAll cs ds
  text-derives = accepts.read-derives s ds e

  -- it is written again byte for byte
  pub rewritten : (buf : List ℕ) → length s ≤ length buf → left_of buf (read s) ≡ s ++ drop (length s) buf
  rewritten buf h = rw e (subst (λ (t : List ℕ). length t ≤ length buf → left_of buf (segments ds) ≡ t ++ drop (length t) buf) (read-text s ds e) (buffer_fits buf ds) h)

-- and exactly such a text is
pub accepting : (s : List ℕ) (ds : List Drawn) → text_of ds ≡ s → Led ds → Smalls ds → read s ≡ segments ds
accepting s ds e l m = ap read (sym e) ∙ written_read ds l m

-- ---- 17: exactly the texts that are no profile texts
module _ (s : List ℕ) where
  pub no_profile : (p : ℕ) → read s ≡ refused (NotProfile p) → IsProfile s → ⊥
  no_profile p e i =
      let t = refused-told (length s) (run s).stand (drawn_all (run s).parts) (NotProfile p) (unfold read in e) in
      true≢false (sym (subst (λ (x : List ℕ). ended (run x).stand.phase (run x).stand.left ≡ true) i.1 (text-ended i.0)) ∙ t.0)

  pub not_profile : (IsProfile s → ⊥) → (p : ℕ) × (read s ≡ refused (NotProfile p))
  unfolding read
  not_profile n = go (ended (run s).stand.phase (run s).stand.left) refl
    where
      go : (v : Bool) → ended (run s).stand.phase (run s).stand.left ≡ v
          → (p : ℕ) × (given (cond v (whole_verdict (run s).stand.large (run s).stand.other) (Err (NotProfile (broken_at (length s) (run s).stand.phase)))) (drawn_all (run s).parts) ≡ refused (NotProfile p))
      go true z = absurd (n (drawn_all (run s).parts, ended-text (run s).stand.phase (run s).stand.left (run s).stand.value (run s).parts s (read_held s) z))
      go false z = (broken_at (length s) (run s).stand.phase, refl)

  -- in document 01's words, `Refusal`: some profile text continues the first p bytes, and none the first p + 1, or the text breaks off at p
  pub refused_17 : (p : ℕ) → read s ≡ refused (NotProfile p) → Refusal s p
  refused_17 p e = fronts.refused_17 s p e

  shorter : (i j : ℕ) → i ≤ j → j ≤ length s → Continues (take j s) → Continues (take i s)
  shorter i j h k c =
      let e : take i (take j s) ≡ take i s = sym (take-append-le i (take j s) (drop j s) (omega (arith, length-take-le j s k))) ∙ ap (take i) (take-append-drop j s) in
      let r : List ℕ = drop i (take j s) ++ c.1 in
      (c.0, drop i (take j s) ++ c.1, ap (λ (z : List ℕ). z ++ (drop i (take j s) ++ c.1)) (sym e) ∙ sym (append_assoc (take i (take j s)) (drop i (take j s)) c.1) ∙ ap (λ (z : List ℕ). z ++ c.1) (take-append-drop i (take j s)) ∙ c.2)

  refusal-place : (p q : ℕ) → Refusal s p → Refusal s q → p < q → ⊥
  refusal-place p q a b h = go a.after b.after
    where
      go : ((p < length s) × (Continues (take (suc p) s) → ⊥)) ⊎ ((p ≡ length s) × (IsProfile s → ⊥)) → ((q < length s) × (Continues (take (suc q) s) → ⊥)) ⊎ ((q ≡ length s) × (IsProfile s → ⊥)) → ⊥
      go (inl x) (inl y) = x.1 (shorter (suc p) q (omega arith) (omega (arith, y.0)) b.before)
      go (inl x) (inr y) = x.1 (shorter (suc p) q (omega arith) (omega (arith, y.0)) b.before)
      go (inr x) (inl y) = omega (arith, x.0, y.0)
      go (inr x) (inr y) = omega (arith, x.0, y.0)

  same_place : (p q : ℕ) → Refusal s p → Refusal s q → p ≡ q
  same_place p q a b = go (ltb p q) (ltb q p) refl refl
    where
      go : (t u : Bool) → ltb p q ≡ t → ltb q p ≡ u → p ≡ q
      go true u e f = absurd (refusal-place p q a b (ltb-true p q e))
      go false true e f = absurd (refusal-place q p b a (ltb-true q p f))
      go false false e f = let x : q ≤ p = ltb-false p q e in let y : p ≤ q = ltb-false q p f in omega arith

  refusal-none : (p : ℕ) → Refusal s p → IsProfile s → ⊥
  refusal-none p a i = go a.after
    where
      go : ((p < length s) × (Continues (take (suc p) s) → ⊥)) ⊎ ((p ≡ length s) × (IsProfile s → ⊥)) → ⊥
      go (inl x) = x.1 (i.0, drop (suc p) s, take-append-drop (suc p) s ∙ sym i.1)
      go (inr x) = x.1 i

  -- and the other way
  pub refusing_17 : (p : ℕ) → Refusal s p → read s ≡ refused (NotProfile p)
  refusing_17 p a =
      let n : (q : ℕ) × (read s ≡ refused (NotProfile q)) = not_profile (refusal-none p a) in
      n.1 ∙ ap (λ (q : ℕ). refused (NotProfile q)) (same_place n.0 p (refused_17 n.0 n.1) a)

-- ---- 18: exactly the profile texts with a number above the limit; the place is that of the first digit of the first such
pub refused_18 : (s : List ℕ) (p : ℕ) → read s ≡ refused (LargeNumber p) → (ds : List Drawn) × (text_of ds ≡ s) × (l : Large ds) × (p ≡ place_of l)
refused_18 s p e = larges.refused_18 s p e

-- (the place is the length of what stands before that number)
pub large-stands : (ds : List Drawn) (l : Large ds) → text_of ds ≡ text_before l ++ (number_text l.large ++ (numbers_text l.rest ++ rest_text l.late))
large-stands ds l = larges.large-stands ds l

pub refusing_18 : (s : List ℕ) (ds : List Drawn) → text_of ds ≡ s → (l : Large ds) → read s ≡ refused (LargeNumber (place_of l))
refusing_18 s ds e l = ap read (sym e) ∙ larges.large_18 ds l

-- ---- 19: exactly the other profile texts that do not begin with a move
pub refused_19 : (s : List ℕ) → read s ≡ refused NoMove → (ds : List Drawn) × (text_of ds ≡ s) × Smalls ds × (Led ds → ⊥)
refused_19 s e = go (either (drawn_all (run s).parts))
  where
    told : (ended (run s).stand.phase (run s).stand.left ≡ true) × ((run s).stand.large ≡ None) × ((run s).stand.other ≡ true)
    told = refused-told (length s) (run s).stand (drawn_all (run s).parts) NoMove (unfold read in e)

    same : text_of (drawn_all (run s).parts) ≡ s
    same = ended-text (run s).stand.phase (run s).stand.left (run s).stand.value (run s).parts s (read_held s) told.0

    no-large : (q : ℕ) → read s ≡ refused (LargeNumber q) → ⊥
    no-large q i = cc

    no-led : (ds : List Drawn) → read s ≡ segments ds → ⊥
    no-led ds i = cc

    go : Smalls (drawn_all (run s).parts) ⊎ Large (drawn_all (run s).parts) → (ds : List Drawn) × (text_of ds ≡ s) × Smalls ds × (Led ds → ⊥)
    go (inl m) = (drawn_all (run s).parts, same, m, λ (l : Led (drawn_all (run s).parts)). no-led (drawn_all (run s).parts) (accepting s (drawn_all (run s).parts) same l m))
    go (inr l) = absurd (no-large (place_of l) (refusing_18 s (drawn_all (run s).parts) same l))

-- a first letter that is not M
other-first : (ds : List Drawn) → (Led ds → ⊥) → (run (text_of ds)).stand.other ≡ true
unfolding run text_of
other-first [] n = absurd (n text.none)
other-first (Move x y ∷ ds) n = absurd (n text.move)
other-first (Line x y ∷ ds) n = run-other (numbers_text (x ∷ y ∷ []) ++ rest_text ds) 1 (step 0 unread 76) refl
other-first (Cubic a b c d x y ∷ ds) n = run-other (numbers_text (a ∷ b ∷ c ∷ d ∷ x ∷ y ∷ []) ++ rest_text ds) 1 (step 0 unread 67) refl
other-first (Close ∷ ds) n = run-other (rest_text ds) 1 (step 0 unread 90) refl

other_19 : (ds : List Drawn) → Smalls ds → (Led ds → ⊥) → read (text_of ds) ≡ refused NoMove
unfolding read
other_19 ds m n =
    rw (text-ended ds, smalls_not ds m, other-first ds n)

pub refusing_19 : (s : List ℕ) (ds : List Drawn) → text_of ds ≡ s → Smalls ds → (Led ds → ⊥) → read s ≡ refused NoMove
refusing_19 s ds e m n = ap read (sym e) ∙ other_19 ds m n

-- ---- document 01's numbers of the answers, in the order that they are asked
pub count-numbers : (a : Answer) → text_numbers_in (count_of a) ≡ refusal_of a
count-numbers (segments ds) = refl
count-numbers (refused r) = refl

pub segment-numbers : (k : ℕ) (a : Answer) → text_numbers_in (given_of k a) ≡ segment_refusal k a
segment-numbers k (segments ds) = go (ltb k (length ds)) refl
  where
    go : (u : Bool) → ltb k (length ds) ≡ u → text_numbers_in (given_of k (segments ds)) ≡ segment_refusal k (segments ds)
    go true e = rw e
    go false e = rw e
segment-numbers k (refused r) = refl

pub text-numbers : (buf : List ℕ) (a : Answer) → text_numbers_in (written_of buf a) ≡ text_refusal buf a
text-numbers buf (segments ds) = go (leb (length (text_of ds)) (length buf)) refl
  where
    z : 0 + length (text_of ds) ≡ length (text_of ds)
    z = omega arith

    go : (u : Bool) → leb (length (text_of ds)) (length buf) ≡ u → text_numbers_in (written_of buf (segments ds)) ≡ text_refusal buf (segments ds)
    go true e = rw (z, e)
    go false e = rw (z, e)
text-numbers buf (refused r) = refl
