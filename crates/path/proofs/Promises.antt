-- What the records of specs/Promises say, by the laws. Assumes nothing.
use mathlib.Core.Path.{◌≡◌, refl, sym, ap, ◌∙◌, subst}
use mathlib.Core.Bool.{Bool, true, false, cond}
use mathlib.Core.List.{List, ◌++◌}
use Prim.Native.Nat.{ℕ, ◌+◌, ◌≤◌, ◌<◌}
use native.Mathlib.Omega.{arith}
use borrow.Author.Tests.{leb-true, ltb-true}
use lib.Dec.{leb, ltb}
use lib.ListN.{length, get_or, take, drop}
use Rattle.laws.specs.Lists.{All}
use Rattle.graph.proofs.AimLaws.{all_in}
use Rattle.grid.specs.declared.SheetRecord.{SheetRecord}
use Rattle.grid.specs.Record.{sound_of}
use Rattle.std.specs.Prelude.{Result, Ok, Err}
use Rattle.refusals.specs.declared.TextRefusal.{TextRefusal}
use Rattle.refusals.specs.declared.TextRefusal.TheVariants.{TooFar, NotThere, ShortBuffer, NotProfile, LargeNumber, NoMove}
use Rattle.path.specs.declared.drawn.Drawn.{Drawn}
use Rattle.path.specs.declared.drawn.Drawn.TheVariants.{Move}
use Rattle.path.specs.declared.Segment.{Segment}
use Rattle.path.specs.Text.{numbers_of, text_of, Led}
use Rattle.path.specs.Drawn.{segment_of, Exactly, ExactAll}
use Rattle.path.specs.Segments.{drawn_of}
use Rattle.path.specs.Reader.{Answer, segments, refused, run, drawn_all, read}
use Rattle.refusals.specs.Refusals.{text_numbers_in}
use Rattle.path.specs.Answers.{sheet_answer, count_of, given_of, written_of, left_of}
use Rattle.path.specs.Promises.{Draws, SheetText, IsWritten, IsSegment, Judged, accepted, stops, large, unled, IsReading, IsCount, IsRewritten}
use Rattle.path.proofs.Derives.{derives, derives-back}
use Rattle.path.proofs.Unique.{one-reading}
use Rattle.path.proofs.Readings.{Told, refused-told, read-text}
use Rattle.path.proofs.Accepts.{read-led}
use Rattle.path.proofs.Sheets.{drawn-led}
use Rattle.path.proofs.Laws as laws

-- ---- SVG
draws-text : (ds : List Drawn) → Led ds → Draws (text_of ds) ds
draws-text ds l =
    record {
      commands = (derives ds l).0;
      derives = (derives ds l).1;
      means = (derives ds l).2;
      only = λ cs p. sym (one-reading (derives ds l).1 p);
      alone = λ es m. derives-back ds l es m;
    }

-- ---- what is written
done-fits : (buf : List ℕ) (ds : List Drawn) (n : ℕ) → written_of buf (segments ds) ≡ Ok n → (length (text_of ds) ≤ length buf) × (n ≡ length (text_of ds))
done-fits buf ds n e = go (leb (0 + length (text_of ds)) (length buf)) refl e
  where
    go : (c : Bool) → leb (0 + length (text_of ds)) (length buf) ≡ c → cond c (Ok (length (text_of ds))) (Err (ShortBuffer (length (text_of ds)))) ≡ Ok n
        → (length (text_of ds) ≤ length buf) × (n ≡ length (text_of ds))
    go true i j = let m : length (text_of ds) ≡ n = cc in (omega (arith, leb-true (0 + length (text_of ds)) (length buf) i), sym m)
    go false i j = absurd cc

written-text : (buf : List ℕ) (ds : List Drawn) (n : ℕ) → written_of buf (segments ds) ≡ Ok n → take n (left_of buf (segments ds)) ≡ text_of ds
written-text buf ds n e =
    let f = done-fits buf ds n e in
    ap (λ (k : ℕ). take k (left_of buf (segments ds))) f.1 ∙ laws.buffer_text buf ds f.0

-- ---- a path text
module _ (s : List ℕ) where
  refused-judged : (r : TextRefusal) → read s ≡ refused r → Told (length s) (run s).stand r → Judged s (refused r)
  refused-judged TooFar e t = absurd t
  refused-judged NotThere e t = absurd t
  refused-judged (ShortBuffer n) e t = absurd t
  refused-judged (NotProfile p) e t = stops (laws.refused_17 s p e)
  refused-judged (LargeNumber p) e t =
      let l = laws.refused_18 s p e in
      subst (λ (q : ℕ). Judged s (refused (LargeNumber q))) (sym l.3) (large l.1 l.2)
  refused-judged NoMove e t =
      let l = laws.refused_19 s e in
      unled l.1 l.2 l.3

  pub read-judged : Judged s (read s)
  read-judged = go (read s) refl
    where
      go : (a : Answer) → read s ≡ a → Judged s a
      go (segments ds) e = let h = laws.accepted s ds e in accepted (record { text = h.0; led = h.1; small = h.2 })
      go (refused r) e = refused-judged r e (refused-told (length s) (run s).stand (drawn_all (run s).parts) r (unfold read in e))

  judged-read : (a : Answer) → Judged s a → a ≡ read s
  judged-read a (accepted {ds = ds} h) = sym (laws.accepting s ds h.text h.led h.small)
  judged-read a (stops {p = p} h) = sym (laws.refusing_17 s p h)
  judged-read a (large {ds = ds} e l) = sym (laws.refusing_18 s ds e l)
  judged-read a (unled {ds = ds} e m n) = sym (laws.refusing_19 s ds e m n)

  pub reading : IsReading s
  reading =
      record {
        judged = read-judged;
        only = judged-read;
        draws = λ ds e. subst (λ (t : List ℕ). Draws t ds) (read-text s ds e) (draws-text ds (read-led s ds e));
      }

  pub is-count : (r : Result ℕ TextRefusal) → r ≡ count_of (read s) → IsCount s r
  is-count r e = record { whole = e; refused = ap text_numbers_in e ∙ laws.count-numbers (read s) }

  same_bytes : (buf : List ℕ) (n : ℕ) → written_of buf (read s) ≡ Ok n → (n ≡ length s) × (left_of buf (read s) ≡ s ++ drop n buf)
  same_bytes buf n e = go (read s) refl
    where
      go : (a : Answer) → read s ≡ a → (n ≡ length s) × (left_of buf (read s) ≡ s ++ drop n buf)
      go (segments ds) i =
          let f = done-fits buf ds n (ap (λ (z : Answer). written_of buf z) (sym i) ∙ e) in
          let t : length (text_of ds) ≡ length s = ap length (read-text s ds i) in
          let m : n ≡ length s = f.1 ∙ t in
          (m, laws.rewritten s ds i buf (omega (arith, f.0)) ∙ ap (λ (k : ℕ). s ++ drop k buf) (sym m))
      go (refused r) i = let z : ◌≡◌ {A = Result ℕ TextRefusal} (Err r) (Ok n) = ap (λ (z : Answer). written_of buf z) (sym i) ∙ e in absurd cc

  pub is-rewritten : (buf : List ℕ) (r : Result ℕ TextRefusal) (out : List ℕ) → (r ≡ written_of buf (read s)) × (out ≡ left_of buf (read s)) → IsRewritten s buf r out
  is-rewritten buf r out p =
      record {
        whole = p.0;
        bytes = p.1;
        refused = ap text_numbers_in p.0 ∙ laws.text-numbers buf (read s);
        same = λ n e. let b = same_bytes buf n (sym p.0 ∙ e) in (b.0, p.1 ∙ b.1);
      }

-- ---- the text of a sheet
sheet-text : (s : SheetRecord) → sound_of s ≡ true → SheetText s (text_of (drawn_of s))
sheet-text s e =
    let a : sheet_answer s ≡ segments (drawn_of s) = rw e in
    record { draws = draws-text (drawn_of s) (drawn-led s); reads = laws.write_read s e ∙ sym a }

written-sheet : (s : SheetRecord) (buf : List ℕ) (n : ℕ) → written_of buf (sheet_answer s) ≡ Ok n → SheetText s (take n (left_of buf (sheet_answer s)))
written-sheet s buf n e = go (sound_of s) refl
  where
    go : (b : Bool) → sound_of s ≡ b → SheetText s (take n (left_of buf (sheet_answer s)))
    go true i =
        let a : sheet_answer s ≡ segments (drawn_of s) = rw i in
        let w : written_of buf (segments (drawn_of s)) ≡ Ok n = ap (λ (z : Answer). written_of buf z) (sym a) ∙ e in
        subst (SheetText s) (sym (ap (λ (z : Answer). take n (left_of buf z)) a ∙ written-text buf (drawn_of s) n w)) (sheet-text s i)
    go false i =
        let a : sheet_answer s ≡ refused TooFar = rw i in
        let z : ◌≡◌ {A = Result ℕ TextRefusal} (Err TooFar) (Ok n) = ap (λ (z : Answer). written_of buf z) (sym a) ∙ e in
        absurd cc

pub is-written : (s : SheetRecord) (buf : List ℕ) (r : Result ℕ TextRefusal) (out : List ℕ) → (r ≡ written_of buf (sheet_answer s)) × (out ≡ left_of buf (sheet_answer s)) → IsWritten s buf r out
is-written s buf r out p =
    record {
      whole = p.0;
      bytes = p.1;
      refused = ap text_numbers_in p.0 ∙ laws.text-numbers buf (sheet_answer s);
      text = λ n e. subst (λ (z : List ℕ). SheetText s (take n z)) (sym p.1) (written-sheet s buf n (sym p.0 ∙ e));
    }

-- ---- a segment
drawn-is : (k : ℕ) (ds : List Drawn) (g : Segment) → given_of k (segments ds) ≡ Ok g → (k < length ds) × (g ≡ segment_of (get_or ds k (Move 0 0)))
drawn-is k ds g e = go (ltb k (length ds)) refl e
  where
    go : (c : Bool) → ltb k (length ds) ≡ c → cond c (Ok (segment_of (get_or ds k (Move 0 0)))) (Err NotThere) ≡ Ok g
        → (k < length ds) × (g ≡ segment_of (get_or ds k (Move 0 0)))
    go true i j = let m : segment_of (get_or ds k (Move 0 0)) ≡ g = cc in (ltb-true k (length ds) i, sym m)
    go false i j = absurd cc

is-segment : (k : ℕ) (a : Answer) → ((ds : List Drawn) → a ≡ segments ds → ExactAll ds) → (r : Result Segment TextRefusal) → r ≡ given_of k a → IsSegment k a r
is-segment k a h r e =
    record {
      whole = e;
      refused = ap text_numbers_in e ∙ laws.segment-numbers k a;
      exact = λ ds g i q.
          let d = drawn-is k ds g (ap (λ (z : Answer). given_of k z) (sym i) ∙ sym e ∙ q) in
          (d.1, all_in (λ (u : Drawn). All Exactly (numbers_of u)) ds k (Move 0 0) d.0 (h ds i));
    }

pub is-sheet-segment : (s : SheetRecord) (k : ℕ) (r : Result Segment TextRefusal) → r ≡ given_of k (sheet_answer s) → IsSegment k (sheet_answer s) r
is-sheet-segment s k r e = is-segment k (sheet_answer s) (λ ds i. exact-by ds (sound_of s) refl i) r e
  where
    exact-by : (ds : List Drawn) (b : Bool) → sound_of s ≡ b → sheet_answer s ≡ segments ds → ExactAll ds
    exact-by ds true o i = let d : drawn_of s ≡ ds = cc in subst ExactAll d (laws.sheet-exact s o)
    exact-by ds false o i = absurd cc

pub is-text-segment : (s : List ℕ) (k : ℕ) (r : Result Segment TextRefusal) → r ≡ given_of k (read s) → IsSegment k (read s) r
is-text-segment s k r e = is-segment k (read s) (λ ds i. laws.text-exact s ds i) r e
