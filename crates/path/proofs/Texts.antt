-- The answers of the operations on a path text, from the verdict and what the pass kept. Assumes nothing.
use mathlib.Core.Path.{◌≡◌, refl, sym, ap, ◌∙◌}
use mathlib.Core.List.{List}
use Prim.Native.Nat.{ℕ, ◌+◌, ◌≤◌, ◌<◌}
use native.Mathlib.Omega.{arith}
use native.Mathlib.Nat.{zero-add}
use borrow.Author.Tests.{lt-ltb, le-ltb}
use lib.ListN.{length, get_or, set, take}
use Rattle.std.specs.Prelude.{Result, Ok, Err}
use Rattle.refusals.specs.declared.TextRefusal.{TextRefusal}
use Rattle.refusals.specs.declared.TextRefusal.TheVariants.{NotThere, ShortBuffer}
use Rattle.path.specs.declared.pass.Pass.{Pass}
use Rattle.path.specs.declared.drawn.Drawn.{Drawn}
use Rattle.path.specs.declared.Segment.{Segment}
use Rattle.path.specs.Drawn.{InRange, segment_of}
use Rattle.path.specs.Text.{text_of}
use Rattle.path.specs.Reader.{run, verdict_of, given, drawn_all, segments, refused, read}
use Rattle.path.specs.code.Pass.{pass_to, drawn_kept}
use Rattle.path.specs.Writer.{put}
use Rattle.path.specs.Answers.{count_of, given_of, written_of, left_of}
use Rattle.path.proofs.Readings.{read-text}
use Rattle.path.proofs.Puts.{put_next, refuses, does}
use Rattle.path.proofs.Wholes.{read-given, count-given, kept-given, range_given}

module _ (k : ℕ) (s : List ℕ) (m : Pass) (v : Result (Unit {0}) TextRefusal) (e : m ≡ pass_to k s (length s)) (f : v ≡ verdict_of (length s) m.stand) where
  module _ (t : TextRefusal) (r : v ≡ Err t) where
    read-refused : read s ≡ refused t
    read-refused = read-given k s m v e f ∙ ap (λ (z : Result (Unit {0}) TextRefusal). given z (drawn_all (run s).parts)) r

    pub count-refused : Err t ≡ count_of (read s)
    count-refused = rw read-refused

    pub given-refused : Err t ≡ given_of k (read s)
    given-refused = rw read-refused

    pub again-refused : (buf : List ℕ) → (Err t ≡ written_of buf (read s)) × (buf ≡ left_of buf (read s))
    again-refused buf = (rw read-refused, rw read-refused)

  module _ (r : v ≡ Ok tt) where
    read-fine : read s ≡ segments (drawn_all (run s).parts)
    read-fine = read-given k s m v e f ∙ ap (λ (z : Result (Unit {0}) TextRefusal). given z (drawn_all (run s).parts)) r

    pub count-fine : Ok m.count ≡ count_of (read s)
    count-fine = rw (read-fine, count-given k s m v e f)

    pub given-none : m.count ≤ k → Err NotThere ≡ given_of k (read s)
    given-none h = let l : length (drawn_all (run s).parts) ≤ k = omega (arith, count-given k s m v e f) in rw (read-fine, le-ltb k (length (drawn_all (run s).parts)) l)

    pub given-some : k < m.count → (d : Drawn) (g : Segment) → d ≡ drawn_kept m.kept → g ≡ segment_of d → Ok g ≡ given_of k (read s)
    given-some h d g i j =
        let l : k < length (drawn_all (run s).parts) = omega (arith, count-given k s m v e f) in
        rw (read-fine, lt-ltb k (length (drawn_all (run s).parts)) l)
        (ap Ok (j ∙ ap segment_of (i ∙ kept-given k s m v e f r h)))

    pub given_range : (d : Drawn) → d ≡ drawn_kept m.kept → InRange d
    given_range d i = rw i (range_given k s m v e f r)

    same_text : text_of (drawn_all (run s).parts) ≡ s
    same_text = read-text s (drawn_all (run s).parts) read-fine

    pub again-short : (buf : List ℕ) → length buf < length s → (Err (ShortBuffer (length s)) ≡ written_of buf (read s)) × (buf ≡ left_of buf (read s))
    again-short buf h = rw (read-fine, same_text) (refuses buf 0 s (length s) refl (omega arith))

    pub again-done : (buf b : List ℕ) → length s ≤ length buf → b ≡ put buf 0 s → (Ok (length s) ≡ written_of buf (read s)) × (b ≡ left_of buf (read s))
    again-done buf b h q = rw (read-fine, same_text) (does buf 0 s (length s) refl b (omega arith) q)

-- ---- a copy, byte by byte
pub copy_next : (s buf : List ℕ) (i : ℕ) → i < length s → set (put buf 0 (take i s)) i (get_or s i 0) ≡ put buf 0 (take (i + 1) s)
copy_next s buf i h = ap (λ (z : ℕ). set (put buf 0 (take i s)) z (get_or s i 0)) (sym (zero-add i)) ∙ put_next s buf 0 i h
