-- What is read is in the profile: no number above the limit, a move first; so a text that is read derives in SVG's grammar. Assumes nothing.
use mathlib.Core.Path.{◌≡◌, refl, sym, ◌∙◌, subst}
use mathlib.Core.Bool.{Bool, true, false, cond, true≢false}
use mathlib.Core.List.{List, [], ◌∷◌, ◌++◌}
use Prim.Native.Nat.{ℕ, suc}
use lib.Dec.{eqb}
use lib.ListN.{length}
use Rattle.path.specs.declared.reader.Phase.TheVariants.{Letter, Digit}
use Rattle.path.specs.declared.reader.Act.{Act}
use Rattle.path.specs.declared.reader.Act.TheVariants.{Letter as letter, Space as space, First as first, More as more, Point as point, Half as half, Stop as stop, Stay as stay}
use Rattle.std.specs.Prelude.{None}
use Rattle.path.specs.declared.reader.Stand.{Stand}
use Rattle.path.specs.declared.drawn.Drawn.{Drawn}
use Rattle.path.specs.declared.drawn.Drawn.TheVariants.{Move, Line, Cubic, Close}
use Rattle.path.specs.Drawn.{InRange}
use Rattle.path.specs.Text as text
use Rattle.path.specs.Text.{numbers_of, numbers_text, rest_text, text_of, Small, Smalls, Led}
use Rattle.path.specs.Reader.{is_begin, ended, act, moved, Part, Reading, step, run_from, unread, run, part_of, drawn_all, segments, read}
use Rattle.path.specs.Svg.{Command, SvgPath}
use Rattle.path.specs.Meaning.{MeanAll}
use Rattle.path.proofs.Readings.{answered-fine, read-text}
use Rattle.path.proofs.Keeps.{SmallParts}
use Rattle.path.proofs.Wholes.{small_all, drawn_range}
use Rattle.path.proofs.Derives.{derives}

-- ---- after the first letter, whether it is M does not change
moved_other : (a : Act) (at : ℕ) (s : Stand) → is_begin s.phase ≡ false → (is_begin (moved a at s).phase ≡ false) × ((moved a at s).other ≡ s.other)
moved_other (letter b) at s e = (refl, rw e)
moved_other space at s e = (go (eqb s.left 0), refl)
  where
    go : (t : Bool) → is_begin (cond t Letter Digit) ≡ false
    go true = refl
    go false = refl
moved_other (first d) at s e = (refl, refl)
moved_other (more d) at s e = (refl, refl)
moved_other point at s e = (refl, refl)
moved_other half at s e = (refl, refl)
moved_other stop at s e = (refl, refl)
moved_other stay at s e = (e, refl)

pub run-other : (bs : List ℕ) (at : ℕ) (r : Reading) → is_begin r.stand.phase ≡ false → (run_from bs at r).stand.other ≡ r.stand.other
run-other [] at r e = refl
run-other (b ∷ bs) at r e =
    run-other bs (suc at) (step at r b) (moved_other (act r.stand b) at r.stand e).0 ∙ (moved_other (act r.stand b) at r.stand e).1

module _ (s : List ℕ) (ds : List Drawn) (e : read s ≡ segments ds) where
  fine : (ended (run s).stand.phase (run s).stand.left ≡ true) × ((run s).stand.large ≡ None) × ((run s).stand.other ≡ false) × (drawn_all (run s).parts ≡ ds)
  fine = unfold read in answered-fine (length s) (run s).stand (drawn_all (run s).parts) ds e

  -- the first segment is a move
  pub read-led : Led ds
  unfolding text_of run
  read-led = go ds (sym (read-text s ds e))
    where
      told : (xs : List Drawn) → s ≡ text_of xs → (run (text_of xs)).stand.other ≡ false
      told xs i = subst (λ (z : List ℕ). (run z).stand.other ≡ false) i fine.2

      go : (xs : List Drawn) → s ≡ text_of xs → Led xs
      go [] i = text.none
      go (Move x y ∷ xs) i = text.move
      go (Line x y ∷ xs) i = absurd (true≢false (sym (run-other (numbers_text (x ∷ y ∷ []) ++ rest_text xs) 1 (step 0 unread 76) refl) ∙ told (Line x y ∷ xs) i))
      go (Cubic a b c d x y ∷ xs) i = absurd (true≢false (sym (run-other (numbers_text (a ∷ b ∷ c ∷ d ∷ x ∷ y ∷ []) ++ rest_text xs) 1 (step 0 unread 67) refl) ∙ told (Cubic a b c d x y ∷ xs) i))
      go (Close ∷ xs) i = absurd (true≢false (sym (run-other (rest_text xs) 1 (step 0 unread 90) refl) ∙ told (Close ∷ xs) i))

range_small : (d : Drawn) → InRange d → Small (numbers_of d)
range_small (Move x y) h = text.more h.0 (text.more h.1 text.none)
range_small (Line x y) h = text.more h.0 (text.more h.1 text.none)
range_small (Cubic a b c d x y) h = text.more h.0 (text.more h.1 (text.more h.2 (text.more h.3 (text.more h.4 (text.more h.5 text.none)))))
range_small Close h = text.none

pub smalls-more : (xs : List Drawn) (d : Drawn) → Smalls xs → Small (numbers_of d) → Smalls (xs ++ d ∷ [])
smalls-more xs d text.none h = text.more h text.none
smalls-more xs d (text.more {ds = ys} s ss) h = text.more s (smalls-more ys d ss h)

drawn-smalls : (ps : List Part) → SmallParts ps → Smalls (drawn_all ps)
drawn-smalls [] h = text.none
drawn-smalls (p ∷ ps) h = smalls-more (drawn_all ps) (part_of p) (drawn-smalls ps h.1) (range_small (part_of p) (drawn_range p.command p.numbers h.0))

module _ (s : List ℕ) (ds : List Drawn) (e : read s ≡ segments ds) where
  -- no number is above the limit
  pub read-smalls : Smalls ds
  read-smalls = subst Smalls (fine s ds e).3 (drawn-smalls (run s).parts (small_all s (fine s ds e).1))

  -- every text that is read derives, and its commands are what is read
  pub read-derives : (cs : List Command) × SvgPath s cs × MeanAll cs ds
  read-derives = subst (λ (z : List ℕ). (cs : List Command) × SvgPath z cs × MeanAll cs ds) (read-text s ds e) (derives ds (read-led s ds e))
