-- A pass over a whole text, and what it says of `read`. Assumes nothing.
use mathlib.Core.Path.{◌≡◌, refl, sym, ap, ◌∙◌, subst}
use mathlib.Core.Bool.{Bool, true, false, cond}
use mathlib.Core.List.{List, [], ◌∷◌, ◌++◌}
use Prim.Native.Nat.{ℕ, zero, suc, ◌+◌, ◌≤◌, ◌<◌}
use native.Mathlib.Omega.{arith}
use borrow.Author.Tests.{eqb-true, eqb-false}
use lib.Dec.{eqb}
use lib.ListN.{length, get_or, take, length-append, get_or-append}
use lib.Seq.{take-suc, take-length, length-take-le, get_or_at}
use Rattle.std.specs.Prelude.{Some, None, Result, Ok}
use Rattle.refusals.specs.declared.TextRefusal.{TextRefusal}
use Rattle.path.specs.declared.reader.Command.{Command}
use Rattle.path.specs.declared.reader.Stand.{Stand}
use Rattle.path.specs.declared.pass.Pass.{Pass}
use Rattle.path.specs.declared.drawn.Drawn.{Drawn}
use Rattle.path.specs.declared.drawn.Drawn.TheVariants.{Move}
use Rattle.path.specs.Number.{limit_halves}
use Rattle.path.specs.Drawn.{InRange}
use Rattle.path.specs.Reader.{Part, Reading, step, run_from, unread, run, verdict_of, given, drawn_from, part_of, drawn_all, read, act, moved, gained}
use Rattle.path.specs.code.Pass.{six_of, pass_to, passed, begins, kept_of, drawn_kept}
use Rattle.path.proofs.Readings.{Holds, read_held, fine-told}
use Rattle.path.proofs.Writings.{run-append}
use Rattle.path.proofs.Keeps.{nth, kept_for, AllSmall, SmallParts, Keeps, step_keeps}

-- ---- the reader after i + 1 bytes
pub read_next : (s : List ℕ) (i : ℕ) → i < length s → run (take (suc i) s) ≡ step i (run (take i s)) (get_or s i 0)
unfolding run
read_next s i h =
    let e : 0 + length (take i s) ≡ i = omega (arith, length-take-le i s (omega arith)) in
    ap (λ (z : List ℕ). run_from z 0 unread) (take-suc s i 0 h)
    ∙ run-append (take i s) (get_or s i 0 ∷ []) 0 unread
    ∙ ap (λ (z : ℕ). step z (run_from (take i s) 0 unread) (get_or s i 0)) e

-- ---- the pass keeps to it
record Along (k : ℕ) (s : List ℕ) (r : Reading) (m : Pass) : Type 0 where
  same : m.stand ≡ r.stand
  keeps : Keeps k r.stand r.parts m.count m.kept

along-next : (k : ℕ) (s t : List ℕ) (i c : ℕ) (r : Reading) (m : Pass) → Holds r t → Along k s r m → Along k s (step i r c) (passed k (act m.stand c) i m)
along-next k s t i c r m h a =
    record {
      same = ap (λ (z : Stand). moved (act z c) i z) a.same;
      keeps =
          subst (λ (z : Stand). Keeps k (moved (act r.stand c) i r.stand) (gained (act r.stand c) r.parts) (m.count + begins (act z c))
          (cond (eqb (m.count + begins (act z c)) (k + 1)) (kept_of (act z c) (moved (act z c) i z).value m.kept) m.kept)) (sym a.same)
          (step_keeps r.stand.phase r.stand.left r.stand.value r.stand.begun r.stand.large r.stand.other r.parts t k i m.count m.kept c h a.keeps);
    }

along : (k : ℕ) (s : List ℕ) (i : ℕ) → i ≤ length s → Along k s (run (take i s)) (pass_to k s i)
unfolding pass_to run
along k s zero h = record { same = refl; keeps = record { counted = refl; kept = λ e. refl; doubled = λ e. tt; small = λ e. tt } }
along k s (suc i) h =
    subst (λ (r : Reading). Along k s r (pass_to k s (suc i))) (sym (read_next s i (omega arith)))
    (along-next k s (take i s) i (get_or s i 0) (run (take i s)) (pass_to k s i) (read_held (take i s)) (along k s i (omega arith)))

along-all : (k : ℕ) (s : List ℕ) → Along k s (run s) (pass_to k s (length s))
along-all k s = subst (λ (z : List ℕ). Along k s (run z) (pass_to k s (length s))) (take-length s) (along k s (length s) (omega arith))

-- ---- the parts as segments
length-drawn : (ps : List Part) → length (drawn_all ps) ≡ length ps
length-drawn [] = refl
length-drawn (p ∷ ps) = omega (arith, length-append (drawn_all ps) (part_of p ∷ []), length-drawn ps)

-- six numbers are enough
six-drawn : (c : Command) (hs : List ℕ) → drawn_from c hs ≡ drawn_from c (six_of hs)
six-drawn Command.Move hs = refl
six-drawn Command.Line hs = refl
six-drawn Command.Cubic hs = refl
six-drawn Command.Close hs = refl

nth-drawn : (ps : List Part) (k : ℕ) (d : Drawn) → k < length ps → get_or (drawn_all ps) k d ≡ drawn_kept (kept_for (nth k ps))
nth-drawn [] k d h = absurd (omega arith)
nth-drawn (p ∷ ps) k d h = go (eqb (length ps) k) refl (λ (z : k < length ps). nth-drawn ps k d z)
  where
    go : (t : Bool) → eqb (length ps) k ≡ t → (k < length ps → get_or (drawn_all ps) k d ≡ drawn_kept (kept_for (nth k ps))) → get_or (drawn_all ps ++ part_of p ∷ []) k d ≡ drawn_kept (kept_for (nth k (p ∷ ps)))
    go true e i = rw e (get_or_at (drawn_all ps) (part_of p) [] d k (length-drawn ps ∙ eqb-true (length ps) k e) ∙ six-drawn p.command p.numbers)
    go false e i =
        let n : (length ps ≡ k → ⊥) = eqb-false (length ps) k e in
        rw e (get_or-append (drawn_all ps) (part_of p ∷ []) d k (omega (arith, length-drawn ps)) ∙ i (omega arith))

get_d_small : (hs : List ℕ) (i : ℕ) → AllSmall hs → get_or hs i 0 ≤ limit_halves
get_d_small [] i h = omega arith
get_d_small (x ∷ hs) zero h = h.0
get_d_small (x ∷ hs) (suc i) h = get_d_small hs i h.1

pub drawn_range : (c : Command) (hs : List ℕ) → AllSmall hs → InRange (drawn_from c hs)
drawn_range c hs h = go c
  where
    at : (i : ℕ) → get_or hs i 0 ≤ limit_halves
    at i = get_d_small hs i h

    go : (c : Command) → InRange (drawn_from c hs)
    go Command.Move = (at 1, at 0)
    go Command.Line = (at 1, at 0)
    go Command.Cubic = (at 5, at 4, at 3, at 2, at 1, at 0)
    go Command.Close = tt

nth_range : (ps : List Part) (k : ℕ) → SmallParts ps → InRange (drawn_kept (kept_for (nth k ps)))
nth_range [] k h = tt
nth_range (p ∷ ps) k h = go (eqb (length ps) k) (nth_range ps k h.1)
  where
    go : (t : Bool) → InRange (drawn_kept (kept_for (nth k ps))) → InRange (drawn_kept (kept_for (cond t (Some p) (nth k ps))))
    go true i = subst InRange (six-drawn p.command p.numbers) (drawn_range p.command p.numbers h.0)
    go false i = i

-- ---- the verdict
module _ (k : ℕ) (s : List ℕ) (m : Pass) (v : Result (Unit {0}) TextRefusal) (e : m ≡ pass_to k s (length s)) (f : v ≡ verdict_of (length s) m.stand) where
  same-stand : m.stand ≡ (run s).stand
  same-stand = ap (λ (z : Pass). z.stand) e ∙ (along-all k s).same

  keeps-all : Keeps k (run s).stand (run s).parts m.count m.kept
  keeps-all = rw e (along-all k s).keeps

  -- what is read is what the verdict says
  pub read-given : read s ≡ given v (drawn_all (run s).parts)
  unfolding read
  read-given = ap (λ (z : Result (Unit {0}) TextRefusal). given z (drawn_all (run s).parts)) (sym (f ∙ ap (verdict_of (length s)) same-stand))

  pub count-given : m.count ≡ length (drawn_all (run s).parts)
  count-given = keeps-all.counted ∙ sym (length-drawn (run s).parts)

  module _ (fine : v ≡ Ok tt) where
    not_over : (run s).stand.large ≡ None
    not_over = (fine-told (length s) (run s).stand (sym (f ∙ ap (verdict_of (length s)) same-stand) ∙ fine)).1

    pub kept-given : k < m.count → drawn_kept m.kept ≡ get_or (drawn_all (run s).parts) k (Move 0 0)
    kept-given h = rw (keeps-all.kept not_over) (sym (nth-drawn (run s).parts k (Move 0 0) (omega (arith, keeps-all.counted))))

    pub range_given : InRange (drawn_kept m.kept)
    range_given = rw (keeps-all.kept not_over) (nth_range (run s).parts k (keeps-all.small not_over))

-- no number of what is read is above the limit, where none was marked
pub small_all : (s : List ℕ) → (run s).stand.large ≡ None → SmallParts (run s).parts
small_all s e = (along-all 0 s).keeps.small e
