-- Bytes stored one after the other. Assumes nothing.
use mathlib.Core.Path.{◌≡◌, refl, sym, ap, ◌∙◌}
use mathlib.Core.List.{List, [], ◌∷◌, ◌++◌}
use Prim.Native.Nat.{ℕ, suc, ◌+◌, ◌≤◌, ◌<◌}
use native.Mathlib.Numerals.{add-one}
use native.Mathlib.Omega.{arith}
use lib.ListN.{length, get_or, take, drop, set, length-append}
use lib.Seq.{sets, sets-eq, set_comm, length-sets, take-suc, length-take-le}
use borrow.Author.Tests.{le-leb, lt-leb}
use Rattle.std.specs.Prelude.{Ok, Err}
use Rattle.refusals.specs.declared.TextRefusal.TheVariants.{ShortBuffer}
use Rattle.path.specs.Writer.{put, IsPut, placed, answered}

-- a text and another after it
pub put-append : (s t l : List ℕ) (i : ℕ) → put l i (s ++ t) ≡ put (put l i s) (i + length s) t
put-append [] t l i = ap (λ (k : ℕ). sets l k t) (omega arith)
put-append (c ∷ s) t l i = put-append s t (set l i c) (suc i) ∙ ap (λ (k : ℕ). sets (sets (set l i c) (suc i) s) k t) (omega arith)

-- a byte stored before
set-put : (t l : List ℕ) (i j c : ℕ) → i < j → set (put l j t) i c ≡ put (set l i c) j t
set-put [] l i j c h = refl
set-put (d ∷ t) l i j c h =
    let n : (j ≡ i → ⊥) = omega arith in
    set-put t (set l j d) i (suc j) c (omega arith) ∙ ap (λ (k : List ℕ). sets k (suc j) t) (set_comm l j i d c n)

pub put-before : (t l : List ℕ) (i c : ℕ) → set (put l (i + 1) t) i c ≡ put l i (c ∷ t)
put-before t l i c = let e : i + 1 ≡ suc i = omega arith in rw e (set-put t l i (suc i) c (omega arith))

-- a byte stored after
pub put-after : (s l : List ℕ) (i c : ℕ) → set (put l i s) (i + length s) c ≡ put l i (s ++ c ∷ [])
put-after s l i c = sym (put-append s (c ∷ []) l i)

-- byte i of a text, after the first i
pub put_next : (t l : List ℕ) (at i : ℕ) → i < length t → set (put l at (take i t)) (at + i) (get_or t i 0) ≡ put l at (take (i + 1) t)
put_next t l at i h =
    let e : at + i ≡ at + length (take i t) = omega (arith, length-take-le i t (omega arith)) in
    ap (λ (z : ℕ). set (put l at (take i t)) z (get_or t i 0)) e
    ∙ put-after (take i t) l at (get_or t i 0)
    ∙ ap (put l at) (sym (take-suc t i 0 h) ∙ ap (λ (z : ℕ). take z t) (sym (add-one i)))

-- what `put` is, where it fits: the bytes before, the text, the bytes after
pub put-parts : (t l : List ℕ) (i : ℕ) → i + length t ≤ length l → put l i t ≡ take i l ++ t ++ drop (i + length t) l
put-parts t l i h = sets-eq t l i h

-- ---- one after the other
pub then : {l b c s t : List ℕ} {at e f : ℕ} → IsPut l at s b e → IsPut b e t c f → IsPut l at (s ++ t) c f
then {l} {b} {c} {s} {t} {at} {e} {f} p q =
    record {
      bytes = q.bytes ∙ ap (λ (k : List ℕ). put k e t) p.bytes ∙ ap (λ (k : ℕ). put (put l at s) k t) p.after ∙ sym (put-append s t l at);
      after = omega (arith, p.after, q.after, length-append s t);
    }

pub put-long : {l c t : List ℕ} {at f : ℕ} → IsPut l at t c f → length c ≡ length l
put-long {l} {c} {t} {at} {f} p = ap length p.bytes ∙ length-sets l at t

-- the same text
pub put_as : {l c s t : List ℕ} {at f : ℕ} → s ≡ t → IsPut l at s c f → IsPut l at t c f
put_as {l} {c} {s} {t} {at} {f} e p = rw e at p

-- ---- the answer of a writer
module _ (l : List ℕ) (at : ℕ) (t : List ℕ) (n : ℕ) (e : n ≡ length t) where
  pub refuses : length l < at + n → (Err (ShortBuffer n) ≡ answered l at t) × (l ≡ placed l at t)
  refuses h = let k : length l < at + length t = omega arith in (rw (lt-leb (at + length t) (length l) k, e), rw (lt-leb (at + length t) (length l) k))

  pub does : (b : List ℕ) → at + n ≤ length l → b ≡ put l at t → (Ok n ≡ answered l at t) × (b ≡ placed l at t)
  does b h q = let k : at + length t ≤ length l = omega arith in (rw (le-leb (at + length t) (length l) k, e), rw (le-leb (at + length t) (length l) k, q))
