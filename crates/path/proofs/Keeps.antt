-- What the pass keeps is what the reader has read: the count of segments, and segment k, as long as no number was too large. Assumes nothing.
use mathlib.Core.Path.{◌≡◌, refl, sym, ap, ◌∙◌}
use mathlib.Core.Bool.{Bool, true, false, cond, not, ◌&&◌}
use mathlib.Core.List.{List, [], ◌∷◌}
use Prim.Native.Nat.{ℕ, suc, ◌+◌, ◌-◌, ◌*◌, ◌≤◌, ◌<◌}
use native.Mathlib.Omega.{arith}
use borrow.Author.Tests.{eqb-true, eqb-false, eq-eqb, ne_eqb, leb-false, ltb-false, le-leb}
use lib.Dec.{eqb, leb, ltb}
use lib.ListN.{length, get_or}
use Rattle.std.specs.Prelude.{Option, Some, None}
use Rattle.path.specs.declared.reader.Phase.{Phase}
use Rattle.path.specs.declared.reader.Phase.TheVariants.{Begin, Letter, Lettered, Digit, Number, Point, Halved, Stopped}
use Rattle.path.specs.declared.reader.Command.{Command}
use Rattle.path.specs.declared.reader.Act.{Act}
use Rattle.path.specs.declared.reader.Act.TheVariants.{Letter as letter, Space as space, First as first, More as more, Point as point, Half as half, Stop as stop}
use Rattle.path.specs.declared.reader.Stand.{Stand}
use Rattle.path.specs.declared.pass.Kept.{Kept}
use Rattle.path.specs.Number.{limit, limit_halves}
use Rattle.path.specs.Reader.{is_digit, on_space, on_letter, act_of, grown, first_large, moved, gained, Part}
use Rattle.path.specs.code.Pass.{six_of, kept_of, begins}
use Rattle.path.proofs.Readings.{choose, by-letter, digit-small, part, stand_by, Held, held, halted, begin, after_segment, after_letter, after_space, in_number, after_point, after_half}

-- the part with k parts before it, if there are more than k
abbrev pub nth : ℕ → List Part → Option Part
nth k [] = None
nth k (p ∷ ps) = cond (eqb (length ps) k) (Some p) (nth k ps)

abbrev pub kept_for : Option Part → Kept
kept_for None = record { command = None; numbers = six_of [] }
kept_for (Some p) = record { command = Some p.command; numbers = six_of p.numbers }

abbrev pub AllSmall : List ℕ → Type 0
AllSmall [] = Unit {0}
AllSmall (h ∷ hs) = (h ≤ limit_halves) × AllSmall hs

abbrev pub SmallParts : List Part → Type 0
SmallParts [] = Unit {0}
SmallParts (p ∷ ps) = AllSmall p.numbers × SmallParts ps

-- in a number, its halves are twice its whole part
abbrev newest : List Part → ℕ
newest [] = 0
newest (p ∷ ps) = get_or p.numbers 0 0

abbrev Doubled : Phase → ℕ → List Part → Type 0
Doubled Begin v ps = Unit {0}
Doubled Letter v ps = Unit {0}
Doubled Lettered v ps = Unit {0}
Doubled Digit v ps = Unit {0}
Doubled Number v ps = newest ps ≡ 2 * v
Doubled Point v ps = newest ps ≡ 2 * v
Doubled Halved v ps = Unit {0}
Doubled (Stopped q) v ps = Unit {0}

pub record Keeps (k : ℕ) (s : Stand) (ps : List Part) (n : ℕ) (kk : Kept) : Type 0 where
  pub counted : n ≡ length ps
  pub kept : s.large ≡ None → kk ≡ kept_for (nth k ps)
  pub doubled : s.large ≡ None → Doubled s.phase s.value ps
  pub small : s.large ≡ None → SmallParts ps

-- ---- the k-th part
past : (k : ℕ) (ps : List Part) → length ps ≤ k → nth k ps ≡ None
past k [] h = refl
past k (p ∷ ps) h = let n : (length ps ≡ k → ⊥) = omega arith in rw (ne_eqb (length ps) k n) (past k ps (omega arith))

module _ (k n : ℕ) (b : Command) (hs gs : List ℕ) (ps : List Part) (kk jj : Kept) (c : n ≡ suc (length ps)) (e : kk ≡ kept_for (nth k (part b hs ∷ ps)))
    (j : kk ≡ kept_for (Some (part b hs)) → jj ≡ kept_for (Some (part b gs))) where
  -- the numbers of the last part change
  head-kept : cond (eqb (n + 0) (k + 1)) jj kk ≡ kept_for (nth k (part b gs ∷ ps))
  head-kept = go (eqb (length ps) k) refl
    where
      go : (t : Bool) → eqb (length ps) k ≡ t → cond (eqb (n + 0) (k + 1)) jj kk ≡ kept_for (nth k (part b gs ∷ ps))
      go true z =
          let i : length ps ≡ k = eqb-true (length ps) k z in
          let m : n + 0 ≡ k + 1 = omega arith in
          rw (eq-eqb (n + 0) (k + 1) m, z) (j (e ∙ rw z))
      go false z =
          let i : (length ps ≡ k → ⊥) = eqb-false (length ps) k z in
          let m : (n + 0 ≡ k + 1 → ⊥) = omega arith in
          rw (ne_eqb (n + 0) (k + 1) m, z) (e ∙ rw z)

letter-kept : (k n : ℕ) (b : Command) (ps : List Part) (kk : Kept) → n ≡ length ps → kk ≡ kept_for (nth k ps)
    → cond (eqb (n + 1) (k + 1)) (record { command = Some b; numbers = kk.numbers }) kk ≡ kept_for (nth k (part b [] ∷ ps))
letter-kept k n b ps kk c e = go (eqb (length ps) k) refl
  where
    go : (t : Bool) → eqb (length ps) k ≡ t → cond (eqb (n + 1) (k + 1)) (record { command = Some b; numbers = kk.numbers }) kk ≡ kept_for (nth k (part b [] ∷ ps))
    go true z =
        let i : length ps ≡ k = eqb-true (length ps) k z in
        let m : n + 1 ≡ k + 1 = omega arith in
        rw (eq-eqb (n + 1) (k + 1) m, z, e, past k ps (omega arith))
    go false z =
        let i : (length ps ≡ k → ⊥) = eqb-false (length ps) k z in
        let m : (n + 1 ≡ k + 1 → ⊥) = omega arith in
        rw (ne_eqb (n + 1) (k + 1) m, z, e)

same_kept : (t : Bool) (kk : Kept) → cond t kk kk ≡ kk
same_kept true kk = refl
same_kept false kk = refl

-- ---- a number that is not marked
not-first : (too : Bool) (at : ℕ) (o : Option ℕ) → first_large too at o ≡ None → (too ≡ false) × (o ≡ None)
not-first too at (Some p) e = absurd cc
not-first true at None e = absurd cc
not-first false at None e = (refl, refl)

abbrev pub Next : ℕ → Stand → List Part → ℕ → ℕ → Kept → Act → Type 0
Next k s ps at n kk a = Keeps k (moved a at s) (gained a ps) (n + begins a) (cond (eqb (n + begins a) (k + 1)) (kept_of a (moved a at s).value kk) kk)

module _ (k : ℕ) (s : Stand) (at n : ℕ) (kk : Kept) where
  -- nothing is read, and the phase is none in a number
  still : (p : Phase) (ps : List Part) (x : Keeps k s ps n kk) (r : Stand) → r.large ≡ s.large → (s.large ≡ None → Doubled r.phase r.value ps) → Keeps k r ps (n + 0) (cond (eqb (n + 0) (k + 1)) kk kk)
  still p ps x r o d =
      record {
        counted = omega (arith, x.counted);
        kept = λ (e : r.large ≡ None). same_kept (eqb (n + 0) (k + 1)) kk ∙ x.kept (sym o ∙ e);
        doubled = λ (e : r.large ≡ None). d (sym o ∙ e);
        small = λ (e : r.large ≡ None). x.small (sym o ∙ e);
      }

  stopped : (ps : List Part) → Keeps k s ps n kk → Next k s ps at n kk stop
  stopped ps x = still (Stopped at) ps x (moved stop at s) refl (λ e. tt)

  spaced : (ps : List Part) → Keeps k s ps n kk → Next k s ps at n kk space
  spaced ps x = still Letter ps x (moved space at s) refl (λ e. go (eqb s.left 0))
    where
      go : (t : Bool) → Doubled (cond t Letter Digit) s.value ps
      go true = tt
      go false = tt

  lettered : (b : Command) (ps : List Part) → Keeps k s ps n kk → Next k s ps at n kk (letter b)
  lettered b ps x =
      record {
        counted = omega (arith, x.counted);
        kept = λ (e : s.large ≡ None). letter-kept k n b ps kk x.counted (x.kept e);
        doubled = λ e. tt;
        small = λ (e : s.large ≡ None). (tt, x.small e);
      }

  begun : (d : ℕ) (b : Command) (hs : List ℕ) (ps : List Part) → d < 10 → Keeps k s (part b hs ∷ ps) n kk → Next k s (part b hs ∷ ps) at n kk (first d)
  begun d b hs ps h x =
      record {
        counted = omega (arith, x.counted);
        kept = λ (e : s.large ≡ None). head-kept k n b hs (2 * d ∷ hs) ps kk (kept_of (first d) d kk) x.counted (x.kept e) (λ (z : kk ≡ kept_for (Some (part b hs))). rw z);
        doubled = λ e. refl;
        small = λ (e : s.large ≡ None). ((omega arith, (x.small e).0), (x.small e).1);
      }

head_small : (b : Command) (h : ℕ) (hs : List ℕ) (ps : List Part) → SmallParts (part b (h ∷ hs) ∷ ps) → h ≤ limit_halves
head_small b h hs ps y = y.0.0

new-small : (b : Command) (h g : ℕ) (hs : List ℕ) (ps : List Part) → g ≤ limit_halves → SmallParts (part b (h ∷ hs) ∷ ps) → SmallParts (part b (g ∷ hs) ∷ ps)
new-small b h g hs ps l y = ((l, y.0.1), y.1)

module _ (k : ℕ) (s : Stand) (at n : ℕ) (kk : Kept) (b : Command) (h : ℕ) (hs : List ℕ) (ps : List Part) (x : Keeps k s (part b (h ∷ hs) ∷ ps) n kk) (w : s.large ≡ None → h ≡ 2 * s.value) where
  -- one more digit of a number that is not too large
  grown-is : (d : ℕ) → s.large ≡ None → (grown s.value d ≡ 10 * s.value + d) × (10 * h + 2 * d ≡ 2 * (10 * s.value + d))
  grown-is d e =
      let l : s.value ≤ limit = omega (arith, head_small b h hs ps (x.small e), w e) in
      (rw (le-leb s.value limit l), omega (arith, w e))

  grew : (d : ℕ) → Next k s (part b (h ∷ hs) ∷ ps) at n kk (more d)
  grew d =
      record {
        counted = omega (arith, x.counted);
        kept = λ (e : first_large (ltb limit (grown s.value d)) s.begun s.large ≡ None).
            let o : s.large ≡ None = (not-first (ltb limit (grown s.value d)) s.begun s.large e).1 in
            let q : 2 * grown s.value d ≡ 10 * h + 2 * d = ap (λ (z : ℕ). 2 * z) (grown-is d o).0 ∙ sym (grown-is d o).1 in
            head-kept k n b (h ∷ hs) ((10 * h + 2 * d) ∷ hs) ps kk (kept_of (more d) (grown s.value d) kk) x.counted (x.kept o) (λ (z : kk ≡ kept_for (Some (part b (h ∷ hs)))). rw (z, q));
        doubled = λ (e : first_large (ltb limit (grown s.value d)) s.begun s.large ≡ None).
            let o : s.large ≡ None = (not-first (ltb limit (grown s.value d)) s.begun s.large e).1 in
            (grown-is d o).1 ∙ ap (λ (z : ℕ). 2 * z) (sym (grown-is d o).0);
        small = λ (e : first_large (ltb limit (grown s.value d)) s.begun s.large ≡ None).
            let o : s.large ≡ None = (not-first (ltb limit (grown s.value d)) s.begun s.large e).1 in
            let l : grown s.value d ≤ limit = ltb-false limit (grown s.value d) (not-first (ltb limit (grown s.value d)) s.begun s.large e).0 in
            new-small b h (10 * h + 2 * d) hs ps (omega (arith, (grown-is d o).0, (grown-is d o).1, l)) (x.small o);
      }

  pointed : Next k s (part b (h ∷ hs) ∷ ps) at n kk point
  pointed = still k s at n kk Point (part b (h ∷ hs) ∷ ps) x (moved point at s) refl w

  halved : Next k s (part b (h ∷ hs) ∷ ps) at n kk half
  halved =
      record {
        counted = omega (arith, x.counted);
        kept = λ (e : first_large (leb limit s.value) s.begun s.large ≡ None).
            let o : s.large ≡ None = (not-first (leb limit s.value) s.begun s.large e).1 in
            let q : 2 * s.value + 1 ≡ h + 1 = omega (arith, w o) in
            head-kept k n b (h ∷ hs) ((h + 1) ∷ hs) ps kk (kept_of half s.value kk) x.counted (x.kept o) (λ (z : kk ≡ kept_for (Some (part b (h ∷ hs)))). rw (z, q));
        doubled = λ e. tt;
        small = λ (e : first_large (leb limit s.value) s.begun s.large ≡ None).
            let o : s.large ≡ None = (not-first (leb limit s.value) s.begun s.large e).1 in
            let l : s.value < limit = leb-false limit s.value (not-first (leb limit s.value) s.begun s.large e).0 in
            new-small b h (h + 1) hs ps (omega (arith, w o, l)) (x.small o);
      }

-- ---- one byte more
module _ (k : ℕ) (s : Stand) (at n : ℕ) (kk : Kept) (c : ℕ) where
  on-space : (ps : List Part) → Keeps k s ps n kk → Next k s ps at n kk (on_space c)
  on-space ps x = choose (Next k s ps at n kk) (eqb c 32) (λ e. spaced k s at n kk ps x) (λ e. stopped k s at n kk ps x)

  on-letter : (ps : List Part) → Keeps k s ps n kk → Next k s ps at n kk (on_letter c)
  on-letter ps x = by-letter (Next k s ps at n kk) c (λ (b : Command) e. lettered k s at n kk b ps x) (stopped k s at n kk ps x)

  on-first : (b : Command) (hs : List ℕ) (ps : List Part) → Keeps k s (part b hs ∷ ps) n kk → Next k s (part b hs ∷ ps) at n kk (act_of Digit s.value c)
  on-first b hs ps x =
      choose (Next k s (part b hs ∷ ps) at n kk) (is_digit c)
      (λ (e : is_digit c ≡ true). begun k s at n kk (c - 48) b hs ps (digit-small c e).0 x)
      (λ e. stopped k s at n kk (part b hs ∷ ps) x)

  on-number : (b : Command) (h : ℕ) (hs : List ℕ) (ps : List Part) → Keeps k s (part b (h ∷ hs) ∷ ps) n kk → (s.large ≡ None → h ≡ 2 * s.value)
      → Next k s (part b (h ∷ hs) ∷ ps) at n kk (act_of Number s.value c)
  on-number b h hs ps x w =
      choose (Next k s (part b (h ∷ hs) ∷ ps) at n kk) (not (eqb s.value 0) && is_digit c)
      (λ e. grew k s at n kk b h hs ps x w (c - 48))
      (λ e. choose (Next k s (part b (h ∷ hs) ∷ ps) at n kk) (eqb c 46) (λ f. pointed k s at n kk b h hs ps x w) (λ f. on-space (part b (h ∷ hs) ∷ ps) x))

  on_point : (b : Command) (h : ℕ) (hs : List ℕ) (ps : List Part) → Keeps k s (part b (h ∷ hs) ∷ ps) n kk → (s.large ≡ None → h ≡ 2 * s.value)
      → Next k s (part b (h ∷ hs) ∷ ps) at n kk (act_of Point s.value c)
  on_point b h hs ps x w =
      choose (Next k s (part b (h ∷ hs) ∷ ps) at n kk) (eqb c 53) (λ e. halved k s at n kk b h hs ps x w) (λ e. stopped k s at n kk (part b (h ∷ hs) ∷ ps) x)

pub step_keeps : (p : Phase) (l v g : ℕ) (x : Option ℕ) (y : Bool) (ps : List Part) (t : List ℕ) (k at n : ℕ) (kk : Kept) (c : ℕ) → Held p l v ps t
    → Keeps k (stand_by p l v g x y) ps n kk
    → Next k (stand_by p l v g x y) ps at n kk (act_of p v c)
step_keeps p l v g x y ps t k at n kk c (held begin e) z =
    on-letter k (stand_by Begin l v g x y) at n kk c [] z
step_keeps p l v g x y ps t k at n kk c (held (after_segment {p = r} {ps = rs} w) e) z =
    on-letter k (stand_by Letter l v g x y) at n kk c (r ∷ rs) z
step_keeps p l v g x y ps t k at n kk c (held (after_letter {b = b} {ps = rs} a) e) z =
    on-space k (stand_by Lettered l v g x y) at n kk c (part b [] ∷ rs) z
step_keeps p l v g x y ps t k at n kk c (held (after_space {b = b} {hs = hs} {ps = rs} a m) e) z =
    on-first k (stand_by Digit l v g x y) at n kk c b hs rs z
step_keeps p l v g x y ps t k at n kk c (held (in_number {b = b} {h = h} {hs = hs} {ps = rs} m w i a) e) z =
    on-number k (stand_by Number l v g x y) at n kk c b h hs rs z z.doubled
step_keeps p l v g x y ps t k at n kk c (held (after_point {b = b} {h = h} {hs = hs} {ps = rs} m w a) e) z =
    on_point k (stand_by Point l v g x y) at n kk c b h hs rs z z.doubled
step_keeps p l v g x y ps t k at n kk c (held (after_half {b = b} {h = h} {hs = hs} {ps = rs} a) e) z =
    on-space k (stand_by Halved l v g x y) at n kk c (part b (h ∷ hs) ∷ rs) z
step_keeps p l v g x y ps t k at n kk c (halted {q = q}) z =
    still k (stand_by (Stopped q) l v g x y) at n kk (Stopped q) ps z
    (stand_by (Stopped q) l v g x y) refl (λ e. tt)
