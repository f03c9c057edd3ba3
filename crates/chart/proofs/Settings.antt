-- The two settings of a chart: one reading, or 12.
-- Assumes nothing.
use Prim.Native.Nat.{ℕ, zero, suc, ◌+◌, ◌*◌}
use native.Mathlib.Omega.{arith}
use mathlib.Core.Path.{◌≡◌, refl, ap, sym, ◌∙◌}
use mathlib.Core.Logic.{◌⊎◌, inl, inr}
use Rattle.std.specs.Prelude.{Option, Some, None}
use mathlib.Core.Bool.{Bool, true, false, cond}
use mathlib.Core.List.{List, []}
use lib.Dec.{eqb, leb, ltb}
use lib.ListN.{length, get_or}
use Rattle.chart.specs.declared.Setting.TheVariants.{Default, Strict}
use Rattle.chart.specs.Chart.{Board, Reading, ready, refusal, Got, got, refused, ◌then◌, byte, many, is_text, text_byte, byte_c2, byte_b0, characters, text, end, counts, body, entry, ends_of, targets_of, first_outside, judge_targets, judged, under_two, bodies, chart}
use Rattle.refusals.specs.declared.Refusal.{Refusal}
use Rattle.refusals.specs.declared.Refusal.TheVariants.{BytesAfter, CutBody, CutContents, LongText, ManyEnds, ManyLines, ManyNodes, Misplaced, NotText, OneByte, OtherFormat, Outside}
use Rattle.chart.specs.Settings.{strictly, Outside as Past}
use Rattle.chart.proofs.Gives.{Gives, Bodies, bodies_give}

strict-judged : (s : List ℕ) (n at : ℕ) (g : Got Board) → Gives g (Bodies s n at) → judged Strict s n g ≡ strictly (judged Default s n g)
strict-judged s n at (got ps end) h = go (ltb end (length s)) (leb (ends_of ps) 64)
  where
    go : (a b : Bool)
        → cond a (refusal BytesAfter) (cond b (judge_targets (first_outside (targets_of ps) n) ps) (refusal ManyEnds)) ≡ strictly (cond a (refusal BytesAfter) (cond b (ready ps) (refusal ManyEnds)))
    go true b = refl
    go false false = refl
    go false true = rw h.count
strict-judged s n at (refused r) h = refl

-- strict judges the targets of what the default reads, and nothing else
pub strict-reads : (s : List ℕ) → chart Strict s ≡ strictly (chart Default s)
unfolding chart
strict-reads s = go (ltb (length s) 2) (eqb (get_or s 0 0) 1) (leb n 32) (leb (2 + 2 * n) (length s))
  where
    n : ℕ
    n = get_or s 1 0

    brief : (e : Bool) → cond e (ready []) (refusal OneByte) ≡ strictly (cond e (ready []) (refusal OneByte))
    brief true = refl
    brief false = refl

    go : (a b c d : Bool)
        → cond a (under_two (length s)) (cond b (cond c (cond d (judged Strict s n (bodies n s 0 (2 + 2 * n))) (refusal CutContents)) (refusal ManyNodes)) (refusal OtherFormat))
        ≡ strictly (cond a (under_two (length s)) (cond b (cond c (cond d (judged Default s n (bodies n s 0 (2 + 2 * n))) (refusal CutContents)) (refusal ManyNodes)) (refusal OtherFormat)))
    go true b c d = brief (eqb (length s) 0)
    go false false c d = refl
    go false true false d = refl
    go false true true false = refl
    go false true true true = strict-judged s n (2 + 2 * n) (bodies n s 0 (2 + 2 * n)) (bodies_give n s 0 (2 + 2 * n))

-- so both read the same, or strict refuses by 12
pub settings : (s : List ℕ) → (chart Strict s ≡ chart Default s) ⊎ Past s
settings s = go (chart Default s) refl
  where
    aims : (ps : Board) (o : Option ℕ) → first_outside (targets_of ps) (length ps) ≡ o → chart Default s ≡ ready ps → (chart Strict s ≡ chart Default s) ⊎ Past s
    aims ps None z e = inl (strict-reads s ∙ ap strictly e ∙ ap (λ (p : Option ℕ). judge_targets p ps) z ∙ sym e)
    aims ps (Some t) z e = inr (record { board = ps; target = t; read = e; first = z; refused = strict-reads s ∙ ap strictly e ∙ ap (λ (p : Option ℕ). judge_targets p ps) z })

    go : (r : Reading) → chart Default s ≡ r → (chart Strict s ≡ chart Default s) ⊎ Past s
    go (ready ps) e = aims ps (first_outside (targets_of ps) (length ps)) refl e
    go (refusal why) e = inl (strict-reads s ∙ ap strictly e ∙ sym e)

-- ---- 12 is strict's alone, and given exactly for a target that isn't below n
same_target : (u t : ℕ) → refusal (Outside u) ≡ refusal (Outside t) → u ≡ t
same_target u t e = cc

abbrev Other : Refusal → Type 0
Other r = (t : ℕ) → refusal r ≡ refusal (Outside t) → ⊥

-- what is refused while the bodies are read isn't 12
abbrev Otherwise : {A : Type 0} → Got A → Type 0
Otherwise (got x at) = Unit {0}
Otherwise (refused r) = Other r

module _ {A B : Type 0} where
  other_then : (g : Got A) (f : A → ℕ → Got B) → Otherwise g → ((x : A) (at : ℕ) → Otherwise (f x at)) → Otherwise (g then f)
  other_then (got x at) f p q = q x at
  other_then (refused r) f p q = p

other_if : {A : Type 0} (b : Bool) (g h : Got A) → Otherwise g → Otherwise h → Otherwise (cond b g h)
other_if true g h p q = p
other_if false g h p q = q

cut_other : Other CutBody
cut_other t e = let z : ◌≡◌ {A = ℕ} 0 1 = cc in omega arith

text_other : Other NotText
text_other t e = let z : ◌≡◌ {A = ℕ} 0 1 = cc in omega arith

long_other : Other LongText
long_other t e = let z : ◌≡◌ {A = ℕ} 0 1 = cc in omega arith

lines_other : Other ManyLines
lines_other t e = let z : ◌≡◌ {A = ℕ} 0 1 = cc in omega arith

place_other : Other Misplaced
place_other t e = let z : ◌≡◌ {A = ℕ} 0 1 = cc in omega arith

module _ (s : List ℕ) where
  byte_other : (at : ℕ) → Otherwise (byte s at)
  byte_other at = other_if (ltb at (length s)) _ _ tt cut_other

  text_byte_other : (at : ℕ) → Otherwise (text_byte s at)
  text_byte_other at = other_then (byte s at) _ (byte_other at) (λ b e. other_if (is_text b) _ _ tt text_other)

  characters_other : (k at : ℕ) → Otherwise (characters k s at)
  characters_other zero at = tt
  characters_other (suc zero) at = other_then (text_byte s at) _ (text_byte_other at) (λ b e. tt)
  characters_other (suc (suc k)) at =
      other_then (byte s at) _ (byte_other at)
      (λ b e. other_if (eqb b byte_c2) _ _
      (other_then (byte s e) _ (byte_other e) (λ c f. other_if (eqb c byte_b0) _ _ (other_then (characters k s f) _ (characters_other k f) (λ n g. tt)) text_other))
      (other_if (is_text b) _ _ (other_then (characters (suc k) s e) _ (characters_other (suc k) e) (λ n g. tt)) text_other))

  text_others : (at : ℕ) → Otherwise (text s at)
  text_others at = other_then (byte s at) _ (byte_other at) (λ n e. other_if (leb n 24) _ _ (other_then (characters n s e) _ (characters_other n e) (λ m f. tt)) long_other)

  end_other : (at : ℕ) → Otherwise (end s at)
  end_other at = other_then (byte s at) _ (byte_other at) (λ t e. other_then (text s e) _ (text_others e) (λ u f. tt))

  many_other : {A : Type 0} (item : ℕ → Got A) → ((at : ℕ) → Otherwise (item at)) → (k at : ℕ) → Otherwise (many k item at)
  many_other item p zero at = tt
  many_other item p (suc k) at = other_then (item at) _ (p at) (λ x e. other_then (many k item e) _ (many_other item p k e) (λ y f. tt))

  body_other : (at : ℕ) → Otherwise (body s at)
  body_other at =
      other_then (counts s at) _
      (other_then (byte s at) _ (byte_other at) (λ i e. other_then (byte s e) _ (byte_other e) (λ j f. other_if (leb j 4) _ _ (other_then (byte s f) _ (byte_other f) (λ k g. tt)) lines_other)))
      (λ c e. other_then (many c.sources (end s) e) _ (many_other (end s) end_other c.sources e)
      (λ x f. other_then (many c.lines (text s) f) _ (many_other (text s) text_others c.lines f) (λ y g. other_then (many c.sinks (end s) g) _ (many_other (end s) end_other c.sinks g) (λ z h. tt))))

  bodies_other : (m k at : ℕ) → Otherwise (bodies m s k at)
  bodies_other zero k at = tt
  bodies_other (suc m) k at =
      other_if (eqb (entry s k) at) _ _ (other_then (body s at) _ (body_other at) (λ q e. other_then (bodies m s (suc k) e) _ (bodies_other m (suc k) e) (λ qs f. tt))) place_other

not_read : (ps : Board) (t : ℕ) → ready ps ≡ refusal (Outside t) → ⊥
not_read ps t e = let z : ◌≡◌ {A = ℕ} 0 1 = cc in absurd (omega arith)

pub never_twelve : (s : List ℕ) (t : ℕ) → chart Default s ≡ refusal (Outside t) → ⊥
unfolding chart
never_twelve s t = go (ltb (length s) 2) (eqb (get_or s 0 0) 1) (leb n 32) (leb (2 + 2 * n) (length s))
  where
    n : ℕ
    n = get_or s 1 0

    brief : (e : Bool) → cond e (ready []) (refusal OneByte) ≡ refusal (Outside t) → ⊥
    brief true e = not_read [] t e
    brief false e = let z : ◌≡◌ {A = ℕ} 0 1 = cc in omega arith

    full : (a b : Bool) (ps : Board) → cond a (refusal BytesAfter) (cond b (ready ps) (refusal ManyEnds)) ≡ refusal (Outside t) → ⊥
    full true b ps e = let z : ◌≡◌ {A = ℕ} 0 1 = cc in omega arith
    full false true ps e = not_read ps t e
    full false false ps e = let z : ◌≡◌ {A = ℕ} 0 1 = cc in omega arith

    closed : (g : Got Board) → Otherwise g → judged Default s n g ≡ refusal (Outside t) → ⊥
    closed (got ps end) o e = full (ltb end (length s)) (leb (ends_of ps) 64) ps e
    closed (refused r) o e = o t e

    go : (a b c d : Bool) → cond a (under_two (length s)) (cond b (cond c (cond d (judged Default s n (bodies n s 0 (2 + 2 * n))) (refusal CutContents)) (refusal ManyNodes)) (refusal OtherFormat)) ≡ refusal (Outside t) → ⊥
    go true b c d e = brief (eqb (length s) 0) e
    go false false c d e = let z : ◌≡◌ {A = ℕ} 0 1 = cc in omega arith
    go false true false d e = let z : ◌≡◌ {A = ℕ} 0 1 = cc in omega arith
    go false true true false e = let z : ◌≡◌ {A = ℕ} 0 1 = cc in omega arith
    go false true true true e = closed (bodies n s 0 (2 + 2 * n)) (bodies_other s n 0 (2 + 2 * n)) e

pub twelve_outside : (s : List ℕ) (t : ℕ) → chart Strict s ≡ refusal (Outside t) → (o : Past s) × (o.target ≡ t)
twelve_outside s t h = go (settings s)
  where
    go : (chart Strict s ≡ chart Default s) ⊎ Past s → (o : Past s) × (o.target ≡ t)
    go (inl e) = absurd (never_twelve s t (sym e ∙ h))
    go (inr o) = (o, same_target o.target t (sym o.refused ∙ h))
