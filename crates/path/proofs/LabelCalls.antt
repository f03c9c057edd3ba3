-- The label calls: the table is judged after 1 to 14; a label's part lies within the chart or the table, and its characters are the label's width.
-- Assumes nothing.
use Prim.Native.Nat.{ℕ, ◌+◌, ◌-◌, ◌*◌, ◌≤◌, ◌<◌}
use native.Mathlib.Omega.{arith}
use mathlib.Core.Path.{◌≡◌, refl, sym, ap, subst, ◌∙◌}
use mathlib.Core.Bool.{Bool, true, false, cond}
use mathlib.Core.List.{List}
use lib.ListN.{length}
use borrow.Author.Tests.{le-leb}
use Rattle.laws.specs.Bytes.{same}
use Rattle.laws.proofs.Lists.{same_true, same_self}
use Rattle.std.specs.Prelude.{Result, Ok, Err}
use Rattle.refusals.specs.declared.Refusal.{Refusal}
use Rattle.refusals.specs.declared.Refusal.TheVariants.{NotThere}
use Rattle.chart.specs.declared.Setting.{Setting}
use Rattle.chart.specs.Text.{empty, characters_in}
use Rattle.chart.proofs.Gives.{ending-from}
use Rattle.grid.specs.declared.LabelPlace.{LabelPlace}
use Rattle.grid.specs.declared.TextPlace.{TextPlace}
use Rattle.grid.specs.declared.TextPlace.TheVariants.{InChart, InTable}
use Rattle.grid.specs.Labels.{character_width}
use Rattle.grid.specs.Labelled.{Labelled, ready, refusal, labelled, label_place_of}
use Rattle.graph.proofs.Gathers.{Bytes}
use Rattle.grid.proofs.LabelPlaces.{Lies, labelled_lies}
use denote.Ref.{Bor}
use Rattle.path.specs.declared.LabelSpan.{LabelSpan}
use Rattle.path.specs.Label.{Place, chart, table, part_at, Within, text_at, IsAt, stand_in, stand_ins_to, stand_ins, tabled, place_of, place_in, LabelText, IsLabelPart, span_of, span_in, label_span_of, IsLabelSpan}
use Rattle.path.proofs.Labels.{stand-ins-long, stand_in_reads, stand_in_within, stand_in_texted, stand_in_counted}

-- ---- the table
pub table-own : (t : List ℕ) → t ≡ stand_ins → same t stand_ins ≡ true
table-own t e = rw e (same_self stand_ins)

pub label-is : (l : Labelled) (r : Result LabelPlace Refusal) (p : LabelPlace) → r ≡ label_place_of l → r ≡ Ok p → l ≡ ready p
label-is (ready q) r p e f = let z : q ≡ p = cc in rw z
label-is (refusal why) r p e f = let z : ◌≡◌ {A = ℕ} 0 1 = cc in absurd (omega arith)

pub refusal-is : (l : Labelled) (r : Result LabelPlace Refusal) (why : Refusal) → r ≡ label_place_of l → r ≡ Err why → l ≡ refusal why
refusal-is (ready q) r why e f = let z : ◌≡◌ {A = ℕ} 0 1 = cc in absurd (omega arith)
refusal-is (refusal u) r why e f = let z : u ≡ why = cc in rw z

pub tabled-ready : (t : List ℕ) (l : Labelled) (p : LabelPlace) → tabled t l ≡ ready p → (l ≡ ready p) × (same t stand_ins ≡ true)
tabled-ready t (ready q) p e = go (same t stand_ins) refl e
  where
    go : (b : Bool) → same t stand_ins ≡ b → cond b (ready q) (refusal NotThere) ≡ ready p → (ready q ≡ ready p) × (same t stand_ins ≡ true)
    go true f g = (g, f)
    go false f g = let z : ◌≡◌ {A = ℕ} 0 1 = cc in absurd (omega arith)
tabled-ready t (refusal why) p e = let z : ◌≡◌ {A = ℕ} 0 1 = cc in absurd (omega arith)

-- ---- the part
module _ (w : Setting) (s t : List ℕ) (bytes : Bytes s) (x y k i : ℕ) (r : Result LabelPlace Refusal) (e : r ≡ label_place_of (tabled t (labelled w s x y k i))) (p : LabelPlace) (a : r ≡ Ok p) where
  judged : tabled t (labelled w s x y k i) ≡ ready p
  judged = label-is (tabled t (labelled w s x y k i)) r p e a

  pub number_small : (q : ℕ) → p.text ≡ InTable q → q < 287
  number_small = (labelled_lies w s bytes x y k i p (tabled-ready t (labelled w s x y k i) p judged).0).below

  pub span-is : (z : LabelSpan) → z ≡ span_of (place_of s p.text) → Ok z ≡ label_span_of s t (labelled w s x y k i)
  span-is z f = rw (judged, f)

-- a place that lies within is the part of its numbers
within-part : (m n : ℕ) (q : Place) → Within m n q → part_at (span_of q) m n ≡ q
within-part m n (chart b e) h = let z : b + (e - b) ≡ e = omega (arith, h.0) in rw (z, le-leb e m h.1)
within-part m n (table b e) h = let z : b + (e - b) ≡ e = omega (arith, h.0) in rw (z, le-leb e n h.1)

module _ (s t : List ℕ) where
  -- the part of the numbers that are answered
  part-found : (v : Labelled) (z : LabelSpan) → Within (length s) (length t) (place_in s v) → Ok z ≡ span_in s v → part_at z (length s) (length t) ≡ place_in s v
  part-found (ready p) z h e = let f : z ≡ span_of (place_in s (ready p)) = cc in rw f (within-part (length s) (length t) (place_in s (ready p)) h)
  part-found (refusal why) z h e = let f : ◌≡◌ {A = ℕ} 0 1 = cc in absurd (omega arith)

  -- refused: the empty part at the chart's start
  part-none : (v : Labelled) (why : Refusal) → Err why ≡ span_in s v → part_at (LabelSpan.InChart 0 0) (length s) (length t) ≡ place_in s v
  part-none (ready p) why e = let f : ◌≡◌ {A = ℕ} 0 1 = cc in absurd (omega arith)
  part-none (refusal u) why e = rw (le-leb 0 (length s) (omega arith))

module _ (s t : Bor (List ℕ)) (l : Labelled) (r : Result LabelSpan Refusal) (e : IsLabelSpan s.now t.now l r) (u : Bor (List ℕ)) where
  pub found_part : (z : LabelSpan) → r ≡ Ok z → IsAt (part_at z (length s.now) (length t.now)) s t u → IsLabelPart s t l u
  found_part z a at = record { is = rw (part-found s.now t.now (tabled t.now l) z e.text.within (sym a ∙ e.whole)) at at; text = e.text }

  pub no_part : (why : Refusal) → r ≡ Err why → IsAt (part_at (LabelSpan.InChart 0 0) (length s.now) (length t.now)) s t u → IsLabelPart s t l u
  no_part why a at = record { is = rw (part-none s.now t.now (tabled t.now l) why (sym a ∙ e.whole)) at at; text = e.text }

-- ---- the part: within the chart or the table, text, and as wide as the label
refused-text : (s t : List ℕ) (why : Refusal) → LabelText s t (refusal why)
refused-text s t why = record { within = (omega arith, omega arith); texted = empty; wide = λ l e. let z : ◌≡◌ {A = ℕ} 0 1 = cc in absurd (omega arith); none = λ u e. refl }

-- the label as it is handed out
wide-by : (p l : LabelPlace) (b : List ℕ) → label_place_of (ready p) ≡ Ok l → p.width ≡ character_width p.size * characters_in b → l.width ≡ character_width l.size * characters_in b
wide-by p l b e f = let z : p ≡ l = cc in subst (λ (u : LabelPlace). u.width ≡ character_width u.size * characters_in b) z f

-- one of the fixed texts
fixed_text : (s t : List ℕ) (p : LabelPlace) → Lies s p → same t stand_ins ≡ true → (q : ℕ) → p.text ≡ InTable q → LabelText s t (ready p)
fixed_text s t p l f q e =
    let is : t ≡ stand_ins = same_true t stand_ins f in
    let w : length (stand_ins_to q) + length (stand_in q) ≤ 3293 = stand_in_within q (l.below q e) in
    let long : length t ≡ 3293 = ap length is ∙ stand-ins-long in
    let len : length (stand_ins_to q) + length (stand_in q) - length (stand_ins_to q) ≡ length (stand_in q) = omega arith in
    let reads : text_at s t (place_in s (ready p)) ≡ stand_in q = rw (e, len, is) (stand_in_reads q (l.below q e)) in
    record {
      within = rw e (omega arith, omega arith);
      texted = rw reads (stand_in_texted q (l.below q e));
      wide = λ u f. wide-by p u (text_at s t (place_in s (ready p))) f (rw (reads, stand_in_counted q (l.below q e)) (l.wide ∙ rw e));
      none = λ u f. let z : ◌≡◌ {A = ℕ} 0 1 = cc in absurd (omega arith);
    }

-- a text of the chart
given-text : (s t : List ℕ) (p : LabelPlace) → Lies s p → (at len : ℕ) → p.text ≡ InChart at len → LabelText s t (ready p)
given-text s t p l at len e =
    let h = l.whole at len e in
    record {
      within = rw e (ending-from len s at, h.inside);
      texted = rw e h.texted;
      wide = λ u f. wide-by p u (text_at s t (place_in s (ready p))) f (rw (e, h.counted) (l.wide ∙ rw e));
      none = λ u f. let z : ◌≡◌ {A = ℕ} 0 1 = cc in absurd (omega arith);
    }

place-text : (s t : List ℕ) (p : LabelPlace) → Lies s p → same t stand_ins ≡ true → (x : TextPlace) → p.text ≡ x → LabelText s t (ready p)
place-text s t p l f (InChart at len) e = given-text s t p l at len e
place-text s t p l f (InTable q) e = fixed_text s t p l f q e

tabled-text : (s t : List ℕ) (v : Labelled) → ((p : LabelPlace) → v ≡ ready p → Lies s p) → (b : Bool) → same t stand_ins ≡ b → LabelText s t (tabled t v)
tabled-text s t (ready p) h true e = rw e (place-text s t p (h p refl) e p.text refl)
tabled-text s t (ready p) h false e = rw e (refused-text s t NotThere)
tabled-text s t (refusal why) h b e = refused-text s t why

label_text : (w : Setting) (s t : List ℕ) → Bytes s → (x y k i : ℕ) → LabelText s t (tabled t (labelled w s x y k i))
label_text w s t bytes x y k i = tabled-text s t (labelled w s x y k i) (λ p e. labelled_lies w s bytes x y k i p e) (same t stand_ins) refl

pub is_label_span : (w : Setting) (s t : List ℕ) → Bytes s → (x y k i : ℕ) (r : Result LabelSpan Refusal) → r ≡ label_span_of s t (labelled w s x y k i) → IsLabelSpan s t (labelled w s x y k i) r
is_label_span w s t bytes x y k i r e = record { whole = e; text = label_text w s t bytes x y k i }
