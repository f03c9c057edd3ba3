-- How long a text can be: at most 74 bytes a box and 72 a curve for any sound sheet; 68 a curve, and 9,467 in all, for a chart's own sheet. Assumes nothing.
use mathlib.Core.Path.{◌≡◌, refl, sym, ap, subst, ◌∙◌}
use mathlib.Core.Bool.{Bool, true, false}
use mathlib.Core.List.{List, [], ◌∷◌, ◌++◌}
use Prim.Native.Nat.{ℕ, zero, suc, ◌+◌, ◌-◌, ◌*◌, ◌/◌, ◌%◌, ◌^◌, ◌≤◌, ◌<◌}
use native.Mathlib.Nat.{mul-zero, mul-suc}
use native.Mathlib.Omega.{arith}
use borrow.Author.Tests.{ltb-true, ltb-false}
use lib.Dec.{ltb}
use lib.ListN.{length, length-append, length-map}
use Rattle.laws.specs.Bytes.{all_of}
use Rattle.laws.specs.Lists.{All}
use Rattle.laws.proofs.Lists.{all_map}
use Rattle.chart.specs.declared.Setting.{Setting}
use Rattle.graph.specs.Laws.{Laws}
use Rattle.graph.proofs.Gathers.{graph-laws}
use Rattle.graph.proofs.CountLaws.{sources-most, cuts-most}
use Rattle.grid.specs.declared.BoxRecord.{BoxRecord}
use Rattle.grid.specs.declared.Curve.{Curve}
use Rattle.grid.specs.declared.SheetRecord.{SheetRecord}
use Rattle.refusals.specs.declared.Refusal.{Refusal}
use Rattle.grid.specs.RenderGrid.{Sheet}
use Rattle.grid.specs.Record.{boxes_of, curves_of, box_near, curve_near, sound_of}
use Rattle.grid.specs.Curves.{box_record, curves, record_of}
use Rattle.grid.specs.Sheeted.{ready, sheeted}
use Rattle.grid.specs.LaidOut.{IsSheet}
use Rattle.grid.proofs.PointLaws.{Even}
use Rattle.grid.proofs.SoundLaws.{CurveIn as CurveOn, Drawing, drawing, Held, held, sheet-sound, boxes-are, curves-are, Own, own}
use Rattle.path.specs.declared.drawn.Drawn.{Drawn}
use Rattle.path.specs.declared.drawn.Drawn.TheVariants.{Move, Line, Cubic, Close}
use Rattle.std.specs.Prelude.{Result, Ok}
use Rattle.path.specs.Number.{limit, limit_halves, digits, number_text}
use Rattle.path.specs.Text.{numbers_of, numbers_text, segment_text, rest_text, text_of}
use Rattle.path.specs.Segments.{box_drawn, curve_drawn, joined, drawn_of}
use Rattle.path.specs.Answers.{sheet_answer, written_of}
use Rattle.path.proofs.Numbers.{length-one, length-tens, length-even, length_odd}
use Rattle.path.proofs.Readings.{both}
use Rattle.path.proofs.Sheets.{Sound, sound-is, BoxIn, box_in, CurveIn, curve_in, take-most}
use Rattle.path.proofs.OwnSheets.{own_serves}

-- ---- numbers
digits-short : (k n : ℕ) → n < 10 ^ suc k → length (digits n) ≤ suc k
digits-short zero n h = omega (arith, length-one n h)
digits-short (suc k) n h = go (ltb n 10) refl (digits-short k (n / 10) (omega arith))
  where
    go : (b : Bool) → ltb n 10 ≡ b → length (digits (n / 10)) ≤ suc k → length (digits n) ≤ suc (suc k)
    go true e i = omega (arith, length-one n (ltb-true n 10 e))
    go false e i = omega (arith, length-tens n (ltb-false n 10 e))

-- no position has more than 7 digits
pub digits-seven : (n : ℕ) → n ≤ limit → length (digits n) ≤ 7
digits-seven n h = digits-short 6 n (omega arith)

pub whole-seven : (h : ℕ) → h ≤ limit_halves → Even h → length (number_text h) ≤ 7
whole-seven h l e = omega (arith, length-even h e, digits-seven (h / 2) (omega arith))

pub number_nine : (h : ℕ) → h ≤ limit_halves → length (number_text h) ≤ 9
number_nine h l = go (h % 2) refl
  where
    go : (m : ℕ) → h % 2 ≡ m → length (number_text h) ≤ 9
    go zero e = omega (arith, whole-seven h l e)
    go (suc m) e = omega (arith, length_odd h (λ z. omega arith), digits-seven (h / 2) (omega arith))

doubled-seven : (n : ℕ) → n ≤ limit → length (number_text (2 * n)) ≤ 7
doubled-seven n l = whole-seven (2 * n) (omega arith) (omega arith)

-- ---- segments, each with the space before it
cons_long : (h : ℕ) (hs : List ℕ) → length (numbers_text (h ∷ hs)) ≡ suc (length (number_text h) + length (numbers_text hs))
cons_long h hs = ap suc (length-append (number_text h) (numbers_text hs))

rest-long : (d : Drawn) (ds : List Drawn) → length (rest_text (d ∷ ds)) ≡ 2 + length (numbers_text (numbers_of d)) + length (rest_text ds)
rest-long d ds = omega (arith, length-append (segment_text d) (rest_text ds))

pair-long : (x y : ℕ) → x ≤ limit → y ≤ limit → length (numbers_text (2 * x ∷ 2 * y ∷ [])) ≤ 16
pair-long x y h k = omega (arith, cons_long (2 * x) (2 * y ∷ []), cons_long (2 * y) [], doubled-seven x h, doubled-seven y k)

box-long : (x y : ℕ) (b : BoxRecord) (ds : List Drawn) → BoxIn x y b → length (rest_text (box_drawn x y b ++ ds)) ≤ 74 + length (rest_text ds)
box-long x y b ds i =
    let l : x + b.x ≤ limit = omega (arith, i.right) in
    let t : y + b.y ≤ limit = omega (arith, i.bottom) in
    let d₁ : Drawn = Line (2 * (x + b.x + b.width)) (2 * (y + b.y)) in
    let d₂ : Drawn = Line (2 * (x + b.x + b.width)) (2 * (y + b.y + b.height)) in
    let d₃ : Drawn = Line (2 * (x + b.x)) (2 * (y + b.y + b.height)) in
    omega (
      arith,
      rest-long (Move (2 * (x + b.x)) (2 * (y + b.y))) (d₁ ∷ d₂ ∷ d₃ ∷ Close ∷ ds),
      rest-long d₁ (d₂ ∷ d₃ ∷ Close ∷ ds),
      rest-long d₂ (d₃ ∷ Close ∷ ds),
      rest-long d₃ (Close ∷ ds),
      rest-long Close ds,
      pair-long (x + b.x) (y + b.y) l t,
      pair-long (x + b.x + b.width) (y + b.y) i.right t,
      pair-long (x + b.x + b.width) (y + b.y + b.height) i.right i.bottom,
      pair-long (x + b.x) (y + b.y + b.height) l i.bottom,
    )

boxes-long : (x y : ℕ) (bs : List BoxRecord) (ds : List Drawn) → all_of (box_near x y) bs ≡ true → length (rest_text (joined (box_drawn x y) bs ++ ds)) ≤ 74 * length bs + length (rest_text ds)
boxes-long x y [] ds e = omega arith
boxes-long x y (b ∷ bs) ds e =
    let z = both (box_near x y b) (all_of (box_near x y) bs) e in
    omega (arith, box-long x y b (joined (box_drawn x y) bs ++ ds) (box_in x y b z.0), boxes-long x y bs ds z.1)

-- the curve's halfway height takes m bytes at most
abbrev Halfway : ℕ → ℕ → Curve → Type 0
Halfway y m c = length (number_text (y + c.y0 + (y + c.y1))) ≤ m

module _ (x y m k : ℕ) (size : k ≡ 54 + 2 * m) where
  curve-long : (c : Curve) (ds : List Drawn) → CurveIn x y c → Halfway y m c → length (rest_text (curve_drawn x y c ++ ds)) ≤ k + length (rest_text ds)
  curve-long c ds i f =
      let a : ℕ = 2 * (x + c.x0) in
      let h : ℕ = y + c.y0 + (y + c.y1) in
      let b : ℕ = 2 * (x + c.x1) in
      let d : ℕ = 2 * (y + c.y1) in
      omega (
        arith,
        rest-long (Move a (2 * (y + c.y0))) (Cubic a h b h b d ∷ ds),
        rest-long (Cubic a h b h b d) ds,
        pair-long (x + c.x0) (y + c.y0) i.left i.top,
        cons_long a (h ∷ b ∷ h ∷ b ∷ d ∷ []),
        cons_long h (b ∷ h ∷ b ∷ d ∷ []),
        cons_long b (h ∷ b ∷ d ∷ []),
        cons_long h (b ∷ d ∷ []),
        cons_long b (d ∷ []),
        cons_long d [],
        doubled-seven (x + c.x0) i.left,
        doubled-seven (x + c.x1) i.right,
        doubled-seven (y + c.y1) i.bottom,
      )

  curves-long : (cs : List Curve) → all_of (curve_near x y) cs ≡ true → All (Halfway y m) cs → length (rest_text (joined (curve_drawn x y) cs)) ≤ k * length cs
  curves-long [] e a = omega (arith, mul-zero k)
  curves-long (c ∷ cs) e a =
      let z = both (curve_near x y c) (all_of (curve_near x y) cs) e in
      omega (arith, curve-long c (joined (curve_drawn x y) cs) (curve_in x y c z.0) a.0, curves-long cs z.1 a.1, mul-suc k (length cs))

-- the first segment has no space before it
text-long : (ds : List Drawn) → length (text_of ds) ≤ length (rest_text ds) - 1
unfolding text_of
text-long [] = omega arith
text-long (d ∷ ds) = omega arith

-- ---- a sound sheet
module _ (s : SheetRecord) (o : sound_of s ≡ true) where
  near : Sound s
  near = sound-is s o

  drawn-size : (m k : ℕ) → k ≡ 54 + 2 * m → All (Halfway s.y m) (curves_of s) → length (text_of (drawn_of s)) ≤ 74 * length (boxes_of s) + k * length (curves_of s) - 1
  unfolding drawn_of
  drawn-size m k e a =
      omega (
        arith,
        text-long (joined (box_drawn s.x s.y) (boxes_of s) ++ joined (curve_drawn s.x s.y) (curves_of s)),
        boxes-long s.x s.y (boxes_of s) (joined (curve_drawn s.x s.y) (curves_of s)) near.boxes,
        curves-long s.x s.y m k e (curves_of s) near.curves a,
      )

  halfway_nine : (cs : List Curve) → all_of (curve_near s.x s.y) cs ≡ true → All (Halfway s.y 9) cs
  halfway_nine [] e = tt
  halfway_nine (c ∷ cs) e =
      let z = both (curve_near s.x s.y c) (all_of (curve_near s.x s.y) cs) e in
      let i : CurveIn s.x s.y c = curve_in s.x s.y c z.0 in
      (number_nine (s.y + c.y0 + (s.y + c.y1)) (omega (arith, i.top, i.bottom)), halfway_nine cs z.1)

  -- any sound sheet, a caller's too: 9,887 bytes at most
  pub sound-text : length (text_of (drawn_of s)) ≤ 74 * s.count + 72 * s.drawn - 1
  sound-text = omega (arith, drawn-size 9 72 refl (halfway_nine (curves_of s) near.curves), take-most s.count s.boxes, take-most s.drawn s.curves)

  pub sound-text-most : length (text_of (drawn_of s)) ≤ 9887
  sound-text-most = omega (arith, sound-text, near.few, near.thin)

-- ---- a chart's own sheet: every halfway height is whole
module _ (v : Setting) (s : List ℕ) (x y : ℕ) (sh : Sheet) (e : sheeted v s x y ≡ ready sh) where
  o : sound_of (record_of sh x y) ≡ true
  o = sheet-sound v s x y sh e

  d : Drawing v s x y sh
  d = drawing v s x y sh e

  laws : Laws v s d.dag
  laws = graph-laws v s d.dag d.walked

  h : Held d.dag sh
  h = subst (Held d.dag) (sym d.is) (held v s d.dag d.walked)

  pub few-boxes : length sh.boxes ≤ 48
  few-boxes = omega (arith, h.count, laws.boxes)

  pub few-curves : length (curves sh) ≤ 87
  few-curves = omega (arith, h.drawn, sources-most v s d.dag laws, cuts-most v s d.dag laws)

  halfway_seven : (c : Curve) → CurveOn sh.width sh.height c → Halfway y 7 c
  halfway_seven c i =
      whole-seven (y + c.y0 + (y + c.y1)) (omega (arith, i.top, i.bottom, d.down)) (omega (arith, i.even_top, i.even_bottom))

  curves-own : curves_of (record_of sh x y) ≡ curves sh
  curves-own = curves-are sh x y (omega (arith, few-curves))

  whole-halves : All (Halfway y 7) (curves_of (record_of sh x y))
  whole-halves = rw curves-own (all_map halfway_seven (curves sh) h.curves_in)

  pub sheet-text : length (text_of (drawn_of (record_of sh x y))) ≤ 74 * length sh.boxes + 68 * length (curves sh) - 1
  unfolding record_of
  sheet-text =
      omega (
        arith,
        drawn-size (record_of sh x y) o 7 68 refl whole-halves,
        ap (λ (l : List BoxRecord). length l) (boxes-are sh x y few-boxes),
        length-map sh.boxes box_record,
        ap (λ (l : List Curve). length l) curves-own,
      )

  pub sheet-text-most : length (text_of (drawn_of (record_of sh x y))) ≤ 9467
  sheet-text-most = omega (arith, sheet-text, few-boxes, few-curves)

-- ---- no half is written of it
abbrev pub Whole : Drawn → Type 0
Whole d = All Even (numbers_of d)

boxes-whole : (x y : ℕ) (bs : List BoxRecord) (ds : List Drawn) → All Whole ds → All Whole (joined (box_drawn x y) bs ++ ds)
boxes-whole x y [] ds a = a
boxes-whole x y (b ∷ bs) ds a =
    let two : (i j : ℕ) → Even (2 * i) × (Even (2 * j) × Unit {0}) = λ i j. (omega arith, (omega arith, tt)) in
    (two (x + b.x) (y + b.y), (two (x + b.x + b.width) (y + b.y), (two (x + b.x + b.width) (y + b.y + b.height), (two (x + b.x) (y + b.y + b.height), (tt, boxes-whole x y bs ds a)))))

curves-whole : (x y w t : ℕ) (cs : List Curve) → All (CurveOn w t) cs → All Whole (joined (curve_drawn x y) cs)
curves-whole x y w t [] a = tt
curves-whole x y w t (c ∷ cs) a =
    let e : Even (y + c.y0 + (y + c.y1)) = omega (arith, a.0.even_top, a.0.even_bottom) in
    ((omega arith, (omega arith, tt)), ((omega arith, (e, (omega arith, (e, (omega arith, (omega arith, tt)))))), curves-whole x y w t cs a.1))

pub sheet-whole : (v : Setting) (s : List ℕ) (x y : ℕ) (sh : Sheet) → sheeted v s x y ≡ ready sh → All Whole (drawn_of (record_of sh x y))
unfolding drawn_of record_of
sheet-whole v s x y sh e =
    boxes-whole x y (boxes_of (record_of sh x y)) (joined (curve_drawn x y) (curves_of (record_of sh x y)))
    (rw (curves-own v s x y sh e) (curves-whole x y sh.width sh.height (curves sh) (h v s x y sh e).curves_in))

-- the text of a chart's sheet has at most 9,467 bytes
module _ (v : Setting) (s : List ℕ) (x y : ℕ) (a : Result SheetRecord Refusal) (i : IsSheet v s x y a) (r : SheetRecord) (q : a ≡ Ok r) where
  w : Own v s x y r
  w = own v s x y r (sym i.whole ∙ q)

  pub own-text-most : length (text_of (drawn_of r)) ≤ 9467
  own-text-most = subst (λ (u : SheetRecord). length (text_of (drawn_of u)) ≤ 9467) (sym w.is) (sheet-text-most v s x y w.sheet w.laid)

  -- so a buffer of that length is never too short
  pub own-written : (buf : List ℕ) → 9467 ≤ length buf → written_of buf (sheet_answer r) ≡ Ok (length (text_of (drawn_of r)))
  own-written buf l = (own_serves v s x y a i r q).text buf (omega (arith, own-text-most))

  -- and every number in it is whole
  pub own-whole : All Whole (drawn_of r)
  own-whole = subst (λ (u : SheetRecord). All Whole (drawn_of u)) (sym w.is) (sheet-whole v s x y w.sheet w.laid)
