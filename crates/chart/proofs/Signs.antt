-- Texts with degree signs and without, in document 02's words.
-- Assumes nothing.
use Prim.Native.Nat.{ℕ, zero, suc, ◌+◌, ◌*◌, ◌≤◌, ◌<◌}
use native.Mathlib.Omega.{arith}
use mathlib.Core.Path.{◌≡◌, refl, ap, sym, ◌∙◌, fun_ext}
use mathlib.Core.Bool.{Bool, true, false, cond}
use mathlib.Core.List.{List, [], ◌∷◌, ◌++◌}
use lib.Dec.{eqb, leb, ltb}
use lib.ListN.{length, get_or, take, drop, take-append-drop, length-drop}
use lib.Seq.{length-take-le}
use borrow.Author.Tests.{lt-ltb, le-ltb, eqb-true, ne_eqb}
use Rattle.chart.specs.Chart.{Part, End, Node, Board, Reading, ready, refusal, Got, got, refused, ◌then◌, byte, many, is_text, text_byte, byte_c2, byte_b0, characters, text, end, counts, body, entry, bodies, judged, under_two, chart}
use Rattle.refusals.specs.declared.Refusal.{Refusal}
use Rattle.refusals.specs.declared.Refusal.TheVariants.{CutBody, CutContents, LongText, ManyNodes, Misplaced, NotText, OtherFormat}
use Rattle.chart.specs.declared.Setting.{Setting}
use Rattle.chart.specs.Text.{Texted, empty, plain, degree, characters_in, ending, bytes_of, text_of}
use Rattle.chart.specs.Accepted.{Fitting}
use Rattle.chart.proofs.Gives.{Gives, text-no-sign, ending-from, Characters, characters_give}
use Rattle.chart.proofs.Complete.{byte_reads, characters-read}

-- ---- 'Agreement with the crate is from here on over charts without a degree sign': there nothing has changed

-- the text before degree signs: each byte is a character
abbrev pub plain_text : List ℕ → ℕ → Got Part
plain_text s at =
    byte s at then λ len begin. cond (leb len 24) (many len (text_byte s) begin then λ bytes end. got (record { at = begin; len = len }) end) (refused LongText)

-- the readers of a chart as Chart has them, but for the reader of a text, which is given
module _ (read : ℕ → Got Part) (s : List ℕ) where
  abbrev end_by : ℕ → Got End
  end_by at = byte s at then λ to at₁. read at₁ then λ t at₂. got (record { to = to; text = t }) at₂

  abbrev items_by : ℕ → ℕ → ℕ → ℕ → Got Node
  items_by i j k at =
      many i end_by at then λ sources at₁.
      many j read at₁ then λ lines at₂.
      many k end_by at₂ then λ sinks at₃.
      got (record { sources = sources; lines = lines; sinks = sinks }) at₃

  abbrev body_by : ℕ → Got Node
  body_by at = counts s at then λ c at₁. items_by c.sources c.lines c.sinks at₁

  abbrev bodies_by : ℕ → ℕ → ℕ → Got Board
  bodies_by zero k at = got [] at
  bodies_by (suc m) k at =
      cond (eqb (entry s k) at) (body_by at then λ node at₁. bodies_by m (suc k) at₁ then λ nodes at₂. got (node ∷ nodes) at₂) (refused Misplaced)

  abbrev pub chart_by : Setting → Reading
  chart_by w =
      let n = get_or s 1 0 in
      cond (ltb (length s) 2) (under_two (length s))
      (cond (eqb (get_or s 0 0) 1)
      (cond (leb n 32)
      (cond (leb (2 + 2 * n) (length s))
      (judged w s n (bodies_by n 0 (2 + 2 * n)))
      (refusal CutContents))
      (refusal ManyNodes))
      (refusal OtherFormat))

-- given Chart's reader of a text they read as Chart's do
bodies-by : (m : ℕ) (s : List ℕ) (k at : ℕ) → bodies m s k at ≡ bodies_by (text s) s m k at
bodies-by zero s k at = refl
bodies-by (suc m) s k at = rw (fun_ext (bodies-by m s (suc k)))

pub chart-by : (w : Setting) (s : List ℕ) → chart w s ≡ chart_by (text s) s w
unfolding chart
chart-by w s = rw (bodies-by (get_or s 1 0) s 0 (2 + 2 * get_or s 1 0))

-- no byte pair C2 B0 in the chart, and no C2 at its end (there document 02 says 6 where 9 was said)
abbrev pub Unsigned : List ℕ → Type 0
Unsigned s = (j : ℕ) → get_or s j 0 ≡ byte_c2 → (j + 1 < length s) × (get_or s (j + 1) 0 ≡ byte_b0 → ⊥)

-- k bytes were read, each a character
abbrev counted : ℕ → Got (List ℕ) → Got ℕ
counted k g = g then λ bytes end. got k end

-- read on, and on again
then-then : {A B C : Type 0} (g : Got A) (f : A → ℕ → Got B) (h : B → ℕ → Got C) → ((g then f) then h) ≡ (g then λ x at. f x at then h)
then-then (got x at) f h = refl
then-then (refused r) f h = refl

count-is : (k n e : ℕ) (g : Got (List ℕ)) → counted k g ≡ got n e → n ≡ k
count-is k n e (got bs at) h = cc
count-is k n e (refused r) h = let z : ◌≡◌ {A = ℕ} 0 1 = cc in absurd (omega arith)

module _ (s : List ℕ) (u : Unsigned s) where
  -- a C2 is refused by 9, as it was
  unsigned-characters : (k at : ℕ) → characters k s at ≡ counted k (many k (text_byte s) at)
  unsigned-characters zero at = refl
  unsigned-characters (suc zero) at = sym (then-then (text_byte s at) _ _)
  unsigned-characters (suc (suc k)) at = go (ltb at (length s)) (eqb b byte_c2) (is_text b) refl refl refl (unsigned-characters (suc k) (at + 1))
    where
      b : ℕ
      b = get_or s at 0

      go : (x y z : Bool) → ltb at (length s) ≡ x → eqb b byte_c2 ≡ y → is_text b ≡ z → characters (suc k) s (at + 1) ≡ counted (suc k) (many (suc k) (text_byte s) (at + 1))
          → characters (suc (suc k)) s at ≡ counted (suc (suc k)) (many (suc (suc k)) (text_byte s) at)
      go false y z e f g h = rw e
      go true true z e f g h =
          let c : b ≡ byte_c2 = eqb-true b byte_c2 f in
          rw (e, c, lt-ltb (at + 1) (length s) (u at c).0, ne_eqb (get_or s (at + 1) 0) byte_b0 (u at c).1)
      go true false false e f g h = rw (e, f, g)
      go true false true e f g h = rw (e, f, g, h) (then-then (many (suc k) (text_byte s) (at + 1)) _ _ ∙ sym (then-then (many (suc k) (text_byte s) (at + 1)) _ _))

  pub unsigned-text : (at : ℕ) → text s at ≡ plain_text s at
  unsigned-text at = go (ltb at (length s)) (leb k 24) refl refl
    where
      k : ℕ
      k = get_or s at 0

      go : (x y : Bool) → ltb at (length s) ≡ x → leb k 24 ≡ y → text s at ≡ plain_text s at
      go false y e f = rw e
      go true false e f = rw (e, f)
      go true true e f = rw (e, f, unsigned-characters k (at + 1)) (then-then (many k (text_byte s) (at + 1)) _ _)

  pub unsigned-chart : (w : Setting) → chart w s ≡ chart_by (plain_text s) s w
  unsigned-chart w = chart-by w s ∙ ap (λ (read : ℕ → Got Part). chart_by read s w) (fun_ext unsigned-text)

-- a text's end is its length further on, as before
pub unsigned-ending : (s : List ℕ) (t : Part) → Fitting s t → Unsigned s → ending t.len s t.at ≡ t.at + t.len
unsigned-ending s t f u =
    let from = ending-from t.len s t.at in
    let rest = drop t.at s in
    let k = length (text_of s t) in
    let long : k ≡ bytes_of s t = length-take-le (bytes_of s t) rest (omega (arith, f.inside, length-drop t.at s)) in
    let r = characters-read f.texted s t.at (drop (bytes_of s t) rest) (sym (take-append-drop (bytes_of s t) rest)) in
    let same : characters_in (text_of s t) ≡ k = count-is k _ (t.at + k) (many k (text_byte s) t.at) (sym (unsigned-characters s u k t.at) ∙ r.is) in
    omega (arith, from, f.counted, same, long)

-- ---- a chart that was accepted before is read as it was

-- what was read before is read so now
abbrev Kept : {A : Type 0} → Got A → Got A → Type 0
Kept (got x at) now = now ≡ got x at
Kept (refused r) now = Unit {0}

kept_self : {A : Type 0} (g : Got A) → Kept g g
kept_self (got x at) = refl
kept_self (refused r) = tt

kept_then : {A B : Type 0} (g h : Got A) (f k : A → ℕ → Got B) → Kept g h → ((x : A) (at : ℕ) → Kept (f x at) (k x at)) → Kept (g then f) (h then k)
kept_then (got x at) h f k p q = rw p (q x at)
kept_then (refused r) h f k p q = tt

kept_if : {A : Type 0} (b : Bool) (g h : Got A) (r : Refusal) → Kept g h → Kept (cond b g (refused r)) (cond b h (refused r))
kept_if true g h r p = p
kept_if false g h r p = tt

kept-many : {A : Type 0} (k : ℕ) (f g : ℕ → Got A) → ((at : ℕ) → Kept (f at) (g at)) → (at : ℕ) → Kept (many k f at) (many k g at)
kept-many zero f g p at = refl
kept-many (suc k) f g p at = kept_then (f at) (g at) _ _ (p at) (λ x e. kept_then (many k f e) (many k g e) _ _ (kept-many k f g p e) (λ xs end. refl))

-- k bytes that were read, and how many characters these are
kept-counted : {A : Type 0} (k : ℕ) (g : Got (List ℕ)) (h : Got ℕ) (f : ℕ → ℕ → Got A) → Kept (counted k g) h → Kept (g then λ bytes end. f k end) (h then f)
kept-counted k (got bs at) h f p = rw p (kept_self (f k at))
kept-counted k (refused r) h f p = tt

module _ (s : List ℕ) where
  kept-characters : (k at : ℕ) → Kept (counted k (many k (text_byte s) at)) (characters k s at)
  kept-characters zero at = refl
  kept-characters (suc zero) at = rw (then-then {C = ℕ} (text_byte s at) (λ b e. got (b ∷ []) e) (λ bytes end. got 1 end)) (kept_self (text_byte s at then λ b e. got 1 e))
  kept-characters (suc (suc k)) at = go (ltb at (length s)) (is_text b) refl refl (kept-characters (suc k) (at + 1))
    where
      b : ℕ
      b = get_or s at 0

      go : (x y : Bool) → ltb at (length s) ≡ x → is_text b ≡ y → Kept (counted (suc k) (many (suc k) (text_byte s) (at + 1))) (characters (suc k) s (at + 1))
          → Kept (counted (suc (suc k)) (many (suc (suc k)) (text_byte s) at)) (characters (suc (suc k)) s at)
      go false y e f h = rw e tt
      go true false e f h = rw (e, f) tt
      go true true e f h =
          rw (e, f, text-no-sign b f, then-then {C = ℕ} (many (suc k) (text_byte s) (at + 1)) (λ bs end. got (b ∷ bs) end) (λ bs end. got (suc (suc k)) end))
          (kept-counted (suc k) (many (suc k) (text_byte s) (at + 1)) (characters (suc k) s (at + 1)) (λ n end. got (suc n) end) h)

  kept-text : (at : ℕ) → Kept (plain_text s at) (text s at)
  kept-text at =
      kept_then (byte s at) (byte s at) _ _ (kept_self (byte s at))
      (λ len begin. kept_if (leb len 24) _ _ LongText
      (kept-counted len (many len (text_byte s) begin) (characters len s begin) (λ n end. got (part begin n) end) (kept-characters len begin)))
    where
      part : ℕ → ℕ → Part
      part begin n = record { at = begin; len = n }

  kept-end : (at : ℕ) → Kept (end_by (plain_text s) s at) (end s at)
  kept-end at =
      kept_then (byte s at) (byte s at) _ _ (kept_self (byte s at))
      (λ to e. kept_then (plain_text s e) (text s e) _ _ (kept-text e) (λ t f. refl))

  kept-body : (at : ℕ) → Kept (body_by (plain_text s) s at) (body s at)
  kept-body at =
      kept_then (counts s at) (counts s at) _ _ (kept_self (counts s at))
      (λ c a. kept_then (many c.sources (end_by (plain_text s) s) a) (many c.sources (end s) a) _ _ (kept-many c.sources _ _ kept-end a)
      (λ xs d. kept_then (many c.lines (plain_text s) d) (many c.lines (text s) d) _ _ (kept-many c.lines _ _ kept-text d)
      (λ ls e. kept_then (many c.sinks (end_by (plain_text s) s) e) (many c.sinks (end s) e) _ _ (kept-many c.sinks _ _ kept-end e)
      (λ ys f. refl))))

  kept-bodies : (m k at : ℕ) → Kept (bodies_by (plain_text s) s m k at) (bodies m s k at)
  kept-bodies zero k at = refl
  kept-bodies (suc m) k at =
      kept_if (eqb (entry s k) at) _ _ Misplaced
      (kept_then (body_by (plain_text s) s at) (body s at) _ _ (kept-body at)
      (λ p e. kept_then (bodies_by (plain_text s) s m (suc k) e) (bodies m s (suc k) e) _ _ (kept-bodies m (suc k) e)
      (λ ps f. refl)))

  module _ (w : Setting) (ps : Board) where
    kept-judged : (n : ℕ) (g h : Got Board) → Kept g h → judged w s n g ≡ ready ps → judged w s n h ≡ ready ps
    kept-judged n (got qs at) h p e = rw p e
    kept-judged n (refused r) h p e = let z : ◌≡◌ {A = ℕ} 0 1 = cc in absurd (omega arith)

    pub accepted-before : chart_by (plain_text s) s w ≡ ready ps → chart w s ≡ ready ps
    unfolding chart
    accepted-before = go (ltb (length s) 2) (eqb (get_or s 0 0) 1) (leb n 32) (leb (2 + 2 * n) (length s))
      where
        n : ℕ
        n = get_or s 1 0

        tested : Bool → Bool → Bool → Bool → Got Board → Reading
        tested a b c d g = cond a (under_two (length s)) (cond b (cond c (cond d (judged w s n g) (refusal CutContents)) (refusal ManyNodes)) (refusal OtherFormat))

        go : (a b c d : Bool) → tested a b c d (bodies_by (plain_text s) s n 0 (2 + 2 * n)) ≡ ready ps → tested a b c d (bodies n s 0 (2 + 2 * n)) ≡ ready ps
        go true b c d e = e
        go false false c d e = e
        go false true false d e = e
        go false true true false e = e
        go false true true true e = kept-judged n (bodies_by (plain_text s) s n 0 (2 + 2 * n)) (bodies n s 0 (2 + 2 * n)) (kept-bodies n 0 (2 + 2 * n)) e

-- ---- 'Either byte without its partner in the same text is refused by 9'

-- if refused, by 9
abbrev ByNine : {A : Type 0} → Got A → Type 0
ByNine (got x at) = Unit {0}
ByNine (refused r) = r ≡ NotText

nine_then : {A B : Type 0} (g : Got A) (f : A → ℕ → Got B) → ByNine g → ((x : A) (at : ℕ) → ByNine (f x at)) → ByNine (g then f)
nine_then (got x at) f p q = q x at
nine_then (refused r) f p q = p

nine_if : {A : Type 0} (b : Bool) (g h : Got A) → ByNine g → ByNine h → ByNine (cond b g h)
nine_if true g h p q = p
nine_if false g h p q = q

characters_nine : (k : ℕ) (s : List ℕ) (at : ℕ) → at + k ≤ length s → ByNine (characters k s at)
characters_nine zero s at l = tt
characters_nine (suc zero) s at l =
    rw (lt-ltb at (length s) (omega arith)) (nine_then (cond (is_text (get_or s at 0)) (got (get_or s at 0) (at + 1)) (refused NotText)) _ (nine_if (is_text (get_or s at 0)) _ _ tt refl) (λ x e. tt))
characters_nine (suc (suc k)) s at l =
    rw (lt-ltb at (length s) (omega arith), lt-ltb (at + 1) (length s) (omega arith))
    (nine_if (eqb (get_or s at 0) byte_c2) _ _
    (nine_if (eqb (get_or s (at + 1) 0) byte_b0) _ _ (nine_then (characters k s (at + 1 + 1)) _ (characters_nine k s (at + 1 + 1) (omega arith)) (λ n e. tt)) refl)
    (nine_if (is_text (get_or s at 0)) _ _ (nine_then (characters (suc k) s (at + 1)) _ (characters_nine (suc k) s (at + 1) (omega arith)) (λ n e. tt)) refl))

-- a text whose bytes are all there is read exactly if it is text bytes and degree signs, and is else refused by 9
module _ (s : List ℕ) (at k : ℕ) (there : at + k ≤ length s) where
  abbrev bytes : List ℕ
  bytes = take k (drop at s)

  long : length bytes ≡ k
  long = length-take-le k (drop at s) (omega (arith, length-drop at s))

  pub texted-read : Texted bytes → characters k s at ≡ got (characters_in bytes) (at + k)
  texted-read t = rw long at (characters-read t s at (drop k (drop at s)) (sym (take-append-drop k (drop at s)))).is

  pub else_nine : (Texted bytes → ⊥) → characters k s at ≡ refused NotText
  else_nine other = go (characters k s at) (characters_give k s at) (characters_nine k s at there)
    where
      go : (g : Got ℕ) → Gives g (Characters s at k) → ByNine g → g ≡ refused NotText
      go (got n e) c b = absurd (other c.texted)
      go (refused r) c b = ap refused b

-- ---- 'where the chart ends after a C2 whose text goes on, it is 6'; and so where it ends after a character

-- after text bytes and degree signs the chart has only l
module _ (l : List ℕ) (cut : (k : ℕ) (s : List ℕ) (at : ℕ) → drop at s ≡ l → length l < k → characters k s at ≡ refused CutBody) where
  begun-cut : {t : List ℕ} → Texted t → (k : ℕ) (s : List ℕ) (at : ℕ) → drop at s ≡ t ++ l → length t + length l < k → characters k s at ≡ refused CutBody
  begun-cut empty k s at e h = cut k s at e (omega arith)
  begun-cut (plain {b = b} {t = t} i w) zero s at e h = absurd (omega arith)
  begun-cut (plain {b = b} {t = t} i w) (suc zero) s at e h = absurd (omega arith)
  begun-cut (plain {b = b} {t = t} i w) (suc (suc k)) s at e h =
      let r = byte_reads s at b (t ++ l) e in
      let c = begun-cut w (suc k) s (at + 1) r.rest (omega arith) in
      rw (r.is, text-no-sign b i, i, c)
  begun-cut (degree {t = t} w) zero s at e h = absurd (omega arith)
  begun-cut (degree {t = t} w) (suc zero) s at e h = absurd (omega arith)
  begun-cut (degree {t = t} w) (suc (suc k)) s at e h =
      let r = byte_reads s at byte_c2 (byte_b0 ∷ (t ++ l)) e in
      let q = byte_reads s (at + 1) byte_b0 (t ++ l) r.rest in
      let c = begun-cut w k s (at + 1 + 1) q.rest (omega arith) in
      rw (r.is, q.is, c)

past : (s : List ℕ) (at : ℕ) → drop at s ≡ [] → length s ≤ at
past s at e = omega (arith, length-drop at s, ap length e)

cut-here : (k : ℕ) (s : List ℕ) (at : ℕ) → drop at s ≡ [] → 0 < k → characters k s at ≡ refused CutBody
cut-here zero s at e h = absurd (omega arith)
cut-here (suc zero) s at e h = rw (le-ltb at (length s) (past s at e))
cut-here (suc (suc k)) s at e h = rw (le-ltb at (length s) (past s at e))

cut-sign : (k : ℕ) (s : List ℕ) (at : ℕ) → drop at s ≡ byte_c2 ∷ [] → 1 < k → characters k s at ≡ refused CutBody
cut-sign zero s at e h = absurd (omega arith)
cut-sign (suc zero) s at e h = absurd (omega arith)
cut-sign (suc (suc k)) s at e h = let r = byte_reads s at byte_c2 [] e in rw (r.is, le-ltb (at + 1) (length s) (past s (at + 1) r.rest))

pub six-after-sign : {t : List ℕ} → Texted t → (k : ℕ) (s : List ℕ) (at : ℕ) → drop at s ≡ t ++ (byte_c2 ∷ []) → length t + 1 < k → characters k s at ≡ refused CutBody
six-after-sign = begun-cut (byte_c2 ∷ []) cut-sign

pub six-after-text : {t : List ℕ} → Texted t → (k : ℕ) (s : List ℕ) (at : ℕ) → drop at s ≡ t ++ [] → length t + 0 < k → characters k s at ≡ refused CutBody
six-after-text = begun-cut [] cut-here
