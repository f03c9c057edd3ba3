-- What holds of a reading if it is not refused, put together along `then`.
-- Assumes nothing.
use Prim.Native.Nat.{ℕ, zero, suc, ◌+◌, ◌-◌, ◌*◌, ◌≤◌, ◌<◌}
use native.Mathlib.Omega.{arith}
use native.Mathlib.Numerals.{add-one}
use native.Mathlib.Nat.{mul-suc}
use mathlib.Core.Path.{◌≡◌, refl, ap, ◌∙◌}
use mathlib.Core.Bool.{Bool, true, false, cond, ◌&&◌}
use mathlib.Core.List.{List, [], ◌∷◌}
use lib.Dec.{eqb, leb, ltb}
use lib.ListN.{length, get_or, take, drop}
use lib.Seq.{drop-cons}
use borrow.Author.Tests.{ltb-true, leb-true, eqb-true, ne_eqb}
use Rattle.chart.specs.Chart.{Part, Node, Counts, Board, ends_of, Got, got, refused, ◌then◌, byte, many, is_text, text_byte, characters, text, end, counts, body, entry, bodies, byte_c2, byte_b0}
use Rattle.refusals.specs.declared.Refusal.{Refusal}
use Rattle.chart.specs.Text.{Texted, empty, plain, degree, characters_in, character_bytes, ending}
use Rattle.laws.specs.Lists.{All}
use Rattle.chart.specs.Accepted.{Fitting, EndFits}

abbrev pub Gives : {A : Type 0} → Got A → (A → ℕ → Type 0) → Type 0
Gives (got x at) P = P x at
Gives (refused r) P = Unit {0}

pub gives_then : {A B : Type 0} (g : Got A) (f : A → ℕ → Got B) (P : A → ℕ → Type 0) (Q : B → ℕ → Type 0)
    → Gives g P → ((x : A) (at : ℕ) → P x at → Gives (f x at) Q) → Gives (g then f) Q
gives_then (got x at) f P Q p q = q x at p
gives_then (refused r) f P Q p q = tt

pub gives_if : {A : Type 0} (b : Bool) (g : Got A) (r : Refusal) (Q : A → ℕ → Type 0) → (b ≡ true → Gives g Q) → Gives (cond b g (refused r)) Q
gives_if true g r Q p = p refl
gives_if false g r Q p = tt

pub gives_unless : {A : Type 0} (b : Bool) (g : Got A) (r : Refusal) (Q : A → ℕ → Type 0) → (b ≡ false → Gives g Q) → Gives (cond b (refused r) g) Q
gives_unless true g r Q p = tt
gives_unless false g r Q p = p refl

pub gives_or : {A : Type 0} (b : Bool) (g h : Got A) (Q : A → ℕ → Type 0) → (b ≡ true → Gives g Q) → (b ≡ false → Gives h Q) → Gives (cond b g h) Q
gives_or true g h Q p q = p refl
gives_or false g h Q p q = q refl

-- the byte is inside the chart
pub record Byte (s : List ℕ) (at : ℕ) (b e : ℕ) : Type 0 where
  pub after : e ≡ at + 1
  pub inside : e ≤ length s
  pub is : b ≡ get_or s at 0

pub byte-gives : (s : List ℕ) (at : ℕ) → Gives (byte s at) (Byte s at)
byte-gives s at = gives_if (ltb at (length s)) (got (get_or s at 0) (at + 1)) _ (Byte s at) (λ e. let l : at < length s = ltb-true at (length s) e in record { after = refl; inside = omega arith; is = refl })

-- ---- characters
-- a text byte is small, so it begins no degree sign
pub text-low : (b : ℕ) → is_text b ≡ true → b ≤ 126
text-low b e = go (leb 32 b) (leb b 126) refl e
  where
    go : (c d : Bool) → leb b 126 ≡ d → c && d ≡ true → b ≤ 126
    go true true h q = leb-true b 126 h
    go true false h q = let z : ◌≡◌ {A = ℕ} 0 1 = cc in absurd (omega arith)
    go false d h q = let z : ◌≡◌ {A = ℕ} 0 1 = cc in absurd (omega arith)

pub low-no-sign : (b : ℕ) → b ≤ 126 → eqb b byte_c2 ≡ false
low-no-sign b l = ne_eqb b byte_c2 (λ e. omega arith)

pub text-no-sign : (b : ℕ) → is_text b ≡ true → eqb b byte_c2 ≡ false
text-no-sign b e = low-no-sign b (text-low b e)

-- a character that is no degree sign, and the others
pub counted-plain : (b : ℕ) (t : List ℕ) → eqb b byte_c2 ≡ false → characters_in (b ∷ t) ≡ suc (characters_in t)
counted-plain b [] e = refl
counted-plain b (c ∷ t) e = rw e

pub ending-from : (k : ℕ) (s : List ℕ) (at : ℕ) → at ≤ ending k s at
unfolding ending
ending-from zero s at = omega arith
ending-from (suc k) s at = omega (arith, ending-from k s (at + character_bytes (get_or s at 0)))

-- k bytes of text from at on, which are n characters
pub record Characters (s : List ℕ) (at k n e : ℕ) : Type 0 where
  pub after : e ≡ at + k
  pub inside : at ≤ length s → e ≤ length s
  pub few : n ≤ k
  pub ends : ending n s at ≡ e
  pub texted : Texted (take k (drop at s))
  pub counted : characters_in (take k (drop at s)) ≡ n

no-characters : (s : List ℕ) (at : ℕ) → Characters s at 0 0 at
unfolding ending
no-characters s at = record { after = omega arith; inside = λ h. h; few = omega arith; ends = refl; texted = empty; counted = refl }

module _ (s : List ℕ) (at b e : ℕ) (h : Byte s at b e) where
  here : drop at s ≡ b ∷ drop e s
  here =
      let l : at < length s = omega (arith, h.after, h.inside) in
      let f : e ≡ suc at = h.after ∙ add-one at in
      drop-cons s at 0 l ∙ rw (f, h.is)

  -- a text byte, and k bytes more
  plain_more : is_text b ≡ true → (k n f : ℕ) → Characters s e k n f → Characters s at (suc k) (suc n) f
  unfolding ending
  plain_more t k n f r =
      let o : eqb (get_or s at 0) byte_c2 ≡ false = rw (← h.is) (text-no-sign b t) in
      let i : f ≤ length s = r.inside h.inside in
      record {
        after = omega (arith, h.after, r.after);
        inside = λ l. i;
        few = omega (arith, r.few);
        ends = rw (o, ← h.after) r.ends;
        texted = rw here (plain t r.texted);
        counted = rw here (counted-plain b (take k (drop e s)) (text-no-sign b t) ∙ ap suc r.counted);
      }

  -- a degree sign, and k bytes more
  degree-more : eqb b byte_c2 ≡ true → (c g : ℕ) → Byte s e c g → eqb c byte_b0 ≡ true → (k n f : ℕ) → Characters s g k n f → Characters s at (suc (suc k)) (suc n) f
  unfolding ending
  degree-more t c g j u k n f r =
      let o : eqb (get_or s at 0) byte_c2 ≡ true = rw (← h.is) t in
      let i : f ≤ length s = r.inside j.inside in
      let two : g ≡ at + 2 = omega (arith, h.after, j.after) in
      let both : drop at s ≡ byte_c2 ∷ byte_b0 ∷ drop g s = here ∙ rw (eqb-true b byte_c2 t, after-here, eqb-true c byte_b0 u) in
      record {
        after = omega (arith, h.after, j.after, r.after);
        inside = λ l. i;
        few = omega (arith, r.few);
        ends = rw (o, ← two) r.ends;
        texted = rw both (degree r.texted);
        counted = rw both (ap suc r.counted);
      }
    where
      after-here : drop e s ≡ c ∷ drop g s
      after-here =
          let l : e < length s = omega (arith, j.after, j.inside) in
          let q : g ≡ suc e = j.after ∙ add-one e in
          drop-cons s e 0 l ∙ rw (q, j.is)

text-byte-gives : (s : List ℕ) (at : ℕ) → Gives (text_byte s at) (λ b e. Byte s at b e × (is_text b ≡ true))
text-byte-gives s at =
    gives_then (byte s at) _ (Byte s at) _ (byte-gives s at)
    (λ b e h. gives_if (is_text b) (got b e) _ (λ b e. Byte s at b e × (is_text b ≡ true)) (λ t. (h, t)))

pub characters_give : (k : ℕ) (s : List ℕ) (at : ℕ) → Gives (characters k s at) (Characters s at k)
characters_give zero s at = no-characters s at
characters_give (suc zero) s at =
    gives_then (text_byte s at) _ (λ b e. Byte s at b e × (is_text b ≡ true)) _ (text-byte-gives s at)
    (λ b e h. plain_more s at b e h.0 h.1 0 0 e (no-characters s e))
characters_give (suc (suc k)) s at =
    gives_then (byte s at) _ (Byte s at) _ (byte-gives s at)
    (λ b e h. gives_or (eqb b byte_c2) _ _ (Characters s at (suc (suc k)))
    (λ t. gives_then (byte s e) _ (Byte s e) _ (byte-gives s e)
    (λ c g j. gives_if (eqb c byte_b0) _ _ (Characters s at (suc (suc k)))
    (λ u. gives_then (characters k s g) _ (Characters s g k) _ (characters_give k s g)
    (λ n f r. degree-more s at b e h t c g j u k n f r))))
    (λ t. gives_if (is_text b) _ _ (Characters s at (suc (suc k)))
    (λ u. gives_then (characters (suc k) s e) _ (Characters s e (suc k)) _ (characters_give (suc k) s e)
    (λ n f r. plain_more s at b e h u (suc k) n f r))))

-- an item of at most m bytes, from at to e
pub record One {A : Type 0} (P : A → Type 0) (s : List ℕ) (m at : ℕ) (x : A) (e : ℕ) : Type 0 where
  pub fits : P x
  pub inside : e ≤ length s
  pub size : e ≤ at + m

-- k of them
pub record Many {A : Type 0} (P : A → Type 0) (s : List ℕ) (m at k : ℕ) (xs : List A) (e : ℕ) : Type 0 where
  pub each : All P xs
  pub count : length xs ≡ k
  pub inside : at ≤ length s → e ≤ length s
  pub size : e ≤ at + m * k

wider : (m k at e f : ℕ) → e ≤ at + m → f ≤ e + m * k → f ≤ at + m * suc k
wider m k at e f h r = omega (arith, mul-suc m k)

pub many_give : {A : Type 0} (k : ℕ) (P : A → Type 0) (s : List ℕ) (m : ℕ) (item : ℕ → Got A) → ((at : ℕ) → Gives (item at) (One P s m at))
    → (at : ℕ) → Gives (many k item at) (Many P s m at k)
many_give zero P s m item g at = record { each = tt; count = refl; inside = λ h. h; size = omega arith }
many_give (suc k) P s m item g at =
    gives_then (item at) _ (One P s m at) _ (g at)
    (λ x e h. gives_then (many k item e) _ (Many P s m e k) _ (many_give k P s m item g e)
    (λ xs f r. record { each = (h.fits, r.each); count = ap suc r.count; inside = λ l. r.inside h.inside; size = wider m k at e f h.size r.size }))

-- a text, and where it begins
record Text (s : List ℕ) (at : ℕ) (t : Part) (e : ℕ) : Type 0 where
  pub begins : t.at ≡ at + 1
  pub one : One (Fitting s) s 25 at t e

text-begins : (s : List ℕ) (at : ℕ) → Gives (text s at) (Text s at)
text-begins s at =
    gives_then (byte s at) _ (Byte s at) _ (byte-gives s at)
    (λ len begin h. gives_if (leb len 24) _ _ _
    (λ t. gives_then (characters len s begin) _ (Characters s begin len) _ (characters_give len s begin)
    (λ n e g.
    let l : len ≤ 24 = leb-true len 24 t in
    let i : e ≤ length s = g.inside h.inside in
    let all : ending n s begin - begin ≡ len = rw g.ends (omega (arith, g.after)) in
    let before : begin - 1 ≡ at = omega (arith, h.after) in
    record {
      begins = h.after;
      one = record {
        fits = record {
          inside = rw g.ends i;
          texted = rw all g.texted;
          counted = rw all g.counted;
          bytes = rw (all, before) h.is;
          most = rw all l;
          short = omega (arith, g.few);
        };
        inside = i;
        size = omega (arith, g.after, h.after);
      };
    })))

gives_more : {A : Type 0} (g : Got A) (P Q : A → ℕ → Type 0) → Gives g P → ((x : A) (at : ℕ) → P x at → Q x at) → Gives g Q
gives_more (got x at) P Q p f = f x at p
gives_more (refused r) P Q p f = tt

pub text-gives : (s : List ℕ) (at : ℕ) → Gives (text s at) (One (Fitting s) s 25 at)
text-gives s at = gives_more (text s at) (Text s at) _ (text-begins s at) (λ t e h. h.one)

pub end-gives : (s : List ℕ) (at : ℕ) → Gives (end s at) (One (EndFits s) s 26 at)
end-gives s at =
    gives_then (byte s at) _ (Byte s at) _ (byte-gives s at)
    (λ to e h. gives_then (text s e) _ (Text s e) _ (text-begins s e)
    (λ t f g.
    let z : t.at - 2 ≡ at = omega (arith, g.begins, h.after) in
    record { fits = record { byte = rw z h.is; text = g.one.fits }; inside = g.one.inside; size = omega (arith, h.after, g.one.size) }))

-- a node, its targets not yet judged
pub record Shaped (s : List ℕ) (p : Node) : Type 0 where
  pub sources : All (EndFits s) p.sources
  pub lines : All (Fitting s) p.lines
  pub few : length p.lines ≤ 4
  pub sinks : All (EndFits s) p.sinks

-- its body, from at to e
pub record Body (s : List ℕ) (at : ℕ) (p : Node) (e : ℕ) : Type 0 where
  pub shaped : Shaped s p
  pub inside : e ≤ length s
  pub size : e ≤ at + 103 + 26 * (length p.sources + length p.sinks)

pub record Counted (s : List ℕ) (at : ℕ) (c : Counts) (e : ℕ) : Type 0 where
  pub few : c.lines ≤ 4
  pub after : e ≡ at + 3
  pub inside : e ≤ length s

counts_give : (s : List ℕ) (at : ℕ) → Gives (counts s at) (Counted s at)
counts_give s at =
    gives_then (byte s at) _ (Byte s at) _ (byte-gives s at)
    (λ i a ha. gives_then (byte s a) _ (Byte s a) _ (byte-gives s a)
    (λ j b hb. gives_if (leb j 4) _ _ _
    (λ t. gives_then (byte s b) _ (Byte s b) _ (byte-gives s b)
    (λ k c hc. record { few = leb-true j 4 t; after = omega arith; inside = hc.inside }))))

pub body-gives : (s : List ℕ) (at : ℕ) → Gives (body s at) (Body s at)
body-gives s at =
    gives_then (counts s at) _ (Counted s at) _ (counts_give s at)
    (λ n c hc. gives_then (many n.sources (end s) c) _ (Many (EndFits s) s 26 c n.sources) _ (many_give n.sources (EndFits s) s 26 (end s) (end-gives s) c)
    (λ xs d hd. gives_then (many n.lines (text s) d) _ (Many (Fitting s) s 25 d n.lines) _ (many_give n.lines (Fitting s) s 25 (text s) (text-gives s) d)
    (λ ls e he. gives_then (many n.sinks (end s) e) _ (Many (EndFits s) s 26 e n.sinks) _ (many_give n.sinks (EndFits s) s 26 (end s) (end-gives s) e)
    (λ ys f hf.
    let i₁ : d ≤ length s = hd.inside hc.inside in
    let i₂ : e ≤ length s = he.inside i₁ in
    let i₃ : f ≤ length s = hf.inside i₂ in
    record {
      shaped = record { sources = hd.each; lines = he.each; few = omega arith; sinks = hf.each };
      inside = i₃;
      size = omega arith;
    }))))

-- m bodies, from at to e
pub record Bodies (s : List ℕ) (m at : ℕ) (ps : Board) (e : ℕ) : Type 0 where
  pub shaped : All (Shaped s) ps
  pub count : length ps ≡ m
  pub inside : at ≤ length s → e ≤ length s
  pub size : e ≤ at + 103 * m + 26 * ends_of ps

pub bodies_give : (m : ℕ) (s : List ℕ) (k at : ℕ) → Gives (bodies m s k at) (Bodies s m at)
bodies_give zero s k at = record { shaped = tt; count = refl; inside = λ h. h; size = omega arith }
bodies_give (suc m) s k at =
    gives_if (eqb (entry s k) at) _ _ _
    (λ t. gives_then (body s at) _ (Body s at) _ (body-gives s at)
    (λ p e h. gives_then (bodies m s (suc k) e) _ (Bodies s m e) _ (bodies_give m s (suc k) e)
    (λ ps f g. record { shaped = (h.shaped, g.shaped); count = ap suc g.count; inside = λ l. g.inside h.inside; size = omega arith })))
