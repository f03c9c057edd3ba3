-- Each board within the limits, written as document 01 says, is accepted and read as itself.
-- Assumes nothing.
use Prim.Native.Nat.{ℕ, zero, suc, ◌+◌, ◌*◌, ◌/◌, ◌%◌, ◌≤◌, ◌<◌}
use native.Mathlib.Omega.{arith}
use native.Mathlib.Numerals.{add-one}
use native.Mathlib.Nat.{div-add-mod', mod-lt}
use mathlib.Core.Path.{◌≡◌, refl, ap, sym, ◌∙◌}
use Rattle.std.specs.Prelude.{None}
use mathlib.Core.Bool.{true}
use mathlib.Core.List.{List, [], ◌∷◌, ◌++◌, append_assoc, append-nil}
use lib.Dec.{leb}
use lib.ListN.{length, get_or, drop, length-append}
use lib.Seq.{drop-append_seam}
use borrow.Author.Tests.{lt-ltb, le-ltb, le-leb, eq-eqb}
use Rattle.chart.specs.Chart.{ready, Got, got, byte, many, characters, text, end, body, entry, bodies, ends_of, targets, targets_of, first_outside, outside_in, chart, byte_c2, byte_b0}
use Rattle.chart.specs.Text.{Texted, empty, plain, degree, characters_in}
use Rattle.laws.specs.Lists.{All}
use Rattle.chart.specs.declared.Setting.{Setting}
use Rattle.chart.specs.declared.Setting.TheVariants.{Default, Strict}
use Rattle.chart.specs.Encode.{Written, Drawn, text_bytes, end_bytes, joined, body_bytes, contents_bytes, encode, place_text, place_end, placed, place_node, place_all, TextWithin, EndWithin, NodeWithin, drawn_ends, Within}
use Rattle.laws.proofs.Lists.{all_join}
use Rattle.chart.proofs.Gives.{text-low, text-no-sign}
use Rattle.chart.proofs.Accepts.{accepted}

-- ---- a byte at its place
pub record Here (s : List ℕ) (at b : ℕ) (l : List ℕ) : Type 0 where
  pub inside : at < length s
  pub is : get_or s at 0 ≡ b
  pub rest : drop (suc at) s ≡ l

here : (at : ℕ) (s : List ℕ) (b : ℕ) (l : List ℕ) → drop at s ≡ b ∷ l → Here s at b l
here zero [] b l e = let z : ◌≡◌ {A = ℕ} 0 1 = cc in absurd (omega arith)
here zero (x ∷ xs) b l e = record { inside = omega arith; is = cc; rest = cc }
here (suc at) [] b l e = let z : ◌≡◌ {A = ℕ} 0 1 = cc in absurd (omega arith)
here (suc at) (x ∷ xs) b l e = let h = here at xs b l e in record { inside = omega (arith, h.inside); is = h.is; rest = h.rest }

-- the reading g gives x up to e, where l is what follows
pub record Reads {A : Type 0} (s : List ℕ) (g : Got A) (x : A) (e : ℕ) (l : List ℕ) : Type 0 where
  pub is : g ≡ got x e
  pub rest : drop e s ≡ l

pub byte_reads : (s : List ℕ) (at b : ℕ) (l : List ℕ) → drop at s ≡ b ∷ l → Reads s (byte s at) b (at + 1) l
byte_reads s at b l e = let h = here at s b l e in record { is = rw (lt-ltb at (length s) h.inside, h.is); rest = rw (add-one at) h.rest }

pub characters-read : {t : List ℕ} → Texted t → (s : List ℕ) (at : ℕ) (l : List ℕ) → drop at s ≡ t ++ l → Reads s (characters (length t) s at) (characters_in t) (at + length t) l
characters-read empty s at l e = let z : at + 0 ≡ at = omega arith in record { is = rw z; rest = rw z e }
characters-read (plain {b = b} {t = []} i w) s at l e = let h = byte_reads s at b l e in record { is = rw (h.is, i); rest = h.rest }
characters-read (plain {b = b} {t = c ∷ t} i w) s at l e =
    let h = byte_reads s at b (c ∷ (t ++ l)) e in
    let r = characters-read w s (at + 1) l h.rest in
    let z : at + suc (suc (length t)) ≡ at + 1 + suc (length t) = omega arith in
    record { is = rw (h.is, text-no-sign b i, i, r.is, z); rest = rw z r.rest }
characters-read (degree {t = t} w) s at l e =
    let h = byte_reads s at byte_c2 (byte_b0 ∷ (t ++ l)) e in
    let k = byte_reads s (at + 1) byte_b0 (t ++ l) h.rest in
    let r = characters-read w s (at + 1 + 1) l k.rest in
    let z : at + suc (suc (length t)) ≡ at + 1 + 1 + length t = omega arith in
    record { is = rw (h.is, k.is, r.is, z); rest = rw z r.rest }

text-reads : (t : List ℕ) (s : List ℕ) (at : ℕ) (l : List ℕ) → drop at s ≡ text_bytes t ++ l → TextWithin t → Reads s (text s at) (place_text at t) (at + length (text_bytes t)) l
text-reads t s at l e w =
    let h = byte_reads s at (length t) (t ++ l) e in
    let r = characters-read w.texted s (at + 1) l h.rest in
    let z : at + suc (length t) ≡ at + 1 + length t = omega arith in
    record { is = rw (h.is, le-leb (length t) 24 w.short, r.is, z); rest = rw z r.rest }

end_reads : (v : Setting) (n : ℕ) (x : Written) (s : List ℕ) (at : ℕ) (l : List ℕ) → drop at s ≡ end_bytes x ++ l → EndWithin v n x → Reads s (end s at) (place_end at x) (at + length (end_bytes x)) l
end_reads v n x s at l e w =
    let h = byte_reads s at x.to (text_bytes x.text ++ l) e in
    let r = text-reads x.text s (at + 1) l h.rest w.text in
    let z : at + suc (suc (length x.text)) ≡ at + 1 + suc (length x.text) = omega arith in
    record { is = rw (h.is, r.is, z); rest = rw z r.rest }

-- ---- items one after the other
module _ {A B : Type 0} (bytes : A → List ℕ) (place : ℕ → A → B) (P : A → Type 0) (s : List ℕ) (item : ℕ → Got B)
    (one : (x : A) (at : ℕ) (l : List ℕ) → drop at s ≡ bytes x ++ l → P x → Reads s (item at) (place at x) (at + length (bytes x)) l) where
  many_read : (xs : List A) (at : ℕ) (l : List ℕ) → drop at s ≡ joined bytes xs ++ l → All P xs → Reads s (many (length xs) item at) (placed bytes place at xs) (at + length (joined bytes xs)) l
  many_read [] at l e a = let z : at + 0 ≡ at = omega arith in record { is = rw z; rest = rw z e }
  many_read (x ∷ xs) at l e a =
      let h = one x at (joined bytes xs ++ l) (e ∙ append_assoc (bytes x) (joined bytes xs) l) a.0 in
      let r = many_read xs (at + length (bytes x)) l h.rest a.1 in
      let z : at + length (bytes x ++ joined bytes xs) ≡ at + length (bytes x) + length (joined bytes xs) = omega (arith, length-append (bytes x) (joined bytes xs)) in
      record { is = rw (h.is, r.is, z); rest = rw z r.rest }

-- ---- a body
module _ (v : Setting) (n : ℕ) (p : Drawn) (s : List ℕ) (at : ℕ) (l : List ℕ) (w : NodeWithin v n p) where
  body_reads : drop at s ≡ body_bytes p ++ l → Reads s (body s at) (place_node at p) (at + length (body_bytes p)) l
  body_reads e =
      let i = length p.sources in
      let j = length p.lines in
      let k = length p.sinks in
      let xs = joined end_bytes p.sources in
      let ls = joined text_bytes p.lines in
      let ys = joined end_bytes p.sinks in
      let a = byte_reads s at i (j ∷ k ∷ ((xs ++ (ls ++ ys)) ++ l)) e in
      let b = byte_reads s (at + 1) j (k ∷ ((xs ++ (ls ++ ys)) ++ l)) a.rest in
      let c = byte_reads s (at + 1 + 1) k ((xs ++ (ls ++ ys)) ++ l) b.rest in
      let three : at + 1 + 1 + 1 ≡ at + 3 = omega arith in
      let f : drop (at + 3) s ≡ xs ++ (ls ++ (ys ++ l)) = rw (← three) (c.rest ∙ append_assoc xs (ls ++ ys) l ∙ ap (λ (m : List ℕ). xs ++ m) (append_assoc ls ys l)) in
      let d = many_read end_bytes place_end (EndWithin v n) s (end s) (λ x m r q h. end_reads v n x s m r q h) p.sources (at + 3) (ls ++ (ys ++ l)) f w.sources in
      let g = many_read text_bytes place_text TextWithin s (text s) (λ x m r q h. text-reads x s m r q h) p.lines (at + 3 + length xs) (ys ++ l) d.rest w.lines in
      let h = many_read end_bytes place_end (EndWithin v n) s (end s) (λ x m r q h. end_reads v n x s m r q h) p.sinks (at + 3 + length xs + length ls) l g.rest w.sinks in
      let z : at + length (body_bytes p) ≡ at + 3 + length xs + length ls + length ys = omega (arith, length-append xs (ls ++ ys), length-append ls ys) in
      record { is = rw (a.is, b.is, le-leb j 4 w.few, c.is, three, d.is, g.is, h.is, z); rest = rw z h.rest }

-- ---- the contents
abbrev Entries : List ℕ → ℕ → ℕ → List Drawn → Type 0
Entries s k at [] = Unit {0}
Entries s k at (p ∷ ps) = (entry s k ≡ at) × Entries s (suc k) (at + length (body_bytes p)) ps

entries_read : (ps : List Drawn) (s : List ℕ) (k at : ℕ) (l : List ℕ) → drop (2 + 2 * k) s ≡ contents_bytes at ps ++ l → Entries s k at ps
entries_read [] s k at l e = tt
entries_read (p ∷ ps) s k at l e =
    let a = here (2 + 2 * k) s (at % 256) ((at / 256) ∷ (contents_bytes (at + length (body_bytes p)) ps ++ l)) e in
    let b = here (suc (2 + 2 * k)) s (at / 256) (contents_bytes (at + length (body_bytes p)) ps ++ l) a.rest in
    let three : 3 + 2 * k ≡ suc (2 + 2 * k) = omega arith in
    let next : 2 + 2 * suc k ≡ suc (suc (2 + 2 * k)) = omega arith in
    let whole : at % 256 + 256 * (at / 256) ≡ at = omega (arith, div-add-mod' at 256) in
    (rw (three, a.is, b.is) whole, entries_read ps s (suc k) (at + length (body_bytes p)) l (rw next b.rest))

contents_length : (at : ℕ) (ps : List Drawn) → length (contents_bytes at ps) ≡ 2 * length ps
contents_length at [] = refl
contents_length at (p ∷ ps) = omega (arith, contents_length (at + length (body_bytes p)) ps)

-- ---- the bodies
bodies-read : (v : Setting) (n : ℕ) (ps : List Drawn) (s : List ℕ) (k at : ℕ) (l : List ℕ) → Entries s k at ps → drop at s ≡ joined body_bytes ps ++ l → All (NodeWithin v n) ps
    → Reads s (bodies (length ps) s k at) (placed body_bytes place_node at ps) (at + length (joined body_bytes ps)) l
bodies-read v n [] s k at l o e w = let z : at + 0 ≡ at = omega arith in record { is = rw z; rest = rw z e }
bodies-read v n (p ∷ ps) s k at l o e w =
    let h = body_reads v n p s at (joined body_bytes ps ++ l) w.0 (e ∙ append_assoc (body_bytes p) (joined body_bytes ps) l) in
    let r = bodies-read v n ps s (suc k) (at + length (body_bytes p)) l o.1 h.rest w.1 in
    let z : at + length (body_bytes p ++ joined body_bytes ps) ≡ at + length (body_bytes p) + length (joined body_bytes ps) = omega (arith, length-append (body_bytes p) (joined body_bytes ps)) in
    record { is = rw (eq-eqb (entry s k) at o.0, h.is, r.is, z); rest = rw z r.rest }

-- ---- 11 and 12
placed-length : {A B : Type 0} (bytes : A → List ℕ) (place : ℕ → A → B) (at : ℕ) (xs : List A) → length (placed bytes place at xs) ≡ length xs
placed-length bytes place at [] = refl
placed-length bytes place at (x ∷ xs) = ap suc (placed-length bytes place (at + length (bytes x)) xs)

ends-placed : (at : ℕ) (ps : List Drawn) → ends_of (placed body_bytes place_node at ps) ≡ drawn_ends ps
ends-placed at [] = refl
ends-placed at (p ∷ ps) =
    rw (
      placed-length end_bytes place_end (at + 3) p.sources,
      placed-length end_bytes place_end (at + 3 + length (joined end_bytes p.sources) + length (joined text_bytes p.lines)) p.sinks,
      ends-placed (at + length (body_bytes p)) ps,
    )

first_past : (n at : ℕ) (xs : List Written) (ts : List ℕ) → All (EndWithin Strict n) xs → first_outside (targets (placed end_bytes place_end at xs) ++ ts) n ≡ first_outside ts n
first_past n at [] ts a = refl
first_past n at (x ∷ xs) ts a = rw (lt-ltb x.to n (a.0.target refl)) (first_past n (at + length (end_bytes x)) xs ts a.1)

none-outside : (n at : ℕ) (ps : List Drawn) → All (NodeWithin Strict n) ps → first_outside (targets_of (placed body_bytes place_node at ps)) n ≡ None
none-outside n at [] a = refl
none-outside n at (p ∷ ps) a =
    let q = place_node at p in
    let ts = targets_of (placed body_bytes place_node (at + length (body_bytes p)) ps) in
    rw (append_assoc (targets q.sinks) (targets q.sources) ts)
    (first_past n (at + 3 + length (joined end_bytes p.sources) + length (joined text_bytes p.lines)) p.sinks (targets q.sources ++ ts) a.0.sinks
    ∙ first_past n (at + 3) p.sources ts a.0.sources
    ∙ none-outside n (at + length (body_bytes p)) ps a.1)

none_in : (v : Setting) (n at : ℕ) (ps : List Drawn) → All (NodeWithin v n) ps → outside_in v (targets_of (placed body_bytes place_node at ps)) n ≡ None
none_in Default n at ps a = refl
none_in Strict n at ps a = none-outside n at ps a

-- ---- the whole chart
module _ (v : Setting) (ps : List Drawn) (w : Within v ps) where
  abbrev s : List ℕ
  s = encode ps

  abbrev n : ℕ
  n = length ps

  abbrev inner : List ℕ
  inner = contents_bytes (2 + 2 * n) ps

  abbrev outer : List ℕ
  outer = joined body_bytes ps

  size : length s ≡ 2 + 2 * n + length outer
  size = omega (arith, length-append inner outer, contents_length (2 + 2 * n) ps)

  from : drop (2 + 2 * n) s ≡ outer ++ []
  from =
      let z : 2 + 2 * n ≡ suc (suc (length inner)) = omega (arith, contents_length (2 + 2 * n) ps) in
      ap (λ (k : ℕ). drop k s) z ∙ drop-append_seam inner outer ∙ sym (append-nil outer)

  pub complete : chart v (encode ps) ≡ ready (place_all ps)
  unfolding chart
  complete =
      let r = bodies-read v n ps s 0 (2 + 2 * n) [] (entries_read ps s 0 (2 + 2 * n) outer refl) from w.each in
      let f : leb (ends_of (place_all ps)) 64 ≡ true = le-leb (ends_of (place_all ps)) 64 (omega (arith, ends-placed (2 + 2 * n) ps, w.ends)) in
      rw (
        le-ltb (length s) 2 (omega (arith, size)),
        le-leb n 32 w.nodes,
        le-leb (2 + 2 * n) (length s) (omega (arith, size)),
        r.is,
        le-ltb (2 + 2 * n + length outer) (length s) (omega (arith, size)),
        f,
        none_in v n (2 + 2 * n) ps w.each,
      )

-- ---- and it is made of bytes
abbrev Byte : ℕ → Type 0
Byte b = b < 256

joined_bytes : {A : Type 0} (P : A → Type 0) (bytes : A → List ℕ) → ((x : A) → P x → All Byte (bytes x)) → (xs : List A) → All P xs → All Byte (joined bytes xs)
joined_bytes P bytes f [] a = tt
joined_bytes P bytes f (x ∷ xs) a = all_join Byte (bytes x) (joined bytes xs) (f x a.0) (joined_bytes P bytes f xs a.1)

texted-made : {t : List ℕ} → Texted t → All Byte t
texted-made empty = tt
texted-made (plain {b = b} i w) = (omega (arith, text-low b i), texted-made w)
texted-made (degree w) = (omega arith, (omega arith, texted-made w))

text-made : (t : List ℕ) → TextWithin t → All Byte (text_bytes t)
text-made t w = (omega (arith, w.short), texted-made w.texted)

module _ (v : Setting) (n : ℕ) where
  end-made : (e : Written) → EndWithin v n e → All Byte (end_bytes e)
  end-made e w = (w.byte, text-made e.text w.text)

  body-made : (p : Drawn) → NodeWithin v n p → length p.sources ≤ 64 → length p.sinks ≤ 64 → All Byte (body_bytes p)
  body-made p w i k = (
    omega arith,
    (
      omega (arith, w.few),
      (
        omega arith,
        all_join Byte (joined end_bytes p.sources) (joined text_bytes p.lines ++ joined end_bytes p.sinks)
            (joined_bytes (EndWithin v n) end_bytes end-made p.sources w.sources)
            (all_join Byte (joined text_bytes p.lines) (joined end_bytes p.sinks)
            (joined_bytes TextWithin text_bytes text-made p.lines w.lines)
            (joined_bytes (EndWithin v n) end_bytes end-made p.sinks w.sinks)),
      ),
    ),
  )

  bodies-made : (ps : List Drawn) → All (NodeWithin v n) ps → drawn_ends ps ≤ 64 → All Byte (joined body_bytes ps)
  bodies-made [] w h = tt
  bodies-made (p ∷ ps) w h =
      all_join Byte (body_bytes p) (joined body_bytes ps) (body-made p w.0 (omega arith) (omega arith)) (bodies-made ps w.1 (omega arith))

contents_made : (at : ℕ) (ps : List Drawn) → at + length (joined body_bytes ps) < 65536 → All Byte (contents_bytes at ps)
contents_made at [] h = tt
contents_made at (p ∷ ps) h =
    let z = length-append (body_bytes p) (joined body_bytes ps) in
    (mod-lt at (omega arith), (omega (arith, div-add-mod' at 256), contents_made (at + length (body_bytes p)) ps (omega arith)))

pub complete-bytes : (v : Setting) (ps : List Drawn) → Within v ps → All (λ b. b < 256) (encode ps)
complete-bytes v ps w =
    let a = accepted v (encode ps) (place_all ps) (complete v ps w) in (
      omega arith,
      (
        omega (arith, w.nodes),
        all_join Byte (contents_bytes (2 + 2 * length ps) ps) (joined body_bytes ps)
            (contents_made (2 + 2 * length ps) ps (omega (arith, size v ps w, a.size)))
            (bodies-made v (length ps) ps w.each w.ends),
      ),
    )
