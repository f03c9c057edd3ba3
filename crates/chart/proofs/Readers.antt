-- The readers' answers: what an answer says of the reading behind it, and one turn of each loop.
-- Assumes nothing.
use Prim.Native.Nat.{ℕ, zero, suc, ◌+◌, ◌-◌, ◌≤◌, ◌<◌}
use native.Mathlib.Omega.{arith}
use native.Mathlib.Numerals.{add-one}
use mathlib.Core.Path.{◌≡◌, refl, sym, ◌∙◌}
use mathlib.Core.Bool.{Bool, true, false}
use mathlib.Core.List.{List, ◌∷◌, map}
use lib.Dec.{eqb, ltb}
use lib.ListN.{length, get_or}
use borrow.Author.Tests.{le-ltb, ltb-false, eq-eqb, ne_eqb}
use Rattle.std.specs.Prelude.{Result, Ok, Err}
use Rattle.refusals.specs.declared.Refusal.{Refusal}
use Rattle.refusals.specs.declared.Refusal.TheVariants.{Misplaced}
use Rattle.laws.proofs.Lists.{one_more}
use Rattle.tables.specs.declared.Table.{Table}
use Rattle.tables.specs.Tables.{pushed}
use Rattle.chart.specs.declared.Board.{Board as Tables}
use Rattle.chart.specs.Chart.{Part, End, Node, Counts, Board, Got, got, refused, ◌then◌, byte, many, is_text, characters, text, end, items, counts, body, bodies, entry, byte_c2, byte_b0}
use Rattle.chart.specs.Tables.{Items, Lines, item_of, line_of}
use Rattle.chart.specs.code.Filled.{push_all, with_node, with_nodes}
use Rattle.chart.specs.code.Steps.{told, made, character_at}
use Rattle.chart.proofs.Gives.{Gives, gives_then, gives_if, gives_or, gives_unless, Byte, byte-gives, text-no-sign}

-- ---- what an answer says of the reading behind it
-- an answer handed on, of which x is a part
pub told_on : {A B C : Type 0} (r : Result B Refusal) (at : ℕ) (x : A) (f : A → C) → told (λ u. f x) r at ≡ told (λ u. x) r at then λ y e. got (f y) e
told_on (Ok u) at x f = refl
told_on (Err why) at x f = refl

-- ---- characters
-- the first of some characters, which have so many bytes together, and the others
abbrev first-of : ℕ → List ℕ → Got ℕ → Got ℕ
first-of left s g = g then λ n at. characters (left - n) s at then λ m end. got (suc m) end

module _ (s : List ℕ) (at : ℕ) where
  abbrev b : ℕ
  b = get_or s at 0

  abbrev c : ℕ
  c = get_or s (at + 1) 0

  first_one : (x y z : Bool) → ltb at (length s) ≡ x → eqb b byte_c2 ≡ y → is_text b ≡ z → characters 1 s at ≡ first-of 1 s (character_at 1 s at)
  first_one false y z e f g = rw e
  first_one true true true e f g = let i : true ≡ false = sym f ∙ text-no-sign b g in let o : ◌≡◌ {A = ℕ} 0 1 = cc in absurd (omega arith)
  first_one true true false e f g = rw (e, f, g)
  first_one true false true e f g = rw (e, f, g)
  first_one true false false e f g = rw (e, f, g)

  module _ (k : ℕ) where
    some : ltb (suc (suc k)) 2 ≡ false
    some = le-ltb (suc (suc k)) 2 (omega arith)

    less_one : suc (suc k) - 1 ≡ suc k
    less_one = omega arith

    less_two : suc (suc k) - 2 ≡ k
    less_two = omega arith

    abbrev FirstMore : Type 0
    FirstMore = characters (suc (suc k)) s at ≡ first-of (suc (suc k)) s (character_at (suc (suc k)) s at)

    first-degree : (x y : Bool) → ltb at (length s) ≡ true → eqb b byte_c2 ≡ true → ltb (at + 1) (length s) ≡ x → eqb c byte_b0 ≡ y → FirstMore
    first-degree false y e f g h = rw (e, f, some, g)
    first-degree true false e f g h = rw (e, f, some, g, h)
    first-degree true true e f g h = rw (e, f, some, g, h, less_two)

    first_more : (x y z : Bool) → ltb at (length s) ≡ x → eqb b byte_c2 ≡ y → is_text b ≡ z → FirstMore
    first_more false y z e f g = rw e
    first_more true true z e f g = first-degree (ltb (at + 1) (length s)) (eqb c byte_b0) e f refl refl
    first_more true false true e f g = rw (e, f, g, less_one)
    first_more true false false e f g = rw (e, f, g)

first_character : (left : ℕ) (s : List ℕ) (at : ℕ) → 0 < left → characters left s at ≡ first-of left s (character_at left s at)
first_character zero s at h = absurd (omega arith)
first_character (suc zero) s at h = first_one s at (ltb at (length s)) (eqb (get_or s at 0) byte_c2) (is_text (get_or s at 0)) refl refl refl
first_character (suc (suc k)) s at h = first_more s at k (ltb at (length s)) (eqb (get_or s at 0) byte_c2) (is_text (get_or s at 0)) refl refl refl

-- a character of a text of which so many bytes are left: it has n bytes
pub record Sized (s : List ℕ) (at left n e : ℕ) : Type 0 where
  pub after : e ≡ at + n
  pub inside : e ≤ length s
  pub some : 0 < n
  pub fits : n ≤ left

character_gives : (left : ℕ) (s : List ℕ) (at : ℕ) → 0 < left → Gives (character_at left s at) (Sized s at left)
character_gives left s at h =
    gives_then (byte s at) _ (Byte s at) _ (byte-gives s at)
    (λ b e i. gives_or (eqb b byte_c2) _ _ (Sized s at left)
    (λ t. gives_unless (ltb left 2) _ _ (Sized s at left)
    (λ u. gives_then (byte s e) _ (Byte s e) _ (byte-gives s e)
    (λ c f j. gives_if (eqb c byte_b0) (got 2 f) _ (Sized s at left)
    (λ v. record { after = omega (arith, i.after, j.after); inside = j.inside; some = omega arith; fits = ltb-false left 2 u }))))
    (λ t. gives_if (is_text b) (got 1 e) _ (Sized s at left) (λ u. record { after = i.after; inside = i.inside; some = omega arith; fits = omega arith })))

pub character_sized : (s : List ℕ) (at left : ℕ) → 0 < left → (b a : ℕ) → got b a ≡ character_at left s at → Sized s at left b a
character_sized s at left h b a e = rw (← e) at (character_gives left s at h)

-- what is read after n characters
abbrev pub skips : ℕ → List ℕ → ℕ → ℕ → Got ℕ
skips n s at k = characters k s at then λ m end. got (n + m) end

skip_suc : (n : ℕ) (g : Got ℕ) → (g then λ m end. got (suc m) end) then (λ m end. got (n + m) end) ≡ g then λ m end. got (n + 1 + m) end
skip_suc n (got m at) = let z : n + suc m ≡ n + 1 + m = omega arith in rw z
skip_suc n (refused r) = refl

module _ (n : ℕ) (s : List ℕ) (at left : ℕ) (h : 0 < left) where
  -- the first, and the others
  pub skip_first : skips n s at left ≡ character_at left s at then λ b a. skips (n + 1) s a (left - b)
  skip_first = rw (first_character left s at h) (go (character_at left s at))
    where
      go : (g : Got ℕ) → first-of left s g then (λ m end. got (n + m) end) ≡ g then λ b a. skips (n + 1) s a (left - b)
      go (got b a) = skip_suc n (characters (left - b) s a)
      go (refused r) = refl

-- ---- entries of one kind, put into a table
module _ {A : Type 0} {m : ℕ} (read : ℕ → Got A) where
  -- what k more give, of which the first stands at this place
  abbrev pub left_in : Table A m → ℕ → ℕ → Got (Table A m)
  left_in t at k = made (push_all t) (many k read at)

  cons_in : (t : Table A m) (x : A) (g : Got (List A)) → made (push_all t) (g then λ xs end. got (x ∷ xs) end) ≡ made (push_all (pushed t x)) g
  cons_in t x (got xs at) = refl
  cons_in t x (refused r) = refl

  -- the first is read, and pushed, and then the others
  pub left_first : (t : Table A m) (at left : ℕ) → 0 < left → left_in t at left ≡ read at then λ x a. left_in (pushed t x) a (left - 1)
  left_first t at left h = one_more (left_in t at) left h ∙ go (read at)
    where
      go : (g : Got A) → made (push_all t) (g then λ x a. many (left - 1) read a then λ xs end. got (x ∷ xs) end) ≡ g then λ x a. left_in (pushed t x) a (left - 1)
      go (got x a) = cons_in t x (many (left - 1) read a)
      go (refused r) = refl

-- ---- a body
module _ {A W : Type 0} (f : W → A) (read : ℕ → Got W) where
  many_made : (k at : ℕ) → many k (λ a. made f (read a)) at ≡ made (map f) (many k read at)
  many_made zero at = refl
  many_made (suc k) at = first (many_made k) (read at)
    where
      rest : (x : W) (g : Got (List W)) → made (map f) g then (λ xs end. got (f x ∷ xs) end) ≡ made (map f) (g then λ xs end. got (x ∷ xs) end)
      rest x (got xs b) = refl
      rest x (refused r) = refl

      first : ((a : ℕ) → many k (λ a. made f (read a)) a ≡ made (map f) (many k read a)) → (g : Got W)
          → made f g then (λ x a. many k (λ a. made f (read a)) a then λ xs end. got (x ∷ xs) end) ≡ made (map f) (g then λ x a. many k read a then λ xs end. got (x ∷ xs) end)
      first e (got x a) = rw (e a) (rest x (many k read a))
      first e (refused r) = refl

  -- so many entries put into the table t
  abbrev pub entries_in : {m : ℕ} → Table A m → ℕ → ℕ → Got (Table A m)
  entries_in t k at = made (push_all t) (many k (λ a. made f (read a)) at)

module _ (b : Tables) (p : ℕ) (s : List ℕ) where
  abbrev ends_in : Items → ℕ → ℕ → Got Items
  ends_in = entries_in (item_of p) (end s)

  abbrev lines_in : Lines → ℕ → ℕ → Got Lines
  lines_in = entries_in (line_of p) (text s)

  -- a node's tables, one after the other
  items_in : (i j k at : ℕ) → made (with_node b p) (items s i j k at)
      ≡ ends_in b.sources i at then λ xs at₁. lines_in b.lines j at₁ then λ ls at₂. ends_in b.sinks k at₂ then λ ys at₃. got (record { n = b.n; sources = xs; lines = ls; sinks = ys }) at₃
  items_in i j k at = rw (many_made (item_of p) (end s) i at) (sources (many i (end s) at))
    where
      sinks : (es : List End) (ls : List Part) (g : Got (List End)) → made (with_node b p) (g then λ ys e. got (record { sources = es; lines = ls; sinks = ys }) e)
          ≡ made (push_all b.sinks) (made (map (item_of p)) g) then λ ys e. got (record { n = b.n; sources = push_all b.sources (map (item_of p) es); lines = push_all b.lines (map (line_of p) ls); sinks = ys }) e
      sinks es ls (got ys e) = refl
      sinks es ls (refused r) = refl

      lines : (es : List End) (g : Got (List Part)) → made (with_node b p) (g then λ ls a. many k (end s) a then λ ys e. got (record { sources = es; lines = ls; sinks = ys }) e)
          ≡ made (push_all b.lines) (made (map (line_of p)) g) then λ ls a. ends_in b.sinks k a then λ ys e. got (record { n = b.n; sources = push_all b.sources (map (item_of p) es); lines = ls; sinks = ys }) e
      lines es (got ls a) = rw (many_made (item_of p) (end s) k a) (sinks es ls (many k (end s) a))
      lines es (refused r) = refl

      sources : (g : Got (List End)) → made (with_node b p) (g then λ es a. many j (text s) a then λ ls c. many k (end s) c then λ ys e. got (record { sources = es; lines = ls; sinks = ys }) e)
          ≡ made (push_all b.sources) (made (map (item_of p)) g) then λ xs a. lines_in b.lines j a then λ ls c. ends_in b.sinks k c then λ ys e. got (record { n = b.n; sources = xs; lines = ls; sinks = ys }) e
      sources (got es a) = rw (many_made (line_of p) (text s) j a) (lines es (many j (text s) a))
      sources (refused r) = refl

  pub body_in : (at : ℕ) (c : Counts) (a : ℕ) → got c a ≡ counts s at → made (with_node b p) (body s at)
      ≡ ends_in b.sources c.sources a then λ xs at₁. lines_in b.lines c.lines at₁ then λ ls at₂. ends_in b.sinks c.sinks at₂ then λ ys at₃. got (record { n = b.n; sources = xs; lines = ls; sinks = ys }) at₃
  body_in at c a e = rw (← e) (items_in c.sources c.lines c.sinks a)

-- ---- the bodies
-- what k more bodies give, of which the first is node p's and stands at this place
abbrev pub nodes_in : Tables → ℕ → List ℕ → ℕ → ℕ → Got Tables
nodes_in b p s at k = made (with_nodes b p) (bodies k s p at)

module _ (b : Tables) (p : ℕ) (s : List ℕ) (at left : ℕ) (h : 0 < left) where
  pub bodies_misplaced : (entry s p ≡ at → ⊥) → nodes_in b p s at left ≡ refused Misplaced
  bodies_misplaced n = one_more (nodes_in b p s at) left h ∙ rw (ne_eqb (entry s p) at n)

  -- the first body, and the others
  pub bodies_first : entry s p ≡ at → nodes_in b p s at left ≡ made (with_node b p) (body s at) then λ c a. nodes_in c (p + 1) s a (left - 1)
  bodies_first o = one_more (nodes_in b p s at) left h ∙ rw (eq-eqb (entry s p) at o, add-one p) (first (body s at))
    where
      rest : (q : Node) (g : Got Board) → made (with_nodes b p) (g then λ qs e. got (q ∷ qs) e) ≡ made (with_nodes (with_node b p q) (suc p)) g
      rest q (got qs e) = refl
      rest q (refused r) = refl

      first : (g : Got Node) → made (with_nodes b p) (g then λ q a. bodies (left - 1) s (suc p) a then λ qs e. got (q ∷ qs) e)
          ≡ made (with_node b p) g then λ c a. made (with_nodes c (suc p)) (bodies (left - 1) s (suc p) a)
      first (got q a) = rest q (bodies (left - 1) s (suc p) a)
      first (refused r) = refl
