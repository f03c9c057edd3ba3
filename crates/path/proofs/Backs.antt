-- The text of what the reader has read so far, the latest part first, and that it is the text of the segments once each part is whole. Assumes nothing.
use mathlib.Core.Path.{◌≡◌, refl, sym, ap, ◌∙◌}
use mathlib.Core.List.{List, [], ◌∷◌, ◌++◌, append-nil, append_assoc}
use Prim.Native.Nat.{ℕ}
use native.Mathlib.Omega.{arith}
use lib.ListN.{length, get_or}
use Rattle.path.specs.declared.reader.Command.{Command}
use Rattle.path.specs.declared.drawn.Drawn.{Drawn}
use Rattle.path.specs.Number.{number_text}
use Rattle.path.specs.Text.{letter_of, numbers_of, segment_text, rest_text, text_of}
use Rattle.path.specs.Reader.{Part, arity, drawn_from, part_of, drawn_all}

-- a command's letter
abbrev pub letter_for : Command → ℕ
letter_for Command.Move = 77
letter_for Command.Line = 76
letter_for Command.Cubic = 67
letter_for Command.Close = 90

-- a command and its numbers, the latest first
abbrev pub words_back : Command → List ℕ → List ℕ
words_back c [] = letter_for c ∷ []
words_back c (h ∷ hs) = words_back c hs ++ 32 ∷ number_text h

-- parts, the latest first, each with the space after it
abbrev pub front : List Part → List ℕ
front [] = []
front (p ∷ ps) = front ps ++ words_back p.command p.numbers ++ 32 ∷ []

abbrev pub back : List Part → List ℕ
back [] = []
back (p ∷ ps) = front ps ++ words_back p.command p.numbers

-- ---- a part with all its numbers is a segment's text
pub record Whole (p : Part) : Type 0 where
  pub text : words_back p.command p.numbers ≡ segment_text (part_of p)

two : (c : Command) (d : Drawn) (hs : List ℕ) → length hs ≡ 2 → letter_of d ≡ letter_for c → numbers_of d ≡ get_or hs 1 0 ∷ get_or hs 0 0 ∷ [] → words_back c hs ≡ segment_text d
two c d [] l e n = absurd (omega arith)
two c d (y ∷ []) l e n = absurd (omega arith)
two c d (y ∷ x ∷ []) l e n = rw (e, n) (simp (append_assoc, append-nil))
two c d (y ∷ x ∷ z ∷ hs) l e n = absurd (omega arith)

six : (hs : List ℕ) → length hs ≡ 6 → words_back Command.Cubic hs ≡ segment_text (drawn_from Command.Cubic hs)
six [] l = absurd (omega arith)
six (a ∷ []) l = absurd (omega arith)
six (a ∷ b ∷ []) l = absurd (omega arith)
six (a ∷ b ∷ c ∷ []) l = absurd (omega arith)
six (a ∷ b ∷ c ∷ d ∷ []) l = absurd (omega arith)
six (a ∷ b ∷ c ∷ d ∷ e ∷ []) l = absurd (omega arith)
six (a ∷ b ∷ c ∷ d ∷ e ∷ f ∷ []) l = simp (append_assoc, append-nil)
six (a ∷ b ∷ c ∷ d ∷ e ∷ f ∷ g ∷ hs) l = absurd (omega arith)

bare : (hs : List ℕ) → length hs ≡ 0 → words_back Command.Close hs ≡ segment_text (drawn_from Command.Close hs)
bare [] l = refl
bare (a ∷ hs) l = absurd (omega arith)

pub whole : (c : Command) (hs : List ℕ) → length hs ≡ arity c → Whole (record { command = c; numbers = hs })
whole Command.Move hs l = record { text = two Command.Move (drawn_from Command.Move hs) hs l refl refl }
whole Command.Line hs l = record { text = two Command.Line (drawn_from Command.Line hs) hs l refl refl }
whole Command.Cubic hs l = record { text = six hs l }
whole Command.Close hs l = record { text = bare hs l }

-- ---- segments, one more at the end
pub rest-append : (xs ys : List Drawn) → rest_text (xs ++ ys) ≡ rest_text xs ++ rest_text ys
rest-append [] ys = refl
rest-append (x ∷ xs) ys = ap (λ (z : List ℕ). 32 ∷ (segment_text x ++ z)) (rest-append xs ys) ∙ ap (λ (z : List ℕ). 32 ∷ z) (sym (append_assoc (segment_text x) (rest_text xs) (rest_text ys)))

rest_more : (ds : List Drawn) (d : Drawn) → rest_text (ds ++ d ∷ []) ≡ rest_text ds ++ 32 ∷ segment_text d
rest_more [] d = append-nil _
rest_more (e ∷ ds) d = rw (rest_more ds d) (simp append_assoc)

text-more : (e : Drawn) (ds : List Drawn) (d : Drawn) → text_of ((e ∷ ds) ++ d ∷ []) ≡ text_of (e ∷ ds) ++ 32 ∷ segment_text d
unfolding text_of
text-more e ds d = rw (rest_more ds d) (simp append_assoc)

pub data Wholes : List Part → Type 0 where
  none : Wholes []
  more : {p : Part} {ps : List Part} → Whole p → Wholes ps → Wholes (p ∷ ps)

pub text-next : (xs : List Drawn) (d : Drawn) → (xs ≡ [] → ⊥) → text_of (xs ++ d ∷ []) ≡ text_of xs ++ 32 ∷ segment_text d
text-next [] d n = absurd (n refl)
text-next (e ∷ ds) d n = text-more e ds d

pub some : (xs : List Drawn) (d : Drawn) → xs ++ d ∷ [] ≡ [] → ⊥
some [] d e = let z : ◌≡◌ {A = ℕ} 0 1 = cc in omega arith
some (x ∷ xs) d e = let z : ◌≡◌ {A = ℕ} 0 1 = cc in omega arith

-- what is whole reads as its segments' text
pub back-text : (ps : List Part) → Wholes ps → text_of (drawn_all ps) ≡ back ps
unfolding text_of
back-text [] none = refl
back-text (p ∷ []) (more w none) = rw w.text (append-nil _)
back-text (p ∷ q ∷ ps) (more w ws) =
    text-next (drawn_all (q ∷ ps)) (part_of p) (some (drawn_all ps) (part_of q))
    ∙ rw (back-text (q ∷ ps) ws, w.text) (simp append_assoc)
