-- The texts of a pair of numbers and of a segment, as the writer puts them together. Assumes nothing.
use mathlib.Core.Path.{◌≡◌, refl, sym, ap, ◌∙◌}
use mathlib.Core.List.{List, [], ◌∷◌, ◌++◌, append-nil, append_assoc}
use Prim.Native.Nat.{ℕ, ◌+◌, ◌≤◌}
use native.Mathlib.Omega.{arith}
use lib.ListN.{length, length-append}
use Rattle.path.specs.declared.drawn.Drawn.TheVariants.{Cubic}
use Rattle.path.specs.Number.{number_text}
use Rattle.path.specs.Text.{numbers_text, pair_text, segment_text}
use Rattle.path.proofs.Numbers.{number_bound}

pub pair-split : (x y : ℕ) → (32 ∷ number_text x) ++ (32 ∷ number_text y) ≡ pair_text x y
pair-split x y = rw append-nil

pub pair-length : (x y : ℕ) → length (pair_text x y) ≡ length (number_text x) + length (number_text y) + 2
pair-length x y = omega (arith, sym (ap length (pair-split x y)), length-append (32 ∷ number_text x) (32 ∷ number_text y))

-- numbers and what follows them
abbrev pub spaced : List ℕ → List ℕ → List ℕ
spaced [] r = r
spaced (h ∷ hs) r = 32 ∷ (number_text h ++ spaced hs r)

pub numbers-spaced : (hs r : List ℕ) → spaced hs r ≡ numbers_text hs ++ r
numbers-spaced [] r = refl
numbers-spaced (h ∷ hs) r =
    ap (λ (z : List ℕ). 32 ∷ (number_text h ++ z)) (numbers-spaced hs r)
    ∙ ap (λ (z : List ℕ). 32 ∷ z) (sym (append_assoc (number_text h) (numbers_text hs) r))

pub pair_bound : (x y : ℕ) → length (pair_text x y) ≤ x + y + 8
pair_bound x y = omega (arith, pair-length x y, number_bound x, number_bound y)

pub numbers-append : (xs ys : List ℕ) → numbers_text (xs ++ ys) ≡ numbers_text xs ++ numbers_text ys
numbers-append [] ys = refl
numbers-append (x ∷ xs) ys =
    ap (λ (z : List ℕ). 32 ∷ (number_text x ++ z)) (numbers-append xs ys)
    ∙ ap (λ (z : List ℕ). 32 ∷ z) (sym (append_assoc (number_text x) (numbers_text xs) (numbers_text ys)))

pub cubic-split : (a b c d x y : ℕ) → (67 ∷ pair_text a b) ++ pair_text c d ++ pair_text x y ≡ segment_text (Cubic a b c d x y)
cubic-split a b c d x y =
    append_assoc (67 ∷ pair_text a b) (pair_text c d) (pair_text x y)
    ∙ ap (λ (z : List ℕ). (67 ∷ pair_text a b) ++ z) (sym (numbers-append (c ∷ d ∷ []) (x ∷ y ∷ [])))
    ∙ ap (λ (z : List ℕ). 67 ∷ z) (sym (numbers-append (a ∷ b ∷ []) (c ∷ d ∷ x ∷ y ∷ [])))
