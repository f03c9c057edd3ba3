-- Two numbers' texts are never confused: where each ends the text or has a space after it, equal bytes are of equal numbers. Assumes nothing.
use mathlib.Core.Path.{◌≡◌, refl, sym, ap, ◌∙◌}
use mathlib.Core.Bool.{Bool, true, false, cond}
use mathlib.Core.List.{List, [], ◌∷◌, ◌++◌, append_assoc}
use Prim.Native.Nat.{ℕ, zero, suc, ◌+◌, ◌-◌, ◌*◌, ◌/◌, ◌%◌, ◌≤◌, ◌<◌}
use native.Mathlib.Nat.{div-lt_self}
use native.Mathlib.Omega.{arith}
use borrow.Author.Tests.{ltb-true, ltb-false, le-leb}
use lib.Dec.{eqb, ltb}
use lib.ListN.{length, drop}
use lib.Seq.{drop-append_seam}
use Rattle.path.specs.Number.{digits, number_text}
use Rattle.path.specs.Reader.{is_digit}
use Rattle.path.proofs.Numbers.{digits-one, digits-tens, text-whole, text-half}
use Rattle.path.proofs.Derives.{Gap, end, space}

-- the halves of a number at the front of a text, where its whole part so far is a
abbrev scan : List ℕ → ℕ → ℕ
scan [] a = 2 * a
scan (c ∷ s) a = cond (is_digit c) (scan s (10 * a + (c - 48))) (cond (eqb c 46) (2 * a + 1) (2 * a))

scan-digits : (f n : ℕ) (r : List ℕ) → n < f → scan (digits n ++ r) 0 ≡ scan r n
scan-digits zero n r h = absurd (omega arith)
scan-digits (suc f) n r h = go (ltb n 10) refl (λ (s : n / 10 < n). scan-digits f (n / 10) ((48 + n % 10) ∷ r) (omega arith))
  where
    go : (t : Bool) → ltb n 10 ≡ t → (n / 10 < n → scan (digits (n / 10) ++ (48 + n % 10) ∷ r) 0 ≡ scan ((48 + n % 10) ∷ r) (n / 10)) → scan (digits n ++ r) 0 ≡ scan r n
    go true e i =
        let s : n < 10 = ltb-true n 10 e in
        let m : 10 * 0 + (48 + n - 48) ≡ n = omega arith in
        rw (digits-one n s, le-leb 48 (48 + n) (omega arith), le-leb (48 + n) 57 (omega arith), m)
    go false e i =
        let l : 10 ≤ n = ltb-false n 10 e in
        let d : n % 10 < 10 = omega arith in
        let m : 10 * (n / 10) + (48 + n % 10 - 48) ≡ n = omega arith in
        rw (digits-tens n l, append_assoc (digits (n / 10)) ((48 + n % 10) ∷ []) r)
        (i (div-lt_self (omega arith) (omega arith)) ∙ rw (le-leb 48 (48 + n % 10) (omega arith), le-leb (48 + n % 10) 57 (omega arith), m))

scan-gap : (r : List ℕ) (n : ℕ) → Gap r → scan r n ≡ 2 * n
scan-gap r n end = refl
scan-gap r n space = refl

scan-number : (h : ℕ) (r : List ℕ) → Gap r → scan (number_text h ++ r) 0 ≡ h
scan-number h r g = go (h % 2) refl (omega arith)
  where
    go : (m : ℕ) → h % 2 ≡ m → m < 2 → scan (number_text h ++ r) 0 ≡ h
    go zero e l =
        let t : h ≡ 2 * (h / 2) = omega arith in
        ap (λ (z : List ℕ). scan (z ++ r) 0) (ap number_text t ∙ text-whole (h / 2)) ∙ scan-digits (suc (h / 2)) (h / 2) r (omega arith) ∙ scan-gap r (h / 2) g ∙ sym t
    go (suc zero) e l =
        let t : h ≡ 2 * (h / 2) + 1 = omega arith in
        ap (λ (z : List ℕ). scan (z ++ r) 0) (ap number_text t ∙ text-half (h / 2))
        ∙ ap (λ (z : List ℕ). scan z 0) (append_assoc (digits (h / 2)) (46 ∷ 53 ∷ []) r)
        ∙ scan-digits (suc (h / 2)) (h / 2) (46 ∷ 53 ∷ r) (omega arith) ∙ sym t
    go (suc (suc m)) e l = absurd (omega arith)

pub same_number : (a b : ℕ) (r s : List ℕ) → Gap r → Gap s → number_text a ++ r ≡ number_text b ++ s → (a ≡ b) × (r ≡ s)
same_number a b r s g h e =
    let n : a ≡ b = sym (scan-number a r g) ∙ ap (λ (z : List ℕ). scan z 0) e ∙ scan-number b s h in
    (n, sym (drop-append_seam (number_text a) r) ∙ ap (drop (length (number_text a))) (e ∙ ap (λ (z : ℕ). number_text z ++ s) (sym n)) ∙ drop-append_seam (number_text a) s)

pub numbers_differ : (a b : ℕ) → number_text a ≡ number_text b → a ≡ b
numbers_differ a b e = (same_number a b [] [] end end (ap (λ (z : List ℕ). z ++ []) e)).0
