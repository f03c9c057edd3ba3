-- `digits`: what follows the D where there is one.
-- Assumes nothing.
use Rattle.std.proofs.Common.{ℕ, true, false, ◌≡◌, ◌∙◌, sym, ap, List, [], ◌∷◌, take, drop, length, ◌+◌, nat_eq, Option, Some, None, Bor}
use Rattle.std.specs.Option.{MatchOption, unwrap_or}
use Rattle.lines.specs.Lines.{digits_of}
use Rattle.std.specs.Cmp.Lexicographic.{pointwise}
use Rattle.lines.proofs.Laws.{stripped-byte}
use Rattle.lines.proofs.digits.Goals as goal

stripped : (line : Bor (List ℕ)) (r : Option (Bor (List ℕ))) → MatchOption r (pointwise nat_eq (take 1 line.now) (68 ∷ []) ≡ false) (λ x. (pointwise nat_eq (take 1 line.now) (68 ∷ []) ≡ true) × (x.now ≡ drop 1 line.now) × (length x.now + 1 ≡ length line.now)) → (unwrap_or r line).now ≡ digits_of line.now
stripped line None h = rw (sym (stripped-byte line.now) ∙ h)
stripped line (Some x) h = rw (h.1, sym (stripped-byte line.now) ∙ h.0)

pub returns : goal.returns
returns c = ap (λ x. x.now) c.unwrap_or.ensures ∙ stripped c.args.line _ c.strip_prefix.ensures.cases
