-- `line`: the part up to the first line feed.
-- Assumes nothing.
use Rattle.std.proofs.Common.{rules, tests, ℕ, ◌≡◌, ◌∙◌, ap, drop, length, eqb}
use Rattle.std.specs.Option.{unwrap_or}
use native.Mathlib.Omega.{arith}
use lib.ListN.{length-drop}
use lib.Seq.{take_all}
use Rattle.lines.specs.Lines.{before}
use Rattle.std.proofs.lemmas.Iterator.{YieldsList-from_slice}
use Rattle.std.proofs.lemmas.Iterator.Search.{position_from_yields_List}
use Rattle.std.proofs.lemmas.List.Sums.{prefix_len-le-length}
use Rattle.lines.proofs.Laws.{found-or-length}
use Rattle.lines.proofs.line.Goals as goal

pub returns : goal.returns
returns c =
    let rest = c.in-Some.rest.now in
    let found = position_from_yields_List (λ (b : ℕ). eqb b 10) _ _ c.position.result c.position.ensures.ran (YieldsList-from_slice rest cc) (λ x b q k. search (rules, tests)) in
    let len : c.unwrap_or-len.result ≡ before rest = c.unwrap_or-len.ensures ∙ ap (λ r. unwrap_or r (length rest)) found ∙ found-or-length _ _ (prefix_len-le-length _ rest) in
    let is : rest ≡ drop c.args.at c.args.text.now = c.in-Some.ensures.lookup.0.2 ∙ take_all _ _ (omega (arith, length-drop {A = ℕ})) in
    rw (len, is)
