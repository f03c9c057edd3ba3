-- `stand_in::is_stand_ins` meets its contract: after j turns the table begins with the first j texts. Assumes nothing.
use Prim.Native.Nat.{ℕ, ◌-◌, ◌<◌}
use native.Mathlib.Omega.{arith}
use mathlib.Core.Path.{◌≡◌, refl, sym, ap, ◌∙◌}
use mathlib.Core.Bool.{Bool}
use mathlib.Core.List.{List}
use lib.ListN.{length, take, drop}
use Rattle.laws.specs.Bytes.{same}
use Rattle.std.specs.declared.ops.Range.{Range}
use Rattle.laws.proofs.Lists.{same_not}
use Rattle.path.specs.Label.{stand_in, stand_ins_from, stand_ins_to, stand_ins, stand_in_span}
use Rattle.path.proofs.Labels.{stand-ins-long, span-at, span-long, span-within, text_wrong, text-right, table-right}
use borrow.Author.Rules.{rules}
use Rattle.path.proofs.stand_in.is_stand_ins.Goals as goal

-- what `is_same` answers for the text j, by its place in the table
compared : (j : ℕ) (s : Range ℕ) (bytes : List ℕ) (b : Bool) → s ≡ stand_in_span j → b ≡ same (take (s.end - s.start) (drop s.start bytes)) (stand_in j) →
    same (take (length (stand_in j)) (drop (length (stand_ins_to j)) bytes)) (stand_in j) ≡ b
compared j s bytes b e h =
    let t = stand_in j in
    sym (h
    ∙ ap (λ (n : ℕ). same (take n (drop s.start bytes)) t) (span-long j s e)
    ∙ ap (λ (n : ℕ). same (take (length t) (drop n bytes)) t) (span-at j s e))

pub returns-then-table-ne-TABLE_BYTES : goal.returns-then-table-ne-TABLE_BYTES
returns-then-table-ne-TABLE_BYTES c = sym (same_not c.args.table.now stand_ins (λ e. c.if-table-ne-TABLE_BYTES.true (ap length e ∙ stand-ins-long)))

pub loop-j-init : goal.loop-j-init
unfolding stand_ins_from
loop-j-init c = refl

pub slice_bounds-is_same-end : goal.slice_bounds-is_same-end
slice_bounds-is_same-end c = omega (arith, span-within c.loop-j.j c.range.result c.range.ensures (search rules), c.if-table-ne-TABLE_BYTES.false)

pub returns-then-not-is_same : goal.returns-then-not-is_same
returns-then-not-is_same c =
    let j = c.loop-j.j in
    let t = c.args.table.now in
    let few : j < 287 = search rules in
    sym (text_wrong t c.if-table-ne-TABLE_BYTES.false j few (compared j c.range.result t c.is_same.result c.range.ensures c.is_same.ensures ∙ c.if-not-is_same.true))

pub loop-j-preserved : goal.loop-j-preserved
loop-j-preserved c =
    let j = c.loop-j.j in
    let t = c.args.table.now in
    let few : j < 287 = search rules in
    text-right t c.if-table-ne-TABLE_BYTES.false j few c.loop-j.invariant (compared j c.range.result t c.is_same.result c.range.ensures c.is_same.ensures ∙ c.if-not-is_same.false)

pub returns : goal.returns
returns c =
    let e : c.loop-j.j ≡ 287 = omega arith in
    table-right c.args.table.now c.if-table-ne-TABLE_BYTES.false (rw e at c.loop-j.invariant)
