-- `Writer::number` meets its contract: `.5` after the digits, or not. Assumes nothing.
use mathlib.Core.Path.{refl, sym, ◌∙◌}
use mathlib.Core.List.{[], ◌∷◌, append_assoc}
use Prim.Native.Nat.{◌/◌}
use native.Mathlib.Omega.{arith}
use Rattle.path.specs.Number.{digits}
use Rattle.path.proofs.Numbers.{text-even, text_odd, length_digits, length_odd}
use Rattle.path.proofs.Puts.{then, put_as, put-long}
use Rattle.path.proofs.writer.Writer.number.Goals as goal

pub put_digits-self-requires : goal.put_digits-self-requires
put_digits-self-requires c = omega (arith, c.requires, length_digits c.args.h)

pub byte-requires : goal.byte-requires
byte-requires c = omega (arith, c.requires, c.put_digits-self.ensures.after, put-long c.put_digits-self.ensures, length_odd c.args.h c.if-h-ne0.true)

pub byte-requires-then-h-ne0 : goal.byte-requires-then-h-ne0
byte-requires-then-h-ne0 c =
    omega (arith, c.requires, c.put_digits-self.ensures.after, put-long c.put_digits-self.ensures, c.byte.ensures.put.after, put-long c.byte.ensures.put, length_odd c.args.h c.if-h-ne0.true)

pub returns-then-h-ne0 : goal.returns-then-h-ne0
returns-then-h-ne0 c =
    record {
      put = put_as (append_assoc (digits (c.args.h / 2)) (46 ∷ []) (53 ∷ []) ∙ sym (text_odd c.args.h c.if-h-ne0.true)) (then (then c.put_digits-self.ensures c.byte.ensures.put) c.byte-then-h-ne0.ensures.put);
      lent = c.byte-then-h-ne0.ensures.lent ∙ c.byte.ensures.lent;
    }

pub returns-else-h-ne0 : goal.returns-else-h-ne0
returns-else-h-ne0 c = record { put = put_as (sym (text-even c.args.h c.if-h-ne0.false)) c.put_digits-self.ensures; lent = refl }
