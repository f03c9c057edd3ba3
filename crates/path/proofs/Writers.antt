-- What is written, one text after another. Assumes nothing.
use mathlib.Core.Path.{◌≡◌, ap, ◌∙◌}
use mathlib.Core.List.{List, ◌++◌}
use Prim.Native.Nat.{ℕ}
use native.Mathlib.Omega.{arith}
use lib.ListN.{length, length-append}
use Rattle.path.specs.declared.writer.Writer.{Writer}
use Rattle.path.specs.code.Writers.{HasRoom, Writes}
use Rattle.path.proofs.Puts.{then, put-long}

pub then-writes : {w u v : Writer} {s t : List ℕ} → Writes w s u → Writes u t v → Writes w (s ++ t) v
then-writes p q = record { put = then p.put q.put; lent = q.lent ∙ p.lent }

pub writes_as : {w v : Writer} {s t : List ℕ} → s ≡ t → Writes w s v → Writes w t v
writes_as e p = rw e at p

-- where a text and others fit, the next fits once the first is written
pub room_left : {w u : Writer} {r : List ℕ} (s t : List ℕ) → s ++ t ≡ r → HasRoom w r → Writes w s u → HasRoom u t
room_left s t e h p = omega (arith, h, p.put.after, put-long p.put, length-append s t, ap length e)

pub room_between : {w u : Writer} {r : List ℕ} (s t v : List ℕ) → s ++ t ++ v ≡ r → HasRoom w r → Writes w s u → HasRoom u t
room_between s t v e h p = omega (arith, h, p.put.after, put-long p.put, length-append (s ++ t) v, length-append s t, ap length e)
