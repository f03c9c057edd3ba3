-- What a writer writes, by what it held before and holds after.
-- Assumes nothing.
use Rattle.std.specs.Prelude.{◌≡◌, ◌+◌, ◌≤◌, List, ℕ, length}
use Rattle.path.specs.declared.writer.Writer.{Writer}
use Rattle.path.specs.Writer.{IsPut}

abbrev pub HasRoom : Writer → List ℕ → Type 0
HasRoom w t = w.at + length t ≤ length w.buf.now

-- t is written; the buffer is the one that was lent
pub record Writes (w : Writer) (t : List ℕ) (v : Writer) : Type 0 where
  pub put : IsPut w.buf.now w.at t v.buf.now v.at
  pub lent : v.buf.ghost_name ≡ w.buf.ghost_name
