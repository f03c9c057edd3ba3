-- Single-precision numbers as doubled whole numbers. Up to 2 ^ 24 halves nothing is rounded: `exact` and `back` of proofs/Exact.antt.
use Rattle.std.specs.Prelude.{false, ℕ, ◌*◌, ◌/◌, Float}
use Rattle.std.specs.Float.{nan, inf, fin, binary32}
use Rattle.std.specs.Float.Ieee.{up, down, round}

-- the single-precision number h / 2
unfoldable pub halves : ℕ → Float
halves h = round binary32 false h 2

-- how many halves a finite number has, toward zero
unfoldable pub halves_of : Float → ℕ
halves_of nan = 0
halves_of (inf s) = 0
halves_of (fin s m e) = m * up e * 2 / down e
