-- Texts and their lines, without the line feeds (10): the lines are those of Python's `bytes.splitlines` where no other byte ends a line.
-- Assumes nothing.
use Rattle.std.specs.Prelude.{◌≡◌, refl, [], ◌∷◌}
use Rattle.lines.specs.Lines.{lines_from, lines_of}

no_text : lines_of [] ≡ []
unfolding lines_from
no_text = refl

-- a line feed alone ends an empty line
feed : lines_of (10 ∷ []) ≡ [] ∷ []
unfolding lines_from
feed = refl

two : lines_of (97 ∷ 98 ∷ 10 ∷ 99 ∷ []) ≡ (97 ∷ 98 ∷ []) ∷ (99 ∷ []) ∷ []
unfolding lines_from
two = refl

-- a last line feed adds no line
ended : lines_of (97 ∷ 98 ∷ 10 ∷ 99 ∷ 10 ∷ []) ≡ (97 ∷ 98 ∷ []) ∷ (99 ∷ []) ∷ []
unfolding lines_from
ended = refl

-- empty lines are lines
between : lines_of (10 ∷ 10 ∷ 97 ∷ 10 ∷ 10 ∷ []) ≡ [] ∷ [] ∷ (97 ∷ []) ∷ [] ∷ []
unfolding lines_from
between = refl
