-- `print_lines`: what is printed of the lines left, after those so far, is printed of all lines.
-- Assumes nothing.
use Rattle.std.specs.List.{FoldsTo}
use Rattle.lines.specs.Lines.{lines_of, lines_left}
use Rattle.lines.proofs.print_lines.Given as goal

abbrev pub invariant-loop-line : goal.invariant-loop-line
invariant-loop-line g l =
    (last : _) → FoldsTo g.P.Program.says (g.W.Write.contents l.out) (lines_left l.line-iterator) last
    → FoldsTo g.P.Program.says (g.W.Write.contents l.fn.out) (lines_of l.fn.text) last
