-- The tables of a board hold that board.
-- Assumes nothing.
use Prim.Native.Nat.{ℕ, suc, ◌+◌, ◌*◌, ◌≤◌, ◌<◌}
use native.Mathlib.Omega.{arith}
use native.Mathlib.Nat.{mod-eq_of_lt}
use mathlib.Core.Path.{◌≡◌, refl, ap, ◌∙◌}
use mathlib.Core.List.{List, [], ◌∷◌, ◌++◌, map, append_assoc, append-nil}
use lib.ListN.{length, length-append, length-map}
use Rattle.tables.specs.declared.Table.{Table}
use Rattle.tables.specs.Tables.{pushed}
use Rattle.chart.specs.declared.Item.{Item}
use Rattle.chart.specs.declared.Line.{Line}
use Rattle.chart.specs.declared.Board.{Board as Tables}
use Rattle.chart.specs.Chart.{Part, End, Node, Board, ends_of}
use Rattle.chart.specs.Tables.{no_item, no_line, item_of, line_of, sources_from, lines_from, sinks_from, table_for, lines_for}
use Rattle.chart.specs.code.Filled.{end_of, part_of, node_of, board_from, board_of, push_all, with_nodes, tables_of}
use Rattle.laws.specs.Lists.{All, one, padded}
use Rattle.laws.proofs.Lists.{length-one, all_map, tabulate_list, owned-flat, padded-set, take-padded}

-- an array of m that holds the records from its start, and z past them; past m only the count goes on
abbrev pub held : {A : Type 0} (m : ℕ) → A → List A → Table A m
held m z xs = record { items = padded m z xs; count = length xs }

module _ {A : Type 0} (m : ℕ) (z : A) where
  pushed-held : (xs : List A) (x : A) → pushed (held m z xs) x ≡ held m z (xs ++ one x)
  pushed-held xs x = rw (padded-set m z xs x, length-one xs x)

  -- the records of a node, one after the other
  push-all : (xs ys : List A) → push_all (held m z xs) ys ≡ held m z (xs ++ ys)
  push-all xs [] = rw (append-nil xs)
  push-all xs (y ∷ ys) = rw (pushed-held xs y) (push-all (xs ++ one y) ys ∙ ap (held m z) (append_assoc xs (one y) ys))

-- ---- the records of a board, node after node
abbrev pub held_in : ℕ → List Item → List Line → List Item → Tables
held_in n xs ls ys = record { n = n; sources = table_for xs; lines = lines_for ls; sinks = table_for ys }

with-nodes : (n : ℕ) (xs : List Item) (ls : List Line) (ys : List Item) (p : ℕ) (qs : Board)
    → with_nodes (held_in n xs ls ys) p qs ≡ held_in n (xs ++ sources_from p qs) (ls ++ lines_from p qs) (ys ++ sinks_from p qs)
with-nodes n xs ls ys p [] = rw (append-nil xs, append-nil ls, append-nil ys)
with-nodes n xs ls ys p (q ∷ qs) =
    rw (push-all 64 no_item xs (map (item_of p) q.sources), push-all 128 no_line ls (map (line_of p) q.lines), push-all 64 no_item ys (map (item_of p) q.sinks))
    (with-nodes n (xs ++ map (item_of p) q.sources) (ls ++ map (line_of p) q.lines) (ys ++ map (item_of p) q.sinks) (suc p) qs
    ∙ rw (append_assoc xs (map (item_of p) q.sources) (sources_from (suc p) qs), append_assoc ls (map (line_of p) q.lines) (lines_from (suc p) qs), append_assoc ys (map (item_of p) q.sinks) (sinks_from (suc p) qs)))

pub tables-held : (n : ℕ) (ps : Board) → tables_of n ps ≡ held_in n (sources_from 0 ps) (lines_from 0 ps) (sinks_from 0 ps)
unfolding tables_of
tables-held n ps = with-nodes n [] [] [] 0 ps

-- a text whose place fits the record
abbrev Low : Part → Type 0
Low t = t.at < 65536

end_kept : (p : ℕ) (e : End) → Low e.text → end_of (item_of p e) ≡ e
end_kept p e h = rw (mod-eq_of_lt h)

part-kept : (p : ℕ) (t : Part) → Low t → part_of (line_of p t) ≡ t
part-kept p t h = rw (mod-eq_of_lt h)

-- every text of the node is low
pub record LowNode (q : Node) : Type 0 where
  pub sources : All (λ e. Low e.text) q.sources
  pub lines : All Low q.lines
  pub sinks : All (λ e. Low e.text) q.sinks

abbrev bare : Node
bare = record { sources = []; lines = []; sinks = [] }

pub board-back : (ps : Board) → All LowNode ps → board_from (length ps) (sources_from 0 ps) (lines_from 0 ps) (sinks_from 0 ps) ≡ ps
unfolding board_from
board-back ps a =
    tabulate_list bare (node_of (sources_from 0 ps) (lines_from 0 ps) (sinks_from 0 ps)) 0 ps
    (λ i l.
    rw (
      owned-flat (λ (r : Item). r.owner) end_of item_of (λ p w. refl) (λ (q : Node). q.sources) bare 0 i ps l (all_map (λ q h p. all_map (λ e. end_kept p e) q.sources h.sources) ps a),
      owned-flat (λ (r : Line). r.owner) part_of line_of (λ p w. refl) (λ (q : Node). q.lines) bare 0 i ps l (all_map (λ q h p. all_map (λ e. part-kept p e) q.lines h.lines) ps a),
      owned-flat (λ (r : Item). r.owner) end_of item_of (λ p w. refl) (λ (q : Node). q.sinks) bare 0 i ps l (all_map (λ q h p. all_map (λ e. end_kept p e) q.sinks h.sinks) ps a),
    ))

-- ---- how many they are
pub ends-count : (p : ℕ) (ps : Board) → length (sources_from p ps) + length (sinks_from p ps) ≡ ends_of ps
ends-count p [] = refl
ends-count p (q ∷ qs) =
    omega (
      arith,
      length-append (map (item_of p) q.sources) (sources_from (suc p) qs),
      length-map q.sources (item_of p),
      length-append (map (item_of p) q.sinks) (sinks_from (suc p) qs),
      length-map q.sinks (item_of p),
      ends-count (suc p) qs,
    )

pub lines-count : (p : ℕ) (ps : Board) → All (λ q. length q.lines ≤ 4) ps → length (lines_from p ps) ≤ 4 * length ps
lines-count p [] a = omega arith
lines-count p (q ∷ qs) a =
    omega (
      arith,
      length-append (map (line_of p) q.lines) (lines_from (suc p) qs),
      length-map q.lines (line_of p),
      a.0,
      lines-count (suc p) qs a.1,
    )

-- ---- the board of its tables
module _ (ps : Board) (low : All LowNode ps) (few : All (λ q. length q.lines ≤ 4) ps) (nodes : length ps ≤ 32) (ends : ends_of ps ≤ 64) where
  pub board-held : board_of (tables_of (length ps) ps) ≡ ps
  board-held =
      let xs = sources_from 0 ps in
      let ls = lines_from 0 ps in
      let ys = sinks_from 0 ps in
      rw (tables-held (length ps) ps, take-padded 64 no_item xs (omega (arith, ends-count 0 ps)), take-padded 128 no_line ls (omega (arith, lines-count 0 ps few)), take-padded 64 no_item ys (omega (arith, ends-count 0 ps)))
      (board-back ps low)
