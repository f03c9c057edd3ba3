-- The ends of a node in their places, as the code goes over them.
-- Assumes nothing.
use Rattle.std.specs.Prelude.{ℕ, ◌+◌, ◌*◌, ◌/◌, List, [], ◌∷◌, eqb, Option, None, Some}
use Rattle.std.specs.List.{filter, find, slice_get}
use Rattle.graph.specs.declared.Item.{Item}
use Rattle.grid.specs.declared.render_node.row.End.{End}
use Rattle.grid.specs.declared.render_node.row.RunEnds.{RunEnds}

-- an end whose text begins at x
abbrev pub end_of : ℕ → Item → End
end_of x e = record { x = x; width = 128 * e.len; point = x + 128 * e.len / 2; item = e }

-- these ends, the first at x
abbrev pub ends_at : ℕ → ℕ → List Item → List End
ends_at gap x [] = []
ends_at gap x (e ∷ es) = end_of x e ∷ ends_at gap (x + 128 * e.len + gap) es

-- the records that p owns
abbrev pub own : ℕ → List Item → List Item
own p = filter (λ r. eqb r.owner p)

-- the ends that the iterator has left
abbrev pub ends_left : RunEnds → List End
ends_left s = ends_at s.gap s.x (own s.owner s.rest.now)

-- the end with a number, or, where there is none, the first that leads to k
abbrev pub end_for : Option ℕ → ℕ → List End → Option End
end_for None k es = find (λ e. eqb e.item.to k) es
end_for (Some m) k es = slice_get es m
