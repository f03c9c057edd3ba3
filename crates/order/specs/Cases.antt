-- The definitions run: the first columns of the charts on which another reading of document 01 gives another sheet, and of some drawn
-- at random. The graphs are those after module 3, and the columns those of a program that others wrote from document 01.
-- Then ends as a caller may hand them over: linked, and not.
-- Assumes nothing.
use Rattle.std.specs.Prelude.{ℕ, ◌≡◌, refl, List, [], ◌∷◌, Option, Some, None}
use Rattle.laws.specs.Lists.{padded}
use Rattle.tables.specs.declared.Table.{Table}
use Rattle.graph.specs.declared.Lead.{Lead}
use Rattle.graph.specs.Items.{Ends}
use Rattle.graph.specs.Ends.{no_lead, shape_from}
use Rattle.graph.specs.Shape.{Incidents}
use Rattle.order.specs.Chains.{columns}
use Rattle.order.specs.Ordered.{columns_held, columns_in}

abbrev ends : List ℕ → List ℕ → Incidents
ends sources sinks = record { sources = sources; sinks = sinks }

two-bare : columns (ends ([]) ([]) ∷ ends ([]) ([]) ∷ []) ≡ 2 ∷ 0 ∷ []
unfolding columns
two-bare = refl

worked : columns (ends ([]) (1 ∷ []) ∷ ends (0 ∷ []) ([]) ∷ []) ≡ 2 ∷ 0 ∷ []
unfolding columns
worked = refl

self : columns (ends (2 ∷ []) (1 ∷ []) ∷ ends (0 ∷ []) ([]) ∷ ends ([]) (0 ∷ []) ∷ []) ≡ 2 ∷ 0 ∷ 4 ∷ []
unfolding columns
self = refl

self-two : columns (ends (2 ∷ 2 ∷ []) (1 ∷ 3 ∷ []) ∷ ends (0 ∷ []) ([]) ∷ ends ([]) (0 ∷ []) ∷ ends (0 ∷ []) ([]) ∷ ends ([]) (0 ∷ []) ∷ []) ≡ 0 ∷ 6 ∷ 2 ∷ 8 ∷ 4 ∷ []
unfolding columns
self-two = refl

self-three : columns (ends (2 ∷ 2 ∷ 2 ∷ []) (1 ∷ 3 ∷ 5 ∷ []) ∷ ends (0 ∷ []) ([]) ∷ ends ([]) (0 ∷ []) ∷ ends (0 ∷ []) ([]) ∷ ends ([]) (0 ∷ []) ∷ ends (0 ∷ []) ([]) ∷ ends ([]) (0 ∷ []) ∷ []) ≡ 0 ∷ 6 ∷ 12 ∷ 8 ∷ 2 ∷ 10 ∷ 4 ∷ []
unfolding columns
self-three = refl

marked : columns (ends ([]) (2 ∷ []) ∷ ends (4 ∷ []) (3 ∷ 2 ∷ []) ∷ ends (1 ∷ 0 ∷ 2 ∷ []) (2 ∷ []) ∷ ends (1 ∷ []) ([]) ∷ ends ([]) (1 ∷ []) ∷ []) ≡ 6 ∷ 4 ∷ 2 ∷ 0 ∷ 8 ∷ []
unfolding columns
marked = refl

neighbours-kept : columns (ends (3 ∷ 3 ∷ []) (2 ∷ 4 ∷ 1 ∷ []) ∷ ends (0 ∷ []) ([]) ∷ ends (0 ∷ []) ([]) ∷ ends ([]) (0 ∷ []) ∷ ends (0 ∷ []) ([]) ∷ ends ([]) (0 ∷ []) ∷ []) ≡ 6 ∷ 4 ∷ 0 ∷ 8 ∷ 2 ∷ 10 ∷ []
unfolding columns
neighbours-kept = refl

neighbours_equal : columns (ends (5 ∷ 3 ∷ 5 ∷ []) (2 ∷ 1 ∷ []) ∷ ends (0 ∷ []) (4 ∷ []) ∷ ends (0 ∷ []) ([]) ∷ ends ([]) (0 ∷ []) ∷ ends (1 ∷ []) ([]) ∷ ends ([]) (0 ∷ []) ∷ []) ≡ 6 ∷ 4 ∷ 2 ∷ 8 ∷ 0 ∷ 10 ∷ []
unfolding columns
neighbours_equal = refl

both_sums_1 : columns (ends (3 ∷ 1 ∷ 1 ∷ []) (2 ∷ []) ∷ ends (5 ∷ []) (0 ∷ 0 ∷ 4 ∷ []) ∷ ends (0 ∷ []) ([]) ∷ ends ([]) (0 ∷ []) ∷ ends (1 ∷ []) ([]) ∷ ends ([]) (1 ∷ []) ∷ []) ≡ 2 ∷ 8 ∷ 0 ∷ 6 ∷ 4 ∷ 10 ∷ []
unfolding columns
both_sums_1 = refl

both_sums_2 : columns (ends (1 ∷ []) ([]) ∷ ends (3 ∷ 3 ∷ []) (2 ∷ 0 ∷ 4 ∷ []) ∷ ends (1 ∷ []) ([]) ∷ ends ([]) (1 ∷ []) ∷ ends (1 ∷ []) ([]) ∷ ends ([]) (1 ∷ []) ∷ []) ≡ 2 ∷ 4 ∷ 10 ∷ 6 ∷ 0 ∷ 8 ∷ []
unfolding columns
both_sums_2 = refl

both_sums_3 : columns (ends (3 ∷ []) (2 ∷ 1 ∷ 1 ∷ 1 ∷ []) ∷ ends (0 ∷ 0 ∷ 0 ∷ 0 ∷ 0 ∷ []) ([]) ∷ ends (0 ∷ []) ([]) ∷ ends ([]) (0 ∷ []) ∷ []) ≡ 4 ∷ 2 ∷ 0 ∷ 6 ∷ []
unfolding columns
both_sums_3 = refl

standing : columns (ends (4 ∷ 4 ∷ []) (2 ∷ 3 ∷ 5 ∷ 1 ∷ []) ∷ ends (0 ∷ []) (2 ∷ 2 ∷ []) ∷ ends (0 ∷ 1 ∷ 1 ∷ []) ([]) ∷ ends (0 ∷ []) ([]) ∷ ends ([]) (0 ∷ []) ∷ ends (0 ∷ []) ([]) ∷ ends ([]) (0 ∷ []) ∷ []) ≡ 2 ∷ 0 ∷ 8 ∷ 10 ∷ 4 ∷ 12 ∷ 6 ∷ []
unfolding columns
standing = refl

round_began : columns (ends (3 ∷ 3 ∷ 3 ∷ 3 ∷ 3 ∷ 3 ∷ []) (1 ∷ 2 ∷ 1 ∷ 1 ∷ 1 ∷ 4 ∷ 1 ∷ 1 ∷ 1 ∷ 6 ∷ 8 ∷ 10 ∷ 12 ∷ []) ∷ ends (0 ∷ 0 ∷ 0 ∷ 0 ∷ 0 ∷ 0 ∷ 0 ∷ []) ([]) ∷ ends (0 ∷ []) ([]) ∷ ends ([]) (0 ∷ []) ∷ ends (0 ∷ []) ([]) ∷ ends ([]) (0 ∷ []) ∷ ends (0 ∷ []) ([]) ∷ ends ([]) (0 ∷ []) ∷ ends (0 ∷ []) ([]) ∷ ends ([]) (0 ∷ []) ∷ ends (0 ∷ []) ([]) ∷ ends ([]) (0 ∷ []) ∷ ends (0 ∷ []) ([]) ∷ ends ([]) (0 ∷ []) ∷ []) ≡ 14 ∷ 0 ∷ 10 ∷ 26 ∷ 12 ∷ 16 ∷ 2 ∷ 18 ∷ 4 ∷ 20 ∷ 6 ∷ 22 ∷ 8 ∷ 24 ∷ []
unfolding columns
round_began = refl

two_rounds : columns (ends (3 ∷ 3 ∷ []) (1 ∷ 1 ∷ 2 ∷ 4 ∷ []) ∷ ends (0 ∷ 0 ∷ []) ([]) ∷ ends (0 ∷ []) ([]) ∷ ends ([]) (0 ∷ []) ∷ ends (0 ∷ []) ([]) ∷ ends ([]) (0 ∷ []) ∷ []) ≡ 0 ∷ 6 ∷ 8 ∷ 2 ∷ 10 ∷ 4 ∷ []
unfolding columns
two_rounds = refl

equal_sums : columns (ends (3 ∷ 3 ∷ 3 ∷ 3 ∷ 3 ∷ []) (1 ∷ 1 ∷ 1 ∷ 1 ∷ 1 ∷ 2 ∷ 4 ∷ 6 ∷ 8 ∷ 10 ∷ 1 ∷ 1 ∷ 1 ∷ 1 ∷ []) ∷ ends (0 ∷ 0 ∷ 0 ∷ 0 ∷ 0 ∷ 0 ∷ 0 ∷ 0 ∷ 0 ∷ 0 ∷ []) ([]) ∷ ends (0 ∷ []) ([]) ∷ ends ([]) (0 ∷ []) ∷ ends (0 ∷ []) ([]) ∷ ends ([]) (0 ∷ []) ∷ ends (0 ∷ []) ([]) ∷ ends ([]) (0 ∷ []) ∷ ends (0 ∷ []) ([]) ∷ ends ([]) (0 ∷ []) ∷ ends (0 ∷ []) ([]) ∷ ends ([]) (0 ∷ []) ∷ []) ≡ 0 ∷ 12 ∷ 14 ∷ 10 ∷ 16 ∷ 2 ∷ 18 ∷ 4 ∷ 20 ∷ 6 ∷ 22 ∷ 8 ∷ []
unfolding columns
equal_sums = refl

after_turn : columns (ends (3 ∷ 3 ∷ []) (2 ∷ 4 ∷ 1 ∷ []) ∷ ends (0 ∷ 7 ∷ []) (6 ∷ []) ∷ ends (0 ∷ []) ([]) ∷ ends ([]) (0 ∷ []) ∷ ends (0 ∷ []) ([]) ∷ ends ([]) (0 ∷ []) ∷ ends (1 ∷ []) ([]) ∷ ends ([]) (1 ∷ []) ∷ []) ≡ 8 ∷ 6 ∷ 2 ∷ 10 ∷ 4 ∷ 12 ∷ 0 ∷ 14 ∷ []
unfolding columns
after_turn = refl

larger_list_1 : columns (ends ([]) (3 ∷ []) ∷ ends ([]) (2 ∷ []) ∷ ends (1 ∷ []) ([]) ∷ ends (0 ∷ []) ([]) ∷ []) ≡ 2 ∷ 6 ∷ 4 ∷ 0 ∷ []
unfolding columns
larger_list_1 = refl

larger_list_2 : columns (ends (3 ∷ []) ([]) ∷ ends (2 ∷ []) ([]) ∷ ends ([]) (1 ∷ []) ∷ ends ([]) (0 ∷ []) ∷ []) ≡ 4 ∷ 0 ∷ 2 ∷ 6 ∷ []
unfolding columns
larger_list_2 = refl

rows : columns (ends (8 ∷ []) (4 ∷ 3 ∷ []) ∷ ends (3 ∷ []) (5 ∷ []) ∷ ends (4 ∷ []) (6 ∷ 13 ∷ 15 ∷ []) ∷ ends (6 ∷ 0 ∷ []) (5 ∷ 1 ∷ []) ∷ ends (0 ∷ 14 ∷ 14 ∷ []) (7 ∷ 2 ∷ []) ∷ ends (1 ∷ 3 ∷ 10 ∷ 10 ∷ []) (9 ∷ 11 ∷ []) ∷ ends (2 ∷ []) (3 ∷ []) ∷ ends (4 ∷ []) ([]) ∷ ends ([]) (0 ∷ []) ∷ ends (5 ∷ []) ([]) ∷ ends ([]) (5 ∷ []) ∷ ends (5 ∷ []) ([]) ∷ ends ([]) (5 ∷ []) ∷ ends (2 ∷ []) ([]) ∷ ends ([]) (4 ∷ []) ∷ ends (2 ∷ []) ([]) ∷ ends ([]) (4 ∷ []) ∷ []) ≡ 8 ∷ 4 ∷ 0 ∷ 6 ∷ 2 ∷ 20 ∷ 12 ∷ 24 ∷ 10 ∷ 28 ∷ 32 ∷ 30 ∷ 22 ∷ 16 ∷ 26 ∷ 18 ∷ 14 ∷ []
unfolding columns
rows = refl

random_0 : columns (ends (15 ∷ 7 ∷ 9 ∷ 17 ∷ []) (6 ∷ 3 ∷ 1 ∷ 5 ∷ []) ∷ ends (0 ∷ 3 ∷ 13 ∷ []) (8 ∷ 5 ∷ []) ∷ ends (3 ∷ 4 ∷ []) (10 ∷ []) ∷ ends (0 ∷ 11 ∷ []) (1 ∷ 16 ∷ 5 ∷ 2 ∷ []) ∷ ends (5 ∷ []) (2 ∷ 12 ∷ []) ∷ ends (1 ∷ 0 ∷ 3 ∷ []) (4 ∷ 14 ∷ []) ∷ ends (0 ∷ []) ([]) ∷ ends ([]) (0 ∷ []) ∷ ends (1 ∷ []) ([]) ∷ ends ([]) (0 ∷ []) ∷ ends (2 ∷ []) ([]) ∷ ends ([]) (3 ∷ []) ∷ ends (4 ∷ []) ([]) ∷ ends ([]) (1 ∷ []) ∷ ends (5 ∷ []) ([]) ∷ ends ([]) (0 ∷ []) ∷ ends (3 ∷ []) ([]) ∷ ends ([]) (0 ∷ []) ∷ []) ≡ 20 ∷ 18 ∷ 6 ∷ 8 ∷ 10 ∷ 34 ∷ 4 ∷ 22 ∷ 32 ∷ 24 ∷ 2 ∷ 12 ∷ 0 ∷ 14 ∷ 30 ∷ 16 ∷ 28 ∷ 26 ∷ []
unfolding columns
random_0 = refl

random_1 : columns (ends (10 ∷ []) (9 ∷ 4 ∷ []) ∷ ends (7 ∷ []) (3 ∷ []) ∷ ends (3 ∷ 8 ∷ []) (4 ∷ []) ∷ ends (3 ∷ 1 ∷ 3 ∷ 3 ∷ []) (3 ∷ 2 ∷ 3 ∷ []) ∷ ends (4 ∷ 0 ∷ 2 ∷ 5 ∷ 6 ∷ 7 ∷ []) (6 ∷ 4 ∷ 8 ∷ []) ∷ ends (7 ∷ 8 ∷ []) (4 ∷ []) ∷ ends (4 ∷ []) (4 ∷ []) ∷ ends ([]) (5 ∷ 1 ∷ 4 ∷ []) ∷ ends (4 ∷ []) (5 ∷ 2 ∷ []) ∷ ends (0 ∷ []) ([]) ∷ ends ([]) (0 ∷ []) ∷ []) ≡ 6 ∷ 2 ∷ 8 ∷ 18 ∷ 4 ∷ 12 ∷ 14 ∷ 16 ∷ 20 ∷ 0 ∷ 10 ∷ []
unfolding columns
random_1 = refl

random_2 : columns (ends (2 ∷ 10 ∷ 10 ∷ 2 ∷ 2 ∷ []) (9 ∷ []) ∷ ends (14 ∷ 3 ∷ []) (7 ∷ []) ∷ ends (5 ∷ 6 ∷ []) (0 ∷ 15 ∷ 0 ∷ 17 ∷ []) ∷ ends (20 ∷ 20 ∷ []) (19 ∷ 1 ∷ 21 ∷ 7 ∷ []) ∷ ends (5 ∷ 8 ∷ 8 ∷ []) (11 ∷ 6 ∷ []) ∷ ends (7 ∷ []) (2 ∷ 4 ∷ []) ∷ ends (4 ∷ []) (13 ∷ 2 ∷ []) ∷ ends (1 ∷ 3 ∷ 16 ∷ []) (8 ∷ 5 ∷ []) ∷ ends (18 ∷ 12 ∷ 7 ∷ []) (4 ∷ []) ∷ ends (0 ∷ []) ([]) ∷ ends ([]) (0 ∷ []) ∷ ends (4 ∷ []) ([]) ∷ ends ([]) (8 ∷ []) ∷ ends (6 ∷ []) ([]) ∷ ends ([]) (1 ∷ []) ∷ ends (2 ∷ []) ([]) ∷ ends ([]) (7 ∷ []) ∷ ends (2 ∷ []) ([]) ∷ ends ([]) (8 ∷ []) ∷ ends (3 ∷ []) ([]) ∷ ends ([]) (3 ∷ []) ∷ ends (3 ∷ []) ([]) ∷ ends ([]) (3 ∷ []) ∷ []) ≡ 44 ∷ 0 ∷ 12 ∷ 22 ∷ 14 ∷ 16 ∷ 18 ∷ 20 ∷ 28 ∷ 42 ∷ 32 ∷ 10 ∷ 30 ∷ 38 ∷ 8 ∷ 34 ∷ 40 ∷ 6 ∷ 4 ∷ 36 ∷ 24 ∷ 2 ∷ 26 ∷ []
unfolding columns
random_2 = refl

random_3 : columns (ends (2 ∷ []) (1 ∷ []) ∷ ends (0 ∷ 2 ∷ []) ([]) ∷ ends ([]) (1 ∷ 0 ∷ []) ∷ []) ≡ 2 ∷ 0 ∷ 4 ∷ []
unfolding columns
random_3 = refl

random_4 : columns (ends ([]) (1 ∷ 2 ∷ []) ∷ ends (0 ∷ 1 ∷ 3 ∷ []) (2 ∷ 2 ∷ 3 ∷ 1 ∷ []) ∷ ends (1 ∷ 0 ∷ 1 ∷ 1 ∷ []) (3 ∷ []) ∷ ends (2 ∷ 1 ∷ 1 ∷ []) (1 ∷ []) ∷ []) ≡ 0 ∷ 2 ∷ 6 ∷ 4 ∷ []
unfolding columns
random_4 = refl

random_5 : columns (ends (11 ∷ []) (6 ∷ []) ∷ ends (2 ∷ []) ([]) ∷ ends (4 ∷ 9 ∷ 9 ∷ 15 ∷ []) (8 ∷ 7 ∷ 1 ∷ 16 ∷ 5 ∷ []) ∷ ends (5 ∷ 7 ∷ []) (12 ∷ []) ∷ ends (6 ∷ 17 ∷ 13 ∷ 6 ∷ []) (2 ∷ []) ∷ ends (2 ∷ 7 ∷ 6 ∷ []) (14 ∷ 3 ∷ []) ∷ ends (0 ∷ []) (4 ∷ 5 ∷ []) ∷ ends (2 ∷ []) (10 ∷ 3 ∷ 5 ∷ []) ∷ ends (2 ∷ []) ([]) ∷ ends ([]) (2 ∷ []) ∷ ends (7 ∷ []) ([]) ∷ ends ([]) (0 ∷ []) ∷ ends (3 ∷ []) ([]) ∷ ends ([]) (4 ∷ []) ∷ ends (5 ∷ []) ([]) ∷ ends ([]) (2 ∷ []) ∷ ends (2 ∷ []) ([]) ∷ ends ([]) (4 ∷ []) ∷ []) ≡ 28 ∷ 4 ∷ 6 ∷ 12 ∷ 8 ∷ 14 ∷ 26 ∷ 24 ∷ 22 ∷ 10 ∷ 34 ∷ 30 ∷ 2 ∷ 20 ∷ 32 ∷ 16 ∷ 0 ∷ 18 ∷ []
unfolding columns
random_5 = refl

-- the first count of these leads
abbrev held : ℕ → List Lead → Ends
held count leads = record { items = padded 88 no_lead leads; count = count }

abbrev from : ℕ → ℕ → Lead
from owner to = record { owner = owner; to = to }

abbrev no-ends : Ends
no-ends = held 0 []

abbrev linked-with : List ℕ → Option (Table ℕ 48)
linked-with cs = Some (columns_held cs)

ends-linked : columns_in 2 (held 1 (from 1 0 ∷ [])) (held 1 (from 0 1 ∷ [])) ≡ linked-with (2 ∷ 0 ∷ [])
unfolding columns_in columns shape_from
ends-linked = refl

one-node : columns_in 1 no-ends no-ends ≡ linked-with (0 ∷ [])
unfolding columns_in columns shape_from
one-node = refl

-- what is past the count is not read
past-count : columns_in 1 (held 0 (from 7 7 ∷ [])) no-ends ≡ linked-with (0 ∷ [])
unfolding columns_in columns shape_from
past-count = refl

nodes_49 : columns_in 49 no-ends no-ends ≡ None
unfolding columns_in
nodes_49 = refl

count_89 : columns_in 2 no-ends (held 89 []) ≡ None
unfolding columns_in
count_89 = refl

owner-past : columns_in 2 no-ends (held 1 (from 2 1 ∷ [])) ≡ None
unfolding columns_in
owner-past = refl

target_past : columns_in 2 (held 1 (from 1 2 ∷ [])) no-ends ≡ None
unfolding columns_in
target_past = refl
