-- What is claimed of the columns after every step of module 7, and what it starts from.
-- Assumes nothing.
use Rattle.std.specs.Prelude.{ℕ, ◌*◌, ◌<◌, ◌≡◌, List, length}
use Rattle.grid.specs.Columns.{at}

-- n boxes, each with a column below b, and no two with the same row and column
pub record Placed (n b : ℕ) (rows cols : List ℕ) : Type 0 where
  pub long : length cols ≡ n
  pub below : (k : ℕ) → k < n → at cols k < b
  pub apart : (i j : ℕ) → i < n → j < n → at rows i ≡ at rows j → at cols i ≡ at cols j → i ≡ j

-- What module 5 gives: the first columns of the nodes are all different, and below twice the number of nodes.
pub record FirstColumns (n : ℕ) (first : List ℕ) : Type 0 where
  pub long : length first ≡ n
  pub below : (k : ℕ) → k < n → at first k < 2 * n
  pub distinct : (i j : ℕ) → i < n → j < n → at first i ≡ at first j → i ≡ j
