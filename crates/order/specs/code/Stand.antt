-- What it means that the code's arrays hold chains.
-- Assumes nothing.
use Rattle.std.specs.Prelude.{ℕ, ◌≤◌, ◌<◌, ◌≡◌, List, length, get_or}
use Rattle.order.specs.declared.chains.Chain.{Chain}
use Rattle.order.specs.declared.chains.Held.{Held}
use Rattle.order.specs.Chains.{Chains, chain}
use Rattle.order.specs.code.Held.{top, top_at, colour_at, place_at}

-- the length and the first node of a chain, 0 for the first node of an empty one
abbrev pub top_of : List ℕ → Chain
top_of c = top (length c) (get_or c 0 0)

-- those of each of n chains
pub record Tops (n : ℕ) (cs : Chains) (ts : List Chain) : Type 0 where
  pub size : length cs ≡ n
  pub few : n ≤ 48
  pub long : length ts ≡ 48
  pub each : (k : ℕ) → k < n → top_at ts k ≡ top_of (chain cs k)

-- node p is where its colour and its place say
pub record At (n : ℕ) (cs : Chains) (h : Held) (p : ℕ) : Type 0 where
  pub colour : colour_at h p < n
  pub place : place_at h p < length (chain cs (colour_at h p))
  pub node : get_or (chain cs (colour_at h p)) (place_at h p) 0 ≡ p

-- the node at place i of chain k has that colour and that place
pub record Has (n : ℕ) (h : Held) (k i r : ℕ) : Type 0 where
  pub node : r < n
  pub colour : colour_at h r ≡ k
  pub place : place_at h r ≡ i

pub record Stand (n : ℕ) (cs : Chains) (h : Held) : Type 0 where
  pub count : h.n ≡ n
  pub tops : Tops n cs h.chains
  pub long : length h.seats ≡ 48
  pub at : (p : ℕ) → p < n → At n cs h p
  pub has : (k i : ℕ) → k < n → i < length (chain cs k) → Has n h k i (get_or (chain cs k) i 0)
