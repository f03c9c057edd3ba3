-- `read_chart`: what is read where reading doesn't fail, and that no byte that was read is lost.
-- Assumes nothing.
use Rattle.std.proofs.Common.{ℕ, List, [], ◌++◌, ◌≡◌, Option, Some, None, Result, Ok, Err, take, OnOk, IfSome}
use lib.Seq.{take-append_seam}
use Rattle.std.specs.Io.{StartsWith}
use Rattle.std.specs.Io.KnownBytes.{Consumes}
use Rattle.std.specs.Option.{option_map}
use Rattle.listings.proofs.read_chart.Goals as goal

front : (left new : Option (List ℕ)) (bs : List ℕ) → Consumes (option_map (take 8192) left) new bs → IfSome left (λ xs. StartsWith (take 8192 xs) bs)
front None new bs h = tt
front (Some xs) None bs h = absurd h
front (Some xs) (Some ys) bs h = rw h (take-append_seam bs ys)

whole : {A E : Type 0} (r : Result A E) (left : Option (List ℕ)) (bs : List ℕ) → OnOk r (IfSome (option_map (take 8192) left) (λ xs. bs ≡ [] ++ xs)) → OnOk r (IfSome left (λ xs. bs ≡ take 8192 xs))
whole (Ok n) None bs h = tt
whole (Ok n) (Some xs) bs h = h
whole (Err e) left bs h = tt

pub returns-clause-whole : goal.returns-clause-whole
returns-clause-whole g c = whole _ _ _ (rw (c.take.ensures.inner, c.take.ensures.limit, c.in_ok-chart.ensures.items) at c.read_to_end-read.ensures.bytes)

pub returns-clause-front : goal.returns-clause-front
returns-clause-front g c = front _ _ _ (rw (c.take.ensures.inner, c.take.ensures.limit, c.in_ok-chart.ensures.items) at c.read_to_end-read.ensures.none_lost)
