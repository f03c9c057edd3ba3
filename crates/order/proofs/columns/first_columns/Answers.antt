-- `columns::first_columns` meets its contract: what it makes is what the laws of proofs/Whole.antt speak of.
-- Assumes nothing.
use Rattle.std.proofs.Common.{◌≡◌, ◌∙◌, ap, List, length}
use Rattle.graph.specs.Shape.{Shape}
use Rattle.order.specs.Chains.{columns}
use Rattle.order.specs.Ordered.{columns_held}
use Rattle.order.specs.declared.chains.Held.{Held}
use Rattle.order.specs.declared.keys.Key.{Key}
use Rattle.order.specs.code.Held.{laid_first, laid_of}
use Rattle.order.specs.code.Keys.{held_after}
use Rattle.order.specs.code.Sums.{Codes}
use Rattle.order.proofs.Start.{coded}
use Rattle.order.proofs.Whole.{keys_of, held_of, starts_of, keyed-at, fit_at, ready_at, inside-at, columns-at}
use Rattle.order.proofs.columns.first_columns.Goals as goal
use Rattle.order.proofs.columns.first_columns.Goals.{After-as_slice, After-chained-h, After-columns, After-starts-starts}

-- what was made of the table after both rounds, as the laws name it
keys-eq : (c : After-as_slice) → c.as_slice.result.now ≡ keys_of c.args.codes.now c.pair_weights.new.sums
keys-eq c = c.as_slice.ensures.items ∙ c.sort.ensures

chains-eq : (c : After-chained-h) → c.as_slice.result.now ≡ keys_of c.args.codes.now c.pair_weights.new.sums → c.chained-h.result ≡ held_of c.args.codes.now c.pair_weights.new.sums c.args.n
chains-eq c e = c.chained-h.ensures ∙ ap (λ (v : List Key). held_after c.args.n v (length v)) e

starts-eq : (c : After-starts-starts) → c.chained-h.result ≡ held_of c.args.codes.now c.pair_weights.new.sums c.args.n → c.starts-starts.result ≡ starts_of c.args.codes.now c.pair_weights.new.sums c.args.n
starts-eq c e = c.starts-starts.ensures ∙ ap (λ (v : Held). (laid_of (laid_first v) v.n).starts) e

is-columns : (c : After-columns) →
    c.chained-h.result ≡ held_of c.args.codes.now c.pair_weights.new.sums c.args.n →
    c.starts-starts.result ≡ starts_of c.args.codes.now c.pair_weights.new.sums c.args.n →
    (g : Shape) → Codes g c.args.codes.now → length g ≡ c.args.n → c.columns.result ≡ columns_held (columns g)
is-columns c e i g d l = rw (c.columns.ensures, e, i) (columns-at c.args.codes.now c.args.n c.pair_weights.new.sums c.pair_weights.ensures g d l)

pub sort-requires-clause-coded : goal.sort-requires-clause-coded
sort-requires-clause-coded c = coded c.requires.graph c.args.codes.now c.requires.codes

pub chained-h-requires : goal.chained-h-requires
chained-h-requires c = rw (keys-eq (goal.at.chained-h-requires c).After-as_slice) (keyed-at c.args.codes.now c.args.n c.requires c.pair_weights.new.sums c.pair_weights.ensures)

pub starts-starts-requires : goal.starts-starts-requires
starts-starts-requires c =
    let p = goal.at.starts-starts-requires c in
    rw (chains-eq p.After-chained-h (keys-eq p.After-as_slice)) (ready_at c.args.codes.now c.args.n c.requires c.pair_weights.new.sums c.pair_weights.ensures)

pub columns-requires : goal.columns-requires
columns-requires c =
    let p = goal.at.columns-requires c in
    let e = chains-eq p.After-chained-h (keys-eq p.After-as_slice) in
    record { fit = rw e (fit_at c.args.codes.now c.args.n c.requires c.pair_weights.new.sums c.pair_weights.ensures); by_index = rw (e, starts-eq p.After-starts-starts e) (inside-at c.args.codes.now c.args.n c.requires c.pair_weights.new.sums c.pair_weights.ensures) }

pub returns : goal.returns
returns c =
    let p = goal.at.returns c in
    let e = chains-eq p.After-chained-h (keys-eq p.After-as_slice) in
    is-columns p.After-columns e (starts-eq p.After-starts-starts e)
