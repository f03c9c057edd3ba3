-- `cutting::cut_sink`: the tables as the code makes them, by the law of `Cuts`.
-- Assumes nothing.
use Prim.Native.Nat.{◌+◌, ◌<◌}
use mathlib.Core.Path.{◌≡◌, ap, ◌∙◌}
use native.Mathlib.Omega.{arith}
use lib.ListN.{get_or, set, take, length-set}
use lib.Seq.{get_or-take}
use Rattle.std.proofs.lemmas.List.{length-take, length-map, take-map}
use Rattle.graph.specs.declared.Item.{Item}
use Rattle.graph.specs.Outcome.{no_item}
use Rattle.graph.specs.code.Tables.{items_of, point_item}
use Rattle.graph.proofs.AimLaws.{all_in}
use Rattle.graph.proofs.Lists.{push-held, put-item}
use Rattle.graph.proofs.Cuts.{cut-to, owned_le, sunk-less}
use borrow.Author.Rules.{rules}
use Rattle.graph.proofs.cutting.cut_sink.Goals as goal

pub source_of-requires : goal.source_of-requires
source_of-requires c =
    let t = c.args.t.now in
    omega (
      arith,
      length-take t.sinks.count t.sinks.items,
      c.requires.roomy.linked.sink_room,
      owned_le c.args.c (items_of t.sinks),
      sunk-less (items_of t.sinks) c.args.c c.args.s c.args.k c.requires.sunk,
    )

pub returns : goal.returns
returns c =
    let t = c.args.t.now in
    let b = c.requires.roomy in
    let box = c.add_box-a.ensures in
    let box_b = c.add_box-b.ensures in
    let inside : c.args.k < t.sinks.count = omega (arith, length-take t.sinks.count t.sinks.items, c.requires.sunk.inside) in
    let owner : c.args.c < t.n = omega (arith, c.requires.sunk.owner, all_in (λ (x : Item). x.owner < t.n) (items_of t.sinks) c.args.k no_item c.requires.sunk.inside b.linked.sink_owners) in
    let y = point_item t.n (get_or t.sinks.items c.args.k no_item) in
    let both = rw box.table at box_b.table in
    let to = rw box.table at box_b.node in
    let two : t.n + 1 + 1 ≡ t.n + 2 = omega arith in
    let turned = ap (take t.sources.count) (rw (to, both) at c.turn.ensures) ∙ take-map _ t.sources.count t.sources.items in
    let pointed : items_of (record { items = set t.sinks.items c.args.k y; count = t.sinks.count }) ≡ set (items_of t.sinks) c.args.k y = put-item t.sinks c.args.k y inside in
    let sources = push-held _ c.source_of.result c.push.result c.push.new.self (rw both at c.push.ensures.room) (rw both at c.push.ensures.table) c.push.ensures.long (rw turned (simp length-map (omega (arith, b.source_room, c.requires.n_bound)))) b.linked.source_room in
    let sinks = push-held _ c.sink_of.result c.push-2.result c.push-2.new.self (rw both at c.push-2.ensures.room) (rw (box.node, both) at c.push-2.ensures.table) (rw (box.node, both) at c.push-2.ensures.long) (rw pointed (simp length-set (omega (arith, b.sink_room, c.requires.n_bound)))) b.linked.sink_room in
    rw (both, two)
    (cut-to t b c.args.c c.args.s c.args.k c.requires.sunk owner c.requires.n_bound (search rules) _ (get_or-take t.sinks.count t.sinks.items c.args.k no_item inside) _ _
    (rw (turned, c.source_of.ensures, box.node) at sources.0, sources.1) (rw (pointed, c.sink_of.ensures, to) at sinks.0, sinks.1))
