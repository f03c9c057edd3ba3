-- `LinkedEnds::push_all` meets its contract: after p turns the codes of the first p nodes are pushed.
-- Assumes nothing.
use Rattle.std.proofs.Common.{◌≡◌, List, [], ◌++◌, ap, ◌∙◌, sym, arith, take}
use mathlib.Core.Path.{subst}
use Rattle.order.specs.declared.codes.Pair.{Pair}
use Rattle.order.specs.code.Codes.{Pushed}
use Rattle.order.proofs.Pushed.{codes_to, codes-none, codes-next, room_at, codes_all, pushed-none, pushed-then}
use Rattle.order.proofs.codes.LinkedEnds.push_all.Goals as goal

pub loop-p-init : goal.loop-p-init
loop-p-init c = subst (Pushed c.args.codes.now c.args.codes.now) (sym (codes-none c.args.self.now.sources.now c.args.self.now.sinks.now)) (pushed-none c.args.codes.now)

pub push_node-requires : goal.push_node-requires
push_node-requires c =
    let l = c.loop-p in
    omega (arith, l.invariant.count, c.requires, room_at c.args.self.now.n c.args.self.now.sources.now c.args.self.now.sinks.now c.args.self.now.sources_linked c.args.self.now.sinks_linked l.p)

pub loop-p-preserved : goal.loop-p-preserved
loop-p-preserved c =
    let l = c.loop-p in
    subst (Pushed c.args.codes.now c.push_node.new.codes) (sym (codes-next c.args.self.now.sources.now c.args.self.now.sinks.now l.p))
    (pushed-then c.args.codes.now l.codes c.push_node.new.codes _ _ l.invariant c.push_node.ensures)

pub returns : goal.returns
returns c =
    let l = c.loop-p in
    let s = c.args.self.now.sources.now in
    let k = c.args.self.now.sinks.now in
    let e : l.p ≡ c.args.self.now.n = omega arith in
    let none : take c.args.codes.now.count c.args.codes.now.items ≡ [] = rw c.requires in
    codes_all c.args.self.now.n s k c.args.self.now.sources_linked c.args.self.now.sinks_linked _ (l.invariant.list ∙ ap (λ (v : List Pair). v ++ codes_to s k l.p) none ∙ ap (codes_to s k) e)
