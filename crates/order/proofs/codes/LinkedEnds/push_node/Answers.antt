-- `LinkedEnds::push_node` meets its contract: the sources, and then the sinks.
-- Assumes nothing.
use Rattle.std.proofs.Common.{◌≡◌, ℕ, List, ◌+◌, ◌-◌, ◌++◌, ap, ◌∙◌, arith, length}
use mathlib.Core.Path.{subst}
use Rattle.graph.specs.declared.Lead.{Lead}
use Rattle.graph.specs.Ends.{targets_of, ends_of, incidents_in}
use Rattle.order.specs.code.Codes.{Pushed, list_codes}
use Rattle.order.proofs.Pushed.{length_list, node-is, pushed-then}
use Rattle.order.proofs.codes.LinkedEnds.push_node.Goals as goal

pub push_list-requires-2-clause-room : goal.push_list-requires-2-clause-room
push_list-requires-2-clause-room c =
    let p = c.args.p in
    let s = targets_of p c.as_slice.result.now in
    let n : c.push_list.new.codes.count ≡ c.args.codes.now.count + (length s - 1 + length s) = c.push_list.ensures.count ∙ ap (λ (k : ℕ). c.args.codes.now.count + k) (length_list _ p s) in
    omega
    (arith, n, c.requires, ap (λ (v : List Lead). length (targets_of p v)) c.as_slice.ensures.items, ap (λ (v : List Lead). length (targets_of p v)) c.as_slice-2.ensures.items)

pub returns : goal.returns
returns c =
    let a = c.args in
    let xs = list_codes 1 a.p (targets_of a.p c.as_slice.result.now) in
    let ys = list_codes 0 a.p (targets_of a.p c.as_slice-2.result.now) in
    let e = node-is a.p (incidents_in a.self.now.sources.now a.self.now.sinks.now a.p) in
    let s = ap (λ (v : List Lead). list_codes 1 a.p (targets_of a.p v) ++ ys) c.as_slice.ensures.items in
    let k = ap (λ (v : List Lead). list_codes 1 a.p (ends_of a.self.now.sources.now a.p) ++ list_codes 0 a.p (targets_of a.p v)) c.as_slice-2.ensures.items in
    subst (Pushed a.codes.now c.push_list-2.new.codes) (s ∙ k ∙ e) (pushed-then a.codes.now c.push_list.new.codes c.push_list-2.new.codes xs ys c.push_list.ensures c.push_list-2.ensures)
