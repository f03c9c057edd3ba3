-- `StandIn::byte` meets its contract: `#`, the number, and `(invalid)`, as `Labels` has computed them. Assumes nothing.
use Prim.Native.Nat.{ℕ, ◌-◌, ◌≤◌, ◌<◌}
use native.Mathlib.Omega.{arith}
use mathlib.Core.Path.{◌≡◌, sym, ap, ◌∙◌}
use lib.ListN.{get_or}
use borrow.Author.Tests.{eq-eqb, ne_eqb, lt-ltb, le-ltb}
use Rattle.laws.specs.Bytes.{ascii}
use Rattle.path.specs.code.StandIns.{shown_in, places_of, digit_of}
use Rattle.path.proofs.Labels.{byte_of, byte_is, byte_low}
use Rattle.path.proofs.stand_in.StandIn.byte.Goals as goal

pub returns-then-i-eq0 : goal.returns-then-i-eq0
returns-then-i-eq0 c =
    let j = c.args.self.number in
    let i = c.args.i in
    let e : byte_of j i ≡ 35 = rw (eq-eqb i 0 c.if-i-eq0.true) in
    sym e ∙ byte_is j c.args.self.there i c.requires

pub invalid_byte-requires : goal.invalid_byte-requires
invalid_byte-requires c =
    let j = c.args.self.number in
    let i = c.args.i in
    let d : c.places_of-d.result ≡ places_of (shown_in j) = c.places_of-d.ensures ∙ ap places_of c.shown-v.ensures in
    rw d (omega (arith, byte_low j c.args.self.there i c.requires))

pub returns-then-d-i : goal.returns-then-d-i
returns-then-d-i c =
    let j = c.args.self.number in
    let i = c.args.i in
    let d : c.places_of-d.result ≡ places_of (shown_in j) = c.places_of-d.ensures ∙ ap places_of c.shown-v.ensures in
    let l : places_of (shown_in j) < i = rw d at c.if-d-i.true in
    let e : byte_of j i ≡ get_or (ascii "(invalid)") (i - places_of (shown_in j) - 1) 0 = rw (ne_eqb i 0 c.if-i-eq0.false, lt-ltb (places_of (shown_in j)) i l) in
    c.invalid_byte.ensures ∙ ap (λ (k : ℕ). get_or (ascii "(invalid)") (i - k - 1) 0) d ∙ sym e ∙ byte_is j c.args.self.there i c.requires

pub returns : goal.returns
returns c =
    let j = c.args.self.number in
    let i = c.args.i in
    let d : c.places_of-d.result ≡ places_of (shown_in j) = c.places_of-d.ensures ∙ ap places_of c.shown-v.ensures in
    let l : i ≤ places_of (shown_in j) = rw d at c.if-d-i.false in
    let e : byte_of j i ≡ digit_of (shown_in j) (places_of (shown_in j) - i) = rw (ne_eqb i 0 c.if-i-eq0.false, le-ltb (places_of (shown_in j)) i l) in
    c.digit_of.ensures ∙ ap (λ (k : ℕ). digit_of k (c.places_of-d.result - i)) c.shown-v.ensures ∙ ap (λ (k : ℕ). digit_of (shown_in j) (k - i)) d ∙ sym e ∙ byte_is j c.args.self.there i c.requires
