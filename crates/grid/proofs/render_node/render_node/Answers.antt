-- `render_node::render_node`: each number is that of its leaf; what is small is by the leaves' laws.
-- Assumes nothing.
use Prim.Native.Nat.{◌-◌, ◌*◌, ◌≤◌}
use native.Mathlib.Omega.{arith}
use native.Mathlib.Nat.{div-le_self}
use Rattle.grid.specs.code.Rendered.{render_from}
use Rattle.grid.proofs.NodeLaws.{text_le, empty_le, lines_le, gap_le, first_le}
use borrow.Author.Rules.{rules}
use Rattle.grid.proofs.render_node.render_node.Goals as goal
use Rattle.grid.proofs.render_node.render_node.Goals.{After-text_height-2}

-- what is small
low : (t : After-text_height-2) →
    (t.inner_width-inner.result ≤ 8388608) × (t.empty_height-empty.result ≤ 128) × (t.separation-source_gap.result ≤ 8388608)
    × (t.separation-sink_gap.result ≤ 8388608) × (t.text_height.result ≤ 256) × (t.lines_height.result ≤ 163200)
    × (t.text_height-2.result ≤ 256)
low t =
    let a = t.args in
    let inner = t.inner_width-inner.result in
    let i : inner ≤ 8388608 = omega arith in (
      i,
      omega (arith, t.empty_height-empty.ensures, empty_le inner),
      omega (arith, t.separation-source_gap.ensures, gap_le (inner - 128 * a.a.len) a.a.count),
      omega (arith, t.separation-sink_gap.ensures, gap_le (inner - 128 * a.b.len) a.b.count),
      omega (arith, t.text_height.ensures, text_le a.a.len),
      omega (arith, t.lines_height.ensures, lines_le a.c.count (search rules)),
      omega (arith, t.text_height-2.ensures, text_le a.b.len),
    )

pub returns : goal.returns
unfolding render_from
returns c =
    let l = low (goal.at.returns c).After-text_height-2 in
    let a = c.args in
    let i = first_le c.separation-source_gap.result a.a.count in
    let o = first_le c.separation-sink_gap.result a.b.count in
    let h = div-le_self (c.inner_width-inner.result - 256 * a.c.longest) 2 in (
      cc (c.inner_width-inner.ensures, c.empty_height-empty.ensures, c.separation-source_gap.ensures, c.separation-sink_gap.ensures, c.text_height.ensures, c.lines_height.ensures, c.text_height-2.ensures, c.first_x.ensures, c.first_x-2.ensures),
      record {
        wide = omega arith;
        tall = omega arith;
        first_input = omega (arith, c.first_x.ensures);
        input_gap = omega arith;
        input_height = omega arith;
        first_output = omega (arith, c.first_x-2.ensures);
        output_gap = omega arith;
        output_height = omega arith;
        output_below = omega arith;
        center_x = omega arith;
        center_y = omega arith;
      },
    )
