-- The path that a table holds, one frame longer and one shorter.
-- Assumes nothing.
use Prim.Native.Nat.{ℕ, zero, suc, ◌-◌, ◌≤◌, ◌<◌}
use native.Mathlib.Omega.{arith}
use native.Mathlib.Numerals.{add-one}
use mathlib.Core.Logic.{⊎_elim}
use mathlib.Core.Path.{◌≡◌, refl, ap, sym, ◌∙◌}
use mathlib.Core.Bool.{Bool}
use mathlib.Core.List.{List, [], ◌∷◌}
use lib.Dec.{ltb}
use lib.ListN.{length, get_or, take}
use lib.Seq.{get_or-take, length-take-le}
use borrow.Author.Tests.{lt-ltb}
use Rattle.std.specs.Prelude.{Some, None}
use Rattle.std.proofs.lemmas.Option.{slice_get_within, get_or_from_slice_get, slice_get_cases, none-some}
use Rattle.laws.specs.Lists.{stack_of}
use Rattle.laws.proofs.Lists.{stack_last}
use Rattle.tables.specs.declared.Table.{Table}
use Rattle.tables.specs.Tables.{empty, pushed_if, last_of, popped, size}
use Rattle.graph.specs.declared.reach.Frame.{Frame}
use Rattle.graph.specs.code.Path.{no_frame, path_of}

length_stack : {A : Type 0} (z : A) (fs : List A) (d : ℕ) → length (stack_of z fs d) ≡ d
length_stack z fs zero = refl
length_stack z fs (suc d) = ap suc (length_stack z fs d)

module _ (t : Table Frame 48) (long : length t.items ≡ 48) where
  pub path-long : length (path_of t) ≡ t.count
  path-long = length_stack no_frame t.items t.count

  pub path-push : (x : Frame) → length (path_of t) < 48 → (b : Bool) → b ≡ ltb t.count 48 → (u : Table Frame 48) → u ≡ pushed_if b t x → path_of u ≡ x ∷ path_of t
  path-push x h b room u e =
      let room_in : t.count < 48 = rw path-long at h in
      rw (e, room, lt-ltb t.count 48 room_in, add-one t.count) (stack_last no_frame t.items t.count x (omega arith))

  module _ (fits : length (path_of t) ≤ 48) where
    held : size t ≡ t.count
    held = length-take-le t.count t.items (omega (arith, path-long))

    pub path-pop : (f : Frame) → last_of t ≡ Some f → (u : Table Frame 48) → u ≡ popped t → path_of t ≡ f ∷ path_of u
    path-pop f h u e =
        let some : size t - 1 < size t = slice_get_within (take t.count t.items) (size t - 1) f h in
        let is : get_or t.items (t.count - 1) no_frame ≡ f =
        sym (get_or-take t.count t.items (t.count - 1) no_frame (omega (arith, held)))
        ∙ get_or_from_slice_get (take t.count t.items) (t.count - 1) f no_frame (rw held at h) in
        let k : t.count ≡ suc (t.count - 1) = omega (arith, held) in
        ap (stack_of no_frame t.items) k ∙ rw (is, e, held) refl

    pub path-none : last_of t ≡ None → path_of t ≡ []
    path-none h =
        ⊎_elim (λ w. absurd (none-some w.0 (sym h ∙ w.2))) (λ w. let z : t.count ≡ 0 = omega (arith, held, w.0) in ap (stack_of no_frame t.items) z) (slice_get_cases (take t.count t.items) (size t - 1)).1

-- the path with its first frame
pub path-first : (z x : Frame) (t : Table Frame 48) → t ≡ empty 48 z → length t.items ≡ 48 → (b : Bool) → b ≡ ltb t.count 48 → (u : Table Frame 48) → u ≡ pushed_if b t x → path_of u ≡ x ∷ []
path-first z x t none long b room u e =
    let bare : path_of t ≡ [] = ap path_of none in
    path-push t long x (omega (arith, ap length bare)) b room u e ∙ ap (λ (fs : List Frame). x ∷ fs) bare
