-- A table: empty, with one item more, and with one less.
-- Assumes nothing.
use Rattle.std.specs.Prelude.{ℕ, ◌+◌, ◌-◌, Bool, cond, set, replicate, length, take, Option, slice_get}
use Rattle.tables.specs.declared.Table.{Table}

-- no items, in an array of m
abbrev pub empty : {A : Type 0} (m : ℕ) → A → Table A m
empty m none = record { items = replicate m none; count = 0 }

-- one item more; past the array there is no place for it
abbrev pub pushed : {A : Type 0} {m : ℕ} → Table A m → A → Table A m
pushed t x = record { items = set t.items t.count x; count = t.count + 1 }

-- one item more, where there is room
abbrev pub pushed_if : {A : Type 0} {m : ℕ} → Bool → Table A m → A → Table A m
pushed_if room t x = cond room (pushed t x) t

-- how many items there are: no more than the array has
abbrev pub size : {A : Type 0} {m : ℕ} → Table A m → ℕ
size t = length (take t.count t.items)

-- the last item, if there is one
abbrev pub last_of : {A : Type 0} {m : ℕ} → Table A m → Option A
last_of t = slice_get (take t.count t.items) (size t - 1)

-- the last item taken away, if there is one; its place keeps it
abbrev pub popped : {A : Type 0} {m : ℕ} → Table A m → Table A m
popped t = record { items = t.items; count = size t - 1 }
