-- What the code's readers answer: the definition's reading, as a `Result`.
-- Assumes nothing.
use Rattle.std.specs.Prelude.{ℕ, ◌*◌, ◌≤◌, ◌≡◌, cond, List, eqb, ltb, Result, Ok, Err}
use Rattle.refusals.specs.declared.Refusal.{Refusal}
use Rattle.refusals.specs.declared.Refusal.TheVariants.{NotText}
use Rattle.chart.specs.declared.Board.{Board as Tables}
use Rattle.chart.specs.declared.reader.Reader.{Reader}
use Rattle.chart.specs.declared.reader.Part.{Part as PartRead}
use Rattle.chart.specs.declared.reader.Counts.{Counts as CountsRead}
use Rattle.chart.specs.Chart.{Part, Counts, Got, got, refused, ◌then◌, byte, is_text, byte_c2, byte_b0}

-- the next character of a text of which so many bytes are left: a text byte or a degree sign, and how many bytes it has
abbrev pub character_at : ℕ → List ℕ → ℕ → Got ℕ
character_at left s at =
    byte s at then λ b at₁.
    cond (eqb b byte_c2)
    (cond (ltb left 2) (refused NotText) (byte s at₁ then λ c at₂. cond (eqb c byte_b0) (got 2 at₂) (refused NotText)))
    (cond (is_text b) (got 1 at₁) (refused NotText))

-- what an answer says with the place after it, where the value stands for f of it
abbrev pub told : {A B : Type 0} → (B → A) → Result B Refusal → ℕ → Got A
told f (Ok x) at = got (f x) at
told f (Err why) at = refused why

-- a reader that was a and is b now: the value of its answer r, seen as f, or the refusal, is what `read` reads at a's place; b stands after it, in the same chart
abbrev pub HasRead : {A B : Type 0} → (B → A) → (List ℕ → ℕ → Got A) → Reader → Result B Refusal → Reader → Type 0
HasRead f read a r b = (told f r b.at ≡ read a.chart.now a.at) × (b.chart.now ≡ a.chart.now)

-- what a value of the code's stands for
abbrev pub as_is : {A : Type 0} → A → A
as_is x = x

abbrev pub as_part : PartRead → Part
as_part t = record { at = t.at; len = t.len }

abbrev pub as_counts : CountsRead → Counts
as_counts c = record { sources = c.sources; lines = c.lines; sinks = c.sinks }

-- what is read, made into another value
abbrev pub made : {A B : Type 0} → (A → B) → Got A → Got B
made f (got x at) = got (f x) at
made f (refused r) = refused r

-- no table counts more than the records of k nodes, of which each has at most 255 of a kind
abbrev pub Within : ℕ → Tables → Type 0
Within k t = (t.sources.count ≤ 255 * k) × (t.lines.count ≤ 255 * k) × (t.sinks.count ≤ 255 * k)
