-- `Sound::text_len` meets its contract: the sum of the chain. Assumes nothing.
use Rattle.std.proofs.Common.{◌∙◌, rules, tests, arith}
use Rattle.std.proofs.lemmas.Iterator.{serves_from_Range, YieldsList-from_range, YieldsList-from_map}
use Rattle.std.proofs.lemmas.Iterator.Consumers.{sum_from_yields_List, fits_from_yields_list}
use Rattle.path.specs.Segments.{drawn_of}
use Rattle.path.proofs.Sheets.{next_length, lengths-summed, drawn-smalls, text_bound, drawn-few}
use Rattle.path.proofs.sheet.Sound.text_len.Goals as goal

pub sum-requires-clause-can : goal.sum-requires-clause-can
sum-requires-clause-can c = (tt, serves_from_Range (λ x q r. search rules) (λ x h k. search rules))

pub sum-requires-clause-fits : goal.sum-requires-clause-fits
sum-requires-clause-fits c =
    let s = c.args.self.now in
    let ds = drawn_of s.sheet.now in
    fits_from_yields_list _ _ (YieldsList-from_map _ (next_length ds) (YieldsList-from_range 0 s.size s.size (cc) (omega arith)) c.map.ensures.closure (λ q x f k. search (rules, tests)))
    (omega (arith, lengths-summed ds s.size s.whole, text_bound ds (drawn-smalls s.sheet.now s.sound.0), drawn-few s.sheet.now s.sound.0))

pub returns : goal.returns
returns c =
    let s = c.args.self.now in
    let ds = drawn_of s.sheet.now in
    sum_from_yields_List _ c.sum.result c.sum.ensures.ran (YieldsList-from_map _ (next_length ds) (YieldsList-from_range 0 s.size s.size (cc) (omega arith)) c.map.ensures.closure (λ q x f k. search (rules, tests)))
    ∙ lengths-summed ds s.size s.whole
