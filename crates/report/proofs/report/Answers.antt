-- `report::report` meets its contract: the buffer is 0 at first, and what is written is copied to its front.
-- Assumes nothing.
use mathlib.Core.Path.{ap, ◌∙◌}
use mathlib.Core.List.{List, ◌++◌}
use Prim.Native.Nat.{ℕ}
use lib.ListN.{drop, replicate}
use Rattle.report_text.specs.Puts.{text_room}
use Rattle.report.proofs.Answering.{told}
use Rattle.report.proofs.report.Goals as goal

pub returns : goal.returns
returns c =
    let lines = c.written-lines in
    let end = c.len-length in
    told c.args.input.now lines.result.items _ end.result lines.ensures
    (ap (λ (l : List ℕ). l ++ drop end.result (replicate text_room 0)) (c.copy_from_slice.ensures.after ∙ c.as_slice.ensures.value)) end.ensures.value end.ensures.fits
