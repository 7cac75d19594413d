-- `night_report::main` meets its contract: what is written lies within the text's bytes.
-- Assumes nothing.
use mathlib.Core.Path.{sym}
use borrow.Author.Rules.{rules}
use lib.Seq.{length-take-le}
use Rattle.night_report.proofs.main.Goals as goal

pub slice_bounds-write_all-end : goal.slice_bounds-write_all-end
slice_bounds-write_all-end c = sym (length-take-le _ _ (search rules))
