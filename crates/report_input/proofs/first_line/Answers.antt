-- `report_input::first_line` meets its contract: the word, and what stands behind it.
-- Assumes nothing.
use mathlib.Core.Path.{sym, subst, ◌∙◌}
use mathlib.Core.List.{List}
use Prim.Native.Nat.{ℕ}
use native.Mathlib.Omega.{arith}
use Rattle.rules.specs.Report.{text, keys_line, limited}
use Rattle.report_input.proofs.Words.{begins_is}
use Rattle.report_input.specs.Lines.{Reads}
use Rattle.report_input.proofs.Ahead.{behind}
use Rattle.report_input.proofs.KeyLines.{no_word, word}
use Rattle.report_input.proofs.first_line.Goals as goal

pub returns-in_err-strip_prefix : goal.returns-in_err-strip_prefix
returns-in_err-strip_prefix c =
    let input = c.args.input.now in
    rw c.from_residual.ensures (no_word input (sym (begins_is (text "have") input) ∙ c.in_err-strip_prefix.ensures.cases))

pub returns : goal.returns
returns c =
    let input = c.args.input.now in
    let stripped = c.in_ok-strip_prefix.ensures.cases in
    behind _ _ input _ 4 _ (word input (sym (begins_is (text "have") input) ∙ stripped.0)) (omega (arith, stripped.2))
    (subst (λ (l : List ℕ). Reads (limited (keys_line l)) l c.keys_line.new.keys c.keys_line.result) stripped.1 c.keys_line.ensures)
