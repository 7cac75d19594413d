-- `report_text::put_keys` meets its contract: one key more, behind a space. Assumes nothing.
use Rattle.std.proofs.Common.{List, ◌++◌, ℕ, ap, ◌∙◌, append_assoc, arith, get_or}
use Rattle.rules.specs.Report.{text, decimal}
use Rattle.report_text.proofs.Printing.{next_key}
use Rattle.report_text.proofs.put_keys.Goals as goal

pub loop-key-preserved : goal.loop-key-preserved
loop-key-preserved c =
    let l = c.loop-key in
    let keys = c.args.keys.now in
    record {
      written =
          rw (next_key keys l.key-index c.loop-key-test.true)
          (c.put_number.ensures.written ∙ ap (λ (t : List ℕ). t ++ decimal (get_or keys l.key-index 0)) (c.put_text.ensures.written ∙ ap (λ (t : List ℕ). t ++ text " ") l.invariant.written) ∙ simp append_assoc);
      within = omega (arith, c.put_number.ensures.within, c.put_text.ensures.within, l.invariant.within);
    }
