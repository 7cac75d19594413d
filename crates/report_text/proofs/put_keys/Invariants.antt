-- `report_text::put_keys` meets its contract. The loop's invariant: the text of the first keys stands behind the lines.
-- Assumes nothing.
use Rattle.std.proofs.Common.{◌*◌, take}
use Rattle.rules.specs.Report.{keys_text}
use Rattle.report_text.specs.Puts.{Puts}
use Rattle.report_text.proofs.put_keys.Given as goal

abbrev pub invariant-loop-key : goal.invariant-loop-key
invariant-loop-key l = Puts l.initial.lines.items (keys_text (take l.key-index l.keys)) (11 * l.key-index) l.lines.items
