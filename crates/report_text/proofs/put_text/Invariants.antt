-- `report_text::put_text` meets its contract. The loop's invariant: the first bytes of the text stand behind the lines.
-- Assumes nothing.
use Rattle.std.proofs.Common.{◌≡◌, ◌++◌, take}
use Rattle.report_text.proofs.put_text.Given as goal

abbrev pub invariant-loop-byte : goal.invariant-loop-byte
invariant-loop-byte g l = l.lines.items ≡ l.initial.lines.items ++ take l.byte-index l.text
