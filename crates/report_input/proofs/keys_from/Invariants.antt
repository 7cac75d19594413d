-- `report_input::keys_from` meets its contract. The loop's invariant is `KeysRead`: so many keys are stored, and the
-- line is what they and the rest of it give. Assumes nothing.
use Rattle.report_input.proofs.KeyLines.{KeysRead}
use Rattle.report_input.proofs.keys_from.Given as goal

abbrev pub invariant-loop-i : goal.invariant-loop-i
invariant-loop-i l = KeysRead l.line l.keys l.i l.n l.digits l.key
