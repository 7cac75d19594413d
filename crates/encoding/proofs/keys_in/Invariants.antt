-- `encoding::keys_in` meets its contract. The loop's invariant: the first i keys of the buffer are passed, which the count of falls is below. Assumes nothing.
use Prim.Native.Nat.{◌<◌}
use Rattle.encoding.proofs.Keys.{Passed}
use Rattle.encoding.proofs.keys_in.Given as goal

abbrev pub invariant-loop-i : goal.invariant-loop-i
invariant-loop-i l = (l.falls < l.i) × Passed l.bytes l.initial.keys l.i l.keys l.falls
