-- `encoding::put_keys` meets its contract. The loop's invariant: the first i keys stand as bytes at the front, and the others are as before. Assumes nothing.
use Rattle.encoding.proofs.Keys.{Placed}
use Rattle.encoding.proofs.put_keys.Given as goal

abbrev pub invariant-loop-i : goal.invariant-loop-i
invariant-loop-i l = Placed l.keys l.initial.buffer l.i l.buffer
