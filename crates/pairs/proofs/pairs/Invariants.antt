-- `pairs::pairs` meets its contract. The loop's invariant: no more agreements than pairs. Assumes nothing.
use Prim.Native.Nat.{◌≤◌}
use Rattle.pairs.proofs.pairs.Given as goal

abbrev pub invariant-loop-i : goal.invariant-loop-i
invariant-loop-i l = l.agreed ≤ l.i
