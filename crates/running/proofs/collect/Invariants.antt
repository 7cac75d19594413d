-- `running::collect` meets its contract. The loop's invariant: no more keys are in than were looked at. Assumes nothing.
use Prim.Native.Nat.{◌≤◌}
use Rattle.arrayvec.specs.ArrayVec.{array_vec_len}
use Rattle.running.proofs.collect.Given as goal

abbrev pub invariant-loop-j : goal.invariant-loop-j
invariant-loop-j l = array_vec_len l.keys ≤ l.j
