-- `running::run` meets its contract. The loop's invariant: no more agreements than updates. Assumes nothing.
use Prim.Native.Nat.{◌≤◌}
use Rattle.running.proofs.run.Given as goal

abbrev pub invariant-loop : goal.invariant-loop
invariant-loop l = l.agreed ≤ l.counter
