-- `plan::bad_rests` meets its contract. The loop's invariant: the slots from m on so far are told of. Assumes nothing.
use Rattle.std.proofs.Common.{◌+◌}
use Rattle.plan.specs.Faults.{Unused, Faults}
use Rattle.plan.proofs.bad_rests.Given as goal

abbrev pub invariant-loop-rest : goal.invariant-loop-rest
invariant-loop-rest l = Faults Unused l.m (l.m + l.rest-index) l.values l.bad
