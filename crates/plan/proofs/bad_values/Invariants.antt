-- `plan::bad_values` meets its contract. The loop's invariant: the slots so far are told of. Assumes nothing.
use Rattle.plan.specs.Faults.{Value, Faults}
use Rattle.plan.proofs.bad_values.Given as goal

abbrev pub invariant-loop-value : goal.invariant-loop-value
invariant-loop-value l = Faults Value 0 l.value-index l.values l.bad
