-- `unpacking::bad_values` meets its contract. The loop's invariant: the count is no more than the values before, and where it is 0 none of them is bad. Assumes nothing.
use mathlib.Core.Path.{◌≡◌}
use Prim.Native.Nat.{◌≤◌}
use Rattle.unpacking.specs.Parts.{NoneBad}
use Rattle.unpacking.proofs.bad_values.Given as goal

abbrev pub invariant-loop-value : goal.invariant-loop-value
invariant-loop-value l = (l.bad ≤ l.value-index) × (l.bad ≡ 0 → NoneBad l.value-index l.values)
