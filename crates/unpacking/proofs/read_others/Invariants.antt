-- `unpacking::read_others` meets its contract. The loop's invariant: the first i slots hold the values. Assumes nothing.
use mathlib.Core.Path.{◌≡◌}
use Rattle.unpacking.specs.Parts.{values_in}
use Rattle.unpacking.proofs.read_others.Given as goal

abbrev pub invariant-loop-i : goal.invariant-loop-i
invariant-loop-i l = l.values ≡ values_in l.message l.i
