-- `unpacking::read_words` meets its contract. The loop's invariant: the slots of the first i words hold the values. Assumes nothing.
use mathlib.Core.Path.{◌≡◌}
use Prim.Native.Nat.{◌*◌}
use Rattle.unpacking.specs.Parts.{values_in}
use Rattle.unpacking.proofs.read_words.Given as goal

abbrev pub invariant-loop-i : goal.invariant-loop-i
invariant-loop-i l = l.values ≡ values_in l.message (3 * l.i)
