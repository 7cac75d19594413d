-- `packing::fill_words` meets its contract. The loop's invariant is `FilledTo`: the buffer has the bytes in front of the place. The measure is what is left of the buffer.
-- Assumes nothing.
use Prim.Native.Nat.{◌-◌}
use lib.ListN.{length}
use Rattle.packing.specs.Positions.{FilledTo}
use Rattle.packing.proofs.fill_words.Given as goal

abbrev pub invariant-loop-place : goal.invariant-loop-place
invariant-loop-place l = FilledTo l.values (length l.initial.buffer) l.place.j l.buffer

abbrev pub decreases-loop-place : goal.decreases-loop-place
decreases-loop-place l = length l.initial.buffer - l.place.j
