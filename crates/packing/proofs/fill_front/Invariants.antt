-- `packing::fill_front` meets its contract. The loop's invariant: the first i bytes of the buffer are the message's. Assumes nothing.
use mathlib.Core.Path.{◌≡◌}
use lib.ListN.{length, take}
use Rattle.rules.specs.Messages.{bytes}
use Rattle.packing.specs.Positions.{field_bits}
use Rattle.packing.proofs.fill_front.Given as goal

abbrev pub invariant-loop-i : goal.invariant-loop-i
invariant-loop-i l = take l.i l.buffer ≡ take l.i (bytes (length l.initial.buffer) (field_bits l.plan l.size l.values))
