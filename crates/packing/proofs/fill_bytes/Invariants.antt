-- `packing::fill_bytes` meets its contract. The loop's invariant: the place is that of the next byte, and the bytes before it are the message's. Assumes nothing.
use mathlib.Core.Path.{◌≡◌}
use Prim.Native.Nat.{◌+◌}
use lib.ListN.{length, take, drop}
use Rattle.packing.specs.Positions.{behind}
use Rattle.packing.proofs.fill_bytes.Given as goal

abbrev pub invariant-loop-byte : goal.invariant-loop-byte
invariant-loop-byte l =
    (l.place.j ≡ l.fn.from.j + l.byte-index) × (take l.byte-index l.byte-items ≡ take l.byte-index (drop l.fn.from.j (behind l.values (length l.fn.buffer))))
