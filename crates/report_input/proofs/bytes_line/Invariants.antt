-- `report_input::bytes_line` meets its contract. The loop's invariant is `BytesRead`: so many pairs are stored, and
-- the line is what they and the rest of it give. Assumes nothing.
use mathlib.Core.Path.{◌≡◌}
use lib.ListN.{length}
use Rattle.std.specs.Slice.Iter.{chunks_rest, chunks_size}
use Rattle.report_input.proofs.ByteLines.{BytesRead}
use Rattle.report_input.proofs.bytes_line.Given as goal

abbrev pub invariant-loop-n : goal.invariant-loop-n
invariant-loop-n l = (chunks_size l.n-iterator.iter ≡ 2) × (length l.bytes ≡ length l.initial.bytes) × BytesRead l.line l.bytes l.n-iterator.count (chunks_rest l.n-iterator.iter)
