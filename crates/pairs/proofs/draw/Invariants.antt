-- `pairs::draw` meets its contract. The loop's invariant: neither set has more keys than were drawn from. Assumes
-- nothing.
use Prim.Native.Nat.{◌≤◌}
use Rattle.arrayvec.specs.ArrayVec.{array_vec_len}
use Rattle.pairs.proofs.draw.Given as goal

abbrev pub invariant-loop-j : goal.invariant-loop-j
invariant-loop-j l = (array_vec_len l.dome ≤ l.j) × (array_vec_len l.home ≤ l.j)
