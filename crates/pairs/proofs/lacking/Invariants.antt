-- `pairs::lacking` meets its contract. The loop's invariant: of the numbers looked at, those that the other list lacks
-- are there. Assumes nothing.
use mathlib.Core.Path.{◌≡◌}
use mathlib.Core.Bool.{not}
use Prim.Native.Nat.{◌≤◌}
use lib.ListN.{take}
use Rattle.std.specs.Prelude.{filter, ◌==◌}
use Rattle.std.specs.List.{list_any}
use Rattle.arrayvec.specs.ArrayVec.{array_vec_len}
use Rattle.pairs.proofs.lacking.Given as goal

abbrev pub invariant-loop-key : goal.invariant-loop-key
invariant-loop-key l = (array_vec_len l.keys ≤ l.key-index) × (l.keys.items ≡ filter (λ key. not (list_any (λ y. y == key) l.other)) (take l.key-index l.list))
