-- `encoding::put_keys` meets its contract. The loop's invariant: the first i keys stand as bytes at the front, and the others are as before. Assumes nothing.
use mathlib.Core.Path.{◌≡◌, refl, ◌∙◌}
use Prim.Native.Nat.{◌+◌, ◌*◌, ◌-◌}
use native.Mathlib.Omega.{arith}
use Rattle.encoding.proofs.Keys.{placed_none, placed_next, placed_all}
use Rattle.encoding.proofs.put_keys.Goals as goal

pub loop-i-init : goal.loop-i-init
loop-i-init c = placed_none _ _

pub loop-i-preserved : goal.loop-i-preserved
loop-i-preserved c =
    let l = c.loop-i in
    let a = c.args in
    let four : 4 * l.i + 4 - 4 * l.i ≡ 4 = omega arith in
    rw four (placed_next a.keys.now a.buffer.now (omega arith) (omega arith) refl (c.copy_from_slice.ensures.after ∙ c.to_le_bytes.ensures) l.invariant)

pub returns : goal.returns
returns c = placed_all _ _ (omega arith) c.loop-i.invariant
