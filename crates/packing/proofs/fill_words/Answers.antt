-- `packing::fill_words` meets its contract. The loop's invariant is `FilledTo`: the buffer has the bytes in front of the place. The measure is what is left of the buffer.
-- Assumes nothing.
use mathlib.Core.Path.{refl, ap}
use Prim.Native.Nat.{ℕ, ◌-◌, ◌/◌, ◌^◌}
use native.Mathlib.Omega.{arith}
use lib.ListN.{length}
use Rattle.packing.proofs.Filled.{begun, word_more}
use Rattle.packing.proofs.fill_words.Goals as goal

pub loop-place-init : goal.loop-place-init
loop-place-init c = rw c.first-place.ensures (begun _ _ _ refl)

pub loop-place-preserved : goal.loop-place-preserved
loop-place-preserved c =
    let l = c.loop-place in
    let a = c.args in
    rw (c.put_word.ensures, c.behind_word-place.ensures)
    (word_more a.values.now (length a.buffer.now) l.place.j l.place.k l.place.off _ l.buffer (omega (arith, l.invariant.long)) l.invariant l.place.at l.place.inside (ap (λ (x : ℕ). x / 2 ^ (19 - l.place.off)) c.three_values.ensures))
