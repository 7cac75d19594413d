-- `packing::fill_front` meets its contract. The loop's invariant: the first i bytes of the buffer are the message's. Assumes nothing.
use mathlib.Core.Path.{sym, ap₂, ◌∙◌}
use mathlib.Core.List.{List}
use Prim.Native.Nat.{ℕ, ◌+◌, ◌*◌, ◌-◌, ◌/◌, ◌%◌, ◌^◌}
use native.Mathlib.Omega.{arith}
use lib.ListN.{length}
use Rattle.algebra.specs.Prefix.{agree_next, agree_all}
use Rattle.rules.specs.Messages.{bytes}
use Rattle.packing.specs.Positions.{field_bits, bytes_at, front_byte}
use Rattle.packing.specs.Packing.{bytes_length}
use Rattle.packing.proofs.fill_front.Goals as goal

pub loop-i-preserved : goal.loop-i-preserved
loop-i-preserved c =
    let l = c.loop-i in
    let a = c.args in
    let bits : List ℕ = field_bits a.plan a.size a.values.now in
    let n : ℕ = length a.buffer.now in
    let same = bytes_length n bits in
    agree_next l.buffer (bytes n bits) l.i c.byte_in.result (omega arith) (omega arith) l.invariant
    (c.byte_in.ensures ∙ ap₂ (λ (h v : ℕ). (2 ^ 17 * h + v) / 2 ^ (32 - 8 * l.i) % 2 ^ 8) c.header.ensures.0 c.packed_value.ensures.0
    ∙ sym (front_byte a.plan a.size a.values.now (8 * l.i) (omega arith)) ∙ sym (bytes_at n bits l.i (omega arith)))

pub returns : goal.returns
returns c =
    let l = c.loop-i in
    let a = c.args in
    let bits : List ℕ = field_bits a.plan a.size a.values.now in
    let n : ℕ = length a.buffer.now in
    let same = bytes_length n bits in
    agree_all l.buffer (bytes n bits) l.i (omega arith) (omega arith) l.invariant
