-- `packing::fill_bytes` meets its contract. The loop's invariant: the place is that of the next byte, and the bytes before it are the message's. Assumes nothing.
use mathlib.Core.Path.{◌≡◌, sym, subst, ◌∙◌}
use mathlib.Core.List.{List}
use Prim.Native.Nat.{ℕ, ◌+◌, ◌-◌}
use native.Mathlib.Omega.{arith}
use lib.ListN.{length, get_or, take, drop, length-drop}
use lib.Seq.{length-take-le}
use Rattle.std.proofs.Common.{get_or-drop}
use Rattle.algebra.specs.Prefix.{agree_next}
use Rattle.rules.specs.Messages.{bits_of_all, value_width}
use Rattle.packing.specs.Packing.{bytes_length}
use Rattle.packing.specs.Positions.{behind}
use Rattle.packing.proofs.Filled.{byte_is, rest_filled}
use Rattle.packing.proofs.fill_bytes.Goals as goal

-- how many bytes are left
left : (b : List ℕ) (j : ℕ) → length (take (length b - j) (drop j b)) ≡ length b - j
left b j = length-take-le (length b - j) (drop j b) (omega (arith, length-drop j b))

pub loop-byte-preserved : goal.loop-byte-preserved
loop-byte-preserved c =
    let l = c.loop-byte in
    let a = c.args in
    let b : List ℕ = a.buffer.now in
    let j : ℕ = a.from.j in
    let due : List ℕ = behind a.values.now (length b) in
    let all = left b j in
    let many = bytes_length (length b) (drop 1 (bits_of_all value_width a.values.now)) in
    let rest = length-drop j due in
    let byte : c.byte_in.result ≡ get_or due (j + l.byte-index) 0 =
    byte_is a.values.now (length b) (j + l.byte-index) l.place.k l.place.off c.two_values.result c.byte_in.result (omega arith) (omega (arith, l.place.at)) l.place.inside c.two_values.ensures.0 c.byte_in.ensures in
    (omega arith, agree_next l.byte-items (drop j due) l.byte-index c.byte_in.result (omega arith) (omega arith) l.invariant.1 (byte ∙ sym (get_or-drop j due l.byte-index 0)))

pub returns : goal.returns
returns c =
    let l = c.loop-byte in
    let a = c.args in
    let b : List ℕ = a.buffer.now in
    let all = left b a.from.j in
    let end : l.byte-index ≡ length b - a.from.j = omega arith in
    rest_filled a.values.now (length b) a.from.j b l.byte-items c.requires.1 (omega arith) (subst (λ (i : ℕ). take i l.byte-items ≡ take i (drop a.from.j (behind a.values.now (length b)))) end l.invariant.1)
