-- `unpacking::field_at` meets its contract: a field by the three bytes that it lies in (`field_three`). Assumes
-- nothing.
use mathlib.Core.Path.{◌≡◌, sym, ap, ap₂, ◌∙◌}
use Prim.Native.Nat.{ℕ, suc, ◌+◌, ◌-◌, ◌/◌, ◌%◌, ◌^◌}
use native.Mathlib.Numerals.{add-one}
use native.Mathlib.Omega.{arith}
use Rattle.unpacking.proofs.Fields.{joined, byte_in, field_three}
use Rattle.unpacking.proofs.field_at.Goals as goal

pub returns : goal.returns
returns c =
    let a = c.args in
    let b = a.message.now in
    let i : ℕ = a.at / 8 in
    let next : i + 2 ≡ suc (suc i) = omega arith in
    let first = c.byte_at-first.ensures.0 in
    let second = c.byte_at-second.ensures.0 ∙ ap (byte_in b) (add-one i) in
    let third = c.byte_at-third.ensures.0 ∙ ap (byte_in b) next in
    c.part.ensures
    ∙ ap (λ (n : ℕ). n / 2 ^ (24 - a.at % 8 - a.width) % 2 ^ a.width) (ap₂ (λ (x y : ℕ). joined x y c.byte_at-third.result) first second ∙ ap (λ (z : ℕ). joined (byte_in b i) (byte_in b (suc i)) z) third)
    ∙ sym (field_three b a.at a.width c.requires.0)
