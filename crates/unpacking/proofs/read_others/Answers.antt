-- `unpacking::read_others` meets its contract. The loop's invariant: the first i slots hold the values. Assumes nothing.
use mathlib.Core.Path.{◌≡◌, ap, ◌∙◌}
use Prim.Native.Nat.{ℕ, ◌+◌, ◌*◌}
use native.Mathlib.Omega.{arith}
use Rattle.rules.specs.Messages.{field_at, value_width}
use Rattle.unpacking.specs.Parts.{values_in}
use Rattle.unpacking.proofs.Values.{value_more}
use Rattle.unpacking.proofs.read_others.Goals as goal

pub loop-i-preserved : goal.loop-i-preserved
loop-i-preserved c =
    let l = c.loop-i in
    let b = c.args.message.now in
    value_more b l.i (l.i + 1) c.field_at.result l.values (omega arith) (omega arith) l.invariant (c.field_at.ensures ∙ ap (λ (at : ℕ). field_at b (at + value_width * l.i) value_width) c.requires.0)

pub returns : goal.returns
returns c =
    let l = c.loop-i in
    let a = c.args in
    let all : l.i ≡ a.m = omega arith in
    l.invariant ∙ ap (values_in a.message.now) all
