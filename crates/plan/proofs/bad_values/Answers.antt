-- `plan::bad_values` meets its contract. The loop's invariant: the slots so far are told of. Assumes nothing.
use Rattle.std.proofs.Common.{◌≡◌, ℕ, ◌<◌, ◌≤◌, subst, arith, length, take}
use lib.ListN.{length-take}
use lib.Seq.{get_or-take}
use Rattle.plan.specs.Faults.{Value, Fault, Faults, faults_none, faults_more}
use Rattle.plan.proofs.bad_values.Goals as goal

pub loop-value-init : goal.loop-value-init
loop-value-init c = faults_none _ _ _

pub loop-value-preserved : goal.loop-value-preserved
loop-value-preserved c =
    let l = c.loop-value in
    let a = c.args in
    let front = length-take a.m a.values.now in
    let test : l.value-index < length (take a.m a.values.now) = c.loop-value-test.true in
    faults_more _ (omega arith) (subst (λ (v : ℕ). Fault Value v c.bad_value-bad.result) (get_or-take a.m a.values.now l.value-index 0 (omega arith)) c.bad_value-bad.ensures) l.invariant

pub returns : goal.returns
returns c =
    let l = c.loop-value in
    let a = c.args in
    let front = length-take a.m a.values.now in
    let end : length (take a.m a.values.now) ≤ l.value-index = c.loop-value-test.false in
    let last : l.value-index ≡ a.m = omega (arith, l.auto.value-index-end, c.told-values, c.requires) in
    subst (λ (i : ℕ). Faults Value 0 i a.values.now l.bad) last l.invariant
