-- `plan::bad_rests` meets its contract. The loop's invariant: the slots from m on so far are told of. Assumes nothing.
use Rattle.std.proofs.Common.{◌≡◌, ℕ, ◌+◌, ◌-◌, ◌<◌, ◌≤◌, sym, ◌∙◌, subst, arith, length, get_or, take, drop}
use lib.ListN.{length-take, length-drop}
use lib.Seq.{get_or-take, get_or-drop}
use lib.Bits.{bit_or}
use Rattle.rules.specs.Numbers.{most_samples}
use Rattle.plan.specs.Faults.{Unused, Faults, faults_none, faults_more}
use Rattle.plan.proofs.bad_rests.Goals as goal

pub loop-rest-init : goal.loop-rest-init
loop-rest-init c = let start : c.args.m ≡ c.args.m + 0 = omega arith in subst (λ (i : ℕ). Faults Unused c.args.m i c.args.values.now 0) start (faults_none _ _ _)

pub loop-rest-preserved : goal.loop-rest-preserved
loop-rest-preserved c =
    let l = c.loop-rest in
    let m = c.args.m in
    let values = c.args.values.now in
    let back = length-take (64 - m) (drop m values) in
    let test : l.rest-index < length (take (64 - m) (drop m values)) = c.loop-rest-test.true in
    let slot : get_or (take (64 - m) (drop m values)) l.rest-index 0 ≡ get_or values (m + l.rest-index) 0 = get_or-take (64 - m) (drop m values) l.rest-index 0 (omega arith) ∙ get_or-drop m values l.rest-index 0 in
    let next : m + l.rest-index + 1 ≡ m + (l.rest-index + 1) = omega arith in
    subst (λ (i : ℕ). Faults Unused m i values (bit_or l.bad (get_or (take (64 - m) (drop m values)) l.rest-index 0))) next
    (faults_more values (omega arith) (record { none = λ e. sym slot ∙ e; all = λ e. slot ∙ e }) l.invariant)

pub returns : goal.returns
returns c =
    let l = c.loop-rest in
    let m = c.args.m in
    let values = c.args.values.now in
    let back = length-take (64 - m) (drop m values) in
    let behind = length-drop m values in
    let end : length (take (64 - m) (drop m values)) ≤ l.rest-index = c.loop-rest-test.false in
    let within : l.rest-index ≤ length (take (64 - m) (drop m values)) = l.auto.rest-index-end in
    let last : m + l.rest-index ≡ most_samples = omega (arith, c.told-values, c.requires) in
    subst (λ (i : ℕ). Faults Unused m i values l.bad) last l.invariant
