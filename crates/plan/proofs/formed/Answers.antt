-- `plan::formed` meets its contract: plan and size are tested before, and no slot is bad exactly where each is good.
-- Assumes nothing.
use Rattle.std.proofs.Common.{◌≡◌, ℕ, ◌<◌, ◌≤◌, Bool, true, false, eqb, length, sym, refl, ◌∙◌, subst, ⊎_elim, eq-zero-or-pos, arith, le-ltb, lt-ltb, eq-eqb, ne_eqb}
use borrow.Author.Tests.{lt-leb}
use lib.Bits.{bit_or}
use Rattle.rules.specs.Numbers.{most_samples, list_limit, plans, samples as samplesOf}
use Rattle.rules.specs.Plans.{samples_most}
use Rattle.rules.specs.Sketches.{well_formed}
use Rattle.rules.specs.Formed.{formed as formed-of, tested}
use Rattle.rules.specs.Filled.{sketch_from}
use Rattle.rules.specs.declared.Sketch.{Sketch}
use Rattle.plan.specs.Faults.{Value, Unused, Faults, or_zero, zero_or}
use Rattle.plan.proofs.formed.Goals.{After-samples-m, then-from-ge-PLANS-via-then-from-ge-PLANS, then-from-ge-PLANS-via-else-from-ge-PLANS+then-size-gt-LIST_LIMIT}
use Rattle.plan.proofs.formed.Goals as goal

-- what the tests before the slots leave
large_plan : (s : Sketch) → plans ≤ s.plan → well_formed s ≡ false
unfolding well_formed
large_plan s h = rw (le-ltb s.plan plans h)

large_size : (s : Sketch) → s.plan < plans → list_limit < s.size → well_formed s ≡ false
unfolding well_formed
large_size s h l = rw (lt-ltb s.plan plans h, lt-leb s.size list_limit l)

refuted : (b : Bool) → (b ≡ true → ⊥) → b ≡ false
refuted true n = absurd (n refl)
refuted false n = refl

-- the two numbers decide
decides : (s : Sketch) (a b : ℕ) → s.plan < plans → s.size ≤ list_limit → length s.values ≡ most_samples → Faults Value 0 (samplesOf s.plan) s.values a
    → Faults Unused (samplesOf s.plan) most_samples s.values b → eqb (bit_or a b) 0 ≡ well_formed s
decides s a b p z count low high =
    ⊎_elim
    (λ none. let both = or_zero a b none in eq-eqb (bit_or a b) 0 none ∙ sym (tested s (record {
      plan = p;
      size = z;
      count = count;
      low = λ i h. (low.none both.0 i (omega arith) h).0;
      high = λ i h. (low.none both.0 i (omega arith) h).1;
      rest = λ i l h. high.none both.1 i l h;
    })))
    (λ some. ne_eqb (bit_or a b) 0 (λ e. omega arith) ∙ sym (refuted (well_formed s) (λ e. let w = formed-of s e in
    let none = zero_or a b (low.all (λ j l h. (w.low j h, w.high j h))) (high.all (λ j l h. w.rest j l h)) in
    omega arith)))
    (eq-zero-or-pos (bit_or a b))

pub returns-then-from-ge-PLANS : goal.returns-then-from-ge-PLANS
returns-then-from-ge-PLANS c =
    let a = c.args in
    elim c.then-from-ge-PLANS.branch [
      | then-from-ge-PLANS-via-then-from-ge-PLANS w ↦ sym (large_plan (sketch_from a.plan a.size a.values.now) (omega arith))
      | then-from-ge-PLANS-via-else-from-ge-PLANS+then-size-gt-LIST_LIMIT w ↦ sym (large_size (sketch_from a.plan a.size a.values.now) (omega arith) (omega arith))
    ]

most : (c : After-samples-m) → c.samples-m.result ≤ most_samples
most c = rw c.samples-m.ensures (samples_most c.args.plan)

pub bad_values-requires : goal.bad_values-requires
bad_values-requires c = most c

pub bad_rests-requires : goal.bad_rests-requires
bad_rests-requires c = let h = most (goal.at.bad_rests-requires c).After-samples-m in omega arith

pub returns : goal.returns
returns c =
    let start = c.before.before.before.before.before in
    let a = start.args in
    let s = c.samples-m.ensures in
    decides (sketch_from a.plan a.size a.values.now) _ _ (omega arith) (omega arith) start.requires
    (subst (λ (m : ℕ). Faults Value 0 m a.values.now c.bad_values.result) s c.bad_values.ensures)
    (subst (λ (m : ℕ). Faults Unused m most_samples a.values.now c.bad_rests.result) s c.bad_rests.ensures)
