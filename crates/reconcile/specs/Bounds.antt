-- What reconcile leaves is within bounds.
--
--   Bounds t o left, bounds    no more keys are counted than a plan can have samples, than there is room for in the buffers t and o, or than stand in
--                              them afterwards; and every place has 24 bits
--
-- Assumes nothing.
use Rattle.std.specs.Prelude.{◌≡◌, List, ℕ, ◌≤◌, length, drop, Ok, Err}
use Rattle.std.proofs.Math.Path.{refl}
use Rattle.std.proofs.Common.{sym, ap, subst, ◌∙◌, inl, inr, arith, lit<, length-append}
use Rattle.rules.specs.Numbers.{most_samples}
use Rattle.rules.specs.Plans.{samples_most}
use Rattle.rules.specs.Calls.{reconcile_tests}
use Rattle.rules.specs.Reconciling.{Left, Refuses, Finds, After, Reconciles}
use Rattle.rules.specs.Packed.{SmallPlace, small_reconcile}
use Rattle.rules.specs.declared.Sketch.{Sketch}
use Rattle.rules.specs.declared.Refusal.{Refusal}
use Rattle.rules.specs.declared.Refusal.TheVariants.{NoDifference}
use Rattle.rules.specs.Refusals.{Answer}
use Rattle.reconcile.specs.Passing.{Passing, passing}

pub record Bounds (t o : List ℕ) (left : Left) : Type 0 where
  pub theirs_few : left.theirs_count ≤ most_samples
  pub ours_few : left.ours_count ≤ most_samples
  pub theirs_fit : left.theirs_count ≤ length t
  pub ours_fit : left.ours_count ≤ length o
  pub theirs_stand : left.theirs_count ≤ length left.theirs
  pub ours_stand : left.ours_count ≤ length left.ours
  pub small : SmallPlace left.answer

module _ (s : Sketch) (h t o : List ℕ) where
  refused_bounds : (r : Refusal) (left : Left) → SmallPlace (Err r) → Refuses r t o left → Bounds t o left
  refused_bounds r left p x =
      let a = x.theirs_none in
      let b = x.ours_none in
      record { theirs_few = omega arith; ours_few = omega arith; theirs_fit = omega arith; ours_fit = omega arith; theirs_stand = omega arith; ours_stand = omega arith; small = subst SmallPlace (sym x.answer) p }

  found_bounds : (left : Left) → Passing s h (length t) (length o) → Finds s h t o left → Bounds t o left
  found_bounds left p x =
      let few = x.difference.bound in
      let most = samples_most s.plan in
      let new = ap length x.theirs_filled ∙ length-append x.new (drop (length x.new) t) in
      let held = ap length x.ours_filled ∙ length-append x.held (drop (length x.held) o) in
      let a = x.theirs_count in
      let b = x.ours_count in
      let tr = p.theirs_room in
      let or = p.ours_room in
      record { theirs_few = omega arith; ours_few = omega arith; theirs_fit = omega arith; ours_fit = omega arith; theirs_stand = omega arith; ours_stand = omega arith; small = subst SmallPlace (sym x.answer) (lit< tt) }

  pub bounds : (left : Left) → Reconciles s h t o left → Bounds t o left
  unfolding Reconciles
  bounds left = go (reconcile_tests s h (length t) (length o)) refl
    where
      go : (a : Answer) → reconcile_tests s h (length t) (length o) ≡ a → After a s h t o left → Bounds t o left
      go (Err r) e x = refused_bounds r left (subst SmallPlace e (small_reconcile s h (length t) (length o))) x
      go (Ok _) e (inl x) = found_bounds left (passing s h (length t) (length o) e) x
      go (Ok _) e (inr x) = refused_bounds NoDifference left (lit< tt) x.1
