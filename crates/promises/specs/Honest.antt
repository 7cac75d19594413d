-- Demand 2: what reconcile tells is a difference, and it refuses for want of one exactly when there is none. Document 01 gives this two numbers, 12 and 13.
--
--   gap_within         the gap of a difference lies in −m to m, so that 12, too, means that there is none
--   done_finds         on success a difference is told
--   refused_none       a refusal of a well-formed sketch and a legal list, with room for both answers, means that there is none
--
-- Assumes nothing.
use Rattle.std.specs.Prelude.{◌≡◌, List, ℕ, ◌+◌, ◌≤◌, length, Ok, Err}
use Rattle.std.proofs.Common.{sym, subst, ◌∙◌, inl, inr, arith}
use Rattle.rules.specs.Numbers.{samples, LegalList}
use Rattle.rules.specs.Sketches.{WellFormed}
use Rattle.rules.specs.Differences.{Difference}
use Rattle.rules.specs.Calls.{reconcile_tests}
use Rattle.rules.specs.Tests.{refused_not_done}
use Rattle.rules.specs.Reconciling.{None, Left, Finds, After, Reconciles}
use Rattle.rules.specs.declared.Sketch.{Sketch}
use Rattle.rules.specs.declared.Refusal.TheVariants.{NoDifference}
use Rattle.rules.specs.Refusals.{Answer}
use Rattle.gap.specs.Gap.{gap_eq}
use Rattle.reconcile.specs.Passing.{passes_tests}

pub gap_within : (m n : ℕ) (v home theirs ours : List ℕ) → Difference m n v home theirs ours → (length home ≤ n + m) × (n ≤ length home + m)
gap_within m n v home theirs ours d = let e = gap_eq (length theirs) (length ours) n (length home) d.gap in (omega (arith, d.bound), omega (arith, d.bound))

pub done_finds : (s : Sketch) (home theirs ours : List ℕ) (left : Left) → Reconciles s home theirs ours left → left.answer ≡ Ok tt → Finds s home theirs ours left
unfolding Reconciles
done_finds s home theirs ours left x e = go (reconcile_tests s home (length theirs) (length ours)) x
  where
    go : (t : Answer) → After t s home theirs ours left → Finds s home theirs ours left
    go (Err r) f = absurd (refused_not_done r (sym f.answer ∙ e))
    go (Ok _) (inl f) = f
    go (Ok _) (inr f) = absurd (refused_not_done NoDifference (sym f.1.answer ∙ e))

pub refused_none : (s : Sketch) (home theirs ours : List ℕ) (left : Left) → WellFormed s → LegalList home → samples s.plan ≤ length theirs → samples s.plan ≤ length ours
    → Reconciles s home theirs ours left → ¬ (left.answer ≡ Ok tt) → None s home
unfolding Reconciles
refused_none s home theirs ours left w l rt ro x n new held d = go (subst (λ (t : Answer). After t s home theirs ours left) (passes_tests s home (length theirs) (length ours) (record { whole = w; listed = l; theirs_room = rt; ours_room = ro; low = within.0; high = within.1 })) x)
  where
    within : (length home ≤ s.size + samples s.plan) × (s.size ≤ length home + samples s.plan)
    within = gap_within (samples s.plan) s.size s.values home new held d

    go : After (Ok tt) s home theirs ours left → ⊥
    go (inl f) = n f.answer
    go (inr f) = f.0 new held d
