-- What reconcile leaves, as far as the report's lines need it, and what follows line 2.
--
--   few_found              the keys of a difference are at most as many as the largest plan has samples
--   nothing_behind, something_behind       where nothing follows line 2 the input is whole, and else it is bad at line 3
--
-- Assumes nothing.
use mathlib.Core.Path.{◌≡◌, sym, ap, ◌∙◌}
use mathlib.Core.Logic.{inl, inr}
use mathlib.Core.List.{List}
use Prim.Native.Nat.{ℕ, ◌+◌, ◌≤◌, ◌<◌}
use native.Mathlib.Omega.{arith}
use lib.ListN.{length, drop, drop_of_length-le}
use lib.Seq.{drop-cons}
use Rattle.rules.specs.Numbers.{most_samples}
use Rattle.rules.specs.Plans.{samples_most}
use Rattle.rules.specs.Tests.{refused_not_done}
use Rattle.rules.specs.Calls.{reconcile_tests}
use Rattle.rules.specs.Reconciling.{Left, After, Reconciles}
use Rattle.rules.specs.Report.{bad_line, whole, ended}
use Rattle.rules.specs.declared.Sketch.{Sketch}
use Rattle.rules.specs.Refusals.{Answer}
use Rattle.std.specs.Prelude.{Ok, Err}

pub few_found : (s : Sketch) (home theirs ours : List ℕ) (left : Left) → Reconciles s home theirs ours left → left.answer ≡ Ok tt → left.theirs_count + left.ours_count ≤ most_samples
unfolding Reconciles
few_found s home theirs ours left = go (reconcile_tests s home (length theirs) (length ours))
  where
    go : (t : Answer) → After t s home theirs ours left → left.answer ≡ Ok tt → left.theirs_count + left.ours_count ≤ most_samples
    go (Err r) x e = absurd (refused_not_done r (sym x.answer ∙ e))
    go (Ok _) (inl x) e = let m = samples_most s.plan in omega (arith, x.difference.bound, x.theirs_count, x.ours_count)
    go (Ok _) (inr x) e = absurd (refused_not_done _ (sym x.1.answer ∙ e))

pub nothing_behind : (keys message rest : List ℕ) (n : ℕ) → length rest ≤ n → ended keys message (drop n rest) ≡ whole keys message
nothing_behind keys message rest n h = ap (ended keys message) (drop_of_length-le rest h)

pub something_behind : (keys message rest : List ℕ) (n : ℕ) → n < length rest → ended keys message (drop n rest) ≡ bad_line 3
something_behind keys message rest n h = ap (ended keys message) (drop-cons rest n 0 h)
