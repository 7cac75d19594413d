-- `reconcile::tests` meets its contract: each way out answers what the tests on it say. Assumes nothing.
use mathlib.Core.Path.{◌≡◌, sym, ap, ◌∙◌}
use mathlib.Core.Bool.{Bool, true, false}
use Prim.Native.Nat.{ℕ}
use borrow.Author.Tests.{lt-ltb, le-ltb}
use lib.Dec.{ltb}
use Rattle.std.specs.Prelude.{Ok}
use Rattle.std.proofs.lemmas.Result.{err_from_is_err_and}
use Rattle.rules.specs.Numbers.{samples}
use Rattle.rules.specs.Sketches.{well_formed}
use Rattle.rules.specs.Differences.{gap_of, outside}
use Rattle.rules.specs.Calls.{list_answer}
use Rattle.rules.specs.Formed.{formed}
use Rattle.rules.specs.Legal.{legal}
use Rattle.reconcile.proofs.Order.{malformed, bad_list, short_theirs, short_ours, large_gap, passed}
use Rattle.reconcile.proofs.tests.Goals.{After-samples-m, After-too_large}
use Rattle.reconcile.proofs.tests.Goals as goal

pub returns-then-not-formed : goal.returns-then-not-formed
returns-then-not-formed c = let a = c.args in malformed a.s a.home.now a.theirs a.ours (sym c.requires.0 ∙ c.if-not-formed.true)

pub returns-in_err-list : goal.returns-in_err-list
returns-in_err-list c =
    let a = c.args in
    let p = err_from_is_err_and c.from_residual.result c.from_residual.ensures.1 in
    rw (p.1, p.2) (bad_list a.s a.home.now a.theirs a.ours (sym c.requires.0 ∙ c.if-not-formed.false) _ (sym c.requires.1 ∙ c.in_err-list.was))

-- what is known once the sketch and the list have passed
whole : (c : After-samples-m) → well_formed c.args.s ≡ true
whole c = sym c.requires.0 ∙ c.if-not-formed.false

listed : (c : After-samples-m) → list_answer c.args.home.now ≡ Ok tt
listed c = sym c.requires.1 ∙ c.in_ok-list.was

-- a test against m is one against the plan's samples
against : (c : After-samples-m) (n : ℕ) (b : Bool) → ltb n c.samples-m.result ≡ b → ltb n (samples c.args.s.plan) ≡ b
against c n b e = ap (ltb n) (sym c.samples-m.ensures) ∙ e

pub returns-then-theirs-m : goal.returns-then-theirs-m
returns-then-theirs-m c =
    let a = c.args in
    let m = (goal.at.returns-then-theirs-m c).After-samples-m in
    short_theirs a.s a.home.now a.theirs a.ours (whole m) (listed m) (against m a.theirs true (lt-ltb _ _ c.if-theirs-m.true))

pub returns-then-ours-m : goal.returns-then-ours-m
returns-then-ours-m c =
    let a = c.args in
    let m = (goal.at.returns-then-ours-m c).After-samples-m in
    short_ours a.s a.home.now a.theirs a.ours (whole m) (listed m) (against m a.theirs false (le-ltb _ _ c.if-theirs-m.false)) (against m a.ours true (lt-ltb _ _ c.if-ours-m.true))

pub invariant_of-sizes : goal.invariant_of-sizes
invariant_of-sizes c =
    let a = c.args in
    let m = (goal.at.invariant_of-sizes c).After-samples-m in
    record { sketch_short = (formed a.s (whole m)).size; home_short = (legal a.home.now (listed m)).short }

-- what the test of the gap says, of the plan's samples
gap_test : (c : After-too_large) → c.too_large.result ≡ outside (samples c.args.s.plan) (gap_of c.args.s.size c.args.home.now)
gap_test c = c.too_large.ensures ∙ ap (λ (m : ℕ). outside m (gap_of c.args.s.size c.args.home.now)) c.samples-m.ensures

pub returns-then-too_large : goal.returns-then-too_large
returns-then-too_large c =
    let a = c.args in
    let m = (goal.at.returns-then-too_large c).After-samples-m in
    large_gap a.s a.home.now a.theirs a.ours (whole m) (listed m) (against m a.theirs false (le-ltb _ _ c.if-theirs-m.false)) (against m a.ours false (le-ltb _ _ c.if-ours-m.false))
    (sym (gap_test (goal.at.returns-then-too_large c).After-too_large) ∙ c.if-too_large.true)

pub returns : goal.returns
returns c =
    let a = c.args in
    let m = (goal.at.returns c).After-samples-m in
    passed a.s a.home.now a.theirs a.ours (whole m) (listed m) (against m a.theirs false (le-ltb _ _ c.if-theirs-m.false)) (against m a.ours false (le-ltb _ _ c.if-ours-m.false))
    (sym (gap_test (goal.at.returns c).After-too_large) ∙ c.if-too_large.false)
