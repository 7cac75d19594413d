-- `reconcile::reconcile_told` meets its contract: a refusal of the tests, no difference, or one that is copied to the fronts of the buffers. Assumes nothing.
use mathlib.Core.Path.{◌≡◌, refl, sym, ap₂, ◌∙◌}
use mathlib.Core.List.{List, ◌++◌}
use Prim.Native.Nat.{ℕ, ◌≤◌}
use native.Mathlib.Omega.{arith}
use lib.ListN.{length, drop, length-take}
use lib.Seq.{length-take-le}
use Rattle.rules.specs.Calls.{reconcile_tests}
use Rattle.std.specs.Prelude.{Ok}
use Rattle.reconcile.specs.Passing.{Passing, passing}
use Rattle.reconcile.proofs.Outcomes.{search_ready, refused, nothing, something, something_rooms}
use Rattle.reconcile.proofs.reconcile_told.Goals.{After-samples-m, In-Some}
use Rattle.reconcile.proofs.reconcile_told.Goals as goal

pub returns-in-Err : goal.returns-in-Err
returns-in-Err c =
    let a = c.args in
    rw c.refused.ensures (refused a.s a.home.now a.theirs.now a.ours.now c.in-Err.why (sym c.in-Err.is ∙ c.tests.ensures))

-- that the tests have passed, and what they say
passed : (c : After-samples-m) → (Ok tt) ≡ reconcile_tests c.args.s c.args.home.now (length c.args.theirs.now) (length c.args.ours.now)
passed c = sym c.in_default.is ∙ c.tests.ensures

room : (c : After-samples-m) → Passing c.args.s c.args.home.now (length c.args.theirs.now) (length c.args.ours.now)
room c = let a = c.args in passing a.s a.home.now (length a.theirs.now) (length a.ours.now) (sym (passed c))

pub search-requires : goal.search-requires
search-requires c =
    let a = c.args in
    let r = search_ready a.s a.home.now a.theirs.now a.ours.now c.samples-m.result c.samples-m.ensures (room (goal.at.search-requires c).After-samples-m) in
    (r.few, r.size, r.long, r.good, r.listed, r.low, r.high, refl, refl)

pub returns-in_default-search : goal.returns-in_default-search
returns-in_default-search c =
    let a = c.args in
    let p = passed (goal.at.returns-in_default-search c).After-samples-m in
    rw c.refused-in_default-search.ensures (nothing a.s a.home.now a.theirs.now a.ours.now p c.samples-m.result c.samples-m.ensures c.search.new.theirs c.search.new.ours c.in_default-search.ensures)

-- the counts of what was found are within the buffers and within the lists that were found
counts : (c : In-Some) → let n = c.in-Some.counts in (n.theirs ≤ length c.args.theirs.now) × (n.theirs ≤ length c.search.new.theirs) × (n.ours ≤ length c.args.ours.now) × (n.ours ≤ length c.search.new.ours)
counts c =
    let a = c.args in
    let n = c.in-Some.counts in
    let f = something_rooms a.s a.home.now a.theirs.now a.ours.now (sym c.in_default.is ∙ c.tests.ensures) c.samples-m.result c.samples-m.ensures _ _ n.theirs n.ours c.in-Some.ensures in
    let r = passing a.s a.home.now (length a.theirs.now) (length a.ours.now) (sym (sym c.in_default.is ∙ c.tests.ensures)) in
    (omega (arith, f.2, r.theirs_room), f.0, omega (arith, f.2, r.ours_room), f.1)

pub slice_bounds-copy_from_slice-end : goal.slice_bounds-copy_from_slice-end
slice_bounds-copy_from_slice-end c = let n = counts c in omega arith

pub slice_bounds-copy_from_slice-end-2 : goal.slice_bounds-copy_from_slice-end-2
slice_bounds-copy_from_slice-end-2 c = let n = counts (goal.at.slice_bounds-copy_from_slice-end-2 c).In-Some in grind (arith, length-take, n.0)

pub copy_from_slice-requires : goal.copy_from_slice-requires
copy_from_slice-requires c = let n = counts (goal.at.copy_from_slice-requires c).In-Some in grind (arith, length-take, n.0, n.1)

pub slice_bounds-copy_from_slice-end-4 : goal.slice_bounds-copy_from_slice-end-4
slice_bounds-copy_from_slice-end-4 c = let n = counts (goal.at.slice_bounds-copy_from_slice-end-4 c).In-Some in omega arith

pub slice_bounds-copy_from_slice-end-5 : goal.slice_bounds-copy_from_slice-end-5
slice_bounds-copy_from_slice-end-5 c = let n = counts (goal.at.slice_bounds-copy_from_slice-end-5 c).In-Some in grind (arith, length-take, n.2)

pub copy_from_slice-requires-2 : goal.copy_from_slice-requires-2
copy_from_slice-requires-2 c = let n = counts (goal.at.copy_from_slice-requires-2 c).In-Some in grind (arith, length-take, n.2, n.3)

pub returns : goal.returns
returns c =
    let a = c.args in
    let n = counts (goal.at.returns c).In-Some in
    something a.s a.home.now a.theirs.now a.ours.now (passed (goal.at.returns c).After-samples-m) c.samples-m.result c.samples-m.ensures _ _ c.in-Some.counts.theirs c.in-Some.counts.ours c.in-Some.ensures _ _
    (ap₂ (λ (x : List ℕ) (k : ℕ). x ++ drop k a.theirs.now) c.copy_from_slice.ensures.after (sym (length-take-le _ _ n.1)))
    (ap₂ (λ (x : List ℕ) (k : ℕ). x ++ drop k a.ours.now) c.copy_from_slice-2.ensures.after (sym (length-take-le _ _ n.3)))
