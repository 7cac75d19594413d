-- `vlomdar::lists_by` meets its contract: what reconcile says of the keys that were taken and of arrays of this call (`facts`) is the outcome over the caller's buffers (`entered`).
-- Assumes nothing.
use mathlib.Core.Path.{refl, sym}
use mathlib.Core.List.{List, ◌++◌}
use Prim.Native.Nat.{ℕ, ◌*◌, ◌≤◌}
use native.Mathlib.Omega.{arith}
use borrow.Author.Rules.{rules}
use lib.ListN.{length, take, drop, replicate}
use lib.Seq.{length-take-le}
use Rattle.rules.specs.Numbers.{most_samples}
use Rattle.rules.specs.Reconciling.{Left}
use Rattle.vlomdar.proofs.Found.{Found, found_of, stands, front_room, entered}
use Rattle.vlomdar.proofs.lists_by.Goals.{After-reconcile_told-found}
use Rattle.vlomdar.proofs.lists_by.Goals as goal

-- what the call left, and what that says
abbrev left : After-reconcile_told-found → Left
left c = record {
  answer = c.reconcile_told-found.result.answer;
  theirs_count = c.reconcile_told-found.result.theirs;
  ours_count = c.reconcile_told-found.result.ours;
  theirs = c.reconcile_told-found.new.theirs;
  ours = c.reconcile_told-found.new.ours;
}

facts : (c : After-reconcile_told-found) → let a = c.args in Found a.s a.home.now a.theirs.now a.ours.now (left c)
facts c =
    let a = c.args in
    found_of a.s a.home.now a.theirs.now a.ours.now _ _ _ _ _ _ _ _ (left c) c.requires.1 c.keys_in-taken.ensures refl refl c.min-theirs_room.ensures c.min-ours_room.ensures c.reconcile_told-found.ensures

-- the two arrays behind the parts that were lent
abbrev theirs-rest : After-reconcile_told-found → List ℕ
theirs-rest c = drop c.min-theirs_room.result (replicate most_samples 0)

abbrev ours-rest : After-reconcile_told-found → List ℕ
ours-rest c = drop c.min-ours_room.result (replicate most_samples 0)

theirs_stand : (c : After-reconcile_told-found) → (left c).theirs_count ≤ length ((left c).theirs ++ theirs-rest c)
theirs_stand c = stands (left c).theirs_count (left c).theirs (theirs-rest c) (facts c).theirs_stand

ours_stand : (c : After-reconcile_told-found) → (left c).ours_count ≤ length ((left c).ours ++ ours-rest c)
ours_stand c = stands (left c).ours_count (left c).ours (ours-rest c) (facts c).ours_stand

theirs_room : (c : After-reconcile_told-found) → 4 * length (take (left c).theirs_count ((left c).theirs ++ theirs-rest c)) ≤ length c.args.theirs.now
theirs_room c = front_room (left c).theirs_count (left c).theirs (theirs-rest c) c.args.theirs.now (facts c).theirs_stand (facts c).theirs_room

ours_room : (c : After-reconcile_told-found) → 4 * length (take (left c).ours_count ((left c).ours ++ ours-rest c)) ≤ length c.args.ours.now
ours_room c = front_room (left c).ours_count (left c).ours (ours-rest c) c.args.ours.now (facts c).ours_stand (facts c).ours_room

pub slice_bounds-answer_told-end-2 : goal.slice_bounds-answer_told-end-2
slice_bounds-answer_told-end-2 c = sym (length-take-le _ _ (search rules))

pub answer_told-list-requires : goal.answer_told-list-requires
answer_told-list-requires c = c.keys_in-taken.ensures.told

pub slice_bounds-reconcile_told-end-2 : goal.slice_bounds-reconcile_told-end-2
slice_bounds-reconcile_told-end-2 c = sym (length-take-le _ _ (search rules))

pub slice_bounds-reconcile_told-end-3 : goal.slice_bounds-reconcile_told-end-3
slice_bounds-reconcile_told-end-3 c = sym (length-take-le _ _ (search rules))

pub slice_bounds-reconcile_told-end-4 : goal.slice_bounds-reconcile_told-end-4
slice_bounds-reconcile_told-end-4 c = sym (length-take-le _ _ (search rules))

pub reconcile_told-found-requires : goal.reconcile_told-found-requires
reconcile_told-found-requires c = (sym c.requires.0, c.answer_told-list.ensures)

pub slice_bounds-new-end-2 : goal.slice_bounds-new-end-2
slice_bounds-new-end-2 c = theirs_stand (goal.at.slice_bounds-new-end-2 c).After-reconcile_told-found

pub slice_bounds-put_keys-end : goal.slice_bounds-put_keys-end
slice_bounds-put_keys-end c = sym (length-take-le _ _ (theirs_stand (goal.at.slice_bounds-put_keys-end c).After-reconcile_told-found))

pub put_keys-requires : goal.put_keys-requires
put_keys-requires c = theirs_room (goal.at.put_keys-requires c).After-reconcile_told-found

pub slice_bounds-held-end-2 : goal.slice_bounds-held-end-2
slice_bounds-held-end-2 c = ours_stand (goal.at.slice_bounds-held-end-2 c).After-reconcile_told-found

pub slice_bounds-put_keys-end-2 : goal.slice_bounds-put_keys-end-2
slice_bounds-put_keys-end-2 c = sym (length-take-le _ _ (ours_stand (goal.at.slice_bounds-put_keys-end-2 c).After-reconcile_told-found))

pub put_keys-requires-2 : goal.put_keys-requires-2
put_keys-requires-2 c = ours_room (goal.at.put_keys-requires-2 c).After-reconcile_told-found

pub pack-requires : goal.pack-requires
pack-requires c = let f = facts (goal.at.pack-requires c).After-reconcile_told-found in (f.small, omega arith, omega arith)

pub returns : goal.returns
returns c = entered _ _ _ _ _ _ _ _ _ (left (goal.at.returns c).After-reconcile_told-found) (facts (goal.at.returns c).After-reconcile_told-found) c.pack.ensures c.put_keys.ensures c.put_keys-2.ensures
