-- `bench_update::change_all` meets its contract. The loop's invariant: the keys before i are done. Assumes nothing.
use mathlib.Core.Path.{sym, ap, ◌∙◌}
use Prim.Native.Nat.{◌/◌, ◌<◌}
use native.Mathlib.Omega.{arith}
use lib.ListN.{length}
use Rattle.rules.specs.Refusals.{number_of}
use Rattle.rules.specs.Entries.{keys_of}
use Rattle.rules.specs.Packed.{keys_length, keys_at}
use Rattle.bench_update.specs.Folds.{number_and, going_none, going_more, going_all}
use Rattle.bench_update.proofs.change_all.Goals as goal

pub loop-i-init : goal.loop-i-init
loop-i-init c = going_none _ _ _

pub loop-i-preserved : goal.loop-i-preserved
loop-i-preserved c =
    let l = c.loop-i in
    let list = c.args.list.now in
    let u = c.change_in_place.ensures in
    let inside : l.i < length list / 4 = omega arith in
    let there : l.i < length (keys_of list) = omega (arith, keys_length list) in
    going_more (keys_of list) there (c.key_at.ensures ∙ sym (keys_at list l.i inside)) (ap number_of u.0) u.1 (ap number_of c.and-told.ensures ∙ number_and _ _) l.invariant

pub returns : goal.returns
returns c = going_all (omega (arith, keys_length c.args.list.now)) c.loop-i.invariant
