-- `vlomdar::to_message` meets its contract: each way out is a law of Composed. Where the answer is success the list is legal, the plan known and
-- the sketch well-formed (`asked`, `taken_formed`). Assumes nothing.
use mathlib.Core.Path.{◌≡◌, sym, ap, subst, ◌∙◌}
use Prim.Native.Nat.{ℕ, ◌<◌, ◌^◌}
use native.Mathlib.Omega.{arith}
use lib.Dec.{lit<}
use lib.ListN.{length}
use Rattle.rules.specs.Numbers.{plan_of}
use Rattle.rules.specs.Plans.{samples_most}
use Rattle.rules.specs.Sketches.{sketch_of, well_formed}
use Rattle.rules.specs.Filled.{sketch_from}
use Rattle.rules.specs.Packed.{SmallPlace, small_sketch, small_write}
use Rattle.rules.specs.Calls.{sketch_answer}
use Rattle.std.specs.Prelude.{Ok}
use Rattle.sketch.specs.Requested.{asked, taken_formed}
use Rattle.vlomdar.proofs.Composed.{unsketched, parts, written, length_small}
use Rattle.vlomdar.proofs.to_message.Goals.{After-values-values, In-Ok}
use Rattle.vlomdar.proofs.to_message.Goals as goal

-- the list has a sketch, and the values that were made are its
granted : (c : In-Ok) → let a = c.args in sketch_answer a.plan a.keys.now ≡ Ok tt
granted c = sym c.answer_told-answer.ensures ∙ c.in-Ok.is

made : (c : After-values-values) → let a = c.args in sketch_from c.code_of-code.result (length a.keys.now) c.values-values.result ≡ sketch_of (plan_of a.plan) a.keys.now
made c =
    let a = c.args in
    parts a.plan a.keys.now a.message.now _ _ _ c.code_of-code.ensures c.samples.ensures c.values-values.ensures

pub answer_told-list-requires : goal.answer_told-list-requires
answer_told-list-requires c = c.requires

pub answer_told-answer-requires : goal.answer_told-answer-requires
answer_told-answer-requires c = c.answer_told-list.ensures

pub pack-requires : goal.pack-requires
pack-requires c = let a = c.args in (subst SmallPlace (sym c.answer_told-answer.ensures) (small_sketch a.plan a.keys.now), lit< tt, lit< tt)

pub code_of-code-requires : goal.code_of-code-requires
code_of-code-requires c = let a = c.args in (asked a.plan a.keys.now (granted c)).0

pub values-values-requires : goal.values-values-requires
values-values-requires c =
    let a = c.args in
    (rw c.samples.ensures (samples_most c.code_of-code.result), (asked a.plan a.keys.now (granted (goal.at.values-values-requires c).In-Ok)).1)

pub overflow_cast-keys : goal.overflow_cast-keys
overflow_cast-keys c = let a = c.args in omega (arith, (asked a.plan a.keys.now (granted (goal.at.overflow_cast-keys c).In-Ok)).1.short)

pub write_formed-written-requires : goal.write_formed-written-requires
write_formed-written-requires c =
    let a = c.args in
    ap well_formed (made (goal.at.write_formed-written-requires c).After-values-values) ∙ taken_formed a.plan a.keys.now (granted (goal.at.write_formed-written-requires c).In-Ok)

pub pack-requires-in-Ok : goal.pack-requires-in-Ok
pack-requires-in-Ok c = let w = c.write_formed-written.ensures in (subst SmallPlace (sym w.0) (small_write _ _), subst (λ (n : ℕ). n < 2 ^ 16) (sym w.1) (length_small _ _), lit< tt)

pub returns-in-Err : goal.returns-in-Err
returns-in-Err c =
    let a = c.args in
    let g = unsketched a.plan a.keys.now a.message.now _ _ c.answer_told-answer.ensures c.in-Err.is in
    (c.pack.ensures ∙ g.0, g.1)

pub returns-in-Ok : goal.returns-in-Ok
returns-in-Ok c =
    let a = c.args in
    let g = written a.plan a.keys.now a.message.now _ _ _ _ _ c.answer_told-answer.ensures c.in-Ok.is (made (goal.at.returns-in-Ok c).After-values-values) c.write_formed-written.ensures in
    (c.pack-in-Ok.ensures ∙ g.0, g.1)
