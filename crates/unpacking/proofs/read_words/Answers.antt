-- `unpacking::read_words` meets its contract. The loop's invariant: the slots of the first i words hold the values. Assumes nothing.
use mathlib.Core.Path.{◌≡◌, sym, ap, ◌∙◌}
use Prim.Native.Nat.{ℕ, ◌+◌, ◌*◌, ◌-◌, ◌/◌, ◌%◌}
use native.Mathlib.Omega.{arith}
use Rattle.rules.specs.Calls.{message_value}
use Rattle.rules.specs.Filled.{slots_zero}
use Rattle.unpacking.specs.Parts.{values_in}
use Rattle.unpacking.proofs.Fields.{value_part}
use Rattle.unpacking.proofs.Values.{three_more}
use Rattle.unpacking.proofs.read_words.Goals as goal

pub loop-i-init : goal.loop-i-init
loop-i-init c = c.requires.3 ∙ sym (slots_zero (message_value c.args.message.now))

pub loop-i-preserved : goal.loop-i-preserved
loop-i-preserved c =
    let l = c.loop-i in
    let b = c.args.message.now in
    let from : ℕ = c.args.at + 51 * l.i in
    let start = c.requires.0 in
    let word = c.eight_bytes-word in
    let next : 3 * l.i + 3 ≡ 3 * (l.i + 1) = omega arith in
    three_more b (3 * l.i) c.value_in.result c.value_in-in-loop-i.result c.value_in-in-loop-i-2.result l.values (omega arith) l.invariant
    (value_part b (3 * l.i) (from / 8) (from % 8) (47 - from % 8) word.result _ (omega arith) (omega arith) word.ensures c.value_in.ensures)
    (value_part b (3 * l.i + 1) (from / 8) (from % 8 + 17) (47 - from % 8 - 17) word.result _ (omega arith) (omega arith) word.ensures c.value_in-in-loop-i.ensures)
    (value_part b (3 * l.i + 2) (from / 8) (from % 8 + 34) (47 - from % 8 - 34) word.result _ (omega arith) (omega arith) word.ensures c.value_in-in-loop-i-2.ensures)
    ∙ ap (values_in b) next

pub returns : goal.returns
returns c =
    let l = c.loop-i in
    let words : ℕ = c.saturating_sub-words.result / 3 in
    let all : 3 * l.i ≡ 3 * words = omega arith in
    (omega arith, l.invariant ∙ ap (values_in c.args.message.now) all)
