-- `list::first_bad` meets its contract. The loop's invariant: what the test of all keys answers is what the test from key i on answers, where
-- the next key is to be at least `least`. Assumes nothing.
use native.Mathlib.Omega.{arith}
use mathlib.Core.Path.{◌≡◌, refl, sym, ap, ◌∙◌}
use mathlib.Core.List.{List}
use Prim.Native.Nat.{ℕ, suc, ◌+◌, ◌≤◌, ◌<◌}
use native.Mathlib.Numerals.{add-one}
use borrow.Author.Tests.{lt-ltb, le-ltb}
use lib.Dec.{ltb}
use lib.ListN.{length, get_or, drop, drop_of_length-le}
use lib.Seq.{drop-cons}
use Rattle.rules.specs.Numbers.{key_limit}
use Rattle.rules.specs.Refusals.{when, ◌then◌}
use Rattle.rules.specs.Calls.{keys_answer}
use Rattle.rules.specs.declared.Refusal.TheVariants.{LargeKey, UnorderedKey}
use Rattle.std.specs.Prelude.{Err}
use Rattle.list.proofs.first_bad.Goals as goal

-- the test from key i on looks at key i first
next : (keys : List ℕ) (i least : ℕ) → i < length keys
    → keys_answer i least (drop i keys) ≡ (when (ltb key_limit (get_or keys i 0)) (LargeKey i) then when (ltb (get_or keys i 0) least) (UnorderedKey i) then keys_answer (suc i) (suc (get_or keys i 0)) (drop (suc i) keys))
next keys i least h = ap (keys_answer i least) (drop-cons keys i 0 h)

large : (keys : List ℕ) (i least : ℕ) → i < length keys → key_limit < get_or keys i 0 → keys_answer i least (drop i keys) ≡ Err (LargeKey i)
large keys i least h l = next keys i least h ∙ rw (lt-ltb key_limit (get_or keys i 0) l)

unordered : (keys : List ℕ) (i least : ℕ) → i < length keys → get_or keys i 0 ≤ key_limit → get_or keys i 0 < least → keys_answer i least (drop i keys) ≡ Err (UnorderedKey i)
unordered keys i least h s l = next keys i least h ∙ rw (le-ltb key_limit (get_or keys i 0) s, lt-ltb (get_or keys i 0) least l)

passed : (keys : List ℕ) (i least : ℕ) → i < length keys → get_or keys i 0 ≤ key_limit → least ≤ get_or keys i 0 → keys_answer i least (drop i keys) ≡ keys_answer (i + 1) (get_or keys i 0 + 1) (drop (i + 1) keys)
passed keys i least h s l = next keys i least h ∙ rw (le-ltb key_limit (get_or keys i 0) s, le-ltb (get_or keys i 0) least l, add-one i, add-one (get_or keys i 0))

pub loop-i-init : goal.loop-i-init
loop-i-init c = refl

pub returns-then-key-gt-KEY_LIMIT : goal.returns-then-key-gt-KEY_LIMIT
returns-then-key-gt-KEY_LIMIT c = sym (c.loop-i.invariant ∙ large _ _ _ c.loop-i-test.true c.if-key-gt-KEY_LIMIT.true)

pub returns-then-key-least : goal.returns-then-key-least
returns-then-key-least c = sym (c.loop-i.invariant ∙ unordered _ _ _ c.loop-i-test.true (omega arith) c.if-key-least.true)

pub loop-i-preserved : goal.loop-i-preserved
loop-i-preserved c = c.loop-i.invariant ∙ passed _ _ _ c.loop-i-test.true c.if-key-gt-KEY_LIMIT.false c.if-key-least.false

pub returns : goal.returns
returns c =
    let v = c.loop-i.invariant in
    sym (v ∙ ap (keys_answer c.loop-i.i c.loop-i.least) (drop_of_length-le _ c.loop-i-test.false))
