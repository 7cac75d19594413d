-- `encoding::keys_in` meets its contract. The loop's invariant: the first i keys of the buffer are passed, which the
-- count of falls is below. Assumes nothing.
use mathlib.Core.Path.{◌≡◌, subst}
use Prim.Native.Nat.{ℕ}
use native.Mathlib.Omega.{arith}
use borrow.Author.Rules.{rules}
use lib.ListN.{set, length-set}
use Rattle.encoding.proofs.Keys.{Passed, passed_first, passed_next, passed_none, passed_all}
use Rattle.encoding.proofs.keys_in.Goals as goal

pub returns-then-count-eq0 : goal.returns-then-count-eq0
returns-then-count-eq0 c = passed_none _ _ c.min-count.ensures (search rules)

pub loop-i-init : goal.loop-i-init
loop-i-init c =
    let a = c.args in
    (search rules, passed_first a.bytes.now a.keys.now (search rules) (search rules) c.key_at.ensures)

pub loop-i-preserved : goal.loop-i-preserved
loop-i-preserved c =
    let l = c.loop-i in
    let long = length-set c.args.keys.now 0 c.key_at.result in
    (search rules, passed_next _ (omega arith) (omega arith) (search rules) c.key_at-in-loop-i.ensures c.key_at-key.ensures c.fall-falls.ensures.0 l.invariant.1)

pub returns : goal.returns
returns c =
    let l = c.loop-i in
    let a = c.args in
    let least = c.min-count in
    let all : l.i ≡ least.result = omega arith in
    passed_all _ _ least.ensures c.key_at.result (omega arith) (subst (λ (n : ℕ). Passed a.bytes.now (set a.keys.now 0 c.key_at.result) n l.keys l.falls) all l.invariant.1)
