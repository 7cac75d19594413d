-- `list::first_bad` meets its contract. The loop's invariant: what the test of all keys answers is what the test from key i on answers, where
-- the next key is to be at least `least`. Assumes nothing.
use mathlib.Core.Path.{◌≡◌}
use lib.ListN.{drop}
use Rattle.rules.specs.Calls.{keys_answer}
use Rattle.list.proofs.first_bad.Given as goal

abbrev pub invariant-loop-i : goal.invariant-loop-i
invariant-loop-i l = keys_answer 0 0 l.keys ≡ keys_answer l.i l.least (drop l.i l.keys)
