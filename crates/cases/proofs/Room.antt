-- How long what the calls give is.
--
--   sketch_sized       a sketch that a list gave has its 64 values
--
-- Assumes nothing.
use mathlib.Core.Path.{◌≡◌, refl, ap, ◌∙◌}
use mathlib.Core.List.{List}
use Prim.Native.Nat.{ℕ, suc}
use lib.ListN.{length}
use Rattle.rules.specs.Numbers.{samples, point, plan_of, most_samples}
use Rattle.rules.specs.Sketches.{value, sketch_of, blank}
use Rattle.rules.specs.Formed.{slots_length}
use Rattle.rules.specs.Refusals.{given, Answer}
use Rattle.rules.specs.Calls.{sketch_answer, sketch_result}
use Rattle.rules.specs.declared.Sketch.{Sketch}
use Rattle.std.specs.Prelude.{Ok, Err}

-- a refusal gives the blank sketch, which has them too
given_sized : (a : Answer) (plan : ℕ) (keys : List ℕ) → length (given a (sketch_of plan keys) blank).values ≡ most_samples
given_sized (Ok _) plan keys = slots_length (samples plan) (λ i. value keys (point (suc i))) (λ _. 0)
given_sized (Err r) plan keys = refl

pub sketch_sized : (plan : ℕ) (keys : List ℕ) (s : Sketch) → s ≡ sketch_result plan keys → length s.values ≡ most_samples
sketch_sized plan keys s e = ap (λ (s : Sketch). length s.values) e ∙ given_sized (sketch_answer plan keys) (plan_of plan) keys
