-- The order of reconcile's tests, way by way: what is answered where the tests so far pass and the next one does not.
--
--   malformed, bad_list, short_theirs, short_ours, large_gap     each refusal in its place
--   passed         no refusal
--
-- Assumes nothing.
use mathlib.Core.Path.{◌≡◌}
use mathlib.Core.Bool.{true, false}
use mathlib.Core.List.{List}
use Prim.Native.Nat.{ℕ}
use lib.Dec.{ltb}
use Rattle.rules.specs.Numbers.{samples}
use Rattle.rules.specs.Sketches.{well_formed}
use Rattle.rules.specs.Differences.{gap_of, outside}
use Rattle.rules.specs.Calls.{list_answer, reconcile_tests}
use Rattle.rules.specs.declared.Sketch.{Sketch}
use Rattle.rules.specs.declared.Refusal.{Refusal}
use Rattle.rules.specs.declared.Refusal.TheVariants.{MalformedSketch, ShortBuffer, LargeGap}
use Rattle.std.specs.Prelude.{Ok, Err}

module _ (s : Sketch) (home : List ℕ) (theirs ours : ℕ) where
  pub malformed : well_formed s ≡ false → Err MalformedSketch ≡ reconcile_tests s home theirs ours
  unfolding reconcile_tests
  malformed w = rw w

  module _ (w : well_formed s ≡ true) where
    pub bad_list : (r : Refusal) → list_answer home ≡ Err r → Err r ≡ reconcile_tests s home theirs ours
    unfolding reconcile_tests
    bad_list r l = rw (w, l)

    module _ (l : list_answer home ≡ Ok tt) where
      pub short_theirs : ltb theirs (samples s.plan) ≡ true → Err (ShortBuffer 0) ≡ reconcile_tests s home theirs ours
      unfolding reconcile_tests
      short_theirs t = rw (w, l, t)

      module _ (t : ltb theirs (samples s.plan) ≡ false) where
        pub short_ours : ltb ours (samples s.plan) ≡ true → Err (ShortBuffer 1) ≡ reconcile_tests s home theirs ours
        unfolding reconcile_tests
        short_ours o = rw (w, l, t, o)

        module _ (o : ltb ours (samples s.plan) ≡ false) where
          pub large_gap : (outside (samples s.plan) (gap_of s.size home)) ≡ true → Err LargeGap ≡ reconcile_tests s home theirs ours
          unfolding reconcile_tests
          large_gap g = rw (w, l, t, o, g)

          pub passed : (outside (samples s.plan) (gap_of s.size home)) ≡ false → (Ok tt) ≡ reconcile_tests s home theirs ours
          unfolding reconcile_tests
          passed g = rw (w, l, t, o, g)
