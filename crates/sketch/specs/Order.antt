-- The order of a list's keys does not matter to its sketch.
--
--   sketch_perm            lists of the same keys in another order have one sketch
--
-- Assumes nothing.
use Rattle.std.specs.Prelude.{◌≡◌, refl, ℕ, suc}
use Rattle.std.proofs.Common.{ap₂}
use mathlib.Core.List.{List, Permᴰ}
use Rattle.algebra.specs.Arithmetic.{product_of_perm}
use Rattle.algebra.specs.Sets.{length_perm}
use Rattle.rules.specs.Numbers.{modulus, point, samples}
use Rattle.rules.specs.Sketches.{value, sketch_of}
use Rattle.rules.specs.Filled.{sketch_from, slots_ext}

pub sketch_perm : (plan : ℕ) {s t : List ℕ} → Permᴰ s t → sketch_of plan s ≡ sketch_of plan t
sketch_perm plan {s} {t} d =
    ap₂ (sketch_from plan) (length_perm d)
    (slots_ext (samples plan) (λ i. value s (point (suc i))) (λ i. value t (point (suc i))) (λ _. 0) (λ _. 0)
    (λ i l h. product_of_perm modulus d (point (suc i))) (λ i l h. refl))
