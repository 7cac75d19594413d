-- A word at the front of a text.
--
--   begins_is              the word is there exactly where the library says that the text begins with it
--
-- Assumes nothing.
use mathlib.Core.Path.{◌≡◌, refl, sym, ap₂, ◌∙◌}
use mathlib.Core.Bool.{Bool, ◌&&◌}
use mathlib.Core.Logic.{⊎_elim}
use mathlib.Core.List.{List, [], ◌∷◌}
use Prim.Native.Nat.{ℕ}
use borrow.Author.Tests.{eq-eqb, ne_eqb}
use Rattle.std.proofs.lemmas.Bool.{cases_eq}
use lib.Dec.{eqb}
use lib.ListN.{length, take}
use lib.Pointwise.{pointwise}
use Rattle.rules.specs.Report.{begins}

same_either_way : (a b : ℕ) → eqb a b ≡ eqb b a
same_either_way a b = ⊎_elim (λ e. eq-eqb a b e ∙ sym (eq-eqb b a (sym e))) (λ n. ne_eqb a b n ∙ sym (ne_eqb b a (λ e. n (sym e)))) (cases_eq a b)

pub begins_is : (word input : List ℕ) → pointwise eqb (take (length word) input) word ≡ begins word input
begins_is [] input = refl
begins_is (w ∷ word) [] = refl
begins_is (w ∷ word) (b ∷ input) = ap₂ (λ (x y : Bool). x && y) (same_either_way b w) (begins_is word input)
