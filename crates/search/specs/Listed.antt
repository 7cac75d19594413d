-- A list is legal in one way at most.
--
--   legal_prop             any two proofs that a list is legal are equal
--
-- Assumes nothing.
use Rattle.std.specs.Prelude.{List, [], ◌∷◌, ℕ}
use Rattle.std.specs.Coded.{×_prop, Π_prop, →_prop, Unit-prop, le_prop}
use Rattle.algebra.specs.Sets.{Ascending}
use Rattle.rules.specs.Numbers.{Keys, LegalList}

ascending_prop : (l : List ℕ) → IsProp (Ascending l)
ascending_prop [] = Unit-prop
ascending_prop (x ∷ l) = ×_prop (Π_prop (λ y. →_prop le_prop)) (ascending_prop l)

keys_prop : (l : List ℕ) → IsProp (Keys l)
keys_prop l a b = λ i. record {
  ascending = ascending_prop l a.ascending b.ascending i;
  legal = λ k m. le_prop (a.legal k m) (b.legal k m) i;
}

pub legal_prop : (l : List ℕ) → IsProp (LegalList l)
legal_prop l a b = λ i. record { keys = keys_prop l a.keys b.keys i; short = le_prop a.short b.short i }
