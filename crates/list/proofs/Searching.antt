-- A key looked for in an ascending list.
--
--   found                  where the library's search finds the key, the list holds it, and else it does not
--
-- Assumes nothing.
use mathlib.Core.Path.{sym, subst}
use mathlib.Core.Logic.{⊎_elim}
use mathlib.Core.List.{List}
use mathlib.Core.List.Memᴰ
use Prim.Native.Nat.{ℕ, ◌≤◌, ◌<◌}
use native.Mathlib.Nat.{eq-or-lt_of_le}
use native.Mathlib.Omega.{arith}
use native.Mathlib.Decide.{dec_lt}
use lib.ListN.{length, get_or}
use Rattle.std.specs.Prelude.{Result, Ok, Err}
use Rattle.std.specs.Result.{is_ok}
use Rattle.std.specs.Ordering.{nat_cmp}
use Rattle.std.specs.List.Sorted.{IsBinarySearchResult}
use Rattle.std.proofs.lemmas.List.Sorted.{searched}
use Rattle.algebra.specs.Decided.{Decides}
use Rattle.algebra.specs.Sets.{◌∈◌, Ascending}
use Rattle.algebra.specs.Indexed.{get_mem, mem_at, ascending_at}

-- what stands earlier is no greater
in_order : (keys : List ℕ) → Ascending keys → (i j : ℕ) → i ≤ j → j < length keys → get_or keys i 0 ≤ get_or keys j 0
in_order keys asc i j le less = ⊎_elim (λ e. subst (λ (k : ℕ). get_or keys i 0 ≤ get_or keys k 0) e (omega arith)) (λ u. let v = ascending_at keys i j asc u less in omega arith) (eq-or-lt_of_le {n = i} {m = j} le)

pub found : (keys : List ℕ) (key : ℕ) (r : Result ℕ ℕ) → Ascending keys → IsBinarySearchResult (λ y. nat_cmp y key) keys r → Decides (key ∈ keys) (is_ok r)
found keys key (Ok i) asc s = let here = searched keys key (Ok i) s (in_order keys asc) in Memᴰ.cast (sym here.1) (get_mem keys i here.0)
found keys key (Err i) asc s = λ m.
    let at = mem_at m in
    let around = searched keys key (Err i) s (in_order keys asc) in
    elim (dec_lt at.0 i) [
      | yes l ↦ omega (arith, around.1 at.0 l, at.2)
      | no l ↦ omega (arith, around.2 at.0 (omega (arith, l)) at.1, at.2)
    ]
