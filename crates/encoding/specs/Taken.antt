-- Keys taken out of a buffer into a list that may be too short for them.
--
--   Taken bytes keys after count ascending     the first `count` of `after` are the buffer's keys, as many as `keys` has room for, behind them stands what stood in `keys`,
--                          and `ascending` tells whether the keys that were taken ascend
--   taken_one              of one outcome
--
-- Assumes nothing.
use Rattle.std.specs.Prelude.{◌≡◌, Bool, List, ◌++◌, ℕ, ◌≤◌, length, take, drop}
use Rattle.std.proofs.Common.{sym, ap, ap₂, subst, ◌∙◌, arith, take-append-drop, length-take-le}
use Rattle.algebra.specs.Decided.{Decides, decides_one}
use Rattle.algebra.specs.Sets.{Ascending}
use Rattle.rules.specs.Entries.{keys_of}

pub record Taken (bytes keys after : List ℕ) (count : ℕ) (ascending : Bool) : Type 0 where
  pub room : count ≤ length keys
  pub same : length after ≡ length keys
  pub taken : take count after ≡ take (length keys) (keys_of bytes)
  pub rest : drop count after ≡ drop count keys
  pub told : Decides (Ascending (take count after)) ascending

-- how many keys were taken
taken_count : {bytes keys after : List ℕ} {count : ℕ} {ascending : Bool} → Taken bytes keys after count ascending → count ≡ length (take (length keys) (keys_of bytes))
taken_count {after = after} {count} t = sym (length-take-le count after (omega (arith, t.room, t.same))) ∙ ap length t.taken

pub taken_one : {bytes keys a b : List ℕ} {n m : ℕ} {x y : Bool} → Taken bytes keys a n x → Taken bytes keys b m y → (n ≡ m) × (a ≡ b) × (x ≡ y)
taken_one {bytes} {keys} {a} {b} {n} {m} {x} {y} t u = (
  same,
  sym (take-append-drop n a) ∙ ap₂ ◌++◌ (t.taken ∙ sym u.taken) (t.rest ∙ ap (λ (k : ℕ). drop k keys) same ∙ sym u.rest) ∙ take-append-drop m b,
  decides_one (Ascending (take n a)) x y t.told (subst (λ (l : List ℕ). Decides (Ascending l) y) (u.taken ∙ sym t.taken) u.told),
)
  where
    same : n ≡ m
    same = taken_count t ∙ sym (taken_count u)
