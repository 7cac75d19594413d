-- The room that an entry makes for the keys of a list buffer.
--
--   Enough bytes n         n keys: as many as `bytes` has, or one more than a list may have
--
-- Assumes nothing.
use Rattle.std.specs.Prelude.{List, ℕ, suc, ◌/◌, ◌≤◌, min, length}
use Rattle.rules.specs.Numbers.{list_limit}
use Rattle.rules.specs.Entries.{key_bytes}

abbrev pub Enough : List ℕ → ℕ → Type 0
Enough bytes n = (n ≤ suc list_limit) × (min (length bytes / key_bytes) (suc list_limit) ≤ n)
