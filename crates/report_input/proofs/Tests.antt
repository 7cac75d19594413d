-- What the test on a byte tells.
--
--   digit_range            a digit lies in 48 to 57
--
-- Assumes nothing.
use mathlib.Core.Path.{◌≡◌}
use mathlib.Core.Bool.{true}
use Prim.Native.Nat.{ℕ, ◌≤◌}
use borrow.Author.Tests.{leb-true}
use lib.Dec.{leb}
use Rattle.rules.specs.Tests.{and_true}
use Rattle.rules.specs.Report.{is_digit}

pub digit_range : (b : ℕ) → is_digit b ≡ true → (48 ≤ b) × (b ≤ 57)
digit_range b e = let p = and_true (leb 48 b) (leb b 57) e in (leb-true 48 b p.0, leb-true b 57 p.1)
