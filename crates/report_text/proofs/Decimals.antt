-- A number in decimal, as document 01's report has it and as the library writes it.
--
--   same                   the two are one
--   short                  a number of 32 bits has at most ten digits
--
-- Assumes nothing.
use mathlib.Core.Path.{◌≡◌, sym}
use Prim.Native.Nat.{ℕ, suc, ◌^◌, ◌≤◌, ◌<◌}
use native.Mathlib.Omega.{arith}
use borrow.Author.Rules.{rules}
use lib.ListN.{length}
use Rattle.std.specs.Fmt as std
use Rattle.std.proofs.lemmas.Fmt.{decimal_from_appends, length-decimal-le, length-decimal-le_succ}
use Rattle.rules.specs.Report.{digits, decimal}

pub same : (n : ℕ) → n < 2 ^ 32 → std.decimal n ≡ decimal n
unfolding decimal
same n h = sym (decimal_from_appends digits (search rules) (suc n) n (omega arith) (let l = length-decimal-le_succ n (omega arith) in omega arith))

pub short : (n : ℕ) → n < 2 ^ 32 → length (decimal n) ≤ 10
short n h = rw (← same n h) (length-decimal-le 10 n (omega arith) (omega arith) (omega arith))
