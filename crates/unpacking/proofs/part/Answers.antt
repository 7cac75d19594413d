-- `unpacking::part` meets its contract: 1, shifted, is the power. Assumes nothing.
use mathlib.Core.Path.{◌≡◌, sym, ap, subst, ◌∙◌}
use Prim.Native.Nat.{ℕ, ◌*◌, ◌/◌, ◌%◌, ◌^◌, ◌≤◌, ◌<◌}
use native.Mathlib.Nat.{one-mul}
use native.Mathlib.Omega.{arith}
use lib.Dec.{lit<}
use lib.Pow.{pow_pos, shl_exact}
use Rattle.rules.specs.Messages.{value_width}
use Rattle.unpacking.proofs.part.Goals as goal

shifted : (width : ℕ) → width ≤ value_width → (1 * 2 ^ width) % 2 ^ 32 ≡ 2 ^ width
shifted width h = shl_exact 1 width 32 (lit< tt) (omega arith) ∙ one-mul (2 ^ width)

pub nonzero_rem-result : goal.nonzero_rem-result
nonzero_rem-result c = subst (λ (d : ℕ). 0 < d) (sym (shifted c.args.width c.requires.1)) (pow_pos c.args.width)

pub returns : goal.returns
returns c = ap (λ (d : ℕ). c.args.n / 2 ^ c.args.rest % d) (shifted c.args.width c.requires.1)
