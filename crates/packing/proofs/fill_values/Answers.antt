-- `packing::fill_values` meets its contract: the words, and the bytes behind them. Assumes nothing.
use mathlib.Core.Path.{sym, ap, subst, ◌∙◌}
use Prim.Native.Nat.{ℕ}
use native.Mathlib.Omega.{arith}
use Rattle.packing.specs.Positions.{behind, FilledTo}
use Rattle.packing.proofs.fill_values.Goals as goal

pub fill_bytes-requires : goal.fill_bytes-requires
fill_bytes-requires c =
    let w = c.fill_words-from in
    let f = w.ensures in
    (omega (arith, f.long), subst (λ (n : ℕ). FilledTo c.args.values.now n w.result.j w.new.buffer) (sym f.long) f)

pub returns : goal.returns
returns c =
    c.fill_bytes.ensures ∙ ap (behind c.args.values.now) c.fill_words-from.ensures.long
