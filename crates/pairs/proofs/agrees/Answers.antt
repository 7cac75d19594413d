-- `pairs::agrees` meets its contract: no more keys are told than the buffers hold. Assumes nothing.
use mathlib.Core.Path.{sym}
use lib.Seq.{length-take-le}
use Rattle.exchange.specs.Exchanged.{exchange_stands}
use Rattle.pairs.proofs.agrees.Goals as goal

pub slice_bounds-theirs-end : goal.slice_bounds-theirs-end
slice_bounds-theirs-end c = (exchange_stands _ _ _ _ _ _ c.exchange-told.ensures.composed).0

pub slice_bounds-eq-end : goal.slice_bounds-eq-end
slice_bounds-eq-end c = sym (length-take-le _ _ (exchange_stands _ _ _ _ _ _ c.exchange-told.ensures.composed).0)

pub slice_bounds-ours-end : goal.slice_bounds-ours-end
slice_bounds-ours-end c = (exchange_stands _ _ _ _ _ _ c.exchange-told.ensures.composed).1

pub slice_bounds-eq-end-then-eq : goal.slice_bounds-eq-end-then-eq
slice_bounds-eq-end-then-eq c = sym (length-take-le _ _ (exchange_stands _ _ _ _ _ _ c.exchange-told.ensures.composed).1)
