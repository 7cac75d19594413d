-- `unpacking::eight_bytes` meets its contract, by `field_eight`. Assumes nothing.
use Prim.Native.Nat.{◌+◌}
use native.Mathlib.Omega.{arith}
use Rattle.unpacking.proofs.Fields.{field_eight}
use Rattle.unpacking.proofs.eight_bytes.Goals as goal

pub returns : goal.returns
returns c =
    let j = c.args.j in
    let byte = c.type_inv.message in
    omega (arith, c.from_be_bytes.ensures, field_eight c.args.message.now j, byte j, byte (j + 1), byte (j + 2), byte (j + 3), byte (j + 4), byte (j + 5), byte (j + 6), byte (j + 7))
