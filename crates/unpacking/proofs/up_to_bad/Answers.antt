-- `unpacking::up_to_bad` meets its contract: the position is that of the first bad value (`first_bad`), or there is none (`none_bad`). Assumes nothing.
use mathlib.Core.Path.{◌≡◌}
use mathlib.Core.Bool.{Bool, true, false}
use mathlib.Core.List.{List}
use Prim.Native.Nat.{ℕ, ◌<◌}
use native.Mathlib.Omega.{arith}
use borrow.Author.Rules.{rules}
use lib.ListN.{length, get_or, take}
use lib.Seq.{get_or-take, length-take-le}
use Rattle.std.specs.List.{AllWithin, HoldsAt}
use Rattle.std.specs.Option.{MatchOption}
use Rattle.std.proofs.lemmas.Iterator.{YieldsList-from_slice, IsFirst-from_position}
use Rattle.rules.specs.Calls.{bad_value}
use Rattle.unpacking.proofs.Values.{first_bad, none_bad}
use Rattle.unpacking.proofs.up_to_bad.Goals.{After-position}
use Rattle.unpacking.proofs.up_to_bad.Goals as goal

abbrev Bad : ℕ → Type 0
Bad x = bad_value x ≡ true

abbrev Good : ℕ → Type 0
Good x = bad_value x ≡ false

found : (c : After-position) → let front = take c.args.m c.args.values in
    MatchOption c.position.result (AllWithin Good front 0 (length front)) (λ i. (i < length front) × HoldsAt Bad front i × AllWithin Good front 0 i)
found c =
    IsFirst-from_position _ _ _ Bad Good c.position.ensures.ran (YieldsList-from_slice (take c.args.m c.args.values) c.iter.ensures.rest) (λ x q k. search rules) (λ x q k. search rules)

-- what stands among the first m values
here : (l : List ℕ) (m i : ℕ) {v : Bool} → i < m → bad_value (get_or (take m l) i 0) ≡ v → bad_value (get_or l i 0) ≡ v
here l m i h e = rw (get_or-take m l i 0 h) at e

pub returns-in-Some : goal.returns-in-Some
returns-in-Some c b e =
    let a = c.args in
    let f = rw c.in-Some.is at (found (goal.at.returns-in-Some c).After-position) in
    let long : length (take a.m a.values) ≡ a.m = length-take-le a.m a.values (search rules) in
    let less : c.in-Some.i < a.m = omega (arith, f.0) in
    first_bad b a.m a.values c.requires e c.in-Some.i less (λ j h. here a.values a.m j (omega arith) (f.2 j 0 (omega arith) h)) (here a.values a.m c.in-Some.i less (f.1 0))

pub returns-in-None : goal.returns-in-None
returns-in-None c b e =
    let a = c.args in
    let f = rw c.in-None.is at (found (goal.at.returns-in-None c).After-position) in
    let long : length (take a.m a.values) ≡ a.m = length-take-le a.m a.values (search rules) in
    none_bad b a.m a.values c.requires e (λ j h. here a.values a.m j h (f j 0 (omega arith) (omega arith)))
