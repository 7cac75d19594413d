-- Document 01's order of tests on a message, one law for each place where a read can end.
--
--   empty, unknown_version, wrong_length, large_size       each refusal, given that the tests before it pass
--   to_body                all of these pass: the answer is that of the part behind the header
--   refused, told          a result of that answer, and back: was_refused, was_told
--
-- Assumes nothing.
use mathlib.Core.Path.{◌≡◌, refl, ap}
use mathlib.Core.List.{List}
use Prim.Native.Nat.{ℕ, ◌≤◌, ◌<◌}
use borrow.Author.Tests.{eq-eqb, ne_eqb, lt-ltb, le-ltb}
use lib.ListN.{length}
use Rattle.rules.specs.Numbers.{list_limit}
use Rattle.rules.specs.Messages.{version, version_width, message_length, field_at}
use Rattle.rules.specs.Calls.{message_plan, message_samples, message_size, read_answer, sketch_in}
use Rattle.rules.specs.declared.Refusal.{Refusal}
use Rattle.rules.specs.declared.Refusal.TheVariants.{WrongLength, UnknownVersion, LargeSize}
use Rattle.std.specs.Prelude.{Ok, Err}
use Rattle.rules.specs.declared.Sketch.{Sketch}
use Rattle.rules.specs.Refusals.{Answer}
use Rattle.std.specs.Result.{result_and}
use Rattle.unpacking.specs.Parts.{values_in, body_answer}

module _ (b : List ℕ) where
  pub empty : length b ≡ 0 → read_answer b ≡ Err WrongLength
  unfolding read_answer
  empty h = rw (eq-eqb (length b) 0 h)

  module _ (some : ¬ (length b ≡ 0)) where
    pub unknown_version : ¬ (field_at b 0 version_width ≡ version) → read_answer b ≡ Err UnknownVersion
    unfolding read_answer
    unknown_version h = rw (ne_eqb (length b) 0 some, ne_eqb (field_at b 0 version_width) version h)

    module _ (known : field_at b 0 version_width ≡ version) where
      pub wrong_length : ¬ (length b ≡ message_length (message_samples b)) → read_answer b ≡ Err WrongLength
      unfolding read_answer
      wrong_length h = rw (ne_eqb (length b) 0 some, eq-eqb (field_at b 0 version_width) version known, ne_eqb (length b) (message_length (message_samples b)) h)

      module _ (long : length b ≡ message_length (message_samples b)) where
        pub large_size : list_limit < message_size b → read_answer b ≡ Err LargeSize
        unfolding read_answer
        large_size h = rw (ne_eqb (length b) 0 some, eq-eqb (field_at b 0 version_width) version known, eq-eqb (length b) (message_length (message_samples b)) long, lt-ltb list_limit (message_size b) h)

        pub to_body : message_size b ≤ list_limit → read_answer b ≡ body_answer b (message_samples b)
        unfolding read_answer
        to_body h = rw (ne_eqb (length b) 0 some, eq-eqb (field_at b 0 version_width) version known, eq-eqb (length b) (message_length (message_samples b)) long, le-ltb list_limit (message_size b) h)

  -- what comes with the answer
  pub refused : (r : Refusal) → read_answer b ≡ Err r → Err r ≡ result_and (read_answer b) (Ok (sketch_in b))
  refused r e = rw e

  pub told : (plan size : ℕ) (values : List ℕ) → plan ≡ message_plan b → size ≡ message_size b → values ≡ values_in b (message_samples b) → read_answer b ≡ Ok tt
      → Ok (record { plan = plan; size = size; values = values }) ≡ result_and (read_answer b) (Ok (sketch_in b))
  told plan size values p n v e = let s : ◌≡◌ {A = Sketch} (record { plan = plan; size = size; values = values }) (sketch_in b) = cc in rw e (ap (λ (s : Sketch). Ok s) s)

-- what a result says of the answer that it comes from
pub was_refused : {A : Type 0} (a : Answer) (x : A) (r : Refusal) → Err r ≡ result_and a (Ok x) → a ≡ Err r
was_refused (Ok _) x r e = cc
was_refused (Err q) x r e = cc

pub was_told : {A : Type 0} (a : Answer) (x y : A) → Ok y ≡ result_and a (Ok x) → (a ≡ Ok tt) × (y ≡ x)
was_told (Ok tt) x y e = (refl, cc)
was_told (Err q) x y e = (cc, cc)
