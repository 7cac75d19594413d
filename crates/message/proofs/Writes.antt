-- Document 01's order of tests on a write, one law for each place where it can end, and the message as bytes of its fields.
--
--   Outcome s buffer a n after     the answer a, the length n and the buffer `after` are those of document 01
--   malformed, short       the two refusals
--   packed                 no refusal: the message stands before the rest of the buffer
--   message_bytes          the message is the bytes of its fields
--
-- Assumes nothing.
use mathlib.Core.Path.{◌≡◌, refl, sym, ap, ap₂, ◌∙◌}
use mathlib.Core.Bool.{true, false}
use mathlib.Core.List.{List, ◌++◌}
use Prim.Native.Nat.{ℕ, ◌≤◌, ◌<◌}
use borrow.Author.Tests.{lt-ltb, le-ltb}
use lib.ListN.{length, take, drop}
use lib.Seq.{length-take-le}
use Rattle.rules.specs.Numbers.{samples}
use Rattle.rules.specs.Sketches.{well_formed}
use Rattle.rules.specs.Messages.{bytes, fields, message_length, message}
use Rattle.rules.specs.Calls.{write_answer, write_length, write_buffer}
use Rattle.rules.specs.declared.Refusal.{Refusal}
use Rattle.rules.specs.declared.Refusal.TheVariants.{MalformedSketch, ShortBuffer}
use Rattle.rules.specs.Refusals.{Answer}
use Rattle.std.specs.Prelude.{Ok, Err}
use Rattle.rules.specs.declared.Sketch.{Sketch}
use Rattle.packing.specs.Positions.{field_bits}
use Rattle.packing.specs.Packing.{bytes_length}
use Rattle.rules.specs.Tests.{gives_done, gives_refused}

module _ (s : Sketch) where
  -- how many bytes the message has
  abbrev due : ℕ
  due = message_length (samples s.plan)

  pub message_bytes : message s ≡ bytes due (field_bits s.plan s.size (take (samples s.plan) s.values))
  unfolding message fields field_bits
  message_bytes = refl

  message_length_lem : length (message s) ≡ due
  message_length_lem = ap length message_bytes ∙ bytes_length due (field_bits s.plan s.size (take (samples s.plan) s.values))

module _ (s : Sketch) (buffer : List ℕ) where
  abbrev Outcome : Answer → ℕ → List ℕ → Type 0
  Outcome a n after = (a ≡ write_answer s (length buffer)) × (n ≡ write_length s (length buffer)) × (after ≡ write_buffer s buffer)

  abbrev whole : List ℕ
  whole = message s ++ drop (length (message s)) buffer

  refuses : (r : Refusal) → write_answer s (length buffer) ≡ Err r → Outcome (Err r) 0 buffer
  refuses r e = (sym e, gives_refused (due s) 0 (write_answer s (length buffer)) r e, gives_refused whole buffer (write_answer s (length buffer)) r e)

  pub malformed : well_formed s ≡ false → Outcome (Err MalformedSketch) 0 buffer
  unfolding write_answer
  malformed h = refuses MalformedSketch answer
    where
      answer : write_answer s (length buffer) ≡ Err MalformedSketch
      answer = rw (h)

  pub short : well_formed s ≡ true → length buffer < due s → Outcome (Err (ShortBuffer 0)) 0 buffer
  unfolding write_answer
  short h l = refuses (ShortBuffer 0) answer
    where
      answer : write_answer s (length buffer) ≡ Err (ShortBuffer 0)
      answer = rw (h, lt-ltb (length buffer) (due s) l)

  -- where n bytes of the fields, those of m values, were put at the front
  pub packed : (m n : ℕ) (front : List ℕ) → well_formed s ≡ true → m ≡ samples s.plan → n ≡ due s → n ≤ length buffer
      → front ≡ bytes (length (take n buffer)) (field_bits s.plan s.size (take m s.values))
      → Outcome (Ok tt) n (front ++ drop n buffer)
  unfolding write_answer
  packed m n front h p e l f =
      (sym answer, e ∙ gives_done (due s) 0 (write_answer s (length buffer)) answer, ap₂ (λ (xs : List ℕ) (k : ℕ). xs ++ drop k buffer) all (e ∙ sym (message_length_lem s)) ∙ gives_done whole buffer (write_answer s (length buffer)) answer)
    where
      answer : write_answer s (length buffer) ≡ Ok tt
      answer = rw (h, le-ltb (length buffer) (due s) (rw e at l))

      all : front ≡ message s
      all = f ∙ ap₂ (λ (k j : ℕ). bytes k (field_bits s.plan s.size (take j s.values))) (length-take-le n buffer l ∙ e) p ∙ sym (message_bytes s)
