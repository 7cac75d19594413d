-- What adding and removing a key answer, told together: the tests that they share, and the last, which differs.
--
--   update_answer, update_result     of a change: add_answer and add_result, or remove_answer and remove_result
--   last_test change        "14", or "15"
--   malformed, large, passed       what an update answers, by the first test that holds
--   full, room, empty, some        what the last test answers, by the size
--   may_change             a size that passes the last test allows the change
--   Accepted change s k    a well-formed sketch, a legal key, and a size that allows the change
--   accepted, updates      an update succeeds exactly where it is accepted
--   gives, changes         what comes with an answer; where it is accepted, the sketch after the change
--
-- Assumes nothing.
use Rattle.std.specs.Prelude.{◌≡◌, refl, true, false, not, ℕ, ◌≤◌, ◌<◌, ltb, leb, eqb, Ok, Err}
use Rattle.std.proofs.Common.{sym, ◌∙◌, ⊎_elim, eq-zero-or-pos, arith, lt-ltb, le-ltb, le-leb, eq-eqb, ne_eqb, ltb-false, leb-false}
use Rattle.std.proofs.lemmas.Bool.{lt-leb, eqb-false, not-false}
use Rattle.rules.specs.Numbers.{key_limit, LegalKey, list_limit}
use Rattle.rules.specs.Refusals.{when, ◌then◌, given, Answer}
use Rattle.rules.specs.Sketches.{WellFormed, well_formed, with_key, without_key}
use Rattle.rules.specs.Calls.{add_answer, add_result, remove_answer, remove_result}
use Rattle.rules.specs.Tests.{when_done, then_done, settled}
use Rattle.rules.specs.Formed.{formed, tested}
use Rattle.rules.specs.declared.Sketch.{Sketch}
use Rattle.rules.specs.declared.Refusal.TheVariants.{LargeKey, MalformedSketch, FullSketch, EmptySketch}
use Rattle.update.specs.Changes.{MayChange, changed_by}
use Rattle.update.specs.declared.Change.{Change}
use Rattle.update.specs.declared.Change.TheVariants.{Add, Remove}

abbrev pub update_answer : Change → Sketch → ℕ → Answer
update_answer Add s k = add_answer s k
update_answer Remove s k = remove_answer s k

abbrev pub update_result : Change → Sketch → ℕ → Sketch
update_result Add s k = add_result s k
update_result Remove s k = remove_result s k

abbrev pub last_test : Change → Sketch → Answer
last_test Add s = when (leb list_limit s.size) FullSketch
last_test Remove s = when (eqb s.size 0) EmptySketch

-- "6, 3", then the last
abbrev tests : Change → Sketch → ℕ → Answer
tests change s k = when (not (well_formed s)) MalformedSketch then when (ltb key_limit k) (LargeKey 0) then last_test change s

in_order : (change : Change) (s : Sketch) (k : ℕ) → tests change s k ≡ update_answer change s k
unfolding add_answer remove_answer
in_order Add s k = refl
in_order Remove s k = refl

pub malformed : (change : Change) (s : Sketch) (k : ℕ) → well_formed s ≡ false → Err MalformedSketch ≡ update_answer change s k
malformed change s k e = rw (← in_order change s k, e)

pub large : (change : Change) (s : Sketch) (k : ℕ) → well_formed s ≡ true → key_limit < k → Err (LargeKey 0) ≡ update_answer change s k
large change s k e l = rw (← in_order change s k, e, lt-ltb key_limit k l)

pub passed : (change : Change) (s : Sketch) (k : ℕ) → well_formed s ≡ true → LegalKey k → last_test change s ≡ update_answer change s k
passed change s k e l = rw (← in_order change s k, e, le-ltb key_limit k l)

pub full : (s : Sketch) → list_limit ≤ s.size → last_test Add s ≡ Err FullSketch
full s h = rw (le-leb list_limit s.size h)

pub room : (s : Sketch) → s.size < list_limit → last_test Add s ≡ Ok tt
room s h = rw (lt-leb list_limit s.size h)

pub empty : (s : Sketch) → s.size ≡ 0 → last_test Remove s ≡ Err EmptySketch
empty s h = rw (eq-eqb s.size 0 h)

pub some : (s : Sketch) → (s.size ≡ 0 → ⊥) → last_test Remove s ≡ Ok tt
some s h = rw (ne_eqb s.size 0 h)

pub may_change : (change : Change) (s : Sketch) → last_test change s ≡ Ok tt → MayChange change s.size
may_change Add s e = leb-false list_limit s.size (when_done (leb list_limit s.size) FullSketch e)
may_change Remove s e = ⊎_elim (λ z. absurd (eqb-false s.size 0 (when_done (eqb s.size 0) EmptySketch e) z)) (λ l. l) (eq-zero-or-pos s.size)

may_pass : (change : Change) (s : Sketch) → MayChange change s.size → last_test change s ≡ Ok tt
may_pass Add s h = room s h
may_pass Remove s h = some s (λ e. omega arith)

pub record Accepted (change : Change) (s : Sketch) (k : ℕ) : Type 0 where
  pub sketch : WellFormed s
  pub key : LegalKey k
  pub size : MayChange change s.size

pub accepted : (change : Change) (s : Sketch) (k : ℕ) → update_answer change s k ≡ Ok tt → Accepted change s k
accepted change s k e =
    let p = then_done (when (not (well_formed s)) MalformedSketch) (when (ltb key_limit k) (LargeKey 0) then last_test change s) (in_order change s k ∙ e) in
    let q = then_done (when (ltb key_limit k) (LargeKey 0)) (last_test change s) p.1 in
    record {
      sketch = formed s (not-false (well_formed s) (when_done (not (well_formed s)) MalformedSketch p.0));
      key = ltb-false key_limit k (when_done (ltb key_limit k) (LargeKey 0) q.0);
      size = may_change change s q.1;
    }

pub updates : (change : Change) (s : Sketch) (k : ℕ) → Accepted change s k → update_answer change s k ≡ Ok tt
updates change s k a = sym (passed change s k (tested s a.sketch) a.key) ∙ may_pass change s a.size

-- what comes with an answer
pub gives : (change : Change) (s : Sketch) (k : ℕ) (a : Answer) → a ≡ update_answer change s k → given a (changed_by change s k) s ≡ update_result change s k
gives Add s k a e = (settled a (add_answer s k) (with_key s k) s e).1
gives Remove s k a e = (settled a (remove_answer s k) (without_key s k) s e).1

pub changes : (change : Change) (s : Sketch) (k : ℕ) → Accepted change s k → update_result change s k ≡ changed_by change s k
changes change s k a = sym (gives change s k (Ok tt) (sym (updates change s k a)))
