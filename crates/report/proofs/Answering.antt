-- From what was written to what the report's contracts say.
--
--   refused_outcome, found_outcome     reconcile refuses; reconcile finds a difference
--   refused_read, good_read            the read refuses; it does not, and what reconcile says counts
--   bad_form, whole_form               an input that is bad at a line; one that is not
--   not_looked_at, looked_at           the length of the input
--   told                               what the report returns
--
-- Assumes nothing.
use mathlib.Core.Path.{◌≡◌, refl, sym, ap, subst, ◌∙◌}
use mathlib.Core.List.{List, ◌++◌}
use Prim.Native.Nat.{ℕ, ◌+◌, ◌-◌, ◌≤◌, ◌<◌}
use native.Mathlib.Omega.{arith}
use borrow.Author.Tests.{lt-ltb, le-ltb}
use lib.Dec.{ltb}
use lib.ListN.{length, take, drop, replicate, length-append, length-drop, length-replicate, replicate-append-replicate}
use lib.Seq.{take_at, drop_at}
use Rattle.rules.specs.Refusals.{number_of, place_of, Answer}
use Rattle.rules.specs.Calls.{read_answer, read_result}
use Rattle.rules.specs.Reconciling.{Left, Reconciles}
use Rattle.rules.specs.Report.{text, input_limit, Form, too_long, bad_line, whole, form_of, with_first, first_line, refused_text, bad_line_text, found_text, answered, room, AfterReconcile, AfterRead, Says, Reports}
use Rattle.rules.specs.declared.Sketch.{Sketch}
use Rattle.rules.specs.declared.Refusal.{Refusal}
use Rattle.std.specs.Prelude.{Ok, Err}
use Rattle.report_text.specs.Puts.{text_room}
use Rattle.report.specs.Answers.{Told}
use Rattle.rules.specs.Tests.{pick_true, pick_false}

module _ (output : List ℕ) where
  pub refused_outcome : (s : Sketch) (keys : List ℕ) (left : Left) (r : Refusal) → Reconciles s keys room room left → left.answer ≡ Err r
      → output ≡ refused_text (number_of left.answer) (place_of left.answer) → AfterReconcile s keys output
  refused_outcome s keys left r x e p = record {
    left = left;
    reconciles = x;
    written = p ∙ subst (λ (a : Answer). refused_text (number_of a) (place_of a) ≡ answered a s keys left) (sym e) refl;
  }

  pub found_outcome : (s : Sketch) (keys : List ℕ) (left : Left) → Reconciles s keys room room left → left.answer ≡ Ok tt
      → output ≡ found_text s.plan s.size (length keys) (take left.theirs_count left.theirs) (take left.ours_count left.ours) → AfterReconcile s keys output
  found_outcome s keys left x e p = record { left = left; reconciles = x; written = p ∙ sym (ap (λ (a : Answer). answered a s keys left) e) }

  pub refused_read : (answer answer' : Answer) (s : Sketch) (keys : List ℕ) (r : Refusal) → answer ≡ answer' → answer ≡ Err r
      → output ≡ refused_text (number_of answer) (place_of answer) → AfterRead answer' s keys output
  refused_read answer answer' s keys r same e p =
      subst (λ (a : Answer). AfterRead a s keys output) (sym e ∙ same) (p ∙ ap (λ (a : Answer). refused_text (number_of a) (place_of a)) e)

  pub good_read : (answer answer' : Answer) (s s' : Sketch) (keys : List ℕ) → answer ≡ answer' → answer ≡ Ok tt → s ≡ s' → AfterReconcile s keys output → AfterRead answer' s' keys output
  good_read answer answer' s s' keys same e is x = subst (λ (a : Answer). AfterRead a s' keys output) (sym e ∙ same) (subst (λ (y : Sketch). AfterReconcile y keys output) is x)

  pub bad_form : (form : Form) (n : ℕ) → form ≡ bad_line n → output ≡ bad_line_text n → Says form output
  bad_form form n e p = subst (λ (f : Form). Says f output) (sym e) p

  pub whole_form : (form : Form) (keys message : List ℕ) → form ≡ whole keys message → AfterRead (read_answer message) (read_result message) keys output → Says form output
  whole_form form keys message e w = subst (λ (f : Form). Says f output) (sym e) w

  pub not_looked_at : (input : List ℕ) → input_limit < length input → output ≡ text "too long\n" → Reports input output
  unfolding Reports form_of
  not_looked_at input h p = subst (λ (g : Form). Says g output) (sym (pick_true (ltb input_limit (length input)) too_long (with_first (first_line input)) (lt-ltb input_limit (length input) h))) p

  pub looked_at : (input : List ℕ) → length input ≤ input_limit → Says (with_first (first_line input)) output → Reports input output
  unfolding Reports form_of
  looked_at input h w = subst (λ (g : Form). Says g output) (sym (pick_false (ltb input_limit (length input)) too_long (with_first (first_line input)) (le-ltb input_limit (length input) h))) w

abbrev zeros : ℕ → List ℕ
zeros n = replicate n 0

zeros_left : (n k : ℕ) → k ≤ n → drop k (zeros n) ≡ zeros (n - k)
zeros_left n k h =
    let e : n ≡ k + (n - k) = omega arith in
    ap (drop k) (ap zeros e ∙ sym (replicate-append-replicate k (n - k) 0)) ∙ drop_at (zeros k) (zeros (n - k)) k (length-replicate k 0)

pub told : (input text bytes : List ℕ) (end : ℕ) → Reports input text → bytes ≡ text ++ drop end (zeros text_room) → end ≡ length text → end ≤ text_room → Told input bytes end
told input text bytes end said all ends fits = record {
  sized =
      let whole = ap length all ∙ length-append text (drop end (zeros text_room)) in
      let rest = length-drop end (zeros text_room) in
      let room = length-replicate {A = ℕ} text_room 0 in
      omega arith;
  within = fits;
  said = subst (Reports input) (sym (ap (take end) all ∙ take_at text (drop end (zeros text_room)) end (sym ends))) said;
  rest = ap (drop end) all ∙ drop_at text (drop end (zeros text_room)) end (sym ends) ∙ zeros_left text_room end fits;
}
