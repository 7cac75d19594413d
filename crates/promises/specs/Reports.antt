-- The night report has one output for each input, and document 01's example is what it writes.
--
--   reports_one            any two outputs that the report's definition allows for one input coincide
--   text_one               so the text that the report returns is one: its length and every byte of it, those behind it too
--   example_output         of document 01's example the output is its three lines
--
-- Assumes nothing.
use Rattle.std.specs.Prelude.{◌≡◌, List, [], ◌∷◌, ◌++◌, ℕ, ◌-◌, ◌≤◌, length, take, drop, replicate, Ok, Err}
use Rattle.std.proofs.Common.{sym, ap, ap₂, subst, ◌∙◌, arith, lit≤, take-append-drop, length-take-le}
use Rattle.rules.specs.Calls.{read_answer, read_result}
use Rattle.rules.specs.Reconciling.{Left}
use Rattle.rules.specs.Report.{text, Form, too_long, bad_line, whole, form_of, answered, room, AfterReconcile, AfterRead, Says, Reports}
use Rattle.rules.specs.Cases.{sketch_2, difference_7}
use Rattle.computed.specs.CallCases.{message_7, read_7, sketch_7}
use Rattle.computed.specs.ReportCases.{example, example_form, example_text}
use Rattle.rules.specs.declared.Sketch.{Sketch}
use Rattle.rules.specs.Refusals.{Answer}
use Rattle.promises.specs.Unique.{reconcile_one}
use Rattle.promises.specs.Claims.{told_holds}
use Rattle.promises.specs.Starred.{ready_7}

reconciled_one : (s : Sketch) (keys a b : List ℕ) → AfterReconcile s keys a → AfterReconcile s keys b → a ≡ b
reconciled_one s keys a b x y =
    x.written ∙ ap (λ (left : Left). answered left.answer s keys left) (reconcile_one s keys room room x.left y.left x.reconciles y.reconciles) ∙ sym y.written

after_read_one : (answer : Answer) (s : Sketch) (keys a b : List ℕ) → AfterRead answer s keys a → AfterRead answer s keys b → a ≡ b
after_read_one (Err r) s keys a b x y = x ∙ sym y
after_read_one (Ok _) s keys a b x y = reconciled_one s keys a b x y

says_one : (form : Form) (a b : List ℕ) → Says form a → Says form b → a ≡ b
says_one too_long a b x y = x ∙ sym y
says_one (bad_line n) a b x y = x ∙ sym y
says_one (whole keys message) a b x y = after_read_one (read_answer message) (read_result message) keys a b x y

pub reports_one : (input a b : List ℕ) → Reports input a → Reports input b → a ≡ b
unfolding Reports
reports_one input a b x y = says_one (form_of input) a b x y

pub text_one : (room : ℕ) (input a b : List ℕ) (m n : ℕ) → length a ≡ room → length b ≡ room → m ≤ room → n ≤ room → Reports input (take m a) → Reports input (take n b) → drop m a ≡ replicate (room - m) 0 → drop n b ≡ replicate (room - n) 0 → (a ≡ b) × (m ≡ n)
text_one room input a b m n la lb hm hn x y ra rb = (sym (take-append-drop m a) ∙ ap₂ (λ (t r : List ℕ). t ++ r) texts (ra ∙ ap (λ (k : ℕ). replicate (room - k) 0) same ∙ sym rb) ∙ take-append-drop n b, same)
  where
    texts : take m a ≡ take n b
    texts = reports_one input (take m a) (take n b) x y

    same : m ≡ n
    same = sym (length-take-le m a (omega arith)) ∙ ap length texts ∙ length-take-le n b (omega arith)

-- "For `have 1` and `message 110002fffd7ffe00` it writes exactly: .."
pub example_output : (output : List ℕ) → Reports example output → output ≡ text "plan 1 peer 1 own 1\ntheirs 1: 3\nours 1: 1\n"
unfolding Reports
example_output output r = reconciled (subst (λ (f : Form). Says f output) example_form r)
  where
    found : AfterReconcile (sketch_2 1 65533 65532) (1 ∷ []) output → output ≡ text "plan 1 peer 1 own 1\ntheirs 1: 3\nours 1: 1\n"
    found x =
        x.written
        ∙ ap (λ (left : Left). answered left.answer (sketch_2 1 65533 65532) (1 ∷ []) left) (told_holds (sketch_2 1 65533 65532) (1 ∷ []) (3 ∷ []) (1 ∷ []) ready_7 difference_7 room room (lit≤ tt) (lit≤ tt) x.left x.reconciles)
        ∙ example_text

    reconciled : AfterRead (read_answer message_7) (read_result message_7) (1 ∷ []) output → output ≡ text "plan 1 peer 1 own 1\ntheirs 1: 3\nours 1: 1\n"
    reconciled x = found (subst (λ (s : Sketch). AfterReconcile s (1 ∷ []) output) sketch_7 (subst (λ (a : Answer). AfterRead a (read_result message_7) (1 ∷ []) output) read_7 x))
