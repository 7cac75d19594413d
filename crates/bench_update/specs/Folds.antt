-- Many updates of a sketch, one after the other, and what the entries of the benchmark return and leave.
--
--   Update, adding, removing       what an update answers and gives, of a sketch and a key: rules' add_answer and add_result, or those of removing
--   update_of change       the update of a change: adding or removing
--   after u s keys         the sketch after the update u of s by each of the keys; a refusal leaves it as it was, and the next key follows
--   earliest n next        the first of two numbers, unless it is 0
--   first u s keys         the number of the first refusal, 0 where there is none
--   entry_returns, entry_leaves      of an entry: its number, and its message buffer; where the message is refused, the number of that, and the buffer as it was
--   earliest_all, earliest_some, earliest_then     nothing follows; the first is not 0; three numbers
--   number_and             the number of the first of two refusals
--   refused_entry, done_entry      what an entry returns and leaves, by the answer of the read
--   add_count, remove_count        an update keeps the number of slots
--   Going                  what is left to do, as a loop goes; going_none, going_more, going_all
--
-- Assumes nothing.
use Rattle.std.specs.Prelude.{◌≡◌, refl, List, [], ◌∷◌, ℕ, zero, suc, ◌+◌, ◌≤◌, ◌<◌, length, get_or, drop, Ok, Err}
use Rattle.std.specs.Result.{result_and}
use Rattle.std.proofs.Common.{sym, ap, ◌∙◌, add-one, drop_of_length-le, drop-cons}
use Rattle.algebra.specs.Arithmetic.{sub_of, mul_of, inverse_of}
use Rattle.rules.specs.Numbers.{modulus, point, most_samples, samples}
use Rattle.rules.specs.Sketches.{with_key, without_key}
use Rattle.rules.specs.Formed.{slots_length}
use Rattle.rules.specs.Refusals.{number_of, given, Answer}
use Rattle.rules.specs.Calls.{read_answer, read_result, write_buffer, add_answer, add_result, remove_answer, remove_result}
use Rattle.rules.specs.Entries.{keys_of}
use Rattle.rules.specs.declared.Sketch.{Sketch}
use Rattle.rules.specs.declared.Refusal.{Refusal}
use Rattle.rules.specs.declared.Refusal.TheVariants.{UnknownPlan, LongList, LargeKey, UnorderedKey, ShortBuffer, MalformedSketch, WrongLength, UnknownVersion, LargeSize, BadValue, PaddingSet, LargeGap, NoDifference, FullSketch, EmptySketch}
use Rattle.update.specs.Updates.{update_answer, update_result}
use Rattle.update.specs.declared.Change.{Change}

pub record Update : Type 0 where
  pub answer : Sketch → ℕ → Answer
  pub result : Sketch → ℕ → Sketch

abbrev pub adding : Update
adding = record { answer = add_answer; result = add_result }

abbrev pub removing : Update
removing = record { answer = remove_answer; result = remove_result }

abbrev pub update_of : Change → Update
update_of change = record { answer = update_answer change; result = update_result change }

abbrev pub after : Update → Sketch → List ℕ → Sketch
after u s [] = s
after u s (k ∷ ks) = after u (u.result s k) ks

abbrev pub earliest : ℕ → ℕ → ℕ
earliest zero next = next
earliest (suc n) next = suc n

abbrev pub first : Update → Sketch → List ℕ → ℕ
first u s [] = 0
first u s (k ∷ ks) = earliest (number_of (u.answer s k)) (first u (u.result s k) ks)

abbrev pub entry_returns : Update → List ℕ → List ℕ → ℕ
entry_returns u list message = given (read_answer message) (first u (read_result message) (keys_of list)) (number_of (read_answer message))

abbrev pub entry_leaves : Update → List ℕ → List ℕ → List ℕ
entry_leaves u list message = given (read_answer message) (write_buffer (after u (read_result message) (keys_of list)) message) message

pub earliest_all : (n : ℕ) → earliest n 0 ≡ n
earliest_all zero = refl
earliest_all (suc n) = refl

pub earliest_some : (n next : ℕ) → (n ≡ 0 → ⊥) → earliest n next ≡ n
earliest_some zero next h = absurd (h refl)
earliest_some (suc n) next h = refl

pub earliest_then : (a b c : ℕ) → earliest a (earliest b c) ≡ earliest (earliest a b) c
earliest_then zero b c = refl
earliest_then (suc a) b c = refl

pub number_and : (a b : Answer) → number_of (result_and a b) ≡ earliest (number_of a) (number_of b)
number_and (Ok _) b = refl
number_and (Err UnknownPlan) b = refl
number_and (Err LongList) b = refl
number_and (Err (LargeKey i)) b = refl
number_and (Err (UnorderedKey i)) b = refl
number_and (Err (ShortBuffer i)) b = refl
number_and (Err MalformedSketch) b = refl
number_and (Err WrongLength) b = refl
number_and (Err UnknownVersion) b = refl
number_and (Err LargeSize) b = refl
number_and (Err (BadValue i)) b = refl
number_and (Err PaddingSet) b = refl
number_and (Err LargeGap) b = refl
number_and (Err NoDifference) b = refl
number_and (Err FullSketch) b = refl
number_and (Err EmptySketch) b = refl

-- t is the sketch after the first i keys, n the number up to there
pub record Going (u : Update) (s : Sketch) (keys : List ℕ) (i n : ℕ) (t : Sketch) : Type 0 where
  pub number : first u s keys ≡ earliest n (first u t (drop i keys))
  pub sketch : after u s keys ≡ after u t (drop i keys)

pub going_none : (u : Update) (s : Sketch) (keys : List ℕ) → Going u s keys 0 0 s
going_none u s keys = record { number = refl; sketch = refl }

pub going_more : {u : Update} {s : Sketch} (keys : List ℕ) {i n k r n' : ℕ} {t t' : Sketch} → i < length keys → k ≡ get_or keys i 0 → r ≡ number_of (u.answer t k) → t' ≡ u.result t k → n' ≡ earliest n r → Going u s keys i n t → Going u s keys (i + 1) n' t'
going_more {u} keys {i} {n} {k} {r} {n'} {t} {t'} h e a b m g = record {
  number =
      g.number ∙ ap (λ (l : List ℕ). earliest n (first u t l)) next ∙ earliest_then n (number_of (u.answer t k)) (first u (u.result t k) (drop (i + 1) keys))
      ∙ ap (λ (x : ℕ). earliest (earliest n x) (first u (u.result t k) (drop (i + 1) keys))) (sym a) ∙ ap (λ (x : ℕ). earliest x (first u (u.result t k) (drop (i + 1) keys))) (sym m)
      ∙ ap (λ (z : Sketch). earliest n' (first u z (drop (i + 1) keys))) (sym b);
  sketch = g.sketch ∙ ap (after u t) next ∙ ap (λ (z : Sketch). after u z (drop (i + 1) keys)) (sym b);
}
  where
    next : drop i keys ≡ k ∷ drop (i + 1) keys
    next = drop-cons keys i 0 h ∙ rw (e, add-one i)

pub going_all : {u : Update} {s : Sketch} {keys : List ℕ} {i n : ℕ} {t : Sketch} → length keys ≤ i → Going u s keys i n t → (n ≡ first u s keys) × (t ≡ after u s keys)
going_all {u} {keys = keys} {i} {n} {t} h g = (
  sym (g.number ∙ ap (λ (l : List ℕ). earliest n (first u t l)) (drop_of_length-le keys h) ∙ earliest_all n),
  sym (g.sketch ∙ ap (after u t) (drop_of_length-le keys h)),
)

-- what a call gives by its answer has its slots, where both ways have
given_count : (a : Answer) (x y : Sketch) → length x.values ≡ most_samples → length y.values ≡ most_samples → length (given a x y).values ≡ most_samples
given_count (Ok _) x y p q = p
given_count (Err r) x y p q = q

pub add_count : (s : Sketch) (k : ℕ) → length s.values ≡ most_samples → length (add_result s k).values ≡ most_samples
add_count s k e = given_count (add_answer s k) (with_key s k) s (slots_length (samples s.plan) (λ i. mul_of modulus (get_or s.values i 0) (sub_of modulus (point (suc i)) k)) (λ i. get_or s.values i 0)) e

pub remove_count : (s : Sketch) (k : ℕ) → length s.values ≡ most_samples → length (remove_result s k).values ≡ most_samples
remove_count s k e = given_count (remove_answer s k) (without_key s k) s (slots_length (samples s.plan) (λ i. mul_of modulus (get_or s.values i 0) (inverse_of modulus (sub_of modulus (point (suc i)) k))) (λ i. get_or s.values i 0)) e

pub refused_entry : (u : Update) (list message : List ℕ) {a : Answer} {x : Refusal} → a ≡ read_answer message → a ≡ Err x → (number_of a ≡ entry_returns u list message) × (message ≡ entry_leaves u list message)
refused_entry u list message r e = (
  ap number_of r ∙ sym (ap (λ (z : Answer). given z (first u (read_result message) (keys_of list)) (number_of (read_answer message))) (sym r ∙ e)),
  sym (ap (λ (z : Answer). given z (write_buffer (after u (read_result message) (keys_of list)) message) message) (sym r ∙ e)),
)

pub done_entry : (u : Update) (list message : List ℕ) {a : Answer} {s : Sketch} {n : ℕ} {left : List ℕ} → a ≡ read_answer message → a ≡ Ok tt → s ≡ read_result message → n ≡ first u s (keys_of list) → left ≡ write_buffer (after u s (keys_of list)) message
    → (n ≡ entry_returns u list message) × (left ≡ entry_leaves u list message)
done_entry u list message r e q m w = (
  m ∙ ap (λ (t : Sketch). first u t (keys_of list)) q ∙ sym (ap (λ (z : Answer). given z (first u (read_result message) (keys_of list)) (number_of (read_answer message))) (sym r ∙ e)),
  w ∙ ap (λ (t : Sketch). write_buffer (after u t (keys_of list)) message) q ∙ sym (ap (λ (z : Answer). given z (write_buffer (after u (read_result message) (keys_of list)) message) message) (sym r ∙ e)),
)
