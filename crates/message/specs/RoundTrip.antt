-- A message and its sketch: what is written is read, and what read accepts is exactly the message of the sketch that it returns.
--
--   GoodValue v, Readable b        a value that a message may hold, and the tests of reading as facts
--   readable, accepted             read_answer b ≡ Ok tt gives Readable b, and the other way round
--   length_message, below_message  a message has its plan's length, and each of its bytes is below 256
--   message_field          a field of a message, as it stands in its bits
--   Reads b s, result_in           reading b succeeds and gives s; which is the sketch that stands in b
--   message_sketch         the sketch that stands in the message of a well-formed sketch is that sketch
--   read_message           the message of a well-formed sketch is read, as that sketch
--   read_formed, read_bytes    the sketch that stands in a readable message is well-formed, and its message is those bytes
--   message_read           what is read is well-formed, and the bytes that were read are its message
--   one_message            well-formed sketches with one message are one
--   read_written           what a write puts into any buffer that has room for it is read back
--   lengths                computed: the length of each plan's message
--   example, example_read  a message, and what it is read as
--   next_to_example, misses    bytes next to it, and the number by which each is refused
--
-- Assumes nothing.
use Rattle.std.specs.Prelude.{◌≡◌, refl, false, cond, not, List, [], ◌∷◌, ◌++◌, map, ℕ, zero, suc, ◌+◌, ◌*◌, ◌-◌, ◌%◌, ◌^◌, ◌≤◌, ◌<◌, ltb, leb, eqb, length, take, drop, get_or, replicate, Ok}
use Rattle.std.proofs.Common.{sym, ap, ap₂, ◌∙◌, ⊎_elim, eq-zero-or-pos, add-zero, zero-add, mod-eq_of_lt, arith, length-take, drop_of_length-le, drop-drop, get_or-take, take_at}
use Rattle.std.proofs.Math.Path.{subst}
use borrow.Author.Tests.{ltb-false, leb-false, eqb-true, eqb-false, not-false, lt-ltb, le-ltb, lt-leb, eq-eqb, ne_eqb}
use Rattle.rules.specs.Filled.{sketch_from}
use Rattle.rules.specs.Numbers.{modulus, most_samples, list_limit, sample_counts, plans, samples}
use Rattle.rules.specs.Plans.{samples_most}
use Rattle.algebra.specs.Tabulate.{tabulate, tabulate_ext, tabulate_self}
use Rattle.rules.specs.Sketches.{slots, WellFormed, blank}
use Rattle.rules.specs.Formed.{slots_at, slots_length, tested}
use Rattle.rules.specs.Messages.{bits, number, bits_of_all, version, version_width, plan_width, plan_at, size_width, size_at, value_width, value_at, fields, message_length, bytes, message, field_at}
use Rattle.rules.specs.Refusals.{number_of, when, ◌then◌, given, Answer}
use Rattle.rules.specs.Tests.{when_done, done_when, then_done, done_then, or_false}
use Rattle.rules.specs.Calls.{write_answer, write_length, write_buffer, message_plan, message_samples, message_size, message_value, message_padding, values_answer, read_answer, sketch_in, read_result, bad_value}
use Rattle.rules.specs.declared.Sketch.{Sketch}
use Rattle.rules.specs.declared.Refusal.{Refusal}
use Rattle.rules.specs.declared.Refusal.TheVariants.{WrongLength, UnknownVersion, LargeSize, BadValue, PaddingSet}
use Rattle.packing.specs.Packing.{Below, below_append, below_drop, padded, padded_self, padded_part, padded_again, bits_below, number_self, number_none, bits_number, all_length, all_below, all_number, blocks, all_blocks, bytes_length, bytes_below, all_bytes, bytes_all, field_bytes, field_below}

-- "the first m are 1 to 65,536"
abbrev pub GoodValue : ℕ → Type 0
GoodValue v = (0 < v) × (v < modulus)

good_value : (v : ℕ) → bad_value v ≡ false → GoodValue v
good_value v e = let p = or_false (eqb v 0) (leb modulus v) e in (omega (arith, eqb-false v 0 p.0), leb-false modulus v p.1)

not_bad : (v : ℕ) → GoodValue v → bad_value v ≡ false
not_bad v g = rw (ne_eqb v 0 (omega arith), lt-leb modulus v g.1)

good_values : (b : List ℕ) (i n : ℕ) → values_answer b i n ≡ Ok tt → (j : ℕ) → j < n → GoodValue (message_value b (i + j))
good_values b i zero e j h = absurd (omega arith)
good_values b i (suc n) e zero h =
    let p = then_done (when (bad_value (message_value b i)) (BadValue i)) (values_answer b (suc i) n) e in
    subst (λ (k : ℕ). GoodValue (message_value b k)) (sym (add-zero i)) (good_value (message_value b i) (when_done (bad_value (message_value b i)) (BadValue i) p.0))
good_values b i (suc n) e (suc j) h =
    let p = then_done (when (bad_value (message_value b i)) (BadValue i)) (values_answer b (suc i) n) e in
    let same : suc i + j ≡ i + suc j = omega arith in
    subst (λ (k : ℕ). GoodValue (message_value b k)) same (good_values b (suc i) n p.1 j (omega arith))

values_good : (b : List ℕ) (i n : ℕ) → ((j : ℕ) → i ≤ j → j < i + n → GoodValue (message_value b j)) → values_answer b i n ≡ Ok tt
values_good b i zero g = refl
values_good b i (suc n) g =
    done_then (when (bad_value (message_value b i)) (BadValue i)) (values_answer b (suc i) n)
    (done_when (bad_value (message_value b i)) (BadValue i) (not_bad (message_value b i) (g i (omega arith) (omega arith))))
    (values_good b (suc i) n (λ j l h. g j (omega arith) (omega arith)))

pub record Readable (b : List ℕ) : Type 0 where
  pub known : field_at b 0 version_width ≡ version
  pub whole : length b ≡ message_length (message_samples b)
  pub size : message_size b ≤ list_limit
  pub values : (i : ℕ) → i < message_samples b → GoodValue (message_value b i)
  pub padding : message_padding b ≡ 0

-- the tests by name, so that a chain of them can be taken apart and put together
module _ (b : List ℕ) where
  abbrev some : Answer
  some = when (eqb (length b) 0) WrongLength

  abbrev known : Answer
  known = when (not (eqb (field_at b 0 version_width) version)) UnknownVersion

  abbrev whole : Answer
  whole = when (not (eqb (length b) (message_length (message_samples b)))) WrongLength

  abbrev size : Answer
  size = when (ltb list_limit (message_size b)) LargeSize

  abbrev values : Answer
  values = values_answer b 0 (message_samples b)

  abbrev padding : Answer
  padding = when (not (eqb (message_padding b) 0)) PaddingSet

  pub readable : read_answer b ≡ Ok tt → Readable b
  unfolding read_answer
  readable e =
      let k = (then_done some (known then whole then size then values then padding) e).1 in
      let l = then_done known (whole then size then values then padding) k in
      let s = then_done whole (size then values then padding) l.1 in
      let v = then_done size (values then padding) s.1 in
      let p = then_done values padding v.1 in
      let equal : (x y : ℕ) (r : Refusal) → when (not (eqb x y)) r ≡ Ok tt → x ≡ y = λ x y r d. eqb-true x y (not-false (eqb x y) (when_done (not (eqb x y)) r d)) in
      record {
        known = equal (field_at b 0 version_width) version UnknownVersion l.0;
        whole = equal (length b) (message_length (message_samples b)) WrongLength s.0;
        size = ltb-false list_limit (message_size b) (when_done (ltb list_limit (message_size b)) LargeSize v.0);
        values = λ i h. subst (λ (j : ℕ). GoodValue (message_value b j)) (zero-add i) (good_values b 0 (message_samples b) p.0 i h);
        padding = equal (message_padding b) 0 PaddingSet p.1;
      }

  pub accepted : Readable b → read_answer b ≡ Ok tt
  unfolding read_answer
  accepted r =
      let equal : (x y : ℕ) (q : Refusal) → x ≡ y → when (not (eqb x y)) q ≡ Ok tt = λ x y q e. rw (eq-eqb x y e) in
      done_then some (known then whole then size then values then padding) (done_when (eqb (length b) 0) WrongLength (ne_eqb (length b) 0 (λ z. omega (arith, r.whole))))
      (done_then known (whole then size then values then padding) (equal (field_at b 0 version_width) version UnknownVersion r.known)
      (done_then whole (size then values then padding) (equal (length b) (message_length (message_samples b)) WrongLength r.whole)
      (done_then size (values then padding) (done_when (ltb list_limit (message_size b)) LargeSize (le-ltb list_limit (message_size b) r.size))
      (done_then values padding (values_good b 0 (message_samples b) (λ j l h. r.values j (omega arith))) (equal (message_padding b) 0 PaddingSet r.padding)))))

-- the fields of a message are what they were packed from
fields_below : (s : Sketch) → Below 2 (fields s)
unfolding fields
fields_below s =
    below_append 2 (bits version_width version ++ bits plan_width s.plan ++ bits size_width s.size) (bits_of_all value_width (take (samples s.plan) s.values))
    (below_append 2 (bits version_width version ++ bits plan_width s.plan) (bits size_width s.size)
    (below_append 2 (bits version_width version) (bits plan_width s.plan) (bits_below version_width version) (bits_below plan_width s.plan)) (bits_below size_width s.size))
    (all_below value_width (take (samples s.plan) s.values))

fields_short : (s : Sketch) → length (fields s) ≤ value_at (samples s.plan)
unfolding fields
fields_short s = omega (arith, all_length value_width (take (samples s.plan) s.values), length-take (samples s.plan) s.values)

pub length_message : (s : Sketch) → length (message s) ≡ message_length (samples s.plan)
unfolding message
length_message s = bytes_length (message_length (samples s.plan)) (fields s)

pub below_message : (s : Sketch) → Below 256 (message s)
unfolding message
below_message s = bytes_below (message_length (samples s.plan)) (fields s) (fields_below s)

pub message_field : (s : Sketch) (at w : ℕ) → field_at (message s) at w ≡ number w (drop at (fields s))
unfolding message
message_field s = field_bytes (message_length (samples s.plan)) (fields s) (fields_below s) (omega (arith, fields_short s))

message_plan_lem : (s : Sketch) → s.plan < plans → message_plan (message s) ≡ s.plan
unfolding fields
message_plan_lem s h = message_field s plan_at plan_width ∙ number_self plan_width s.plan (bits size_width s.size ++ bits_of_all value_width (take (samples s.plan) s.values)) h

message_size_lem : (s : Sketch) → s.size ≤ list_limit → message_size (message s) ≡ s.size
unfolding fields
message_size_lem s h = message_field s size_at size_width ∙ number_self size_width s.size (bits_of_all value_width (take (samples s.plan) s.values)) (omega arith)

message_value_lem : (s : Sketch) → WellFormed s → (i : ℕ) → i < samples s.plan → message_value (message s) i ≡ get_or s.values i 0
unfolding fields
message_value_lem s w i h =
    let m : ℕ = samples s.plan in
    let there : i < length (take m s.values) = omega (arith, length-take m s.values, w.count, samples_most s.plan) in
    let fits : get_or s.values i 0 < 2 ^ value_width = omega (arith, w.high i h) in
    message_field s (value_at i) value_width ∙ ap (number value_width) (sym (drop-drop (value_width * i) (value_at 0) (fields s)))
    ∙ all_number value_width i (take m s.values) there
    ∙ ap (λ (v : ℕ). v % 2 ^ value_width) (get_or-take m s.values i 0 h) ∙ mod-eq_of_lt fits

message_padding_lem : (s : Sketch) (w : ℕ) → field_at (message s) (value_at (samples s.plan)) w ≡ 0
message_padding_lem s w = message_field s (value_at (samples s.plan)) w ∙ ap (number w) (drop_of_length-le (fields s) (fields_short s)) ∙ number_none w

message_readable : (s : Sketch) → WellFormed s → Readable (message s)
unfolding fields
message_readable s w =
    let b = message s in
    let same : message_samples b ≡ samples s.plan = ap samples (message_plan_lem s w.plan) in
    record {
      known = message_field s 0 version_width;
      whole = length_message s ∙ ap message_length (sym same);
      size = rw (message_size_lem s w.size) w.size;
      values = λ i h. let l : i < samples s.plan = omega arith in subst GoodValue (sym (message_value_lem s w i l)) (w.low i l, w.high i l);
      padding = ap (λ (m : ℕ). field_at b (value_at m) (8 * length b - value_at m)) same ∙ message_padding_lem s (8 * length b - value_at (samples s.plan));
    }

-- below m a slot has its value, and from m on 0
slots_self : (s : Sketch) → WellFormed s → (f : ℕ → ℕ) → ((i : ℕ) → i < samples s.plan → f i ≡ get_or s.values i 0) → slots (samples s.plan) f (λ _. 0) ≡ s.values
slots_self s w f h =
    let m : ℕ = samples s.plan in
    tabulate_ext most_samples (λ i. cond (ltb i m) (f i) 0) (λ i. get_or s.values i 0)
    (λ i l. ⊎_elim (λ z. rw (lt-ltb i m (omega arith)) (h i (omega arith))) (λ p. rw (le-ltb i m (omega arith)) (sym (w.rest i (omega arith) l))) (eq-zero-or-pos (suc i - m)))
    ∙ ap (λ (n : ℕ). tabulate n (λ i. get_or s.values i 0)) (sym w.count) ∙ tabulate_self s.values 0

pub message_sketch : (s : Sketch) → WellFormed s → sketch_in (message s) ≡ s
message_sketch s w =
    let b = message s in
    ap₂ (λ (p z : ℕ). sketch_from p z (slots (samples p) (message_value b) (λ _. 0))) (message_plan_lem s w.plan) (message_size_lem s w.size)
    ∙ ap (sketch_from s.plan s.size) (slots_self s w (message_value b) (message_value_lem s w))

-- reading b succeeds and gives s
pub record Reads (b : List ℕ) (s : Sketch) : Type 0 where
  pub done : read_answer b ≡ Ok tt
  pub gives : read_result b ≡ s

pub result_in : (b : List ℕ) → read_answer b ≡ Ok tt → read_result b ≡ sketch_in b
result_in b e = ap (λ a. given a (sketch_in b) blank) e

pub read_message : (s : Sketch) → WellFormed s → Reads (message s) s
read_message s w =
    let done = accepted (message s) (message_readable s w) in
    record { done = done; gives = result_in (message s) done ∙ message_sketch s w }

take_tabulate : (m n : ℕ) (f : ℕ → ℕ) → m ≤ n → take m (tabulate n f) ≡ tabulate m f
unfolding tabulate
take_tabulate zero n f h = refl
take_tabulate (suc m) zero f h = absurd (omega arith)
take_tabulate (suc m) (suc n) f h = ap (λ l. f 0 ∷ l) (take_tabulate m n (λ i. f (suc i)) (omega arith))

-- the values that stand in a message are the numbers of its value bits
values_blocks : (b : List ℕ) → take (message_samples b) (sketch_in b).values ≡ blocks value_width (message_samples b) (drop (value_at 0) (bits_of_all 8 b))
unfolding field_at blocks
values_blocks b =
    let m : ℕ = message_samples b in
    take_tabulate m most_samples (λ i. cond (ltb i m) (message_value b i) 0) (samples_most (message_plan b))
    ∙ tabulate_ext m (λ i. cond (ltb i m) (message_value b i) 0) (λ i. number value_width (drop (value_width * i) (drop (value_at 0) (bits_of_all 8 b))))
    (λ i h. rw (lt-ltb i m h) (ap (number value_width) (sym (drop-drop (value_width * i) (value_at 0) (bits_of_all 8 b)))))

field_bits_lem : (b : List ℕ) (at w : ℕ) → bits w (field_at b at w) ≡ padded w (drop at (bits_of_all 8 b))
unfolding field_at
field_bits_lem b at w = bits_number w (drop at (bits_of_all 8 b)) (below_drop 2 at (bits_of_all 8 b) (all_below 8 b))

-- the fields of the sketch in a message are the bits of the message, but for the padding
fields_read : (b : List ℕ) → Readable b → fields (sketch_in b) ≡ padded (value_at (message_samples b)) (bits_of_all 8 b)
unfolding fields
fields_read b r =
    let m : ℕ = message_samples b in
    let bs = bits_of_all 8 b in
    let total : version_width + (plan_width + (size_width + value_width * m)) ≡ value_at m = omega arith in
    let first : bits version_width version ≡ padded version_width bs = ap (bits version_width) (sym r.known) ∙ field_bits_lem b 0 version_width in
    let last : bits_of_all value_width (take m (sketch_in b).values) ≡ padded (value_width * m) (drop (value_at 0) bs) =
    ap (bits_of_all value_width) (values_blocks b) ∙ all_blocks value_width m (drop (value_at 0) bs) (below_drop 2 (value_at 0) bs (all_below 8 b)) in
    ap₂ (λ x y. x ++ y) first (ap₂ (λ x y. x ++ y) (field_bits_lem b plan_at plan_width) (ap₂ (λ x y. x ++ y) (field_bits_lem b size_at size_width) last))
    ∙ sym (ap (λ (n : ℕ). padded n bs) (sym total)
    ∙ padded_part 0 version_width (plan_width + (size_width + value_width * m)) bs
    ∙ ap (λ l. padded version_width bs ++ l) (padded_part plan_at plan_width (size_width + value_width * m) bs
    ∙ ap (λ l. padded plan_width (drop plan_at bs) ++ l) (padded_part size_at size_width (value_width * m) bs)))

message_bits : (b : List ℕ) → Readable b → bits_of_all 8 (message (sketch_in b)) ≡ bits_of_all 8 b
unfolding message field_at
message_bits b r =
    let m : ℕ = message_samples b in
    let bs = bits_of_all 8 b in
    let rest : ℕ = 8 * length b - value_at m in
    let total : 8 * message_length m ≡ value_at m + rest = omega (arith, r.whole) in
    let all : value_at m + rest ≡ length bs = omega (arith, r.whole, all_length 8 b) in
    all_bytes (message_length m) (fields (sketch_in b)) (fields_below (sketch_in b))
    ∙ ap₂ padded total (fields_read b r)
    ∙ padded_again (value_at m) rest bs (all_below 8 b) r.padding
    ∙ ap (λ (n : ℕ). padded n bs) all ∙ padded_self bs

pub read_formed : (b : List ℕ) → Readable b → WellFormed (sketch_in b)
read_formed b r =
    let m : ℕ = message_samples b in
    let at : (i : ℕ) → i < m → get_or (sketch_in b).values i 0 ≡ message_value b i =
    λ i h. slots_at m (message_value b) (λ _. 0) i (omega (arith, samples_most (message_plan b))) ∙ ap (λ t. cond t (message_value b i) 0) (lt-ltb i m h) in
    record {
      plan = field_below b plan_at plan_width;
      size = r.size;
      count = slots_length m (message_value b) (λ _. 0);
      low = λ i h. rw (at i h) (r.values i h).0;
      high = λ i h. rw (at i h) (r.values i h).1;
      rest = λ i h l. slots_at m (message_value b) (λ _. 0) i l ∙ ap (λ t. cond t (message_value b i) 0) (le-ltb i m h);
    }

pub read_bytes : (b : List ℕ) → Below 256 b → Readable b → message (sketch_in b) ≡ b
read_bytes b f r =
    sym (bytes_all (message (sketch_in b)) (below_message (sketch_in b)))
    ∙ ap₂ bytes (length_message (sketch_in b) ∙ sym r.whole) (message_bits b r) ∙ bytes_all b f

pub message_read : (b : List ℕ) → Below 256 b → read_answer b ≡ Ok tt → WellFormed (read_result b) × (message (read_result b) ≡ b)
message_read b f e = let r = readable b e in subst (λ s. WellFormed s × (message s ≡ b)) (sym (result_in b e)) (read_formed b r, read_bytes b f r)

pub one_message : (s t : Sketch) → WellFormed s → WellFormed t → message s ≡ message t → s ≡ t
one_message s t v w e = sym (message_sketch s v) ∙ ap sketch_in e ∙ message_sketch t w

write_done : (s : Sketch) → WellFormed s → (room : ℕ) → message_length (samples s.plan) ≤ room → write_answer s room ≡ Ok tt
unfolding write_answer
write_done s w room h = rw (tested s w, le-ltb room (message_length (samples s.plan)) h)

pub read_written : (s : Sketch) → WellFormed s → (buffer : List ℕ) → message_length (samples s.plan) ≤ length buffer
    → (write_answer s (length buffer) ≡ Ok tt) × Reads (take (write_length s (length buffer)) (write_buffer s buffer)) s
read_written s w buffer h =
    let done = write_done s w (length buffer) h in
    let m : ℕ = samples s.plan in
    let after = drop (length (message s)) buffer in
    let same : take (write_length s (length buffer)) (write_buffer s buffer) ≡ message s =
    ap (λ a. take (given a (message_length m) 0) (given a (message s ++ after) buffer)) done ∙ take_at (message s) after (message_length m) (length_message s) in
    (done, subst (λ b. Reads b s) (sym same) (read_message s w))

pub lengths : map message_length sample_counts ≡ 5 ∷ 8 ∷ 10 ∷ 12 ∷ 16 ∷ 20 ∷ 25 ∷ 29 ∷ 37 ∷ 46 ∷ 54 ∷ 63 ∷ 71 ∷ 88 ∷ 105 ∷ 139 ∷ []
lengths = refl

-- a message of two samples, both 1, with seven bits of padding
abbrev pub example : List ℕ
example = 17 ∷ 0 ∷ 0 ∷ 0 ∷ 1 ∷ 0 ∷ 0 ∷ 128 ∷ []

pub example_read : read_result example ≡ record { plan = 1; size = 0; values = 1 ∷ 1 ∷ replicate 62 0 }
unfolding tabulate field_at read_answer
example_read = refl

-- nothing, version 2, plan 0, size 16,385, a value 0, a padding bit
abbrev pub next_to_example : List (List ℕ)
next_to_example =
    [] ∷ (33 ∷ drop 1 example) ∷ (16 ∷ drop 1 example) ∷ (17 ∷ 128 ∷ 2 ∷ drop 3 example) ∷ (take 4 example ++ 0 ∷ drop 5 example) ∷ (take 7 example ++ 129 ∷ []) ∷ []

pub misses : map (λ b. number_of (read_answer b)) next_to_example ≡ 7 ∷ 8 ∷ 7 ∷ 9 ∷ 10 ∷ 11 ∷ []
unfolding field_at read_answer
misses = refl
