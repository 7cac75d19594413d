-- The running sketch is the sketch of what was added and not removed.
--
--   updated_formed         an update that is accepted leaves a well-formed sketch: added_formed, removed_formed
--   update_undone          the other change undoes it: remove_added, add_removed
--   values_snoc            the values of a set with one key more
--   add_one_more           adding a key to a sketch of keys gives the sketch of the keys and that one
--   remove_last            removing it gives the sketch back; remove_any: so does removing any key of a sketch, wherever it stands among them
--   add_all, add_all_lem        adding the keys of a legal list, one by one, gives its sketch
--
-- Assumes nothing.
use Rattle.std.specs.Prelude.{◌≡◌, refl, ℕ, suc, ◌+◌, ◌%◌, ◌≤◌, ◌<◌, length, get_or}
use Rattle.std.proofs.Common.{sym, ap, ap₂, ◌∙◌, ⊎_elim, mod-eq_of_lt, mul-one, arith, length-append}
use mathlib.Core.List.Memᴰ
use mathlib.Core.List.{List, [], ◌∷◌, ◌++◌, append_assoc, append-nil, Permᴰ}
use Rattle.algebra.specs.Sets.{◌∈◌}
use Rattle.algebra.specs.Arithmetic.{sub_of, mul_of, mul_of_assoc, mul_of_comm, product_of_snoc}
use Rattle.rules.specs.Numbers.{modulus, point, LegalKey, most_samples, list_limit, plans, samples, LegalList}
use Rattle.rules.specs.Sketches.{sketch_of, WellFormed, value, values_of}
use Rattle.rules.specs.Calls.{add_result, remove_result}
use Rattle.rules.specs.declared.Sketch.{Sketch}
use Rattle.rules.specs.Filled.{sketch_from, slot_low, slot_high, slots_ext, slots_same}
use Rattle.sketch.specs.Order.{sketch_perm}
use Rattle.sketch.specs.Formed.{sketch_formed}
use Rattle.update.specs.Changes.{factor_of, multiplied, MayChange, size_after, changed_by}
use Rattle.update.specs.Updates.{update_result, Accepted, changes}
use Rattle.update.specs.Accepted.{factors_undo, changed_formed}
use Rattle.update.specs.declared.Change.{Change}
use Rattle.update.specs.declared.Change.TheVariants.{Add, Remove}

pub updated_formed : (change : Change) (s : Sketch) (k : ℕ) → Accepted change s k → WellFormed (update_result change s k)
updated_formed change s k a = rw (changes change s k a) (changed_formed change s k a)

pub added_formed : (s : Sketch) (k : ℕ) → WellFormed s → LegalKey k → s.size < list_limit → WellFormed (add_result s k)
added_formed s k w l h = updated_formed Add s k (record { sketch = w; key = l; size = h })

pub removed_formed : (s : Sketch) (k : ℕ) → WellFormed s → LegalKey k → 0 < s.size → WellFormed (remove_result s k)
removed_formed s k w l h = updated_formed Remove s k (record { sketch = w; key = l; size = h })

-- values that are multiplied by factors, and then by factors that undo those, are as they were
undone : (m : ℕ) (f g : ℕ → ℕ) (l : List ℕ) → length l ≡ most_samples → ((i : ℕ) → i < m → get_or l i 0 < modulus) → ((i : ℕ) → i < most_samples → mul_of modulus (f i) (g i) ≡ 1) → multiplied m g (multiplied m f l) ≡ l
undone m f g l count below undo =
    slots_ext m (λ i. mul_of modulus (get_or (multiplied m f l) i 0) (g i)) (λ i. get_or l i 0) (λ i. get_or (multiplied m f l) i 0) (λ i. get_or l i 0) low high
    ∙ slots_same m l count
  where
    low : (i : ℕ) → i < m → i < most_samples → mul_of modulus (get_or (multiplied m f l) i 0) (g i) ≡ get_or l i 0
    low i h b =
        ap (λ (v : ℕ). mul_of modulus v (g i)) (slot_low m (λ j. mul_of modulus (get_or l j 0) (f j)) (λ j. get_or l j 0) i h b)
        ∙ mul_of_assoc modulus (get_or l i 0) (f i) (g i) ∙ ap (mul_of modulus (get_or l i 0)) (undo i b)
        ∙ ap (λ (v : ℕ). v % modulus) (mul-one (get_or l i 0)) ∙ mod-eq_of_lt (below i h)

    high : (i : ℕ) → m ≤ i → i < most_samples → get_or (multiplied m f l) i 0 ≡ get_or l i 0
    high i h b = slot_high m (λ j. mul_of modulus (get_or l j 0) (f j)) (λ j. get_or l j 0) i h b

-- the change that undoes a change: its factors, its size, and that it is accepted
abbrev undoing : Change → Change
undoing Add = Remove
undoing Remove = Add

factors_cancel : (change : Change) (k i : ℕ) → LegalKey k → i < most_samples → mul_of modulus (factor_of change k i) (factor_of (undoing change) k i) ≡ 1
factors_cancel Add k i l b = factors_undo k i l b
factors_cancel Remove k i l b = mul_of_comm modulus (factor_of Remove k i) (factor_of Add k i) ∙ factors_undo k i l b

size_back : (change : Change) (size : ℕ) → MayChange change size → size_after (undoing change) (size_after change size) ≡ size
size_back Add size h = omega arith
size_back Remove size h = omega arith

may_undo : (change : Change) (size : ℕ) → size ≤ list_limit → MayChange change size → MayChange (undoing change) (size_after change size)
may_undo Add size b h = omega arith
may_undo Remove size b h = omega arith

changed_back : (change : Change) (s : Sketch) (k : ℕ) → Accepted change s k → changed_by (undoing change) (changed_by change s k) k ≡ s
changed_back change s k a =
    ap₂ (sketch_from s.plan) (size_back change s.size a.size)
    (undone (samples s.plan) (factor_of change k) (factor_of (undoing change) k) s.values a.sketch.count a.sketch.high (λ i b. factors_cancel change k i a.key b))

pub update_undone : (change : Change) (s : Sketch) (k : ℕ) → Accepted change s k → update_result (undoing change) (update_result change s k) k ≡ s
update_undone change s k a =
    ap (λ (t : Sketch). update_result (undoing change) t k) (changes change s k a)
    ∙ changes (undoing change) (changed_by change s k) k (record { sketch = changed_formed change s k a; key = a.key; size = may_undo change s.size a.sketch.size a.size })
    ∙ changed_back change s k a

pub remove_added : (s : Sketch) (k : ℕ) → WellFormed s → LegalKey k → s.size < list_limit → remove_result (add_result s k) k ≡ s
remove_added s k w l h = update_undone Add s k (record { sketch = w; key = l; size = h })

pub add_removed : (s : Sketch) (k : ℕ) → WellFormed s → LegalKey k → 0 < s.size → add_result (remove_result s k) k ≡ s
add_removed s k w l h = update_undone Remove s k (record { sketch = w; key = l; size = h })

pub values_snoc : (m : ℕ) (ks : List ℕ) (k : ℕ) → multiplied m (factor_of Add k) (values_of m ks) ≡ values_of m (ks ++ k ∷ [])
values_snoc m ks k =
    slots_ext m (λ i. mul_of modulus (get_or (values_of m ks) i 0) (sub_of modulus (point (suc i)) k)) (λ i. value (ks ++ k ∷ []) (point (suc i))) (λ i. get_or (values_of m ks) i 0) (λ _. 0)
    (λ i l h. ap (λ (v : ℕ). mul_of modulus v (sub_of modulus (point (suc i)) k)) (slot_low m (λ j. value ks (point (suc j))) (λ _. 0) i l h) ∙ sym (product_of_snoc modulus ks k (point (suc i))))
    (λ i l h. slot_high m (λ j. value ks (point (suc j))) (λ _. 0) i l h)

pub add_one_more : (plan : ℕ) (ks : List ℕ) (k : ℕ) → plan < plans → ((j : ℕ) → j ∈ ks → LegalKey j) → LegalKey k → length ks < list_limit → add_result (sketch_of plan ks) k ≡ sketch_of plan (ks ++ k ∷ [])
add_one_more plan ks k p legal l h =
    changes Add (sketch_of plan ks) k (record { sketch = sketch_formed plan ks p legal (omega arith); key = l; size = h })
    ∙ ap₂ (sketch_from plan) (sym (length-append ks (k ∷ []))) (values_snoc (samples plan) ks k)

pub remove_last : (plan : ℕ) (ks : List ℕ) (k : ℕ) → plan < plans → ((j : ℕ) → j ∈ ks → LegalKey j) → LegalKey k → length ks < list_limit → remove_result (sketch_of plan (ks ++ k ∷ [])) k ≡ sketch_of plan ks
remove_last plan ks k p legal l h =
    ap (λ (t : Sketch). remove_result t k) (sym (add_one_more plan ks k p legal l h))
    ∙ remove_added (sketch_of plan ks) k (sketch_formed plan ks p legal (omega arith)) l h

pub remove_any : (plan : ℕ) {ks rest : List ℕ} (k : ℕ) → Permᴰ ks (rest ++ k ∷ []) → plan < plans → ((j : ℕ) → j ∈ rest → LegalKey j) → LegalKey k → length rest < list_limit → remove_result (sketch_of plan ks) k ≡ sketch_of plan rest
remove_any plan {rest = rest} k d p legal l h = ap (λ (t : Sketch). remove_result t k) (sketch_perm plan d) ∙ remove_last plan rest k p legal l h

abbrev pub add_all : Sketch → List ℕ → Sketch
add_all s [] = s
add_all s (k ∷ ks) = add_all (add_result s k) ks

-- from any keys on
add_rest : (plan : ℕ) (done ks : List ℕ) → plan < plans → ((j : ℕ) → j ∈ done → LegalKey j) → ((j : ℕ) → j ∈ ks → LegalKey j) → length done + length ks ≤ list_limit → add_all (sketch_of plan done) ks ≡ sketch_of plan (done ++ ks)
add_rest plan done [] p before after h = ap (sketch_of plan) (sym (append-nil done))
add_rest plan done (k ∷ ks) p before after h =
    ap (λ (t : Sketch). add_all t ks) (add_one_more plan done k p before (after k (Memᴰ.head refl)) (omega arith))
    ∙ add_rest plan (done ++ k ∷ []) ks p
    (λ j m. ⊎_elim (before j) (λ o. after j (Memᴰ.head (Memᴰ.eq_of_singleton o))) (Memᴰ.append_cases done m)) (λ j m. after j (Memᴰ.tail m))
    (omega (arith, length-append done (k ∷ [])))
    ∙ ap (sketch_of plan) (append_assoc done (k ∷ []) ks)

pub add_all_lem : (plan : ℕ) (ks : List ℕ) → plan < plans → LegalList ks → add_all (sketch_of plan []) ks ≡ sketch_of plan ks
add_all_lem plan ks p l = add_rest plan [] ks p (λ j m. absurd (Memᴰ.not-nil m)) l.keys.legal (omega (arith, l.short))
