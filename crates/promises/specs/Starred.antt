-- The thirteen starred cases of document 01, "Values to hold against it", as one list with one claim over it.
--
--   Case               a case: its number and its claims
--   starred            the list: each case with its number and what it claims
--   ready_7            the sketch and the list of case 7 are ready
--   starred_hold       every claim of every case holds
--
-- Assumes nothing.
use Rattle.std.specs.Prelude.{◌≡◌, refl, Bool, true, false, not, ◌||◌, List, [], ◌∷◌, ℕ, zero, suc, ◌+◌, ◌-◌, ◌%◌, ◌<◌, eqb, length, get_or}
use Rattle.std.proofs.Common.{sym, ap, ap₂, ◌∙◌, ⊎_elim, arith, eqb-true, eq-eqb, lit≤, lit<, add-one}
use mathlib.Core.List.Memᴰ
use Rattle.algebra.specs.Arithmetic.{mul_of, product_of}
use Rattle.algebra.specs.Tabulate.{tabulate}
use Rattle.algebra.specs.Ring.{sub_eq_zero, add_neg}
use Rattle.algebra.specs.Field.{mul_eq_zero}
use Rattle.algebra.specs.Solver.{◌⊕◌, ◌⊝◌, ◌⊗◌, ⊖, #0, #1, by_ring}
use Rattle.algebra.specs.Residues.{of_add, of_neg}
use Rattle.rules.specs.Numbers.{modulus, modulus_prime, key_limit, point, LegalKey}
use Rattle.rules.specs.Sketches.{value, well_formed}
use Rattle.rules.specs.Calls.{list_answer}
use Rattle.rules.specs.Legal.{keys_legal}
use Rattle.rules.specs.Cases.{sketch_1, sketch_2, difference_7, difference_9, difference_12, case_1, case_2_value, case_2, case_3_value, case_3, case_4_first, case_4_last, case_4_refused, case_5, case_6}
use Rattle.rules.specs.Differences.{Difference}
use Rattle.rules.specs.Reconciling.{None}
use Rattle.gap.specs.Gap.{gap_eq}
use Rattle.residue.specs.Field.{Fp, 𝓕, res, zero_is, one_is, eq_zero_res}
use Rattle.interpolation.specs.Interpolated.{sample_at}
use Rattle.residue.specs.Members.{Small, res_inj}
use Rattle.search.specs.InField.{keys_small, difference_fits}
use Rattle.promises.specs.Claims.{Claim, value_is, message_is, values_are, list_refused, tells, refuses_13, Holds, Ready, told_holds, none_holds, All, none, ◌also◌, below, no_key}
open 𝓕 use {ring as 𝓡}
open 𝓡 use {add, mul, zero as 𝟘, one as 𝟙, neg}

pub record Case : Type 0 where
  pub number : ℕ
  pub claims : List Claim

abbrev case : ℕ → List Claim → Case
case n l = record { number = n; claims = l }

abbrev pub starred : List Case
starred =
    case 1 (message_is 0 [] (16 ∷ 0 ∷ 0 ∷ 0 ∷ 1 ∷ []) ∷ [])
    ∷ case 2 (value_is (0 ∷ []) 1 65536 ∷ message_is 0 (0 ∷ []) (16 ∷ 0 ∷ 3 ∷ 0 ∷ 0 ∷ []) ∷ [])
    ∷ case 3 (value_is (1 ∷ 2 ∷ []) 1 6 ∷ message_is 0 (1 ∷ 2 ∷ []) (16 ∷ 0 ∷ 4 ∷ 0 ∷ 6 ∷ []) ∷ [])
    ∷ case 4 (value_is (65472 ∷ []) 1 64 ∷ value_is (65472 ∷ []) 64 1 ∷ list_refused 0 (65473 ∷ []) 3 0 ∷ [])
    ∷ case 5 (value_is (255 ∷ 511 ∷ []) 1 65535 ∷ [])
    ∷ case 6 (values_are 3 (1 ∷ 3 ∷ []) (8 ∷ 15 ∷ 24 ∷ 35 ∷ []) ∷ [])
    ∷ case 7 (values_are 1 (3 ∷ []) (65533 ∷ 65532 ∷ []) ∷ tells (sketch_2 1 65533 65532) (1 ∷ []) (3 ∷ []) (1 ∷ []) ∷ [])
    ∷ case 8 (refuses_13 (sketch_1 1 65533) (1 ∷ []) ∷ [])
    ∷ case 9 (tells (sketch_1 1 64) [] (65472 ∷ []) [] ∷ refuses_13 (sketch_1 1 63) [] ∷ [])
    ∷ case 10 (refuses_13 (sketch_2 2 4 9) [] ∷ [])
    ∷ case 11 (refuses_13 (sketch_1 2 4) (1 ∷ []) ∷ [])
    ∷ case 12 (tells (sketch_1 0 1) (1 ∷ []) [] (1 ∷ []) ∷ refuses_13 (sketch_1 0 2) (1 ∷ []) ∷ [])
    ∷ case 15 (refuses_13 (sketch_2 0 1 2) [] ∷ [])
    ∷ []

-- the counts of a difference, as naturals
count : {m n : ℕ} {v home theirs ours : List ℕ} → Difference m n v home theirs ours → length theirs + length home ≡ n + length ours
count {n = n} {home = home} {theirs = theirs} {ours = ours} d = gap_eq (length theirs) (length ours) n (length home) d.gap

-- 7. "Home {1}, sketch of {3}, m = 2 (values 65,533 and 65,532): theirs 3, ours 1."
pub ready_7 : Ready (sketch_2 1 65533 65532) (1 ∷ [])
unfolding well_formed list_answer
ready_7 = record { whole = refl; listed = refl; low = lit≤ tt; high = lit≤ tt }

-- 8. "Home {1}, n = 1, m = 1, value 65,533: refused by 13." Only two empty lists have the counts.
ready_8 : Ready (sketch_1 1 65533) (1 ∷ [])
unfolding well_formed list_answer
ready_8 = record { whole = refl; listed = refl; low = lit≤ tt; high = lit≤ tt }

none_8 : None (sketch_1 1 65533) (1 ∷ [])
unfolding product_of
none_8 [] [] d = let e : ◌≡◌ {A = ℕ} 65535 65533 = d.agrees 0 (lit< tt) in omega arith
none_8 [] (k ∷ ours) d = omega (arith, count d, d.bound)
none_8 (k ∷ theirs) ours d = omega (arith, count d, d.bound)

-- 9. "Home {}, n = 1, m = 1: value 64 gives theirs 65,472; value 63 is refused by 13, its root 65,473 being no key."
ready_9 : (v : ℕ) → well_formed (sketch_1 1 v) ≡ true → Ready (sketch_1 1 v) []
unfolding list_answer
ready_9 v w = record { whole = w; listed = refl; low = lit≤ tt; high = lit≤ tt }

-- where the equation at point 1 holds of no legal key but those that `but` names, the key that it holds of is one of them
only : (f : ℕ → ℕ) (v : ℕ) (but : ℕ → Bool) → below (λ k. not (eqb (f k) v) || but k) (suc key_limit) ≡ true → (k : ℕ) → LegalKey k → f k ≡ v → but k ≡ true
only f v but test k l e = go (eqb (f k) v) (eq-eqb (f k) v e) (no_key (λ k. not (eqb (f k) v) || but k) test k l)
  where
    go : (b : Bool) → b ≡ true → not b || but k ≡ true → but k ≡ true
    go true e h = h
    go false e h = cc

-- the left side of the equation for theirs {k}
abbrev one_key : List ℕ → ℕ → ℕ
one_key home k = mul_of modulus (value (k ∷ []) (point 1)) (value home (point 1))

none_9 : None (sketch_1 1 63) []
unfolding product_of below
none_9 [] ours d = omega (arith, count d, d.bound)
none_9 (k ∷ []) [] d = let z : false ≡ true = only (one_key []) 63 (λ _. false) refl k (d.theirs_keys.legal k (Memᴰ.head refl)) (d.agrees 0 (lit< tt)) in let e : ◌≡◌ {A = ℕ} 0 1 = cc in omega arith
none_9 (k ∷ []) (j ∷ ours) d = omega (arith, count d, d.bound)
none_9 (k ∷ j ∷ theirs) ours d = omega (arith, count d, d.bound)

-- 11. "Home {1}, n = 2, m = 1, value 4: 13, the root is at home."
ready_11 : Ready (sketch_1 2 4) (1 ∷ [])
unfolding well_formed list_answer
ready_11 = record { whole = refl; listed = refl; low = lit≤ tt; high = lit≤ tt }

none_11 : None (sketch_1 2 4) (1 ∷ [])
unfolding product_of below
none_11 [] ours d = omega (arith, count d, d.bound)
none_11 (k ∷ []) [] d = d.new k (Memᴰ.head refl) (Memᴰ.head (eqb-true k 1 (only (one_key (1 ∷ [])) 4 (λ k. eqb k 1) refl k (d.theirs_keys.legal k (Memᴰ.head refl)) (d.agrees 0 (lit< tt)))))
none_11 (k ∷ []) (j ∷ ours) d = omega (arith, count d, d.bound)
none_11 (k ∷ j ∷ theirs) ours d = omega (arith, count d, d.bound)

-- 12. "Home {1}, n = 0, m = 1: value 1 gives ours 1; value 2 is 13, its root 0 is not at home."
ready_12 : (v : ℕ) → well_formed (sketch_1 0 v) ≡ true → Ready (sketch_1 0 v) (1 ∷ [])
unfolding list_answer
ready_12 v w = record { whole = w; listed = refl; low = lit≤ tt; high = lit≤ tt }

none_12 : None (sketch_1 0 2) (1 ∷ [])
unfolding product_of
none_12 (k ∷ theirs) ours d = omega (arith, count d, d.bound)
none_12 [] [] d = omega (arith, count d)
none_12 [] (k ∷ []) d =
    let one : k ≡ 1 = Memᴰ.eq_of_singleton (d.held k (Memᴰ.head refl)) in
    let e : ◌≡◌ {A = ℕ} 65535 65533 = d.agrees 0 (lit< tt) ∙ ap (λ j. mul_of modulus 2 (value (j ∷ []) (point 1))) one in
    omega arith
none_12 [] (k ∷ j ∷ ours) d = omega (arith, count d, d.bound)

-- 15. "Home {}, n = 0, m = 2, values 1 and 2: 13. .. divided out it says \"no difference\", which is false at point 2."
ready_15 : Ready (sketch_2 0 1 2) []
unfolding well_formed list_answer
ready_15 = record { whole = refl; listed = refl; low = lit≤ tt; high = lit≤ tt }

none_15 : None (sketch_2 0 1 2) []
unfolding product_of
none_15 theirs (k ∷ ours) d = Memᴰ.not-nil (d.held k (Memᴰ.head refl))
none_15 [] [] d = let e : ◌≡◌ {A = ℕ} 1 2 = d.agrees 1 (lit< tt) in omega arith
none_15 (k ∷ theirs) [] d = omega (arith, count d)

-- 10. "Home {}, n = 2, m = 2, values 4 and 9: 13, a root twice." In the field (x − 1)(y − 1) is 3·4 − 2·9 + 6, which is 0.
ready_10 : Ready (sketch_2 2 4 9) []
unfolding well_formed list_answer
ready_10 = record { whole = refl; listed = refl; low = lit≤ tt; high = lit≤ tt }

-- 1, 2, .. in the field
abbrev nth : ℕ → Fp
nth zero = 𝟘
nth (suc n) = add (nth n) 𝟙

nth_is : (n : ℕ) → res n ≡ nth n
nth_is zero = zero_is
nth_is (suc n) = ap res (sym (add-one n)) ∙ of_add modulus_prime n 1 ∙ ap₂ add (nth_is n) one_is

-- sample point j, for small j, is −j
point_is : (j : ℕ) → res (modulus - j % modulus) ≡ neg (nth j)
point_is j = of_neg modulus_prime j ∙ ap neg (nth_is j)

twice : (x y : Fp) → mul (add (neg (nth 1)) (neg x)) (add (neg (nth 1)) (neg y)) ≡ nth 4 → mul (add (neg (nth 2)) (neg x)) (add (neg (nth 2)) (neg y)) ≡ nth 9 → mul (add x (neg 𝟙)) (add y (neg 𝟙)) ≡ 𝟘
twice x y e f =
    by_ring 𝓡 2
    (λ x y. (
      (x ⊝ #1) ⊗ (y ⊝ #1),
      (#1 ⊕ #1 ⊕ #1) ⊗ ((⊖ (#0 ⊕ #1) ⊝ x) ⊗ (⊖ (#0 ⊕ #1) ⊝ y)) ⊝ (#1 ⊕ #1) ⊗ ((⊖ (#0 ⊕ #1 ⊕ #1) ⊝ x) ⊗ (⊖ (#0 ⊕ #1 ⊕ #1) ⊝ y)) ⊕ (#1 ⊕ #1 ⊕ #1 ⊕ #1 ⊕ #1 ⊕ #1),
    ))
    refl x y
    ∙ ap₂ (λ a b. add (add (mul (add (add 𝟙 𝟙) 𝟙) a) (neg (mul (add 𝟙 𝟙) b))) (add (add (add (add (add 𝟙 𝟙) 𝟙) 𝟙) 𝟙) 𝟙)) e f
    ∙ by_ring 𝓡 0 ((#1 ⊕ #1 ⊕ #1) ⊗ (#0 ⊕ #1 ⊕ #1 ⊕ #1 ⊕ #1) ⊝ (#1 ⊕ #1) ⊗ (#0 ⊕ #1 ⊕ #1 ⊕ #1 ⊕ #1 ⊕ #1 ⊕ #1 ⊕ #1 ⊕ #1 ⊕ #1) ⊕ (#1 ⊕ #1 ⊕ #1 ⊕ #1 ⊕ #1 ⊕ #1), #0) refl

-- where one of the two is 1, so is the other: 2·(y − 1) is (−1 − 1)·(−1 − y) − 4
other : (x y : Fp) → x ≡ 𝟙 → mul (add (neg (nth 1)) (neg x)) (add (neg (nth 1)) (neg y)) ≡ nth 4 → y ≡ 𝟙
other x y one e =
    ⊎_elim (λ z. absurd (two z)) (sub_eq_zero 𝓡 y 𝟙)
    (mul_eq_zero 𝓕 (nth 2) (add y (neg 𝟙))
    (by_ring 𝓡 1 (λ y. ((#0 ⊕ #1 ⊕ #1) ⊗ (y ⊝ #1), (⊖ (#0 ⊕ #1) ⊝ #1) ⊗ (⊖ (#0 ⊕ #1) ⊝ y) ⊝ (#0 ⊕ #1 ⊕ #1 ⊕ #1 ⊕ #1))) refl y
    ∙ ap (λ u. add (mul (add (neg (nth 1)) (neg u)) (add (neg (nth 1)) (neg y))) (neg (nth 4))) (sym one)
    ∙ ap (λ u. add u (neg (nth 4))) e ∙ add_neg 𝓡 (nth 4)))
  where
    two : nth 2 ≡ 𝟘 → ⊥
    two z = let e : ◌≡◌ {A = ℕ} 2 0 = eq_zero_res 2 (nth_is 2 ∙ z) in omega arith

-- so the two are equal
equal : (x y : Fp) → mul (add (neg (nth 1)) (neg x)) (add (neg (nth 1)) (neg y)) ≡ nth 4 → mul (add (neg (nth 2)) (neg x)) (add (neg (nth 2)) (neg y)) ≡ nth 9 → x ≡ y
equal x y e f =
    ⊎_elim (λ z. let one = sub_eq_zero 𝓡 x 𝟙 z in one ∙ sym (other x y one e))
    (λ z. let one = sub_eq_zero 𝓡 y 𝟙 z in other y x one (𝓡.mul_comm _ _ ∙ e) ∙ sym one)
    (mul_eq_zero 𝓕 (add x (neg 𝟙)) (add y (neg 𝟙)) (twice x y e f))

-- the equation of theirs {a, b} and ours {} at home {}, without its factors 1
plain : (e v x y : Fp) → mul (mul (add e (neg x)) (mul (add e (neg y)) 𝟙)) 𝟙 ≡ mul v 𝟙 → mul (add e (neg x)) (add e (neg y)) ≡ v
plain e v x y h =
    by_ring 𝓡 3 (λ e x y. ((e ⊝ x) ⊗ (e ⊝ y), ((e ⊝ x) ⊗ ((e ⊝ y) ⊗ #1)) ⊗ #1)) refl e x y ∙ h ∙ by_ring 𝓡 1 (λ v. (v ⊗ #1, v)) refl v

none_10 : None (sketch_2 2 4 9) []
none_10 theirs (k ∷ ours) d = Memᴰ.not-nil (d.held k (Memᴰ.head refl))
none_10 [] [] d = omega (arith, count d)
none_10 (a ∷ []) [] d = omega (arith, count d)
none_10 (a ∷ b ∷ j ∷ theirs) [] d = omega (arith, count d, d.bound)
none_10 (a ∷ b ∷ []) [] d = let same = res_inj a b (small a (Memᴰ.head refl)) (small b (Memᴰ.tail (Memᴰ.head refl))) (equal (res a) (res b) (at 0 1 4 (lit< tt) (point_is 1, refl)) (at 1 2 9 (lit< tt) (point_is 2, refl))) in
    let up = d.theirs_keys.ascending.0 b (Memᴰ.head refl) in omega arith
  where
    small : Small (a ∷ b ∷ [])
    small = keys_small (a ∷ b ∷ []) d.theirs_keys

    at : (i j v : ℕ) → i < 2 → (sample_at i ≡ neg (nth j)) × (get_or (sketch_2 2 4 9).values i 0 ≡ v) → mul (add (neg (nth j)) (neg (res a))) (add (neg (nth j)) (neg (res b))) ≡ nth v
    at i j v l e =
        ap (λ p. mul (add p (neg (res a))) (add p (neg (res b)))) (sym e.0)
        ∙ plain (sample_at i) (res (get_or (sketch_2 2 4 9).values i 0)) (res a) (res b) ((difference_fits 2 2 (sketch_2 2 4 9).values [] (a ∷ b ∷ []) [] (keys_legal [] refl) d).agrees i l)
        ∙ ap res e.1 ∙ nth_is v

-- every claim of every case holds
pub starred_hold : All (λ c. All Holds c.claims) starred
unfolding product_of tabulate well_formed
starred_hold =
    (case_1 also none)
    also (case_2_value also case_2 also none)
    also (case_3_value also case_3 also none)
    also (case_4_first also case_4_last also case_4_refused also none)
    also (case_5 also none)
    also (case_6 also none)
    also (refl also told_holds (sketch_2 1 65533 65532) (1 ∷ []) (3 ∷ []) (1 ∷ []) ready_7 difference_7 also none)
    also (none_holds (sketch_1 1 65533) (1 ∷ []) ready_8 none_8 also none)
    also (told_holds (sketch_1 1 64) [] (65472 ∷ []) [] (ready_9 64 refl) difference_9 also none_holds (sketch_1 1 63) [] (ready_9 63 refl) none_9 also none)
    also (none_holds (sketch_2 2 4 9) [] ready_10 none_10 also none)
    also (none_holds (sketch_1 2 4) (1 ∷ []) ready_11 none_11 also none)
    also (told_holds (sketch_1 0 1) (1 ∷ []) [] (1 ∷ []) (ready_12 1 refl) difference_12 also none_holds (sketch_1 0 2) (1 ∷ []) (ready_12 2 refl) none_12 also none)
    also (none_holds (sketch_2 0 1 2) [] ready_15 none_15 also none)
    also none
