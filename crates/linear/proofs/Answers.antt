-- How the relations follow the equations, and what they say at the end.
--
--   related_none           before any equation, zeros
--   minus_factor           −1 / x is a factor
--   kept_row, last_row     an equation that says an unknown by those after it; one that says nothing new, or what no vector meets
--   refuted_on             what no vector meets, none meets with more equations
--   solution, no_solution  the answer of `solve`, either way
--
-- Assumes nothing.
use mathlib.Core.Path.{◌≡◌, refl, sym, ap, ap₂, subst, ◌∙◌}
use mathlib.Core.Bool.{Bool, true, false}
use mathlib.Core.List.{List}
use Prim.Native.Nat.{ℕ, ◌+◌, ◌*◌, ◌-◌, ◌%◌, ◌≤◌, ◌<◌}
use native.Mathlib.Nat.{mod-lt, add-sub_cancel_left}
use native.Mathlib.Numerals.{add-one}
use native.Mathlib.Omega.{arith}
use native.Mathlib.Decide.{ℕ_discrete, dec_lt}
use lib.Dec.{lit<, eqb}
use lib.ListN.{length, get_or}
use borrow.Author.Tests.{eqb-true, eqb-false}
use Rattle.algebra.specs.Ring.{mul_zero}
use Rattle.algebra.specs.Solver.{◌⊝◌, ◌⊗◌, ⊖, #0, by_ring}
use Rattle.algebra.specs.Arithmetic.{inverse_of}
use Rattle.algebra.specs.Linear.{Solves, meets}
use Rattle.rules.specs.Numbers.{modulus}
use Rattle.residue.specs.Field.{𝓕, res, zero_is, sub_is, res_mul, inverse_is, res_digit_sum, res_eq_zero, eq_zero_res}
use Rattle.residue.specs.Folded.{digit_sum, digit_sum_most}
use Rattle.linear.specs.Solved.{vector, matrix, Solution, Insoluble}
use Rattle.linear.specs.Echelon.{Sifted, minus_one_ne_zero, echelon_none, sifted_of, kept, passed, refuted, closed_all, insoluble}
use Rattle.linear.specs.Rows.{minus_inverse, group, Loaded, Scaled, Related, Sifting, Refuted, Eliminated, Substituted}
use Rattle.linear.proofs.Places.{inside}
open 𝓕 use {ring as 𝓡, inv, inv_mul}
open 𝓡 use {add, mul, neg, zero, one}

pub related_none : {c : ℕ} {rows rel : List ℕ} → ((k : ℕ) → get_or rel k 0 ≡ 0) → Related c 0 rows rel
related_none {c} {rows} {rel} z = record {
  factors = λ k l. rw (z k) (omega arith);
  plain = λ p l _. z (p * (c + 1) + p);
  echelon = echelon_none 𝓡 (omega arith) (λ p j l m. ap res (z (p * (c + 1) + j)) ∙ zero_is);
}

pub minus_factor : {f : ℕ} (x : ℕ) → f ≡ minus_inverse x → f ≤ digit_sum_most
minus_factor x e = rw e (omega (arith, mod-lt (0 + (modulus - inverse_of modulus (digit_sum x) % modulus)) {m = modulus} (lit< tt)))

-- −1 / x times x
minus_one : {f : ℕ} (x : ℕ) → f ≡ minus_inverse x → ¬ (res x ≡ zero) → mul (res f) (res x) ≡ neg one
minus_one x e n =
    ap (λ u. mul u (res x)) (ap res e ∙ sub_is 0 (inverse_of modulus (digit_sum x)) ∙ ap₂ (λ u v. add u (neg v)) zero_is (inverse_is (digit_sum x) ∙ ap inv (res_digit_sum x)))
    ∙ by_ring 𝓡 2 (λ i x. ((#0 ⊝ i) ⊗ x, ⊖ (i ⊗ x))) refl (inv (res x)) (res x)
    ∙ ap neg (inv_mul (res x) n)

module _ {c i p : ℕ} {rows rel d₀ d₁ d : List ℕ} (s : Related c i rows rel) (l : Loaded (c + 1) rows i d₀ d₁) (z : Sifting c rel d₁ d p) where
  -- what is left of row i
  left : Sifted 𝓡 (c + 1) c p (matrix (c + 1) rel) (matrix (c + 1) rows i) (vector d)
  left = sifted_of 𝓡 (matrix (c + 1) rows i) (λ j k. ap res (l.new j (omega arith) k).value) z.sifted

  pub kept_row : {f : ℕ} {rel' : List ℕ} → p < c → matrix (c + 1) rel p p ≡ zero → ¬ (vector d p ≡ zero) → f ≡ minus_inverse (get_or d p 0) → Scaled (c + 1) d p f rel rel' → Related c (i + 1) rows rel'
  kept_row {f} {rel'} m free some e r = record {
    factors = λ k o. elim (dec_lt k (p * (c + 1) + group p)) [
      | yes b ↦ before k o (λ a. omega (arith, b))
      | no a ↦ elim (dec_lt k (p * (c + 1) + (c + 1))) [
        | yes b ↦ (r.new k (omega (arith, a)) b).fits
        | no b ↦ before k o (λ _. omega (arith, b))
      ]
    ];
    plain = λ q k y. elim (ℕ_discrete q p) [
      | yes i ↦ absurd (minus_one_ne_zero 𝓕 (sym (new p (omega arith) ∙ minus) ∙ (rw i at y)))
      | no n ↦ untouched q q k n (omega arith) ∙ s.plain q k (sym (old q q k n (omega arith)) ∙ y)
    ];
    echelon = rw (add-one i) (kept 𝓕 s.echelon m left (matrix (c + 1) rel') (res f) (omega arith) free minus new old);
  }
    where
      minus : mul (res f) (vector d p) ≡ neg one
      minus = minus_one (get_or d p 0) e some

      before : (k : ℕ) → k < length rel' → (p * (c + 1) + group p ≤ k → p * (c + 1) + (c + 1) ≤ k) → get_or rel' k 0 ≤ digit_sum_most
      before k o h = rw (r.old k h) (s.factors k (omega (arith, r.len)))

      -- before its group the relation was unused, and d is cleared
      new : (j : ℕ) → j < c + 1 → matrix (c + 1) rel' p j ≡ mul (res f) (vector d j)
      new j o = elim (dec_lt j (group p)) [
        | yes b ↦ ap res (r.old (p * (c + 1) + j) (λ a. absurd (omega arith))) ∙ s.echelon.shape.unused p m free j o
            ∙ sym (ap (mul (res f)) (z.sifted.zeros j (omega arith)) ∙ mul_zero 𝓡 (res f))
        | no b ↦ ap res ((r.new (p * (c + 1) + j) (omega (arith, b)) (omega arith)).value ∙ ap (λ (k : ℕ). digit_sum (f * digit_sum (get_or d k 0))) (add-sub_cancel_left (p * (c + 1)) j))
            ∙ res_digit_sum (f * digit_sum (get_or d j 0)) ∙ res_mul f (digit_sum (get_or d j 0)) ∙ ap (mul (res f)) (res_digit_sum (get_or d j 0))
      ]

      untouched : (q j : ℕ) → q < c → ¬ (q ≡ p) → j < c + 1 → get_or rel' (q * (c + 1) + j) 0 ≡ get_or rel (q * (c + 1) + j) 0
      untouched q j k n o = r.old (q * (c + 1) + j) (λ a. elim (dec_lt q p) [
        | yes b ↦ omega (arith, inside q p (c + 1) b)
        | no b ↦ omega (arith, inside p q (c + 1) (omega (arith, b, n)))
      ])

      old : (q j : ℕ) → q < c → ¬ (q ≡ p) → j < c + 1 → matrix (c + 1) rel' q j ≡ matrix (c + 1) rel q j
      old q j k n o = ap res (untouched q j k n o)

  pub last_row : {f : ℕ} → p ≡ c → f ≡ get_or d c 0 % modulus → Eliminated c (i + 1) rows rel (eqb f 0)
  last_row {f} end e = go (eqb f 0) refl
    where
      all : Sifted 𝓡 (c + 1) c c (matrix (c + 1) rel) (matrix (c + 1) rows i) (vector d)
      all = rw end at left

      go : (b : Bool) → eqb f 0 ≡ b → Eliminated c (i + 1) rows rel b
      go true t = record { factors = s.factors; plain = s.plain; echelon = rw (add-one i) (passed 𝓕 s.echelon (add-one c) all (res_eq_zero (get_or d c 0) (sym e ∙ eqb-true f 0 t))) }
      go false t = record { none = rw (add-one i) (refuted 𝓕 s.echelon (add-one c) all (λ y. eqb-false f 0 t (e ∙ eq_zero_res (get_or d c 0) y))) }

pub refuted_on : {c t m : ℕ} {rows : List ℕ} → t ≤ m → Refuted c t rows → Refuted c m rows
refuted_on h s = record { none = λ y e. s.none y (λ i l. e i (omega arith)) }

module _ {c m : ℕ} {rows x : List ℕ} where
  pub solution : {rel : List ℕ} → Related c m rows rel → Substituted c 0 rel x → Solution c m rows x
  solution {rel} s z = record {
    meets = meets 𝓡 c m (matrix (c + 1) rows) (vector x) z.closed.last (subst (λ (w : ℕ). Solves 𝓡 w m (matrix (c + 1) rows) (vector x)) (add-one c) (closed_all 𝓕 s.echelon z.closed));
    reduced = λ k l. z.reduced k (omega (arith, z.long));
    long = z.long;
  }

  pub no_solution : length x ≡ c + 1 → Refuted c m rows → Insoluble c m rows x
  no_solution long s = record { none = insoluble 𝓕 c m m (matrix (c + 1) rows) (omega arith) (λ y e. s.none y (subst (λ (w : ℕ). Solves 𝓡 w m (matrix (c + 1) rows) y) (sym (add-one c)) e)); long = long }
