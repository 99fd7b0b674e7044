-- The digits that a text is put together from.
use Rattle.std.proofs.Common.{◌≡◌, ℕ, zero, suc, ◌+◌, ◌-◌, ◌/◌, ◌%◌, ◌^◌, ◌<◌, ◌≤◌, Bool, true, false, cond, List, [], ◌∷◌, ◌++◌, length, refl, sym, ap, ◌∙◌, arith, append_assoc, length-append}
use Rattle.std.specs.Prelude.{nat_eq}
use Rattle.std.specs.Fmt.{decimal}
use Rattle.std.proofs.lemmas.Bool.{ne_eqb}
use Rattle.std.proofs.lemmas.List.{append-nil}
use Rattle.std.proofs.lemmas.Fmt.{decimal_digit, decimal_step, length-decimal-le}
use Rattle.std.proofs.Math.Nat.{div-le_self}
use Rattle.civil.specs.Shown.{figures, short_figures}

pub length-figures : (count n : ℕ) → length (figures count n) ≡ count
unfolding figures
length-figures zero n = refl
length-figures (suc k) n = omega (arith, length-append (figures k (n / 10)) ((48 + n % 10) ∷ []), length-figures k (n / 10))

-- one figure more
pub figures-more : (old mid new : List ℕ) (count n digit : ℕ) → 0 < count → mid ≡ old ++ figures (count - 1) (n / 10) → digit ≡ 48 + n % 10 → new ≡ mid ++ digit ∷ [] → new ≡ old ++ figures count n
unfolding figures
figures-more old mid new zero n digit some before last is = absurd (omega (arith, some))
figures-more old mid new (suc k) n digit some before last is =
    let less : suc k - 1 ≡ k = omega arith in
    is ∙ (ap (λ (c : ℕ). mid ++ c ∷ []) last ∙ (ap (λ (xs : List ℕ). xs ++ (48 + n % 10) ∷ []) (before ∙ ap (λ (j : ℕ). old ++ figures j (n / 10)) less)
    ∙ append_assoc old (figures k (n / 10)) ((48 + n % 10) ∷ [])))

pub no-figures : (old : List ℕ) (count n : ℕ) → count ≤ 0 → old ≡ old ++ figures count n
unfolding figures
no-figures old zero n none = sym (append-nil old)
no-figures old (suc k) n none = absurd (omega (arith, none))

pub no-short-figures : (old : List ℕ) (count n : ℕ) → count ≤ 0 → old ≡ old ++ short_figures count n
unfolding short_figures
no-short-figures old zero n none = sym (append-nil old)
no-short-figures old (suc k) n none = absurd (omega (arith, none))

-- a zero at the end is left out
pub short-zero : (count n : ℕ) → 0 < count → n % 10 ≡ 0 → short_figures (count - 1) (n / 10) ≡ short_figures count n
unfolding short_figures
short-zero zero n some is = absurd (omega (arith, some))
short-zero (suc k) n some is =
    let less : suc k - 1 ≡ k = omega arith in
    ap (λ (j : ℕ). short_figures j (n / 10)) less ∙ sym (ap (λ (d : ℕ). cond (nat_eq d 0) (short_figures k (n / 10)) (figures (suc k) n)) is)

pub short-rest : (count n : ℕ) → 0 < count → ¬ (n % 10 ≡ 0) → figures count n ≡ short_figures count n
unfolding short_figures
short-rest zero n some is = absurd (omega (arith, some))
short-rest (suc k) n some is = sym (ap (λ (b : Bool). cond b (short_figures k (n / 10)) (figures (suc k) n)) (ne_eqb (n % 10) 0 is))

pub length-short : (count n : ℕ) → length (short_figures count n) ≤ count
unfolding short_figures
length-short zero n = omega arith
length-short (suc k) n = by (nat_eq (n % 10) 0) (length-short k (n / 10))
  where
    by : (b : Bool) → length (short_figures k (n / 10)) ≤ k → length (cond b (short_figures k (n / 10)) (figures (suc k) n)) ≤ suc k
    by true less = omega (arith, less)
    by false less = omega (arith, length-figures (suc k) n)

pub one-digit : (n digit : ℕ) (old new : List ℕ) → n < 10 → digit ≡ 48 + n → new ≡ old ++ digit ∷ [] → new ≡ old ++ decimal n
one-digit n digit old new small last is = is ∙ ap (λ (xs : List ℕ). old ++ xs) (ap (λ (c : ℕ). c ∷ []) last ∙ sym (decimal_digit n small))

pub digit-more : (n digit : ℕ) (old mid new : List ℕ) → 10 ≤ n → n < 2 ^ 64 → mid ≡ old ++ decimal (n / 10) → digit ≡ 48 + n % 10 → new ≡ mid ++ digit ∷ [] → new ≡ old ++ decimal n
digit-more n digit old mid new large fits before last is =
    is ∙ (ap (λ (c : ℕ). mid ++ c ∷ []) last ∙ (ap (λ (xs : List ℕ). xs ++ (48 + n % 10) ∷ []) before
    ∙ (append_assoc old (decimal (n / 10)) ((48 + n % 10) ∷ []) ∙ ap (λ (xs : List ℕ). old ++ xs) (sym (decimal_step n large fits)))))

pub digit-long : (n : ℕ) → n < 10 → length (decimal n) ≡ 1
digit-long n small = ap length (decimal_digit n small)

pub decimal-longer : (n : ℕ) → 10 ≤ n → n < 2 ^ 64 → length (decimal n) ≡ length (decimal (n / 10)) + 1
decimal-longer n large fits = ap length (decimal_step n large fits) ∙ length-append (decimal (n / 10)) ((48 + n % 10) ∷ [])

pub quotient-short : (n t : ℕ) → n < 2 ^ 64 → length (decimal (n / t)) ≤ 20
quotient-short n t fits =
    let small : n / t < 2 ^ 64 = omega (arith, div-le_self n t, fits) in
    length-decimal-le 20 (n / t) (omega arith) (omega (arith, small)) small
