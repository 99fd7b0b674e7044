-- Where a word ends, sought from the left.
use Rattle.std.proofs.Common.{◌≡◌, ◌<◌, ◌+◌, ◌≤◌, ℕ, Bool, true, false, cond, nat_eq, List, [], ◌∷◌, length, drop, get_or, zero, suc, refl, sym, ap, ◌∙◌, arith}
use Rattle.std.proofs.lemmas.Bool.Decides.{nat_tests}
use Rattle.sql_lex.specs.declared.tokens.Token.{Token}
use Rattle.index_reader.specs.Places.{end_of_word}

past : (ts : List Token) (at n : ℕ) (d : Token) → n < length ts → end_of_word (drop n ts) at ≡ cond (nat_eq (get_or ts n d).start at) (get_or ts n d).end (end_of_word (drop (n + 1) ts) at)
past [] at n d lt = absurd (omega (arith, lt))
past (t ∷ ts) at zero d lt = refl
past (t ∷ ts) at (suc n) d lt =
    let e : suc n + 1 ≡ suc (n + 1) = omega arith in
    past ts at n d (omega (arith, lt)) ∙ ap (λ (k : ℕ). cond (nat_eq (get_or ts n d).start at) (get_or ts n d).end (end_of_word (drop k (t ∷ ts)) at)) (sym e)

by-found : (a at end later here : ℕ) → a ≡ at → here ≡ cond (nat_eq a at) end later → here ≡ end
by-found a at end later here same is = is ∙ found (nat_eq a at) (grind (arith, nat_tests, same))
  where
    found : (b : Bool) → b ≡ true → cond b end later ≡ end
    found true e = refl
    found false e = cc

by-other : (a at end later here : ℕ) → (a ≡ at → ⊥) → here ≡ cond (nat_eq a at) end later → here ≡ later
by-other a at end later here other is = is ∙ passed (nat_eq a at) (grind (arith, nat_tests, other))
  where
    passed : (b : Bool) → b ≡ false → cond b end later ≡ later
    passed false e = refl
    passed true e = cc

pub found-at : (ts : List Token) (at n : ℕ) (t : Token) → n < length ts → t ≡ get_or ts n t → t.start ≡ at → end_of_word (drop n ts) at ≡ end_of_word ts at → t.end ≡ end_of_word ts at
found-at ts at n t lt is same so = sym (by-found t.start at t.end _ (end_of_word (drop n ts) at) same (past ts at n t lt ∙ ap (λ (x : Token). cond (nat_eq x.start at) x.end (end_of_word (drop (n + 1) ts) at)) (sym is))) ∙ so

pub passed-at : (ts : List Token) (at n : ℕ) (t : Token) → n < length ts → t ≡ get_or ts n t → (t.start ≡ at → ⊥) → end_of_word (drop n ts) at ≡ end_of_word ts at → end_of_word (drop (n + 1) ts) at ≡ end_of_word ts at
passed-at ts at n t lt is other so = sym (by-other t.start at t.end _ (end_of_word (drop n ts) at) other (past ts at n t lt ∙ ap (λ (x : Token). cond (nat_eq x.start at) x.end (end_of_word (drop (n + 1) ts) at)) (sym is))) ∙ so

none-left : (ts : List Token) (n : ℕ) → length ts ≤ n → drop n ts ≡ []
none-left [] zero le = refl
none-left [] (suc n) le = refl
none-left (t ∷ ts) zero le = absurd (omega (arith, le))
none-left (t ∷ ts) (suc n) le = none-left ts n (omega (arith, le))

pub none-at : (ts : List Token) (at n : ℕ) → length ts ≤ n → end_of_word (drop n ts) at ≡ end_of_word ts at → at ≡ end_of_word ts at
none-at ts at n le so = sym (ap (λ (l : List Token). end_of_word l at) (none-left ts n le)) ∙ so
