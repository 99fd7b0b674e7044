-- What begins at a depth is no line of a lesser one; names and titles have no LF and no parenthesis.
use Prim.Native.Nat.{suc, zero}
use Rattle.std.proofs.Common.{◌≡◌, ◌+◌, ◌-◌, ◌*◌, ◌==◌, ℕ, Bool, true, false, not, cond, ◌&&◌, List, [], ◌∷◌, ◌++◌, codes, get_or, replicate, refl, sym, ap, ◌∙◌, arith}
use Rattle.std.specs.List.{list_all}
use Rattle.std.proofs.lemmas.Bool.{and_from, and_parts, true≢false, ne_eqb}
use Rattle.std.proofs.lemmas.Bool.Decides.{nat_tests}
use Rattle.std.proofs.lemmas.List.{append_assoc}
use Rattle.pg_base.specs.Names.{is_in_name}
use Rattle.certificate_entries.specs.explain_Texts.{lead}
use Rattle.plan_lines.specs.work.Parts.{IsShallow, lacks}

get-behind : (n : ℕ) (z : List ℕ) (k : ℕ) → get_or (replicate n 32 ++ z) (n + k) 0 ≡ get_or z k 0
get-behind zero z k = let e : 0 + k ≡ k = omega arith in ap (λ (m : ℕ). get_or z m 0) e
get-behind (suc n) z k = let e : suc n + k ≡ suc (n + k) = omega arith in ap (λ (m : ℕ). get_or (32 ∷ (replicate n 32 ++ z)) m 0) e ∙ get-behind n z k

-- a line one deeper than d
pub line-shallow : (d : ℕ) (z : List ℕ) → IsShallow (d + 1) (lead (d + 1) ++ z)
line-shallow d z = record {
  place = 6 * d + 2;
  before = omega arith;
  byte = λ e. let arrow : get_or (lead (d + 1) ++ z) (6 * d + 2) 0 ≡ 45 = here in let bad : 45 ≡ 32 = sym arrow ∙ e in omega (arith, bad);
} where
  spaces : 6 * (d + 1) - 4 ≡ 6 * d + 2
  spaces = omega arith

  is : lead (d + 1) ++ z ≡ replicate (6 * d + 2) 32 ++ (codes "->  " ++ z)
  is =
      ap (λ (b : Bool). cond b [] (replicate (6 * (d + 1) - 4) 32 ++ codes "->  ") ++ z) (ne_eqb (d + 1) 0 (λ e. omega (arith, e)))
      ∙ (ap (λ (m : ℕ). (replicate m 32 ++ codes "->  ") ++ z) spaces ∙ append_assoc (replicate (6 * d + 2) 32) (codes "->  ") z)

  here : get_or (lead (d + 1) ++ z) (6 * d + 2) 0 ≡ 45
  here = let at : 6 * d + 2 ≡ (6 * d + 2) + 0 = omega arith in ap (λ (l : List ℕ). get_or l (6 * d + 2) 0) is ∙ (ap (λ (m : ℕ). get_or (replicate (6 * d + 2) 32 ++ (codes "->  " ++ z)) m 0) at ∙ get-behind (6 * d + 2) (codes "->  " ++ z) 0)

pub shallow-more : (d : ℕ) (x : List ℕ) → IsShallow d x → IsShallow (d + 1) x
shallow-more d x h = record { place = h.place; before = let low = h.before in omega (arith, low); byte = h.byte }

pub shallow-end : (d : ℕ) → IsShallow d []
shallow-end d = record { place = 0; before = omega arith; byte = λ e. let bad : 0 ≡ 32 = e in omega (arith, bad) }

-- neither the end of a line nor the parenthesis before its numbers
abbrev pub is_plain : ℕ → Bool
is_plain b = not (b == 10) && not (b == 40)

abbrev pub plain : List ℕ → Bool
plain text = list_all is_plain text

pub plain-both : (a b : List ℕ) → plain a ≡ true → plain b ≡ true → plain (a ++ b) ≡ true
plain-both [] b h k = k
plain-both (x ∷ a) b h k =
    let p = and_parts (is_plain x) (plain a) h in
    and_from (is_plain x) (plain (a ++ b)) p.0 (plain-both a b p.1 k)

in-name : (b : ℕ) → is_in_name b ≡ true → is_plain b ≡ true
in-name b h = by (b == 10) (b == 40) refl refl
  where
    ten : (b == 10) ≡ true → ⊥
    ten e = let is : b ≡ 10 = grind (arith, nat_tests, e) in true≢false (sym h ∙ ap is_in_name is)

    forty : (b == 40) ≡ true → ⊥
    forty e = let is : b ≡ 40 = grind (arith, nat_tests, e) in true≢false (sym h ∙ ap is_in_name is)

    by : (s t : Bool) → (b == 10) ≡ s → (b == 40) ≡ t → (not s && not t) ≡ true
    by true t e f = absurd (ten e)
    by false true e f = absurd (forty f)
    by false false e f = refl

pub word-plain : (w : List ℕ) → list_all is_in_name w ≡ true → plain w ≡ true
word-plain [] h = refl
word-plain (b ∷ bs) h =
    let p = and_parts (is_in_name b) (list_all is_in_name bs) h in
    and_from (is_plain b) (plain bs) (in-name b p.0) (word-plain bs p.1)

pub lacks-ten : (w : List ℕ) → plain w ≡ true → lacks 10 w ≡ true
lacks-ten [] h = refl
lacks-ten (b ∷ bs) h =
    let p = and_parts (is_plain b) (plain bs) h in
    and_from (not (b == 10)) (lacks 10 bs) (and_parts (not (b == 10)) (not (b == 40)) p.0).0 (lacks-ten bs p.1)

pub lacks-forty : (w : List ℕ) → plain w ≡ true → lacks 40 w ≡ true
lacks-forty [] h = refl
lacks-forty (b ∷ bs) h =
    let p = and_parts (is_plain b) (plain bs) h in
    and_from (not (b == 40)) (lacks 40 bs) (and_parts (not (b == 10)) (not (b == 40)) p.0).1 (lacks-forty bs p.1)
