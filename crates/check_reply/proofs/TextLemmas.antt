-- Each reason has a text of its own.
use Rattle.std.proofs.Common.{◌≡◌, ◌<◌, ◌^◌, ℕ, Bool, true, false, cond, nat_eq, List, ◌++◌, get_or, drop, refl, sym, ap, ap₂, ◌∙◌, arith, true≢false}
use Rattle.std.specs.Prelude.{codes}
use Rattle.std.specs.Fmt.{decimal}
use Rattle.std.specs.Str.Parse.{digits_value}
use Rattle.std.proofs.lemmas.Bool.{eqb-true}
use Rattle.std.proofs.lemmas.Fmt.{decimal_is_IsNumeral}
use Rattle.catalog.specs.Contents.{Contents}
use Rattle.sql_query.specs.Queries.{Query}
use Rattle.plan_check.specs.Certificates.{Certificate}
use Rattle.pg_base.proofs.NameLemmas.{decimal-word}
use Rattle.certificate_check.specs.explain_laws_SplitLemmas.{split, stops}
use Rattle.plan_check.specs.declared.verdict.Number.{Number}
use Rattle.plan_check.specs.declared.verdict.Number.TheVariants.{Startup, Total, Rows}
use Rattle.plan_check.specs.declared.verdict.Reason.{Reason}
use Rattle.plan_check.specs.declared.verdict.Reason.TheVariants as reasons
use Rattle.check_reply.specs.Checked.{IsReasonText, bad_node_text, bad_number_text, wrong_line_text, number_name}
use Rattle.check_reply.specs.work.Checked.{HasWords, is_uncovered}

-- a number is given by its digits
number-same : (n m : ℕ) → n < 2 ^ 64 → m < 2 ^ 64 → decimal n ≡ decimal m → n ≡ m
number-same n m a b e = sym (decimal_is_IsNumeral n a).1 ∙ ap (digits_value 10) e ∙ (decimal_is_IsNumeral m b).1

number-split : (n m : ℕ) (x y : List ℕ) → n < 2 ^ 64 → m < 2 ^ 64 → stops x ≡ true → stops y ≡ true → decimal n ++ x ≡ decimal m ++ y → (n ≡ m) × (x ≡ y)
number-split n m x y a b sx sy e = let s = split (decimal n) (decimal m) x y (decimal-word n) (decimal-word m) sx sy e in (number-same n m a b s.0, s.1)

name-split : (a b : Number) (x y : List ℕ) → number_name a ++ x ≡ number_name b ++ y → (a ≡ b) × (x ≡ y)
name-split Startup Startup x y e = (refl, ap (λ (l : List ℕ). drop 7 l) e)
name-split Startup Total x y e = let bad : 115 ≡ 99 = ap (λ (l : List ℕ). get_or l 0 0) e in absurd (omega (arith, bad))
name-split Startup Rows x y e = let bad : 115 ≡ 114 = ap (λ (l : List ℕ). get_or l 0 0) e in absurd (omega (arith, bad))
name-split Total Startup x y e = let bad : 99 ≡ 115 = ap (λ (l : List ℕ). get_or l 0 0) e in absurd (omega (arith, bad))
name-split Total Total x y e = (refl, ap (λ (l : List ℕ). drop 4 l) e)
name-split Total Rows x y e = let bad : 99 ≡ 114 = ap (λ (l : List ℕ). get_or l 0 0) e in absurd (omega (arith, bad))
name-split Rows Startup x y e = let bad : 114 ≡ 115 = ap (λ (l : List ℕ). get_or l 0 0) e in absurd (omega (arith, bad))
name-split Rows Total x y e = let bad : 114 ≡ 99 = ap (λ (l : List ℕ). get_or l 0 0) e in absurd (omega (arith, bad))
name-split Rows Rows x y e = (refl, ap (λ (l : List ℕ). drop 4 l) e)

pub fault-same : (n m : ℕ) → n < 2 ^ 64 → m < 2 ^ 64 → wrong_line_text n ≡ wrong_line_text m → n ≡ m
fault-same n m a b e = number-same n m a b (ap (λ (l : List ℕ). drop 8 l) e)

node-same : (n m : ℕ) → n < 2 ^ 64 → m < 2 ^ 64 → bad_node_text n ≡ bad_node_text m → n ≡ m
node-same n m a b e = by (nat_eq n 0) (nat_eq m 0) refl refl e
  where
    by : (c d : Bool) → nat_eq n 0 ≡ c → nat_eq m 0 ≡ d → cond c (codes "C2 best") (codes "C2 entry " ++ decimal n) ≡ cond d (codes "C2 best") (codes "C2 entry " ++ decimal m) → n ≡ m
    by true true f g h = eqb-true n 0 f ∙ sym (eqb-true m 0 g)
    by true false f g h = let bad : 98 ≡ 101 = ap (λ (l : List ℕ). get_or l 3 0) h in absurd (omega (arith, bad))
    by false true f g h = let bad : 101 ≡ 98 = ap (λ (l : List ℕ). get_or l 3 0) h in absurd (omega (arith, bad))
    by false false f g h = number-same n m a b (ap (λ (l : List ℕ). drop 9 l) h)

-- two numbers with a word between them
two-same : (n m i j : ℕ) (x : List ℕ) → n < 2 ^ 64 → m < 2 ^ 64 → i < 2 ^ 64 → j < 2 ^ 64 → (k : ℕ) → ((l : List ℕ) → drop k (x ++ l) ≡ l) → stops (x ++ decimal i) ≡ true → stops (x ++ decimal j) ≡ true →
    decimal n ++ (x ++ decimal i) ≡ decimal m ++ (x ++ decimal j) → (n ≡ m) × (i ≡ j)
two-same n m i j x a b c d k behind si sj e =
    let s = number-split n m (x ++ decimal i) (x ++ decimal j) a b si sj e in
    (s.0, number-same i j c d (sym (behind (decimal i)) ∙ ap (λ (l : List ℕ). drop k l) s.1 ∙ behind (decimal j)))

number-text-same : (n m : ℕ) (u v : Number) (p r o s : ℕ) → n < 2 ^ 64 → m < 2 ^ 64 → p < 2 ^ 64 → r < 2 ^ 64 → o < 2 ^ 64 → s < 2 ^ 64 → bad_number_text n u p o ≡ bad_number_text m v r s → reasons.BadNumber n u p o ≡ reasons.BadNumber m v r s
number-text-same n m u v p r o s a b c d f g e =
    let behind : List ℕ = codes " " ++ (decimal p ++ (codes " is " ++ decimal o)) in
    let other : List ℕ = codes " " ++ (decimal r ++ (codes " is " ++ decimal s)) in
    let first = number-split n m (codes " " ++ (number_name u ++ behind)) (codes " " ++ (number_name v ++ other)) a b refl refl (ap (λ (l : List ℕ). drop 9 l) e) in
    let named = name-split u v behind other (ap (λ (l : List ℕ). drop 1 l) first.1) in
    let last = two-same p r o s (codes " is ") c d f g 4 (λ l. refl) refl refl (ap (λ (l : List ℕ). drop 1 l) named.1) in
    ap (λ (k : ℕ). reasons.BadNumber k u p o) first.0 ∙ ap (λ (w : Number). reasons.BadNumber m w p o) named.0 ∙ ap₂ (λ (k l : ℕ). reasons.BadNumber m v k l) last.0 last.1

-- the second byte of a reason's text
abbrev kind : Reason → ℕ
kind (reasons.BadNode n) = 50
kind (reasons.BadNumber n what printed own) = 51
kind (reasons.Uncovered node startup total rows) = 52
kind (reasons.Dominated n m) = 53
kind (reasons.NotBest printed own) = 54

node-kind : (b : Bool) (n : ℕ) → get_or (cond b (codes "C2 best") (codes "C2 entry " ++ decimal n)) 1 0 ≡ 50
node-kind true n = refl
node-kind false n = refl

module _ (c : Contents) (q : Query) (t : Certificate) where
  kind-is : (r : Reason) (text : List ℕ) → IsReasonText c q t r text → get_or text 1 0 ≡ kind r
  kind-is (reasons.BadNode n) text h = ap (λ (l : List ℕ). get_or l 1 0) h ∙ node-kind (nat_eq n 0) n
  kind-is (reasons.BadNumber n what printed own) text h = ap (λ (l : List ℕ). get_or l 1 0) h
  kind-is (reasons.Uncovered node startup total rows) text h = ap (λ (l : List ℕ). get_or l 1 0) h.3
  kind-is (reasons.Dominated n m) text h = ap (λ (l : List ℕ). get_or l 1 0) h
  kind-is (reasons.NotBest printed own) text h = ap (λ (l : List ℕ). get_or l 1 0) h

  pub no-fault : (r : Reason) (n : ℕ) → IsReasonText c q t r (wrong_line_text n) → ⊥
  no-fault r n h = by r (kind-is r (wrong_line_text n) h)
    where
      by : (o : Reason) → 49 ≡ kind o → ⊥
      by (reasons.BadNode n) e = omega (arith, e)
      by (reasons.BadNumber n what printed own) e = omega (arith, e)
      by (reasons.Uncovered node startup total rows) e = omega (arith, e)
      by (reasons.Dominated n m) e = omega (arith, e)
      by (reasons.NotBest printed own) e = omega (arith, e)

  pub reason-same : (r o : Reason) (text : List ℕ) → HasWords r → HasWords o → is_uncovered r ≡ false → IsReasonText c q t r text → IsReasonText c q t o text → r ≡ o
  reason-same r o text a b plain h g = by r o a b plain h g (sym (kind-is r text h) ∙ kind-is o text g)
    where
      by : (x y : Reason) → HasWords x → HasWords y → is_uncovered x ≡ false → IsReasonText c q t x text → IsReasonText c q t y text → kind x ≡ kind y → x ≡ y
      by (reasons.BadNode n) (reasons.BadNode m) a b plain h g e = ap (λ (k : ℕ). reasons.BadNode k) (node-same n m a b (sym h ∙ g))
      by (reasons.BadNode n) (reasons.BadNumber m what printed own) a b plain h g e = absurd (omega (arith, e))
      by (reasons.BadNode n) (reasons.Uncovered node startup total rows) a b plain h g e = absurd (omega (arith, e))
      by (reasons.BadNode n) (reasons.Dominated m l) a b plain h g e = absurd (omega (arith, e))
      by (reasons.BadNode n) (reasons.NotBest printed own) a b plain h g e = absurd (omega (arith, e))
      by (reasons.BadNumber n u p s) (reasons.BadNode m) a b plain h g e = absurd (omega (arith, e))
      by (reasons.BadNumber n u p s) (reasons.BadNumber m v l k) a b plain h g e = number-text-same n m u v p l s k a.0 b.0 a.1 b.1 a.2 b.2 (sym h ∙ g)
      by (reasons.BadNumber n u p s) (reasons.Uncovered node startup total rows) a b plain h g e = absurd (omega (arith, e))
      by (reasons.BadNumber n u p s) (reasons.Dominated m l) a b plain h g e = absurd (omega (arith, e))
      by (reasons.BadNumber n u p s) (reasons.NotBest printed own) a b plain h g e = absurd (omega (arith, e))
      by (reasons.Uncovered node startup total rows) y a b plain h g e = absurd (true≢false plain)
      by (reasons.Dominated n m) (reasons.BadNode l) a b plain h g e = absurd (omega (arith, e))
      by (reasons.Dominated n m) (reasons.BadNumber l what printed own) a b plain h g e = absurd (omega (arith, e))
      by (reasons.Dominated n m) (reasons.Uncovered node startup total rows) a b plain h g e = absurd (omega (arith, e))
      by (reasons.Dominated n m) (reasons.Dominated l k) a b plain h g e =
          let s = two-same n l m k (codes " by ") a.0 b.0 a.1 b.1 4 (λ x. refl) refl refl (ap (λ (x : List ℕ). drop 9 x) (sym h ∙ g)) in
          ap₂ (λ (x y : ℕ). reasons.Dominated x y) s.0 s.1
      by (reasons.Dominated n m) (reasons.NotBest printed own) a b plain h g e = absurd (omega (arith, e))
      by (reasons.NotBest n m) (reasons.BadNode l) a b plain h g e = absurd (omega (arith, e))
      by (reasons.NotBest n m) (reasons.BadNumber l what printed own) a b plain h g e = absurd (omega (arith, e))
      by (reasons.NotBest n m) (reasons.Uncovered node startup total rows) a b plain h g e = absurd (omega (arith, e))
      by (reasons.NotBest n m) (reasons.Dominated l k) a b plain h g e = absurd (omega (arith, e))
      by (reasons.NotBest n m) (reasons.NotBest l k) a b plain h g e =
          let s = two-same n l m k (codes " least ") a.0 b.0 a.1 b.1 7 (λ x. refl) refl refl (ap (λ (x : List ℕ). drop 8 x) (sym h ∙ g)) in
          ap₂ (λ (x y : ℕ). reasons.NotBest x y) s.0 s.1
