-- Small lemmas that the search is given.
use Rattle.std.proofs.Common.{◌≡◌, Bool, true, false, ℕ, zero, suc, ◌+◌, ◌<◌, get_or, drop, flat_map, filter, arith, cond, ◌&&◌, List, [], ◌∷◌, ◌++◌, length, map, is_some, append_assoc, append-nil, Option, Some, None, option_map, refl, sym, ap, ◌∙◌, subst}
use Rattle.std.specs.List.{cons_option}
use Rattle.opfamily.specs.pg_value_operators_Family.{Family}
use Rattle.opfamily.specs.pg_value_value_SqlType.{SqlType}
use Rattle.opfamily.specs.pg_value_value_Value.{Value}
use Rattle.opfamily.specs.pg_value_work_Order.{IsOfFamily}
use Rattle.pg_expr.specs.declared.operand.ColRef.{ColRef}
use Rattle.opfamily.specs.Answers.{is_family}
use Rattle.eq_classes.specs.Classes.{Class, has_member, is_in, left_of, in_family, is_some_and}
use Rattle.eq_classes.specs.work.Building.{noted, noted_option, left_by}
use Rattle.eq_classes.specs.Equality.{Equality, equality_in, as_clause}
use Rattle.pg_expr.specs.Cond.{Cond}
use Rattle.pg_expr.specs.declared.expr.Expr.{Expr}
use Rattle.pg_expr.specs.work.View as view
use Rattle.eq_classes.specs.Clauses.{Clause, clause, by_conjunct, conjunct_clauses}
use Rattle.eq_classes.specs.work.Listing.{conjunct_at}
use Rattle.eq_classes.proofs.EqualLemmas.{family_is}

pub fits_other : (f g : Family) (v : Value) → is_family f g ≡ true → IsOfFamily g v → IsOfFamily f v
fits_other f g v e h = subst (λ (a : Family). IsOfFamily a v) (sym (family_is f g e)) h

pub ordered_is : (c : Class) (x : ColRef) (f : Family) (o : Option Family) → Some f ≡ o → is_some_and (is_in c) (option_map (in_family x) o) ≡ is_family c.family f && has_member c x
ordered_is c x f o e = ap (λ (p : Option Family). is_some_and (is_in c) (option_map (in_family x) p)) (sym e)

pub noted_cons : (f : Family) (o : Option Value) (vs known : List Value) → noted f (cons_option o vs) known ≡ noted f vs (noted_option f o known)
noted_cons f None vs known = refl
noted_cons f (Some v) vs known = refl

pub mention_of_some : (o : Option Equality) (e : Equality) → o ≡ Some e → left_by o ≡ Some (left_of e)
mention_of_some o e h = ap left_by h

pub mention_of_none : (o : Option Equality) → o ≡ None → left_by o ≡ None
mention_of_none o h = ap left_by h

pub item_mention : (x : ColRef) (f : Family) (o : Option Family) → Some f ≡ o → option_map (in_family x) o ≡ Some (in_family x f)
item_mention x f o h = ap (option_map (in_family x)) (sym h)

pub one_or_none : {A : Type 0} → (b : Bool) (x : A) (xs ys : List A) → (xs ++ cond b (x ∷ []) []) ++ ys ≡ xs ++ cond b (x ∷ ys) ys
one_or_none true x xs ys = append_assoc xs (x ∷ []) ys
one_or_none false x xs ys = ap (λ zs. zs ++ ys) (append-nil xs)

pub step_rows : {A B : Type 0} → (f : A → List B) (ms : List A) (i : ℕ) (d : A) (out next all : List B) → i < length ms → next ≡ out ++ f (get_or ms i d) → out ++ flat_map f (drop i ms) ≡ all → next ++ flat_map f (drop (i + 1) ms) ≡ all
step_rows f [] i d out next all lt e inv = absurd (omega (arith, lt))
step_rows {A} {B} f (m ∷ ms) zero d out next all lt e inv =
    let one : 0 + 1 ≡ suc zero = omega arith in
    ap (λ (n : ℕ). next ++ flat_map f (drop n (m ∷ ms))) one ∙ ap (λ (xs : List B). xs ++ flat_map f ms) e ∙ append_assoc out (f m) (flat_map f ms) ∙ inv
step_rows {A} {B} f (m ∷ ms) (suc i) d out next all lt e inv =
    let more : suc i + 1 ≡ suc (i + 1) = omega arith in
    ap (λ (n : ℕ). next ++ flat_map f (drop n (m ∷ ms))) more ∙ step_rows f ms i d out next all (omega (arith, lt)) e inv

pub step_filter : {A : Type 0} → (p : A → Bool) (ms : List A) (i : ℕ) (d : A) (out next all : List A) → i < length ms → next ≡ out ++ cond (p (get_or ms i d)) (get_or ms i d ∷ []) [] → out ++ filter p (drop i ms) ≡ all → next ++ filter p (drop (i + 1) ms) ≡ all
step_filter p [] i d out next all lt e inv = absurd (omega (arith, lt))
step_filter {A} p (m ∷ ms) zero d out next all lt e inv =
    let one : 0 + 1 ≡ suc zero = omega arith in
    ap (λ (n : ℕ). next ++ filter p (drop n (m ∷ ms))) one ∙ ap (λ (xs : List A). xs ++ filter p ms) e ∙ one_or_none (p m) m out (filter p ms) ∙ inv
step_filter {A} p (m ∷ ms) (suc i) d out next all lt e inv =
    let more : suc i + 1 ≡ suc (i + 1) = omega arith in
    ap (λ (n : ℕ). next ++ filter p (drop n (m ∷ ms))) more ∙ step_filter p ms i d out next all (omega (arith, lt)) e inv

pub ruleset helps = (fits_other, ordered_is, noted_cons, mention_of_some, mention_of_none, item_mention)

conjunct_when : (b : Bool) (c : Clause) (ks : List Clause) → cond b ks (c ∷ ks) ≡ cond b [] (c ∷ []) ++ ks
conjunct_when true c ks = refl
conjunct_when false c ks = refl

pub conjunct_step : (type_of : ColRef → SqlType) (n : ℕ) (k : Cond) (ks : List Cond) → conjunct_clauses type_of n (k ∷ ks) ≡ conjunct_at type_of n k ++ conjunct_clauses type_of (n + 1) ks
conjunct_step type_of n k ks = let e : suc n ≡ n + 1 = omega arith in conjunct_when (is_some (equality_in type_of k)) (clause (as_clause type_of k) (by_conjunct n)) (conjunct_clauses type_of (suc n) ks) ∙ ap (λ (m : ℕ). conjunct_at type_of n k ++ conjunct_clauses type_of m ks) e

pub conjunct_rows : (type_of : ColRef → SqlType) (n : ℕ) (k : Cond) (ks old : List Cond) (out next all : List Clause) → old ≡ k ∷ ks → next ≡ out ++ conjunct_at type_of n k → out ++ conjunct_clauses type_of n old ≡ all → next ++ conjunct_clauses type_of (n + 1) ks ≡ all
conjunct_rows type_of n k ks old out next all split e inv =
    ap (λ (l : List Clause). l ++ conjunct_clauses type_of (n + 1) ks) e
    ∙ append_assoc out (conjunct_at type_of n k) (conjunct_clauses type_of (n + 1) ks)
    ∙ ap (λ (l : List Clause). out ++ l) (sym (conjunct_step type_of n k ks))
    ∙ ap (λ (l : List Cond). out ++ conjunct_clauses type_of n l) (sym split)
    ∙ inv

pub not_equality : (type_of : ColRef → SqlType) (n : ℕ) (k : Cond) → equality_in type_of k ≡ None → conjunct_at type_of n k ≡ clause (as_clause type_of k) (by_conjunct n) ∷ []
not_equality type_of n k e = rw e refl

pub is_equality : (type_of : ColRef → SqlType) (n : ℕ) (k : Cond) (q : Equality) → equality_in type_of k ≡ Some q → conjunct_at type_of n k ≡ []
is_equality type_of n k q e = rw e refl

pub ruleset conjuncts = (conjunct_step, not_equality, is_equality)

pub same_length : (es : List Expr) → length (map view.cond es) ≡ length es
same_length [] = refl
same_length (e ∷ es) = ap suc (same_length es)
