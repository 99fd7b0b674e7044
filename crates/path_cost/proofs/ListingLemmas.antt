-- The conditions of a list, and whether some of those before a place pass a test.
use Rattle.std.proofs.Common.{◌≡◌, ◌<◌, ◌≤◌, ◌∙◌, ℕ, zero, suc, ◌+◌, ◌||◌, Bool, true, false, All, List, [], ◌∷◌, refl, sym, ap, subst, arith, length, map, take, slice_index_or}
use Rattle.std.specs.List.{list_any}
use Rattle.std.proofs.lemmas.Grind.{common_steps}
use Rattle.std.proofs.lemmas.List.{length-map}
use Rattle.std.proofs.lemmas.List.Elements.{All-map}
use Rattle.std.proofs.lemmas.List.Folds.{list_any_more}
use Rattle.pg_value.specs.declared.operators.Truth.TheVariants.{True}
use Rattle.pg_expr.specs.declared.operand.ColRef.{ColRef}
use Rattle.pg_expr.specs.declared.expr.Expr.{Expr}
use Rattle.pg_expr.specs.Cond.{Cond, const}
use Rattle.pg_expr.specs.Typed.{AreTyped}
use Rattle.pg_expr.specs.work.View as view
use Rattle.catalog.specs.Contents.{Contents}
use Rattle.catalog.specs.Range.{Range, type_in}
use Rattle.eq_classes.specs.Classes.{listed}
use Rattle.eq_classes.specs.Clauses.{Clause, ClassTable}
use Rattle.eq_classes.specs.Listing.{clause_at}
use Rattle.eq_classes.proofs.ConditionLemmas.{listed_conds}
use Rattle.path_cost.specs.work.Columns.{IsOver}
use Rattle.path_cost.specs.work.Limits.{HaveColumns}
use Rattle.path_cost.specs.Ranges.{bound_of, listed_condition, conditions, has_bound, is_bound_at}
use Rattle.path_cost.proofs.PartLemmas.{parts_over}

-- the parts of an AND, and the clauses of a query

pub clause_long : (t : ClassTable) → length (conditions t) ≡ length t.clauses
clause_long t = length-map t.clauses (λ (k : Clause). k.cond)

pub part_is : (es : List Expr) (n : ℕ) (x : Expr) → n < length es → x ≡ slice_index_or es n x → view.cond x ≡ listed_condition (map view.cond es) n
part_is [] n x h e = absurd (omega (arith, h))
part_is (y ∷ ys) zero x h e = ap view.cond e
part_is (y ∷ ys) (suc n) x h e = part_is ys n x (omega (arith, h)) e

clause-in : (ks : List Clause) (n : ℕ) → (clause_at ks n).cond ≡ listed_condition (map (λ (k : Clause). k.cond) ks) n
clause-in [] zero = refl
clause-in [] (suc n) = refl
clause-in (k ∷ ks) zero = refl
clause-in (k ∷ ks) (suc n) = clause-in ks n

pub clause_is : (t : ClassTable) (n : ℕ) → (clause_at t.clauses n).cond ≡ listed_condition (conditions t) n
clause_is t n = clause-in t.clauses n

-- the parts of an AND, listed
pub parts_listed : (es : List Expr) → listed (view.conds es) ≡ map view.cond es
parts_listed es = listed_conds (map view.cond es)

-- each part of an AND is over what it is over
pub parts_over_all : (c : Contents) (range : Range) (es : List Expr) → HaveColumns c range (view.conds es) → AreTyped (type_in c range) (view.conds es) → All (IsOver c range) (map view.cond es)
parts_over_all c range es h t = All-map (IsOver c range) view.cond es (parts_over c range es (record { columns = h; typed = t }))

pub over_at : (c : Contents) (range : Range) (es : List Cond) (n : ℕ) (e : Cond) → All (IsOver c range) es → n < length es → e ≡ listed_condition es n → IsOver c range e
over_at c range es n e h lt same = subst (IsOver c range) (sym same) (h n (const True) lt)

-- bounds of a column before a place

found : (test : Cond → Bool) (es : List Cond) (n end : ℕ) → n < end → end ≤ length es → test (listed_condition es n) ≡ true → list_any test (take end es) ≡ true
found test [] n end h k e = absurd (omega (arith, h, k))
found test (x ∷ xs) n zero h k e = absurd (omega (arith, h))
found test (x ∷ xs) zero (suc end) h k e = ap (λ b. b || list_any test (take end xs)) e
found test (x ∷ xs) (suc n) (suc end) h k e = later (test x) (list_any test (take end xs)) (found test xs n end (omega (arith, h)) (omega (arith, k)) e)
  where
    later : (a b : Bool) → b ≡ true → a || b ≡ true
    later a b f = grind (arith, common_steps, f)

missing : (test : Cond → Bool) (es : List Cond) (n : ℕ) → n < length es → list_any test (take n es) ≡ false → test (listed_condition es n) ≡ false → list_any test (take (n + 1) es) ≡ false
missing test es n h e f = list_any_more test es n (const True) h ∙ neither (list_any test (take n es)) (test (listed_condition es n)) e f
  where
    neither : (a b : Bool) → a ≡ false → b ≡ false → a || b ≡ false
    neither a b e f = grind (arith, common_steps, e, f)

pub bound_found : (x : ColRef) (below : Bool) (es : List Cond) (n end : ℕ) (e : Cond) → n < end → end ≤ length es → e ≡ listed_condition es n → is_bound_at x below (bound_of e) ≡ true → has_bound x below (take end es) ≡ true
bound_found x below es n end e h k same holds = found (λ y. is_bound_at x below (bound_of y)) es n end h k (ap (λ y. is_bound_at x below (bound_of y)) (sym same) ∙ holds)

pub bound_missing : (x : ColRef) (below : Bool) (es : List Cond) (n : ℕ) (e : Cond) → n < length es → has_bound x below (take n es) ≡ false → e ≡ listed_condition es n → is_bound_at x below (bound_of e) ≡ false → has_bound x below (take (n + 1) es) ≡ false
bound_missing x below es n e h none same not_one = missing (λ y. is_bound_at x below (bound_of y)) es n h none (ap (λ y. is_bound_at x below (bound_of y)) (sym same) ∙ not_one)
