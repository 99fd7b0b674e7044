-- What a plan's set and parameterisation determine.
use Rattle.std.proofs.Common.{◌≡◌, ℕ, Bool, true, false, cond, nat_eq, refl, sym, ◌∙◌, ap₂}
use Rattle.std.proofs.lemmas.Bool.{false≢true, eqb-true, eq-eqb}
use Rattle.std.specs.Prelude.{Option, Some, None, IfSome}
use Rattle.pg_base.specs.Sets.{has}
use Rattle.pg_base.proofs.SetLaws.{none-zero, same_set}
use Rattle.pg_base.specs.declared.numbers.RelNo.{RelNo}
use Rattle.pg_base.specs.declared.rel_set.RelSet.{RelSet}
use Rattle.sql_query.specs.catalog_Contents.{Contents}
use Rattle.eq_classes.specs.Clauses.{Set, one}
use Rattle.sql_query.specs.Queries.{Query}
use Rattle.plan_tree.specs.Plans.{Plan, seq, index, index_only, bitmap, sort, nest, merge, set_of, GivenScan, given_scan, param_in, is_empty, joins, joins_with}
use Rattle.plan_tree.specs.Costs.{estimate, rows_given}
use Rattle.plan_tree.specs.Space.{IsSameSet, IsLike}

-- a scan that is given rows has a parameterisation, and is of one relation
abbrev Fits : Set → GivenScan → Type 0
Fits set s = (is_empty s.param ≡ false) × IsSameSet set (one s.relation.0)

given-fits : (r : RelNo) (p : RelSet) (b : Bool) → is_empty p ≡ b → IfSome (cond b None (Some (record { relation = r; param = p }))) (Fits (one r.0))
given-fits r p true e = tt
given-fits r p false e = (e, λ k. refl)

fits : (p : Plan) → IfSome (given_scan p) (Fits (set_of p))
fits (seq r) = tt
fits (index r i backward p) = given-fits r p (is_empty p) refl
fits (index_only r i backward p) = given-fits r p (is_empty p) refl
fits (bitmap r p bits) = given-fits r p (is_empty p) refl
fits (sort keys input) = fits input
fits (nest outer inner) = tt
fits (merge keys outer inner) = tt

no-param : (s : GivenScan) → is_empty s.param ≡ false → ((k : ℕ) → has s.param.0 k ≡ false) → ⊥
no-param s e none = false≢true (sym e ∙ eq-eqb s.param.0 0 (none-zero s.param.0 none))

same-given : (g h : Option GivenScan) (a b : Set) → IfSome g (Fits a) → IfSome h (Fits b) → IsSameSet a b → IsSameSet (param_in g) (param_in h) → g ≡ h
same-given None None a b f f' sets params = refl
same-given None (Some s) a b f f' sets params = absurd (no-param s f'.0 (λ k. sym (params k)))
same-given (Some s) None a b f f' sets params = absurd (no-param s f.0 params)
same-given (Some s) (Some t) a b f f' sets params =
    let n = s.relation.0 in
    let at : nat_eq n n ≡ nat_eq n t.relation.0 = sym (f.1 n) ∙ sets n ∙ f'.1 n in
    let rel : n ≡ t.relation.0 = eqb-true n t.relation.0 (sym at ∙ eq-eqb n n refl) in
    let param : s.param.0 ≡ t.param.0 = same_set s.param.0 t.param.0 params in
    ap₂ (λ (r p : ℕ). Some (record { relation = record { 0 = r }; param = record { 0 = p } })) rel param

-- plans of the same set and parameterisation are given the same
pub given-like : (p other : Plan) → IsLike p other → given_scan p ≡ given_scan other
given-like p other h = same-given (given_scan p) (given_scan other) (set_of p) (set_of other) (fits p) (fits other) h.set h.param

-- sets with the same members are one
pub set-like : (p other : Plan) → IsLike p other → set_of p ≡ set_of other
set-like p other h = λ i k. h.set k i

pub rows-like : (c : Contents) (q : Query) (p other : Plan) → IsLike p other → estimate c q p ≡ estimate c q other
rows-like c q p other h = ap₂ (rows_given c q) (set-like p other h) (given-like p other h)

pub joins-like : (o p i j : Plan) → IsLike o p → IsLike i j → joins (set_of o) i ≡ joins (set_of p) j
joins-like o p i j h k = λ x. joins_with (set-like o p h x) (set-like i j k x) (given-like i j k x)
