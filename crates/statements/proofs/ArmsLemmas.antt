-- Each OR of a query whose conjuncts have parts has an arm: pushing NOT keeps the parts, and a clause of a class is no OR.
use Rattle.std.proofs.Common.{◌≡◌, ℕ, suc, ◌≤◌, Bool, true, false, not, ◌&&◌, List, [], ◌∷◌, ◌++◌, length, map, filter, cond, is_some, All, Option, Some, None, sym, subst, arith}
use Rattle.std.specs.List.{flat_map}
use Rattle.std.proofs.lemmas.List.Elements.{All-append, All-cons, All-nil, All-tail}
use Rattle.pg_value.specs.declared.operators.Op.{Op}
use Rattle.pg_value.specs.declared.value.SqlType.{SqlType}
use Rattle.pg_value.specs.Truths.{commutator_of, negator_of}
use Rattle.pg_expr.specs.declared.operand.ColRef.{ColRef}
use Rattle.pg_expr.specs.declared.operand.Operand.{Operand}
use Rattle.pg_expr.specs.declared.operand.Operand.TheVariants.{Col, Lit}
use Rattle.pg_expr.specs.Cond.{Cond, compare, is_null, is_not_null, bool_col, const, all_of, any_of, negation, Conds, no_conds, cond_and, joined}
use Rattle.pg_expr.specs.Conjuncts.{conjuncts_of}
use Rattle.pg_expr.specs.Pushed.{group_of, is_turned, parts_of, placed, placed_not, pushed, pushed_parts}
use Rattle.catalog.specs.Contents.{Contents}
use Rattle.eq_classes.specs.Classes.{Class, conjuncts_in, listed}
use Rattle.eq_classes.specs.Clauses.{Clause, class_clauses, clause, clauses_from, conjunct_clauses, constant_clauses, each_pair, equals, equals_constant, by_class, by_conjunct, first_in, has_constant, inner_clause, inner_clauses, is_first, one, pair_clause, pair_clauses}
use Rattle.eq_classes.specs.Equality.{as_clause, equality_family, equality_in, is_column}
use Rattle.eq_classes.specs.Holding.{IsClassTable}
use Rattle.index_match.specs.Arms.{arms_of}
use Rattle.plan_tree.specs.Bitmaps.{is_or}
use Rattle.sql_query.specs.Queries.{Query}
use Rattle.sql_query.specs.WellBound.{given_of}
use Rattle.plan_reply.specs.certificate_laws_Arms.{HasArmsInOrs}
use Rattle.expr_reader.specs.work.Parted.{HasParts, HaveParts, IsSome}
use Rattle.query_reader.proofs.PartedLemmas.{conjuncts-parted, listed-parted}
use Rattle.query_reader.proofs.PartedLemmas.{joined-parted}

-- pushing NOT
placed-by : (turned : Bool) (op : Op) (l r : Operand) → HasParts (cond turned (compare (commutator_of op) r l) (compare op l r))
placed-by true op l r = tt
placed-by false op l r = tt

placed-parted : (op : Op) (l r : Operand) → HasParts (placed op l r)
placed-parted op l r = placed-by (is_turned l r) op l r

not-parted : (o : Option Op) (op : Op) (l r : Operand) → HasParts (placed_not o op l r)
not-parted (Some n) op l r = placed-parted n l r
not-parted None op l r = placed-parted op l r

group-parted : (any : Bool) (cs : Conds) → IsSome cs → HaveParts cs → HasParts (group_of any cs)
group-parted false cs some parts = (some, parts)
group-parted true cs some parts = (some, parts)

joined-some : (cs ds : Conds) → IsSome cs → IsSome (joined cs ds)
joined-some no_conds ds some = absurd some
joined-some (cond_and c cs) ds some = tt

parts-parted : (any : Bool) (c : Cond) → HasParts c → IsSome (parts_of any c) × HaveParts (parts_of any c)
parts-parted false (all_of cs) h = h
parts-parted true (all_of cs) h = (tt, (h, tt))
parts-parted false (any_of cs) h = (tt, (h, tt))
parts-parted true (any_of cs) h = h
parts-parted false (compare op l r) h = (tt, (h, tt))
parts-parted true (compare op l r) h = (tt, (h, tt))
parts-parted false (is_null c) h = (tt, (h, tt))
parts-parted true (is_null c) h = (tt, (h, tt))
parts-parted false (is_not_null c) h = (tt, (h, tt))
parts-parted true (is_not_null c) h = (tt, (h, tt))
parts-parted false (bool_col c) h = (tt, (h, tt))
parts-parted true (bool_col c) h = (tt, (h, tt))
parts-parted false (const t) h = (tt, (h, tt))
parts-parted true (const t) h = (tt, (h, tt))
parts-parted false (negation c) h = (tt, (h, tt))
parts-parted true (negation c) h = (tt, (h, tt))

mutual
  pushed-parted : (negated : Bool) (c : Cond) → HasParts c → HasParts (pushed negated c)
  pushed-parted false (compare op l r) h = placed-parted op l r
  pushed-parted true (compare op l r) h = not-parted (negator_of op) op l r
  pushed-parted false (is_null c) h = tt
  pushed-parted true (is_null c) h = tt
  pushed-parted false (is_not_null c) h = tt
  pushed-parted true (is_not_null c) h = tt
  pushed-parted false (bool_col c) h = tt
  pushed-parted true (bool_col c) h = tt
  pushed-parted false (const t) h = tt
  pushed-parted true (const t) h = tt
  pushed-parted negated (all_of cs) h = group-parted negated (pushed_parts negated negated cs) (some-pushed negated negated cs h.0 h.1) (have-pushed negated negated cs h.1)
  pushed-parted negated (any_of cs) h = group-parted (not negated) (pushed_parts negated (not negated) cs) (some-pushed negated (not negated) cs h.0 h.1) (have-pushed negated (not negated) cs h.1)
  pushed-parted negated (negation c) h = pushed-parted (not negated) c h

  have-pushed : (negated any : Bool) (cs : Conds) → HaveParts cs → HaveParts (pushed_parts negated any cs)
  have-pushed negated any no_conds h = tt
  have-pushed negated any (cond_and c cs) h =
      joined-parted (parts_of any (pushed negated c)) (pushed_parts negated any cs) (parts-parted any (pushed negated c) (pushed-parted negated c h.0)).1 (have-pushed negated any cs h.1)

  some-pushed : (negated any : Bool) (cs : Conds) → IsSome cs → HaveParts cs → IsSome (pushed_parts negated any cs)
  some-pushed negated any no_conds some h = absurd some
  some-pushed negated any (cond_and c cs) some h =
      joined-some (parts_of any (pushed negated c)) (pushed_parts negated any cs) (parts-parted any (pushed negated c) (pushed-parted negated c h.0)).0

-- lists made of lists
flat-all : {A B : Type 0} (Q : A → Type 0) (P : B → Type 0) (f : A → List B) → ((x : A) → Q x → All P (f x)) → (xs : List A) → All Q xs → All P (flat_map f xs)
flat-all Q P f each [] h = All-nil P
flat-all Q P f each (x ∷ xs) h = All-append P (f x) (flat_map f xs) (each x (h 0 x (omega arith))) (flat-all Q P f each xs (All-tail Q x xs h))

each-flat : {A B : Type 0} (P : B → Type 0) (f : A → List B) → ((x : A) → All P (f x)) → (xs : List A) → All P (flat_map f xs)
each-flat P f each [] = All-nil P
each-flat P f each (x ∷ xs) = All-append P (f x) (flat_map f xs) (each x) (each-flat P f each xs)

each-map : {A B : Type 0} (P : B → Type 0) (f : A → B) → ((x : A) → P (f x)) → (xs : List A) → All P (map f xs)
each-map P f each [] = All-nil P
each-map P f each (x ∷ xs) = All-cons P (f x) (map f xs) (each x) (each-map P f each xs)

each-paired : {A B : Type 0} (P : B → Type 0) (f : A → A → B) → ((x y : A) → P (f x y)) → (xs : List A) → All P (each_pair f xs)
each-paired P f each [] = All-nil P
each-paired P f each (x ∷ xs) = All-append P (map (f x) xs) (each_pair f xs) (each-map P (f x) (each x) xs) (each-paired P f each xs)

conjuncts-all : (ws : List Cond) → All HasParts ws → All HasParts (conjuncts_in ws)
conjuncts-all ws h =
    flat-all HasParts HasParts (λ w. listed (conjuncts_of (pushed false w))) (λ w p. listed-parted (conjuncts_of (pushed false w)) (conjuncts-parted (pushed false w) (pushed-parted false w p))) ws h

-- the condition is no OR, or has an arm
abbrev HasArm : Clause → Type 0
HasArm k = is_or k.cond ≡ true → 1 ≤ length (arms_of k.cond)

some-arm : (c : Cond) → HasParts c → is_or c ≡ true → 1 ≤ length (arms_of c)
some-arm (any_of no_conds) h is = absurd h.0
some-arm (any_of (cond_and c cs)) h is = omega arith
some-arm (all_of cs) h is = absurd (cc (is))
some-arm (compare op l r) h is = absurd (cc (is))
some-arm (is_null c) h is = absurd (cc (is))
some-arm (is_not_null c) h is = absurd (cc (is))
some-arm (bool_col c) h is = absurd (cc (is))
some-arm (const t) h is = absurd (cc (is))
some-arm (negation c) h is = absurd (cc (is))

module _ (type_of : ColRef → SqlType) where
  clause-by : (same : Bool) (op : Op) (c d : ColRef) → HasParts (cond same (is_not_null c) (compare op (Col c) (Col d)))
  clause-by true op c d = tt
  clause-by false op c d = tt

  clause-parted : (c : Cond) → HasParts c → HasParts (as_clause type_of c)
  clause-parted (compare op (Col c) (Col d)) h = clause-by (is_column c d && is_some (equality_family op (type_of c))) op c d
  clause-parted (compare op (Col c) (Lit v)) h = h
  clause-parted (compare op (Lit v) r) h = h
  clause-parted (is_null c) h = h
  clause-parted (is_not_null c) h = h
  clause-parted (bool_col c) h = h
  clause-parted (const t) h = h
  clause-parted (all_of cs) h = h
  clause-parted (any_of cs) h = h
  clause-parted (negation c) h = h

  kept-arms : (equality : Bool) (k : Clause) (ks : List Clause) → HasArm k → All HasArm ks → All HasArm (cond equality ks (k ∷ ks))
  kept-arms true k ks arm arms = arms
  kept-arms false k ks arm arms = All-cons HasArm k ks arm arms

  conjunct-arms : (n : ℕ) (ks : List Cond) → All HasParts ks → All HasArm (conjunct_clauses type_of n ks)
  conjunct-arms n [] h = All-nil HasArm
  conjunct-arms n (k ∷ ks) h =
      kept-arms (is_some (equality_in type_of k)) (clause (as_clause type_of k) (by_conjunct n)) (conjunct_clauses type_of (suc n) ks)
      (λ is. some-arm (as_clause type_of k) (clause-parted k (h 0 k (omega arith))) is) (conjunct-arms (suc n) ks (All-tail HasParts k ks h))

constant-arms : (n : ℕ) (c : Class) → All HasArm (constant_clauses n c)
constant-arms n c = each-flat HasArm (λ x. map (λ v. clause (equals_constant c x v) (by_class n c)) c.constants) (λ x. each-map HasArm (λ v. clause (equals_constant c x v) (by_class n c)) (λ v is. absurd (cc (is))) c.constants) c.members

inner-by : (same : Bool) (n : ℕ) (c : Class) (first x : ColRef) → All HasArm (cond same [] (clause (equals c first x) (by_class n c) ∷ []))
inner-by true n c first x = All-nil HasArm
inner-by false n c first x = All-cons HasArm (clause (equals c first x) (by_class n c)) [] (λ is. absurd (cc (is))) (All-nil HasArm)

inner-arm : (n : ℕ) (c : Class) (x : ColRef) (o : Option ColRef) → All HasArm (inner_clause n c x o)
inner-arm n c x None = All-nil HasArm
inner-arm n c x (Some first) = inner-by (is_column x first) n c first x

inner-arms : (n : ℕ) (c : Class) → All HasArm (inner_clauses n c)
inner-arms n c = each-flat HasArm (λ x. inner_clause n c x (first_in c (one x.rel.0))) (λ x. inner-arm n c x (first_in c (one x.rel.0))) c.members

pair-arms : (n : ℕ) (c : Class) → All HasArm (pair_clauses n c)
pair-arms n c = each-paired HasArm (pair_clause n c) (λ x y is. absurd (cc (is))) (filter (is_first c) c.members)

class-by : (constant : Bool) (n : ℕ) (c : Class) → All HasArm (cond constant (constant_clauses n c) (inner_clauses n c ++ pair_clauses n c))
class-by true n c = constant-arms n c
class-by false n c = All-append HasArm (inner_clauses n c) (pair_clauses n c) (inner-arms n c) (pair-arms n c)

classes-arms : (n : ℕ) (cs : List Class) → All HasArm (clauses_from n cs)
classes-arms n [] = All-nil HasArm
classes-arms n (c ∷ cs) = All-append HasArm (class_clauses n c) (clauses_from (suc n) cs) (class-by (has_constant c) n c) (classes-arms (suc n) cs)

pub has-arms : (c : Contents) (q : Query) → IsClassTable (given_of c q) q.classes → All HasParts q.where_all → HasArmsInOrs q
has-arms c q own parts =
    let g = given_of c q in
    subst (λ (ks : List Clause). All HasArm ks) (sym own.clauses)
    (All-append HasArm (conjunct_clauses g.type_of 1 g.conjuncts) (clauses_from 0 q.classes.classes) (conjunct-arms g.type_of 1 g.conjuncts (conjuncts-all q.where_all parts)) (classes-arms 0 q.classes.classes))
