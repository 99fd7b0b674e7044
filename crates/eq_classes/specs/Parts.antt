-- The parts of a clause list, each as a test of a clause.
-- Source: PostgreSQL, src/backend/optimizer/README (restriction and join clauses, parameterized paths); the choice of pair clauses is own.
use Rattle.std.specs.Prelude.{ℕ, suc, Bool, true, false, not, cond, ◌&&◌, ◌||◌, nat_eq, List, [], ◌∷◌, Option, Some, None}
use Rattle.std.specs.List.{list_any}
use Rattle.pg_expr.specs.declared.operand.ColRef.{ColRef}
use Rattle.pg_expr.specs.Cond.{Cond}
use Rattle.pg_expr.specs.Columns.{some_column, each_column, names_rel}
use Rattle.eq_classes.specs.Classes.{Class}
use Rattle.eq_classes.specs.Clauses.{Set, one, ClauseSource, by_conjunct, by_class, by_pair, Clause, first_in, has_constant}

-- the relations of either of two sets: those of a join of them
abbrev pub union : Set → Set → Set
union a b k = a k || b k

-- a condition names some column
abbrev pub has_column : Cond → Bool
has_column e = some_column (λ x. true) e

-- a condition is inside a set of relations; one without a column belongs to relation 0
abbrev pub is_inside : Set → Cond → Bool
is_inside set e = each_column (λ x. set x.rel.0) e && (has_column e || set 0)

-- a condition names some relation of a set
abbrev pub names_some : Set → Cond → Bool
names_some set e = some_column (λ x. set x.rel.0) e

-- a class has a member in a set of relations
abbrev pub has_in : Class → Set → Bool
has_in c set = list_any (λ x. set x.rel.0) c.members

-- a relation is the lowest one of a set in which a class has a member
abbrev pub is_relation_of : Option ColRef → ℕ → Bool
is_relation_of None r = false
is_relation_of (Some x) r = nat_eq x.rel.0 r

-- a relation is the lowest of a set in which a class has a member, so that its pair clause stands for the set
abbrev pub is_lowest : Class → Set → ℕ → Bool
is_lowest c set r = is_relation_of (first_in c set) r

-- two relations are the lowest ones with members of the one set and of the other, either way round
abbrev pub are_lowest : Class → Set → Set → ℕ → ℕ → Bool
are_lowest c a b l h = (is_lowest c a l && is_lowest c b h) || (is_lowest c b l && is_lowest c a h)

-- Base(r): clauses over r alone
abbrev pub is_base : ℕ → Clause → Bool
is_base r k = is_inside (one r) k.cond

-- Param(r, P): conjunct clauses inside r and P that name r and some relation of P; for each class with members in r and
-- in P, the pair clause of r and the lowest relation of P with a member
abbrev pub is_param_from : ℕ → Set → Cond → ClauseSource → Bool
is_param_from r p e (by_conjunct n) = is_inside (union (one r) p) e && (names_rel r e && names_some p e)
is_param_from r p e (by_class n c) = false
is_param_from r p e (by_pair n c l h) = are_lowest c (one r) p l h

-- a clause of Param(r, P): it joins r with relations of P, and a scan of r that is given their rows tests it
abbrev pub is_param : ℕ → Set → Clause → Bool
is_param r p k = is_param_from r p k.cond k.source

-- a clause is over a relation alone, or one that it tests with the relations of a parameterisation
abbrev pub is_local : ℕ → Set → Clause → Bool
is_local r p k = is_base r k || is_param r p k

-- Join(A, B): conjunct clauses inside the union and inside neither; for each class with members in both, the pair
-- clause of the lowest such relation of each
abbrev pub is_join_from : Set → Set → Cond → ClauseSource → Bool
is_join_from a b e (by_conjunct n) = is_inside (union a b) e && (not (is_inside a e) && not (is_inside b e))
is_join_from a b e (by_class n c) = false
is_join_from a b e (by_pair n c l h) = are_lowest c a b l h

-- a clause of Join(A, B): a join of A with B tests it, and neither side has
abbrev pub is_join : Set → Set → Clause → Bool
is_join a b k = is_join_from a b k.cond k.source

-- Join(A, (r, P)): Join(A, {r}) without the conjunct clauses of Param(r, P) and without the classes with members in r and P
abbrev pub is_left_out : ℕ → Set → Cond → ClauseSource → Bool
is_left_out r p e (by_conjunct n) = is_param_from r p e (by_conjunct n)
is_left_out r p e (by_class n c) = has_in c (one r) && has_in c p
is_left_out r p e (by_pair n c l h) = has_in c (one r) && has_in c p

-- a clause of Join(A, (r, P)): a join of A with a scan of r that is given rows of P tests it, and the scan has not
abbrev pub is_join_param : Set → ℕ → Set → Clause → Bool
is_join_param a r p k = is_join a (one r) k && not (is_left_out r p k.cond k.source)

-- All(S): conjunct clauses inside S, Base of each relation in S, and the pair clauses of a class's lowest relation in S
-- with each other one in S. A clause of a class over one relation is inside S where that relation is
abbrev pub is_all_from : Set → Cond → ClauseSource → Bool
is_all_from set e (by_conjunct n) = is_inside set e
is_all_from set e (by_class n c) = is_inside set e
is_all_from set e (by_pair n c l h) = is_lowest c set l && set h

-- a clause of All(S): each one that the rows of S alone decide, with no pair clause that others of S imply
abbrev pub is_all : Set → Clause → Bool
is_all set k = is_all_from set k.cond k.source

-- the joining classes of two sets: those without a constant with members in both
abbrev pub is_joining : Set → Set → Class → Bool
is_joining a b c = not (has_constant c) && (has_in c a && has_in c b)

-- their numbers; the first class of the list has the number given
abbrev pub joining_from : Set → Set → ℕ → List Class → List ℕ
joining_from a b n [] = []
joining_from a b n (c ∷ cs) = cond (is_joining a b c) (n ∷ joining_from a b (suc n) cs) (joining_from a b (suc n) cs)
