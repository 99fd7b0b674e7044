-- Working words beside those of `Listing`.
use Rattle.std.specs.Prelude.{◌≡◌, Option, ℕ, cond, is_some, List, [], ◌∷◌, map, Vec, ◌++◌, Bool, nat_lt, length, ◌&&◌, flat_map, option_map}
use Rattle.pg_expr.specs.declared.operand.ColRef.{ColRef}
use Rattle.opfamily.specs.pg_value_value_SqlType.{SqlType}
use Rattle.pg_expr.specs.Cond.{Cond}
use Rattle.eq_classes.specs.Equality.{equality_in, as_clause}
use Rattle.pg_expr.specs.work.View as view
use Rattle.eq_classes.specs.declared.clauses.Origin.{Origin}
use Rattle.eq_classes.specs.declared.clauses.Origin.TheVariants.{Conjunct, Class as OfClass, Pair}
use Rattle.eq_classes.specs.declared.clauses.Listed.{Listed}
use Rattle.eq_classes.specs.Classes.{Class}
use Rattle.opfamily.specs.pg_base_rel_set_RelSet.{RelSet}
use Rattle.opfamily.specs.pg_base_Sets.{has}
use Rattle.pg_expr.specs.Columns.{names_rel}
use Rattle.eq_classes.specs.Clauses.{ClauseSource, by_conjunct, by_class, by_pair, Clause, clause, inner_clause, first_in, one, ClassTable, pair_clause, equals_constant, conjunct_clauses, each_pair, inner_clauses, constant_clauses, class_clauses}
use Rattle.std.specs.declared.alloc.Global.{Global}
use Rattle.pg_expr.specs.declared.expr.Expr.{Expr}
use Rattle.eq_classes.specs.declared.classes.ClassNo.{ClassNo}
use Rattle.eq_classes.specs.Listing.{class_at, clause_at}

-- the number of a class that was found, if one was
abbrev pub class_no : Option ClassNo → Option ℕ
class_no = option_map (λ (n : ClassNo). n.0)

-- the direction of a class: whether it is descending, and whether NULL stands first
abbrev pub sort_direction : Class → Bool × Bool
sort_direction c = (c.descending, c.nulls_first)

-- the source of an entry's clause, with the class that the entry has by number
abbrev pub source_of : List Class → Origin → ClauseSource
source_of cs (Conjunct n) = by_conjunct n
source_of cs (OfClass n) = by_class n (class_at cs n)
source_of cs (Pair n l h) = by_pair n (class_at cs n) l.0 h.0

-- the clause that an entry stands for
abbrev pub clause_of : List Class → Listed → Clause
clause_of cs k = clause (view.cond k.expr) (source_of cs k.origin)

-- the clauses of all entries, in the order of their numbers, from 0
abbrev pub clauses_of : List Class → List Listed → List Clause
clauses_of cs ks = map (clause_of cs) ks

-- the entries gain these clauses at their end
abbrev pub Gains : List Class → Vec Listed Global → Vec Listed Global → List Clause → Type 0
Gains cs old new ks = clauses_of cs new.items ≡ clauses_of cs old.items ++ ks

-- the clause of an expression over one relation, from the class of a number
abbrev pub own_clause : List Class → ℕ → Expr → Clause
own_clause cs n e = clause (view.cond e) (by_class n (class_at cs n))

-- the pair clause of two columns of the class of a number
abbrev pub paired_at : List Class → ℕ → ColRef → ColRef → Clause
paired_at cs n x y = pair_clause n (class_at cs n) x y

-- the pair clauses of a column with each of some others
abbrev pub coupled : List Class → ℕ → ColRef → List ColRef → List Clause
coupled cs n x others = map (pair_clause n (class_at cs n) x) others

-- the pair clauses of each of some columns with each later one
abbrev pub pairings : List Class → ℕ → List ColRef → List Clause
pairings cs n firsts = each_pair (pair_clause n (class_at cs n)) firsts

-- `member = constant` for a member of the class of a number and each of the class's constants
abbrev pub column_constants : List Class → ℕ → ColRef → List Clause
column_constants cs n x = map (λ v. clause (equals_constant (class_at cs n) x v) (by_class n (class_at cs n))) (class_at cs n).constants

-- the clause of a member that is not the first of its relation
abbrev pub inner_at : ℕ → Class → ColRef → List Clause
inner_at n c x = inner_clause n c x (first_in c (one x.rel.0))

-- the clause of a conjunct that is no equality conjunct
abbrev pub conjunct_at : (ColRef → SqlType) → ℕ → Cond → List Clause
conjunct_at type_of n k = cond (is_some (equality_in type_of k)) [] (clause (as_clause type_of k) (by_conjunct n) ∷ [])

-- the clause of a member of the class of a number that is not the first of its relation
abbrev pub inner_clause_at : List Class → ℕ → ColRef → List Clause
inner_clause_at cs n x = inner_at n (class_at cs n) x

-- the clauses of those of some members that are not the first of their relations
abbrev pub inner_of : List Class → ℕ → List ColRef → List Clause
inner_of cs n members = flat_map (inner_at n (class_at cs n)) members

-- the clauses of all members of the class of a number that are not the first of their relations
abbrev pub inner_clauses_at : List Class → ℕ → List Clause
inner_clauses_at cs n = inner_clauses n (class_at cs n)

-- `member = constant` for every member and constant of the class of a number
abbrev pub constant_clauses_at : List Class → ℕ → List Clause
constant_clauses_at cs n = constant_clauses n (class_at cs n)

-- the clauses of the class of a number
abbrev pub class_clauses_at : List Class → ℕ → List Clause
class_clauses_at cs n = class_clauses n (class_at cs n)

-- the entries gain the clause of an expression, where it is no equality conjunct
abbrev pub GainsConjunct : (ColRef → SqlType) → List Class → ℕ → Expr → Vec Listed Global → Vec Listed Global → Type 0
GainsConjunct type_of cs n k old new = Gains cs old new (conjunct_at type_of n (view.cond k))

-- the entries gain the clauses of those of these expressions that are no equality conjunct
abbrev pub GainsConjuncts : (ColRef → SqlType) → List Class → Vec Expr Global → Vec Listed Global → Vec Listed Global → Type 0
GainsConjuncts type_of cs es old new = Gains cs old new (conjunct_clauses type_of 1 (map view.cond es.items))

-- a number is that of a clause of the table that passes a test
abbrev pub selects : (Clause → Bool) → ClassTable → ℕ → Bool
selects test t k = nat_lt k (length t.clauses) && test (clause_at t.clauses k)

-- the table of these entries and classes
abbrev pub table_of : List Class → List Listed → ClassTable
table_of cs ks = record { clauses = clauses_of cs ks; classes = cs }

-- each set holds the relations that the condition of its entry names
abbrev pub AreNamed : List RelSet → List Listed → Type 0
AreNamed [] [] = Unit {0}
AreNamed [] (k ∷ ks) = ⊥
AreNamed (s ∷ ss) [] = ⊥
AreNamed (s ∷ ss) (k ∷ ks) = ((r : ℕ) → has s.0 r ≡ names_rel r (view.cond k.expr)) × AreNamed ss ks
