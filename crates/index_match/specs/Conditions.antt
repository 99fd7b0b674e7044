-- The conditions of an index. Source: PostgreSQL manual, Multicolumn Indexes, Operator Classes and Operator Families; src/backend/optimizer/path/indxpath.c.
use Rattle.std.specs.Prelude.{ℕ, Bool, true, false, not, ◌&&◌, ◌||◌, nat_eq, List, filter, take, is_some}
use Rattle.std.specs.List.{list_any}
use Rattle.pg_base.specs.declared.numbers.IndexNo.{IndexNo}
use Rattle.catalog.specs.pg_value_operators_Op.{Op}
use Rattle.catalog.specs.pg_value_value_Value_TheVariants.{Null}
use Rattle.catalog.specs.opfamily_Answers.{number_in}
use Rattle.catalog.specs.opfamily_KeyOrder.{key_family}
use Rattle.catalog.specs.opfamily_classes_IndexKey.{IndexKey}
use Rattle.catalog.specs.opfamily_classes_Method.{Method}
use Rattle.catalog.specs.opfamily_classes_Method_TheVariants.{Btree, Hash}
use Rattle.pg_expr.specs.declared.operand.ColRef.{ColRef}
use Rattle.pg_expr.specs.declared.operand.Operand.{Operand}
use Rattle.pg_expr.specs.declared.operand.Operand.TheVariants.{Col, Lit}
use Rattle.pg_expr.specs.Cond.{Cond, compare, is_null, is_not_null}
use Rattle.catalog.specs.Contents.{Contents, index_at}
use Rattle.catalog.specs.Indexes.{Index}
use Rattle.eq_classes.specs.Clauses.{Set, ClassTable}
use Rattle.index_match.specs.Numbered.{Numbered, local}

-- a hash index: it serves equality alone, in no order
abbrev pub is_hash : Method → Bool
is_hash Btree = false
is_hash Hash = true

-- the operator is in the family of the key's class, for the method
abbrev pub is_family_operator : Method → IndexKey → Op → Bool
is_family_operator m k op = is_some (number_in (key_family k) m op)

-- a column is that of the key, of the relation
abbrev pub is_key : ℕ → IndexKey → ColRef → Bool
is_key r k x = nat_eq x.rel.0 r && nat_eq x.col.0 k.col.0

-- a side of a comparison is the key's column
abbrev pub is_key_side : ℕ → IndexKey → Operand → Bool
is_key_side r k (Col x) = is_key r k x
is_key_side r k (Lit v) = false

-- a side that a column of the relation may be compared with: a literal that is not NULL, or a column of another relation
abbrev pub is_outside : ℕ → Operand → Bool
is_outside r (Lit Null) = false
is_outside r (Lit v) = true
is_outside r (Col x) = not (nat_eq x.rel.0 r)

-- one side of a comparison is the key's column, and the other what it may be compared with
abbrev pub is_across : ℕ → IndexKey → Operand → Operand → Bool
is_across r k a b = (is_key_side r k a && is_outside r b) || (is_outside r a && is_key_side r k b)

-- a condition that an index may use on a key column: column op literal or column of another relation, either way round, with an operator of the key's family; for a B-tree IS NULL and IS NOT NULL
abbrev pub has_key_form : Method → ℕ → IndexKey → Cond → Bool
has_key_form m r k (compare op a b) = is_family_operator m k op && is_across r k a b
has_key_form m r k (is_null x) = not (is_hash m) && is_key r k x
has_key_form m r k (is_not_null x) = not (is_hash m) && is_key r k x
has_key_form m r k _ = false

-- a condition is on some key column of the index
abbrev pub is_condition : Index → ℕ → Cond → Bool
is_condition d r e = list_any (λ k. has_key_form d.method r k e) d.keys

-- a hash index has the first one alone
abbrev pub allowed : Method → List Numbered → List Numbered
allowed Btree cs = cs
allowed Hash cs = take 1 cs

-- the clauses of a list that an index has as conditions
abbrev pub conditions_among : Index → ℕ → List Numbered → List Numbered
conditions_among d r cs = allowed d.method (filter (λ (c : Numbered). is_condition d r c.cond) cs)

-- the conditions of an index, among the clauses of a relation and of its parameterisation
abbrev pub index_conditions : Contents → ClassTable → IndexNo → ℕ → Set → List Numbered
index_conditions c t i r p = conditions_among (index_at c i) r (local t r p)
