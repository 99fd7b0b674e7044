-- Where key values stand to the part of an index that meets bounds: before it, in it or after it. Own.
use Rattle.std.specs.Prelude.{Bool, true, false, cond, List, [], ◌∷◌}
use Rattle.std.specs.Ordering.{is_gt, ordering_then, ordering_reverse}
use Rattle.std.specs.declared.cmp.Ordering.{Ordering}
use Rattle.std.specs.declared.cmp.Ordering.TheVariants.{Less, Equal, Greater}
use Rattle.pg_value.specs.declared.operators.Op.{Op}
use Rattle.pg_value.specs.declared.operators.Op.TheVariants.{Lt, Le, Eq, Ge, Gt, Ne, AbsLt, AbsLe, AbsEq, AbsGe, AbsGt}
use Rattle.pg_value.specs.declared.value.Value.{Value}
use Rattle.pg_value.specs.declared.value.Value.TheVariants.{Null}
use Rattle.pg_value.specs.ColumnOrder.{place_of_null, directed}
use Rattle.pg_value.specs.Truths.{accepts}
use Rattle.opfamily.specs.declared.classes.IndexKey.{IndexKey}
use Rattle.opfamily.specs.KeyOrder.{key_order}
use Rattle.btree_index.specs.declared.bounds.Probe.{Probe}
use Rattle.btree_index.specs.declared.bounds.Probe.TheVariants.{Bound, IsNull, NotNull}
use Rattle.btree_index.specs.work.Bounds.{fixes_column}

-- where a value stands that an operator does not accept, as values ascend: after those below a limit, before those above one
abbrev pub missed : Op → Ordering → Ordering
missed Lt o = Greater
missed Le o = Greater
missed Eq o = o
missed Ge o = Less
missed Gt o = Less
missed Ne o = Equal
missed AbsLt o = Greater
missed AbsLe o = Greater
missed AbsEq o = o
missed AbsGe o = Less
missed AbsGt o = Less

-- where a value stands to those that an operator accepts, as values ascend, by how it compares with the limit
abbrev pub side_ascending : Op → Ordering → Ordering
side_ascending op o = cond (accepts op o) Equal (missed op o)

-- where a value stands to those that an operator accepts, in a direction, by how it stands to the limit in that direction
abbrev pub side_of_limit : Op → Bool → Ordering → Ordering
side_of_limit op descending o = directed descending (side_ascending op (directed descending o))

-- a value against the limit of a comparison; one with NULL has an empty part
abbrev pub side_of_bound : IndexKey → Op → Value → Value → Ordering
side_of_bound k op Null v = Less
side_of_bound k op limit Null = place_of_null k.nulls_first
side_of_bound k op limit v = side_of_limit op k.descending (key_order k v limit)

-- a value against a condition of its key
abbrev pub side_of : IndexKey → Probe → Value → Ordering
side_of k (Bound b) v = side_of_bound k b.op b.value v
side_of k (IsNull c) Null = Equal
side_of k (IsNull c) v = ordering_reverse (place_of_null k.nulls_first)
side_of k (NotNull c) Null = place_of_null k.nulls_first
side_of k (NotNull c) v = Equal

-- a value against conditions of one column: after the part where one is passed, else before it where one is not reached
abbrev pub joined : Ordering → Ordering → Ordering
joined Less side = cond (is_gt side) Greater Less
joined Equal side = side
joined Greater side = Greater

-- a condition and what follows it: behind one that fixes its column the next column tells, behind another the column's
-- own conditions
abbrev pub go_on : Bool → Ordering → Ordering → Ordering → Ordering
go_on true side next same = ordering_then side next
go_on false side next same = joined side same

-- key values against bounds, from the left over the keys
abbrev pub side : List IndexKey → List Probe → List Value → Ordering
side ks [] vs = Equal
side [] (p ∷ ps) vs = Equal
side (k ∷ ks) (p ∷ ps) [] = Equal
side (k ∷ ks) (p ∷ ps) (v ∷ vs) = go_on (fixes_column p) (side_of k p v) (side ks ps vs) (side (k ∷ ks) ps (v ∷ vs))
