-- The conditions of an index as bounds: they are bounds of its keys, and they are met where the conditions that bound it are True.
use Rattle.std.proofs.Common.{◌≡◌, true, is_some, refl, not, ◌||◌}
use Rattle.pg_value.specs.declared.operators.Family.{Family}
use Rattle.pg_value.specs.declared.operators.Op.{Op}
use Rattle.pg_value.specs.declared.value.SqlType.{SqlType}
use Rattle.pg_value.specs.declared.value.Value.{Value}
use Rattle.pg_value.specs.work.Order.{IsOfFamily}
use Rattle.pg_value.specs.Truths.{IsSameKind, commutator_of}
use Rattle.opfamily.specs.Answers.{accepted, number_in}
use Rattle.opfamily.specs.KeyOrder.{key_family}
use Rattle.opfamily.specs.declared.classes.IndexKey.{IndexKey}
use Rattle.opfamily.specs.declared.classes.Method.{Method}
use Rattle.opfamily.specs.declared.classes.Method.TheVariants.{Btree}
use Rattle.pg_expr.specs.Typed.{some_value}
use Rattle.opfamily.proofs.TableLemmas.{every_pair, implied}
use Rattle.pg_expr.proofs.DefinedLaws.{family_like, like_kind}
use Rattle.eq_classes.proofs.DefaultLemmas.{class_fits}

-- an operator of a family for B-trees has its commutator there
pub commutes : (f : Family) (op : Op) → is_some (number_in f Btree op) ≡ true → is_some (number_in f Btree (commutator_of op)) ≡ true
commutes f op = implied (is_some (number_in f Btree op)) (is_some (number_in f Btree (commutator_of op))) (every_pair (λ g o. not (is_some (number_in g Btree o)) || is_some (number_in g Btree (commutator_of o))) (λ scale. refl) f op)

pub key_fits : (k : IndexKey) (m : Method) (t : SqlType) → accepted k.class m t ≡ true → IsOfFamily (key_family k) (some_value t)
unfolding key_family
key_fits k m t h = class_fits k.class m t h

-- a value of the kind of one that a family orders is ordered by it
pub same_family : (f : Family) (t : SqlType) (v : Value) → IsOfFamily f (some_value t) → IsSameKind (some_value t) v → IsOfFamily f v
same_family f t v h same = family_like f (some_value t) v (like_kind t v same) h
