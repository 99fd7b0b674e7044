-- Values of a column's kind may stand beside its statistics.
use Rattle.std.proofs.Common.{◌≡◌, refl, false, All}
use Rattle.pg_value.specs.declared.operators.Op.{Op}
use Rattle.pg_value.specs.declared.operators.Op.TheVariants.{Eq}
use Rattle.pg_value.specs.declared.value.SqlType.{SqlType}
use Rattle.pg_value.specs.declared.value.Value.{Value}
use Rattle.pg_value.specs.declared.value.Value.TheVariants.{Null, Int, Bool as Flag, Text as String}
use Rattle.pg_value.specs.Truths.{AreComparable, HasOp, IsSameKind, is_absolute}
use Rattle.pg_value.specs.Types.{IsOfType}
use Rattle.pg_expr.specs.Typed.{some_value}
use Rattle.catalog.specs.Statistics.{Common}
use Rattle.path_cost.specs.work.Known.{IsLawfulKnown, SuitsColumn}
use Rattle.path_cost.specs.declared.known.Known.{Known}
use Rattle.pg_expr.proofs.DefinedLaws.{like_type, same_kind-like}

has-plain : (op : Op) (v : Value) → is_absolute op ≡ false → HasOp op v
has-plain op Null h = tt
has-plain op (Int n) h = tt
has-plain op (Flag b) h = h
has-plain op (String t) h = h

same-kind : (t : SqlType) (p v : Value) → IsOfType t p → IsSameKind (some_value t) v → IsSameKind p v
same-kind t p v h k = same_kind-like (some_value t) p v (like_type t p h) k

compares : (t : SqlType) (op : Op) (p v : Value) → is_absolute op ≡ false → IsOfType t p → IsSameKind (some_value t) v → AreComparable op p v
compares t op p v plain h k = (has-plain op p plain, has-plain op v plain, same-kind t p v h k)

pub common_compare : (k : Known) (op : Op) (v : Value) → is_absolute op ≡ false → IsLawfulKnown k → SuitsColumn k v → All (λ (p : Common). AreComparable op p.0 v) k.common.now
common_compare k op v plain h suits = λ i x within. compares k.typed op _ v plain (h.values.common i x within).1 suits

pub common_equal : (k : Known) (v : Value) → IsLawfulKnown k → SuitsColumn k v → All (λ (p : Common). AreComparable Eq p.0 v) k.common.now
common_equal k v h suits = common_compare k Eq v refl h suits

pub bounds_compare : (k : Known) (op : Op) (v : Value) → is_absolute op ≡ false → IsLawfulKnown k → SuitsColumn k v → All (λ b. AreComparable op b v) k.histogram.now
bounds_compare k op v plain h suits = λ i x within. compares k.typed op _ v plain (h.values.histogram i x within).1 suits
