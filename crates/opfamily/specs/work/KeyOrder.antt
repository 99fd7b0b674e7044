-- Working words beside those of `KeyOrder`.
use Rattle.std.specs.Prelude.{List}
use Rattle.std.specs.List.{AllZip}
use Rattle.pg_value.specs.declared.value.Value.{Value}
use Rattle.pg_value.specs.work.Order.{IsOfFamily}
use Rattle.opfamily.specs.declared.classes.IndexKey.{IndexKey}
use Rattle.opfamily.specs.KeyOrder.{key_family}

-- one value for each key, NULL or of the kind that the key's family orders
abbrev pub AreKeyValues : List IndexKey → List Value → Type 0
AreKeyValues ks vs = AllZip (λ (k : IndexKey) v. IsOfFamily (key_family k) v) ks vs
