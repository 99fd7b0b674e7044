-- Working words beside those of `Types`.
use Rattle.std.specs.Prelude.{Bool, true, false}
use Rattle.pg_value.specs.declared.value.SqlType.{SqlType}
use Rattle.pg_value.specs.declared.value.SqlType.TheVariants.{Text as TextType, Uuid as UuidType}

-- the values of a type are texts, of which each takes memory
abbrev pub has_texts : SqlType → Bool
has_texts TextType = true
has_texts UuidType = true
has_texts _ = false
