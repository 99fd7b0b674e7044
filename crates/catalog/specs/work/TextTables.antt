-- A catalogue whose first table has two text columns, for examples. Own.
use Rattle.std.specs.Prelude.{◌≡◌, ◌<◌, false, List, [], ◌∷◌, length}
use Rattle.opfamily.specs.pg_value_columns_Column.{Column}
use Rattle.opfamily.specs.pg_value_value_SqlType_TheVariants.{Text}
use Rattle.catalog.specs.Contents.{Contents, table_at}

-- two columns of text that may be NULL
abbrev pub texts : List Column
texts = record { typed = Text; not_null = false } ∷ record { typed = Text; not_null = false } ∷ []

-- the first table has the two columns
abbrev pub HasTexts : Contents → Type 0
HasTexts c = (0 < length c.tables) × ((table_at c (record { 0 = 0 })).columns ≡ texts)
