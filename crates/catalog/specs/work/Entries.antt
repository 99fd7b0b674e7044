-- The tables and indexes of maps by name, as their definitions.
use Rattle.std.specs.Prelude.{◌≡◌, ◌+◌, ℕ, List, [], ◌∷◌, map, Vec}
use Rattle.std.specs.Option.{option_map}
use Rattle.std.specs.declared.alloc.Global.{Global}
use Rattle.pg_expr.specs.work.View.{cond}
use Rattle.catalog.specs.declared.index_def.IndexDef.{IndexDef}
pub use Rattle.catalog.specs.work.Known.{statistics}
use Rattle.catalog.specs.declared.table.Table.{Table}
use Rattle.catalog.specs.Contents.{Contents, NamedIndex, TableDef, numbers_from}
use Rattle.catalog.specs.Indexes.{Index}

-- two tables of the same columns and indexes, of which the same is known
pub record IsSameTable (a b : Table) : Type 0 where
  pub names : b.names ≡ a.names
  pub columns : b.columns ≡ a.columns
  pub loaded : b.loaded ≡ a.loaded
  pub sizes : b.sizes ≡ a.sizes
  pub stats : map (option_map statistics) b.stats.items ≡ map (option_map statistics) a.stats.items
  pub indexes : b.indexes.items ≡ a.indexes.items

-- the index that an `IndexDef` stands for
abbrev pub index_of : IndexDef → Index
index_of d = record { table = d.table; method = d.method; keys = d.keys.items; include = d.include.items; predicate = option_map cond d.predicate }

-- the definition that an entry stands for
abbrev pub table_def : Vec ℕ Global × Table → TableDef
table_def e = record {
  name = e.0.items;
  names = e.1.names;
  columns = e.1.columns;
  loaded = e.1.loaded;
  sizes = e.1.sizes;
  stats = map (option_map statistics) e.1.stats.items;
}

-- the definition and the name that an entry of the map of indexes stands for
abbrev pub named_index : Vec ℕ Global × IndexDef → NamedIndex
named_index e = record { name = e.0.items; index = index_of e.1 }

-- the contents that the entries stand for
abbrev pub contents_of : List (Vec ℕ Global × Table) → List (Vec ℕ Global × IndexDef) → Contents
contents_of tables indexes = record { tables = map table_def tables; indexes = map named_index indexes }

-- each table, the first with number n, is listed with the numbers of its indexes
abbrev pub AreListed : List NamedIndex → ℕ → List (Vec ℕ Global × Table) → Type 0
AreListed indexes n [] = Unit {0}
AreListed indexes n (e ∷ es) = (e.1.indexes.items ≡ numbers_from 0 indexes (record { 0 = n })) × AreListed indexes (n + 1) es
