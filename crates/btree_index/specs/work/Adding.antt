-- Entries that are added one by one. Own.
use Rattle.std.specs.Prelude.{◌≡◌, List, ◌++◌}
use Rattle.pg_value.specs.Sorting.{in_order}
use Rattle.opfamily.specs.declared.classes.IndexKey.{IndexKey}
use Rattle.opfamily.specs.KeyOrder.{IndexEntry, entry_order}

-- the first of some entries stand with those that there were, in order, and these are left
pub record AreAdded (ks : List IndexKey) (es added left new : List IndexEntry) : Type 0 where
  pub done : List IndexEntry
  pub parts : added ≡ done ++ left
  pub is : new ≡ in_order (entry_order ks) (es ++ done)
