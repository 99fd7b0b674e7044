-- Where a part of the entries begins or ends. Own.
use Rattle.std.specs.Prelude.{Bool, not, List, [], ◌≡◌, ℕ, true, false}
use Rattle.std.specs.Ordering.{is_gt, is_lt, is_le}
use Rattle.opfamily.specs.declared.classes.IndexKey.{IndexKey}
use Rattle.opfamily.specs.KeyOrder.{IndexEntry, entry_order}
use Rattle.btree_index.specs.declared.edges.Edge.{Edge}
use Rattle.btree_index.specs.declared.edges.Edge.TheVariants.{Behind, Start, End}
use Rattle.btree_index.specs.work.Sides.{side}
use Rattle.std.specs.List.Sorted.{IsPartitionPoint}

-- whether an entry stands before an edge
abbrev pub is_before : List IndexKey → Edge → IndexEntry → Bool
is_before ks (Behind e) x = not (is_gt (entry_order ks x e.now))
is_before ks (Start ps) x = is_lt (side ks ps.now x.keys)
is_before ks (End ps) x = is_le (side ks ps.now x.keys)

-- an entry that stands nowhere
abbrev pub nothing : IndexEntry
nothing = record { row = 0; keys = []; include = [] }

-- the place of an edge: the first `n` entries stand before it, and no other does
abbrev pub IsEdgePlace : List IndexKey → Edge → List IndexEntry → ℕ → Type 0
IsEdgePlace ks edge es n = IsPartitionPoint (λ e. is_before ks edge e ≡ true) (λ e. is_before ks edge e ≡ false) es n
