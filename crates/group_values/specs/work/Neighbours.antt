-- Tuples of which those of a group come one after another, as an input sorted by the GROUP BY columns has them (PostgreSQL,
-- src/backend/executor/nodeAgg.c, AGG_SORTED).
use Rattle.std.specs.Prelude.{◌≡◌, ℕ, ◌<◌, true, List, [], length, slice_index_or}
use Rattle.std.specs.Ordering.{on}
use Rattle.std.specs.declared.cmp.Ordering.{Ordering}
use Rattle.pg_value.specs.declared.value.Value.TheVariants.{Null}
use Rattle.pg_value.specs.Kinds.{directed_order}
use Rattle.group_values.specs.declared.shape.Sorter.{Sorter}
use Rattle.group_values.specs.Groups.{Seen, alike}

-- what is seen of the tuple at a place of the input
abbrev pub seen_at : List Seen → ℕ → Seen
seen_at ss n = slice_index_or ss n (record { keys = []; args = [] })

-- between two tuples of a group there are only tuples of the group
abbrev pub AreTogether : List Seen → Type 0
AreTogether ss = (i j k : ℕ) → i < j → j < k → k < length ss → alike (seen_at ss i) (seen_at ss k) ≡ true → alike (seen_at ss i) (seen_at ss j) ≡ true

-- the order of tuples by an item of ORDER BY
abbrev pub tuple_order : Sorter → Seen → Seen → Ordering
tuple_order o = on (λ (s : Seen). slice_index_or s.keys o.place Null) (directed_order o.descending o.nulls_first)
