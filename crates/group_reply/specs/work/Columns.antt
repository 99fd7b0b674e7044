-- The columns that are seen of a tuple where it is grouped, and their values in rows of all relations. Own.
use Rattle.std.specs.Prelude.{◌<◌, List, Option, None, Some, All, length, map}
use Rattle.pg_value.specs.declared.value.Value.{Value}
use Rattle.pg_value.specs.declared.value.Value.TheVariants.{Null}
use Rattle.pg_expr.specs.declared.operand.ColRef.{ColRef}
use Rattle.heap.specs.Stored.{Values}
use Rattle.catalog.specs.Contents.{Contents}
use Rattle.catalog.specs.Range.{Range}
use Rattle.sql_query.specs.Queries.{Query}
use Rattle.sql_query.specs.declared.grouped.Item.{Item}
use Rattle.sql_query.specs.declared.grouped.Item.TheVariants.{Key, Min, Max}
use Rattle.sql_query.specs.Tuples.{Tuple}
use Rattle.sql_query.specs.WellBound.{IsColumnOf}
use Rattle.sql_query.specs.Worlds.{World}
use Rattle.group_values.specs.Groups.{Seen}
use Rattle.group_runs.specs.Seen.{seen_of}
use Rattle.group_explain.specs.reply_Showing.{HasColumn, cell_of}
use Rattle.group_reply.specs.declared.columns.Columns.{Columns}

-- the column of a call, where it has one, is one of a relation
abbrev pub IsArgOf : Contents → Range → Option ColRef → Type 0
IsArgOf c range None = Unit {0}
IsArgOf c range (Some x) = IsColumnOf c range x

-- the column of which an item shows a value, where it shows one, is there
abbrev pub IsItemIn : Contents → Range → List ColRef → Item → Type 0
IsItemIn c range keys (Key n) = n < length keys
IsItemIn c range keys (Min x) = IsColumnOf c range x
IsItemIn c range keys (Max x) = IsColumnOf c range x
IsItemIn c range keys i = Unit {0}

-- the GROUP BY columns and the columns of calls are there
pub record AreSeenOf (c : Contents) (range : Range) (keys : List ColRef) (args : List (Option ColRef)) : Type 0 where
  pub of_groups : All (IsColumnOf c range) keys
  pub of_calls : All (IsArgOf c range) args

-- the column of a call, where it has one, is one of these rows
abbrev pub HasArg : List Values → Option ColRef → Type 0
HasArg rows None = Unit {0}
HasArg rows (Some x) = HasColumn rows x

-- the value of a call's column in one of these rows, NULL for `count(*)`, which has none
abbrev pub arg_in : List Values → Option ColRef → Value
arg_in rows None = Null
arg_in rows (Some x) = cell_of rows x

-- the columns that keys and calls read are columns of the relations
abbrev pub AreColumnsSeen : Contents → Range → Columns → Type 0
AreColumnsSeen c range columns = AreSeenOf c range columns.keys.now columns.args.now

-- what is seen of a tuple by them
abbrev pub seen_by : World → Query → Columns → Tuple → Seen
seen_by w q columns t = seen_of w q columns.keys.now columns.args.now t

-- what is seen of tuples by them
abbrev pub all_seen_by : World → Query → Columns → List Tuple → List Seen
all_seen_by w q columns ts = map (seen_of w q columns.keys.now columns.args.now) ts
