use Rattle.std.proofs.Common.{false}
use Rattle.std.specs.List.{list_any}
use Rattle.std.specs.Prelude.{nat_eq}
use Rattle.pg_value.specs.declared.value.Value.TheVariants.{Null}
use Rattle.catalog.specs.work.Entries.{index_of}
use Rattle.scan_probes.specs.work.Values.{key_columns, value_among, value_in_entry}
use Rattle.scan_probes.proofs.EntryLemmas.{IsSought}
use Rattle.scan_probes.proofs.bound.entry_value.Given as goal

abbrev pub invariant-loop-n : goal.invariant-loop-n
invariant-loop-n l =
    IsSought (key_columns (index_of l.def)) l.entry.keys (value_among l.def.include.items l.entry.include Null l.c) l.c l.n
    (list_any (λ n. nat_eq l.c.0 n.0) l.def.include.items) (value_in_entry (index_of l.def) l.entry l.c)

abbrev pub invariant-loop-n-2 : goal.invariant-loop-n-2
invariant-loop-n-2 l =
    IsSought l.def.include.items l.entry.include Null l.c l.n false (value_in_entry (index_of l.def) l.entry l.c)
