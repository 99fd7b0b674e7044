use Rattle.std.proofs.Common.{take, Contains}
use Rattle.catalog.specs.work.Entries.{index_of}
use Rattle.catalog.specs.Indexes.{columns_of}
use Rattle.catalog.proofs.index_def.stands_before.Given as goal

abbrev pub invariant-loop-m : goal.invariant-loop-m
invariant-loop-m l = Contains (take l.m (columns_of (index_of l.def))) l.sought → ⊥
