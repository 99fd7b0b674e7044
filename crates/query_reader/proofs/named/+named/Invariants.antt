use Rattle.std.proofs.Common.{◌≡◌, ◌++◌, drop}
use Rattle.pg_expr.specs.work.View.{conds}
use Rattle.query_reader.specs.Named.{columns_in_all}
use Rattle.query_reader.proofs.named.+named.Given as goal

-- the columns so far, with those of what is left, are those of all
abbrev pub invariant-columns_in_all-loop-part : goal.invariant-columns_in_all-loop-part
invariant-columns_in_all-loop-part l = l.all.items ++ columns_in_all (conds (drop l.part-index l.parts)) ≡ columns_in_all (conds l.parts)
