use Rattle.std.proofs.Common.{◌≡◌, map, take}
use Rattle.group_reply.specs.work.Columns.{arg_in}
use Rattle.group_reply.proofs.columns.args_in.Given as goal

abbrev pub invariant-loop-arg : goal.invariant-loop-arg
invariant-loop-arg l = l.values.items ≡ map (arg_in (map (λ r. r.now) l.rows)) (take l.arg-index l.args)
