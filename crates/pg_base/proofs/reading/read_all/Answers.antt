use Rattle.std.proofs.Common.{◌+◌, rules}
use Rattle.pg_base.proofs.Bytes.{consumes-up_to}
use Rattle.pg_base.proofs.reading.read_all.Goals as goal

pub returns-in_err-extend_from_slice-in-Ok-clause-left_memory :
    goal.returns-in_err-extend_from_slice-in-Ok-clause-left_memory
returns-in_err-extend_from_slice-in-Ok-clause-left_memory g c =
    λ memory. consumes-up_to _ _ _ c.chunks.all.items _ c.in-Ok.count (c.args.limit + 1) c.chunks.invariant.bytes c.in-Ok.ensures.bytes.0 (search rules)
