use Rattle.std.proofs.Common.{◌≡◌, map, take}
use Rattle.group_reply.proofs.lines.line_text.Given as goal

abbrev pub invariant-loop-value : goal.invariant-loop-value
invariant-loop-value l = map (λ v. v.now) l.lent.items ≡ take l.value-index l.values
