-- Each value stands under its new bucket.
use Rattle.std.proofs.Common.{ap, length, ◌∙◌, arith}
use Rattle.hash_index.specs.work.Groups.{value_at}
use Rattle.hash_index.proofs.SlotLemmas.{chained_doubled, known_within}
use Rattle.hash_index.proofs.chains.Chains.double.Goals as goal

pub returns-clause-chained : goal.returns-clause-chained
returns-clause-chained c =
    let s = c.args.self.now in
    let l = c.loop-slot.self in
    let inv = c.loop-slot.invariant in
    chained_doubled c.args.key s.heads.items s.groups.items l.groups.items s.links l.links c.requires (λ i. ap (λ gs. value_at gs i) inv.same ∙ c.add_heads.ensures.values i)
    l.heads.items inv.slots (omega (arith, ap (λ hs. length hs) inv.same_heads, c.in_ok-add_heads.ensures.more, c.requires.some))
    (λ i known. inv.under i (omega (arith, known_within l.groups.items i known, ap (λ gs. length gs) inv.same, c.loop-slot-test.false)) known)
