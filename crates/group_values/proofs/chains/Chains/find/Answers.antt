-- A group that has the keys is ahead, at each step of the way.
use Rattle.std.proofs.Common.{sym, ◌∙◌, arith}
use Rattle.group_values.proofs.ChainLemmas.{begins, fewer, hash-many, past, slot-in}
use Rattle.group_values.proofs.chains.Chains.find.Goals as goal

pub loop-next-init : goal.loop-next-init
loop-next-init c =
    let s = c.args.self.now in
    begins s.firsts.items s.hashes.items s.links c.args.groups.now c.args.keys.now c.hash_keys-hash.result c.first-next.result c.requires.chained c.requires.hashes c.hash_keys-hash.ensures c.first-next.ensures

pub is_at-requires-clause-slot : goal.is_at-requires-clause-slot
is_at-requires-clause-slot c =
    let s = c.args.self.now in
    omega (arith, slot-in c.args.groups.now s.links c.args.keys.now c.in-Some.slot c.loop-next.next c.in-Some.is c.loop-next.invariant, hash-many s.hashes.items c.args.groups.now c.requires.hashes, c.requires.chained.as_many)

pub next-next-requires : goal.next-next-requires
next-next-requires c =
    slot-in c.args.groups.now c.args.self.now.links c.args.keys.now c.in-Some.slot c.loop-next.next c.in-Some.is c.loop-next.invariant

pub loop-next-smaller : goal.loop-next-smaller
loop-next-smaller c =
    fewer c.args.groups.now c.args.self.now.links c.args.keys.now c.in-Some.slot c.loop-next.next c.next-next.result c.requires.chained.lawful c.in-Some.is c.loop-next.invariant c.next-next.ensures.next

pub loop-next-preserved : goal.loop-next-preserved
loop-next-preserved c =
    past c.args.groups.now c.args.self.now.links c.args.keys.now c.in-Some.slot c.loop-next.next c.next-next.result c.requires.chained.lawful c.in-Some.is c.loop-next.invariant (sym c.is_at.ensures ∙ c.if-is_at.false) c.next-next.ensures.next
