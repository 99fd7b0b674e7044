-- All slots with the value are ahead, at each step of the way.
use Rattle.std.proofs.Common.{sym, ◌∙◌}
use Rattle.hash_index.proofs.WalkLemmas.{begins, fewer, no_tie, past, tie_is}
use Rattle.hash_index.proofs.chains.Chains.slot_of.Goals as goal

pub loop-next-init : goal.loop-next-init
loop-next-init c =
    let s = c.args.self.now in
    begins c.args.key s.heads.items s.groups.items s.links c.requires.chained c.head_of-head.result c.args.v.now c.next-next.result c.requires.known c.head_of-head.ensures.head c.head_of-head.ensures.within c.next-next.ensures.next

pub loop-next-smaller : goal.loop-next-smaller
loop-next-smaller c =
    let s = c.args.self.now in
    fewer s.groups.items s.links c.requires.chained.slots.lawful c.head_of-head.result c.args.v.now c.in-Some.slot c.loop-next.next c.next-next-in-Some.result c.in-Some.is c.loop-next.invariant c.next-next-in-Some.ensures.next

pub loop-next-preserved : goal.loop-next-preserved
loop-next-preserved c =
    let s = c.args.self.now in
    past s.groups.items s.links c.requires.chained.slots.lawful c.head_of-head.result c.args.v.now c.in-Some.slot c.loop-next.next c.next-next-in-Some.result c.in-Some.is c.loop-next.invariant
    (no_tie c.args.key s.groups.items c.args.v.now c.in-Some.slot (sym c.ties.ensures ∙ c.if-ties.false)) c.next-next-in-Some.ensures.next

pub returns-then-ties-clause-found : goal.returns-then-ties-clause-found
returns-then-ties-clause-found c =
    let s = c.args.self.now in
    tie_is c.args.key s.heads.items s.groups.items s.links c.requires.chained c.args.v.now c.requires.fits c.in-Some.slot (sym c.ties.ensures ∙ c.if-ties.true)
