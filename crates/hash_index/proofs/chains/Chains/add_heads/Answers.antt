-- Slots that are not noted yet, or not among the buckets', are slots of NULL without rows.
use Rattle.std.proofs.Common.{ap, ◌∙◌}
use Rattle.hash_index.proofs.SlotLemmas.{all_more, grown, on_err, one_more}
use Rattle.hash_index.proofs.chains.Chains.add_heads.Goals as goal

pub returns-in_err-head-clause-refused : goal.returns-in_err-head-clause-refused
returns-in_err-head-clause-refused c = on_err c.from_residual-in_err-head.result _ (ap (λ h. h.items) c.add_slot.ensures.heads ∙ c.loop.invariant.same)

pub returns-in_err-push-clause-slots : goal.returns-in_err-push-clause-slots
returns-in_err-push-clause-slots c =
    let s = c.args.self.now in
    (grown s.groups.items s.links s.heads.items c.loop.self.heads.items c.loop.heads.items c.add_slot.new.self.heads.items c.loop.self.groups.items c.add_slot.new.self.groups.items c.loop.self.links c.add_slot.new.self.links c.loop.counter
    c.loop.invariant c.in_ok-head.ensures.groups c.in_ok-head.ensures.links c.in_ok-head.ensures.lawful c.in_ok-head.ensures.few (ap (λ h. h.items) c.add_slot.ensures.heads)).slots

pub returns-in_err-push-clause-wider : goal.returns-in_err-push-clause-wider
returns-in_err-push-clause-wider c =
    let s = c.args.self.now in
    (grown s.groups.items s.links s.heads.items c.loop.self.heads.items c.loop.heads.items c.add_slot.new.self.heads.items c.loop.self.groups.items c.add_slot.new.self.groups.items c.loop.self.links c.add_slot.new.self.links c.loop.counter
    c.loop.invariant c.in_ok-head.ensures.groups c.in_ok-head.ensures.links c.in_ok-head.ensures.lawful c.in_ok-head.ensures.few (ap (λ h. h.items) c.add_slot.ensures.heads)).wider

pub returns-in_err-push-clause-values : goal.returns-in_err-push-clause-values
returns-in_err-push-clause-values c =
    let s = c.args.self.now in
    (grown s.groups.items s.links s.heads.items c.loop.self.heads.items c.loop.heads.items c.add_slot.new.self.heads.items c.loop.self.groups.items c.add_slot.new.self.groups.items c.loop.self.links c.add_slot.new.self.links c.loop.counter
    c.loop.invariant c.in_ok-head.ensures.groups c.in_ok-head.ensures.links c.in_ok-head.ensures.lawful c.in_ok-head.ensures.few (ap (λ h. h.items) c.add_slot.ensures.heads)).values

pub returns-in_err-push-clause-refused : goal.returns-in_err-push-clause-refused
returns-in_err-push-clause-refused c =
    let s = c.args.self.now in
    on_err c.from_residual-in_err-push.result _ ((grown s.groups.items s.links s.heads.items c.loop.self.heads.items c.loop.heads.items c.add_slot.new.self.heads.items c.loop.self.groups.items c.add_slot.new.self.groups.items c.loop.self.links c.add_slot.new.self.links c.loop.counter
    c.loop.invariant c.in_ok-head.ensures.groups c.in_ok-head.ensures.links c.in_ok-head.ensures.lawful c.in_ok-head.ensures.few (ap (λ h. h.items) c.add_slot.ensures.heads)).same)

pub loop-preserved : goal.loop-preserved
loop-preserved c =
    let s = c.args.self.now in
    one_more s.groups.items s.links s.heads.items c.loop.self.heads.items c.loop.heads.items c.add_slot.new.self.heads.items c.push.new.self.items c.loop.self.groups.items c.add_slot.new.self.groups.items c.loop.self.links c.add_slot.new.self.links c.loop.counter c.in_ok-head.head
    c.loop.invariant c.in_ok-head.ensures.groups c.in_ok-head.ensures.links c.in_ok-head.ensures.lawful c.in_ok-head.ensures.few (ap (λ h. h.items) c.add_slot.ensures.heads) c.in_ok-head.ensures.slot c.in_ok-push.ensures.items

pub returns-clause-slots : goal.returns-clause-slots
returns-clause-slots c =
    let s = c.args.self.now in
    all_more s.groups.items s.links s.heads.items c.loop.self.heads.items c.loop.heads.items c.append.new.self.items c.loop.self.groups.items c.loop.self.links c.loop.counter c.loop.invariant c.in_ok-append.ensures.items
