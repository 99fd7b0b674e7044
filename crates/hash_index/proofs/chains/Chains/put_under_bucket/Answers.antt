-- The slot stands behind its bucket's, and what stood behind another bucket's still does.
use Rattle.std.proofs.Common.{ap, sym, subst, ◌∙◌, arith}
use Rattle.hash_index.specs.work.Chains.{head_for, stands_behind}
use Rattle.hash_index.specs.work.Held.{IsKnown}
use Rattle.hash_index.proofs.SlotLemmas.{head_differs}
use Rattle.hash_index.proofs.UnderLemmas.{put_kept, put_stands}
use Rattle.hash_index.proofs.chains.Chains.put_under_bucket.Goals as goal

pub returns-then-is_known-clause-put : goal.returns-then-is_known-clause-put
returns-then-is_known-clause-put c known =
    let s = c.args.self.now in
    let head = c.head_of-head in
    ap (λ v. stands_behind c.insert_after.new.self (head_for s.heads.items v) c.args.slot) (sym c.value_at-value.ensures)
    ∙ ap (λ h. stands_behind c.insert_after.new.self h c.args.slot) (sym head.ensures.head)
    ∙ put_stands s.links c.unlink.new.self c.insert_after.new.self head.result c.args.slot c.unlink.ensures.apart c.insert_after.ensures.put (omega (arith, head.ensures.within, c.requires.slots.as_many)) (omega (arith, c.requires.slots.as_many))
    (head_differs s.groups.items head.result c.args.slot head.ensures.null known) c.unlink.ensures.lawful

pub returns-then-is_known-clause-kept : goal.returns-then-is_known-clause-kept
returns-then-is_known-clause-kept c h i lt null ne e =
    let s = c.args.self.now in
    let head = c.head_of-head in
    let known = subst IsKnown c.value_at-value.ensures (c.is_known.ensures.known c.if-is_known.true) in
    put_kept s.links c.unlink.new.self c.insert_after.new.self head.result c.args.slot c.unlink.ensures.apart c.insert_after.ensures.put (omega (arith, head.ensures.within, c.requires.slots.as_many)) (omega (arith, c.requires.slots.as_many))
    (head_differs s.groups.items head.result c.args.slot head.ensures.null known) h i lt (head_differs s.groups.items h c.args.slot null known) ne e
