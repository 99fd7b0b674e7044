-- One row more in one slot; taken out again it leaves the slots as they were, and maybe some without rows.
use Rattle.std.proofs.Common.{ap, sym, subst, set, length, ◌∙◌, arith}
use Rattle.std.proofs.lemmas.List.{length-set}
use Rattle.hash_index.specs.work.Chains.{AreChained}
use Rattle.hash_index.specs.work.Groups.{RowsOf, group_at, held_by, value_at, with_tid, without_at}
use Rattle.hash_index.proofs.GroupLemmas.{group_is, held, put_as, put_held, put_out, put_value, wider_held, wider_on, wider_same}
use Rattle.hash_index.proofs.SlotLemmas.{chained_kept}
use Rattle.hash_index.proofs.chains.Chains.put.Goals as goal

pub returns-clause-chained : goal.returns-clause-chained
returns-clause-chained c =
    let f = c.slot_for.new.self in
    let gs = f.groups.items in
    let s = c.in_ok-slot.slot in
    let at = c.in_ok-at.at in
    let is = group_is gs s c.index_mut.result.now c.in_ok-slot.ensures.within c.index_mut.ensures.value in
    let new = with_tid at c.args.t (group_at gs s) in
    subst (λ l. AreChained c.args.key f.heads.items l f.links) (sym (ap (set gs s) (c.in_ok-at.ensures.inserted ∙ ap (with_tid at c.args.t) is)))
    (chained_kept c.args.key f.heads.items gs (set gs s new) f.links c.slot_for.ensures.chained (length-set gs s new) (put_value gs s at c.args.t))

pub returns-clause-put : goal.returns-clause-put
returns-clause-put c =
    let gs = c.slot_for.new.self.groups.items in
    let s = c.in_ok-slot.slot in
    let at = c.in_ok-at.at in
    let is = group_is gs s c.index_mut.result.now c.in_ok-slot.ensures.within c.index_mut.ensures.value in
    put_as (held (value_at gs s) c.args.t) (held c.args.v c.args.t) (held_by gs) (held_by c.args.self.now.groups.items) (held_by (set gs s (with_tid at c.args.t (group_at gs s)))) (held_by (set gs s c.insert.new.self))
    (put_held gs s at c.args.t c.in_ok-slot.ensures.within)
    (ap (λ v. held v c.args.t) (sym c.in_ok-slot.ensures.found)) (sym (wider_held c.args.self.now.groups.items gs c.slot_for.ensures.wider)) (ap (λ g. held_by (set gs s g)) (c.in_ok-at.ensures.inserted ∙ ap (with_tid at c.args.t) is))

pub returns-clause-back : goal.returns-clause-back
returns-clause-back c =
    let gs = c.slot_for.new.self.groups.items in
    let s = c.in_ok-slot.slot in
    let at = c.in_ok-at.at in
    let is = group_is gs s c.index_mut.result.now c.in_ok-slot.ensures.within c.index_mut.ensures.value in
    let out =
    ap (λ g. without_at s at (set gs s g)) (c.in_ok-at.ensures.inserted ∙ ap (with_tid at c.args.t) is)
    ∙ put_out gs s at c.args.t c.in_ok-slot.ensures.within (omega (arith, c.in_ok-at.ensures.within, ap (λ (g : RowsOf). length g.tids) is)) in
    wider_on c.args.self.now.groups.items gs (without_at s at (set gs s c.insert.new.self)) c.slot_for.ensures.wider (wider_same gs (without_at s at (set gs s c.insert.new.self)) out)
