use Rattle.std.proofs.Common.{refl}
use Rattle.plan_check.specs.work.Views.{certificate, entry}
use Rattle.entry_check.proofs.JudgeLemmas.{fault-node, fault-number, right-too}
use Rattle.entry_check.proofs.PlaceLemmas.{read-there}
use Rattle.entry_check.proofs.judging.judge_entry.Goals as goal

pub returns-in-Some-difference-clause-fault : goal.returns-in-Some-difference-clause-fault
returns-in-Some-difference-clause-fault c =
    let t = certificate c.args.t.now in
    let e = c.index-items-n.result in
    let there = read-there t c.args.t.now.entries c.items.result.now c.args.n e refl c.items.ensures.list c.requires.within c.index-items-n.is in
    let h = c.in-Some.ensures in
    let found = c.in-Some-difference.found in
    fault-number c.args.cat.now c.args.q.now t c.args.n c.requires.before (entry e) there c.in-Some.own h found.0 found.1 found.2 (c.in-Some-difference.ensures.some c.args.cat.now h.plan h.own.numbers)

pub returns-in-None-difference-clause-right : goal.returns-in-None-difference-clause-right
returns-in-None-difference-clause-right c =
    let t = certificate c.args.t.now in
    let e = c.index-items-n.result in
    let there = read-there t c.args.t.now.entries c.items.result.now c.args.n e refl c.items.ensures.list c.requires.within c.index-items-n.is in
    let h = c.in-Some.ensures in
    right-too c.args.cat.now c.args.q.now t c.args.n c.requires.before (entry e) there c.in-Some.own h (c.in-None-difference.ensures.none c.args.cat.now h.plan h.own.numbers)

pub returns-in-None-clause-fault : goal.returns-in-None-clause-fault
returns-in-None-clause-fault c =
    let t = certificate c.args.t.now in
    let e = c.index-items-n.result in
    let there = read-there t c.args.t.now.entries c.items.result.now c.args.n e refl c.items.ensures.list c.requires.within c.index-items-n.is in
    fault-node c.args.cat.now c.args.q.now t c.args.n c.requires.before (entry e) there c.in-None.ensures
