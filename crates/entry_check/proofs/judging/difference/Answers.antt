use Rattle.plan_check.specs.work.Views.{entry}
use Rattle.entry_check.proofs.JudgeLemmas.{none-differs, rows-differ, start-differs, total-differs}
use Rattle.entry_check.proofs.judging.difference.Goals as goal

pub returns-then-not-start_alike-clause-some : goal.returns-then-not-start_alike-clause-some
returns-then-not-start_alike-clause-some c = λ contents p n.
    let d = c.start_alike.ensures.no c.if-not-start_alike.true in
    start-differs contents c.args.q.now (entry c.args.e.now) p c.args.own d.0 n d.1 d.2

pub returns-then-e-own-clause-some : goal.returns-then-e-own-clause-some
returns-then-e-own-clause-some c = λ contents p n. total-differs contents c.args.q.now (entry c.args.e.now) p c.args.own n (c.start_alike.ensures.yes c.if-not-start_alike.false) c.if-e-own.true

pub returns-then-e-own-2-clause-some : goal.returns-then-e-own-2-clause-some
returns-then-e-own-2-clause-some c = λ contents p n. rows-differ contents c.args.q.now (entry c.args.e.now) p c.args.own n (c.start_alike.ensures.yes c.if-not-start_alike.false) c.if-e-own.false c.if-e-own-2.true

pub returns-clause-none : goal.returns-clause-none
returns-clause-none c = λ contents p n. none-differs contents c.args.q.now (entry c.args.e.now) p c.args.own n (c.start_alike.ensures.yes c.if-not-start_alike.false) c.if-e-own.false c.if-e-own-2.false
