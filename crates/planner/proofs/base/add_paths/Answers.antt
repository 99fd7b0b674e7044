use Rattle.std.proofs.Common.{◌∙◌, sym}
use Rattle.std.proofs.lemmas.Bool.{true≢false}
use Rattle.std.proofs.lemmas.Result.{on_ok_weaker}
use Rattle.planner.proofs.TableLemmas.{base-put}
use Rattle.planner.proofs.base.add_paths.Goals as goal

pub returns-clause-base : goal.returns-clause-base
returns-clause-base c =
    let contents = c.args.cat.now in
    let q = c.args.q.now in
    on_ok_weaker c.put.result
    (λ here. base-put contents q c.args.table.now c.put.new.table c.args.at.set c.args.p c.in_ok-front.front c.put.ensures.others here c.args.at.rel.0 c.requires.set c.in_ok-front.ensures.offers c.requires.base)
    c.put.ensures.here

pub returns-then-not-within-clause-dominated : goal.returns-then-not-within-clause-dominated
returns-then-not-within-clause-dominated c = λ t of admissible test.
    absurd (true≢false (sym (c.within.ensures.1 (λ k is. c.requires.near c.args.p t of k is)) ∙ c.if-not-within.true))
