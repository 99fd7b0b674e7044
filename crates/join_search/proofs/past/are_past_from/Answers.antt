use Rattle.std.proofs.Common.{[], arith}
use Rattle.join_search.specs.work.Tables.{none, paths_at}
use Rattle.join_search.proofs.MergeLemmas.{merges-all}
use Rattle.join_search.proofs.PastLemmas.{not-true}
use Rattle.join_search.proofs.past.are_past_from.Goals as goal

pub returns : goal.returns
returns c =
    let t = c.args.task.now in
    let fronts = paths_at c.args.table.now in
    let a = c.args.outer.set in
    let b = c.args.inner in
    λ is front. record {
      nests = λ p. c.in_ok-nests.ensures c.if-not-nests.false front p;
      merges = λ ks. merges-all t.cat.now t.q.now t.asked front (fronts a none) (fronts b none) a b [] (c.requires.placed.paths a none) (c.requires.placed.paths b none)
          (λ ls list. absurd (c.in_ok-merges.ensures (not-true c.in_ok-merges.merges is) ls list)) (λ k d lt. absurd (omega (arith, lt))) ks;
    }
