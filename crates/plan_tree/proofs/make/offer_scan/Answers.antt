use Rattle.std.proofs.lemmas.Result.{on_ok_weaker}
use Rattle.pg_base.specs.Sets.{has}
use Rattle.eq_classes.specs.Clauses.{one}
use Rattle.plan_tree.specs.work.Views.{plan}
use Rattle.plan_tree.proofs.FrontLemmas.{paths-after, offers-after, made-dominated, still-dominated}
use Rattle.plan_tree.proofs.make.offer_scan.Goals as goal

pub returns : goal.returns
returns c =
    let contents = c.args.cat.now in
    let q = c.args.q.now in
    let old = c.args.front.now in
    let new = c.put.new.front in
    let made = c.scan_path-made.result in
    let is = c.scan_path-made.ensures in
    let kept = c.put.ensures.kept in
    let t = plan c.args.t in
    record {
      paths = paths-after contents q old new made kept c.requires.paths is.numbers;
      kept = λ test passes. offers-after contents q old new made kept c.requires.paths is.numbers t (one c.args.r.0) (has c.args.p.0) test is.tree c.requires.of is.admissible passes;
      dominated = on_ok_weaker c.put.result (λ offered admissible. made-dominated contents q old new made kept c.requires.paths is.numbers t is.tree offered) c.put.ensures.offered;
      still = still-dominated contents q old new made kept c.requires.paths is.numbers c.put.ensures.covered;
    }
