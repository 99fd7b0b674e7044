use Rattle.std.proofs.Common.{List, map, subst}
use Rattle.std.specs.Prelude.{All}
use Rattle.std.proofs.lemmas.Result.{on_ok_weaker}
use Rattle.pg_base.specs.declared.numbers.IndexNo.{IndexNo}
use Rattle.plan_tree.specs.Plans.{seq}
use Rattle.plan_tree.specs.work.Views.{path}
use Rattle.scan_paths.specs.work.Scans.{IsIndexServed}
use Rattle.scan_paths.proofs.ReachLemmas.{each-index}
use Rattle.scan_paths.proofs.SpaceLemmas.{all-dominated}
use Rattle.scan_paths.proofs.TakingLemmas.{served-later, takes-then}
use Rattle.scan_paths.proofs.relation_scans.scans_by.Goals as goal

pub returns : goal.returns
returns c =
    let contents = c.args.cat.now in
    let q = c.args.q.now in
    let r = c.args.at.0 in
    let p = c.args.at.1 in
    let between = map path c.offer_seq.new.front in
    let after = map path c.offer_by_each.new.front in
    let taken = c.offer_by_each.ensures.takes in
    let all = takes-then contents q r p (map path c.args.front.now) between after c.offer_seq.ensures.takes taken in
    record {
      paths = taken.paths;
      kept = all.kept;
      dominated = on_ok_weaker c.offer_by_each.result
          (λ served. all-dominated contents q r p after
          (λ whole. served-later contents q between after (seq r) taken.still (c.in_ok-offer_seq.ensures.served whole))
          (subst (λ (is : List IndexNo). All (IsIndexServed contents q r p after) is) c.requires.indexes.indexes (each-index (IsIndexServed contents q r p after) c.args.indexes.now served)))
          c.offer_by_each.ensures.served;
      still = all.still;
    }
