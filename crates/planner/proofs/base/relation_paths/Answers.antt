use Rattle.std.proofs.Common.{List, map, subst, sym}
use Rattle.std.specs.Prelude.{All}
use Rattle.std.proofs.lemmas.List.Elements.{All-nil}
use Rattle.pg_base.specs.Sets.{has}
use Rattle.eq_classes.specs.Clauses.{one}
use Rattle.plan_tree.specs.work.Fronts.{IsOffer}
use Rattle.plan_tree.specs.work.Views.{path}
use Rattle.plan_tree.specs.declared.path.Path.{Path}
use Rattle.planner.specs.work.Bases.{is_plan}
use Rattle.planner.proofs.BaseLemmas.{all-paths}
use Rattle.planner.proofs.base.relation_paths.Goals as goal

pub returns : goal.returns
returns c =
    let contents = c.args.cat.now in
    let q = c.args.q.now in
    let offer = IsOffer contents q is_plan (one c.args.at.rel.0) (has c.args.p.0) in
    let start = subst (λ (xs : List Path). All offer (map path xs)) (sym c.new-front.ensures) (All-nil offer) in
    all-paths contents q c.args.at.rel c.args.p (map path c.new-front.result) (map path c.scans_by.new.front) (map path c.bitmaps.new.front) start
    c.scans_by.ensures.kept c.in_ok-scans_by.ensures.dominated c.bitmaps.ensures.kept c.in_ok-bitmaps.ensures.dominated c.bitmaps.ensures.still
