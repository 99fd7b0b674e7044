use Rattle.std.proofs.Common.{◌≡◌, ◌++◌, map}
use Rattle.std.specs.Prelude.{All, Contains}
use Rattle.std.specs.Vec.Iter.{into_iter_items}
use Rattle.plan_tree.specs.work.Views.{path}
use Rattle.join_search.specs.work.Sufficing.{HasSufficient}
use Rattle.join_search.proofs.by_sets.front_among.Given as goal

-- of the paths so far some are kept, that suffice for all of them
abbrev pub invariant-loop-made : goal.invariant-loop-made
invariant-loop-made l = record {
  some : All (Contains (map path l.fn.paths.items)) (map path l.kept);
  enough : All (λ x. HasSufficient l.at.cat.now l.at.q.now l.at.asked (map path l.kept) (path x).tree) l.yielded;
  whole : l.fn.paths.items ≡ l.yielded ++ into_iter_items l.made-iterator;
}
