use Rattle.std.proofs.Common.{Some, ap, map, ◌∙◌}
use Rattle.catalog.proofs.AnalysedLemmas.{seen-stats}
use Rattle.catalog.proofs.sizes.keep.Goals as goal

pub returns-clause-stats : goal.returns-clause-stats
returns-clause-stats c = seen-stats c.put_each.new.stats.items c.into_vec.result.items c.put_each.ensures ∙ ap (map Some) c.into_vec.ensures
