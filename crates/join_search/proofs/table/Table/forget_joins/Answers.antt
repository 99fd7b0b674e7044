use Rattle.std.proofs.Common.{ap}
use Rattle.join_search.specs.work.Tables.{found_at}
use Rattle.join_search.proofs.TableLemmas.{found-single}
use Rattle.join_search.proofs.table.Table.forget_joins.Goals as goal

pub returns-clause-scans : goal.returns-clause-scans
returns-clause-scans c = λ s p single. ap (found_at p) (c.forget.ensures.single s.0 single)

pub returns-clause-single : goal.returns-clause-single
returns-clause-single c = λ s p f e. found-single c.forget.new.sets.items s p f (c.forget.ensures.others s.0) e
