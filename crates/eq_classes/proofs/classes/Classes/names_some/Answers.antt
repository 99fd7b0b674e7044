use Rattle.eq_classes.specs.Listing.{clause_at}
use Rattle.eq_classes.proofs.NamedLemmas.{some_is}
use Rattle.eq_classes.proofs.classes.Classes.names_some.Goals as goal

pub returns : goal.returns
returns c = some_is c.named.result.0 (clause_at c.args.self.now.clauses c.args.n).cond c.named.ensures c.args.s.0 c.meets.result c.meets.ensures
