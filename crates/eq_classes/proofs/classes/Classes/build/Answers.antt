use Rattle.std.proofs.lemmas.Result.{IfOk-weaker}
use Rattle.eq_classes.specs.work.Building.{given}
use Rattle.eq_classes.specs.Holding.{IsClassTable}
use Rattle.eq_classes.proofs.TableLemmas.{where_at, Means}
use Rattle.eq_classes.proofs.classes.Classes.build.Goals as goal

pub returns-clause-means : goal.returns-clause-means
returns-clause-means g c =
    let own = given (g.B.Binding.type_of c.args.typed.now) c.args.conjuncts.items.items c.args.order.now in
    IfOk-weaker c.make.result (λ t. IsClassTable own t) (λ t. Means own t) (λ t is ws b set. where_at own t is ws b set) c.make.ensures
