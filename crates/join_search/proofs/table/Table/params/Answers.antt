use Rattle.std.proofs.Common.{◌∙◌, ap}
use Rattle.std.proofs.lemmas.Result.{IfOk-weaker}
use Rattle.join_search.specs.work.Tables.{params_of}
use Rattle.join_search.proofs.table.Table.params.Goals as goal

pub returns : goal.returns
returns c = IfOk-weaker c.params_in.result _ _ (λ v e. e ∙ ap params_of c.places.ensures) c.params_in.ensures
