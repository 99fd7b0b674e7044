use Rattle.std.proofs.Common.{◌∙◌}
use Rattle.std.proofs.lemmas.Result.{IfOk-weaker}
use Rattle.join_search.proofs.UseLemmas.{first-different, numbers-take}
use Rattle.join_search.proofs.useful.first_classes.Goals as goal

pub from_slice-requires : goal.from_slice-requires
from_slice-requires c = record { different = first-different c.args.n c.items.result.now c.args.list.now c.items.ensures.list c.items.ensures.different }

pub returns : goal.returns
returns c = IfOk-weaker c.from_slice.result _ _ (λ ks e. e ∙ numbers-take c.args.n c.items.result.now c.args.list.now c.items.ensures.list) c.from_slice.ensures.list
