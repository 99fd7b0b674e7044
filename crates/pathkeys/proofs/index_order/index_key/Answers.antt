use Rattle.catalog.specs.opfamily_classes_Method_TheVariants.{Btree}
use Rattle.pathkeys.specs.Keys.{keys_by}
use Rattle.pathkeys.proofs.StepLemmas.{keys_by_are_keys, class_of_list}
use Rattle.pathkeys.proofs.index_order.index_key.Goals as goal

pub returns-in-Btree-clause-within : goal.returns-in-Btree-clause-within
returns-in-Btree-clause-within c =
    class_of_list c.args.classes.now (keys_by Btree c.args.classes.now c.args.r.0 c.args.backward c.deref.result.now) c.args.n c.given_at.result
    (keys_by_are_keys c.args.classes.now c.args.r.0 c.args.backward Btree c.deref.result.now) c.given_at.ensures.class
