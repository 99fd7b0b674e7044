use Rattle.std.proofs.Common.{◌++◌, List, [], ap, sym, ◌∙◌, subst}
use Rattle.eq_classes.specs.declared.classes.ClassNo.{ClassNo}
use Rattle.catalog.specs.opfamily_classes_Method_TheVariants.{Btree}
use Rattle.pathkeys.specs.Keys.{AreDifferent, keys_from}
use Rattle.pathkeys.specs.work.Finding.{class_numbers}
use Rattle.pathkeys.proofs.StepLemmas.{keys_by_are_keys}
use Rattle.pathkeys.proofs.index_order.given_keys.Goals as goal

pub keys_of-requires : goal.keys_of-requires
keys_of-requires c = record {
  different = subst AreDifferent
      (sym (c.in_ok-give_all.ensures ∙ ap (λ (cs : List ClassNo). class_numbers cs ++ keys_from c.args.classes.now c.args.r.0 c.args.backward [] c.args.columns.now) c.new-items.ensures.items))
      (keys_by_are_keys c.args.classes.now c.args.r.0 c.args.backward Btree c.args.columns.now).different;
}
