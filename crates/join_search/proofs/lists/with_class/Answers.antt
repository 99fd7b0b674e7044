use Rattle.std.proofs.Common.{◌∙◌, ◌++◌, ◌∷◌, [], List, ap, sym, subst}
use Rattle.eq_classes.specs.declared.classes.ClassNo.{ClassNo}
use Rattle.pathkeys.specs.work.Finding.{class_numbers}
use Rattle.pathkeys.specs.Keys.{AreDifferent}
use Rattle.join_search.proofs.ListLemmas.{numbers-different}
use Rattle.join_search.proofs.lists.with_class.Goals as goal

pub from_slice-requires : goal.from_slice-requires
from_slice-requires c = record {
  different = subst (λ (xs : List ClassNo). AreDifferent (class_numbers xs)) (sym (c.deref.ensures.value ∙ c.in_ok-push.ensures.items ∙ ap (λ (xs : List ClassNo). xs ++ c.args.c ∷ []) c.in_ok-items.ensures))
      (numbers-different c.items.result.now c.args.c c.args.list.now c.items.ensures.list c.items.ensures.different c.requires.new);
}
