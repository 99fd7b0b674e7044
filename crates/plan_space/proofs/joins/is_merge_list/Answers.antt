use Rattle.std.proofs.Common.{◌∙◌, length, sym}
use Rattle.pg_base.specs.Sets.{has}
use Rattle.plan_space.proofs.JoinLemmas.{merge-list, some-listed}
use Rattle.plan_space.proofs.joins.is_merge_list.Goals as goal

pub returns : goal.returns
returns c = λ x q same.
    merge-list x q (has c.args.a.0) (has c.args.b.0) c.args.classes.now c.args.list.now c.items-list.result.now c.joining.result c.are_found.result same c.items-list.ensures.list
    (some-listed (length c.items-list.result.now) (sym c.is_empty.ensures ∙ c.if-is_empty.false)) c.if-list-gt-MOST_MERGE_KEYS.false c.items-list.ensures.different c.joining.ensures.joining c.are_found.ensures
