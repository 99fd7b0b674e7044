use Rattle.std.proofs.Common.{length}
use Rattle.group_explain.specs.GroupPlans.{line_keys}
use Rattle.group_explain.specs.Texts.{group_query}
use Rattle.group_explain.proofs.TaskLemmas.{all-within}
use Rattle.group_explain.proofs.TextLemmas.{lines-within}
use Rattle.group_explain.proofs.text.put_sort_line.Goals as goal

pub put_all_keys-requires-clause-classes : goal.put_all_keys-requires-clause-classes
put_all_keys-requires-clause-classes c =
    all-within (length c.args.g.now.base.classes.classes) (line_keys (group_query c.args.g.now)) c.in_ok-keys.keys c.in_ok-keys.ensures (lines-within c.args.g.now)
