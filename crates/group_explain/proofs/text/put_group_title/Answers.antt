use Rattle.std.proofs.Common.{length}
use Rattle.group_explain.specs.GroupPlans.{group_keys}
use Rattle.group_explain.specs.Texts.{group_query}
use Rattle.group_explain.proofs.TaskLemmas.{all-within}
use Rattle.group_explain.proofs.TextLemmas.{groups-within}
use Rattle.group_explain.proofs.text.put_group_title.Goals as goal

pub put_all_keys-requires-clause-classes : goal.put_all_keys-requires-clause-classes
put_all_keys-requires-clause-classes c =
    all-within (length c.args.g.now.base.classes.classes) (group_keys (group_query c.args.g.now)) c.args.keys.now c.requires.keys (groups-within c.args.g.now)
