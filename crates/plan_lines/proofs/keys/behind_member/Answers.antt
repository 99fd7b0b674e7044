use Rattle.certificate_entries.specs.explain_KeyLemmas.{member-column}
use Rattle.plan_lines.proofs.keys.behind_member.Goals as goal

pub behind_column-requires-clause-column : goal.behind_column-requires-clause-column
behind_column-requires-clause-column c =
    member-column c.args.cat.now c.args.q.now c.requires.bound c.args.c.0 c.requires.class c.args.set c.in-Some.x
    c.classes_of.result.now c.classes_of.ensures c.in-Some.ensures
