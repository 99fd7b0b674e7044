use Rattle.std.proofs.Common.{◌<◌, ◌∙◌, length, sym}
use Rattle.join_search.proofs.UseLemmas.{item-class, part-before}
use Rattle.join_search.proofs.useful.open_classes.Goals as goal

pub has_member-requires : goal.has_member-requires
has_member-requires c = item-class (λ n. n < length c.args.q.now.classes.classes) c.args.list.now c.loop-n.n _ c.loop-n-test.true c.requires

pub returns-then-not-has_member-clause-begins : goal.returns-then-not-has_member-clause-begins
returns-then-not-has_member-clause-begins c =
    part-before c.args.q.now c.args.outside c.args.list.now c.loop-n.n _ c.loop-n-test.true (sym c.has_member.ensures ∙ c.if-not-has_member.true)
