use Rattle.std.proofs.Common.{sym, ◌∙◌}
use Rattle.pg_expr.specs.work.AtomSets.{contains}
use Rattle.pg_expr.specs.work.View.{cond}
use Rattle.index_match.proofs.SlotLemmas.{chosen_some, chosen_none}
use Rattle.index_match.proofs.slots.Chosen.get.Goals as goal

pub returns-then-has : goal.returns-then-has
returns-then-has c =
    chosen_some (contains c.args.self.now.set.now) c.args.self.now.classes.now.clauses c.args.n (cond c.clause.result.now) c.requires.within (sym c.has.ensures ∙ c.if-has.true) c.clause.ensures

pub returns-else-has : goal.returns-else-has
returns-else-has c = chosen_none (contains c.args.self.now.set.now) c.args.self.now.classes.now.clauses c.args.n c.requires.within (sym c.has.ensures ∙ c.if-has.false)
