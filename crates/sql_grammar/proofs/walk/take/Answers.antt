use Rattle.std.proofs.Common.{◌+◌, sym, ap, ◌∙◌}
use Rattle.pg_base.specs.declared.limits.TheConstants.{MOST_LEVELS}
use Rattle.sql_grammar.specs.work.Machine.{step_of}
use Rattle.sql_grammar.specs.Reading.{terminal_of}
use Rattle.sql_grammar.proofs.LimitLaws.{past-limit}
use Rattle.sql_grammar.proofs.walk.take.Goals as goal

pub returns-in-TooDeep : goal.returns-in-TooDeep
returns-in-TooDeep c = (
  ap (λ x. step_of MOST_LEVELS x c.args.stack.now) (sym c.class_of.ensures) ∙ c.in-TooDeep.ensures.0,
  (_, ap (λ x. step_of (MOST_LEVELS + 1) x c.args.stack.now) (sym c.class_of.ensures) ∙ c.in-TooDeep.ensures.1),
)

pub returns-in-Some : goal.returns-in-Some
returns-in-Some c =
    past-limit (terminal_of c.args.text.now c.args.token) c.args.stack.now _ c.in-Some.limit
    (ap (λ x. step_of MOST_LEVELS x c.args.stack.now) (sym c.class_of.ensures) ∙ c.in-Took.ensures.step)
    (sym c.in-Some.ensures)
