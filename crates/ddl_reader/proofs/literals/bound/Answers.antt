use Rattle.ddl_reader.proofs.LiteralListLemmas.{literal-read, left-of}
use Rattle.ddl_reader.proofs.literals.bound.Goals as goal

pub returns-clause-read : goal.returns-clause-read
returns-clause-read c = λ l rest is. (literal-read c.args.t l rest c.read_literal.result c.read_literal.new.from (c.read_literal.ensures.read l rest is) (c.read_literal.ensures.place l rest is)).0

pub returns-clause-left : goal.returns-clause-left
returns-clause-left c =
    left-of c.args.from.now c.read_literal.new.from c.read_literal.result
    (λ l rest is. (literal-read c.args.t l rest c.read_literal.result c.read_literal.new.from (c.read_literal.ensures.read l rest is) (c.read_literal.ensures.place l rest is)).1)
