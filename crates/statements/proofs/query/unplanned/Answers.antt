use Rattle.std.proofs.Common.{◌∙◌, ℕ, ap}
use Rattle.pg_base.specs.declared.faults.Code.TheVariants.{S16}
use Rattle.sql_lex.specs.declared.tokens.Token.{Token}
use Rattle.sql_lex.specs.Ends.{token_at}
use Rattle.sql_grammar.specs.Faults.{fault_at}
use Rattle.statements.proofs.query.unplanned.Goals as goal

pub returns : goal.returns
returns c =
    let tokens = c.args.tokens.now in
    c.fault_at.ensures ∙ ap (λ (t : Token). fault_at S16 t) (c.token_at.ensures ∙ ap (λ (n : ℕ). token_at tokens n) (c.select_at-first.ensures.place c.requires.select))
