-- Working words beside those of `Meaning`.
use Rattle.std.specs.Prelude.{cond, Option, Result, Ok, Err}
use Rattle.pg_base.specs.declared.faults.Code.TheVariants.{S15}
use Rattle.pg_base.specs.declared.faults.Limit.TheVariants.{Atoms}
use Rattle.pg_base.specs.declared.faults.Fault.{Fault}
use Rattle.pg_expr.specs.Cond.{Cond}
use Rattle.sql_lex.specs.declared.tokens.Token.{Token}
use Rattle.sql_grammar.specs.Faults.{fault_at}
use Rattle.index_reader.specs.Meaning.{has_many_atoms}

-- too many atoms are an error at the statement's first token
abbrev pub limited_atoms : {A : Type 0} → Token → Option Cond → A → Result A Fault
limited_atoms start predicate x = cond (has_many_atoms predicate) (Err (fault_at (S15 Atoms) start)) (Ok x)
