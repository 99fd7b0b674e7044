-- What a SELECT of ADVISE means behind earlier ones, or its first fault (PostgreSQL manual, chapter Queries; codes: appendix
-- Error Codes; the limits are own).
use Rattle.std.specs.Prelude.{◌≡◌, ℕ, List, cond, nat_lt, length, Result, Ok, Err}
use Rattle.pg_base.specs.declared.faults.Code.TheVariants.{S15}
use Rattle.pg_base.specs.declared.faults.Fault.{Fault}
use Rattle.pg_base.specs.declared.faults.Limit.TheVariants.{Queries}
use Rattle.pg_base.specs.declared.limits.TheConstants.{MOST_QUERIES}
use Rattle.sql_lex.specs.declared.tokens.Token.{Token}
use Rattle.sql_grammar.specs.Syntax.{Advised}
use Rattle.sql_grammar.specs.Faults.{fault_at}
use Rattle.catalog.specs.Contents.{Contents}
use Rattle.sql_query.specs.Queries.{Query}
use Rattle.query_reader.specs.Binding.{Bound, bound_part, query_with}
use Rattle.index_reader.specs.Parts.{open_token, select_in}

-- what a SELECT behind so many means: the one too many is an error at its `(`, and is not bound
abbrev pub query_bound : Contents → Token → ℕ → Advised → Result Bound Fault
query_bound c start earlier x = cond (nat_lt earlier MOST_QUERIES) (bound_part c start (select_in x)) (Err (fault_at (S15 Queries) (open_token x)))

-- the query of what is meant, with classes of its own, or the fault
abbrev pub IsQueryOf : Result Bound Fault → Result Query Fault → Type 0
IsQueryOf (Ok meant) (Ok q) = q ≡ query_with q.classes meant
IsQueryOf (Err fault) (Err told) = told ≡ fault
IsQueryOf _ _ = ⊥

-- what a SELECT means behind earlier ones, in a statement that begins at `start`
abbrev pub QueryMeans : Contents → Token → List Query → Advised → Result Query Fault → Type 0
QueryMeans c start earlier x = IsQueryOf (query_bound c start (length earlier) x)
