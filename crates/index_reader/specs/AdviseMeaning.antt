-- What ADVISE means over a catalogue, or its first fault: its number, then the candidates from the left, then the limit of a
-- table's indexes, then the SELECTs from the left (own; PostgreSQL has no such statement).
use Rattle.std.specs.Prelude.{◌≡◌, ℕ, List, [], ◌∷◌, cond, map, nat_le, Result, Ok, Err}
use Rattle.std.specs.Str.Parse.{digits_value}
use Rattle.pg_base.specs.declared.faults.Code.TheVariants.{S17}
use Rattle.pg_base.specs.declared.faults.Fault.{Fault}
use Rattle.pg_base.specs.declared.limits.TheConstants.{MOST_CANDIDATES}
use Rattle.sql_lex.specs.declared.tokens.Token.{Token}
use Rattle.sql_grammar.specs.Terminals.{Said}
use Rattle.sql_grammar.specs.Syntax.{Cand, Advised, Advise, advise_of}
use Rattle.sql_grammar.specs.Faults.{fault_at}
use Rattle.catalog.specs.Contents.{Contents, NamedIndex}
use Rattle.sql_query.specs.Queries.{Query}
use Rattle.index_reader.specs.Parts.{candidates_of, name_token}
use Rattle.index_reader.specs.Stages.{AreRead, Then}
use Rattle.index_reader.specs.AdviseCandidates.{CandidateMeans, with_room}
use Rattle.index_reader.specs.Queries.{QueryMeans}

-- what is asked: which of these candidates to make, at most so many, for these queries
pub record Asked : Type 0 where
  pub most : ℕ
  pub candidates : List NamedIndex
  pub queries : List Query

-- the most candidates that are to be made: a number past the limit of candidates is an error
abbrev pub most_meant : Said → Result ℕ Fault
most_meant n = cond (nat_le (digits_value 10 n.value) MOST_CANDIDATES) (Ok (digits_value 10 n.value)) (Err (fault_at S17 n.token))

-- what the candidates mean, all read
abbrev pub CandidatesMean : Contents → Token → List Token → List Cand → Result (List NamedIndex) Fault → Type 0
CandidatesMean c start tokens xs = AreRead Cand NamedIndex (CandidateMeans c start tokens) [] xs

-- what the SELECTs mean
abbrev pub QueriesMean : Contents → Token → List Advised → Result (List Query) Fault → Type 0
QueriesMean c start qs = AreRead Advised Query (QueryMeans c start) [] qs

-- what its number, its candidates and its SELECTs mean, in turn
abbrev pub PartsMean : Contents → Token → List Token → Said → List Cand → List Advised → Result Asked Fault → Type 0
PartsMean c start tokens n xs qs =
    Then ℕ Asked (λ r. r ≡ most_meant n) (λ most.
    Then (List NamedIndex) Asked (CandidatesMean c start tokens xs) (λ candidates.
    Then (List NamedIndex) Asked (λ r. r ≡ with_room c [] (map name_token xs) candidates) (λ all.
    Then (List Query) Asked (QueriesMean c start qs) (λ queries r.
    r ≡ Ok (record { most = most; candidates = all; queries = queries })))))

-- what ADVISE of these tokens means
abbrev pub AdviseMeans : Contents → List Token → Advise → Result Asked Fault → Type 0
AdviseMeans c tokens (advise_of _ start n _ x xs _ q qs _) = PartsMean c start tokens n (candidates_of x xs) (q ∷ qs)
