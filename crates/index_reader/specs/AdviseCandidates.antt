-- What a candidate for an index means behind earlier ones, or its first fault: as CREATE INDEX has it, but for the limit of
-- indexes, which comes behind all candidates (PostgreSQL manual, CREATE INDEX; codes: appendix Error Codes; the limits are
-- own).
use Rattle.std.specs.Prelude.{◌≡◌, ℕ, ◌+◌, List, [], ◌∷◌, ◌++◌, true, false, cond, nat_lt, length, Contains, slice_index_or, Result, Ok, Err}
use Rattle.pg_base.specs.declared.faults.Code.TheVariants.{S5, S6, S15, S17}
use Rattle.pg_base.specs.declared.faults.Fault.{Fault}
use Rattle.pg_base.specs.declared.faults.Limit.TheVariants.{Candidates, Indexes}
use Rattle.pg_base.specs.declared.limits.TheConstants.{MOST_CANDIDATES, MOST_INDEXES}
use Rattle.sql_lex.specs.declared.tokens.Token.{Token}
use Rattle.sql_grammar.specs.Syntax.{Cand}
use Rattle.sql_grammar.specs.Faults.{fault_at}
use Rattle.catalog.specs.Contents.{Contents, NamedIndex, all_names, indexes_of}
use Rattle.catalog.specs.Indexes.{AreDifferentColumns, IsFirstTwice, columns_of, has_form}
use Rattle.catalog.specs.Tables.{IsUnused}
use Rattle.catalog.specs.Candidates.{with_candidates}
use Rattle.index_reader.specs.Meaning.{IndexMeant, meaning_of_cand}
use Rattle.index_reader.specs.Parts.{name_token}
use Rattle.index_reader.specs.Places.{word_fault}
use Rattle.index_reader.specs.Stages.{Then}

-- a candidate that is read may be made, where its table has room: no table, index or earlier candidate has its name, no column
-- stands twice, and the method has its form
pub record IsAllowed (c : Contents) (read : IndexMeant) : Type 0 where
  pub free : IsUnused c read.name
  pub distinct : AreDifferentColumns (columns_of read.index)
  pub form : has_form read.index ≡ true

-- why it may not be made: its name is taken, at that name; else a column stands twice, at the first such column's name; else
-- the method has no index of its form, at the method's name
pub data IsNotAllowed (c : Contents) (tokens : List Token) (read : IndexMeant) (f : Fault) : Type 0 where
  taken : Contains (all_names c) read.name → f ≡ word_fault S5 tokens (slice_index_or read.at 0 0) → IsNotAllowed c tokens read f
  repeated : (place : ℕ) → IsUnused c read.name → IsFirstTwice (columns_of read.index) place →
      f ≡ word_fault S6 tokens (slice_index_or read.at (place + 1) 0) → IsNotAllowed c tokens read f
  formless : IsUnused c read.name → AreDifferentColumns (columns_of read.index) → has_form read.index ≡ false →
      f ≡ word_fault S17 tokens read.method → IsNotAllowed c tokens read f

-- the candidate, or why it may not be made
abbrev pub MayBeMade : Contents → List Token → IndexMeant → Result NamedIndex Fault → Type 0
MayBeMade c tokens read (Ok x) = IsAllowed c read × (x ≡ record { name = read.name; index = read.index })
MayBeMade c tokens read (Err f) = IsNotAllowed c tokens read f

-- the reading of a candidate behind so many: the one too many is an error at its name, and is not bound
abbrev pub candidate_read : Contents → Token → ℕ → Cand → Result IndexMeant Fault
candidate_read c start earlier x = cond (nat_lt earlier MOST_CANDIDATES) (meaning_of_cand c start x) (Err (fault_at (S15 Candidates) (name_token x)))

-- what a candidate means behind earlier ones, in a statement of these tokens that begins at `start`
abbrev pub CandidateMeans : Contents → Token → List Token → List NamedIndex → Cand → Result NamedIndex Fault → Type 0
CandidateMeans c start tokens earlier x =
    Then IndexMeant NamedIndex (λ r. r ≡ candidate_read c start (length earlier) x) (MayBeMade (with_candidates c earlier) tokens)

-- the candidates, from the left behind earlier ones, where each finds room at its table: fewer indexes than a table may have;
-- the first that finds none is an error at its name
abbrev pub with_room : Contents → List NamedIndex → List Token → List NamedIndex → Result (List NamedIndex) Fault
with_room c earlier (name ∷ names) (x ∷ xs) =
    cond (nat_lt (length (indexes_of (with_candidates c earlier) x.index.table)) MOST_INDEXES) (with_room c (earlier ++ x ∷ []) names xs) (Err (fault_at (S15 Indexes) name))
with_room c earlier _ _ = Ok earlier
