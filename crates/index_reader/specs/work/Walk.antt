-- What is left of an ADVISE at a token, and what reading it from there on gives (own).
use Rattle.std.specs.Prelude.{◌≡◌, ◌≤◌, ℕ, ◌+◌, max, map, true, List, ◌∷◌, ◌++◌, drop, length, All, Result, Ok, Err, Vec}
use Rattle.std.specs.declared.alloc.Global.{Global}
use Rattle.pg_base.specs.declared.faults.Refusal.{Refusal}
use Rattle.pg_base.specs.declared.faults.Refusal.TheVariants as refusal
use Rattle.pg_base.specs.declared.limits.TheConstants.{MOST_CANDIDATES, MOST_INDEXES, MOST_LEVELS, MOST_QUERIES}
use Rattle.pg_base.specs.declared.numbers.TableNo.{TableNo}
use Rattle.pg_base.specs.Names.{AreDistinct}
use Rattle.sql_lex.specs.declared.tokens.Token.{Token}
use Rattle.sql_grammar.specs.declared.class.Symbol.TheVariants.{Close}
use Rattle.sql_grammar.specs.Terminals.{Terminal, t_mark}
use Rattle.sql_grammar.specs.Syntax.{Mark, Cand, WindowedSelect, Advised, Ending}
use Rattle.sql_grammar.specs.work.Unique.{ends_cand, ends_windowed}
use Rattle.sql_grammar.specs.Words.{words_of_cand, words_of_cands, words_of_advised, words_of_more_advised, words_of_windowed, words_of_ending, levels_of_advised, levels_of_cand, levels_of_cands, levels_of_more_advised, levels_of_windowed}
use Rattle.sql_grammar.specs.Faults.{AreWithinLimits, terminals}
use Rattle.catalog.specs.Contents.{Contents, NamedIndex, indexes_of}
use Rattle.eq_classes.specs.Holding.{IsClassTable}
use Rattle.sql_query.specs.Queries.{Query}
use Rattle.sql_query.specs.WellBound.{IsWellBound, given_of}
use Rattle.catalog.specs.work.Candidates.{IsCandidateIndex, names_of}
use Rattle.index_reader.specs.declared.candidates.AllRead.{AllRead}
use Rattle.index_reader.specs.declared.candidates.OneRead.{OneRead}
use Rattle.index_reader.specs.declared.queries.OneQuery.{OneQuery}
use Rattle.index_reader.specs.AdviseCandidates.{CandidateMeans}
use Rattle.index_reader.specs.AdviseMeaning.{CandidatesMean, QueriesMean}
use Rattle.index_reader.specs.Parts.{candidates_of, name_token}
use Rattle.index_reader.specs.Queries.{QueryMeans}

-- the tokens from number `first` on are these words and then `next` and others, in a statement within the limits
pub record Stands (text : List ℕ) (tokens : List Token) (first : ℕ) (words : List Terminal) (next : Terminal) (rest : List Terminal) : Type 0 where
  pub are : terminals text (drop first tokens) ≡ words ++ next ∷ rest
  pub limits : AreWithinLimits (terminals text tokens)

-- candidates that are left, with the `)` and what stands behind it
pub record Row : Type 0 where
  pub first : Cand
  pub more : List (Mark × Cand)
  pub close : Mark
  pub rest : List Terminal

-- candidates that are left stand from token number `first` on
pub record RowAt (text : List ℕ) (tokens : List Token) (first : ℕ) (w : Row) : Type 0 where
  pub are : terminals text (drop first tokens) ≡ words_of_cand w.first ++ (words_of_cands w.more ++ t_mark Close w.close ∷ w.rest)
  pub limits : AreWithinLimits (terminals text tokens)
  pub levels : max (levels_of_cand w.first) (levels_of_cands w.more) ≤ MOST_LEVELS

-- SELECTs in parentheses that are left, with the statement's end
pub record QueryRow : Type 0 where
  pub queries : List Advised
  pub ending : Ending

-- SELECTs in parentheses that are left stand from token number `first` on
pub record QueryRowAt (text : List ℕ) (tokens : List Token) (first : ℕ) (w : QueryRow) : Type 0 where
  pub are : terminals text (drop first tokens) ≡ words_of_more_advised w.queries ++ words_of_ending w.ending
  pub limits : AreWithinLimits (terminals text tokens)
  pub levels : levels_of_more_advised w.queries ≤ MOST_LEVELS

-- candidates that may be made together, where their tables have room
pub record AreApart (c : Contents) (xs : List NamedIndex) : Type 0 where
  pub few : length xs ≤ MOST_CANDIDATES
  pub each : All (IsCandidateIndex c) xs
  pub apart : AreDistinct (names_of xs)

-- no table has more indexes than it may have
abbrev pub HaveRoom : Contents → Type 0
HaveRoom c = (t : TableNo) → length (indexes_of c t) ≤ MOST_INDEXES

-- queries that may be planned, with the classes of their own conditions and order
pub record ArePlannable (c : Contents) (qs : List Query) : Type 0 where
  pub few : length qs ≤ MOST_QUERIES
  pub bound : All (IsWellBound c) qs
  pub classes : All (λ q. IsClassTable (given_of c q) q.classes) qs

-- what is read of a candidate at token number `first` behind earlier ones: what it means and where it ends, or its first fault,
-- or there was no memory
abbrev pub TellsCandidate : Contents → Token → List Token → List NamedIndex → ℕ → Cand → Result OneRead Refusal → Type 0
TellsCandidate c start tokens earlier first x (Ok r) = CandidateMeans c start tokens earlier x (Ok r.candidate) × (r.end ≡ first + length (words_of_cand x))
TellsCandidate c start tokens earlier first x (Err (refusal.Fault f)) = CandidateMeans c start tokens earlier x (Err f)
TellsCandidate c start tokens earlier first x (Err refusal.Memory) = Unit {0}

-- what is answered for all candidates that are left: what they mean and where they end, or their first fault, or there was no
-- memory
abbrev pub TellsCandidates : Contents → Token → List ℕ → List Token → Row → Result AllRead Refusal → Type 0
TellsCandidates c start text tokens w (Ok r) =
    CandidatesMean c start tokens (candidates_of w.first w.more) (Ok r.candidates.items) × (r.names.items ≡ map name_token (candidates_of w.first w.more)) ×
    (terminals text (drop r.end tokens) ≡ t_mark Close w.close ∷ w.rest)
TellsCandidates c start text tokens w (Err (refusal.Fault f)) = CandidatesMean c start tokens (candidates_of w.first w.more) (Err f)
TellsCandidates c start text tokens w (Err refusal.Memory) = Unit {0}

-- what is read of a SELECT whose `(` is token number `first`, behind earlier ones
abbrev pub TellsQuery : Contents → Token → List Query → ℕ → Advised → Result OneQuery Refusal → Type 0
TellsQuery c start earlier first x (Ok r) = QueryMeans c start earlier x (Ok r.query) × (r.end ≡ first + length (words_of_advised x))
TellsQuery c start earlier first x (Err (refusal.Fault f)) = QueryMeans c start earlier x (Err f)
TellsQuery c start earlier first x (Err refusal.Memory) = Unit {0}

-- what is answered for all SELECTs that are left: what they mean, or their first fault, or there was no memory
abbrev pub TellsQueries : Contents → Token → QueryRow → Result (Vec Query Global) Refusal → Type 0
TellsQueries c start w (Ok v) = QueriesMean c start w.queries (Ok v.items)
TellsQueries c start w (Err (refusal.Fault f)) = QueriesMean c start w.queries (Err f)
TellsQueries c start w (Err refusal.Memory) = Unit {0}

-- a candidate stands from token number `first` on, and no word behind it goes on it
abbrev pub StandsCand : List ℕ → List Token → ℕ → Type 0
StandsCand text tokens first =
    (x : Cand) × (next : Terminal) × (rest : List Terminal) × Stands text tokens first (words_of_cand x) next rest ×
    (ends_cand (next ∷ rest) ≡ true) × (levels_of_cand x ≤ MOST_LEVELS)

-- where a candidate stands from token number `first` on, this is the number of the token behind it
abbrev pub IsEndOfCand : List ℕ → List Token → ℕ → ℕ → Type 0
IsEndOfCand text tokens first end =
    (x : Cand) (next : Terminal) (rest : List Terminal) → Stands text tokens first (words_of_cand x) next rest →
    ends_cand (next ∷ rest) ≡ true → levels_of_cand x ≤ MOST_LEVELS → end ≡ first + length (words_of_cand x)

-- where a candidate stands from token number `first` on, what is read of it is what it means, or its first fault, behind
-- earlier ones
abbrev pub TellsNextCandidate : Contents → List ℕ → List Token → List NamedIndex → ℕ → Result OneRead Refusal → Type 0
TellsNextCandidate c text tokens earlier first read =
    (x : Cand) (next : Terminal) (rest : List Terminal) (start : Token) (later : List Token) → tokens ≡ start ∷ later →
    Stands text tokens first (words_of_cand x) next rest → ends_cand (next ∷ rest) ≡ true → levels_of_cand x ≤ MOST_LEVELS →
    TellsCandidate c start tokens earlier first x read

-- where candidates stand from token number `first` on, what is read of them is what they mean, or their first fault
abbrev pub TellsRow : Contents → List ℕ → List Token → ℕ → Result AllRead Refusal → Type 0
TellsRow c text tokens first read =
    (w : Row) (start : Token) (later : List Token) → tokens ≡ start ∷ later → RowAt text tokens first w →
    TellsCandidates c start text tokens w read

-- a SELECT with its order and its window stands from token number `first` on, and no word behind it goes on it
abbrev pub StandsWindowed : List ℕ → List Token → ℕ → Type 0
StandsWindowed text tokens first =
    (x : WindowedSelect) × (next : Terminal) × (rest : List Terminal) × Stands text tokens first (words_of_windowed x) next rest ×
    (ends_windowed (next ∷ rest) ≡ true) × (levels_of_windowed x ≤ MOST_LEVELS)

-- where a SELECT with its order and its window stands from token number `first` on, this is the number of the token behind it
abbrev pub IsEndOfWindowed : List ℕ → List Token → ℕ → ℕ → Type 0
IsEndOfWindowed text tokens first end =
    (x : WindowedSelect) (next : Terminal) (rest : List Terminal) → Stands text tokens first (words_of_windowed x) next rest →
    ends_windowed (next ∷ rest) ≡ true → levels_of_windowed x ≤ MOST_LEVELS → end ≡ first + length (words_of_windowed x)

-- a SELECT in parentheses stands from token number `first` on
abbrev pub StandsAdvised : List ℕ → List Token → ℕ → Type 0
StandsAdvised text tokens first =
    (x : Advised) × (next : Terminal) × (rest : List Terminal) × Stands text tokens first (words_of_advised x) next rest ×
    (levels_of_advised x ≤ MOST_LEVELS)

-- where a SELECT in parentheses stands from token number `first` on, what is read of it is what it means, or its first fault,
-- behind earlier ones
abbrev pub TellsNextQuery : Contents → List ℕ → List Token → List Query → ℕ → Result OneQuery Refusal → Type 0
TellsNextQuery c text tokens earlier first read =
    (x : Advised) (next : Terminal) (rest : List Terminal) (start : Token) (later : List Token) → tokens ≡ start ∷ later →
    Stands text tokens first (words_of_advised x) next rest → levels_of_advised x ≤ MOST_LEVELS →
    TellsQuery c start earlier first x read

-- where SELECTs in parentheses stand from token number `first` on, what is read of them is what they mean, or their first fault
abbrev pub TellsQueryRow : Contents → List ℕ → List Token → ℕ → Result (Vec Query Global) Refusal → Type 0
TellsQueryRow c text tokens first read =
    (w : QueryRow) (start : Token) (later : List Token) → tokens ≡ start ∷ later → QueryRowAt text tokens first w →
    TellsQueries c start w read
