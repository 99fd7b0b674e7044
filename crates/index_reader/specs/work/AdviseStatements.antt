-- What the tokens of a statement for ADVISE mean (own).
use Rattle.std.specs.Prelude.{◌≡◌, ◌⊎◌, ◌<◌, ◌+◌, ℕ, List, ◌∷◌, Bool, true, false, drop, length, Result, Ok, Err}
use Rattle.pg_base.specs.declared.faults.Fault.{Fault}
use Rattle.pg_base.specs.declared.faults.Refusal.{Refusal}
use Rattle.pg_base.specs.declared.faults.Refusal.TheVariants as refusal
use Rattle.sql_lex.specs.declared.tokens.Token.{Token}
use Rattle.sql_grammar.specs.declared.class.Free.TheVariants.{Advise as AdviseWord}
use Rattle.sql_grammar.specs.declared.class.Symbol.TheVariants.{Close}
use Rattle.sql_grammar.specs.Terminals.{Said, Terminal, free, t_mark, t_name, t_number}
use Rattle.sql_grammar.specs.Syntax.{Advise, advise}
use Rattle.sql_grammar.specs.Faults.{IsStatement, IsFirstFault, terminals}
use Rattle.sql_grammar.specs.Spelled.{IsSpelled}
use Rattle.catalog.specs.Contents.{Contents}
use Rattle.index_reader.specs.declared.advising.Advising.{Advising}
use Rattle.index_reader.specs.AdviseMeaning.{Asked, AdviseMeans, PartsMean}
use Rattle.index_reader.specs.Parts.{candidates_of}
use Rattle.index_reader.specs.work.Walk.{QueryRow, QueryRowAt, Row, RowAt}

-- ADVISE is the first word
abbrev pub begins_advise : List Terminal → Bool
begins_advise (t_name (free AdviseWord _) ∷ _) = true
begins_advise _ = false

-- what is read
abbrev pub advice_asked : Advising → Asked
advice_asked a = record { most = a.most; candidates = a.candidates.items; queries = a.queries.items }

-- the tokens spell an ADVISE that means this
pub record IsAdviseMeaning (c : Contents) (text : List ℕ) (tokens : List Token) (r : Result Asked Fault) : Type 0 where
  pub statement : Advise
  pub spelled : IsSpelled (advise statement) text tokens
  pub means : AdviseMeans c tokens statement r

-- the tokens are an ADVISE
abbrev pub AreAdvise : List ℕ → List Token → Type 0
AreAdvise text tokens = (x : Advise) × IsSpelled (advise x) text tokens

-- why it is refused: its first fault, of its syntax or after it, or out of memory for one whose syntax has no fault
abbrev pub IsAdviseRefusal : Contents → List ℕ → List Token → Refusal → Type 0
IsAdviseRefusal c text tokens (refusal.Fault f) = IsFirstFault IsStatement text tokens f ⊎ IsAdviseMeaning c text tokens (Err f)
IsAdviseRefusal c text tokens refusal.Memory = AreAdvise text tokens

-- the number, the candidates and the SELECTs of an ADVISE stand where they are read
pub record PartsStand (text : List ℕ) (tokens : List Token) (n : Said) (w : Row) (q : QueryRow) : Type 0 where
  pub behind-number : List Terminal
  pub number : terminals text (drop 1 tokens) ≡ t_number n ∷ behind-number
  pub row : RowAt text tokens 3 w
  pub some : 0 < length q.queries
  pub queries : (end : ℕ) → terminals text (drop end tokens) ≡ t_mark Close w.close ∷ w.rest → QueryRowAt text tokens (end + 1) q

-- what is read of them: what they mean, or their first fault, or there was no memory
abbrev pub TellsParts : Contents → Token → List Token → Said → Row → QueryRow → Result Advising Refusal → Type 0
TellsParts c start tokens n w q (Ok a) = PartsMean c start tokens n (candidates_of w.first w.more) q.queries (Ok (advice_asked a))
TellsParts c start tokens n w q (Err (refusal.Fault f)) = PartsMean c start tokens n (candidates_of w.first w.more) q.queries (Err f)
TellsParts c start tokens n w q (Err refusal.Memory) = Unit {0}

-- where the parts of an ADVISE stand where they are read, what is read of them is what they mean, or their first fault
abbrev pub TellsAdvice : Contents → List ℕ → List Token → Result Advising Refusal → Type 0
TellsAdvice c text tokens read =
    (n : Said) (w : Row) (q : QueryRow) (start : Token) (later : List Token) → tokens ≡ start ∷ later →
    PartsStand text tokens n w q → TellsParts c start tokens n w q read
