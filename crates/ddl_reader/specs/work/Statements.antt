-- Working words beside those of `Statements`.
use Rattle.std.specs.Prelude.{◌≡◌, ◌⊎◌, ℕ, Bool, true, false, not, ◌&&◌, List, [], ◌∷◌, Result, Ok, Err, Some}
use Rattle.pg_base.specs.declared.faults.Code.TheVariants.{S1}
use Rattle.pg_base.specs.declared.faults.Fault.{Fault}
use Rattle.pg_base.specs.declared.faults.Refusal.{Refusal}
use Rattle.pg_base.specs.declared.faults.Refusal.TheVariants as refusal
use Rattle.sql_lex.specs.declared.tokens.Token.{Token}
use Rattle.sql_grammar.specs.declared.class.Word.TheVariants.{Create}
use Rattle.sql_grammar.specs.declared.class.Free.TheVariants.{Analyze, Copy, Index, Statistics}
use Rattle.sql_grammar.specs.declared.class.Class.{Class}
use Rattle.sql_grammar.specs.declared.class.Class.TheVariants.{Key, Name}
use Rattle.sql_grammar.specs.Terminals.{Terminal, free, t_key, t_name}
use Rattle.sql_grammar.specs.work.Terminals.{class_of}
use Rattle.sql_grammar.specs.Syntax.{Statement, copy}
use Rattle.sql_grammar.specs.Faults.{terminals, IsStatement, IsFirstFault, fault_at}
use Rattle.sql_grammar.specs.Spelled.{IsSpelled}
use Rattle.sql_grammar.specs.CopyLine.{IsDataStart}
use Rattle.catalog.specs.Contents.{Contents}
use Rattle.ddl_reader.specs.Tables.{Reading}
use Rattle.ddl_reader.specs.Statements.{Means}

-- CREATE INDEX
abbrev pub begins_index : List Terminal → Bool
begins_index (t_key Create _ ∷ t_name (free Index _) ∷ _) = true
begins_index _ = false

-- CREATE, COPY, STATISTICS or ANALYZE
abbrev pub opens_ddl : Class → Bool
opens_ddl (Key Create) = true
opens_ddl (Name (Some Copy)) = true
opens_ddl (Name (Some Statistics)) = true
opens_ddl (Name (Some Analyze)) = true
opens_ddl _ = false

-- the statement begins with CREATE, but not CREATE INDEX, with COPY, with STATISTICS or with ANALYZE
abbrev pub begins_ddl : List Terminal → Bool
begins_ddl [] = false
begins_ddl (word ∷ words) = not (begins_index (word ∷ words)) && opens_ddl (class_of word)

-- the tokens spell a statement that means this
pub record IsMeaning (cat : Contents) (text : List ℕ) (tokens : List Token) (r : Result Reading Fault) : Type 0 where
  pub statement : Statement
  pub spelled : IsSpelled statement text tokens
  pub means : Means cat text statement r

-- another statement, by its first words, is a syntax fault at its first token
abbrev pub IsOtherWord : List Token → Fault → Type 0
IsOtherWord tokens f = (token : Token) × (later : List Token) × (tokens ≡ token ∷ later) × (f ≡ fault_at S1 token)

-- the first fault, by whether the statement begins so: of its syntax or after it; or that of its first word
abbrev pub IsDdlFault : Contents → List ℕ → List Token → Fault → Bool → Type 0
IsDdlFault cat text tokens f true = IsFirstFault IsStatement text tokens f ⊎ IsMeaning cat text tokens (Err f)
IsDdlFault cat text tokens f false = IsOtherWord tokens f

-- of COPY the rest of its line has no fault, from the `;` on
abbrev pub HasNoLineFault : List ℕ → Statement → Type 0
HasNoLineFault text (copy k n null) = (start : ℕ) × IsDataStart text k.stop.end (Ok start)
HasNoLineFault text _ = Unit {0}

-- the tokens spell a statement, and of COPY the rest of its line has no fault
pub record HaveNoSyntaxFault (text : List ℕ) (tokens : List Token) : Type 0 where
  pub statement : Statement
  pub spelled : IsSpelled statement text tokens
  pub line : HasNoLineFault text statement

-- why a statement is refused: its first fault, or out of memory for a definition whose syntax has no fault
abbrev pub IsDdlRefusal : Contents → List ℕ → List Token → Refusal → Type 0
IsDdlRefusal cat text tokens (refusal.Fault f) = IsDdlFault cat text tokens f (begins_ddl (terminals text tokens))
IsDdlRefusal cat text tokens refusal.Memory = (begins_ddl (terminals text tokens) ≡ true) × HaveNoSyntaxFault text tokens
