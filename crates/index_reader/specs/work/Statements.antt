-- What the tokens of a statement for CREATE INDEX mean (own).
use Rattle.std.specs.Prelude.{◌≡◌, ◌⊎◌, ℕ, List, Result, Err}
use Rattle.pg_base.specs.declared.faults.Fault.{Fault}
use Rattle.pg_base.specs.declared.faults.Refusal.{Refusal}
use Rattle.pg_base.specs.declared.faults.Refusal.TheVariants as refusal
use Rattle.sql_lex.specs.declared.tokens.Token.{Token}
use Rattle.sql_grammar.specs.Syntax.{CreateIndex, create_index}
use Rattle.sql_grammar.specs.Faults.{IsStatement, IsFirstFault}
use Rattle.sql_grammar.specs.Spelled.{IsSpelled}
use Rattle.catalog.specs.Contents.{Contents}
use Rattle.index_reader.specs.Meaning.{IndexMeant, meaning_of_index}

-- the tokens spell a CREATE INDEX that means this
pub record IsIndexMeaning (cat : Contents) (text : List ℕ) (tokens : List Token) (r : Result IndexMeant Fault) : Type 0 where
  pub statement : CreateIndex
  pub spelled : IsSpelled (create_index statement) text tokens
  pub means : meaning_of_index cat statement ≡ r

-- the tokens are a CREATE INDEX
abbrev pub AreIndex : List ℕ → List Token → Type 0
AreIndex text tokens = (x : CreateIndex) × IsSpelled (create_index x) text tokens

-- why it is refused: its first fault, of its syntax or after it, or out of memory for one whose syntax has no fault
abbrev pub IsCreateRefusal : Contents → List ℕ → List Token → Refusal → Type 0
IsCreateRefusal cat text tokens (refusal.Fault f) = IsFirstFault IsStatement text tokens f ⊎ IsIndexMeaning cat text tokens (Err f)
IsCreateRefusal cat text tokens refusal.Memory = AreIndex text tokens

-- why a candidate is refused that means this: its fault, or out of memory
abbrev pub IsCandRefusal : Result IndexMeant Fault → Refusal → Type 0
IsCandRefusal meant (refusal.Fault f) = meant ≡ Err f
IsCandRefusal meant refusal.Memory = Unit {0}
