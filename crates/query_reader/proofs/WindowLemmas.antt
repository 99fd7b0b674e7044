-- LIMIT and OFFSET where they are next, and where they are not.
use Rattle.std.proofs.Common.{◌≡◌, true, List, ◌∷◌, ◌++◌, None, Result, Ok, Err, IsErrAnd, refl, sym, ap, ◌∙◌, drop}
use Rattle.pg_base.specs.declared.faults.Fault.{Fault}
use Rattle.sql_lex.specs.declared.tokens.Token.{Token}
use Rattle.sql_grammar.specs.declared.class.Word.TheVariants.{Limit as LimitKey, Offset as OffsetKey}
use Rattle.sql_grammar.specs.declared.offered.TheConstants.{READS_WINDOW}
use Rattle.sql_grammar.specs.Terminals.{Terminal, Said, t_key, t_number}
use Rattle.sql_grammar.specs.Syntax.{IsOffered, LimitTree, no_limit, most_rows, Offset, no_offset, skipped_rows}
use Rattle.sql_grammar.specs.Words.{words_of_limit, words_of_offset}
use Rattle.expr_reader.specs.work.Reading.{BeginsNot}
use Rattle.expr_reader.specs.Conditions.{next}
use Rattle.expr_reader.proofs.StepLemmas.{stop}
use Rattle.query_reader.specs.work.Ends.{ends_limit, ends_window}
use Rattle.query_reader.specs.Windows.{most_of, skipped_of}

-- LIMIT is next: its number
pub record MostThere (l : LimitTree) (rest left : List Terminal) : Type 0 where
  pub offered : IsOffered READS_WINDOW
  pub key : Token
  pub number : Said
  pub is : l ≡ most_rows offered key number
  pub words : left ≡ t_number number ∷ rest

pub most-there : (l : LimitTree) (rest old left : List Terminal) (k : Token) → ends_limit rest ≡ true → old ≡ words_of_limit l ++ rest → old ≡ t_key LimitKey k ∷ left → MostThere l rest left
most-there no_limit rest old left k ends is took = let wrong = ap ends_limit (sym took ∙ is) ∙ ends in absurd (cc (wrong))
most-there (most_rows p key n) rest old left k ends is took = record { offered = p; key = key; number = n; is = refl; words = ap (drop 1) (sym took ∙ is) }

-- LIMIT is not next
pub no-most : (l : LimitTree) (rest old new : List Terminal) → BeginsNot (t_key LimitKey) old → new ≡ old → old ≡ words_of_limit l ++ rest → (Ok None ≡ most_of l) × (new ≡ rest)
no-most no_limit rest old new other same is = (refl, same ∙ is)
no-most (most_rows p k n) rest old new other same is = absurd (other _ (k, is))

-- OFFSET is next: its number
pub record SkippedThere (o : Offset) (rest left : List Terminal) : Type 0 where
  pub offered : IsOffered READS_WINDOW
  pub key : Token
  pub number : Said
  pub is : o ≡ skipped_rows offered key number
  pub words : left ≡ t_number number ∷ rest

pub skipped-there : (o : Offset) (rest old left : List Terminal) (k : Token) → ends_window rest ≡ true → old ≡ words_of_offset o ++ rest → old ≡ t_key OffsetKey k ∷ left → SkippedThere o rest left
skipped-there no_offset rest old left k ends is took = let wrong = ap ends_window (sym took ∙ is) ∙ ends in absurd (cc (wrong))
skipped-there (skipped_rows p key n) rest old left k ends is took = record { offered = p; key = key; number = n; is = refl; words = ap (drop 1) (sym took ∙ is) }

-- OFFSET is not next
pub no-skipped : (o : Offset) (rest old new : List Terminal) → BeginsNot (t_key OffsetKey) old → new ≡ old → old ≡ words_of_offset o ++ rest → (Ok None ≡ skipped_of o) × (new ≡ rest)
no-skipped no_offset rest old new other same is = (refl, same ∙ is)
no-skipped (skipped_rows p k n) rest old new other same is = absurd (other _ (k, is))

-- a fault that is handed on
pub handed-on : {A B : Type 0} (m : Result A Fault) (more : A → Result B Fault) (r : Result B Fault) (f : Fault) → Err f ≡ m → IsErrAnd r (λ e. e ≡ f) → r ≡ next m more
handed-on m more (Ok b) f is told = absurd told
handed-on m more (Err e) f is told = ap (λ x. Err x) told ∙ sym (stop m more f (sym is))
