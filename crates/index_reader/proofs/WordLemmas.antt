-- What the next words tell of the parts of CREATE INDEX.
use Rattle.std.proofs.Common.{◌≡◌, List, ◌++◌, refl, ◌∙◌, Ok}
use Rattle.opfamily.specs.declared.classes.Method.TheVariants.{Btree}
use Rattle.sql_grammar.specs.declared.class.Word.TheVariants.{Using as UsingKey}
use Rattle.sql_grammar.specs.Terminals.{Terminal, t_key}
use Rattle.sql_grammar.specs.Syntax.{Using, no_using, using_method}
use Rattle.sql_grammar.specs.Words.{words_of_using}
use Rattle.expr_reader.specs.work.Reading.{BeginsNot}
use Rattle.expr_reader.specs.work.Reads.{Reads}
use Rattle.index_reader.specs.Keys.{method_bound}

-- USING is not next
pub no-method : (u : Using) (rest old new : List Terminal) → new ≡ old → BeginsNot (t_key UsingKey) old → old ≡ words_of_using u ++ rest →
    Reads (λ m. m) (method_bound u) rest (Ok (record { method = Btree; at = 0 })) new
no-method no_using rest old new same other e = (refl, same ∙ e)
no-method (using_method k n) rest old new same other e = absurd (other _ (k, e))
