-- INCLUDE where it is next, and where it is not.
use Rattle.std.proofs.Common.{◌≡◌, true, List, [], ◌∷◌, ◌++◌, drop, Vec, Ok, refl, ap, ◌∙◌, append_assoc}
use Rattle.std.specs.declared.alloc.Global.{Global}
use Rattle.pg_base.specs.declared.numbers.TableNo.{TableNo}
use Rattle.sql_lex.specs.declared.tokens.Token.{Token}
use Rattle.sql_grammar.specs.declared.class.Free.TheVariants.{Include as IncludeWord}
use Rattle.sql_grammar.specs.declared.class.Symbol.TheVariants.{Close}
use Rattle.sql_grammar.specs.Terminals.{Terminal, Ident, free, t_mark, t_name}
use Rattle.sql_grammar.specs.Syntax.{Mark, Include, no_include, include_columns}
use Rattle.sql_grammar.specs.Words.{words_of_include, words_of_names}
use Rattle.expr_reader.specs.work.Reading.{BeginsNot}
use Rattle.catalog.specs.Contents.{Contents}
use Rattle.expr_reader.specs.work.Reads.{Reads}
use Rattle.expr_reader.specs.Lists.{bound_each}
use Rattle.index_reader.specs.declared.names.NamedColumn.{NamedColumn}
use Rattle.index_reader.specs.Keys.{name_bound, include_names}
use Rattle.index_reader.specs.work.Reads.{ends_include, words_of_names_left}

pub no-include : (cat : Contents) (t : TableNo) (c : Include) (rest old new : List Terminal) (v : Vec NamedColumn Global) → v.items ≡ [] → new ≡ old → BeginsNot (λ token. t_name (free IncludeWord token)) old → old ≡ words_of_include c ++ rest →
    Reads (λ (v : Vec NamedColumn Global). v.items) (bound_each (name_bound cat t) (include_names c)) rest (Ok v) new
no-include cat t no_include rest old new v none same other e = (none, same ∙ e)
no-include cat t (include_columns k o n ns m) rest old new v none same other e = absurd (other _ (k, e))

-- its parts
pub record Included (c : Include) (rest mid : List Terminal) : Type 0 where
  pub key : Token
  pub opening : Mark
  pub name : Ident
  pub names : List (Mark × Ident)
  pub close : Mark
  pub is : c ≡ include_columns key opening name names close
  pub words : drop 1 mid ≡ words_of_names_left name names close rest

pub included : (c : Include) (rest mid : List Terminal) (token : Token) → ends_include rest ≡ true → t_name (free IncludeWord token) ∷ mid ≡ words_of_include c ++ rest → Included c rest mid
included no_include rest mid token ends e = let wrong = ap ends_include e ∙ ends in absurd (cc (wrong))
included (include_columns k o n ns m) rest mid token ends e = record {
  key = k;
  opening = o;
  name = n;
  names = ns;
  close = m;
  is = refl;
  words = ap (drop 2) e ∙ ap (λ l. t_name n ∷ l) (append_assoc (words_of_names ns) (t_mark Close m ∷ []) rest);
}
