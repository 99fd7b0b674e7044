-- What the next words tell of a column.
use Rattle.std.proofs.Common.{◌≡◌, true, false, List, ◌∷◌, ◌++◌, drop, refl, sym, ap, ◌∙◌}
use Rattle.sql_lex.specs.declared.tokens.Token.{Token}
use Rattle.sql_grammar.specs.declared.class.Word.TheVariants.{Not, Null}
use Rattle.sql_grammar.specs.Terminals.{Terminal, Ident, t_key, t_name}
use Rattle.sql_grammar.specs.Syntax.{Nulls, unwritten, not_null, nullable}
use Rattle.sql_grammar.specs.Words.{words_of_nulls}
use Rattle.expr_reader.specs.declared.cursor.Spelled.{Spelled}
use Rattle.expr_reader.specs.Reading.{spelled}
use Rattle.expr_reader.specs.work.Reading.{BeginsNot, BeginsName}
use Rattle.ddl_reader.specs.Columns.{refuses_null}
use Rattle.ddl_reader.specs.work.AsMeant.{ends_nulls}

-- a name that is taken
pub named : (n : Ident) (ws : List Terminal) (s : Spelled) (old new : List Terminal) → old ≡ t_name n ∷ ws → BeginsName s old new → (s ≡ spelled n) × (new ≡ ws)
named n ws s old new is (m, said, e) =
    let same : t_name m ∷ new ≡ t_name n ∷ ws = sym e ∙ is in
    let name : m ≡ n = cc (same) in
    (said ∙ ap spelled name, cc (same))

pub after-not : (x : Nulls) (rest old left new : List Terminal) (token : Token) → ends_nulls rest ≡ true → old ≡ t_key Not token ∷ left → new ≡ drop 1 left → old ≡ words_of_nulls x ++ rest →
    (true ≡ refuses_null x) × (new ≡ rest)
after-not unwritten rest old left new token ends is skipped e = let wrong = ap ends_nulls (sym is ∙ e) ∙ ends in absurd (cc (wrong))
after-not (not_null a b) rest old left new token ends is skipped e = (refl, skipped ∙ ap (drop 2) (sym is ∙ e))
after-not (nullable a) rest old left new token ends is skipped e = let wrong = sym is ∙ e in absurd (cc (wrong))

pub after-null : (x : Nulls) (rest old new : List Terminal) (token : Token) → ends_nulls rest ≡ true → old ≡ t_key Null token ∷ new → old ≡ words_of_nulls x ++ rest →
    (false ≡ refuses_null x) × (new ≡ rest)
after-null unwritten rest old new token ends is e = let wrong = ap ends_nulls (sym is ∙ e) ∙ ends in absurd (cc (wrong))
after-null (not_null a b) rest old new token ends is e = let wrong = sym is ∙ e in absurd (cc (wrong))
after-null (nullable a) rest old new token ends is e = (refl, ap (drop 1) (sym is ∙ e))

pub neither : (x : Nulls) (rest old new : List Terminal) → BeginsNot (t_key Not) old → BeginsNot (t_key Null) old → new ≡ old → old ≡ words_of_nulls x ++ rest →
    (false ≡ refuses_null x) × (new ≡ rest)
neither unwritten rest old new nots nulls same e = (refl, same ∙ e)
neither (not_null a b) rest old new nots nulls same e = absurd (nots (t_key Null b ∷ rest) (a, e))
neither (nullable a) rest old new nots nulls same e = absurd (nulls rest (a, e))
