-- What the next words tell of a direction and of the end at which NULLs stand.
use Rattle.std.proofs.Common.{◌≡◌, Bool, true, false, List, ◌∷◌, ◌++◌, drop, refl, sym, ap, ◌∙◌}
use Rattle.sql_lex.specs.declared.tokens.Token.{Token}
use Rattle.sql_grammar.specs.declared.class.Word.TheVariants.{Asc, Desc}
use Rattle.sql_grammar.specs.declared.class.Free.TheVariants.{First, Nulls}
use Rattle.sql_grammar.specs.Terminals.{Terminal, free, t_key, t_name}
use Rattle.sql_grammar.specs.Syntax.{Direction, no_direction, ascending, descending, NullsEnd, no_nulls_end, nulls_first, nulls_last}
use Rattle.sql_grammar.specs.Words.{words_of_direction, words_of_nulls_end}
use Rattle.expr_reader.specs.work.Reading.{BeginsNot}
use Rattle.expr_reader.specs.Sorts.{is_descending, has_nulls_first}
use Rattle.expr_reader.specs.work.Sorts.{ends_nulls_end}

-- neither DESC nor ASC is next
pub neither : (d : Direction) (rest old new : List Terminal) → BeginsNot (t_key Desc) old → BeginsNot (t_key Asc) old → new ≡ old → old ≡ words_of_direction d ++ rest →
    (false ≡ is_descending d) × (new ≡ rest)
neither no_direction rest old new desc asc same e = (refl, same ∙ e)
neither (ascending k) rest old new desc asc same e = absurd (asc rest (k, e))
neither (descending k) rest old new desc asc same e = absurd (desc rest (k, e))

-- NULLS is not next
pub no-nulls : (z : NullsEnd) (rest old new : List Terminal) (b : Bool) → new ≡ old → BeginsNot (λ token. t_name (free Nulls token)) old → old ≡ words_of_nulls_end z ++ rest →
    (b ≡ has_nulls_first b z) × (new ≡ rest)
no-nulls no_nulls_end rest old new b same other e = (refl, same ∙ e)
no-nulls (nulls_first n f) rest old new b same other e = absurd (other _ (n, e))
no-nulls (nulls_last n l) rest old new b same other e = absurd (other _ (n, e))

-- NULLS is next, and FIRST does not follow
pub is-last : (z : NullsEnd) (rest old mid new : List Terminal) (token : Token) (b : Bool) → ends_nulls_end rest ≡ true → old ≡ t_name (free Nulls token) ∷ mid → BeginsNot (λ token. t_name (free First token)) mid →
    new ≡ drop 1 mid → old ≡ words_of_nulls_end z ++ rest → (false ≡ has_nulls_first b z) × (new ≡ rest)
is-last no_nulls_end rest old mid new token b ends is other skipped e = let wrong = ap ends_nulls_end (sym is ∙ e) ∙ ends in absurd (cc (wrong))
is-last (nulls_first n f) rest old mid new token b ends is other skipped e = absurd (other rest (f, ap (drop 1) (sym is ∙ e)))
is-last (nulls_last n l) rest old mid new token b ends is other skipped e = (refl, skipped ∙ ap (drop 2) (sym is ∙ e))
