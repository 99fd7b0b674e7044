-- What the first words tell of the kind of a statement.
use Rattle.std.proofs.Common.{◌≡◌, Bool, true, false, List, [], ◌∷◌, refl, sym, ap, ◌∙◌}
use Rattle.sql_lex.specs.declared.tokens.Token.{Token}
use Rattle.sql_grammar.specs.declared.class.Free.TheVariants.{Index}
use Rattle.sql_grammar.specs.declared.class.Word.TheVariants.{Create}
use Rattle.sql_grammar.specs.Terminals.{Terminal, free, t_key, t_name}
use Rattle.expr_reader.specs.work.Reading.{Begins, BeginsNot}
use Rattle.ddl_reader.specs.work.Statements.{begins_index}

-- CREATE is not next
pub no-create : (ts : List Terminal) → BeginsNot (t_key Create) ts → false ≡ begins_index ts
no-create [] other = refl
no-create (t_key Create k ∷ rest) other = absurd (other rest (k, refl))
no-create (_ ∷ rest) other = refl

-- CREATE is next, and INDEX does not follow
no-index : (k : Token) (left : List Terminal) → BeginsNot (λ token. t_name (free Index token)) left → false ≡ begins_index (t_key Create k ∷ left)
no-index k [] other = refl
no-index k (t_name (free Index t) ∷ rest) other = absurd (other rest (t, refl))
no-index k (_ ∷ rest) other = refl

pub index-by : (b : Bool) (k : Token) (ts left new : List Terminal) → ts ≡ t_key Create k ∷ left → (b ≡ true → Begins (λ token. t_name (free Index token)) left new) → (b ≡ false → BeginsNot (λ token. t_name (free Index token)) left) →
    b ≡ begins_index ts
index-by true k ts left new is took other = let (t, e) = took refl in sym (ap begins_index (is ∙ ap (λ l. t_key Create k ∷ l) e))
index-by false k ts left new is took other = no-index k left (other refl) ∙ sym (ap begins_index is)
