-- The rows of LIMIT and OFFSET are rules of the grammar.
use Rattle.std.proofs.Common.{◌≡◌, ℕ, Bool, true, false, List, [], ◌∷◌, ◌++◌, Some, None, refl, subst, append_assoc, cond}
use Rattle.sql_lex.specs.declared.tokens.Token.{Token}
use Rattle.sql_grammar.specs.Terminals.{Terminal, t_key}
use Rattle.sql_grammar.specs.declared.class.Word.TheVariants.{Limit, Offset}
use Rattle.sql_grammar.specs.declared.offered.TheConstants.{READS_WINDOW}
use Rattle.sql_grammar.specs.declared.table.Item.{Item}
use Rattle.sql_grammar.specs.declared.table.Item.TheVariants.{Digits, MaybeLimit, MaybeOffset}
use Rattle.sql_grammar.specs.Syntax.{IsOffered, most_rows, skipped_rows}
use Rattle.sql_grammar.proofs.Forest.{IsRule}

-- the words of an order, of a window, of an end and of what follows
pub window-words : (y l o e x : List Terminal) → (y ++ ((l ++ o) ++ e)) ++ x ≡ y ++ (l ++ (o ++ (e ++ x)))
window-words y l o e x = simp append_assoc

module _ (limit : ℕ) (s : List Item) where
  pub most : (b : Bool) (k : Token) → b ≡ READS_WINDOW → IsRule limit s MaybeLimit (t_key Limit k) (cond b (Some (Digits ∷ [])) None)
  most true k is = λ (n, f). ((most_rows (subst IsOffered is tt) k n, f), refl)
  most false k is = tt

  pub skipped : (b : Bool) (k : Token) → b ≡ READS_WINDOW → IsRule limit s MaybeOffset (t_key Offset k) (cond b (Some (Digits ∷ [])) None)
  skipped true k is = λ (n, f). ((skipped_rows (subst IsOffered is tt) k n, f), refl)
  skipped false k is = tt
