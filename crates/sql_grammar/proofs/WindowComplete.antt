-- The walk takes every LIMIT and OFFSET.
use Rattle.std.proofs.Common.{◌≡◌, ℕ, Bool, true, false, List, [], ◌∷◌, ◌++◌, Option, Some, None, refl, ◌∙◌, cond}
use Rattle.sql_grammar.specs.Terminals.{Terminal, Said, t_mark, t_number}
use Rattle.sql_grammar.specs.declared.class.Word.TheVariants.{Limit as LimitKey, Offset as OffsetKey}
use Rattle.sql_grammar.specs.declared.class.Symbol.TheVariants.{Close}
use Rattle.sql_grammar.specs.declared.class.Class.TheVariants.{Key}
use Rattle.sql_grammar.specs.declared.offered.TheConstants.{READS_WINDOW}
use Rattle.sql_grammar.specs.declared.table.Item.{Item}
use Rattle.sql_grammar.specs.declared.table.Item.TheVariants.{Digits, AfterQualifier, MaybeDirection, MaybeNulls, MaybeLimit, MaybeOffset, MaybeOrder, MoreOrderings}
use Rattle.sql_grammar.specs.Syntax.{Mark, IsOffered, LimitTree, no_limit, most_rows, Offset, no_offset, skipped_rows, WindowTree, window, Ending, semicolon, text_end}
use Rattle.sql_grammar.specs.Words.{words_of_limit, words_of_offset, words_of_window, words_of_ending}
use Rattle.sql_grammar.specs.work.Machine.{by_row, step_of, takes_then, takes_all}
use Rattle.sql_grammar.proofs.Complete.{Passes, EndsSelect, skip, apart, after-query}

-- what follows an order: no further column, and nothing that goes on its last one
pub record EndsOrder (ts : List Terminal) : Type 0 where
  pub qualifier : Passes AfterQualifier ts
  pub direction : Passes MaybeDirection ts
  pub nulls : Passes MaybeNulls ts
  pub more : Passes MoreOrderings ts
  pub none : Passes MaybeOrder ts
  pub select : EndsSelect ts

-- what follows a window, or an order without one
pub record EndsWindow (ts : List Terminal) : Type 0 where
  pub order : EndsOrder ts
  pub most : Passes MaybeLimit ts
  pub skipped : Passes MaybeOffset ts

pub window-order : (w : WindowTree) (ts : List Terminal) → EndsWindow ts → EndsOrder (words_of_window w ++ ts)
window-order (window (most_rows p k n) o) ts ends = record {
  qualifier = refl;
  direction = refl;
  nulls = refl;
  more = refl;
  none = refl;
  select = record { alias = refl; joins = refl; groups = refl; condition = refl; expr = record { conj = record { atom = refl; ands = refl }; ors = refl } };
}
window-order (window no_limit (skipped_rows p k n)) ts ends = record {
  qualifier = refl;
  direction = refl;
  nulls = refl;
  more = refl;
  none = refl;
  select = record { alias = refl; joins = refl; groups = refl; condition = refl; expr = record { conj = record { atom = refl; ands = refl }; ors = refl } };
}
window-order (window no_limit no_offset) ts ends = ends.order

pub ending-window : (e : Ending) → EndsWindow (words_of_ending e)
ending-window (semicolon t) = record {
  order = record { qualifier = refl; direction = refl; nulls = refl; more = refl; none = refl; select = after-query 0 (semicolon t) };
  most = refl;
  skipped = refl;
}
ending-window (text_end t) = record {
  order = record { qualifier = refl; direction = refl; nulls = refl; more = refl; none = refl; select = after-query 0 (text_end t) };
  most = refl;
  skipped = refl;
}

pub parenthesis-window : (m : Mark) (ts : List Terminal) → EndsWindow (t_mark Close m ∷ ts)
parenthesis-window m ts = record {
  order = record {
    qualifier = refl;
    direction = refl;
    nulls = refl;
    more = refl;
    none = refl;
    select = record { alias = refl; joins = refl; groups = refl; condition = refl; expr = record { conj = record { atom = refl; ands = refl }; ors = refl } };
  };
  most = refl;
  skipped = refl;
}

pub nothing-window : EndsWindow []
nothing-window = record {
  order = record {
    qualifier = tt;
    direction = tt;
    nulls = tt;
    more = tt;
    none = tt;
    select = record { alias = tt; joins = tt; groups = tt; condition = tt; expr = record { conj = record { atom = tt; ands = tt }; ors = tt } };
  };
  most = tt;
  skipped = tt;
}

module _ (limit : ℕ) where
  -- a number behind a word that is awaited
  numbered : (b : Bool) → IsOffered b → (n : Said) (s : List Item) (ts : List Terminal) (below : Option (List Item)) →
      takes_then (by_row limit (cond b (Some (Digits ∷ [])) None) true s below) (takes_all limit (t_number n ∷ ts)) ≡ takes_all limit ts s
  numbered true p n s ts below = refl
  numbered false p n s ts below = absurd p

  most : (l : LimitTree) (s : List Item) (ts : List Terminal) → Passes MaybeLimit ts → takes_all limit (words_of_limit l ++ ts) (MaybeLimit ∷ s) ≡ takes_all limit ts s
  most no_limit s ts p = skip limit MaybeLimit s ts refl p
  most (most_rows p k n) s ts q = numbered READS_WINDOW p n s ts (step_of limit (Key LimitKey) s)

  pub skipped : (o : Offset) (s : List Item) (ts : List Terminal) → Passes MaybeOffset ts → takes_all limit (words_of_offset o ++ ts) (MaybeOffset ∷ s) ≡ takes_all limit ts s
  skipped no_offset s ts p = skip limit MaybeOffset s ts refl p
  skipped (skipped_rows p k n) s ts q = numbered READS_WINDOW p n s ts (step_of limit (Key OffsetKey) s)

  after-limit : (o : Offset) (ts : List Terminal) → Passes MaybeLimit ts → Passes MaybeLimit (words_of_offset o ++ ts)
  after-limit no_offset ts p = p
  after-limit (skipped_rows p k n) ts q = refl

  pub windowed : (w : WindowTree) (ts : List Terminal) (s : List Item) → EndsWindow ts → takes_all limit (words_of_window w ++ ts) (MaybeLimit ∷ MaybeOffset ∷ s) ≡ takes_all limit ts s
  windowed (window l o) ts s ends =
      apart limit (words_of_limit l) (words_of_offset o) ts (MaybeLimit ∷ MaybeOffset ∷ s) ∙
      (most l (MaybeOffset ∷ s) (words_of_offset o ++ ts) (after-limit o ts ends.most) ∙ skipped o s ts ends.skipped)
