-- The row of an order is a rule of the grammar.
use Rattle.std.proofs.Common.{ℕ, List, ◌∷◌, ◌++◌, ap, ◌∙◌, append_assoc}
use Rattle.sql_grammar.specs.Terminals.{Terminal, t_key, t_name, free}
use Rattle.sql_grammar.specs.work.Terminals.{class_of}
use Rattle.sql_grammar.specs.declared.class.Free.TheVariants.{By}
use Rattle.sql_grammar.specs.declared.class.Word.TheVariants.{Order}
use Rattle.sql_grammar.specs.declared.table.Item.{Item}
use Rattle.sql_grammar.specs.declared.table.Item.TheVariants.{MaybeOrder}
use Rattle.sql_grammar.specs.Syntax.{ordering, order_by}
use Rattle.sql_grammar.specs.Words.{words_of_direction, words_of_nulls_end, words_of_orderings}
use Rattle.sql_grammar.specs.work.Table.{takes_of}
use Rattle.sql_grammar.proofs.Forest.{words_of_parts, IsRule}

module _ (limit : ℕ) (s : List Item) where
  pub order_rule : (t : Terminal) → IsRule limit s MaybeOrder t (takes_of MaybeOrder (class_of t))
  order_rule (t_key Order k) = λ (b, (n, ((ts, after'), (d, (z, (os, f)))))). (
    (order_by k b (ordering (after' n).0 d z) os, f),
    ap (λ l. t_key Order k ∷ t_name (free By b) ∷ ((l ++ (words_of_direction d ++ words_of_nulls_end z)) ++ words_of_orderings os) ++ words_of_parts limit s f) (after' n).1 ∙ simp append_assoc,
  )
  order_rule _ = tt
