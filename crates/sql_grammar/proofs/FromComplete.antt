-- The walk takes every FROM list, and every SELECT.
use Rattle.std.proofs.Common.{◌≡◌, ℕ, ◌+◌, ◌≤◌, true, List, [], ◌∷◌, ◌++◌, refl, sym, ap, ◌∙◌, arith, append_assoc, append-nil}
use Rattle.sql_grammar.specs.Terminals.{Terminal, t_key}
use Rattle.sql_grammar.specs.declared.class.Word.TheVariants.{From, On}
use Rattle.sql_grammar.specs.declared.table.Item.{Item}
use Rattle.sql_grammar.specs.declared.table.Item.TheVariants.{Keyword, Label, Query, Negation, MoreAnds, MoreOrs, Result, MoreResults, MaybeAlias, MoreJoins, MoreGroups, MaybeWhere}
use Rattle.sql_grammar.specs.Syntax.{Mark, Relation, relation, no_inner, inner, Join, join_on, cross_join, Group, group_of, Where, no_where, where_expr, Select, select_from}
use Rattle.sql_grammar.specs.Words.{words_of_expr, words_of_output, words_of_outputs, words_of_relation, words_of_join, words_of_joins, words_of_group, words_of_groups, words_of_where, words_of_select, levels_of_join, levels_of_joins, levels_of_group, levels_of_groups, levels_of_where, levels_of_select}
use Rattle.sql_grammar.specs.work.Machine.{depth_of, takes_all}
use Rattle.sql_grammar.proofs.Complete.{Passes, EndsExpr, EndsSelect, skip, apart, expr, outputs, alias, condition}

-- what follows a join, what follows a group, and what follows all of them
pub record EndsJoin (ts : List Terminal) : Type 0 where
  pub alias : Passes MaybeAlias ts
  pub expr : EndsExpr ts

pub record EndsGroup (ts : List Terminal) : Type 0 where
  pub join : EndsJoin ts
  pub joins : Passes MoreJoins ts

pub record EndsFrom (ts : List Terminal) : Type 0 where
  pub group : EndsGroup ts
  pub groups : Passes MoreGroups ts

after-joins : (js : List Join) (ts : List Terminal) → EndsJoin ts → EndsJoin (words_of_joins js ++ ts)
after-joins [] ts p = p
after-joins (join_on no_inner j r o e ∷ js) ts p = record { alias = refl; expr = record { conj = record { atom = refl; ands = refl }; ors = refl } }
after-joins (join_on (inner i) j r o e ∷ js) ts p = record { alias = refl; expr = record { conj = record { atom = refl; ands = refl }; ors = refl } }
after-joins (cross_join c j r ∷ js) ts p = record { alias = refl; expr = record { conj = record { atom = refl; ands = refl }; ors = refl } }

after-groups : (gs : List (Mark × Group)) (ts : List Terminal) → EndsFrom ts → EndsGroup (words_of_groups gs ++ ts)
after-groups [] ts p = p.group
after-groups ((m, g) ∷ gs) ts p = record { join = record { alias = refl; expr = record { conj = record { atom = refl; ands = refl }; ors = refl } }; joins = refl }

after-from : (w : Where) (ts : List Terminal) → EndsSelect ts → EndsFrom (words_of_where w ++ ts)
after-from no_where ts p = record { group = record { join = record { alias = p.alias; expr = p.expr }; joins = p.joins }; groups = p.groups }
after-from (where_expr k e) ts p =
    record { group = record { join = record { alias = refl; expr = record { conj = record { atom = refl; ands = refl }; ors = refl } }; joins = refl }; groups = refl }

module _ (limit : ℕ) where
  related : (r : Relation) (s : List Item) (ts : List Terminal) → Passes MaybeAlias ts → takes_all limit (words_of_relation r ++ ts) (Label ∷ MaybeAlias ∷ s) ≡ takes_all limit ts s
  related (relation n a) s ts p = alias limit a s ts p

  joined : (j : Join) (s : List Item) (ts : List Terminal) → levels_of_join j + depth_of s ≤ limit → EndsJoin ts →
      takes_all limit (words_of_join j ++ ts) (MoreJoins ∷ s) ≡ takes_all limit ts (MoreJoins ∷ s)
  joined (join_on no_inner j r o e) s ts low p =
      apart limit (words_of_relation r) (t_key On o ∷ words_of_expr e) ts (Label ∷ MaybeAlias ∷ Keyword On ∷ Negation ∷ MoreAnds ∷ MoreOrs ∷ MoreJoins ∷ s) ∙
      (related r (Keyword On ∷ Negation ∷ MoreAnds ∷ MoreOrs ∷ MoreJoins ∷ s) (t_key On o ∷ (words_of_expr e ++ ts)) refl ∙ expr limit e (MoreJoins ∷ s) ts (omega (arith, low)) p.expr)
  joined (join_on (inner i) j r o e) s ts low p =
      apart limit (words_of_relation r) (t_key On o ∷ words_of_expr e) ts (Label ∷ MaybeAlias ∷ Keyword On ∷ Negation ∷ MoreAnds ∷ MoreOrs ∷ MoreJoins ∷ s) ∙
      (related r (Keyword On ∷ Negation ∷ MoreAnds ∷ MoreOrs ∷ MoreJoins ∷ s) (t_key On o ∷ (words_of_expr e ++ ts)) refl ∙ expr limit e (MoreJoins ∷ s) ts (omega (arith, low)) p.expr)
  joined (cross_join c j r) s ts low p = related r (MoreJoins ∷ s) ts p.alias

  joins : (js : List Join) (s : List Item) (ts : List Terminal) → levels_of_joins js + depth_of s ≤ limit → EndsGroup ts →
      takes_all limit (words_of_joins js ++ ts) (MoreJoins ∷ s) ≡ takes_all limit ts s
  joins [] s ts low p = skip limit MoreJoins s ts refl p.joins
  joins (j ∷ js) s ts low p =
      apart limit (words_of_join j) (words_of_joins js) ts (MoreJoins ∷ s) ∙
      (joined j s (words_of_joins js ++ ts) (omega (arith, low)) (after-joins js ts p.join) ∙ joins js s ts (omega (arith, low)) p)

  group : (g : Group) (s : List Item) (ts : List Terminal) → levels_of_group g + depth_of s ≤ limit → EndsGroup ts →
      takes_all limit (words_of_group g ++ ts) (Label ∷ MaybeAlias ∷ MoreJoins ∷ s) ≡ takes_all limit ts s
  group (group_of r js) s ts low p =
      apart limit (words_of_relation r) (words_of_joins js) ts (Label ∷ MaybeAlias ∷ MoreJoins ∷ s) ∙
      (related r (MoreJoins ∷ s) (words_of_joins js ++ ts) (after-joins js ts p.join).alias ∙ joins js s ts low p)

  groups : (gs : List (Mark × Group)) (s : List Item) (ts : List Terminal) → levels_of_groups gs + depth_of s ≤ limit → EndsFrom ts →
      takes_all limit (words_of_groups gs ++ ts) (MoreGroups ∷ s) ≡ takes_all limit ts s
  groups [] s ts low p = skip limit MoreGroups s ts refl p.groups
  groups ((m, g) ∷ gs) s ts low p =
      apart limit (words_of_group g) (words_of_groups gs) ts (Label ∷ MaybeAlias ∷ MoreJoins ∷ MoreGroups ∷ s) ∙
      (group g (MoreGroups ∷ s) (words_of_groups gs ++ ts) (omega (arith, low)) (after-groups gs ts p) ∙ groups gs s ts (omega (arith, low)) p)

  -- a FROM list and a condition
  pub tables : (g : Group) (gs : List (Mark × Group)) (w : Where) (s : List Item) (ts : List Terminal) →
      levels_of_group g + depth_of s ≤ limit → levels_of_groups gs + depth_of s ≤ limit → levels_of_where w + depth_of s ≤ limit → EndsSelect ts →
      takes_all limit (words_of_group g ++ (words_of_groups gs ++ (words_of_where w ++ ts))) (Label ∷ MaybeAlias ∷ MoreJoins ∷ MoreGroups ∷ MaybeWhere ∷ s) ≡ takes_all limit ts s
  tables g gs w s ts first others low p =
      group g (MoreGroups ∷ MaybeWhere ∷ s) (words_of_groups gs ++ (words_of_where w ++ ts)) (omega (arith, first)) (after-groups gs (words_of_where w ++ ts) (after-from w ts p)) ∙
      (groups gs (MaybeWhere ∷ s) (words_of_where w ++ ts) (omega (arith, others)) (after-from w ts p) ∙ condition limit w s ts low p.condition p.expr)

  pub selected : (q : Select) (s : List Item) (ts : List Terminal) → levels_of_select q + depth_of s ≤ limit → EndsSelect ts → takes_all limit (words_of_select q ++ ts) (Query ∷ s) ≡ takes_all limit ts s
  selected (select_from k o os f g gs w) s ts low p =
      let rest : List Terminal = words_of_group g ++ (words_of_groups gs ++ words_of_where w) in
      apart limit (words_of_output o) (words_of_outputs os ++ t_key From f ∷ rest) ts _ ∙
      (ap (λ l. takes_all limit (words_of_output o ++ l) (Result ∷ MoreResults ∷ Keyword From ∷ Label ∷ MaybeAlias ∷ MoreJoins ∷ MoreGroups ∷ MaybeWhere ∷ s))
      (append_assoc (words_of_outputs os) (t_key From f ∷ rest) ts) ∙
      (outputs limit o os (Keyword From ∷ Label ∷ MaybeAlias ∷ MoreJoins ∷ MoreGroups ∷ MaybeWhere ∷ s) _ refl refl ∙
      (apart limit (words_of_group g) (words_of_groups gs ++ words_of_where w) ts (Label ∷ MaybeAlias ∷ MoreJoins ∷ MoreGroups ∷ MaybeWhere ∷ s) ∙
      (ap (λ l. takes_all limit (words_of_group g ++ l) (Label ∷ MaybeAlias ∷ MoreJoins ∷ MoreGroups ∷ MaybeWhere ∷ s)) (append_assoc (words_of_groups gs) (words_of_where w) ts) ∙
      tables g gs w s ts (omega (arith, low)) (omega (arith, low)) (omega (arith, low)) p))))

  pub selected_alone : (q : Select) → levels_of_select q ≤ limit → takes_all limit (words_of_select q) (Query ∷ []) ≡ true
  selected_alone q low = ap (λ l. takes_all limit l (Query ∷ [])) (sym (append-nil (words_of_select q))) ∙
      selected q [] [] (omega (arith, low)) (record { alias = tt; joins = tt; groups = tt; condition = tt; expr = record { conj = record { atom = tt; ands = tt }; ors = tt } })
