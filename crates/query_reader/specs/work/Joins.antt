-- Which join is next, by its first words (own).
use Rattle.std.specs.Prelude.{◌≡◌, true, List, [], ◌∷◌, ◌++◌, Option, Some, None}
use Rattle.sql_grammar.specs.declared.class.Word.TheVariants.{On as OnKey}
use Rattle.sql_grammar.specs.Syntax.{Key, Expr, Relation, Inner, Join, join_on, cross_join}
use Rattle.sql_grammar.specs.Terminals.{Terminal, t_key}
use Rattle.sql_grammar.specs.Words.{words_of_expr, words_of_joins, words_of_relation}
use Rattle.sql_grammar.specs.work.Unique.{ends_expr}
use Rattle.query_reader.specs.work.Ends.{ends_group}
use Rattle.query_reader.specs.declared.written.Joining.{Joining}
use Rattle.query_reader.specs.declared.written.Joining.TheVariants.{On, Cross}

-- a join with a condition is next: its relation is left, then ON and its condition, then the other joins and what stands behind
pub record NextOn (js : List Join) (rest left : List Terminal) : Type 0 where
  pub inner : Inner
  pub join_at : Key
  pub relation : Relation
  pub on_at : Key
  pub condition : Expr
  pub more : List Join
  pub is : js ≡ join_on inner join_at relation on_at condition ∷ more
  pub words : left ≡ words_of_relation relation ++ t_key OnKey on_at ∷ (words_of_expr condition ++ (words_of_joins more ++ rest))

-- a join without a condition is next: its relation is left, then the other joins and what stands behind
pub record NextCross (js : List Join) (rest left : List Terminal) : Type 0 where
  pub cross_at : Key
  pub join_at : Key
  pub relation : Relation
  pub more : List Join
  pub is : js ≡ cross_join cross_at join_at relation ∷ more
  pub words : left ≡ words_of_relation relation ++ (words_of_joins more ++ rest)

-- none is: what stands behind them is left
pub record NoJoin (js : List Join) (rest left : List Terminal) : Type 0 where
  pub is : js ≡ []
  pub words : left ≡ rest

-- which of these, where the words of joins are next and `rest` stands behind them
abbrev pub IsNext : Option Joining → List Join → List Terminal → List Terminal → Type 0
IsNext None = NoJoin
IsNext (Some On) = NextOn
IsNext (Some Cross) = NextCross

-- a join by these words stands first behind them, with the joins that follow, and no word behind those goes on the group
abbrev pub StandsJoin : Joining → List Terminal → Type 0
StandsJoin how ts =
    (x : Join) × (more : List Join) × (rest : List Terminal) × (ends_group rest ≡ true) × IsNext (Some how) (x ∷ more) rest ts

-- where a join by these words stands first, this holds of it, of the joins that follow, and of what stands behind them
abbrev pub IfJoin : Joining → List Terminal → (Join → List Join → List Terminal → Type 0) → Type 0
IfJoin how ts P =
    (x : Join) (more : List Join) (rest : List Terminal) → ends_group rest ≡ true → IsNext (Some how) (x ∷ more) rest ts →
    P x more rest

-- a relation with ON and its condition stands first, and no word behind it goes on the condition
abbrev pub StandsOn : List Terminal → Type 0
StandsOn ts =
    (r : Relation) × (k : Key) × (e : Expr) × (rest : List Terminal) × (ends_expr rest ≡ true) ×
    (ts ≡ words_of_relation r ++ t_key OnKey k ∷ (words_of_expr e ++ rest))

-- where a relation with ON and its condition stands first, this holds of them and of what stands behind them
abbrev pub IfOn : List Terminal → (Relation → Expr → List Terminal → Type 0) → Type 0
IfOn ts P =
    (r : Relation) (k : Key) (e : Expr) (rest : List Terminal) → ends_expr rest ≡ true →
    ts ≡ words_of_relation r ++ t_key OnKey k ∷ (words_of_expr e ++ rest) → P r e rest
