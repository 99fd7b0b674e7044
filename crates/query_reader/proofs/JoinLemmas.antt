-- The words of FROM: its relations and joins, and what stands behind them.
use Rattle.std.proofs.Common.{◌≡◌, ◌<◌, true, List, [], ◌∷◌, ◌++◌, length, drop, refl, sym, ap, ◌∙◌, append_assoc, length-append, arith}
use Rattle.sql_lex.specs.declared.tokens.Token.{Token}
use Rattle.sql_grammar.specs.Terminals.{Terminal, Ident, t_key, t_mark, t_name, t_semicolon, t_end}
use Rattle.sql_grammar.specs.declared.class.Word.TheVariants.{Group as GroupKey, Cross as CrossKey, Inner as InnerKey, Join as JoinKey, Limit as LimitKey, Offset as OffsetKey, On as OnKey, Where as WhereKey, Order}
use Rattle.sql_grammar.specs.declared.class.Symbol.TheVariants.{Comma}
use Rattle.sql_grammar.specs.Syntax.{Mark, Alias, Relation, relation, no_inner, inner, Join, join_on, cross_join, Group, Where, no_where, where_expr, OrderBy, no_order, order_by}
use Rattle.sql_grammar.specs.work.Unique.{ends_expr}
use Rattle.sql_grammar.specs.Words.{words_of_alias, words_of_expr, words_of_groups, words_of_join, words_of_joins, words_of_order, words_of_relation, words_of_where}
use Rattle.expr_reader.specs.work.Reading.{BeginsNot}
use Rattle.query_reader.specs.work.Ends.{ends_alias, ends_from, ends_group, ends_order}
use Rattle.query_reader.specs.work.Joins.{NextOn, NextCross, NoJoin}

-- a relation is a name and an alias
pub record RelationWords (r : Relation) (rest old : List Terminal) : Type 0 where
  pub name : Ident
  pub alias : Alias
  pub is : r ≡ relation name alias
  pub words : old ≡ t_name name ∷ (words_of_alias alias ++ rest)

pub relation-words : (r : Relation) (rest old : List Terminal) → old ≡ words_of_relation r ++ rest → RelationWords r rest old
relation-words (relation n a) rest old is = record { name = n; alias = a; is = refl; words = is }

-- what stands behind a group goes on no alias and no expression
group-alias : (rest : List Terminal) → ends_group rest ≡ true → ends_alias rest ≡ true
group-alias [] ends = refl
group-alias (t_mark Comma _ ∷ rest) ends = refl
group-alias (t_key WhereKey _ ∷ rest) ends = refl
group-alias (t_key GroupKey _ ∷ rest) ends = refl
group-alias (t_key Order _ ∷ rest) ends = refl
group-alias (t_key LimitKey _ ∷ rest) ends = refl
group-alias (t_key OffsetKey _ ∷ rest) ends = refl
group-alias (t_semicolon _ ∷ rest) ends = refl
group-alias (t_end _ ∷ rest) ends = refl
group-alias _ ends = absurd (cc (ends))

group-expr : (rest : List Terminal) → ends_group rest ≡ true → ends_expr rest ≡ true
group-expr [] ends = refl
group-expr (t_mark Comma _ ∷ rest) ends = refl
group-expr (t_key WhereKey _ ∷ rest) ends = refl
group-expr (t_key GroupKey _ ∷ rest) ends = refl
group-expr (t_key Order _ ∷ rest) ends = refl
group-expr (t_key LimitKey _ ∷ rest) ends = refl
group-expr (t_key OffsetKey _ ∷ rest) ends = refl
group-expr (t_semicolon _ ∷ rest) ends = refl
group-expr (t_end _ ∷ rest) ends = refl
group-expr _ ends = absurd (cc (ends))

-- nor do joins
pub joins-alias : (js : List Join) (rest : List Terminal) → ends_group rest ≡ true → ends_alias (words_of_joins js ++ rest) ≡ true
joins-alias [] rest ends = group-alias rest ends
joins-alias (join_on no_inner j r o e ∷ js) rest ends = refl
joins-alias (join_on (inner i) j r o e ∷ js) rest ends = refl
joins-alias (cross_join c j r ∷ js) rest ends = refl

pub joins-expr : (js : List Join) (rest : List Terminal) → ends_group rest ≡ true → ends_expr (words_of_joins js ++ rest) ≡ true
joins-expr [] rest ends = group-expr rest ends
joins-expr (join_on no_inner j r o e ∷ js) rest ends = refl
joins-expr (join_on (inner i) j r o e ∷ js) rest ends = refl
joins-expr (cross_join c j r ∷ js) rest ends = refl

pub from-group : (rest : List Terminal) → ends_from rest ≡ true → ends_group rest ≡ true
from-group [] ends = refl
from-group (t_key WhereKey _ ∷ rest) ends = refl
from-group (t_key GroupKey _ ∷ rest) ends = refl
from-group (t_key Order _ ∷ rest) ends = refl
from-group (t_key LimitKey _ ∷ rest) ends = refl
from-group (t_key OffsetKey _ ∷ rest) ends = refl
from-group (t_semicolon _ ∷ rest) ends = refl
from-group (t_end _ ∷ rest) ends = refl
from-group _ ends = absurd (cc (ends))

pub groups-end : (gs : List (Mark × Group)) (rest : List Terminal) → ends_from rest ≡ true → ends_group (words_of_groups gs ++ rest) ≡ true
groups-end [] rest ends = from-group rest ends
groups-end ((m, g) ∷ gs) rest ends = refl

order-from : (y : OrderBy) (rest : List Terminal) → ends_order rest ≡ true → ends_from (words_of_order y ++ rest) ≡ true
order-from no_order [] ends = refl
order-from no_order (t_key LimitKey _ ∷ rest) ends = refl
order-from no_order (t_key OffsetKey _ ∷ rest) ends = refl
order-from no_order (t_semicolon _ ∷ rest) ends = refl
order-from no_order (t_end _ ∷ rest) ends = refl
order-from no_order _ ends = absurd (cc (ends))
order-from (order_by k b o os) rest ends = refl

pub behind-from : (w : Where) (y : OrderBy) (rest : List Terminal) → ends_order rest ≡ true → ends_from (words_of_where w ++ (words_of_order y ++ rest)) ≡ true
behind-from no_where y rest ends = order-from y rest ends
behind-from (where_expr k e) y rest ends = refl

regroup : (r e m x : List Terminal) (o : Terminal) → ((r ++ o ∷ e) ++ m) ++ x ≡ r ++ o ∷ (e ++ (m ++ x))
regroup r e m x o = append_assoc (r ++ o ∷ e) m x ∙ append_assoc r (o ∷ e) (m ++ x)

-- the join that is next, by its first words
pub next-cross : (js : List Join) (rest old mid new : List Terminal) (t : Token) → ends_group rest ≡ true → old ≡ t_key CrossKey t ∷ mid → new ≡ drop 1 mid → old ≡ words_of_joins js ++ rest → NextCross js rest new
next-cross [] rest old mid new t ends took skipped is = let wrong = ap ends_group (sym took ∙ is) ∙ ends in absurd (cc (wrong))
next-cross (join_on no_inner j r o e ∷ js) rest old mid new t ends took skipped is = absurd (cc (took, is))
next-cross (join_on (inner i) j r o e ∷ js) rest old mid new t ends took skipped is = absurd (cc (took, is))
next-cross (cross_join c j r ∷ js) rest old mid new t ends took skipped is = record {
  cross_at = c;
  join_at = j;
  relation = r;
  more = js;
  is = refl;
  words = skipped ∙ (ap (drop 2) (sym took ∙ is) ∙ append_assoc (words_of_relation r) (words_of_joins js) rest);
}

pub next-inner : (js : List Join) (rest old mid new : List Terminal) (t : Token) → ends_group rest ≡ true → old ≡ t_key InnerKey t ∷ mid → new ≡ drop 1 mid → old ≡ words_of_joins js ++ rest → NextOn js rest new
next-inner [] rest old mid new t ends took skipped is = let wrong = ap ends_group (sym took ∙ is) ∙ ends in absurd (cc (wrong))
next-inner (join_on no_inner j r o e ∷ js) rest old mid new t ends took skipped is = absurd (cc (took, is))
next-inner (cross_join c j r ∷ js) rest old mid new t ends took skipped is = absurd (cc (took, is))
next-inner (join_on (inner i) j r o e ∷ js) rest old mid new t ends took skipped is = record {
  inner = inner i;
  join_at = j;
  relation = r;
  on_at = o;
  condition = e;
  more = js;
  is = refl;
  words = skipped ∙ (ap (drop 2) (sym took ∙ is) ∙ regroup (words_of_relation r) (words_of_expr e) (words_of_joins js) rest (t_key OnKey o));
}

pub next-join : (js : List Join) (rest old new : List Terminal) (t : Token) → ends_group rest ≡ true → old ≡ t_key JoinKey t ∷ new → old ≡ words_of_joins js ++ rest → NextOn js rest new
next-join [] rest old new t ends took is = let wrong = ap ends_group (sym took ∙ is) ∙ ends in absurd (cc (wrong))
next-join (join_on (inner i) j r o e ∷ js) rest old new t ends took is = absurd (cc (took, is))
next-join (cross_join c j r ∷ js) rest old new t ends took is = absurd (cc (took, is))
next-join (join_on no_inner j r o e ∷ js) rest old new t ends took is = record {
  inner = no_inner;
  join_at = j;
  relation = r;
  on_at = o;
  condition = e;
  more = js;
  is = refl;
  words = ap (drop 1) (sym took ∙ is) ∙ regroup (words_of_relation r) (words_of_expr e) (words_of_joins js) rest (t_key OnKey o);
}

pub no-join : (js : List Join) (rest old : List Terminal) → BeginsNot (t_key CrossKey) old → BeginsNot (t_key InnerKey) old → BeginsNot (t_key JoinKey) old → old ≡ words_of_joins js ++ rest → NoJoin js rest old
no-join [] rest old cross inners joins is = record { is = refl; words = is }
no-join (join_on no_inner j r o e ∷ js) rest old cross inners joins is = absurd (joins _ (j, is))
no-join (join_on (inner i) j r o e ∷ js) rest old cross inners joins is = absurd (inners _ (i, is))
no-join (cross_join c j r ∷ js) rest old cross inners joins is = absurd (cross _ (c, is))

some-words : (x : Join) → 0 < length (words_of_join x)
some-words (join_on no_inner j r o e) = omega arith
some-words (join_on (inner i) j r o e) = omega arith
some-words (cross_join c j r) = omega arith

-- fewer joins are fewer words
pub joins-shorter : (x : Join) (js : List Join) (rest : List Terminal) → length (words_of_joins js ++ rest) < length (words_of_joins (x ∷ js) ++ rest)
joins-shorter x js rest =
    omega (arith, some-words x, length-append (words_of_join x ++ words_of_joins js) rest, length-append (words_of_join x) (words_of_joins js), length-append (words_of_joins js) rest)
