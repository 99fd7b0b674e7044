-- The groups and joins of FROM: what their words are, and what they mean, part by part.
use Rattle.std.proofs.Common.{◌≡◌, ℕ, ◌<◌, true, List, [], ◌∷◌, ◌++◌, length, map, Some, refl, sym, ap, subst, ◌∙◌, append_assoc, arith, length-append}
use Rattle.std.proofs.lemmas.List.{map-append}
use Rattle.pg_expr.specs.declared.expr.Expr.{Expr as ExprRead}
use Rattle.pg_expr.specs.work.View.{cond}
use Rattle.catalog.specs.Contents.{Contents}
use Rattle.catalog.specs.Range.{Range}
use Rattle.sql_lex.specs.declared.tokens.Token.{Token}
use Rattle.sql_grammar.specs.Terminals.{Terminal, t_key, t_mark}
use Rattle.sql_grammar.specs.declared.class.Word.TheVariants.{On as OnKey}
use Rattle.sql_grammar.specs.declared.class.Symbol.TheVariants.{Comma}
use Rattle.sql_grammar.specs.FromParts.{groups_after}
use Rattle.sql_grammar.specs.Syntax.{Key, Mark, Expr, Relation, Join, join_on, cross_join, Group, group_of}
use Rattle.sql_grammar.specs.Words.{words_of_expr, words_of_group, words_of_groups, words_of_joins, words_of_relation}
use Rattle.expr_reader.specs.work.Reading.{BeginsNot}
use Rattle.expr_reader.specs.Conditions.{next}
use Rattle.query_reader.specs.declared.written.Joining.{Joining}
use Rattle.query_reader.specs.declared.written.Joining.TheVariants.{On, Cross}
use Rattle.query_reader.specs.work.Ends.{ends_from}
use Rattle.query_reader.specs.From.{Joined, with_condition, with_join, with_relation}
use Rattle.query_reader.specs.work.Joins.{IsNext, NextOn, NextCross}
use Rattle.query_reader.specs.Written.{source_of}

-- a join with a condition
pub record OnJoin (first : ℕ) (x : Join) (more : List Join) (rest left : List Terminal) : Type 0 where
  pub relation : Relation
  pub on_at : Key
  pub condition : Expr
  pub meant : (j : Joined) → with_join first j x ≡ next (with_relation j (source_of relation)) (λ i. with_condition first i condition)
  pub words : left ≡ words_of_relation relation ++ t_key OnKey on_at ∷ (words_of_expr condition ++ (words_of_joins more ++ rest))

pub on-join : (first : ℕ) (x : Join) (more : List Join) (rest left : List Terminal) → NextOn (x ∷ more) rest left → OnJoin first x more rest left
on-join first x more rest left n =
    let head : x ≡ join_on n.inner n.join_at n.relation n.on_at n.condition = cc (n.is) in
    let others : n.more ≡ more = cc (n.is) in
    record {
      relation = n.relation;
      on_at = n.on_at;
      condition = n.condition;
      meant = λ j. ap (with_join first j) head;
      words = n.words ∙ ap (λ (js : List Join). words_of_relation n.relation ++ t_key OnKey n.on_at ∷ (words_of_expr n.condition ++ (words_of_joins js ++ rest))) others;
    }

-- a join without a condition
pub record CrossJoin (first : ℕ) (x : Join) (more : List Join) (rest left : List Terminal) : Type 0 where
  pub relation : Relation
  pub meant : (j : Joined) → with_join first j x ≡ with_relation j (source_of relation)
  pub words : left ≡ words_of_relation relation ++ (words_of_joins more ++ rest)

pub cross-join : (first : ℕ) (x : Join) (more : List Join) (rest left : List Terminal) → NextCross (x ∷ more) rest left → CrossJoin first x more rest left
cross-join first x more rest left n =
    let head : x ≡ cross_join n.cross_at n.join_at n.relation = cc (n.is) in
    let others : n.more ≡ more = cc (n.is) in
    record { relation = n.relation; meant = λ j. ap (with_join first j) head; words = n.words ∙ ap (λ (js : List Join). words_of_relation n.relation ++ (words_of_joins js ++ rest)) others }

-- a first one, and others
pub record Split (js : List Join) : Type 0 where
  pub head : Join
  pub tail : List Join
  pub is : js ≡ head ∷ tail

pub split : (how : Joining) (js : List Join) (rest left : List Terminal) → IsNext (Some how) js rest left → Split js
split On js rest left n = record { head = join_on n.inner n.join_at n.relation n.on_at n.condition; tail = n.more; is = n.is }
split Cross js rest left n = record { head = cross_join n.cross_at n.join_at n.relation; tail = n.more; is = n.is }

-- a group is a relation and joins
pub record GroupWords (g : Group) (rest old : List Terminal) : Type 0 where
  pub relation : Relation
  pub joins : List Join
  pub is : g ≡ group_of relation joins
  pub words : old ≡ words_of_relation relation ++ (words_of_joins joins ++ rest)

pub group-words : (g : Group) (rest old : List Terminal) → old ≡ words_of_group g ++ rest → GroupWords g rest old
group-words (group_of r js) rest old is = record { relation = r; joins = js; is = refl; words = is ∙ append_assoc (words_of_relation r) (words_of_joins js) rest }

-- the group after a comma
pub record NextGroup (gs : List (Mark × Group)) (rest left : List Terminal) : Type 0 where
  pub group : Group
  pub others : List (Mark × Group)
  pub is : groups_after gs ≡ group ∷ groups_after others
  pub words : left ≡ words_of_group group ++ (words_of_groups others ++ rest)

pub next-group : (gs : List (Mark × Group)) (rest left : List Terminal) (t : Token) → ends_from rest ≡ true → t_mark Comma t ∷ left ≡ words_of_groups gs ++ rest → NextGroup gs rest left
next-group [] rest left t ends is = let wrong = ap ends_from is ∙ ends in absurd (cc (wrong))
next-group ((m, g) ∷ gs) rest left t ends is =
    let so : left ≡ (words_of_group g ++ words_of_groups gs) ++ rest = cc (is) in
    record { group = g; others = gs; is = refl; words = so ∙ append_assoc (words_of_group g) (words_of_groups gs) rest }

pub no-group : (gs : List (Mark × Group)) (rest left : List Terminal) → BeginsNot (t_mark Comma) left → left ≡ words_of_groups gs ++ rest → (groups_after gs ≡ []) × (left ≡ rest)
no-group [] rest left absent is = (refl, is)
no-group ((m, g) ∷ gs) rest left absent is = absurd (absent _ (m, is))

pub group-shorter : (old mid new rest : List Terminal) (g : Group) (t : Token) → old ≡ t_mark Comma t ∷ mid → mid ≡ words_of_group g ++ rest → new ≡ rest → length new < length old
group-shorter old mid new rest g t comma words is = omega (arith, ap length comma, ap length words, ap length is, length-append (words_of_group g) rest)

-- conjuncts that are appended
pub grown : (j : Joined) (c : Contents) (range : Range) (old new more : List ExprRead) → record { contents = c; range = range; conjuncts = map cond old } ≡ j → new ≡ old ++ more →
    ◌≡◌ {A = Joined} (record j { conjuncts = j.conjuncts ++ map cond more }) (record { contents = c; range = range; conjuncts = map cond new })
grown j c range old new more is so = subst (λ (i : Joined). ◌≡◌ {A = Joined} (record i { conjuncts = i.conjuncts ++ map cond more }) (record { contents = c; range = range; conjuncts = map cond new })) is
    (ap (λ l. record { contents = c; range = range; conjuncts = l }) (sym (ap (map cond) so ∙ map-append cond old more)))
