-- A list of words is spelled by one FROM list, and by one SELECT.
use Rattle.std.proofs.Common.{◌≡◌, true, false, List, [], ◌∷◌, ◌++◌, drop, refl, sym, ap, ◌∙◌}
use Rattle.std.proofs.lemmas.List.{append_assoc}
use Rattle.sql_grammar.specs.declared.class.Word.TheVariants.{From, On, Select}
use Rattle.sql_grammar.specs.Terminals.{Terminal, t_key}
use Rattle.sql_grammar.specs.Syntax.{Key, Mark, Expr, Output, Relation, relation, no_inner, inner, Join, join_on, cross_join, Group, group_of, Where, no_where, where_expr, Select as SelectTree, select_from}
use Rattle.sql_grammar.specs.Words.{words_of_expr, words_of_output, words_of_outputs, words_of_relation, words_of_join, words_of_joins, words_of_group, words_of_groups, words_of_where, words_of_select}
use Rattle.sql_grammar.proofs.ExprTrees.{one_expr, tested}
use Rattle.sql_grammar.proofs.Trees.{aliasless, ends_join, ends_group, ends_from, ends_select, join-alias, join-expr, group-join, from-group, select-from, fronted, fronted-ends, one_output, one_outputs, one_alias, one_where}

one_relation : (p q : Relation) (x y : List Terminal) → aliasless x ≡ true → aliasless y ≡ true → words_of_relation p ++ x ≡ words_of_relation q ++ y → (p ≡ q) × (x ≡ y)
one_relation (relation n a) (relation m b) x y h k e =
    let name : n ≡ m = cc (e) in
    let (alias, rest) = one_alias a b x y h k (ap (drop 1) e) in
    (cc (name, alias), rest)

-- a relation with its condition
one_on : (p q : Relation) (o u : Key) (c d : Expr) (x y : List Terminal) → ends_join x ≡ true → ends_join y ≡ true →
    (words_of_relation p ++ t_key On o ∷ words_of_expr c) ++ x ≡ (words_of_relation q ++ t_key On u ∷ words_of_expr d) ++ y → (p ≡ q) × (o ≡ u) × (c ≡ d) × (x ≡ y)
one_on p q o u c d x y h k e =
    let (first, more) = one_relation p q (t_key On o ∷ (words_of_expr c ++ x)) (t_key On u ∷ (words_of_expr d ++ y)) refl refl
    (sym (append_assoc (words_of_relation p) (t_key On o ∷ words_of_expr c) x) ∙ (e ∙ append_assoc (words_of_relation q) (t_key On u ∷ words_of_expr d) y)) in
    let key : o ≡ u = cc (more) in
    let (condition, rest) = one_expr c d x y (join-expr x h) (join-expr y k) (ap (drop 1) more) in
    (first, key, condition, rest)

one_join : (a b : Join) (x y : List Terminal) → ends_join x ≡ true → ends_join y ≡ true → words_of_join a ++ x ≡ words_of_join b ++ y → (a ≡ b) × (x ≡ y)
one_join (join_on no_inner i p o c) (join_on no_inner j q u d) x y h k e =
    let key : i ≡ j = cc (e) in
    let (table, on, condition, rest) = one_on p q o u c d x y h k (ap (drop 1) e) in
    (cc (key, table, on, condition), rest)
one_join (join_on no_inner i p o c) (join_on (inner w) j q u d) x y h k e = absurd (cc (e))
one_join (join_on no_inner i p o c) (cross_join w j q) x y h k e = absurd (cc (e))
one_join (join_on (inner v) i p o c) (join_on no_inner j q u d) x y h k e = absurd (cc (e))
one_join (join_on (inner v) i p o c) (join_on (inner w) j q u d) x y h k e =
    let word : v ≡ w = cc (e) in
    let key : i ≡ j = cc (e) in
    let (table, on, condition, rest) = one_on p q o u c d x y h k (ap (drop 2) e) in
    (cc (word, key, table, on, condition), rest)
one_join (join_on (inner v) i p o c) (cross_join w j q) x y h k e = absurd (cc (e))
one_join (cross_join v i p) (join_on no_inner j q u d) x y h k e = absurd (cc (e))
one_join (cross_join v i p) (join_on (inner w) j q u d) x y h k e = absurd (cc (e))
one_join (cross_join v i p) (cross_join w j q) x y h k e =
    let word : v ≡ w = cc (e) in
    let key : i ≡ j = cc (e) in
    let (table, rest) = one_relation p q x y (join-alias x h) (join-alias y k) (ap (drop 2) e) in
    (cc (word, key, table), rest)

joins-begin : (j : Join) (js : List Join) (x : List Terminal) → ends_group (words_of_joins (j ∷ js) ++ x) ≡ false
joins-begin (join_on no_inner i p o c) js x = refl
joins-begin (join_on (inner v) i p o c) js x = refl
joins-begin (cross_join v i p) js x = refl

joins-end : (js : List Join) (x : List Terminal) → ends_group x ≡ true → ends_join (words_of_joins js ++ x) ≡ true
joins-end [] x h = group-join x h
joins-end (join_on no_inner i p o c ∷ js) x h = refl
joins-end (join_on (inner v) i p o c ∷ js) x h = refl
joins-end (cross_join v i p ∷ js) x h = refl

one_joins : (js us : List Join) (x y : List Terminal) → ends_group x ≡ true → ends_group y ≡ true → words_of_joins js ++ x ≡ words_of_joins us ++ y → (js ≡ us) × (x ≡ y)
one_joins [] [] x y h k e = (refl, e)
one_joins [] (u ∷ us) x y h k e = absurd (tested ends_group x (words_of_joins (u ∷ us) ++ y) h (joins-begin u us y) e)
one_joins (j ∷ js) [] x y h k e = absurd (tested ends_group y (words_of_joins (j ∷ js) ++ x) k (joins-begin j js x) (sym e))
one_joins (j ∷ js) (u ∷ us) x y h k e =
    let (first, more) = one_join j u (words_of_joins js ++ x) (words_of_joins us ++ y) (joins-end js x h) (joins-end us y k)
    (sym (append_assoc (words_of_join j) (words_of_joins js) x) ∙ (e ∙ append_assoc (words_of_join u) (words_of_joins us) y)) in
    let (others, rest) = one_joins js us x y h k more in
    (cc (first, others), rest)

one_group : (g d : Group) (x y : List Terminal) → ends_group x ≡ true → ends_group y ≡ true → words_of_group g ++ x ≡ words_of_group d ++ y → (g ≡ d) × (x ≡ y)
one_group (group_of p js) (group_of q us) x y h k e =
    let (first, more) = one_relation p q (words_of_joins js ++ x) (words_of_joins us ++ y) (join-alias (words_of_joins js ++ x) (joins-end js x h)) (join-alias (words_of_joins us ++ y) (joins-end us y k))
    (sym (append_assoc (words_of_relation p) (words_of_joins js) x) ∙ (e ∙ append_assoc (words_of_relation q) (words_of_joins us) y)) in
    let (others, rest) = one_joins js us x y h k more in
    (cc (first, others), rest)

pub groups-end : (gs : List (Mark × Group)) (x : List Terminal) → ends_from x ≡ true → ends_group (words_of_groups gs ++ x) ≡ true
groups-end [] x h = from-group x h
groups-end ((m, g) ∷ gs) x h = refl

one_groups : (gs us : List (Mark × Group)) (x y : List Terminal) → ends_from x ≡ true → ends_from y ≡ true → words_of_groups gs ++ x ≡ words_of_groups us ++ y → (gs ≡ us) × (x ≡ y)
one_groups [] [] x y h k e = (refl, e)
one_groups [] ((n, u) ∷ us) x y h k e = absurd (tested ends_from x (words_of_groups ((n, u) ∷ us) ++ y) h refl e)
one_groups ((m, g) ∷ gs) [] x y h k e = absurd (tested ends_from y (words_of_groups ((m, g) ∷ gs) ++ x) k refl (sym e))
one_groups ((m, g) ∷ gs) ((n, u) ∷ us) x y h k e =
    let comma : m ≡ n = cc (e) in
    let (first, more) = one_group g u (words_of_groups gs ++ x) (words_of_groups us ++ y) (groups-end gs x h) (groups-end us y k)
    (sym (append_assoc (words_of_group g) (words_of_groups gs) x) ∙ (ap (drop 1) e ∙ append_assoc (words_of_group u) (words_of_groups us) y)) in
    let (others, rest) = one_groups gs us x y h k more in
    (cc (comma, first, others), rest)

where-from : (w : Where) (x : List Terminal) → ends_select x ≡ true → ends_from (words_of_where w ++ x) ≡ true
where-from no_where x h = select-from x h
where-from (where_expr k c) x h = refl

-- what stands behind FROM, before other words
abbrev pub behind : Group → List (Mark × Group) → Where → List Terminal → List Terminal
behind g gs w x = words_of_group g ++ (words_of_groups gs ++ (words_of_where w ++ x))

pub select_words : (k : Key) (o : Output) (os : List (Mark × Output)) (f : Key) (g : Group) (gs : List (Mark × Group)) (w : Where) (x : List Terminal) →
    words_of_select (select_from k o os f g gs w) ++ x ≡ t_key Select k ∷ (words_of_output o ++ fronted os f (behind g gs w x))
select_words k o os f g gs w x =
    ap (λ l. t_key Select k ∷ l)
    (append_assoc (words_of_output o) (words_of_outputs os ++ t_key From f ∷ (words_of_group g ++ (words_of_groups gs ++ words_of_where w))) x
    ∙ ap (λ l. words_of_output o ++ l)
    (append_assoc (words_of_outputs os) (t_key From f ∷ (words_of_group g ++ (words_of_groups gs ++ words_of_where w))) x
    ∙ ap (λ l. fronted os f l)
    (append_assoc (words_of_group g) (words_of_groups gs ++ words_of_where w) x ∙ ap (λ l. words_of_group g ++ l) (append_assoc (words_of_groups gs) (words_of_where w) x))))

pub one_behind : (g d : Group) (gs us : List (Mark × Group)) (v w : Where) (x y : List Terminal) → ends_select x ≡ true → ends_select y ≡ true → behind g gs v x ≡ behind d us w y →
    (g ≡ d) × (gs ≡ us) × (v ≡ w) × (x ≡ y)
one_behind g d gs us v w x y h k e =
    let (first, more) = one_group g d (words_of_groups gs ++ (words_of_where v ++ x)) (words_of_groups us ++ (words_of_where w ++ y))
    (groups-end gs (words_of_where v ++ x) (where-from v x h)) (groups-end us (words_of_where w ++ y) (where-from w y k)) e in
    let (others, after') = one_groups gs us (words_of_where v ++ x) (words_of_where w ++ y) (where-from v x h) (where-from w y k) more in
    let (condition, rest) = one_where v w x y h k after' in
    (first, others, condition, rest)

pub one_select : (p q : SelectTree) (x y : List Terminal) → ends_select x ≡ true → ends_select y ≡ true → words_of_select p ++ x ≡ words_of_select q ++ y → (p ≡ q) × (x ≡ y)
one_select (select_from k o os i g gs v) (select_from l u us j d ds w) x y s t h =
    let whole = sym (select_words k o os i g gs v x) ∙ (h ∙ select_words l u us j d ds w y) in
    let key : k ≡ l = cc (whole) in
    let (first, more) = one_output o u (fronted os i (behind g gs v x)) (fronted us j (behind d ds w y)) (fronted-ends os i (behind g gs v x)) (fronted-ends us j (behind d ds w y)) (ap (drop 1) whole) in
    let (others, from, tables) = one_outputs os us i j (behind g gs v x) (behind d ds w y) more in
    let (group, groups, condition, rest) = one_behind g d gs ds v w x y s t tables in
    (cc (key, first, others, from, group, groups, condition), rest)
