-- A list of words is spelled by one part of a statement.
use Rattle.std.proofs.Common.{◌≡◌, Bool, true, false, List, [], ◌∷◌, ◌++◌, drop, refl, sym, ap, subst}
use Rattle.std.proofs.lemmas.List.{append_assoc}
use Rattle.sql_grammar.specs.declared.class.Word.TheVariants.{As, Cross, From, Inner, Join, Where as WhereKey}
use Rattle.sql_grammar.specs.declared.class.Symbol.TheVariants.{Comma, Dot, Star}
use Rattle.sql_grammar.specs.Terminals.{Terminal, Ident, free, t_key, t_mark, t_name}
use Rattle.sql_grammar.specs.declared.class.Free.TheVariants.{Full, Left, Natural, Outer, Right}
use Rattle.sql_grammar.specs.Syntax.{Key, Mark, IsBareAlias, bare, qualified, Output, every, every_of, one, Alias, no_alias, bare_alias, as_alias, Where, no_where, where_expr, Ending, semicolon, text_end}
use Rattle.sql_grammar.specs.work.Unique.{ends_col, ends_expr}
use Rattle.sql_grammar.specs.Words.{words_of_output, words_of_outputs, words_of_alias, words_of_where, words_of_ending}
use Rattle.sql_grammar.proofs.ExprTrees.{one_expr, tested}
use Rattle.sql_grammar.proofs.ListLemmas.{one_list}

pub one_output : (a b : Output) (x y : List Terminal) → ends_col x ≡ true → ends_col y ≡ true → words_of_output a ++ x ≡ words_of_output b ++ y → (a ≡ b) × (x ≡ y)
one_output (every s) (every t) x y h k e = let star : s ≡ t = cc in (ap every star, ap (drop 1) e)
one_output (every s) (every_of m f t) x y h k e = absurd (cc)
one_output (every s) (one (bare m)) x y h k e = absurd (cc)
one_output (every s) (one (qualified r f m)) x y h k e = absurd (cc)
one_output (every_of n d s) (every t) x y h k e = absurd (cc)
one_output (every_of n d s) (every_of m f t) x y h k e = let name : n ≡ m = cc in let dot : d ≡ f = cc in let star : s ≡ t = cc in (cc (name, dot, star), ap (drop 3) e)
one_output (every_of n d s) (one (bare m)) x y h k e = absurd (tested ends_col y (t_mark Dot d ∷ t_mark Star s ∷ x) k refl (sym (ap (drop 1) e)))
one_output (every_of n d s) (one (qualified r f m)) x y h k e = absurd (cc)
one_output (one (bare n)) (every t) x y h k e = absurd (cc)
one_output (one (bare n)) (every_of m f t) x y h k e = absurd (tested ends_col x (t_mark Dot f ∷ t_mark Star t ∷ y) h refl (ap (drop 1) e))
one_output (one (bare n)) (one (bare m)) x y h k e = let name : n ≡ m = cc in (ap (λ i. one (bare i)) name, ap (drop 1) e)
one_output (one (bare n)) (one (qualified r f m)) x y h k e = absurd (tested ends_col x (t_mark Dot f ∷ t_name m ∷ y) h refl (ap (drop 1) e))
one_output (one (qualified q d n)) (every t) x y h k e = absurd (cc)
one_output (one (qualified q d n)) (every_of m f t) x y h k e = absurd (cc)
one_output (one (qualified q d n)) (one (bare m)) x y h k e = absurd (tested ends_col y (t_mark Dot d ∷ t_name n ∷ x) k refl (sym (ap (drop 1) e)))
one_output (one (qualified q d n)) (one (qualified r f m)) x y h k e =
    let table : q ≡ r = cc in
    let dot : d ≡ f = cc in
    let name : n ≡ m = cc in
    (cc (table, dot, name), ap (drop 3) e)

-- further outputs and the FROM after them
abbrev pub fronted : List (Mark × Output) → Key → List Terminal → List Terminal
fronted os f x = words_of_outputs os ++ t_key From f ∷ x

pub fronted-ends : (os : List (Mark × Output)) (f : Key) (x : List Terminal) → ends_col (fronted os f x) ≡ true
fronted-ends [] f x = refl
fronted-ends ((m, o) ∷ os) f x = refl

pub one_outputs : (os us : List (Mark × Output)) (f g : Key) (x y : List Terminal) → fronted os f x ≡ fronted us g y → (os ≡ us) × (f ≡ g) × (x ≡ y)
one_outputs = one_list Output words_of_output words_of_outputs (t_key From) ends_col (λ f x. refl)
    (λ m o os f x. ap (λ l. t_mark Comma m ∷ l) (append_assoc (words_of_output o) (words_of_outputs os) (t_key From f ∷ x)))
    (λ f g x y e. cc (e)) (λ f m x y e. absurd (cc (e))) fronted-ends one_output

pub one_ending : (e f : Ending) → words_of_ending e ≡ words_of_ending f → e ≡ f
one_ending (semicolon s) (semicolon t) h = let at : s ≡ t = cc in ap semicolon at
one_ending (semicolon s) (text_end t) h = absurd (cc)
one_ending (text_end s) (semicolon t) h = absurd (cc)
one_ending (text_end s) (text_end t) h = let at : s ≡ t = cc in ap text_end at

-- no name and no AS is next
abbrev pub aliasless : List Terminal → Bool
aliasless (t_name n ∷ x) = false
aliasless (t_key As _ ∷ x) = false
aliasless _ = true

-- no WHERE is next
abbrev pub whereless : List Terminal → Bool
whereless (t_key WhereKey _ ∷ x) = false
whereless _ = true

-- nothing that goes on a join is next: no name or AS, and nothing that goes on an expression
abbrev pub ends_join : List Terminal → Bool
ends_join (t_name _ ∷ _) = false
ends_join (t_key As _ ∷ _) = false
ends_join x = ends_expr x

-- nor a further join
abbrev pub ends_group : List Terminal → Bool
ends_group (t_key Join _ ∷ _) = false
ends_group (t_key Inner _ ∷ _) = false
ends_group (t_key Cross _ ∷ _) = false
ends_group x = ends_join x

-- nor a further group
abbrev pub ends_from : List Terminal → Bool
ends_from (t_mark Comma _ ∷ _) = false
ends_from x = ends_group x

-- nothing that goes on a SELECT is next: none of these and no WHERE
abbrev pub ends_select : List Terminal → Bool
ends_select (t_key WhereKey _ ∷ _) = false
ends_select x = ends_from x

pub join-alias : (x : List Terminal) → ends_join x ≡ true → aliasless x ≡ true
join-alias (t_name _ ∷ _) h = absurd (cc)
join-alias (t_key As _ ∷ _) h = absurd (cc)
join-alias _ h = refl

pub join-expr : (x : List Terminal) → ends_join x ≡ true → ends_expr x ≡ true
join-expr (t_name _ ∷ _) h = absurd (cc)
join-expr (t_key As _ ∷ _) h = absurd (cc)
join-expr _ h = h

pub group-join : (x : List Terminal) → ends_group x ≡ true → ends_join x ≡ true
group-join (t_key Join _ ∷ _) h = absurd (cc)
group-join (t_key Inner _ ∷ _) h = absurd (cc)
group-join (t_key Cross _ ∷ _) h = absurd (cc)
group-join _ h = h

pub from-group : (x : List Terminal) → ends_from x ≡ true → ends_group x ≡ true
from-group (t_mark Comma _ ∷ _) h = absurd (cc)
from-group _ h = h

pub select-from : (x : List Terminal) → ends_select x ≡ true → ends_from x ≡ true
select-from (t_key WhereKey _ ∷ _) h = absurd (cc)
select-from _ h = h

select-where : (x : List Terminal) → ends_select x ≡ true → whereless x ≡ true
select-where (t_key WhereKey _ ∷ _) h = absurd (cc)
select-where _ h = refl

select-expr : (x : List Terminal) → ends_select x ≡ true → ends_expr x ≡ true
select-expr x h = join-expr x (group-join x (from-group x (select-from x h)))

pub ending-select : (e : Ending) → ends_select (words_of_ending e) ≡ true
ending-select (semicolon t) = refl
ending-select (text_end t) = refl

-- a condition before words that neither begin nor go on one
pub one_condition : (a b : Where) (x y : List Terminal) → whereless x ≡ true → whereless y ≡ true → ends_expr x ≡ true → ends_expr y ≡ true →
    words_of_where a ++ x ≡ words_of_where b ++ y → (a ≡ b) × (x ≡ y)
one_condition no_where no_where x y h k g f e = (refl, e)
one_condition no_where (where_expr j d) x y h k g f e = absurd (tested whereless x (words_of_where (where_expr j d) ++ y) h refl e)
one_condition (where_expr i c) no_where x y h k g f e = absurd (tested whereless y (words_of_where (where_expr i c) ++ x) k refl (sym e))
one_condition (where_expr i c) (where_expr j d) x y h k g f e =
    let key : i ≡ j = cc in
    let (condition, rest) = one_expr c d x y g f (ap (drop 1) e) in
    (cc (key, condition), rest)

pub one_where : (a b : Where) (x y : List Terminal) → ends_select x ≡ true → ends_select y ≡ true → words_of_where a ++ x ≡ words_of_where b ++ y → (a ≡ b) × (x ≡ y)
one_where a b x y h k e = one_condition a b x y (select-where x h) (select-where y k) (select-expr x h) (select-expr y k) e

one_bare : (n : Ident) (p q : IsBareAlias n) → p ≡ q
one_bare (free Full t) p q = absurd p
one_bare (free Left t) p q = absurd p
one_bare (free Natural t) p q = absurd p
one_bare (free Outer t) p q = absurd p
one_bare (free Right t) p q = absurd p
one_bare n p q = refl

same_bare : (n m : Ident) → n ≡ m → (p : IsBareAlias n) (q : IsBareAlias m) → bare_alias n p ≡ bare_alias m q
same_bare n m e p = subst (λ k. (q : IsBareAlias k) → bare_alias n p ≡ bare_alias k q) e (λ q. ap (bare_alias n) (one_bare n p q))

pub one_alias : (a b : Alias) (x y : List Terminal) → aliasless x ≡ true → aliasless y ≡ true → words_of_alias a ++ x ≡ words_of_alias b ++ y → (a ≡ b) × (x ≡ y)
one_alias no_alias no_alias x y h k e = (refl, e)
one_alias no_alias (bare_alias m q) x y h k e = absurd (tested aliasless x (t_name m ∷ y) h refl e)
one_alias no_alias (as_alias j m) x y h k e = absurd (tested aliasless x (t_key As j ∷ t_name m ∷ y) h refl e)
one_alias (bare_alias n p) no_alias x y h k e = absurd (tested aliasless y (t_name n ∷ x) k refl (sym e))
one_alias (bare_alias n p) (bare_alias m q) x y h k e = let name : n ≡ m = cc in (same_bare n m name p q, ap (drop 1) e)
one_alias (bare_alias n p) (as_alias j m) x y h k e = absurd (cc)
one_alias (as_alias i n) no_alias x y h k e = absurd (tested aliasless y (t_key As i ∷ t_name n ∷ x) k refl (sym e))
one_alias (as_alias i n) (bare_alias m q) x y h k e = absurd (cc)
one_alias (as_alias i n) (as_alias j m) x y h k e = let key : i ≡ j = cc in let name : n ≡ m = cc in (cc (key, name), ap (drop 2) e)
