-- A list of words is spelled by one CREATE INDEX.
use Rattle.std.proofs.Common.{◌≡◌, Bool, true, false, List, [], ◌∷◌, ◌++◌, drop, refl, sym, ap, ◌∙◌, subst}
use Rattle.std.proofs.lemmas.List.{append_assoc}
use Rattle.sql_grammar.specs.declared.class.Free.TheVariants.{Include as IncludeWord, Nulls}
use Rattle.sql_grammar.specs.declared.class.Word.TheVariants.{Where as WhereKey}
use Rattle.sql_grammar.specs.declared.class.Symbol.TheVariants.{Open, Close, Comma, Dot}
use Rattle.sql_grammar.specs.Terminals.{Terminal, Ident, free, t_key, t_mark, t_name, t_quoted, t_operator}
use Rattle.sql_grammar.specs.Syntax.{Mark, Where, no_where, where_expr, Ending, semicolon, text_end}
use Rattle.sql_grammar.specs.Syntax.{Direction, no_direction, ascending, descending, NullsEnd, no_nulls_end, nulls_first, nulls_last}
use Rattle.sql_grammar.specs.Syntax.{IsClassName, ClassTree, no_class, op_class, KeyTree, index_key, Using, no_using, using_method, Include, no_include, include_columns, CreateIndex, index_on, Cand, cand_on}
use Rattle.sql_grammar.specs.Words.{words_of_where, words_of_ending}
use Rattle.sql_grammar.specs.Words.{words_of_direction, words_of_nulls_end}
use Rattle.sql_grammar.specs.Words.{words_of_class, words_of_key, words_of_keys, words_of_using, words_of_names, words_of_include, words_of_index, words_of_cand}
use Rattle.sql_grammar.specs.work.Unique.{ends_expr, ends_cand}
use Rattle.sql_grammar.proofs.ExprTrees.{tested}
use Rattle.sql_grammar.proofs.ListLemmas.{one_list}
use Rattle.sql_grammar.proofs.Trees.{whereless, one_condition, one_ending}
use Rattle.sql_grammar.proofs.OrderTrees.{ends_sort, one_sort}
use Rattle.sql_grammar.proofs.IndexComplete.{cand-words}

-- no operator class is next: no other name than `nulls`
abbrev ends_class : List Terminal → Bool
ends_class (t_name (free Nulls _) ∷ _) = true
ends_class (t_name _ ∷ _) = false
ends_class _ = true

class-first : (n : Ident) → IsClassName n → (x : List Terminal) → ends_class (t_name n ∷ x) ≡ false
class-first (free Nulls k) p x = absurd p
class-first _ p x = refl

one_class_name : (n : Ident) (p q : IsClassName n) → p ≡ q
one_class_name (free Nulls k) p q = absurd p
one_class_name _ p q = refl

same_class : (n m : Ident) → n ≡ m → (p : IsClassName n) (q : IsClassName m) → op_class n p ≡ op_class m q
same_class n m e p = subst (λ k. (q : IsClassName k) → op_class n p ≡ op_class k q) e (λ q. ap (op_class n) (one_class_name n p q))

one_class : (a b : ClassTree) (x y : List Terminal) → ends_class x ≡ true → ends_class y ≡ true → words_of_class a ++ x ≡ words_of_class b ++ y → (a ≡ b) × (x ≡ y)
one_class no_class no_class x y h k e = (refl, e)
one_class no_class (op_class m q) x y h k e = absurd (tested ends_class x (t_name m ∷ y) h (class-first m q y) e)
one_class (op_class n p) no_class x y h k e = absurd (tested ends_class y (t_name n ∷ x) k (class-first n p x) (sym e))
one_class (op_class n p) (op_class m q) x y h k e = let name : n ≡ m = cc (e) in (same_class n m name p q, ap (drop 1) e)

-- nothing that goes on a key is next
abbrev ends_key : List Terminal → Bool
ends_key (t_mark _ _ ∷ _) = true
ends_key _ = false

key-sort : (x : List Terminal) → ends_key x ≡ true → ends_sort x ≡ true
key-sort (t_mark _ _ ∷ x) h = refl
key-sort [] h = absurd (cc)
key-sort _ h = absurd (cc)

key-class : (d : Direction) (z : NullsEnd) (x : List Terminal) → ends_key x ≡ true → ends_class ((words_of_direction d ++ words_of_nulls_end z) ++ x) ≡ true
key-class no_direction no_nulls_end (t_mark _ _ ∷ x) h = refl
key-class no_direction no_nulls_end _ h = absurd (cc)
key-class no_direction (nulls_first n f) x h = refl
key-class no_direction (nulls_last n l) x h = refl
key-class (ascending k) z x h = refl
key-class (descending k) z x h = refl

one_key : (a b : KeyTree) (x y : List Terminal) → ends_key x ≡ true → ends_key y ≡ true → words_of_key a ++ x ≡ words_of_key b ++ y → (a ≡ b) × (x ≡ y)
one_key (index_key n c d z) (index_key m b f v) x y h k e =
    let name : n ≡ m = cc (e) in
    let (class', more) = one_class c b ((words_of_direction d ++ words_of_nulls_end z) ++ x) ((words_of_direction f ++ words_of_nulls_end v) ++ y) (key-class d z x h) (key-class f v y k)
    (sym (append_assoc (words_of_class c) (words_of_direction d ++ words_of_nulls_end z) x) ∙ (ap (drop 1) e ∙ append_assoc (words_of_class b) (words_of_direction f ++ words_of_nulls_end v) y)) in
    let (direction, end, rest) = one_sort d f z v x y (key-sort x h) (key-sort y k) more in
    (cc (name, class', direction, end), rest)

-- further keys and what closes them
abbrev closed : List (Mark × KeyTree) → Mark → List Terminal → List Terminal
closed ks m x = words_of_keys ks ++ t_mark Close m ∷ x

closed-ends : (ks : List (Mark × KeyTree)) (m : Mark) (x : List Terminal) → ends_key (closed ks m x) ≡ true
closed-ends [] m x = refl
closed-ends ((t, k) ∷ ks) m x = refl

one_keys : (ks us : List (Mark × KeyTree)) (m n : Mark) (x y : List Terminal) → closed ks m x ≡ closed us n y → (ks ≡ us) × (m ≡ n) × (x ≡ y)
one_keys = one_list KeyTree words_of_key words_of_keys (t_mark Close) ends_key (λ m x. refl)
    (λ t k ks m x. ap (λ l. t_mark Comma t ∷ l) (append_assoc (words_of_key k) (words_of_keys ks) (t_mark Close m ∷ x)))
    (λ m n x y e. cc (e)) (λ m t x y e. absurd (cc (e))) closed-ends one_key

one_names : (ns us : List (Mark × Ident)) (m n : Mark) (x y : List Terminal) → words_of_names ns ++ t_mark Close m ∷ x ≡ words_of_names us ++ t_mark Close n ∷ y → (ns ≡ us) × (m ≡ n) × (x ≡ y)
one_names = one_list Ident (λ n. t_name n ∷ []) words_of_names (t_mark Close) (λ x. true) (λ m x. refl) (λ t n ns m x. refl)
    (λ m n x y e. cc (e)) (λ m t x y e. absurd (cc (e))) (λ ns m x. refl) (λ a b x y h k e. (cc (e), ap (drop 1) e))

-- no INCLUDE is next
abbrev ends_include : List Terminal → Bool
ends_include (t_name (free IncludeWord _) ∷ _) = false
ends_include _ = true

include-words : (k o : Mark) (n : Ident) (ns : List (Mark × Ident)) (m : Mark) (x : List Terminal) →
    words_of_include (include_columns k o n ns m) ++ x ≡ t_name (free IncludeWord k) ∷ t_mark Open o ∷ t_name n ∷ (words_of_names ns ++ t_mark Close m ∷ x)
include-words k o n ns m x = ap (λ l. t_name (free IncludeWord k) ∷ t_mark Open o ∷ t_name n ∷ l) (append_assoc (words_of_names ns) (t_mark Close m ∷ []) x)

one_include : (a b : Include) (x y : List Terminal) → ends_include x ≡ true → ends_include y ≡ true → words_of_include a ++ x ≡ words_of_include b ++ y → (a ≡ b) × (x ≡ y)
one_include no_include no_include x y h k e = (refl, e)
one_include no_include (include_columns j p i us n) x y h k e = absurd (tested ends_include x (words_of_include (include_columns j p i us n) ++ y) h refl e)
one_include (include_columns j o i ns m) no_include x y h k e = absurd (tested ends_include y (words_of_include (include_columns j o i ns m) ++ x) k refl (sym e))
one_include (include_columns i o a ns m) (include_columns j p b us n) x y h k e =
    let whole = sym (include-words i o a ns m x) ∙ (e ∙ include-words j p b us n y) in
    let word : i ≡ j = cc (whole) in
    let mark : o ≡ p = cc (whole) in
    let name : a ≡ b = cc (whole) in
    let (others, close, rest) = one_names ns us m n x y (ap (drop 3) whole) in
    (cc (word, mark, name, others, close), rest)

cand-include : (w : Where) (x : List Terminal) → ends_cand x ≡ true → ends_include (words_of_where w ++ x) ≡ true
cand-include no_where (t_name (free IncludeWord _) ∷ _) h = absurd (cc)
cand-include no_where _ h = refl
cand-include (where_expr k c) x h = refl

cand-where : (x : List Terminal) → ends_cand x ≡ true → whereless x ≡ true
cand-where (t_key WhereKey _ ∷ _) h = absurd (cc)
cand-where _ h = refl

cand-expr : (x : List Terminal) → ends_cand x ≡ true → ends_expr x ≡ true
cand-expr (t_mark Dot _ ∷ _) h = absurd (cc)
cand-expr (t_quoted _ ∷ _) h = absurd (cc)
cand-expr (t_operator _ ∷ _) h = absurd (cc)
cand-expr (t_key _ _ ∷ _) h = absurd (cc)
cand-expr (t_name _ ∷ _) h = absurd (cc)
cand-expr _ h = refl

ending-cand : (e : Ending) → ends_cand (words_of_ending e) ≡ true
ending-cand (semicolon t) = refl
ending-cand (text_end t) = refl

one_using : (a b : Using) (o p : Mark) (x y : List Terminal) → words_of_using a ++ t_mark Open o ∷ x ≡ words_of_using b ++ t_mark Open p ∷ y → (a ≡ b) × (o ≡ p) × (x ≡ y)
one_using no_using no_using o p x y e = (refl, cc (e), ap (drop 1) e)
one_using no_using (using_method j m) o p x y e = absurd (cc)
one_using (using_method i n) no_using o p x y e = absurd (cc)
one_using (using_method i n) (using_method j m) o p x y e =
    let key : i ≡ j = cc (e) in
    let name : n ≡ m = cc (e) in
    (cc (key, name), cc (e), ap (drop 3) e)

-- what follows the keys
abbrev behind : Include → Where → List Terminal → List Terminal
behind c w x = words_of_include c ++ (words_of_where w ++ x)

one_behind : (a b : Include) (v w : Where) (x y : List Terminal) → ends_cand x ≡ true → ends_cand y ≡ true → behind a v x ≡ behind b w y → (a ≡ b) × (v ≡ w) × (x ≡ y)
one_behind a b v w x y h k e =
    let (include, more) = one_include a b (words_of_where v ++ x) (words_of_where w ++ y) (cand-include v x h) (cand-include w y k) e in
    let (condition, rest) = one_condition v w x y (cand-where x h) (cand-where y k) (cand-expr x h) (cand-expr y k) more in
    (include, condition, rest)

-- what follows a table's name, before other words
abbrev listed : Using → Mark → KeyTree → List (Mark × KeyTree) → Mark → Include → Where → List Terminal → List Terminal
listed u p a ks m c w x = words_of_using u ++ t_mark Open p ∷ (words_of_key a ++ closed ks m (behind c w x))

-- two of these lists have the same parts
record Alike (u z : Using) (p d : Mark) (a b : KeyTree) (ks bs : List (Mark × KeyTree)) (m n : Mark) (c g : Include) (v w : Where) (x y : List Terminal) : Type 0 where
  using : u ≡ z
  opens : p ≡ d
  key : a ≡ b
  keys : ks ≡ bs
  closes : m ≡ n
  include : c ≡ g
  condition : v ≡ w
  rest : x ≡ y

one_listed : (u z : Using) (p d : Mark) (a b : KeyTree) (ks bs : List (Mark × KeyTree)) (m n : Mark) (c g : Include) (v w : Where) (x y : List Terminal) → ends_cand x ≡ true → ends_cand y ≡ true →
    listed u p a ks m c v x ≡ listed z d b bs n g w y → Alike u z p d a b ks bs m n c g v w x y
one_listed u z p d a b ks bs m n c g v w x y h k e =
    let (using, opens, keys) = one_using u z p d (words_of_key a ++ closed ks m (behind c v x)) (words_of_key b ++ closed bs n (behind g w y)) e in
    let (key, more) = one_key a b (closed ks m (behind c v x)) (closed bs n (behind g w y)) (closed-ends ks m (behind c v x)) (closed-ends bs n (behind g w y)) keys in
    let (others, closes, last) = one_keys ks bs m n (behind c v x) (behind g w y) more in
    let (include, condition, rest) = one_behind c g v w x y h k last in
    record { using = using; opens = opens; key = key; keys = others; closes = closes; include = include; condition = condition; rest = rest }

pub one_index : (x y : CreateIndex) → words_of_index x ≡ words_of_index y → x ≡ y
one_index (index_on k i n o t u p a as' m c v e) (index_on l j r q s z d b bs w g x f) h =
    let first : k ≡ l = cc (h) in
    let word : i ≡ j = cc (h) in
    let name : n ≡ r = cc (h) in
    let on : o ≡ q = cc (h) in
    let table : t ≡ s = cc (h) in
    let same = one_listed u z p d a b as' bs m w c g v x (words_of_ending e) (words_of_ending f) (ending-cand e) (ending-cand f) (ap (drop 5) h) in
    cc (first, word, name, on, table, same.using, same.opens, same.key, same.keys, same.closes, same.include, same.condition, one_ending e f same.rest)

pub one_cand : (a b : Cand) (x y : List Terminal) → ends_cand x ≡ true → ends_cand y ≡ true → words_of_cand a ++ x ≡ words_of_cand b ++ y → (a ≡ b) × (x ≡ y)
one_cand (cand_on n o t u p a as' m c v) (cand_on r q s z d b bs w g f) x y h k e =
    let name : n ≡ r = cc (e) in
    let on : o ≡ q = cc (e) in
    let table : t ≡ s = cc (e) in
    let same = one_listed u z p d a b as' bs m w c g v f x y h k
    (sym (cand-words (words_of_using u) (words_of_key a) (words_of_keys as') (words_of_include c) (words_of_where v) x (t_mark Open p) (t_mark Close m)) ∙
    (ap (drop 3) e ∙ cand-words (words_of_using z) (words_of_key b) (words_of_keys bs) (words_of_include g) (words_of_where f) y (t_mark Open d) (t_mark Close w))) in
    (cc (name, on, table, same.using, same.opens, same.key, same.keys, same.closes, same.include, same.condition), same.rest)
