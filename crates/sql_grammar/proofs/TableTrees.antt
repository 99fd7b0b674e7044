-- A list of words is spelled by one table's columns.
use Rattle.std.proofs.Common.{◌≡◌, Bool, true, false, List, [], ◌∷◌, ◌++◌, drop, refl, sym, ap, ◌∙◌}
use Rattle.std.proofs.lemmas.List.{append_assoc}
use Rattle.sql_lex.specs.declared.tokens.Token.{Token}
use Rattle.sql_grammar.specs.declared.class.Free.TheVariants.{Time, Varying, Without, Zone}
use Rattle.sql_grammar.specs.declared.class.Word.TheVariants.{Not, Null, With}
use Rattle.sql_grammar.specs.declared.class.Symbol.TheVariants.{Open, Close, Comma}
use Rattle.sql_grammar.specs.Terminals.{Terminal, Said, free, t_key, t_mark, t_name, t_number}
use Rattle.sql_grammar.specs.Syntax.{Key, Mark, Nulls, unwritten, not_null, nullable, Modifiers, no_modifiers, modifiers, TypeTree, named_type, character_varying, timestamp_with_zone, timestamp_without_zone, ColDef, coldef, Ending}
use Rattle.sql_grammar.specs.Words.{words_of_nulls, words_of_numbers, words_of_modifiers, words_of_type, words_of_coldef, words_of_columns, words_of_ending}
use Rattle.sql_grammar.proofs.ExprTrees.{tested}
use Rattle.sql_grammar.proofs.ListLemmas.{one_list}
use Rattle.sql_grammar.proofs.Trees.{one_ending}

-- no NOT and no NULL is next
abbrev ends_nulls : List Terminal → Bool
ends_nulls (t_key Not _ ∷ _) = false
ends_nulls (t_key Null _ ∷ _) = false
ends_nulls _ = true

one_nulls : (a b : Nulls) (x y : List Terminal) → ends_nulls x ≡ true → ends_nulls y ≡ true → words_of_nulls a ++ x ≡ words_of_nulls b ++ y → (a ≡ b) × (x ≡ y)
one_nulls unwritten unwritten x y h k e = (refl, e)
one_nulls unwritten (not_null m n) x y h k e = absurd (tested ends_nulls x (t_key Not m ∷ t_key Null n ∷ y) h refl e)
one_nulls unwritten (nullable n) x y h k e = absurd (tested ends_nulls x (t_key Null n ∷ y) h refl e)
one_nulls (not_null m n) unwritten x y h k e = absurd (tested ends_nulls y (t_key Not m ∷ t_key Null n ∷ x) k refl (sym e))
one_nulls (not_null m n) (not_null p q) x y h k e = let a : m ≡ p = cc in let b : n ≡ q = cc in (cc (a, b), ap (drop 2) e)
one_nulls (not_null m n) (nullable q) x y h k e = absurd (cc)
one_nulls (nullable n) unwritten x y h k e = absurd (tested ends_nulls y (t_key Null n ∷ x) k refl (sym e))
one_nulls (nullable n) (not_null p q) x y h k e = absurd (cc)
one_nulls (nullable n) (nullable q) x y h k e = let b : n ≡ q = cc in (ap nullable b, ap (drop 1) e)

-- no `(` is next
abbrev ends_modifiers : List Terminal → Bool
ends_modifiers (t_mark Open _ ∷ _) = false
ends_modifiers _ = true

one_numbers : (ns us : List (Mark × Said)) (m n : Mark) (x y : List Terminal) → words_of_numbers ns ++ t_mark Close m ∷ x ≡ words_of_numbers us ++ t_mark Close n ∷ y → (ns ≡ us) × (m ≡ n) × (x ≡ y)
one_numbers = one_list Said (λ n. t_number n ∷ []) words_of_numbers (t_mark Close) (λ x. true) (λ m x. refl) (λ t n ns m x. refl)
    (λ m n x y e. cc (e)) (λ m t x y e. absurd (cc (e))) (λ ns m x. refl) (λ a b x y h k e. (cc (e), ap (drop 1) e))

modifiers-words : (o : Mark) (n : Said) (ns : List (Mark × Said)) (m : Mark) (x : List Terminal) →
    words_of_modifiers (modifiers o n ns m) ++ x ≡ t_mark Open o ∷ t_number n ∷ (words_of_numbers ns ++ t_mark Close m ∷ x)
modifiers-words o n ns m x = ap (λ l. t_mark Open o ∷ t_number n ∷ l) (append_assoc (words_of_numbers ns) (t_mark Close m ∷ []) x)

one_modifiers : (a b : Modifiers) (x y : List Terminal) → ends_modifiers x ≡ true → ends_modifiers y ≡ true → words_of_modifiers a ++ x ≡ words_of_modifiers b ++ y → (a ≡ b) × (x ≡ y)
one_modifiers no_modifiers no_modifiers x y h k e = (refl, e)
one_modifiers no_modifiers (modifiers p i us n) x y h k e = absurd (tested ends_modifiers x (words_of_modifiers (modifiers p i us n) ++ y) h refl e)
one_modifiers (modifiers o i ns m) no_modifiers x y h k e = absurd (tested ends_modifiers y (words_of_modifiers (modifiers o i ns m) ++ x) k refl (sym e))
one_modifiers (modifiers o i ns m) (modifiers p j us n) x y h k e =
    let whole = sym (modifiers-words o i ns m x) ∙ (e ∙ modifiers-words p j us n y) in
    let mark : o ≡ p = cc (whole) in
    let number : i ≡ j = cc (whole) in
    let (others, close, rest) = one_numbers ns us m n x y (ap (drop 2) whole) in
    (cc (mark, number, others, close), rest)

-- nothing that goes on a type is next: no `(`, no WITH and no name, as VARYING and WITHOUT are
abbrev ends_type : List Terminal → Bool
ends_type (t_mark Open _ ∷ _) = false
ends_type (t_key With _ ∷ _) = false
ends_type (t_name _ ∷ _) = false
ends_type _ = true

type-modifiers : (x : List Terminal) → ends_type x ≡ true → ends_modifiers x ≡ true
type-modifiers (t_mark Open _ ∷ _) h = absurd (cc)
type-modifiers _ h = refl

-- a zone behind TIMESTAMP and its modifiers: WITH or WITHOUT, TIME and ZONE
abbrev with_words : Key → Token → Token → List Terminal
with_words w t z = t_key With w ∷ t_name (free Time t) ∷ t_name (free Zone z) ∷ []

abbrev without_words : Token → Token → Token → List Terminal
without_words w t z = t_name (free Without w) ∷ t_name (free Time t) ∷ t_name (free Zone z) ∷ []

-- modifiers, a zone and what follows
one_zoned : (a b : Modifiers) (z v x y : List Terminal) → ends_modifiers (z ++ x) ≡ true → ends_modifiers (v ++ y) ≡ true → (words_of_modifiers a ++ z) ++ x ≡ (words_of_modifiers b ++ v) ++ y → (a ≡ b) × (z ++ x ≡ v ++ y)
one_zoned a b z v x y h k e =
    one_modifiers a b (z ++ x) (v ++ y) h k (sym (append_assoc (words_of_modifiers a) z x) ∙ (e ∙ append_assoc (words_of_modifiers b) v y))

-- a type by its name alone is spelled as none of several words
zoneless : (m l : Modifiers) (v x y : List Terminal) → ends_type x ≡ true → ends_modifiers (v ++ y) ≡ true → ends_type (v ++ y) ≡ false → words_of_modifiers m ++ x ≡ (words_of_modifiers l ++ v) ++ y → ⊥
zoneless m l v x y h k z e =
    let (same, rest) = one_modifiers m l x (v ++ y) (type-modifiers x h) k (e ∙ append_assoc (words_of_modifiers l) v y) in
    tested ends_type x (v ++ y) h z rest

unvaried : (m : Modifiers) (v : Token) (x y : List Terminal) → ends_type x ≡ true → words_of_modifiers m ++ x ≡ t_name (free Varying v) ∷ y → ⊥
unvaried no_modifiers v x y h e = tested ends_type x (t_name (free Varying v) ∷ y) h refl e
unvaried (modifiers o n ns m) v x y h e = absurd (cc (e))

one_type : (a b : TypeTree) (x y : List Terminal) → ends_type x ≡ true → ends_type y ≡ true → words_of_type a ++ x ≡ words_of_type b ++ y → (a ≡ b) × (x ≡ y)
one_type (named_type n m) (named_type i l) x y h k e =
    let name : n ≡ i = cc (e) in
    let (same, rest) = one_modifiers m l x y (type-modifiers x h) (type-modifiers y k) (ap (drop 1) e) in
    (cc (name, same), rest)
one_type (named_type n m) (character_varying c v l) x y h k e = absurd (unvaried m v x (words_of_modifiers l ++ y) h (ap (drop 1) e))
one_type (named_type n m) (timestamp_with_zone s l w t z) x y h k e = absurd (zoneless m l (with_words w t z) x y h refl refl (ap (drop 1) e))
one_type (named_type n m) (timestamp_without_zone s l w t z) x y h k e = absurd (zoneless m l (without_words w t z) x y h refl refl (ap (drop 1) e))
one_type (character_varying c v l) (named_type n m) x y h k e = absurd (unvaried m v y (words_of_modifiers l ++ x) k (sym (ap (drop 1) e)))
one_type (character_varying c v m) (character_varying d u l) x y h k e =
    let first : c ≡ d = cc (e) in
    let second : v ≡ u = cc (e) in
    let (same, rest) = one_modifiers m l x y (type-modifiers x h) (type-modifiers y k) (ap (drop 2) e) in
    (cc (first, second, same), rest)
one_type (character_varying c v m) (timestamp_with_zone s l w t z) x y h k e = absurd (cc (e))
one_type (character_varying c v m) (timestamp_without_zone s l w t z) x y h k e = absurd (cc (e))
one_type (timestamp_with_zone s l w t z) (named_type n m) x y h k e = absurd (zoneless m l (with_words w t z) y x k refl refl (sym (ap (drop 1) e)))
one_type (timestamp_with_zone s l w t z) (character_varying c v m) x y h k e = absurd (cc (e))
one_type (timestamp_with_zone s m w t z) (timestamp_with_zone r l v u d) x y h k e =
    let word : s ≡ r = cc (e) in
    let (same, rest) = one_zoned m l (with_words w t z) (with_words v u d) x y refl refl (ap (drop 1) e) in
    let with' : w ≡ v = cc (rest) in
    let time : t ≡ u = cc (rest) in
    let zone : z ≡ d = cc (rest) in
    (cc (word, same, with', time, zone), ap (drop 3) rest)
one_type (timestamp_with_zone s m w t z) (timestamp_without_zone r l v u d) x y h k e =
    let (same, rest) = one_zoned m l (with_words w t z) (without_words v u d) x y refl refl (ap (drop 1) e) in
    absurd (cc (rest))
one_type (timestamp_without_zone s l w t z) (named_type n m) x y h k e = absurd (zoneless m l (without_words w t z) y x k refl refl (sym (ap (drop 1) e)))
one_type (timestamp_without_zone s l w t z) (character_varying c v m) x y h k e = absurd (cc (e))
one_type (timestamp_without_zone s m w t z) (timestamp_with_zone r l v u d) x y h k e =
    let (same, rest) = one_zoned m l (without_words w t z) (with_words v u d) x y refl refl (ap (drop 1) e) in
    absurd (cc (rest))
one_type (timestamp_without_zone s m w t z) (timestamp_without_zone r l v u d) x y h k e =
    let word : s ≡ r = cc (e) in
    let (same, rest) = one_zoned m l (without_words w t z) (without_words v u d) x y refl refl (ap (drop 1) e) in
    let without : w ≡ v = cc (rest) in
    let time : t ≡ u = cc (rest) in
    let zone : z ≡ d = cc (rest) in
    (cc (word, same, without, time, zone), ap (drop 3) rest)

-- `,` or `)` is next: no column's definition goes on so
abbrev ends_coldef : List Terminal → Bool
ends_coldef (t_mark Comma _ ∷ _) = true
ends_coldef (t_mark Close _ ∷ _) = true
ends_coldef _ = false

coldef-nulls : (x : List Terminal) → ends_coldef x ≡ true → ends_nulls x ≡ true
coldef-nulls (t_mark Comma _ ∷ _) h = refl
coldef-nulls (t_mark Close _ ∷ _) h = refl
coldef-nulls _ h = absurd (cc)

coldef-type : (a : Nulls) (x : List Terminal) → ends_coldef x ≡ true → ends_type (words_of_nulls a ++ x) ≡ true
coldef-type unwritten (t_mark Comma _ ∷ _) h = refl
coldef-type unwritten (t_mark Close _ ∷ _) h = refl
coldef-type unwritten _ h = absurd (cc)
coldef-type (not_null m n) x h = refl
coldef-type (nullable n) x h = refl

one_coldef : (c d : ColDef) (x y : List Terminal) → ends_coldef x ≡ true → ends_coldef y ≡ true → words_of_coldef c ++ x ≡ words_of_coldef d ++ y → (c ≡ d) × (x ≡ y)
one_coldef (coldef n t a) (coldef m u b) x y h k e =
    let name : n ≡ m = cc (e) in
    let (kind, more) = one_type t u (words_of_nulls a ++ x) (words_of_nulls b ++ y) (coldef-type a x h) (coldef-type b y k)
    (sym (append_assoc (words_of_type t) (words_of_nulls a) x) ∙ (ap (drop 1) e ∙ append_assoc (words_of_type u) (words_of_nulls b) y)) in
    let (nulls, rest) = one_nulls a b x y (coldef-nulls x h) (coldef-nulls y k) more in
    (cc (name, kind, nulls), rest)

-- further columns and what closes them
abbrev closed : List (Mark × ColDef) → Mark → List Terminal → List Terminal
closed cs m x = words_of_columns cs ++ t_mark Close m ∷ x

ends-closed : (cs : List (Mark × ColDef)) (m : Mark) (x : List Terminal) → ends_coldef (closed cs m x) ≡ true
ends-closed [] m x = refl
ends-closed ((t, c) ∷ cs) m x = refl

one_columns : (cs ds : List (Mark × ColDef)) (m n : Mark) (x y : List Terminal) → closed cs m x ≡ closed ds n y → (cs ≡ ds) × (m ≡ n) × (x ≡ y)
one_columns = one_list ColDef words_of_coldef words_of_columns (t_mark Close) ends_coldef (λ m x. refl)
    (λ t c cs m x. ap (λ l. t_mark Comma t ∷ l) (append_assoc (words_of_coldef c) (words_of_columns cs) (t_mark Close m ∷ x)))
    (λ m n x y e. cc (e)) (λ m t x y e. absurd (cc (e))) ends-closed one_coldef

-- a new table's columns and end
abbrev columns_words : ColDef → List (Mark × ColDef) → Mark → Ending → List Terminal
columns_words c cs m e = words_of_coldef c ++ closed cs m (words_of_ending e)

pub one_table : (c d : ColDef) (cs ds : List (Mark × ColDef)) (m n : Mark) (e f : Ending) → columns_words c cs m e ≡ columns_words d ds n f → (c ≡ d) × (cs ≡ ds) × (m ≡ n) × (e ≡ f)
one_table c d cs ds m n e f h =
    let (first, more) = one_coldef c d (closed cs m (words_of_ending e)) (closed ds n (words_of_ending f)) (ends-closed cs m (words_of_ending e)) (ends-closed ds n (words_of_ending f)) h in
    let (others, mark, last) = one_columns cs ds m n (words_of_ending e) (words_of_ending f) more in
    (first, others, mark, one_ending e f last)
