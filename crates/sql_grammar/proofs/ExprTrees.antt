-- A list of words, each with its token, is spelled by one expression; and the words of a tree have their tokens.
use Rattle.std.proofs.Common.{◌≡◌, ℕ, Bool, true, false, List, [], ◌∷◌, ◌++◌, drop, map, Option, Some, None, cond, nat_eq, refl, sym, ap, ◌∙◌, arith, append_assoc, append-nil}
use Rattle.std.specs.Char.{to_ascii_lowercase}
use Rattle.sql_lex.specs.declared.tokens.Token.{Token}
use Rattle.sql_lex.specs.declared.tokens.Kind.{Kind}
use Rattle.sql_lex.specs.declared.tokens.Kind.TheVariants.{Word as WordKind, Number as NumberKind, Quoted as QuotedKind, Symbol as SymbolKind, End as EndKind}
use Rattle.sql_grammar.specs.declared.class.Free.{Free}
use Rattle.sql_grammar.specs.declared.class.Free.TheVariants.{Between, In}
use Rattle.sql_grammar.specs.declared.class.Word.{Word}
use Rattle.sql_grammar.specs.declared.class.Word.TheVariants.{And, Is, Not, Null}
use Rattle.sql_grammar.specs.declared.class.Symbol.TheVariants.{Open, Close, Comma, Dot}
use Rattle.sql_grammar.specs.declared.offered.TheConstants.{READS_LISTS}
use Rattle.sql_grammar.specs.Terminals.{Terminal, Ident, Said, free, token_of, t_key, t_mark, t_name, t_quoted, t_operator}
use Rattle.sql_grammar.specs.Reading.{terminal_by, word_terminal, symbol_terminal, ident_of, free_of, reserved_of, bytes_of_token}
use Rattle.sql_grammar.specs.Faults.{terminals}
use Rattle.sql_grammar.specs.Syntax.{IsOffered, Mark, Col, Lit, bare, qualified, yes, no, unknown, number, negative, quoted, constant, OperandTree, column, literal, typed, Expr, either_of, Ors, no_or, or_conj, Conj, both_of, Ands, no_and, and_neg, no_not, not_before, Neg, negated, plain, Atom, parens, compare, is_null, is_not_null, in_list, between, column_alone, constant_alone}
use Rattle.sql_grammar.specs.work.Unique.{token_in, ends_col, ends_operand, ends_atom, ends_conj, ends_expr, is_parens, front, tail}
use Rattle.sql_grammar.specs.Words.{words_of_lit, words_of_bounds, words_of_col, words_of_operand, words_of_expr, words_of_ors, words_of_conj, words_of_ands, words_of_neg, words_of_atom}
use Rattle.sql_grammar.proofs.ListLemmas.{one_list}

pub named-token : (o : Option Free) (small : List ℕ) (t : Token) → token_of (ident_of o small t) ≡ t
named-token (Some w) small t = refl
named-token None small t = refl

word-token : (o : Option Word) (small : List ℕ) (t : Token) → token_in (word_terminal o small t) ≡ t
word-token (Some w) small t = refl
word-token None small t = named-token (free_of small) small t

either : (b : Bool) (x y : Terminal) (t : Token) → token_in x ≡ t → token_in y ≡ t → token_in (cond b x y) ≡ t
either true x y t h k = h
either false x y t h k = k

symbol-token : (bytes : List ℕ) (t : Token) → token_in (symbol_terminal bytes t) ≡ t
symbol-token [] t = refl
symbol-token (b ∷ []) t =
    either (nat_eq b 40) _ _ t refl (either (nat_eq b 41) _ _ t refl (either (nat_eq b 44) _ _ t refl (either (nat_eq b 46) _ _ t refl
    (either (nat_eq b 45) _ _ t refl (either (nat_eq b 42) _ _ t refl (either (nat_eq b 59) _ _ t refl refl))))))
symbol-token (b ∷ c ∷ bs) t = refl

pub by-token : (kind : Kind) (bytes : List ℕ) (t : Token) → token_in (terminal_by kind bytes t) ≡ t
by-token WordKind bytes t = word-token (reserved_of (map to_ascii_lowercase bytes)) (map to_ascii_lowercase bytes) t
by-token NumberKind bytes t = refl
by-token QuotedKind bytes t = refl
by-token SymbolKind bytes t = symbol-token bytes t
by-token EndKind bytes t = refl

pub tokens-of : (text : List ℕ) (ts : List Token) → map token_in (terminals text ts) ≡ ts
tokens-of text [] = refl
tokens-of text (t ∷ ts) = ap (λ u. u ∷ map token_in (terminals text ts)) (by-token t.kind (bytes_of_token text t) t) ∙ ap (λ l. t ∷ l) (tokens-of text ts)

-- words that are those of some tokens have these
pub tokens-are : (words : List Terminal) (text : List ℕ) (ts : List Token) → words ≡ terminals text ts → map token_in words ≡ ts
tokens-are words text ts is = ap (map token_in) is ∙ tokens-of text ts

pub atom-dotless : (x : List Terminal) → ends_atom x ≡ true → ends_operand x ≡ true
atom-dotless (t_mark Dot _ ∷ x) h = absurd (cc)
atom-dotless (t_quoted _ ∷ x) h = absurd (cc)
atom-dotless _ h = refl

pub conj-atom : (x : List Terminal) → ends_conj x ≡ true → ends_atom x ≡ true
conj-atom (t_mark Dot _ ∷ x) h = absurd (cc)
conj-atom (t_quoted _ ∷ x) h = absurd (cc)
conj-atom (t_key Not _ ∷ x) h = absurd (cc)
conj-atom (t_name (free In _) ∷ x) h = absurd (cc)
conj-atom (t_name (free Between _) ∷ x) h = absurd (cc)
conj-atom (t_key Is _ ∷ x) h = absurd (cc)
conj-atom (t_operator _ ∷ x) h = absurd (cc)
conj-atom _ h = refl

pub expr-conj : (x : List Terminal) → ends_expr x ≡ true → ends_conj x ≡ true
expr-conj (t_mark Dot _ ∷ x) h = absurd (cc)
expr-conj (t_quoted _ ∷ x) h = absurd (cc)
expr-conj (t_key Not _ ∷ x) h = absurd (cc)
expr-conj (t_name (free In _) ∷ x) h = absurd (cc)
expr-conj (t_name (free Between _) ∷ x) h = absurd (cc)
expr-conj (t_key Is _ ∷ x) h = absurd (cc)
expr-conj (t_operator _ ∷ x) h = absurd (cc)
expr-conj (t_key And _ ∷ x) h = absurd (cc)
expr-conj _ h = refl

pub ands-end : (ns : Ands) (x : List Terminal) → ends_conj x ≡ true → ends_atom (words_of_ands ns ++ x) ≡ true
ands-end no_and x h = conj-atom x h
ands-end (and_neg k n ns) x h = refl

pub ors-end : (os : Ors) (x : List Terminal) → ends_expr x ≡ true → ends_conj (words_of_ors os ++ x) ≡ true
ors-end no_or x h = expr-conj x h
ors-end (or_conj k c os) x h = refl

-- two lists of which a test tells one from the other
pub tested : (test : List Terminal → Bool) (x y : List Terminal) → test x ≡ true → test y ≡ false → x ≡ y → ⊥
tested test x y h k e = let also : true ≡ false = sym h ∙ (ap test e ∙ k) in absurd (cc)

operand-col : (x : List Terminal) → ends_operand x ≡ true → ends_col x ≡ true
operand-col (t_mark Dot _ ∷ x) h = absurd (cc)
operand-col _ h = refl

pub one_col : (a b : Col) (x y : List Terminal) → ends_col x ≡ true → ends_col y ≡ true → words_of_col a ++ x ≡ words_of_col b ++ y → (a ≡ b) × (x ≡ y)
one_col (bare n) (bare m) x y h k e = let name : n ≡ m = cc (e) in (ap bare name, ap (drop 1) e)
one_col (bare n) (qualified r f m) x y h k e = absurd (tested ends_col x (t_mark Dot f ∷ t_name m ∷ y) h refl (ap (drop 1) e))
one_col (qualified q d n) (bare m) x y h k e = absurd (tested ends_col y (t_mark Dot d ∷ t_name n ∷ x) k refl (sym (ap (drop 1) e)))
one_col (qualified q d n) (qualified r f m) x y h k e = let table : q ≡ r = cc (e) in let dot : d ≡ f = cc (e) in let name : n ≡ m = cc (e) in (cc (table, dot, name), ap (drop 3) e)

pub one_lit : (a b : Lit) (x y : List Terminal) → words_of_lit a ++ x ≡ words_of_lit b ++ y → (a ≡ b) × (x ≡ y)
one_lit (number n) (number m) x y e = let same : n ≡ m = cc (e) in (ap number same, ap (drop 1) e)
one_lit (negative l n) (negative r m) x y e = let minus : l ≡ r = cc (e) in let same : n ≡ m = cc (e) in (cc (minus, same), ap (drop 2) e)
one_lit (quoted n) (quoted m) x y e = let same : n ≡ m = cc (e) in (ap quoted same, ap (drop 1) e)
one_lit (constant yes i) (constant yes j) x y e = let same : i ≡ j = cc (e) in (ap (constant yes) same, ap (drop 1) e)
one_lit (constant no i) (constant no j) x y e = let same : i ≡ j = cc (e) in (ap (constant no) same, ap (drop 1) e)
one_lit (constant unknown i) (constant unknown j) x y e = let same : i ≡ j = cc (e) in (ap (constant unknown) same, ap (drop 1) e)
one_lit _ _ x y e = absurd (cc (e))

-- a name is next
abbrev is_named : List Terminal → Bool
is_named (t_name _ ∷ _) = true
is_named _ = false

col-named : (c : Col) (x : List Terminal) → is_named (words_of_col c ++ x) ≡ true
col-named (bare n) x = refl
col-named (qualified q d n) x = refl

lit-nameless : (l : Lit) (x : List Terminal) → is_named (words_of_lit l ++ x) ≡ false
lit-nameless (number n) x = refl
lit-nameless (negative m n) x = refl
lit-nameless (quoted q) x = refl
lit-nameless (constant c k) x = refl

-- a column is no typed literal
untyped : (c : Col) (n : Ident) (t : Said) (x y : List Terminal) → ends_operand x ≡ true → words_of_col c ++ x ≡ t_name n ∷ t_quoted t ∷ y → ⊥
untyped (bare m) n t x y h e = tested ends_operand x (t_quoted t ∷ y) h refl (ap (drop 1) e)
untyped (qualified q d m) n t x y h e = absurd (cc (e))

pub one_operand : (a b : OperandTree) (x y : List Terminal) → ends_operand x ≡ true → ends_operand y ≡ true → words_of_operand a ++ x ≡ words_of_operand b ++ y → (a ≡ b) × (x ≡ y)
one_operand (column c) (column d) x y h k e = let (same, rest) = one_col c d x y (operand-col x h) (operand-col y k) e in (ap column same, rest)
one_operand (column c) (literal m) x y h k e = absurd (tested is_named (words_of_col c ++ x) (words_of_lit m ++ y) (col-named c x) (lit-nameless m y) e)
one_operand (column c) (typed n t) x y h k e = absurd (untyped c n t x y h e)
one_operand (literal l) (column d) x y h k e = absurd (tested is_named (words_of_col d ++ y) (words_of_lit l ++ x) (col-named d y) (lit-nameless l x) (sym e))
one_operand (literal l) (literal m) x y h k e = let (same, rest) = one_lit l m x y e in (ap literal same, rest)
one_operand (literal l) (typed n t) x y h k e = absurd (tested is_named (t_name n ∷ t_quoted t ∷ y) (words_of_lit l ++ x) refl (lit-nameless l x) (sym e))
one_operand (typed n t) (column d) x y h k e = absurd (untyped d n t y x k (sym e))
one_operand (typed n t) (literal m) x y h k e = absurd (tested is_named (t_name n ∷ t_quoted t ∷ x) (words_of_lit m ++ y) refl (lit-nameless m y) e)
one_operand (typed n t) (typed m u) x y h k e = let name : n ≡ m = cc (e) in let text : t ≡ u = cc (e) in (cc (name, text), ap (drop 2) e)

pub parted : (a : Atom) (x : List Terminal) → is_parens a ≡ false → words_of_atom a ++ x ≡ words_of_operand (front a) ++ tail a x
parted (parens o e c) x h = absurd (cc)
parted (compare l op r) x h = append_assoc (words_of_operand l) (t_operator op ∷ words_of_operand r) x
parted (is_null c i k) x h = append_assoc (words_of_col c) (t_key Is i ∷ t_key Null k ∷ []) x
parted (is_not_null c i n k) x h = append_assoc (words_of_col c) (t_key Is i ∷ t_key Not n ∷ t_key Null k ∷ []) x
parted (in_list u c n w o l ls m) x h = simp append_assoc
parted (between u l n w a j b) x h = simp append_assoc
parted (column_alone c) x h = refl
parted (constant_alone c k) x h = refl

pub tail-dotless : (a : Atom) (x : List Terminal) → ends_atom x ≡ true → ends_operand (tail a x) ≡ true
tail-dotless (parens o e c) x h = atom-dotless x h
tail-dotless (compare l op r) x h = refl
tail-dotless (is_null c i k) x h = refl
tail-dotless (is_not_null c i n k) x h = refl
tail-dotless (in_list u c no_not w o l ls m) x h = refl
tail-dotless (in_list u c (not_before k) w o l ls m) x h = refl
tail-dotless (between u l no_not w a j b) x h = refl
tail-dotless (between u l (not_before k) w a j b) x h = refl
tail-dotless (column_alone c) x h = atom-dotless x h
tail-dotless (constant_alone c k) x h = atom-dotless x h

abbrev tail_kind : List Terminal → ℕ
tail_kind (t_operator op ∷ x) = 1
tail_kind (t_key Is i ∷ t_key Not n ∷ x) = 3
tail_kind (t_key Is i ∷ x) = 2
tail_kind (t_name (free In w) ∷ x) = 4
tail_kind (t_key Not n ∷ t_name (free In w) ∷ x) = 4
tail_kind (t_name (free Between w) ∷ x) = 5
tail_kind (t_key Not n ∷ t_name (free Between w) ∷ x) = 5
tail_kind _ = 0

abbrev atom_kind : Atom → ℕ
atom_kind (compare l op r) = 1
atom_kind (is_null c i k) = 2
atom_kind (is_not_null c i n k) = 3
atom_kind (in_list u c z w o l ls m) = 4
atom_kind (between u l z w a j b) = 5
atom_kind _ = 0

alone-kind : (x : List Terminal) → ends_atom x ≡ true → tail_kind x ≡ 0
alone-kind (t_operator op ∷ x) h = absurd (cc)
alone-kind (t_key Is i ∷ x) h = absurd (cc)
alone-kind (t_key Not n ∷ x) h = absurd (cc)
alone-kind (t_name (free In w) ∷ x) h = absurd (cc)
alone-kind (t_name (free Between w) ∷ x) h = absurd (cc)
alone-kind _ h = refl

tail-kind : (a : Atom) (x : List Terminal) → ends_atom x ≡ true → tail_kind (tail a x) ≡ atom_kind a
tail-kind (parens o e c) x h = alone-kind x h
tail-kind (compare l op r) x h = refl
tail-kind (is_null c i k) x h = refl
tail-kind (is_not_null c i n k) x h = refl
tail-kind (in_list u c no_not w o l ls m) x h = refl
tail-kind (in_list u c (not_before k) w o l ls m) x h = refl
tail-kind (between u l no_not w a j b) x h = refl
tail-kind (between u l (not_before k) w a j b) x h = refl
tail-kind (column_alone c) x h = alone-kind x h
tail-kind (constant_alone c k) x h = alone-kind x h

pub one_offered : (b : Bool) (p q : IsOffered b) → p ≡ q
one_offered true p q = refl
one_offered false p q = absurd p

-- further literals and what closes them
abbrev pub bounds_closed : List (Mark × Lit) → Mark → List Terminal → List Terminal
bounds_closed ls m x = words_of_bounds ls ++ t_mark Close m ∷ x

pub one_bounds : (ls us : List (Mark × Lit)) (m n : Mark) (x y : List Terminal) → bounds_closed ls m x ≡ bounds_closed us n y → (ls ≡ us) × (m ≡ n) × (x ≡ y)
one_bounds = one_list Lit words_of_lit words_of_bounds (t_mark Close) (λ x. true) (λ m x. refl)
    (λ t l ls m x. ap (λ v. t_mark Comma t ∷ v) (append_assoc (words_of_lit l) (words_of_bounds ls) (t_mark Close m ∷ x)))
    (λ m n x y e. cc (e)) (λ m t x y e. absurd (cc (e))) (λ ls m x. refl) (λ a b x y h k e. one_lit a b x y e)

-- a list behind its `(`
one_listed : (l k : Lit) (ls ks : List (Mark × Lit)) (m n : Mark) (x y : List Terminal) → words_of_lit l ++ bounds_closed ls m x ≡ words_of_lit k ++ bounds_closed ks n y →
    (l ≡ k) × (ls ≡ ks) × (m ≡ n) × (x ≡ y)
one_listed l k ls ks m n x y e =
    let (first, more) = one_lit l k (bounds_closed ls m x) (bounds_closed ks n y) e in
    let (others, close, rest) = one_bounds ls ks m n x y more in
    (first, others, close, rest)

-- the two sides behind BETWEEN
one_ranged : (a b c d : OperandTree) (j k : Token) (x y : List Terminal) → ends_operand x ≡ true → ends_operand y ≡ true →
    words_of_operand a ++ t_key And j ∷ (words_of_operand b ++ x) ≡ words_of_operand c ++ t_key And k ∷ (words_of_operand d ++ y) → (a ≡ c) × (j ≡ k) × (b ≡ d) × (x ≡ y)
one_ranged a b c d j k x y h i e =
    let (low, more) = one_operand a c (t_key And j ∷ (words_of_operand b ++ x)) (t_key And k ∷ (words_of_operand d ++ y)) refl refl e in
    let word : j ≡ k = cc (more) in
    let (high, rest) = one_operand b d x y h i (ap (drop 1) more) in
    (low, word, high, rest)

flat-by : (a b : Atom) (x y : List Terminal) → is_parens a ≡ false → is_parens b ≡ false → atom_kind a ≡ atom_kind b → front a ≡ front b → ends_operand x ≡ true → ends_operand y ≡ true →
    tail a x ≡ tail b y → (a ≡ b) × (x ≡ y)
flat-by (parens o e c) b x y p q k f h i t = absurd (cc (p))
flat-by (compare l op r) (compare m oq s) x y p q k f h i t =
    let operator : op ≡ oq = cc (t) in
    let (right, rest) = one_operand r s x y h i (ap (drop 1) t) in
    (cc (f, operator, right), rest)
flat-by (is_null c j n) (is_null d u m) x y p q k f h i t =
    let col : c ≡ d = cc (f) in let key : j ≡ u = cc (t) in let null : n ≡ m = cc (t) in (cc (col, key, null), ap (drop 2) t)
flat-by (is_not_null c j w n) (is_not_null d u v m) x y p q k f h i t =
    let col : c ≡ d = cc (f) in let key : j ≡ u = cc (t) in let negates : w ≡ v = cc (t) in let null : n ≡ m = cc (t) in (cc (col, key, negates, null), ap (drop 3) t)
flat-by (in_list u c no_not w o l ls m) (in_list v d no_not r g e es n) x y p q k f h i t =
    let col : c ≡ d = cc (f) in let word : w ≡ r = cc (t) in let mark : o ≡ g = cc (t) in
    let (first, others, close, rest) = one_listed l e ls es m n x y (ap (drop 2) t) in
    (cc (one_offered READS_LISTS u v, col, word, mark, first, others, close), rest)
flat-by (in_list u c (not_before z) w o l ls m) (in_list v d (not_before b) r g e es n) x y p q k f h i t =
    let col : c ≡ d = cc (f) in let negates : z ≡ b = cc (t) in let word : w ≡ r = cc (t) in let mark : o ≡ g = cc (t) in
    let (first, others, close, rest) = one_listed l e ls es m n x y (ap (drop 3) t) in
    (cc (one_offered READS_LISTS u v, col, negates, word, mark, first, others, close), rest)
flat-by (between u l no_not w a j b) (between v o no_not r c g d) x y p q k f h i t =
    let word : w ≡ r = cc (t) in
    let (low, and', high, rest) = one_ranged a b c d j g x y h i (ap (drop 1) t) in
    (cc (one_offered READS_LISTS u v, f, word, low, and', high), rest)
flat-by (between u l (not_before z) w a j b) (between v o (not_before e) r c g d) x y p q k f h i t =
    let negates : z ≡ e = cc (t) in let word : w ≡ r = cc (t) in
    let (low, and', high, rest) = one_ranged a b c d j g x y h i (ap (drop 2) t) in
    (cc (one_offered READS_LISTS u v, f, negates, word, low, and', high), rest)
flat-by (in_list u c no_not w o l ls m) (in_list v d (not_before b) r g e es n) x y p q k f h i t = absurd (cc (t))
flat-by (in_list u c (not_before z) w o l ls m) (in_list v d no_not r g e es n) x y p q k f h i t = absurd (cc (t))
flat-by (between u l no_not w a j b) (between v o (not_before e) r c g d) x y p q k f h i t = absurd (cc (t))
flat-by (between u l (not_before z) w a j b) (between v o no_not r c g d) x y p q k f h i t = absurd (cc (t))
flat-by (column_alone c) (column_alone d) x y p q k f h i t = let col : c ≡ d = cc (f) in (ap column_alone col, t)
flat-by (constant_alone c n) (constant_alone d m) x y p q k f h i t = let const : c ≡ d = cc (f) in let key : n ≡ m = cc (f) in (cc (const, key), t)
flat-by (column_alone c) (constant_alone d m) x y p q k f h i t = absurd (cc (f))
flat-by (constant_alone c n) (column_alone d) x y p q k f h i t = absurd (cc (f))
flat-by _ (parens o e c) x y p q k f h i t = absurd (cc (q))
flat-by _ _ x y p q k f h i t = absurd (omega (arith, k))

one_flat : (a b : Atom) (x y : List Terminal) → is_parens a ≡ false → is_parens b ≡ false → ends_atom x ≡ true → ends_atom y ≡ true →
    words_of_atom a ++ x ≡ words_of_atom b ++ y → (a ≡ b) × (x ≡ y)
one_flat a b x y p q h k e =
    let (first, more) = one_operand (front a) (front b) (tail a x) (tail b y) (tail-dotless a x h) (tail-dotless b y k) (sym (parted a x p) ∙ (e ∙ parted b y q)) in
    flat-by a b x y p q (sym (tail-kind a x h) ∙ (ap tail_kind more ∙ tail-kind b y k)) first (atom-dotless x h) (atom-dotless y k) more

-- a parenthesis or NOT at the beginning
abbrev opens : List Terminal → ℕ
opens (t_mark Open _ ∷ _) = 1
opens (t_key Not _ ∷ _) = 2
opens _ = 0

opens-operand : (o : OperandTree) (x : List Terminal) → opens (words_of_operand o ++ x) ≡ 0
opens-operand (column (bare n)) x = refl
opens-operand (column (qualified q d n)) x = refl
opens-operand (literal (number n)) x = refl
opens-operand (literal (negative m n)) x = refl
opens-operand (literal (quoted q)) x = refl
opens-operand (literal (constant yes k)) x = refl
opens-operand (literal (constant no k)) x = refl
opens-operand (literal (constant unknown k)) x = refl
opens-operand (typed n t) x = refl

opens-flat : (a : Atom) (x : List Terminal) → is_parens a ≡ false → opens (words_of_atom a ++ x) ≡ 0
opens-flat a x h = ap opens (parted a x h) ∙ opens-operand (front a) (tail a x)

atom-by : (b : Bool) (a : Atom) (x : List Terminal) → is_parens a ≡ b → opens (words_of_atom a ++ x) ≡ cond b 1 0
atom-by true (parens o e c) x h = refl
atom-by true _ x h = absurd (cc (h))
atom-by false a x h = opens-flat a x h

no-not : (b : Bool) (a : Atom) (x y : List Terminal) → is_parens a ≡ b → opens y ≡ 2 → y ≡ words_of_atom a ++ x → ⊥
no-not true a x y h k e = let both = sym k ∙ (ap opens e ∙ atom-by true a x h) in absurd (omega (arith, both))
no-not false a x y h k e = let both = sym k ∙ (ap opens e ∙ atom-by false a x h) in absurd (omega (arith, both))

no-parens : (a b : Atom) (x y : List Terminal) → is_parens a ≡ true → is_parens b ≡ false → words_of_atom a ++ x ≡ words_of_atom b ++ y → ⊥
no-parens a b x y h k e = let both = sym (atom-by true a x h) ∙ (ap opens e ∙ atom-by false b y k) in absurd (omega (arith, both))

flat-first : (b : Bool) (a d : Atom) (x y : List Terminal) → is_parens d ≡ b → is_parens a ≡ false → ends_atom x ≡ true → ends_atom y ≡ true → words_of_atom a ++ x ≡ words_of_atom d ++ y → (a ≡ d) × (x ≡ y)
flat-first true a d x y q p h k e = absurd (no-parens d a y x q p (sym e))
flat-first false a d x y q p h k e = one_flat a d x y p q h k e

mutual
  pub one_expr : (a b : Expr) (x y : List Terminal) → ends_expr x ≡ true → ends_expr y ≡ true → words_of_expr a ++ x ≡ words_of_expr b ++ y → (a ≡ b) × (x ≡ y)
  one_expr (either_of c os) (either_of d us) x y h k e =
      let (first, more) = one_conj c d (words_of_ors os ++ x) (words_of_ors us ++ y) (ors-end os x h) (ors-end us y k)
      (sym (append_assoc (words_of_conj c) (words_of_ors os) x) ∙ (e ∙ append_assoc (words_of_conj d) (words_of_ors us) y)) in
      let (others, rest) = one_ors os us x y h k more in
      (cc (first, others), rest)

  one_ors : (a b : Ors) (x y : List Terminal) → ends_expr x ≡ true → ends_expr y ≡ true → words_of_ors a ++ x ≡ words_of_ors b ++ y → (a ≡ b) × (x ≡ y)
  one_ors no_or no_or x y h k e = (refl, e)
  one_ors no_or (or_conj j d us) x y h k e = absurd (tested ends_expr x (words_of_ors (or_conj j d us) ++ y) h refl e)
  one_ors (or_conj i c os) no_or x y h k e = absurd (tested ends_expr y (words_of_ors (or_conj i c os) ++ x) k refl (sym e))
  one_ors (or_conj i c os) (or_conj j d us) x y h k e =
      let key : i ≡ j = cc (e) in
      let (first, more) = one_conj c d (words_of_ors os ++ x) (words_of_ors us ++ y) (ors-end os x h) (ors-end us y k)
      (sym (append_assoc (words_of_conj c) (words_of_ors os) x) ∙ (ap (drop 1) e ∙ append_assoc (words_of_conj d) (words_of_ors us) y)) in
      let (others, rest) = one_ors os us x y h k more in
      (cc (key, first, others), rest)

  one_conj : (a b : Conj) (x y : List Terminal) → ends_conj x ≡ true → ends_conj y ≡ true → words_of_conj a ++ x ≡ words_of_conj b ++ y → (a ≡ b) × (x ≡ y)
  one_conj (both_of n ns) (both_of m ms) x y h k e =
      let (first, more) = one_neg n m (words_of_ands ns ++ x) (words_of_ands ms ++ y) (ands-end ns x h) (ands-end ms y k)
      (sym (append_assoc (words_of_neg n) (words_of_ands ns) x) ∙ (e ∙ append_assoc (words_of_neg m) (words_of_ands ms) y)) in
      let (others, rest) = one_ands ns ms x y h k more in
      (cc (first, others), rest)

  one_ands : (a b : Ands) (x y : List Terminal) → ends_conj x ≡ true → ends_conj y ≡ true → words_of_ands a ++ x ≡ words_of_ands b ++ y → (a ≡ b) × (x ≡ y)
  one_ands no_and no_and x y h k e = (refl, e)
  one_ands no_and (and_neg j m ms) x y h k e = absurd (tested ends_conj x (words_of_ands (and_neg j m ms) ++ y) h refl e)
  one_ands (and_neg i n ns) no_and x y h k e = absurd (tested ends_conj y (words_of_ands (and_neg i n ns) ++ x) k refl (sym e))
  one_ands (and_neg i n ns) (and_neg j m ms) x y h k e =
      let key : i ≡ j = cc (e) in
      let (first, more) = one_neg n m (words_of_ands ns ++ x) (words_of_ands ms ++ y) (ands-end ns x h) (ands-end ms y k)
      (sym (append_assoc (words_of_neg n) (words_of_ands ns) x) ∙ (ap (drop 1) e ∙ append_assoc (words_of_neg m) (words_of_ands ms) y)) in
      let (others, rest) = one_ands ns ms x y h k more in
      (cc (key, first, others), rest)

  one_neg : (a b : Neg) (x y : List Terminal) → ends_atom x ≡ true → ends_atom y ≡ true → words_of_neg a ++ x ≡ words_of_neg b ++ y → (a ≡ b) × (x ≡ y)
  one_neg (negated i n) (negated j m) x y h k e =
      let key : i ≡ j = cc (e) in
      let (inner, rest) = one_neg n m x y h k (ap (drop 1) e) in
      (cc (key, inner), rest)
  one_neg (negated i n) (plain b) x y h k e = absurd (no-not (is_parens b) b y (words_of_neg (negated i n) ++ x) refl refl e)
  one_neg (plain a) (negated j m) x y h k e = absurd (no-not (is_parens a) a x (words_of_neg (negated j m) ++ y) refl refl (sym e))
  one_neg (plain a) (plain b) x y h k e = let (inner, rest) = one_atom a b x y h k e in (ap plain inner, rest)

  one_atom : (a b : Atom) (x y : List Terminal) → ends_atom x ≡ true → ends_atom y ≡ true → words_of_atom a ++ x ≡ words_of_atom b ++ y → (a ≡ b) × (x ≡ y)
  one_atom (parens o c m) (parens p d n) x y h k e =
      let first : o ≡ p = cc (e) in
      let (inner, after) = one_expr c d (t_mark Close m ∷ x) (t_mark Close n ∷ y) refl refl
      (sym (append_assoc (words_of_expr c) (t_mark Close m ∷ []) x) ∙ (ap (drop 1) e ∙ append_assoc (words_of_expr d) (t_mark Close n ∷ []) y)) in
      let last : m ≡ n = cc (after) in
      (cc (first, inner, last), ap (drop 1) after)
  one_atom (parens o c m) (compare l op r) x y h k e = absurd (no-parens (parens o c m) (compare l op r) x y refl refl e)
  one_atom (parens o c m) (is_null d i n) x y h k e = absurd (no-parens (parens o c m) (is_null d i n) x y refl refl e)
  one_atom (parens o c m) (is_not_null d i w n) x y h k e = absurd (no-parens (parens o c m) (is_not_null d i w n) x y refl refl e)
  one_atom (parens o c m) (in_list u d z w p l ls n) x y h k e = absurd (no-parens (parens o c m) (in_list u d z w p l ls n) x y refl refl e)
  one_atom (parens o c m) (between u l z w a j b) x y h k e = absurd (no-parens (parens o c m) (between u l z w a j b) x y refl refl e)
  one_atom (parens o c m) (column_alone d) x y h k e = absurd (no-parens (parens o c m) (column_alone d) x y refl refl e)
  one_atom (parens o c m) (constant_alone d i) x y h k e = absurd (no-parens (parens o c m) (constant_alone d i) x y refl refl e)
  one_atom (compare l op r) b x y h k e = flat-first (is_parens b) (compare l op r) b x y refl refl h k e
  one_atom (is_null c i n) b x y h k e = flat-first (is_parens b) (is_null c i n) b x y refl refl h k e
  one_atom (is_not_null c i w n) b x y h k e = flat-first (is_parens b) (is_not_null c i w n) b x y refl refl h k e
  one_atom (in_list u c z w o l ls m) b x y h k e = flat-first (is_parens b) (in_list u c z w o l ls m) b x y refl refl h k e
  one_atom (between u l z w a j d) b x y h k e = flat-first (is_parens b) (between u l z w a j d) b x y refl refl h k e
  one_atom (column_alone c) b x y h k e = flat-first (is_parens b) (column_alone c) b x y refl refl h k e
  one_atom (constant_alone c n) b x y h k e = flat-first (is_parens b) (constant_alone c n) b x y refl refl h k e

-- two expressions of the same words, with nothing after them
pub one_whole : (a b : Expr) → words_of_expr a ≡ words_of_expr b → a ≡ b
one_whole a b e = (one_expr a b [] [] refl refl (append-nil (words_of_expr a) ∙ (e ∙ sym (append-nil (words_of_expr b))))).0
