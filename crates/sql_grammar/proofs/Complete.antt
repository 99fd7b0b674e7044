-- The walk takes every part of a statement.
use Rattle.std.proofs.Common.{◌≡◌, ℕ, ◌+◌, ◌≤◌, true, List, [], ◌∷◌, ◌++◌, None, refl, sym, ap, ◌∙◌, arith, append_assoc, append-nil, nat_le}
use Rattle.std.proofs.lemmas.Bool.{le-leb}
use Rattle.sql_lex.specs.declared.tokens.Token.{Token}
use Rattle.sql_grammar.specs.Terminals.{Terminal, Ident, Said, free, t_key, t_mark, t_name, t_number, t_quoted}
use Rattle.sql_grammar.specs.work.Terminals.{class_of}
use Rattle.sql_grammar.specs.declared.class.Free.TheVariants.{Full, In, Left, Natural, Outer, Right}
use Rattle.sql_grammar.specs.declared.class.Word.TheVariants.{And, Is, Not}
use Rattle.sql_grammar.specs.declared.class.Symbol.TheVariants.{Close, Dot}
use Rattle.sql_grammar.specs.declared.table.Item.{Item}
use Rattle.sql_grammar.specs.declared.table.Item.TheVariants.{Keyword, Ends, Negation, MoreAnds, MoreOrs, Closes, NotEnds, AfterName, AfterColumn, AfterTruth, Side, AfterSide, Result, MoreResults, AfterResult, MaybeAlias, MoreJoins, MoreGroups, MaybeWhere, MaybeCommon, MoreShares, MaybeHistogram, MoreBounds, Literal, Digits}
use Rattle.sql_grammar.specs.Syntax.{Key, Mark, IsBareAlias, bare, qualified, yes, no, unknown, Lit, number, negative, quoted, constant, OperandTree, column, literal, typed, Expr, either_of, Ors, no_or, or_conj, Conj, both_of, Ands, no_and, and_neg, Negated, no_not, not_before, Neg, negated, plain, Atom, parens, compare, is_null, is_not_null, in_list, between, column_alone, constant_alone, Output, every, every_of, one, Alias, no_alias, bare_alias, as_alias, Where, no_where, where_expr, Share, share, CommonPart, no_common, common, Histogram, no_histogram, histogram, Ending, semicolon, text_end}
use Rattle.sql_grammar.specs.Words.{words_of_lit, words_of_operand, words_of_expr, words_of_ors, words_of_conj, words_of_ands, words_of_neg, words_of_atom, words_of_output, words_of_outputs, words_of_alias, words_of_where, words_of_share, words_of_shares, words_of_common, words_of_bounds, words_of_histogram, words_of_ending, levels_of_where, levels_of_expr, levels_of_ors, levels_of_conj, levels_of_ands, levels_of_neg, levels_of_atom}
use Rattle.sql_grammar.specs.work.Table.{takes_of, is_optional}
use Rattle.sql_grammar.specs.work.Machine.{depth_of, takes_all}

-- the item takes nothing of what comes
abbrev pub Passes : Item → List Terminal → Type 0
Passes i [] = Unit {0}
Passes i (t ∷ ts) = takes_of i (class_of t) ≡ None

column-passes : (ts : List Terminal) → Passes AfterName ts → Passes AfterColumn ts
column-passes [] p = tt
column-passes (t_mark Dot _ ∷ ts) p = refl
column-passes (t_quoted _ ∷ ts) p = refl
column-passes (_ ∷ ts) p = p

truth-passes : (ts : List Terminal) → Passes AfterName ts → Passes AfterTruth ts
truth-passes [] p = tt
truth-passes (t_mark Dot _ ∷ ts) p = refl
truth-passes (t_quoted _ ∷ ts) p = refl
truth-passes (t_key Is _ ∷ ts) p = refl
truth-passes (t_key Not _ ∷ ts) p = absurd (cc (p))
truth-passes (t_name (free In _) ∷ ts) p = refl
truth-passes (_ ∷ ts) p = p

side-passes : (ts : List Terminal) → Passes AfterName ts → Passes AfterSide ts
side-passes [] p = tt
side-passes (t_mark Dot _ ∷ ts) p = absurd (cc)
side-passes (t_quoted _ ∷ ts) p = absurd (cc)
side-passes (_ ∷ ts) p = refl

-- what follows a conjunction, and what follows an expression
pub record EndsConj (ts : List Terminal) : Type 0 where
  pub atom : Passes AfterName ts
  pub ands : Passes MoreAnds ts

pub record EndsExpr (ts : List Terminal) : Type 0 where
  pub conj : EndsConj ts
  pub ors : Passes MoreOrs ts

-- what follows a SELECT
pub record EndsSelect (ts : List Terminal) : Type 0 where
  pub alias : Passes MaybeAlias ts
  pub joins : Passes MoreJoins ts
  pub groups : Passes MoreGroups ts
  pub condition : Passes MaybeWhere ts
  pub expr : EndsExpr ts

after-ands : (ns : Ands) (ts : List Terminal) → Passes AfterName ts → Passes AfterName (words_of_ands ns ++ ts)
after-ands no_and ts p = p
after-ands (and_neg k n ns) ts p = refl

after-ors : (os : Ors) (ts : List Terminal) → EndsConj ts → EndsConj (words_of_ors os ++ ts)
after-ors no_or ts p = p
after-ors (or_conj k c cs) ts p = record { atom = refl; ands = refl }

module _ (limit : ℕ) where
  pub skip : (i : Item) (s : List Item) (ts : List Terminal) → is_optional i ≡ true → Passes i ts → takes_all limit ts (i ∷ s) ≡ takes_all limit ts s
  skip i s [] o p = rw o refl
  skip i s (t ∷ ts) o p = rw (p, o) refl

  pub apart : (a b ts : List Terminal) (s : List Item) → takes_all limit ((a ++ b) ++ ts) s ≡ takes_all limit (a ++ (b ++ ts)) s
  apart a b ts s = ap (λ l. takes_all limit l s) (append_assoc a b ts)

  level-ends : (s : List Item) (ts : List Terminal) → takes_all limit ts (NotEnds ∷ s) ≡ takes_all limit ts s
  level-ends s [] = refl
  level-ends s (t ∷ ts) = refl

  pub side : (o : OperandTree) (s : List Item) (ts : List Terminal) → Passes AfterSide ts → takes_all limit (words_of_operand o ++ ts) (Side ∷ s) ≡ takes_all limit ts s
  side (column (bare n)) s ts p = skip AfterSide s ts refl p
  side (column (qualified q d n)) s ts p = refl
  side (literal (number n)) s ts p = refl
  side (literal (negative m n)) s ts p = refl
  side (literal (quoted q)) s ts p = refl
  side (literal (constant yes k)) s ts p = refl
  side (literal (constant no k)) s ts p = refl
  side (literal (constant unknown k)) s ts p = refl
  side (typed n t) s ts p = refl

  compared : (l : OperandTree) (op : Said) (r : OperandTree) (s : List Item) (ts : List Terminal) → Passes AfterSide ts →
      takes_all limit (words_of_atom (compare l op r) ++ ts) (Negation ∷ s) ≡ takes_all limit ts s
  compared (column (bare n)) op r s ts p = side r s ts p
  compared (column (qualified q d n)) op r s ts p = side r s ts p
  compared (literal (number n)) op r s ts p = side r s ts p
  compared (literal (negative m n)) op r s ts p = side r s ts p
  compared (literal (quoted q)) op r s ts p = side r s ts p
  compared (literal (constant yes k)) op r s ts p = side r s ts p
  compared (literal (constant no k)) op r s ts p = side r s ts p
  compared (literal (constant unknown k)) op r s ts p = side r s ts p
  compared (typed n t) op r s ts p = side r s ts p

  lit : (l : Lit) (s : List Item) (ts : List Terminal) → takes_all limit (words_of_lit l ++ ts) (Literal ∷ s) ≡ takes_all limit ts s
  lit (number n) s ts = refl
  lit (negative m n) s ts = refl
  lit (quoted q) s ts = refl
  lit (constant yes k) s ts = refl
  lit (constant no k) s ts = refl
  lit (constant unknown k) s ts = refl

  bounds : (l : Lit) (ls : List (Mark × Lit)) (m : Mark) (s : List Item) (ts : List Terminal) →
      takes_all limit (words_of_lit l ++ (words_of_bounds ls ++ t_mark Close m ∷ ts)) (Literal ∷ MoreBounds ∷ s) ≡ takes_all limit ts s
  bounds l [] m s ts = lit l (MoreBounds ∷ s) (t_mark Close m ∷ ts)
  bounds l ((c, k) ∷ ls) m s ts =
      lit l (MoreBounds ∷ s) (words_of_bounds ((c, k) ∷ ls) ++ t_mark Close m ∷ ts) ∙ (apart (words_of_lit k) (words_of_bounds ls) (t_mark Close m ∷ ts) _ ∙ bounds k ls m s ts)

  -- the rest of a list
  listed : (l : Lit) (ls : List (Mark × Lit)) (m : Mark) (s : List Item) (ts : List Terminal) →
      takes_all limit ((words_of_lit l ++ (words_of_bounds ls ++ t_mark Close m ∷ [])) ++ ts) (Literal ∷ MoreBounds ∷ s) ≡ takes_all limit ts s
  listed l ls m s ts =
      apart (words_of_lit l) (words_of_bounds ls ++ t_mark Close m ∷ []) ts _ ∙
      (ap (λ x. takes_all limit (words_of_lit l ++ x) (Literal ∷ MoreBounds ∷ s)) (append_assoc (words_of_bounds ls) (t_mark Close m ∷ []) ts) ∙ bounds l ls m s ts)

  -- the two sides behind BETWEEN
  ranged : (a b : OperandTree) (j : Key) (s : List Item) (ts : List Terminal) → Passes AfterSide ts →
      takes_all limit ((words_of_operand a ++ t_key And j ∷ words_of_operand b) ++ ts) (Side ∷ Keyword And ∷ Side ∷ s) ≡ takes_all limit ts s
  ranged a b j s ts p =
      apart (words_of_operand a) (t_key And j ∷ words_of_operand b) ts _ ∙ (side a (Keyword And ∷ Side ∷ s) (t_key And j ∷ (words_of_operand b ++ ts)) refl ∙ side b s ts p)

  between-sides : (l : OperandTree) (z : Negated) (w : Token) (a : OperandTree) (j : Key) (b : OperandTree) (s : List Item) (ts : List Terminal) → Passes AfterSide ts →
      takes_all limit (words_of_atom (between tt l z w a j b) ++ ts) (Negation ∷ s) ≡ takes_all limit ts s
  between-sides (column (bare n)) no_not w a j b s ts p = ranged a b j s ts p
  between-sides (column (bare n)) (not_before e) w a j b s ts p = ranged a b j s ts p
  between-sides (column (qualified q d n)) no_not w a j b s ts p = ranged a b j s ts p
  between-sides (column (qualified q d n)) (not_before e) w a j b s ts p = ranged a b j s ts p
  between-sides (literal (number n)) no_not w a j b s ts p = ranged a b j s ts p
  between-sides (literal (number n)) (not_before e) w a j b s ts p = ranged a b j s ts p
  between-sides (literal (negative m n)) no_not w a j b s ts p = ranged a b j s ts p
  between-sides (literal (negative m n)) (not_before e) w a j b s ts p = ranged a b j s ts p
  between-sides (literal (quoted q)) no_not w a j b s ts p = ranged a b j s ts p
  between-sides (literal (quoted q)) (not_before e) w a j b s ts p = ranged a b j s ts p
  between-sides (literal (constant yes k)) no_not w a j b s ts p = ranged a b j s ts p
  between-sides (literal (constant yes k)) (not_before e) w a j b s ts p = ranged a b j s ts p
  between-sides (literal (constant no k)) no_not w a j b s ts p = ranged a b j s ts p
  between-sides (literal (constant no k)) (not_before e) w a j b s ts p = ranged a b j s ts p
  between-sides (literal (constant unknown k)) no_not w a j b s ts p = ranged a b j s ts p
  between-sides (literal (constant unknown k)) (not_before e) w a j b s ts p = ranged a b j s ts p
  between-sides (typed n t) no_not w a j b s ts p = ranged a b j s ts p
  between-sides (typed n t) (not_before e) w a j b s ts p = ranged a b j s ts p

  mutual
    pub expr : (e : Expr) (s : List Item) (ts : List Terminal) → levels_of_expr e + depth_of s ≤ limit → EndsExpr ts →
        takes_all limit (words_of_expr e ++ ts) (Negation ∷ MoreAnds ∷ MoreOrs ∷ s) ≡ takes_all limit ts s
    expr (either_of c os) s ts low p =
        apart (words_of_conj c) (words_of_ors os) ts _ ∙ (conj c (MoreOrs ∷ s) (words_of_ors os ++ ts) (omega arith) (after-ors os ts p.conj) ∙ ors os s ts (omega arith) p)

    ors : (os : Ors) (s : List Item) (ts : List Terminal) → levels_of_ors os + depth_of s ≤ limit → EndsExpr ts →
        takes_all limit (words_of_ors os ++ ts) (MoreOrs ∷ s) ≡ takes_all limit ts s
    ors no_or s ts low p = skip MoreOrs s ts refl p.ors
    ors (or_conj k c os) s ts low p =
        apart (words_of_conj c) (words_of_ors os) ts _ ∙ (conj c (MoreOrs ∷ s) (words_of_ors os ++ ts) (omega arith) (after-ors os ts p.conj) ∙ ors os s ts (omega arith) p)

    conj : (c : Conj) (s : List Item) (ts : List Terminal) → levels_of_conj c + depth_of s ≤ limit → EndsConj ts →
        takes_all limit (words_of_conj c ++ ts) (Negation ∷ MoreAnds ∷ s) ≡ takes_all limit ts s
    conj (both_of n ns) s ts low p =
        apart (words_of_neg n) (words_of_ands ns) ts _ ∙ (neg n (MoreAnds ∷ s) (words_of_ands ns ++ ts) (omega arith) (after-ands ns ts p.atom) ∙ ands ns s ts (omega arith) p)

    ands : (ns : Ands) (s : List Item) (ts : List Terminal) → levels_of_ands ns + depth_of s ≤ limit → EndsConj ts →
        takes_all limit (words_of_ands ns ++ ts) (MoreAnds ∷ s) ≡ takes_all limit ts s
    ands no_and s ts low p = skip MoreAnds s ts refl p.ands
    ands (and_neg k n ns) s ts low p =
        apart (words_of_neg n) (words_of_ands ns) ts _ ∙ (neg n (MoreAnds ∷ s) (words_of_ands ns ++ ts) (omega arith) (after-ands ns ts p.atom) ∙ ands ns s ts (omega arith) p)

    neg : (n : Neg) (s : List Item) (ts : List Terminal) → levels_of_neg n + depth_of s ≤ limit → Passes AfterName ts →
        takes_all limit (words_of_neg n ++ ts) (Negation ∷ s) ≡ takes_all limit ts s
    neg (negated k n) s ts low p =
        let fits : nat_le (depth_of (Negation ∷ NotEnds ∷ s)) limit ≡ true = le-leb _ _ (omega arith) in
        rw fits (neg n (NotEnds ∷ s) ts (omega arith) p ∙ level-ends s ts)
    neg (plain a) s ts low p = atom a s ts low p

    atom : (a : Atom) (s : List Item) (ts : List Terminal) → levels_of_atom a + depth_of s ≤ limit → Passes AfterName ts →
        takes_all limit (words_of_atom a ++ ts) (Negation ∷ s) ≡ takes_all limit ts s
    atom (parens o e m) s ts low p =
        let fits : nat_le (depth_of (Negation ∷ MoreAnds ∷ MoreOrs ∷ Closes ∷ s)) limit ≡ true = le-leb _ _ (omega arith) in
        rw fits (apart (words_of_expr e) (t_mark Close m ∷ []) ts (Negation ∷ MoreAnds ∷ MoreOrs ∷ Closes ∷ s) ∙
        expr e (Closes ∷ s) (t_mark Close m ∷ ts) (omega arith) (record { conj = record { atom = refl; ands = refl }; ors = refl }))
    atom (compare l op r) s ts low p = compared l op r s ts (side-passes ts p)
    atom (is_null (bare n) i k) s ts low p = refl
    atom (is_null (qualified q d n) i k) s ts low p = refl
    atom (is_not_null (bare n) i e k) s ts low p = refl
    atom (is_not_null (qualified q d n) i e k) s ts low p = refl
    atom (in_list u (bare n) no_not w o l ls m) s ts low p = listed l ls m s ts
    atom (in_list u (bare n) (not_before e) w o l ls m) s ts low p = listed l ls m s ts
    atom (in_list u (qualified q d n) no_not w o l ls m) s ts low p = listed l ls m s ts
    atom (in_list u (qualified q d n) (not_before e) w o l ls m) s ts low p = listed l ls m s ts
    atom (between u l z w a j b) s ts low p = between-sides l z w a j b s ts (side-passes ts p)
    atom (column_alone (bare n)) s ts low p = skip AfterName s ts refl p
    atom (column_alone (qualified q d n)) s ts low p = skip AfterColumn s ts refl (column-passes ts p)
    atom (constant_alone yes k) s ts low p = skip AfterTruth s ts refl (truth-passes ts p)
    atom (constant_alone no k) s ts low p = skip AfterTruth s ts refl (truth-passes ts p)
    atom (constant_alone unknown k) s ts low p = skip AfterTruth s ts refl (truth-passes ts p)

  pub alone : (e : Expr) → levels_of_expr e ≤ limit → takes_all limit (words_of_expr e) (Negation ∷ MoreAnds ∷ MoreOrs ∷ []) ≡ true
  alone e low = ap (λ l. takes_all limit l (Negation ∷ MoreAnds ∷ MoreOrs ∷ [])) (sym (append-nil (words_of_expr e))) ∙
      expr e [] [] (omega arith) (record { conj = record { atom = tt; ands = tt }; ors = tt })

  output : (o : Output) (s : List Item) (ts : List Terminal) → Passes AfterResult ts → takes_all limit (words_of_output o ++ ts) (Result ∷ s) ≡ takes_all limit ts s
  output (every m) s ts p = refl
  output (every_of n d m) s ts p = refl
  output (one (bare n)) s ts p = skip AfterResult s ts refl p
  output (one (qualified q d n)) s ts p = refl

  pub outputs : (o : Output) (os : List (Mark × Output)) (s : List Item) (ts : List Terminal) → Passes AfterResult ts → Passes MoreResults ts →
      takes_all limit (words_of_output o ++ (words_of_outputs os ++ ts)) (Result ∷ MoreResults ∷ s) ≡ takes_all limit ts s
  outputs o [] s ts p q = output o (MoreResults ∷ s) ts p ∙ skip MoreResults s ts refl q
  outputs o ((m, o') ∷ os) s ts p q =
      output o (MoreResults ∷ s) (words_of_outputs ((m, o') ∷ os) ++ ts) refl ∙ (apart (words_of_output o') (words_of_outputs os) ts _ ∙ outputs o' os s ts p q)

  named-alias : (n : Ident) → IsBareAlias n → (s : List Item) (ts : List Terminal) → takes_all limit (t_name n ∷ ts) (MaybeAlias ∷ s) ≡ takes_all limit ts s
  named-alias (free Full t) ok s ts = absurd ok
  named-alias (free Left t) ok s ts = absurd ok
  named-alias (free Natural t) ok s ts = absurd ok
  named-alias (free Outer t) ok s ts = absurd ok
  named-alias (free Right t) ok s ts = absurd ok
  named-alias n ok s ts = refl

  pub alias : (a : Alias) (s : List Item) (ts : List Terminal) → Passes MaybeAlias ts → takes_all limit (words_of_alias a ++ ts) (MaybeAlias ∷ s) ≡ takes_all limit ts s
  alias no_alias s ts p = skip MaybeAlias s ts refl p
  alias (bare_alias n ok) s ts p = named-alias n ok s ts
  alias (as_alias k n) s ts p = refl

  pub condition : (w : Where) (s : List Item) (ts : List Terminal) → levels_of_where w + depth_of s ≤ limit → Passes MaybeWhere ts → EndsExpr ts →
      takes_all limit (words_of_where w ++ ts) (MaybeWhere ∷ s) ≡ takes_all limit ts s
  condition no_where s ts low p q = skip MaybeWhere s ts refl p
  condition (where_expr k e) s ts low p q = expr e s ts low q

  shares : (x : Share) (xs : List (Mark × Share)) (m : Mark) (s : List Item) (ts : List Terminal) →
      takes_all limit (words_of_share x ++ (words_of_shares xs ++ t_mark Close m ∷ ts)) (Literal ∷ Digits ∷ MoreShares ∷ s) ≡ takes_all limit ts s
  shares (share l n) [] m s ts = apart (words_of_lit l) (t_number n ∷ []) (t_mark Close m ∷ ts) _ ∙ lit l (Digits ∷ MoreShares ∷ s) (t_number n ∷ t_mark Close m ∷ ts)
  shares (share l n) ((c, x) ∷ xs) m s ts =
      apart (words_of_lit l) (t_number n ∷ []) (words_of_shares ((c, x) ∷ xs) ++ t_mark Close m ∷ ts) _ ∙
      (lit l (Digits ∷ MoreShares ∷ s) (t_number n ∷ (words_of_shares ((c, x) ∷ xs) ++ t_mark Close m ∷ ts)) ∙
      (apart (words_of_share x) (words_of_shares xs) (t_mark Close m ∷ ts) _ ∙ shares x xs m s ts))

  pub common-values : (v : CommonPart) (s : List Item) (ts : List Terminal) → Passes MaybeCommon ts → takes_all limit (words_of_common v ++ ts) (MaybeCommon ∷ s) ≡ takes_all limit ts s
  common-values no_common s ts p = skip MaybeCommon s ts refl p
  common-values (common k o x xs m) s ts p =
      apart (words_of_share x) (words_of_shares xs ++ t_mark Close m ∷ []) ts _ ∙
      (ap (λ l. takes_all limit (words_of_share x ++ l) (Literal ∷ Digits ∷ MoreShares ∷ s)) (append_assoc (words_of_shares xs) (t_mark Close m ∷ []) ts) ∙ shares x xs m s ts)

  pub histograms : (h : Histogram) (s : List Item) (ts : List Terminal) → Passes MaybeHistogram ts → takes_all limit (words_of_histogram h ++ ts) (MaybeHistogram ∷ s) ≡ takes_all limit ts s
  histograms no_histogram s ts p = skip MaybeHistogram s ts refl p
  histograms (histogram k o l ls m) s ts p =
      apart (words_of_lit l) (words_of_bounds ls ++ t_mark Close m ∷ []) ts _ ∙
      (ap (λ x. takes_all limit (words_of_lit l ++ x) (Literal ∷ MoreBounds ∷ s)) (append_assoc (words_of_bounds ls) (t_mark Close m ∷ []) ts) ∙ bounds l ls m s ts)

  pub ending : (e : Ending) → takes_all limit (words_of_ending e) (Ends ∷ []) ≡ true
  ending (semicolon t) = refl
  ending (text_end t) = refl

  pub after-query : (e : Ending) → EndsSelect (words_of_ending e)
  after-query (semicolon t) = record { alias = refl; joins = refl; groups = refl; condition = refl; expr = record { conj = record { atom = refl; ands = refl }; ors = refl } }
  after-query (text_end t) = record { alias = refl; joins = refl; groups = refl; condition = refl; expr = record { conj = record { atom = refl; ands = refl }; ors = refl } }

  pub after-histogram : (e : Ending) → Passes MaybeHistogram (words_of_ending e)
  after-histogram (semicolon t) = refl
  after-histogram (text_end t) = refl

  pub after-common : (h : Histogram) (e : Ending) → Passes MaybeCommon (words_of_histogram h ++ words_of_ending e)
  after-common no_histogram (semicolon t) = refl
  after-common no_histogram (text_end t) = refl
  after-common (histogram k o l ls m) e = refl
