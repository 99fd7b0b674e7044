-- What the words of a tree tell of it (own).
use Rattle.std.specs.Prelude.{◌≡◌, ℕ, ◌+◌, ◌≤◌, Bool, true, false, List, [], ◌∷◌, ◌++◌, length, map, drop, Result, Ok}
use Rattle.pg_base.specs.declared.faults.Fault.{Fault}
use Rattle.pg_base.specs.declared.limits.TheConstants.{MOST_LEVELS}
use Rattle.sql_lex.specs.declared.tokens.Token.{Token}
use Rattle.sql_grammar.specs.declared.class.Free.TheVariants.{Between, In}
use Rattle.sql_grammar.specs.declared.class.Word.TheVariants.{And, Is, Not, Null, Or}
use Rattle.sql_grammar.specs.declared.class.Symbol.TheVariants.{Close, Comma, Dot, Open}
use Rattle.sql_grammar.specs.Terminals.{Terminal, free, token_of, t_key, t_mark, t_name, t_number, t_quoted, t_operator, t_semicolon, t_end}
use Rattle.sql_grammar.specs.Syntax.{unknown, constant, OperandTree, column, literal, Atom, parens, compare, is_null, is_not_null, in_list, between, column_alone, constant_alone}
use Rattle.sql_grammar.specs.Words.{words_of_bounds, words_of_lit, words_of_negated, words_of_operand}
use Rattle.sql_grammar.specs.Faults.{Production, terminals, AreWithinLimits}
use Rattle.sql_grammar.specs.work.Faults.{IsPartEnd}

-- the token of a terminal
abbrev pub token_in : Terminal → Token
token_in (t_key w t) = t
token_in (t_mark s t) = t
token_in (t_name n) = token_of n
token_in (t_number n) = n.token
token_in (t_quoted q) = q.token
token_in (t_operator o) = o.token
token_in (t_semicolon t) = t
token_in (t_end t) = t

-- the next word, where there is one, goes on no column before it: it is no dot
abbrev pub ends_col : List Terminal → Bool
ends_col (t_mark Dot _ ∷ _) = false
ends_col _ = true

-- the next word, where there is one, goes on no operand before it: it is no dot and no quoted text
abbrev pub ends_operand : List Terminal → Bool
ends_operand (t_mark Dot _ ∷ _) = false
ends_operand (t_quoted _ ∷ _) = false
ends_operand _ = true

-- the next word, where there is one, goes on no atom before it: it is no dot, quoted text, IS, NOT, IN, BETWEEN or operator
abbrev pub ends_atom : List Terminal → Bool
ends_atom (t_mark Dot _ ∷ _) = false
ends_atom (t_quoted _ ∷ _) = false
ends_atom (t_key Not _ ∷ _) = false
ends_atom (t_name (free In _) ∷ _) = false
ends_atom (t_name (free Between _) ∷ _) = false
ends_atom (t_key Is _ ∷ _) = false
ends_atom (t_operator _ ∷ _) = false
ends_atom _ = true

-- the next word, where there is one, goes on no conjunction before it: it is no dot, quoted text, IS, NOT, IN, BETWEEN, operator or AND
abbrev pub ends_conj : List Terminal → Bool
ends_conj (t_mark Dot _ ∷ _) = false
ends_conj (t_quoted _ ∷ _) = false
ends_conj (t_key Not _ ∷ _) = false
ends_conj (t_name (free In _) ∷ _) = false
ends_conj (t_name (free Between _) ∷ _) = false
ends_conj (t_key Is _ ∷ _) = false
ends_conj (t_operator _ ∷ _) = false
ends_conj (t_key And _ ∷ _) = false
ends_conj _ = true

-- the next word, where there is one, goes on no expression before it: it is no dot, quoted text, operator, IS, NOT, IN, BETWEEN, AND or OR
abbrev pub ends_expr : List Terminal → Bool
ends_expr (t_mark Dot _ ∷ _) = false
ends_expr (t_quoted _ ∷ _) = false
ends_expr (t_key Not _ ∷ _) = false
ends_expr (t_name (free In _) ∷ _) = false
ends_expr (t_name (free Between _) ∷ _) = false
ends_expr (t_operator _ ∷ _) = false
ends_expr (t_key Is _ ∷ _) = false
ends_expr (t_key And _ ∷ _) = false
ends_expr (t_key Or _ ∷ _) = false
ends_expr _ = true

-- `)`, a statement's end or nothing is next: no SELECT with its order and its window goes on so
abbrev pub ends_windowed : List Terminal → Bool
ends_windowed [] = true
ends_windowed (t_mark Close _ ∷ _) = true
ends_windowed (t_semicolon _ ∷ _) = true
ends_windowed (t_end _ ∷ _) = true
ends_windowed _ = false

-- `,`, `)`, a statement's end or nothing is next: no candidate for an index goes on so
abbrev pub ends_cand : List Terminal → Bool
ends_cand [] = true
ends_cand (t_mark Comma _ ∷ _) = true
ends_cand (t_mark Close _ ∷ _) = true
ends_cand (t_semicolon _ ∷ _) = true
ends_cand (t_end _ ∷ _) = true
ends_cand _ = false

-- an atom is an expression in parentheses; any other one is an operand and what follows it
abbrev pub is_parens : Atom → Bool
is_parens (parens o e c) = true
is_parens _ = false

-- the operand with which an atom without parentheses begins; of one in parentheses it is never asked
abbrev pub front : Atom → OperandTree
front (parens o e c) = literal (constant unknown o)
front (compare l op r) = l
front (is_null c i k) = column c
front (is_not_null c i n k) = column c
front (in_list u c n w o l ls m) = column c
front (between u l n w a k b) = l
front (column_alone c) = column c
front (constant_alone c k) = literal (constant c k)

-- the words after its operand, before others
abbrev pub tail : Atom → List Terminal → List Terminal
tail (parens o e c) x = x
tail (compare l op r) x = t_operator op ∷ (words_of_operand r ++ x)
tail (is_null c i k) x = t_key Is i ∷ t_key Null k ∷ x
tail (is_not_null c i n k) x = t_key Is i ∷ t_key Not n ∷ t_key Null k ∷ x
tail (in_list u c n w o l ls m) x = words_of_negated n ++ t_name (free In w) ∷ t_mark Open o ∷ (words_of_lit l ++ (words_of_bounds ls ++ t_mark Close m ∷ x))
tail (between u l n w a k b) x = words_of_negated n ++ t_name (free Between w) ∷ (words_of_operand a ++ t_key And k ∷ (words_of_operand b ++ x))
tail (column_alone c) x = x
tail (constant_alone c k) x = x

-- where these words are those of some tokens, their tokens are these
abbrev pub HaveTheirTokens : List Terminal → Type 0
HaveTheirTokens words = (text : List ℕ) (ts : List Token) → words ≡ terminals text ts → map token_in words ≡ ts

-- a list of terminals begins with one tree at most that no further word goes on
abbrev pub IsOneAhead : {Tree : Type 0} → (Tree → List Terminal) → (List Terminal → Bool) → Type 0
IsOneAhead {Tree} words ends = (a b : Tree) (x y : List Terminal) → ends x ≡ true → ends y ≡ true → words a ++ x ≡ words b ++ y → (a ≡ b) × (x ≡ y)

-- where tokens begin with the words of a tree, within the limits, and the next word does not go on, the part's end is there
abbrev pub HasItsEnd : {Tree : Type 0} → Production → (List Terminal → Bool) → (Tree → List Terminal) → (Tree → ℕ) → Type 0
HasItsEnd {Tree} Of ends words levels =
    (a : Tree) (next : Terminal) (x : List Terminal) (text : List ℕ) (ts : List Token) (first : ℕ) (r : Result ℕ Fault) → terminals text (drop first ts) ≡ words a ++ next ∷ x →
    ends (next ∷ x) ≡ true → AreWithinLimits (words a) → levels a ≤ MOST_LEVELS → IsPartEnd Of text ts first r → r ≡ Ok (first + length (words a))
