-- The names among the words of a statement, within the limits, are names of the catalogue.
use Rattle.std.proofs.Common.{◌≡◌, ℕ, ◌≤◌, Bool, true, false, List, [], ◌∷◌, ◌&&◌, length, map, drop, MatchBool, Some, None, refl, sym, ap, ◌∙◌, subst, arith, cond, nat_le, All, zero, suc}
use Rattle.std.specs.List.{list_all, Contains}
use Rattle.std.specs.Char.{to_ascii_lowercase}
use Rattle.std.proofs.lemmas.Bool.Decides.{nat_tests}
use Rattle.std.proofs.lemmas.List.Elements.{All-nil, All-cons, All-tail, All-drop}
use Rattle.pg_base.specs.declared.faults.Limit.TheVariants.{Name as NameLimit}
use Rattle.sql_lex.specs.declared.tokens.Kind.{Kind}
use Rattle.sql_lex.specs.declared.tokens.Kind.TheVariants.{Word as WordKind, Number as NumberKind, Quoted as QuotedKind, Symbol as SymbolKind, End as EndKind}
use Rattle.sql_lex.specs.declared.tokens.Token.{Token}
use Rattle.sql_lex.specs.Letters.{begins_word, is_in_word}
use Rattle.sql_lex.specs.Forms.{IsWord, IsToken}
use Rattle.sql_lex.specs.Words.{AreWords, is_last}
use Rattle.sql_grammar.specs.Terminals.{Terminal, Ident, t_name}
use Rattle.sql_grammar.specs.work.Terminals.{place_of, class_of}
use Rattle.sql_grammar.specs.Reading.{terminal_by, terminal_of, bytes_of_token}
use Rattle.sql_grammar.specs.Faults.{bytes_of, limit_of, terminals, AreWithinLimits}
use Rattle.pg_base.specs.Names.{IsName, begins_name, is_in_name}
use Rattle.expr_reader.proofs.Names.{name-bytes, symbol-name}

-- the letters of a word in small letters
begins-small : (b : ℕ) → begins_word b ≡ true → begins_name (to_ascii_lowercase b) ≡ true
begins-small b is = grind (arith, nat_tests)

in-small : (b : ℕ) → is_in_word b ≡ true → is_in_name (to_ascii_lowercase b) ≡ true
in-small b is = grind (arith, nat_tests)

both-true : (a b : Bool) → a && b ≡ true → (a ≡ true) × (b ≡ true)
both-true true b is = (refl, is)
both-true false b is = absurd (cc)

small-word : (bs : List ℕ) → list_all is_in_word bs ≡ true → list_all is_in_name (map to_ascii_lowercase bs) ≡ true
small-word [] is = refl
small-word (b ∷ bs) is = let parts = both-true (is_in_word b) (list_all is_in_word bs) is in rw (in-small b parts.0) (small-word bs parts.1)

word-name : (bytes : List ℕ) → IsWord bytes → length (map to_ascii_lowercase bytes) ≤ 63 → IsName (map to_ascii_lowercase bytes)
word-name [] w le = absurd w
word-name (b ∷ bs) w le = (begins-small b w.0, small-word bs w.1, le)

short-by : (n : ℕ) (b : Bool) → nat_le n 63 ≡ b → cond b None (Some NameLimit) ≡ None → n ≤ 63
short-by n true is none = grind (arith, nat_tests)
short-by n false is none = absurd (cc (none))

-- a word that is a name, and its bytes in small letters
spelled-name : (bytes : List ℕ) (n : Ident) → IsWord bytes → bytes_of n ≡ map to_ascii_lowercase bytes → limit_of (t_name n) ≡ None → IsName (bytes_of n)
spelled-name bytes n form spells within =
    let short = short-by (length (bytes_of n)) (nat_le (length (bytes_of n)) 63) refl within in
    subst IsName (sym spells) (word-name bytes form (subst (λ (b : List ℕ). length b ≤ 63) spells short))

token-name : (kind : Kind) (bytes rest : List ℕ) (t : Token) (n : Ident) → IsToken kind bytes rest → terminal_by kind bytes t ≡ t_name n → limit_of (t_name n) ≡ None → IsName (bytes_of n)
token-name WordKind bytes rest t n form is within =
    let (name, spelled, placed, named) = name-bytes WordKind bytes t (place_of n) (ap class_of is) in
    let same : name ≡ n = cc (named, is) in
    spelled-name bytes n form.0 (sym (ap bytes_of same) ∙ spelled) within
token-name NumberKind bytes rest t n form is within = absurd (cc (is))
token-name QuotedKind bytes rest t n form is within = absurd (cc (is))
token-name SymbolKind bytes rest t n form is within = absurd (symbol-name bytes t (place_of n) (ap class_of is))
token-name EndKind bytes rest t n form is within = absurd (cc (is))

-- each token has a form
abbrev pub Formed : List ℕ → Token → Type 0
Formed text t = (rest : List ℕ) × IsToken t.kind (bytes_of_token text t) rest

formed-by : (text : List ℕ) (t : Token) (ts : List Token) (b : Bool) → ((from : ℕ) → AreWords text from ts → All (Formed text) ts) → MatchBool b (ts ≡ []) (AreWords text t.end ts) → All (Formed text) ts
formed-by text t ts true more w = subst (All (Formed text)) (sym w) (All-nil (Formed text))
formed-by text t ts false more w = more t.end w

pub formed : (text : List ℕ) (from : ℕ) (ts : List Token) → AreWords text from ts → All (Formed text) ts
formed text from [] w = absurd w
formed text from (t ∷ ts) w = All-cons (Formed text) t ts (drop t.end text, w.0.form) (formed-by text t ts (is_last text t) (λ f. formed text f ts) w.1)

-- each name among some words is a name of the catalogue
abbrev pub AreNamed : List Terminal → Type 0
AreNamed [] = Unit {0}
AreNamed (w ∷ ws) = ((n : Ident) → w ≡ t_name n → IsName (bytes_of n)) × AreNamed ws

named : (text : List ℕ) (ts : List Token) → All (Formed text) ts → AreWithinLimits (terminals text ts) → AreNamed (terminals text ts)
named text [] form within = tt
named text (t ∷ ts) form within = (
  λ n is. let f = form 0 t (omega arith) in token-name t.kind (bytes_of_token text t) f.0 t n f.1 is (subst (λ w. limit_of w ≡ None) is (within 0 (terminal_of text t) (omega arith))),
  named text ts (All-tail (Formed text) t ts form) (All-tail (λ w. limit_of w ≡ None) (terminal_of text t) (terminals text ts) within),
)

pub named-from : (text : List ℕ) (from : ℕ) (ts : List Token) (first : ℕ) → AreWords text from ts → AreWithinLimits (terminals text (drop first ts)) → AreNamed (terminals text (drop first ts))
named-from text from ts first w within = named text (drop first ts) (All-drop (Formed text) first ts (formed text from ts w)) within

-- one of them
pub name-among : (ws : List Terminal) (n : Ident) → AreNamed ws → Contains ws (t_name n) → IsName (bytes_of n)
name-among [] n h (k, lt, is) = absurd (omega (arith, lt))
name-among (w ∷ ws) n h (zero, lt, is) = h.0 n is
name-among (w ∷ ws) n h (suc k, lt, is) = name-among ws n h.1 (k, omega (arith, lt), is)
