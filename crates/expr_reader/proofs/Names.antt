-- The bytes of a name in small letters.
use Rattle.std.proofs.Common.{◌≡◌, ℕ, Bool, true, false, List, [], ◌∷◌, map, Option, Some, None, refl, sym, subst, cond, nat_eq}
use Rattle.std.specs.List.{find}
use Rattle.std.specs.Str.{bytes_eq}
use Rattle.std.specs.Char.{to_ascii_lowercase}
use Rattle.std.proofs.lemmas.Slice.Eq.{bytes_eq-Decides}
use Rattle.sql_lex.specs.declared.tokens.Token.{Token}
use Rattle.sql_lex.specs.declared.tokens.Kind.{Kind}
use Rattle.sql_lex.specs.declared.tokens.Kind.TheVariants.{Word as WordKind, Number as NumberKind, Quoted as QuotedKind, Symbol as SymbolKind, End as EndKind}
use Rattle.sql_grammar.specs.declared.class.Word.{Word}
use Rattle.sql_grammar.specs.declared.class.Free.{Free}
use Rattle.sql_grammar.specs.declared.class.Class.{Class}
use Rattle.sql_grammar.specs.declared.class.Class.TheVariants.{Name, Operator, Quoted}
use Rattle.sql_grammar.specs.Terminals.{Terminal, Ident, token_of, t_name, t_operator, t_quoted}
use Rattle.sql_grammar.specs.work.Terminals.{class_of}
use Rattle.sql_grammar.specs.Reading.{free_spelling_of, free_words, reserved_of, free_of, ident_of, word_terminal, symbol_terminal, mark_of, terminal_by, value_of_quoted}
use Rattle.sql_grammar.specs.Faults.{bytes_of}
use Rattle.sql_grammar.proofs.LimitLaws.{named-by}
use Rattle.sql_grammar.proofs.ExprTrees.{named-token as placed-by}

module _ (W : Type 0) (p : W → Bool) where
  found-by : (b : Bool) (x y : W) (rest : Option W) → p y ≡ b → (rest ≡ Some x → p x ≡ true) → cond b (Some y) rest ≡ Some x → p x ≡ true
  found-by true x y rest is more e = let same : y ≡ x = cc in subst (λ z. p z ≡ true) same is
  found-by false x y rest is more e = more e

  found : (ws : List W) (x : W) → find p ws ≡ Some x → p x ≡ true
  found [] x e = absurd (cc)
  found (y ∷ ws) x e = found-by (p y) x y (find p ws) refl (found ws x) e

-- a terminal that is a name, its bytes and its token
abbrev pub IsNameOf : Terminal → List ℕ → Token → Type 0
IsNameOf word bytes t = (name : Ident) × (bytes_of name ≡ bytes) × (token_of name ≡ t) × (word ≡ t_name name)

word-name : (o : Option Word) (small : List ℕ) (t : Token) (w : Option Free) → class_of (word_terminal o small t) ≡ Name w → IsNameOf (word_terminal o small t) small t
word-name (Some k) small t w is = absurd (cc)
word-name None small t w is = (ident_of (free_of small) small t, named-by (free_of small) small t refl, placed-by (free_of small) small t, refl)

-- no symbol is of this class
either-not : (b : Bool) (x y : Terminal) (c : Class) → (class_of x ≡ c → ⊥) → (class_of y ≡ c → ⊥) → class_of (cond b x y) ≡ c → ⊥
either-not true x y c h k = h
either-not false x y c h k = k

mark-no-name : (b : ℕ) (t : Token) (w : Option Free) → class_of (mark_of b t) ≡ Name w → ⊥
mark-no-name b t w =
    either-not (nat_eq b 40) _ _ _ (λ e. absurd (cc)) (either-not (nat_eq b 41) _ _ _ (λ e. absurd (cc)) (either-not (nat_eq b 44) _ _ _ (λ e. absurd (cc)) (either-not (nat_eq b 46) _ _ _ (λ e. absurd (cc))
    (either-not (nat_eq b 45) _ _ _ (λ e. absurd (cc)) (either-not (nat_eq b 42) _ _ _ (λ e. absurd (cc)) (either-not (nat_eq b 59) _ _ _ (λ e. absurd (cc)) (λ e. absurd (cc))))))))

mark-no-quoted : (b : ℕ) (t : Token) → class_of (mark_of b t) ≡ Quoted → ⊥
mark-no-quoted b t =
    either-not (nat_eq b 40) _ _ _ (λ e. absurd (cc)) (either-not (nat_eq b 41) _ _ _ (λ e. absurd (cc)) (either-not (nat_eq b 44) _ _ _ (λ e. absurd (cc)) (either-not (nat_eq b 46) _ _ _ (λ e. absurd (cc))
    (either-not (nat_eq b 45) _ _ _ (λ e. absurd (cc)) (either-not (nat_eq b 42) _ _ _ (λ e. absurd (cc)) (either-not (nat_eq b 59) _ _ _ (λ e. absurd (cc)) (λ e. absurd (cc))))))))

pub symbol-name : (bytes : List ℕ) (t : Token) (w : Option Free) → class_of (symbol_terminal bytes t) ≡ Name w → ⊥
symbol-name [] t w e = absurd (cc)
symbol-name (b ∷ []) t w e = mark-no-name b t w e
symbol-name (b ∷ c ∷ bs) t w e = absurd (cc)

symbol-quoted : (bytes : List ℕ) (t : Token) → class_of (symbol_terminal bytes t) ≡ Quoted → ⊥
symbol-quoted [] t e = absurd (cc)
symbol-quoted (b ∷ []) t e = mark-no-quoted b t e
symbol-quoted (b ∷ c ∷ bs) t e = absurd (cc)

-- a word of the class of names is the name of its bytes in small letters
pub name-bytes : (kind : Kind) (bytes : List ℕ) (t : Token) (w : Option Free) → class_of (terminal_by kind bytes t) ≡ Name w → IsNameOf (terminal_by kind bytes t) (map to_ascii_lowercase bytes) t
name-bytes WordKind bytes t w is = word-name (reserved_of (map to_ascii_lowercase bytes)) (map to_ascii_lowercase bytes) t w is
name-bytes NumberKind bytes t w is = absurd (cc)
name-bytes QuotedKind bytes t w is = absurd (cc)
name-bytes SymbolKind bytes t w is = absurd (symbol-name bytes t w is)
name-bytes EndKind bytes t w is = absurd (cc)

word-quoted : (o : Option Word) (small : List ℕ) (t : Token) → class_of (word_terminal o small t) ≡ Quoted → ⊥
word-quoted (Some k) small t is = absurd (cc)
word-quoted None small t is = absurd (cc)

-- a word of the class of quoted texts is that of its value
pub quoted-value : (kind : Kind) (bytes : List ℕ) (t : Token) → class_of (terminal_by kind bytes t) ≡ Quoted → terminal_by kind bytes t ≡ t_quoted (record { value = value_of_quoted bytes; token = t })
quoted-value WordKind bytes t is = absurd (word-quoted (reserved_of (map to_ascii_lowercase bytes)) (map to_ascii_lowercase bytes) t is)
quoted-value NumberKind bytes t is = absurd (cc)
quoted-value QuotedKind bytes t is = refl
quoted-value SymbolKind bytes t is = absurd (symbol-quoted bytes t is)
quoted-value EndKind bytes t is = absurd (cc)

word-operator : (o : Option Word) (small : List ℕ) (t : Token) → class_of (word_terminal o small t) ≡ Operator → ⊥
word-operator (Some k) small t is = absurd (cc)
word-operator None small t is = absurd (cc)

-- a choice of which one side is no operator
not-left : (b : Bool) (x y z : Terminal) → (class_of x ≡ Operator → ⊥) → (class_of y ≡ Operator → y ≡ z) → class_of (cond b x y) ≡ Operator → cond b x y ≡ z
not-left true x y z h k is = absurd (h is)
not-left false x y z h k is = k is

mark-operator : (b : ℕ) (t : Token) → class_of (mark_of b t) ≡ Operator → mark_of b t ≡ t_operator (record { value = b ∷ []; token = t })
mark-operator b t =
    not-left (nat_eq b 40) _ _ _ (λ e. absurd (cc)) (not-left (nat_eq b 41) _ _ _ (λ e. absurd (cc)) (not-left (nat_eq b 44) _ _ _ (λ e. absurd (cc)) (not-left (nat_eq b 46) _ _ _ (λ e. absurd (cc))
    (not-left (nat_eq b 45) _ _ _ (λ e. absurd (cc)) (not-left (nat_eq b 42) _ _ _ (λ e. absurd (cc)) (not-left (nat_eq b 59) _ _ _ (λ e. absurd (cc)) (λ e. refl)))))))

symbol-operator : (bytes : List ℕ) (t : Token) → class_of (symbol_terminal bytes t) ≡ Operator → symbol_terminal bytes t ≡ t_operator (record { value = bytes; token = t })
symbol-operator [] t is = refl
symbol-operator (b ∷ []) t is = mark-operator b t is
symbol-operator (b ∷ c ∷ bs) t is = refl

-- a word of the class of operators is that of its bytes
pub operator-bytes : (kind : Kind) (bytes : List ℕ) (t : Token) → class_of (terminal_by kind bytes t) ≡ Operator → terminal_by kind bytes t ≡ t_operator (record { value = bytes; token = t })
operator-bytes WordKind bytes t is = absurd (word-operator (reserved_of (map to_ascii_lowercase bytes)) (map to_ascii_lowercase bytes) t is)
operator-bytes NumberKind bytes t is = absurd (cc)
operator-bytes QuotedKind bytes t is = absurd (cc)
operator-bytes SymbolKind bytes t is = symbol-operator bytes t is
operator-bytes EndKind bytes t is = absurd (cc)
