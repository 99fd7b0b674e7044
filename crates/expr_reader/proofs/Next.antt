-- The next word of a cursor, by its token.
use Rattle.std.proofs.Common.{◌≡◌, ℕ, List, [], ◌∷◌, drop, get_or, map, Option, refl, sym, ap, ◌∙◌, subst, add-zero}
use Rattle.std.proofs.lemmas.List.{get_or-drop}
use Rattle.std.specs.Char.{to_ascii_lowercase}
use Rattle.sql_lex.specs.declared.tokens.Token.{Token}
use Rattle.sql_grammar.specs.declared.class.Free.{Free}
use Rattle.sql_grammar.specs.declared.class.Class.TheVariants.{Name, Operator as OperatorClass, Quoted}
use Rattle.sql_grammar.specs.Terminals.{Terminal, Ident, token_of}
use Rattle.sql_grammar.specs.work.Terminals.{class_of}
use Rattle.sql_grammar.specs.Reading.{terminal_of, value_of_quoted, bytes_of_token}
use Rattle.sql_grammar.specs.work.Unique.{token_in}
use Rattle.sql_grammar.specs.Faults.{terminals, bytes_of}
use Rattle.sql_grammar.proofs.ExprTrees.{by-token}
use Rattle.expr_reader.specs.declared.cursor.Operator.{Operator}
use Rattle.expr_reader.specs.declared.cursor.Spelled.{Spelled}
use Rattle.expr_reader.specs.Operators.{operator_of}
use Rattle.expr_reader.specs.Reading.{spelled}
use Rattle.expr_reader.specs.work.Reading.{BeginsName, BeginsOperator, BeginsQuoted, operator_said}
use Rattle.expr_reader.proofs.Names.{name-bytes, operator-bytes, quoted-value}

first : (text : List ℕ) (ts : List Token) (d : Token) (word : Terminal) (left : List Terminal) → terminals text ts ≡ word ∷ left → word ≡ terminal_of text (get_or ts 0 d)
first text [] d word left e = absurd (cc)
first text (t ∷ ts) d word left e = cc

here : (tokens : List Token) (at : ℕ) (d : Token) → get_or (drop at tokens) 0 d ≡ get_or tokens at d
here tokens at d = get_or-drop at tokens 0 d ∙ ap (λ k. get_or tokens k d) (add-zero at)

next : (text : List ℕ) (tokens : List Token) (at : ℕ) (d : Token) (now left : List Terminal) (word : Terminal) →
    terminals text (drop at tokens) ≡ now → now ≡ word ∷ left → word ≡ terminal_of text (get_or tokens at d)
next text tokens at d now left word view is =
    subst (λ t. word ≡ terminal_of text t) (here tokens at d) (first text (drop at tokens) d word left (view ∙ is))

says : (s : Spelled) (n : Ident) → bytes_of n ≡ s.bytes → s.token ≡ token_of n → s ≡ spelled n
says s n bytes token = rw (bytes, sym token) refl

pub name-next : (text : List ℕ) (tokens : List Token) (at : ℕ) (d : Token) (now new left : List Terminal) (word : Terminal) (w : Option Free) (s : Spelled) →
    terminals text (drop at tokens) ≡ now → now ≡ word ∷ left → class_of word ≡ Name w → new ≡ drop 1 now →
    s.bytes ≡ map to_ascii_lowercase (bytes_of_token text (get_or tokens at d)) → s.token ≡ get_or tokens at d → BeginsName s now new
name-next text tokens at d now new left word w s view is class skipped value placed =
    let found = next text tokens at d now left word view is in
    let token = get_or tokens at d in
    let (name, spells, stands, named) = name-bytes token.kind (bytes_of_token text token) token w (sym (ap class_of found) ∙ class) in
    let rest : new ≡ left = skipped ∙ ap (drop 1) is in
    (name, says s name (spells ∙ sym value) (placed ∙ sym stands), cc (is, rest, found, named))

pub quoted-next : (text : List ℕ) (tokens : List Token) (at : ℕ) (d : Token) (now new left : List Terminal) (word : Terminal) (s : Spelled) →
    terminals text (drop at tokens) ≡ now → now ≡ word ∷ left → class_of word ≡ Quoted → new ≡ drop 1 now →
    s.bytes ≡ value_of_quoted (bytes_of_token text (get_or tokens at d)) → s.token ≡ get_or tokens at d → BeginsQuoted s now new
quoted-next text tokens at d now new left word s view is class skipped valued placed =
    let found = next text tokens at d now left word view is in
    let token = get_or tokens at d in
    let quoted = quoted-value token.kind (bytes_of_token text token) token (sym (ap class_of found) ∙ class) in
    let rest : new ≡ left = skipped ∙ ap (drop 1) is in
    cc (is, rest, found, quoted, valued, placed)

pub operator-next : (text : List ℕ) (tokens : List Token) (at : ℕ) (d : Token) (now new left : List Terminal) (word : Terminal) (o : Operator) →
    terminals text (drop at tokens) ≡ now → now ≡ word ∷ left → class_of word ≡ OperatorClass → new ≡ drop 1 now →
    o.op ≡ operator_of (bytes_of_token text (get_or tokens at d)) → o.token ≡ get_or tokens at d → BeginsOperator o now new
operator-next text tokens at d now new left word o view is class skipped valued placed =
    let found = next text tokens at d now left word view is in
    let token = get_or tokens at d in
    let bytes = bytes_of_token text token in
    let said = operator-bytes token.kind bytes token (sym (ap class_of found) ∙ class) in
    let rest : new ≡ left = skipped ∙ ap (drop 1) is in
    let same : o ≡ operator_said (record { value = bytes; token = token }) = rw (sym valued, sym placed) refl in
    (record { value = bytes; token = token }, same, cc (is, rest, found, said))

pub token-next : (text : List ℕ) (tokens : List Token) (at : ℕ) (d : Token) (now left : List Terminal) (word : Terminal) →
    terminals text (drop at tokens) ≡ now → now ≡ word ∷ left → get_or tokens at d ≡ token_in word
token-next text tokens at d now left word view is =
    let token = get_or tokens at d in
    sym (ap token_in (next text tokens at d now left word view is) ∙ by-token token.kind (bytes_of_token text token) token)
