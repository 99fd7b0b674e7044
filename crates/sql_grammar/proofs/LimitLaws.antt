-- Which limits a terminal can be past by itself.
use Rattle.std.proofs.Common.{◌≡◌, ℕ, Bool, true, false, ◌<◌, ◌≤◌, List, [], ◌∷◌, length, map, Option, Some, None, refl, sym, ap, ◌∙◌, subst, cond, nat_eq, nat_le}
use Rattle.std.specs.List.{find}
use Rattle.std.specs.Str.{bytes_eq}
use Rattle.std.specs.Char.{to_ascii_lowercase}
use Rattle.std.proofs.lemmas.Bool.{le-leb, lt-leb}
use Rattle.std.proofs.lemmas.List.{length-map}
use Rattle.std.proofs.lemmas.Slice.Eq.{bytes_eq-Decides}
use Rattle.pg_base.specs.declared.faults.Limit.{Limit}
use Rattle.pg_base.specs.declared.faults.Limit.TheVariants.{Text, Name, Depth}
use Rattle.pg_base.specs.declared.limits.TheConstants.{MOST_LEVELS, MOST_NAME_BYTES, MOST_TEXT_BYTES}
use Rattle.sql_lex.specs.declared.tokens.Token.{Token}
use Rattle.sql_lex.specs.declared.tokens.Kind.{Kind}
use Rattle.sql_lex.specs.declared.tokens.Kind.TheVariants.{Word as WordKind}
use Rattle.sql_grammar.specs.declared.table.Item.{Item}
use Rattle.sql_grammar.specs.declared.class.Word.{Word}
use Rattle.sql_grammar.specs.declared.class.Word.TheVariants.{And, As, Asc, Create, Cross, Desc, False, From, Group, Inner, Is, Join, Limit as LimitWord, Not, Null, Offset, On, Or, Order, Select, Table, True, Using, Where, With}
use Rattle.sql_grammar.specs.declared.class.Free.{Free}
use Rattle.sql_grammar.specs.Terminals.{Terminal, t_name, t_quoted}
use Rattle.sql_grammar.specs.work.Terminals.{class_of}
use Rattle.sql_grammar.specs.Reading.{spelling_of, free_spelling_of, reserved_words, free_words, reserved_of, free_of, ident_of, terminal_by, word_terminal, symbol_terminal}
use Rattle.sql_grammar.specs.work.Machine.{step_of}
use Rattle.sql_grammar.specs.Faults.{bytes_of, limit_of}
use Rattle.sql_grammar.specs.work.Walk.{StopsBy}
use Rattle.pg_base.specs.declared.faults.Code.TheVariants.{S15}

never-by : (b : Bool) (l : Limit) → ¬ (Some l ≡ Some Depth) → cond b None (Some l) ≡ Some Depth → ⊥
never-by true l other e = absurd (cc)
never-by false l other e = other e

never-depth : (t : Terminal) → limit_of t ≡ Some Depth → ⊥
never-depth (t_name n) e = never-by (nat_le (length (bytes_of n)) MOST_NAME_BYTES) Name (λ f. absurd (cc)) e
never-depth (t_quoted v) e = never-by (nat_le (length v.value) MOST_TEXT_BYTES) Text (λ f. absurd (cc)) e
never-depth _ e = absurd (cc)

-- a terminal that is awaited and past a limit stops the walk
pub past-limit : (t : Terminal) (s n : List Item) (limit : Limit) → step_of MOST_LEVELS (class_of t) s ≡ Some n → limit_of t ≡ Some limit → StopsBy (S15 limit) t s
past-limit t s n Depth step is = absurd (never-depth t is)
past-limit t s n _ step is = ((n, step), is)

-- what a search finds passes
module _ (W : Type 0) (p : W → Bool) where
  found-by : (b : Bool) (x y : W) (rest : Option W) → p y ≡ b → (rest ≡ Some x → p x ≡ true) → cond b (Some y) rest ≡ Some x → p x ≡ true
  found-by true x y rest is more e = let same : y ≡ x = cc in subst (λ z. p z ≡ true) same is
  found-by false x y rest is more e = more e

  found : (ws : List W) (x : W) → find p ws ≡ Some x → p x ≡ true
  found [] x e = absurd (cc)
  found (y ∷ ws) x e = found-by (p y) x y (find p ws) refl (found ws x) e

-- no reserved word is so long as a name may be
short-word : (w : Word) → nat_le (length (spelling_of w)) MOST_NAME_BYTES ≡ true
short-word And = refl
short-word As = refl
short-word Asc = refl
short-word Create = refl
short-word Cross = refl
short-word Desc = refl
short-word False = refl
short-word From = refl
short-word Group = refl
short-word Inner = refl
short-word Is = refl
short-word Join = refl
short-word LimitWord = refl
short-word Not = refl
short-word Null = refl
short-word Offset = refl
short-word On = refl
short-word Or = refl
short-word Order = refl
short-word Select = refl
short-word Table = refl
short-word True = refl
short-word Using = refl
short-word Where = refl
short-word With = refl

pub named-by : (o : Option Free) (small : List ℕ) (t : Token) → free_of small ≡ o → bytes_of (ident_of o small t) ≡ small
named-by (Some w) small t is = sym ((bytes_eq-Decides small (free_spelling_of w)).0 (found Free (λ v. bytes_eq small (free_spelling_of v)) free_words w is))
named-by None small t is = refl

word-by : (o : Option Word) (small : List ℕ) (t : Token) → reserved_of small ≡ o → limit_of (word_terminal o small t) ≡ cond (nat_le (length small) MOST_NAME_BYTES) None (Some Name)
word-by (Some w) small t is =
    let spelled = (bytes_eq-Decides small (spelling_of w)).0 (found Word (λ v. bytes_eq small (spelling_of v)) reserved_words w is) in
    let short : nat_le (length small) MOST_NAME_BYTES ≡ true = ap (λ bs. nat_le (length bs) MOST_NAME_BYTES) spelled ∙ short-word w in
    rw short refl
word-by None small t is = ap (λ bs. cond (nat_le (length bs) MOST_NAME_BYTES) None (Some Name)) (named-by (free_of small) small t refl)

-- a word is past a limit where it is longer than a name may be
pub word-limit : (small : List ℕ) (t : Token) → limit_of (word_terminal (reserved_of small) small t) ≡ cond (nat_le (length small) MOST_NAME_BYTES) None (Some Name)
word-limit small t = word-by (reserved_of small) small t refl

-- a word's bytes are counted, capital letters or not
counted : (kind : Kind) (bytes : List ℕ) (t : Token) → kind ≡ WordKind → limit_of (terminal_by kind bytes t) ≡ cond (nat_le (length bytes) MOST_NAME_BYTES) None (Some Name)
counted kind bytes t is =
    ap (λ k. limit_of (terminal_by k bytes t)) is ∙ (word-limit (map to_ascii_lowercase bytes) t ∙ ap (λ n. cond (nat_le n MOST_NAME_BYTES) None (Some Name)) (length-map bytes to_ascii_lowercase))

-- a word of more bytes than a name may have is past that limit
pub long-word : (kind : Kind) (bytes : List ℕ) (t : Token) → kind ≡ WordKind → MOST_NAME_BYTES < length bytes → limit_of (terminal_by kind bytes t) ≡ Some Name
long-word kind bytes t is long = counted kind bytes t is ∙ ap (λ b. cond b None (Some Name)) (lt-leb _ _ long)

-- any other word is past no limit
pub brief-word : (kind : Kind) (bytes : List ℕ) (t : Token) → kind ≡ WordKind → length bytes ≤ MOST_NAME_BYTES → limit_of (terminal_by kind bytes t) ≡ None
brief-word kind bytes t is brief = counted kind bytes t is ∙ ap (λ b. cond b None (Some Name)) (le-leb _ _ brief)

either : (b : Bool) (x y : Terminal) → limit_of x ≡ None → limit_of y ≡ None → limit_of (cond b x y) ≡ None
either true x y h k = h
either false x y h k = k

-- no symbol is past a limit
pub symbol-limit : (bytes : List ℕ) (t : Token) → limit_of (symbol_terminal bytes t) ≡ None
symbol-limit [] t = refl
symbol-limit (b ∷ []) t =
    either (nat_eq b 40) _ _ refl (either (nat_eq b 41) _ _ refl (either (nat_eq b 44) _ _ refl (either (nat_eq b 46) _ _ refl
    (either (nat_eq b 45) _ _ refl (either (nat_eq b 42) _ _ refl (either (nat_eq b 59) _ _ refl refl))))))
symbol-limit (b ∷ c ∷ bs) t = refl
