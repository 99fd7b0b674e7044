-- From the words of a statement to the query that they say.
use Rattle.std.proofs.Common.{◌≡◌, ◌<◌, length, arith, inr, true, ℕ, zero, suc, List, [], ◌∷◌, ◌++◌, Result, Ok, Err, refl, sym, ap, subst, ◌∙◌, drop, get_or, append_assoc, append-nil, take}
use Rattle.std.proofs.lemmas.List.{drop-map, take-map}
use Rattle.pg_base.specs.declared.faults.Fault.{Fault}
use Rattle.pg_base.specs.declared.faults.Refusal.{Refusal}
use Rattle.pg_base.specs.declared.faults.Refusal.TheVariants as refusal
use Rattle.sql_lex.specs.declared.tokens.Token.{Token}
use Rattle.sql_grammar.specs.Terminals.{Terminal, t_key, t_semicolon, t_end}
use Rattle.sql_grammar.specs.declared.class.Word.TheVariants.{From, Limit as LimitKey, Offset as OffsetKey}
use Rattle.sql_grammar.specs.Syntax.{Key, Mark, Output, Group, Where, select_from, OrderBy, no_order, order_by, no_limit, most_rows, no_offset, skipped_rows, WindowTree, window, WindowedSelect, windowed_select}
use Rattle.sql_grammar.specs.Words.{words_of_output, words_of_outputs, words_of_group, words_of_groups, words_of_where, words_of_order, words_of_window, words_of_windowed}
use Rattle.sql_grammar.specs.Reading.{terminal_of}
use Rattle.sql_grammar.specs.Faults.{terminals}
use Rattle.expr_reader.proofs.Named.{AreNamed}
use Rattle.catalog.specs.Contents.{Contents}
use Rattle.sql_query.specs.Queries.{Query}
use Rattle.sql_grammar.specs.FromParts.{groups_after}
use Rattle.query_reader.specs.Written.{item_of, items_of}
use Rattle.query_reader.specs.Binding.{Bound, bound_from, bound_part}
use Rattle.query_reader.specs.work.Ends.{ends_where, ends_order, ends_window}
use Rattle.query_reader.specs.work.Select.{AreWithSelectAt, IsBoundAs, IsGrammatical}
use Rattle.query_reader.specs.work.Parts.{IsPartAt}
use Rattle.sql_grammar.proofs.GroupRules.{list-words as regroup}

-- the names among what is left of some words
left-named : (n : ℕ) (ts : List Terminal) → AreNamed ts → AreNamed (drop n ts)
left-named zero ts h = h
left-named (suc n) [] h = tt
left-named (suc n) (w ∷ ws) h = left-named n ws h.1

taken-named : (n : ℕ) (ts : List Terminal) → AreNamed ts → AreNamed (take n ts)
taken-named zero ts h = tt
taken-named (suc n) [] h = tt
taken-named (suc n) (w ∷ ws) h = (h.0, taken-named n ws h.1)

-- what stands behind FROM
abbrev pub behind : Where → OrderBy → WindowTree → List Terminal
behind w y v = words_of_where w ++ (words_of_order y ++ (words_of_window v ++ []))

-- the parts of a SELECT whose words are left after SELECT
pub record Parted (x : WindowedSelect) (left : List Terminal) : Type 0 where
  pub first : Output
  pub more : List (Mark × Output)
  pub from_at : Key
  pub group : Group
  pub groups : List (Mark × Group)
  pub condition : Where
  pub order : OrderBy
  pub window : WindowTree
  pub split : left ≡ words_of_output first ++ (words_of_outputs more ++ t_key From from_at ∷ (words_of_group group ++ (words_of_groups groups ++ behind condition order window)))
  pub means : (c : Contents) (start : Token) → bound_from c start (item_of first ∷ items_of more) (group ∷ groups_after groups) condition order window ≡ bound_part c start x

parted : (x : WindowedSelect) (ts : List Terminal) → words_of_windowed x ≡ ts → Parted x (drop 1 ts)
parted (windowed_select (select_from k o os f g gs w) y v) ts is = record {
  first = o;
  more = os;
  from_at = f;
  group = g;
  groups = gs;
  condition = w;
  order = y;
  window = v;
  split = sym (ap (drop 1) is) ∙ (regroup (words_of_output o) (words_of_outputs os) (words_of_group g) (words_of_groups gs) (words_of_where w) (words_of_order y ++ words_of_window v) (t_key From f) ∙
      ap (λ l. words_of_output o ++ (words_of_outputs os ++ t_key From f ∷ (words_of_group g ++ (words_of_groups gs ++ (words_of_where w ++ (words_of_order y ++ l)))))) (sym (append-nil (words_of_window v))));
  means = λ c start. refl;
}

-- what is left after SELECT of the tokens between two numbers
pub tree : (text : List ℕ) (tokens : List Token) (first end : ℕ) (x : WindowedSelect) → IsPartAt text tokens first end x → (old left : List Terminal) → old ≡ terminals text (drop first (take end tokens)) → left ≡ drop 1 old → Parted x left
tree text tokens first end x at old left is skipped = subst (Parted x) (sym (skipped ∙ ap (drop 1) is)) (parted x (terminals text (drop first (take end tokens))) at.words)

between : (text : List ℕ) (tokens : List Token) (first end : ℕ) → terminals text (drop first (take end tokens)) ≡ drop first (take end (terminals text tokens))
between text tokens first end = sym (drop-map (terminal_of text) first (take end tokens)) ∙ ap (drop first) (sym (take-map (terminal_of text) end tokens))

-- the names among the tokens between two numbers
pub named-between : (text : List ℕ) (tokens : List Token) (first end : ℕ) → AreNamed (terminals text tokens) → AreNamed (terminals text (drop first (take end tokens)))
named-between text tokens first end named = subst AreNamed (sym (between text tokens first end)) (left-named first (take end (terminals text tokens)) (taken-named end (terminals text tokens) named))

-- the names among what is left are named
pub words-named : (text : List ℕ) (tokens : List Token) (first end : ℕ) (old left : List Terminal) → old ≡ terminals text (drop first (take end tokens)) → left ≡ drop 1 old → AreNamed (terminals text tokens) → AreNamed left
words-named text tokens first end old left is skipped named =
    subst AreNamed (sym (skipped ∙ ap (drop 1) is)) (left-named 1 (terminals text (drop first (take end tokens))) (named-between text tokens first end named))

-- what stands behind WHERE goes on no condition, and what stands behind ORDER BY is a window
pub ends-where : (y : OrderBy) (rest : List Terminal) → ends_order rest ≡ true → ends_where (words_of_order y ++ rest) ≡ true
ends-where no_order [] ends = refl
ends-where no_order (t_key LimitKey t ∷ rest) ends = refl
ends-where no_order (t_key OffsetKey t ∷ rest) ends = refl
ends-where no_order (t_semicolon t ∷ rest) ends = refl
ends-where no_order (t_end t ∷ rest) ends = refl
ends-where no_order _ ends = absurd (cc (ends))
ends-where (order_by k b o os) rest ends = refl

pub ends-order : (v : WindowTree) (rest : List Terminal) → ends_window rest ≡ true → ends_order (words_of_window v ++ rest) ≡ true
ends-order (window (most_rows p k n) o) rest ends = refl
ends-order (window no_limit (skipped_rows p k n)) rest ends = refl
ends-order (window no_limit no_offset) [] ends = refl
ends-order (window no_limit no_offset) (t_semicolon t ∷ rest) ends = refl
ends-order (window no_limit no_offset) (t_end t ∷ rest) ends = refl
ends-order (window no_limit no_offset) _ ends = absurd (cc (ends))

-- a SELECT may be read and may be refused
pub grammatical : (text : List ℕ) (tokens : List Token) (first : ℕ) (r : Result Query Refusal) → AreWithSelectAt text tokens first → IsGrammatical text tokens first r
grammatical text tokens first (Ok p) s = s
grammatical text tokens first (Err (refusal.Fault f)) s = inr (inr s)
grammatical text tokens first (Err refusal.Memory) s = s

pub read-as-memory : (x : Result Bound Fault) → IsBoundAs x (Err refusal.Memory)
read-as-memory (Ok p) = tt
read-as-memory (Err f) = tt

-- what holds at the first token of a list that is given
pub at-start : (P : Token → Type 0) (tokens given later : List Token) (start d : Token) → given ≡ tokens → tokens ≡ start ∷ later → P (get_or given 0 d) → P start
at-start P tokens given later start d same is h = subst P (ap (λ ts. get_or ts 0 d) (same ∙ is)) h

pub some-token : (tokens : List Token) → 0 < length tokens → (start : Token) × (later : List Token) × (tokens ≡ start ∷ later)
some-token [] some = absurd (omega (arith, some))
some-token (t ∷ ts) some = (t, ts, refl)
