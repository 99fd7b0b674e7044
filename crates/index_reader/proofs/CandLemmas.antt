-- CREATE INDEX behind its first two words.
use Rattle.std.proofs.Common.{◌≡◌, ◌-◌, ◌<◌, ◌≤◌, ℕ, List, [], ◌∷◌, ◌++◌, length, drop, take, get_or, Result, sym, ap, ◌∙◌, subst, arith}
use Rattle.std.proofs.lemmas.List.{drop-map, length-drop, length-map, length-take}
use Rattle.std.proofs.Math.Nat.{min-le_left}
use Rattle.pg_base.specs.declared.faults.Fault.{Fault}
use Rattle.pg_base.specs.declared.faults.Refusal.{Refusal}
use Rattle.sql_lex.specs.declared.tokens.Token.{Token}
use Rattle.sql_grammar.specs.declared.class.Symbol.TheVariants.{Close, Open}
use Rattle.sql_grammar.specs.declared.class.Word.TheVariants.{On}
use Rattle.sql_grammar.specs.Reading.{terminal_of}
use Rattle.sql_grammar.specs.Terminals.{t_key, t_mark, t_name}
use Rattle.sql_grammar.specs.Syntax.{Ending, Cand, cand_on, CreateIndex, index_on, create_index}
use Rattle.sql_grammar.specs.Words.{words_of_cand, words_of_ending, words_of_include, words_of_index, words_of_key, words_of_keys, words_of_using, words_of_where}
use Rattle.sql_grammar.specs.Faults.{AreWithinLimits, terminals}
use Rattle.sql_grammar.specs.work.Faults.{EndsAt, IsCand}
use Rattle.sql_grammar.specs.Spelled.{IsSpelled}
use Rattle.sql_grammar.proofs.ExprTrees.{tokens-are}
use Rattle.sql_grammar.proofs.IndexComplete.{cand-words}
use Rattle.catalog.specs.Contents.{Contents}
use Rattle.expr_reader.specs.work.Reads.{Reads}
use Rattle.query_reader.proofs.ReadingLemmas.{some-token}
use Rattle.query_reader.proofs.PlaceLemmas.{front-of, one-end, slice-is}
use Rattle.index_reader.specs.work.Candidates.{cand_of, HaveCand, IsCandAt}
use Rattle.index_reader.specs.declared.index.ReadIndex.{ReadIndex}
use Rattle.index_reader.specs.Meaning.{IndexMeant, meaning_of_index, meaning_of_cand}
use Rattle.index_reader.specs.work.Reads.{index_meant}

-- its words, with its end, and its first word
pub record Behind (y : CreateIndex) (text : List ℕ) (tokens : List Token) : Type 0 where
  pub ending : Ending
  pub words : words_of_cand (cand_of y) ++ words_of_ending ending ≡ drop 2 (words_of_index y)
  pub means : (cat : Contents) (start : Token) (later : List Token) → tokens ≡ start ∷ later → meaning_of_cand cat start (cand_of y) ≡ meaning_of_index cat y

pub behind-two : (y : CreateIndex) (text : List ℕ) (tokens : List Token) → words_of_index y ≡ terminals text tokens → Behind y text tokens
behind-two (index_on k i n o t u p x xs m c w e) text tokens is = record {
  ending = e;
  words = ap (λ l. t_name n ∷ t_key On o ∷ t_name t ∷ l) (cand-words (words_of_using u) (words_of_key x) (words_of_keys xs) (words_of_include c) (words_of_where w) (words_of_ending e) (t_mark Open p) (t_mark Close m));
  means = λ cat start later begins.
      let all = tokens-are (words_of_index (index_on k i n o t u p x xs m c w e)) text tokens is ∙ begins in
      let first : k ≡ start = ap (λ (ts : List Token). get_or ts 0 k) all in
      ap (λ (s : Token). meaning_of_cand cat s (cand_on n o t u p x xs m c w)) (sym first);
}

-- a candidate stands behind the first two tokens of CREATE INDEX, up to the last one
pub cand-behind : (y : CreateIndex) (text : List ℕ) (tokens : List Token) (end : ℕ) → IsSpelled (create_index y) text tokens → end ≡ length tokens - 1 → IsCandAt text tokens 2 end (cand_of y)
cand-behind y text tokens end s at =
    let b = behind-two y text tokens s.words in
    let (t, one, ends) = one-end b.ending in
    record {
      within = omega (arith, at);
      words = front-of (terminal_of text) tokens 2 end (words_of_cand (cand_of y)) t (ap (λ l. words_of_cand (cand_of y) ++ l) (sym one) ∙ (b.words ∙ (ap (drop 2) s.words ∙ drop-map (terminal_of text) 2 tokens))) at;
      limits = s.limits;
    }

-- what is read of it is what CREATE INDEX means
pub index-told : (cat : Contents) (text : List ℕ) (tokens : List Token) (y : CreateIndex) (end : ℕ) (r : Result ReadIndex Refusal) → IsSpelled (create_index y) text tokens → 0 < length tokens → end ≡ length tokens - 1 →
    ((x : Cand) (start : Token) (later : List Token) → tokens ≡ start ∷ later → IsCandAt text tokens 2 end x → Reads index_meant (meaning_of_cand cat start x) [] r []) → Reads index_meant (meaning_of_index cat y) [] r []
index-told cat text tokens y end r s some at told =
    let (start, later, whole) = some-token tokens some in
    subst (λ (m : Result IndexMeant Fault). Reads index_meant m [] r []) ((behind-two y text tokens s.words).means cat start later whole) (told (cand_of y) start later whole (cand-behind y text tokens end s at))

-- a candidate whose end is found stands up to it
pub cand-that-ends : (text : List ℕ) (tokens : List Token) (first end : ℕ) → AreWithinLimits (terminals text tokens) → EndsAt IsCand text tokens first end → HaveCand text tokens first end
cand-that-ends text tokens first end within at =
    let (x, levels, words) = at.whole in
    let slice = slice-is tokens at.before at.after at.token first end at.split at.place in
    (x, record { within = slice.1; words = words ∙ ap (terminals text) (sym slice.0); limits = within })

-- a candidate has a word at least
pub some-words : (x : Cand) → 0 < length (words_of_cand x)
some-words (cand_on n o t u p x xs m c w) = omega arith

pub cand-goes-on : (text : List ℕ) (tokens : List Token) (first end : ℕ) → HaveCand text tokens first end → (first < end) × (end ≤ length tokens)
cand-goes-on text tokens first end (x, at) =
    let some = some-words x in
    let many = ap length at.words ∙ (length-map (drop first (take end tokens)) (terminal_of text) ∙ (length-drop first (take end tokens) ∙ ap (λ (n : ℕ). n - first) (length-take end tokens))) in
    (omega (arith, some, many, min-le_left end (length tokens)), at.within)
