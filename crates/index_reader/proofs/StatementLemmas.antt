-- The tokens of an ADVISE.
use Rattle.std.proofs.Common.{◌≡◌, ℕ, Bool, true, false, List, [], ◌∷◌, ◌++◌, map, drop, Result, Ok, Err, inl, inr, refl, sym, ap, subst, ◌∙◌, arith, append_assoc}
use Rattle.std.proofs.lemmas.List.{drop-map}
use Rattle.pg_base.specs.declared.faults.Fault.{Fault}
use Rattle.sql_lex.specs.declared.tokens.Token.{Token}
use Rattle.sql_grammar.specs.declared.class.Free.TheVariants.{Advise as AdviseWord}
use Rattle.sql_grammar.specs.declared.class.Symbol.TheVariants.{Close}
use Rattle.sql_grammar.specs.Reading.{terminal_of}
use Rattle.sql_grammar.specs.Terminals.{Said, Terminal, free, t_mark, t_name}
use Rattle.sql_grammar.specs.Syntax.{select_from, semicolon, text_end, no_explain, explain, explain_table, ordered_select, index_on, Advise, advise_of, Statement, empty, create_table, create_index, query, copy, sizes, column_statistics, analyze, advise, check, use_plan, unexplained, explained, grouped}
use Rattle.sql_grammar.specs.Words.{words_of, words_of_advise, words_of_advised, words_of_more_advised, words_of_ending}
use Rattle.sql_grammar.specs.Faults.{terminals}
use Rattle.sql_grammar.specs.work.Faults.{IsWhole}
use Rattle.sql_grammar.specs.Spelled.{IsSpelled}
use Rattle.sql_grammar.specs.work.Unique.{token_in}
use Rattle.sql_grammar.proofs.ExprTrees.{tokens-are}
use Rattle.expr_reader.specs.work.Reading.{Begins, BeginsNot}
use Rattle.catalog.specs.Contents.{Contents, NamedIndex}
use Rattle.sql_query.specs.Queries.{Query}
use Rattle.index_reader.specs.AdviseCandidates.{with_room}
use Rattle.index_reader.specs.AdviseMeaning.{Asked, CandidatesMean, AdviseMeans, PartsMean, QueriesMean, most_meant}
use Rattle.index_reader.specs.Parts.{candidates_of, name_token}
use Rattle.index_reader.specs.work.Walk.{QueryRow, Row}
use Rattle.index_reader.proofs.StandLemmas.{behind}
use Rattle.index_reader.specs.work.AdviseStatements.{PartsStand, begins_advise}

-- a statement that begins with ADVISE is one
is-advise : (x : Statement) (ts : List Terminal) → words_of x ≡ ts → begins_advise ts ≡ true → (y : Advise) × (x ≡ advise y)
is-advise (advise y) ts is opens = (y, refl)
is-advise (empty (semicolon t)) ts is opens = let wrong = ap begins_advise is ∙ opens in absurd (cc (wrong))
is-advise (empty (text_end t)) ts is opens = let wrong = ap begins_advise is ∙ opens in absurd (cc (wrong))
is-advise (create_table k t n o c cs m e) ts is opens = let wrong = ap begins_advise is ∙ opens in absurd (cc (wrong))
is-advise (create_index (index_on k i n o t u p x xs m c w e)) ts is opens = let wrong = ap begins_advise is ∙ opens in absurd (cc (wrong))
is-advise (query (ordered_select no_explain (select_from k o os f n a w) y v e)) ts is opens = let wrong = ap begins_advise is ∙ opens in absurd (cc (wrong))
is-advise (query (ordered_select (explain k) q y v e)) ts is opens = let wrong = ap begins_advise is ∙ opens in absurd (cc (wrong))
is-advise (query (ordered_select (explain_table p k a t b) q y v e)) ts is opens = let wrong = ap begins_advise is ∙ opens in absurd (cc (wrong))
is-advise (check p k x e) ts is opens = let wrong = ap begins_advise is ∙ opens in absurd (cc (wrong))
is-advise (use_plan p u k q y e) ts is opens = let wrong = ap begins_advise is ∙ opens in absurd (cc (wrong))
is-advise (grouped p unexplained k q) ts is opens = let wrong = ap begins_advise is ∙ opens in absurd (cc (wrong))
is-advise (grouped p (explained t) k q) ts is opens = let wrong = ap begins_advise is ∙ opens in absurd (cc (wrong))
is-advise (copy k n null) ts is opens = let wrong = ap begins_advise is ∙ opens in absurd (cc (wrong))
is-advise (sizes k n rows pages e) ts is opens = let wrong = ap begins_advise is ∙ opens in absurd (cc (wrong))
is-advise (column_statistics k n c d z m h e) ts is opens = let wrong = ap begins_advise is ∙ opens in absurd (cc (wrong))
is-advise (analyze p k n e) ts is opens = let wrong = ap begins_advise is ∙ opens in absurd (cc (wrong))

-- ADVISE is the first word, or it is not
no-advise : (ts : List Terminal) → BeginsNot (λ token. t_name (free AdviseWord token)) ts → false ≡ begins_advise ts
no-advise [] other = refl
no-advise (t_name (free AdviseWord t) ∷ rest) other = absurd (other rest (t, refl))
no-advise (_ ∷ rest) other = refl

pub begins-by : (b : Bool) (ts old new : List Terminal) → old ≡ ts → (b ≡ true → Begins (λ token. t_name (free AdviseWord token)) old new) → (b ≡ false → BeginsNot (λ token. t_name (free AdviseWord token)) old) → b ≡ begins_advise ts
begins-by true ts old new is took other = let (t, e) = took refl in sym (ap begins_advise (sym is ∙ e))
begins-by false ts old new is took other = no-advise old (other refl) ∙ ap begins_advise is

-- the ADVISE that the tokens spell
pub record Advises (text : List ℕ) (tokens : List Token) : Type 0 where
  pub tree : Advise
  pub spelled : IsSpelled (advise tree) text tokens

pub advises : (text : List ℕ) (tokens : List Token) → IsWhole text tokens → begins_advise (terminals text tokens) ≡ true → Advises text tokens
advises text tokens whole opens =
    let (x, low, words) = whole.statement in
    let (y, is) = is-advise x (terminals text tokens) words opens in
    record { tree = y; spelled = subst (λ z. IsSpelled z text tokens) is (record { words = words; limits = whole.within; levels = low }) }

-- what its parts mean, in turn
abbrev pub InTurn : Contents → Token → List Token → Said → Row → QueryRow → Result Asked Fault → Type 0
InTurn c start tokens n w q = PartsMean c start tokens n (candidates_of w.first w.more) q.queries

-- its parts, and where they stand
pub record Told (text : List ℕ) (tokens : List Token) (y : Advise) : Type 0 where
  pub start : Token
  pub later : List Token
  pub begins : tokens ≡ start ∷ later
  pub number : Said
  pub row : Row
  pub queries : QueryRow
  pub stands : PartsStand text tokens number row queries
  pub means : (c : Contents) (r : Result Asked Fault) → InTurn c start tokens number row queries r → AdviseMeans c tokens y r

pub told : (text : List ℕ) (tokens : List Token) (y : Advise) → IsSpelled (advise y) text tokens → Told text tokens y
told text tokens (advise_of p k n o c cs m x xs e) s =
    let ws = words_of_advise (advise_of p k n o c cs m x xs e) in
    let low = s.levels in
    record {
      start = k;
      later = map token_in (drop 1 ws);
      begins = sym (tokens-are ws text tokens s.words);
      number = n;
      row = record { first = c; more = cs; close = m; rest = words_of_advised x ++ (words_of_more_advised xs ++ words_of_ending e) };
      queries = record { queries = x ∷ xs; ending = e };
      stands = record {
        behind-number = drop 2 ws;
        number = sym (drop-map (terminal_of text) 1 tokens) ∙ sym (ap (drop 1) s.words);
        row = record {
          are = sym (drop-map (terminal_of text) 3 tokens) ∙ sym (ap (drop 3) s.words);
          limits = s.limits;
          levels = omega (arith, low);
        };
        some = omega arith;
        queries = λ end is. record {
          are = behind text tokens end (t_mark Close m ∷ []) (words_of_advised x ++ (words_of_more_advised xs ++ words_of_ending e)) is ∙ sym (append_assoc (words_of_advised x) (words_of_more_advised xs) (words_of_ending e));
          limits = s.limits;
          levels = omega (arith, low);
        };
      };
      means = λ d r h. h;
    }

-- each stage
module _ (c : Contents) (start : Token) (tokens : List Token) (n : Said) (w : Row) (q : QueryRow) where
  pub number-wrong : (f : Fault) → Err f ≡ most_meant n → InTurn c start tokens n w q (Err f)
  number-wrong f wrong = inl (f, wrong, refl)

  pub candidates-wrong : (most : ℕ) (f : Fault) → Ok most ≡ most_meant n → CandidatesMean c start tokens (candidates_of w.first w.more) (Err f) → InTurn c start tokens n w q (Err f)
  candidates-wrong most f is wrong = inr (most, is, inl (f, wrong, refl))

  pub room-wrong : (most : ℕ) (candidates : List NamedIndex) (f : Fault) → Ok most ≡ most_meant n → CandidatesMean c start tokens (candidates_of w.first w.more) (Ok candidates) →
      with_room c [] (map name_token (candidates_of w.first w.more)) candidates ≡ Err f → InTurn c start tokens n w q (Err f)
  room-wrong most candidates f is read wrong = inr (most, is, inr (candidates, read, inl (f, sym wrong, refl)))

  pub queries-wrong : (most : ℕ) (candidates : List NamedIndex) (f : Fault) → Ok most ≡ most_meant n → CandidatesMean c start tokens (candidates_of w.first w.more) (Ok candidates) →
      with_room c [] (map name_token (candidates_of w.first w.more)) candidates ≡ Ok candidates → QueriesMean c start q.queries (Err f) → InTurn c start tokens n w q (Err f)
  queries-wrong most candidates f is read room wrong = inr (most, is, inr (candidates, read, inr (candidates, sym room, inl (f, wrong, refl))))

  pub all-meant : (most : ℕ) (candidates : List NamedIndex) (queries : List Query) → Ok most ≡ most_meant n → CandidatesMean c start tokens (candidates_of w.first w.more) (Ok candidates) →
      with_room c [] (map name_token (candidates_of w.first w.more)) candidates ≡ Ok candidates → QueriesMean c start q.queries (Ok queries) →
      InTurn c start tokens n w q (Ok (record { most = most; candidates = candidates; queries = queries }))
  all-meant most candidates queries is read room meant = inr (most, is, inr (candidates, read, inr (candidates, sym room, inr (queries, meant, refl))))
