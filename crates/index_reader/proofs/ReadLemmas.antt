-- From what is told of the parts of ADVISE to what is told of the whole.
use Rattle.std.proofs.Common.{◌≡◌, ◌<◌, ◌≤◌, ◌+◌, ◌∙◌, ◌∷◌, ◌++◌, ℕ, List, [], length, map, Result, Ok, Err, IfErr, IfOk, inl, inr, sym, ap, subst, arith, length-append}
use Rattle.std.specs.Result.{IsErrAnd}
use Rattle.pg_base.specs.declared.faults.Fault.{Fault}
use Rattle.pg_base.specs.declared.faults.Refusal.{Refusal}
use Rattle.pg_base.specs.declared.faults.Refusal.TheVariants as refusal
use Rattle.pg_base.specs.declared.limits.TheConstants.{MOST_CANDIDATES}
use Rattle.sql_lex.specs.declared.tokens.Token.{Token}
use Rattle.sql_grammar.specs.Syntax.{Advised}
use Rattle.sql_grammar.specs.Terminals.{Said}
use Rattle.catalog.specs.Contents.{Contents, NamedIndex}
use Rattle.sql_query.specs.Queries.{Query}
use Rattle.catalog.specs.Candidates.{with_candidates}
use Rattle.index_reader.specs.declared.advising.Advising.{Advising}
use Rattle.index_reader.specs.declared.candidates.AllRead.{AllRead}
use Rattle.index_reader.specs.AdviseCandidates.{with_room}
use Rattle.index_reader.specs.AdviseMeaning.{CandidatesMean, QueriesMean, most_meant}
use Rattle.index_reader.specs.Parts.{candidates_of, name_token}
use Rattle.index_reader.specs.Queries.{QueryMeans}
use Rattle.index_reader.specs.work.AdviseSoundness.{IsSound}
use Rattle.index_reader.specs.Stages.{AreRead}
use Rattle.index_reader.specs.work.AdviseStatements.{IsAdviseMeaning, IsAdviseRefusal, PartsStand, TellsParts, advice_asked}
use Rattle.index_reader.specs.work.Walk.{AreApart, ArePlannable, HaveRoom, QueryRow, Row, TellsCandidates, TellsQueries}
use Rattle.index_reader.proofs.StandLemmas.{ends-within}
use Rattle.query_reader.proofs.ReadingLemmas.{some-token}
use Rattle.index_reader.proofs.StatementLemmas.{Advises, InTurn, Told, told}

-- as many are read as are left
many-read : (A B : Type 0) (Means : List B → A → Result B Fault → Type 0) (earlier : List B) (xs : List A) (r : List B) → AreRead A B Means earlier xs (Ok r) → length r ≡ length earlier + length xs
many-read A B Means earlier [] r is = let same : r ≡ earlier = cc (is) in let many = ap length same in omega (arith, many)
many-read A B Means earlier (x ∷ xs) r (inl (f, wrong, is)) = absurd (cc (is))
many-read A B Means earlier (x ∷ xs) r (inr (y, is, more)) =
    let many = many-read A B Means (earlier ++ y ∷ []) xs r more in
    let one = length-append earlier (y ∷ []) in
    omega (arith, many, one)

-- a statement with a number has a first token
pub first-there : (text : List ℕ) (tokens : List Token) (n : Said) (w : Row) (q : QueryRow) → PartsStand text tokens n w q → (start : Token) × (later : List Token) × (tokens ≡ start ∷ later)
first-there text tokens n w q p = let lt = ends-within text tokens 1 [] _ _ p.number in some-token tokens (omega (arith, lt))

-- what is told of the parts
module _ (c : Contents) (start : Token) (text : List ℕ) (tokens : List Token) (n : Said) (w : Row) (q : QueryRow) where
  pub parts-stopped : (e : Refusal) (r : Result Advising Refusal) → ((f : Fault) → e ≡ refusal.Fault f → InTurn c start tokens n w q (Err f)) → IsErrAnd r (λ d. d ≡ e) → TellsParts c start tokens n w q r
  parts-stopped e (Ok a) on told = absurd told
  parts-stopped e (Err (refusal.Fault f)) on told = on f (sym told)
  parts-stopped e (Err refusal.Memory) on told = tt

  -- where the candidates end
  pub end-inside : (read : AllRead) → TellsCandidates c start text tokens w (Ok read) → read.end < length tokens
  end-inside read is = let lt = ends-within text tokens read.end [] _ _ is.2 in omega (arith, lt)

  -- the room of those that are named
  pub room-of : (read : AllRead) (names : List Token) (candidates : List NamedIndex) (r : Result (List NamedIndex) Fault) → names ≡ read.names.items → candidates ≡ read.candidates.items → TellsCandidates c start text tokens w (Ok read) →
      with_room c [] names candidates ≡ r → with_room c [] (map name_token (candidates_of w.first w.more)) read.candidates.items ≡ r
  room-of read names candidates r same-names same is room =
      ap (λ (l : List Token). with_room c [] l read.candidates.items) (sym (same-names ∙ is.1)) ∙ (ap (λ (l : List NamedIndex). with_room c [] names l) (sym same) ∙ room)

  pub all-room-of : (read : AllRead) (names : List Token) (candidates : List NamedIndex) → names ≡ read.names.items → candidates ≡ read.candidates.items → TellsCandidates c start text tokens w (Ok read) →
      with_room c [] names candidates ≡ Ok candidates → with_room c [] (map name_token (candidates_of w.first w.more)) read.candidates.items ≡ Ok read.candidates.items
  all-room-of read names candidates same-names same is room = room-of read names candidates (Ok candidates) same-names same is room ∙ ap (λ (l : List NamedIndex). Ok l) same

  -- the fault of the number
  pub number-fault : (f g : Fault) → refusal.Fault f ≡ refusal.Fault g → Err f ≡ most_meant n → Err g ≡ most_meant n
  number-fault f g is told = let same : f ≡ g = cc (is) in sym (ap (λ (h : Fault). Err h) same) ∙ told

  -- the fault of the candidates, and of the SELECTs
  pub candidates-fault : (e : Refusal) (f : Fault) → e ≡ refusal.Fault f → TellsCandidates c start text tokens w (Err e) → CandidatesMean c start tokens (candidates_of w.first w.more) (Err f)
  candidates-fault e f is told = subst (λ (d : Refusal). TellsCandidates c start text tokens w (Err d)) is told

  pub queries-fault : (e : Refusal) (f : Fault) → e ≡ refusal.Fault f → TellsQueries c start q (Err e) → QueriesMean c start q.queries (Err f)
  queries-fault e f is told = subst (λ (d : Refusal). TellsQueries c start q (Err d)) is told

  -- what is read may be priced
  pub sound-as : (most : ℕ) (candidates : List NamedIndex) (queries : List Query) → PartsStand text tokens n w q → most ≤ MOST_CANDIDATES → AreApart c candidates → HaveRoom (with_candidates c candidates) → ArePlannable c queries →
      QueriesMean c start q.queries (Ok queries) → IsSound c (record { most = most; candidates = candidates; queries = queries })
  sound-as most candidates queries p few apart room plannable meant = record {
    most = few;
    candidates = record { few = apart.few; each = apart.each; apart = apart.apart; room = room };
    some = let many = many-read Advised Query (QueryMeans c start) [] q.queries queries meant in let some = p.some in omega (arith, many, some);
    few = plannable.few;
    bound = plannable.bound;
    classes = plannable.classes;
  }

-- what is told of the whole
module _ (c : Contents) (text : List ℕ) (tokens : List Token) (t : Advises text tokens) where
  abbrev pub its : Told text tokens t.tree
  its = told text tokens t.tree t.spelled

  pub read-as : (r : Result Advising Refusal) → TellsParts c its.start tokens its.number its.row its.queries r → IfOk r (λ a. IsAdviseMeaning c text tokens (Ok (advice_asked a)))
  read-as (Ok a) is = record { statement = t.tree; spelled = t.spelled; means = its.means c (Ok (advice_asked a)) is }
  read-as (Err e) is = tt

  pub refused-as : (r : Result Advising Refusal) → TellsParts c its.start tokens its.number its.row its.queries r → IfErr r (IsAdviseRefusal c text tokens)
  refused-as (Ok a) is = tt
  refused-as (Err (refusal.Fault f)) is = inr (record { statement = t.tree; spelled = t.spelled; means = its.means c (Err f) is })
  refused-as (Err refusal.Memory) is = (t.tree, t.spelled)
