-- The queries of an ADVISE are well bound.
use Rattle.std.proofs.Common.{◌≡◌, ℕ, Bool, true, false, cond, List, [], ◌∷◌, ◌++◌, All, length, map, append_assoc, Result, Ok, Err, inl, inr, refl, sym, ap, subst}
use Rattle.std.proofs.lemmas.List.Elements.{All-append, All-cons, All-nil}
use Rattle.pg_base.specs.declared.faults.Fault.{Fault}
use Rattle.catalog.specs.Contents.{Contents, IsLawful, NamedIndex}
use Rattle.eq_classes.specs.Holding.{IsClassTable}
use Rattle.expr_reader.proofs.Named.{AreNamed}
use Rattle.sql_lex.specs.declared.tokens.Token.{Token}
use Rattle.sql_grammar.specs.Syntax.{Cand, Advise, Advised, advise_of, advised}
use Rattle.sql_grammar.specs.Terminals.{Terminal}
use Rattle.sql_grammar.specs.Words.{words_of_advise, words_of_advised, words_of_cand, words_of_cands, words_of_ending, words_of_more_advised}
use Rattle.sql_query.specs.Queries.{Query}
use Rattle.sql_query.specs.WellBound.{IsWellBound, given_of}
use Rattle.query_reader.specs.Binding.{Bound, bound_part, query_with}
use Rattle.query_reader.proofs.AliasLemmas.{after-words, before-words}
use Rattle.index_reader.specs.AdviseCandidates.{with_room}
use Rattle.index_reader.specs.AdviseMeaning.{AdviseMeans, Asked, CandidatesMean, QueriesMean, most_meant}
use Rattle.index_reader.specs.Parts.{candidates_of, name_token, select_in}
use Rattle.index_reader.specs.Queries.{IsQueryOf, QueryMeans, query_bound}
use Rattle.index_reader.specs.Stages.{AreRead, Then}
use Rattle.statements.specs.Accepted.{HaveClasses}
use Rattle.world_laws.proofs.BoundLemmas.{part-bound}

-- one step after another that comes to something
record Stepped {A B : Type 0} (First : Result A Fault → Type 0) (Next : A → Result B Fault → Type 0) (b : B) : Type 0 where
  value : A
  first : First (Ok value)
  next : Next value (Ok b)

stepped : {A B : Type 0} (First : Result A Fault → Type 0) (Next : A → Result B Fault → Type 0) (b : B) → Then A B First Next (Ok b) → Stepped First Next b
stepped First Next b (inl h) = absurd (cc (h.2))
stepped First Next b (inr h) = record { value = h.0; first = h.1; next = h.2 }

-- a query whose classes are its own is well bound
abbrev IsBoundByClasses : Contents → Query → Type 0
IsBoundByClasses c q = IsClassTable (given_of c q) q.classes → IsWellBound c q

module _ (c : Contents) (lawful : IsLawful c) (start : Token) where
  room-meant : (b : Bool) (m : Result Bound Fault) (f : Fault) (meant : Bound) → cond b m (Err f) ≡ Ok meant → m ≡ Ok meant
  room-meant true m f meant is = is
  room-meant false m f meant is = absurd (cc (is))

  of-meant : (x : Advised) (y : Query) (meant : Bound) (rest : List Terminal) → AreNamed (words_of_advised x ++ rest) → bound_part c start (select_in x) ≡ Ok meant → y ≡ query_with y.classes meant → IsBoundByClasses c y
  of-meant (advised o s m) y meant rest named means is own =
      let words = before-words _ rest (named.1) in
      let bound = part-bound c lawful start s _ meant words means y.classes (subst (λ (z : Query). IsClassTable (given_of c z) y.classes) is own) in
      subst (IsWellBound c) (sym is) bound.well_bound

  one-bound : (x : Advised) (y : Query) (rest : List Terminal) (r : Result Bound Fault) → AreNamed (words_of_advised x ++ rest) → ((meant : Bound) → r ≡ Ok meant → bound_part c start (select_in x) ≡ Ok meant) → IsQueryOf r (Ok y) → IsBoundByClasses c y
  one-bound x y rest (Ok meant) named means is = of-meant x y meant rest named (means meant refl) is
  one-bound x y rest (Err f) named means is = absurd is

  each-bound : (xs : List Advised) (earlier out : List Query) (rest : List Terminal) → AreNamed (words_of_more_advised xs ++ rest) → All (IsBoundByClasses c) earlier → AreRead Advised Query (QueryMeans c start) earlier xs (Ok out) →
      All (IsBoundByClasses c) out
  each-bound [] earlier out rest named done read = let same : earlier ≡ out = cc (read) in subst (All (IsBoundByClasses c)) same done
  each-bound (x ∷ xs) earlier out rest named done read =
      let s = stepped (QueryMeans c start earlier x) (λ y. AreRead Advised Query (QueryMeans c start) (earlier ++ y ∷ []) xs) out read in
      let words = subst AreNamed (append_assoc (words_of_advised x) (words_of_more_advised xs) rest) named in
      let here = one-bound x s.value _ (query_bound c start (length earlier) x) words (λ meant is. room-meant _ (bound_part c start (select_in x)) _ meant is) s.first in
      each-bound xs (earlier ++ s.value ∷ []) out rest (after-words (words_of_advised x) _ words)
      (All-append (IsBoundByClasses c) earlier (s.value ∷ []) done (All-cons (IsBoundByClasses c) s.value [] here (All-nil (IsBoundByClasses c)))) s.next

-- what ADVISE means behind its number, its candidates, and the room that these find
abbrev AfterRoom : Contents → Token → List Advised → ℕ → List NamedIndex → Result Asked Fault → Type 0
AfterRoom c start qs most all = Then (List Query) Asked (QueriesMean c start qs) (λ queries r. r ≡ Ok (record { most = most; candidates = all; queries = queries }))

abbrev AfterCandidates : Contents → Token → List Cand → List Advised → ℕ → List NamedIndex → Result Asked Fault → Type 0
AfterCandidates c start xs qs most candidates = Then (List NamedIndex) Asked (λ r. r ≡ with_room c [] (map name_token xs) candidates) (AfterRoom c start qs most)

abbrev AfterNumber : Contents → Token → List Token → List Cand → List Advised → ℕ → Result Asked Fault → Type 0
AfterNumber c start tokens xs qs most = Then (List NamedIndex) Asked (CandidatesMean c start tokens xs) (AfterCandidates c start xs qs most)

-- the queries that ADVISE asks of are well bound to a lawful catalogue
pub advise-bound : (c : Contents) (tokens : List Token) (x : Advise) (a : Asked) → IsLawful c → AreNamed (words_of_advise x) → AdviseMeans c tokens x (Ok a) → HaveClasses c a.queries → All (IsWellBound c) a.queries
advise-bound c tokens (advise_of p start n o y ys m x xs e) a lawful named means have =
    let cands = candidates_of y ys in
    let most = stepped (λ (r : Result ℕ Fault). r ≡ most_meant n) (AfterNumber c start tokens cands (x ∷ xs)) a means in
    let candidates = stepped (CandidatesMean c start tokens cands) (AfterCandidates c start cands (x ∷ xs) most.value) a most.next in
    let all = stepped (λ (r : Result (List NamedIndex) Fault). r ≡ with_room c [] (map name_token cands) candidates.value) (AfterRoom c start (x ∷ xs) most.value) a candidates.next in
    let queries = stepped (QueriesMean c start (x ∷ xs)) (λ (qs : List Query) (r : Result Asked Fault). r ≡ Ok (record { most = most.value; candidates = all.value; queries = qs })) a all.next in
    let both : a ≡ record { most = most.value; candidates = all.value; queries = queries.value } = cc (queries.next) in
    let same : queries.value ≡ a.queries = sym (ap (λ (z : Asked). z.queries) both) in
    let behind = after-words (words_of_cands ys) _ (after-words (words_of_cand y) _ (named.1.1.1)) in
    let words = subst AreNamed (sym (append_assoc (words_of_advised x) (words_of_more_advised xs) (words_of_ending e))) behind.1 in
    let each = subst (All (IsBoundByClasses c)) same (each-bound c lawful start (x ∷ xs) [] queries.value (words_of_ending e) words (All-nil (IsBoundByClasses c)) queries.first) in
    λ k d lt. each k d lt (have k d lt)
