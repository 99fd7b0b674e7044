-- ADVISE means one thing, but for the tables of classes of its queries, which are given.
use Rattle.std.proofs.Common.{◌≡◌, ◌+◌, ℕ, List, [], ◌∷◌, ◌++◌, length, map, inl, inr, refl, sym, ap, subst, ◌∙◌, arith, Some, Result, Ok, Err}
use Rattle.std.specs.Prelude.{slice_index_or}
use Rattle.std.proofs.lemmas.Bool.{both_ways}
use Rattle.std.proofs.lemmas.List.Elements.{All-pop}
use Rattle.std.proofs.lemmas.List.{length-append}
use Rattle.pg_base.specs.declared.faults.Code.TheVariants.{S6}
use Rattle.pg_base.specs.declared.faults.Fault.{Fault}
use Rattle.sql_lex.specs.declared.tokens.Token.{Token}
use Rattle.sql_grammar.specs.Syntax.{Cand, Advised, Advise, advise_of}
use Rattle.catalog.specs.Contents.{Contents, NamedIndex}
use Rattle.catalog.specs.Indexes.{columns_of, has_form}
use Rattle.eq_classes.specs.Clauses.{ClassTable}
use Rattle.eq_classes.specs.Holding.{IsClassTable}
use Rattle.eq_classes.proofs.UniqueLemmas.{table_one}
use Rattle.catalog.specs.Candidates.{with_candidates}
use Rattle.index_prices.specs.Replies.{HasNoAdviceFor, IsReplyTo}
use Rattle.index_reader.specs.Meaning.{IndexMeant}
use Rattle.query_reader.specs.Binding.{Bound, query_with}
use Rattle.sql_query.specs.Queries.{Query}
use Rattle.sql_query.specs.WellBound.{given_of}
use Rattle.index_reader.specs.AdviseCandidates.{CandidateMeans, IsAllowed, IsNotAllowed, MayBeMade, candidate_read, formless, repeated, taken, with_room}
use Rattle.index_reader.specs.AdviseMeaning.{Asked, CandidatesMean, AdviseMeans, QueriesMean, most_meant}
use Rattle.index_reader.specs.Parts.{candidates_of, name_token}
use Rattle.index_reader.specs.Places.{word_fault}
use Rattle.index_reader.specs.Queries.{IsQueryOf, QueryMeans, query_bound}
use Rattle.index_reader.specs.Stages.{AreRead, Then}
use Rattle.statements.specs.Accepted.{HaveClasses}
use Rattle.statements.proofs.OneIndexLemmas.{one_twice, twice}

-- a reading has one outcome
abbrev pub HasOne : {A : Type 0} → (Result A Fault → Type 0) → Type 0
HasOne {A} First = (r s : Result A Fault) → First r → First s → r ≡ s

err-one : {A : Type 0} (f g : Fault) → ◌≡◌ {A = Result A Fault} (Err f) (Err g) → f ≡ g
err-one f g e = cc

ok-one : {A : Type 0} (x y : A) → ◌≡◌ {A = Result A Fault} (Ok x) (Ok y) → x ≡ y
ok-one x y e = cc

ok-err : {A : Type 0} (x : A) (f : Fault) → ◌≡◌ {A = Result A Fault} (Ok x) (Err f) → ⊥
ok-err x f e = cc

one-value : {A : Type 0} (x : Result A Fault) → HasOne (λ r. r ≡ x)
one-value x r s h k = h ∙ sym k

-- two readings, the one after the other
then-one : (A B : Type 0) (First : Result A Fault → Type 0) (Next : A → Result B Fault → Type 0) → HasOne First → ((x : A) → HasOne (Next x)) → HasOne (Then A B First Next)
then-one A B First Next one next r s (inl (f, h, i)) (inl (g, k, j)) = i ∙ ap Err (err-one f g (one (Err f) (Err g) h k)) ∙ sym j
then-one A B First Next one next r s (inl (f, h, i)) (inr (y, k, j)) = absurd (ok-err y f (one (Ok y) (Err f) k h))
then-one A B First Next one next r s (inr (x, h, i)) (inl (g, k, j)) = absurd (ok-err x g (one (Ok x) (Err g) h k))
then-one A B First Next one next r s (inr (x, h, i)) (inr (y, k, j)) =
    next x r s i (subst (λ (z : A). Next z s) (sym (ok-one x y (one (Ok x) (Ok y) h k))) j)

read-one : (A B : Type 0) (M : List B → A → Result B Fault → Type 0) → ((earlier : List B) (x : A) → HasOne (M earlier x)) → (earlier : List B) (xs : List A) → HasOne (AreRead A B M earlier xs)
read-one A B M one earlier [] = one-value (Ok earlier)
read-one A B M one earlier (x ∷ xs) =
    then-one B (List B) (M earlier x) (λ y. AreRead A B M (earlier ++ y ∷ []) xs) (one earlier x) (λ y. read-one A B M one (earlier ++ y ∷ []) xs)

module _ (c : Contents) (tokens : List Token) (read : IndexMeant) where
  -- a candidate may not be made for one reason
  one-cause : (f g : Fault) → IsNotAllowed c tokens read f → IsNotAllowed c tokens read g → f ≡ g
  one-cause f g (taken h i) (taken k j) = i ∙ sym j
  one-cause f g (taken h i) (repeated q k l j) = absurd (k h)
  one-cause f g (taken h i) (formless k l m j) = absurd (k h)
  one-cause f g (repeated p h m i) (taken k j) = absurd (h k)
  one-cause f g (repeated p h m i) (repeated q k l j) =
      i ∙ (ap (λ (n : ℕ). word_fault S6 tokens (slice_index_or read.at (n + 1) 0)) (one_twice (columns_of read.index) p q m l) ∙ sym j)
  one-cause f g (repeated p h m i) (formless k l n j) = absurd (twice (columns_of read.index) p m l)
  one-cause f g (formless h m n i) (taken k j) = absurd (h k)
  one-cause f g (formless h m n i) (repeated q k l j) = absurd (twice (columns_of read.index) q l m)
  one-cause f g (formless h m n i) (formless k l o j) = i ∙ sym j

  no-cause : (f : Fault) → IsAllowed c read → IsNotAllowed c tokens read f → ⊥
  no-cause f a (taken h i) = a.free h
  no-cause f a (repeated p h m i) = twice (columns_of read.index) p m a.distinct
  no-cause f a (formless h m n i) = both_ways (has_form read.index) n a.form

  made-one : HasOne (MayBeMade c tokens read)
  made-one (Ok x) (Ok y) h k = ap Ok (h.1 ∙ sym k.1)
  made-one (Ok x) (Err g) h k = absurd (no-cause g h.0 k)
  made-one (Err f) (Ok y) h k = absurd (no-cause f k.0 h)
  made-one (Err f) (Err g) h k = ap Err (one-cause f g h k)

-- a query of what is meant
abbrev Alike : Contents → Result (List Query) Fault → Result (List Query) Fault → Type 0
Alike c (Ok a) (Ok b) = HaveClasses c a → HaveClasses c b → a ≡ b
Alike c (Err f) (Err g) = f ≡ g
Alike c _ _ = ⊥

module _ (c : Contents) (start : Token) where
  candidates-one : (tokens : List Token) (xs : List Cand) → HasOne (CandidatesMean c start tokens xs)
  candidates-one tokens xs =
      read-one Cand NamedIndex (CandidateMeans c start tokens)
      (λ earlier x. then-one IndexMeant NamedIndex _ _ (one-value (candidate_read c start (length earlier) x)) (λ r. made-one (with_candidates c earlier) tokens r))
      [] xs

  same-query : (meant : Result Bound Fault) (p q : Query) → IsQueryOf meant (Ok p) → IsQueryOf meant (Ok q) → IsClassTable (given_of c p) p.classes → IsClassTable (given_of c q) q.classes → p ≡ q
  same-query (Err f) p q h k i j = absurd h
  same-query (Ok b) p q h k i j =
      let first : IsClassTable (given_of c (query_with p.classes b)) p.classes = subst (λ (x : Query). IsClassTable (given_of c x) p.classes) h i in
      let second : IsClassTable (given_of c (query_with q.classes b)) q.classes = subst (λ (x : Query). IsClassTable (given_of c x) q.classes) k j in
      h ∙ (ap (λ (t : ClassTable). query_with t b) (table_one (given_of c (query_with p.classes b)) p.classes q.classes first second) ∙ sym k)

  same-fault : (meant : Result Bound Fault) (f g : Fault) → IsQueryOf meant (Err f) → IsQueryOf meant (Err g) → f ≡ g
  same-fault (Ok b) f g h k = absurd h
  same-fault (Err e) f g h k = h ∙ sym k

  not-both-ways : (meant : Result Bound Fault) (q : Query) (f : Fault) → IsQueryOf meant (Ok q) → IsQueryOf meant (Err f) → ⊥
  not-both-ways (Ok b) q f h k = k
  not-both-ways (Err e) q f h k = h

  as-long : (a b : List Query) (p q : Query) → length a ≡ length b → length (a ++ p ∷ []) ≡ length (b ++ q ∷ [])
  as-long a b p q same = omega (arith, same, length-append a (p ∷ []), length-append b (q ∷ []))

  -- one more query on each side
  one-more : (meant : Result Bound Fault) (a b : List Query) (p q : Query) → Alike c (Ok a) (Ok b) → IsQueryOf meant (Ok p) → IsQueryOf meant (Ok q) → Alike c (Ok (a ++ p ∷ [])) (Ok (b ++ q ∷ []))
  one-more meant a b p q alike h k left right =
      let l = All-pop (λ (x : Query). IsClassTable (given_of c x) x.classes) (a ++ p ∷ []) a (Some p) refl left in
      let r = All-pop (λ (x : Query). IsClassTable (given_of c x) x.classes) (b ++ q ∷ []) b (Some q) refl right in
      ap (λ (xs : List Query). xs ++ p ∷ []) (alike l.0 r.0) ∙ ap (λ (x : Query). b ++ x ∷ []) (same-query meant p q h k l.1 r.1)

  queries-alike : (xs : List Advised) (a b : List Query) (r s : Result (List Query) Fault) → length a ≡ length b → Alike c (Ok a) (Ok b) →
      AreRead Advised Query (QueryMeans c start) a xs r → AreRead Advised Query (QueryMeans c start) b xs s → Alike c r s
  queries-alike [] a b r s same alike h k = subst (λ (z : Result (List Query) Fault). Alike c z s) (sym h) (subst (λ (z : Result (List Query) Fault). Alike c (Ok a) z) (sym k) alike)
  queries-alike (x ∷ xs) a b r s same alike (inl (f, h, i)) (inl (g, k, j)) =
      subst (λ (z : Result (List Query) Fault). Alike c z s) (sym i) (subst (λ (z : Result (List Query) Fault). Alike c (Err f) z) (sym j) (same-fault (query_bound c start (length a) x) f g h (subst (λ (n : ℕ). IsQueryOf (query_bound c start n x) (Err g)) (sym same) k)))
  queries-alike (x ∷ xs) a b r s same alike (inl (f, h, i)) (inr (q, k, j)) =
      absurd (not-both-ways (query_bound c start (length a) x) q f (subst (λ (n : ℕ). IsQueryOf (query_bound c start n x) (Ok q)) (sym same) k) h)
  queries-alike (x ∷ xs) a b r s same alike (inr (p, h, i)) (inl (g, k, j)) =
      absurd (not-both-ways (query_bound c start (length a) x) p g h (subst (λ (n : ℕ). IsQueryOf (query_bound c start n x) (Err g)) (sym same) k))
  queries-alike (x ∷ xs) a b r s same alike (inr (p, h, i)) (inr (q, k, j)) =
      let there = subst (λ (n : ℕ). IsQueryOf (query_bound c start n x) (Ok q)) (sym same) k in
      queries-alike xs (a ++ p ∷ []) (b ++ q ∷ []) r s (as-long a b p q same) (one-more (query_bound c start (length a) x) a b p q alike h there) i j

-- what is asked, with queries that may have other tables
abbrev pub AskedAlike : Contents → Result Asked Fault → Result Asked Fault → Type 0
AskedAlike c (Ok a) (Ok b) = HaveClasses c a.queries → HaveClasses c b.queries → a ≡ b
AskedAlike c (Err f) (Err g) = f ≡ g
AskedAlike c _ _ = ⊥

abbrev asked-of : ℕ → List NamedIndex → List Query → Asked
asked-of most candidates queries = record { most = most; candidates = candidates; queries = queries }

asked-alike : (c : Contents) (most : ℕ) (candidates : List NamedIndex) (a b : List Query) → Alike c (Ok a) (Ok b) →
    AskedAlike c (Ok (asked-of most candidates a)) (Ok (asked-of most candidates b))
asked-alike c most candidates a b alike left right = ap (λ (qs : List Query). asked-of most candidates qs) (alike left right)

-- two readings, where the second is known but for tables
then-alike : (c : Contents) (A : Type 0) (First : Result A Fault → Type 0) (Next : A → Result Asked Fault → Type 0) → HasOne First → ((x : A) (r s : Result Asked Fault) → Next x r → Next x s → AskedAlike c r s) →
    (r s : Result Asked Fault) → Then A Asked First Next r → Then A Asked First Next s → AskedAlike c r s
then-alike c A First Next one next r s (inl (f, h, i)) (inl (g, k, j)) =
    subst (λ (z : Result Asked Fault). AskedAlike c z s) (sym i) (subst (λ (z : Result Asked Fault). AskedAlike c (Err f) z) (sym j) (err-one f g (one (Err f) (Err g) h k)))
then-alike c A First Next one next r s (inl (f, h, i)) (inr (y, k, j)) = absurd (ok-err y f (one (Ok y) (Err f) k h))
then-alike c A First Next one next r s (inr (x, h, i)) (inl (g, k, j)) = absurd (ok-err x g (one (Ok x) (Err g) h k))
then-alike c A First Next one next r s (inr (x, h, i)) (inr (y, k, j)) =
    next x r s i (subst (λ (z : A). Next z s) (sym (ok-one x y (one (Ok x) (Ok y) h k))) j)

module _ (c : Contents) (start : Token) (most : ℕ) (candidates : List NamedIndex) (xs : List Advised) where
  last-alike : (r s : Result Asked Fault) →
      Then (List Query) Asked (QueriesMean c start xs) (λ queries z. z ≡ Ok (asked-of most candidates queries)) r →
      Then (List Query) Asked (QueriesMean c start xs) (λ queries z. z ≡ Ok (asked-of most candidates queries)) s → AskedAlike c r s
  last-alike r s (inl (f, h, i)) (inl (g, k, j)) =
      subst (λ (z : Result Asked Fault). AskedAlike c z s) (sym i) (subst (λ (z : Result Asked Fault). AskedAlike c (Err f) z) (sym j) (queries-alike c start xs [] [] (Err f) (Err g) refl (λ p q. refl) h k))
  last-alike r s (inl (f, h, i)) (inr (y, k, j)) = absurd (queries-alike c start xs [] [] (Err f) (Ok y) refl (λ p q. refl) h k)
  last-alike r s (inr (x, h, i)) (inl (g, k, j)) = absurd (queries-alike c start xs [] [] (Ok x) (Err g) refl (λ p q. refl) h k)
  last-alike r s (inr (x, h, i)) (inr (y, k, j)) =
      subst (λ (z : Result Asked Fault). AskedAlike c z s) (sym i) (subst (λ (z : Result Asked Fault). AskedAlike c (Ok (asked-of most candidates x)) z) (sym j)
      (asked-alike c most candidates x y (queries-alike c start xs [] [] (Ok x) (Ok y) refl (λ p q. refl) h k)))

-- what ADVISE means
pub one-advice : (c : Contents) (tokens : List Token) (x : Advise) (r s : Result Asked Fault) → AdviseMeans c tokens x r → AdviseMeans c tokens x s → AskedAlike c r s
one-advice c tokens (advise_of p start n o x xs m q qs e) =
    then-alike c ℕ _ _ (one-value (most_meant n)) (λ most.
    then-alike c (List NamedIndex) _ _ (candidates-one c start tokens (candidates_of x xs)) (λ candidates.
    then-alike c (List NamedIndex) _ _ (one-value (with_room c [] (map name_token (candidates_of x xs)) candidates)) (λ all.
    last-alike c start most all (q ∷ qs))))

-- where an advice is printed, there is one
pub no-advice-told : (c : Contents) (candidates : List NamedIndex) (queries : List Query) (most : ℕ) (text : List ℕ) → IsReplyTo c candidates queries most text → HasNoAdviceFor c candidates queries most → ⊥
no-advice-told c candidates queries most text is none = none is.advice.set is.advice.sum is.is.priced.choice is.is.priced.sum
