-- A fault of ADVISE is in no record of data.
use Rattle.std.proofs.Common.{◌≡◌, ℕ, Bool, true, false, cond, List, [], ◌∷◌, ◌++◌, length, map, nat_lt, nat_le, inl, inr, refl, sym, ap, subst, ◌∙◌, Result, Ok, Err}
use Rattle.std.specs.Str.Parse.{digits_value}
use Rattle.pg_base.specs.declared.faults.Fault.{Fault}
use Rattle.pg_base.specs.declared.limits.TheConstants.{MOST_CANDIDATES, MOST_INDEXES, MOST_QUERIES}
use Rattle.sql_lex.specs.declared.tokens.Token.{Token}
use Rattle.sql_grammar.specs.Terminals.{Said}
use Rattle.sql_grammar.specs.Syntax.{Cand, Advised, Advise, advise_of}
use Rattle.catalog.specs.Contents.{Contents, NamedIndex, indexes_of}
use Rattle.catalog.specs.Candidates.{with_candidates}
use Rattle.index_reader.specs.Meaning.{IndexMeant, meaning_of_cand}
use Rattle.query_reader.specs.Binding.{Bound, bound_part}
use Rattle.sql_query.specs.Queries.{Query}
use Rattle.index_reader.specs.AdviseCandidates.{CandidateMeans, IsNotAllowed, MayBeMade, candidate_read, formless, repeated, taken, with_room}
use Rattle.index_reader.specs.AdviseMeaning.{Asked, AdviseMeans, most_meant}
use Rattle.index_reader.specs.Parts.{candidates_of, name_token, select_in}
use Rattle.index_reader.specs.Queries.{IsQueryOf, QueryMeans, query_bound}
use Rattle.index_reader.specs.Stages.{AreRead, Then}
use Rattle.statements.proofs.BindingLemmas.{part-plain}
use Rattle.statements.proofs.IndexingLemmas.{cand-plain}
use Rattle.statements.proofs.PlainLemmas.{IsPlain}

-- each outcome of a reading is plain
abbrev ArePlain : {A : Type 0} → (Result A Fault → Type 0) → Type 0
ArePlain {A} First = (r : Result A Fault) → First r → IsPlain r

plain-value : {A : Type 0} (x : Result A Fault) → IsPlain x → ArePlain (λ r. r ≡ x)
plain-value x plain r is = subst IsPlain (sym is) plain

then-plain : (A B : Type 0) (First : Result A Fault → Type 0) (Next : A → Result B Fault → Type 0) → ArePlain First → ((x : A) → ArePlain (Next x)) → ArePlain (Then A B First Next)
then-plain A B First Next one next r (inl (f, h, i)) = subst IsPlain (sym i) (one (Err f) h)
then-plain A B First Next one next r (inr (x, h, i)) = next x r i

read-plain : (A B : Type 0) (M : List B → A → Result B Fault → Type 0) → ((earlier : List B) (x : A) → ArePlain (M earlier x)) → (earlier : List B) (xs : List A) → ArePlain (AreRead A B M earlier xs)
read-plain A B M one earlier [] = plain-value (Ok earlier) tt
read-plain A B M one earlier (x ∷ xs) =
    then-plain B (List B) (M earlier x) (λ y. AreRead A B M (earlier ++ y ∷ []) xs) (one earlier x) (λ y. read-plain A B M one (earlier ++ y ∷ []) xs)

either-plain : {A : Type 0} (b : Bool) (r : Result A Fault) (f : Fault) → IsPlain r → f.rec ≡ 0 → IsPlain (cond b r (Err f))
either-plain true r f h k = h
either-plain false r f h k = k

cause-plain : (c : Contents) (tokens : List Token) (read : IndexMeant) (f : Fault) → IsNotAllowed c tokens read f → f.rec ≡ 0
cause-plain c tokens read f (taken h i) = ap (λ (x : Fault). x.rec) i
cause-plain c tokens read f (repeated p h m i) = ap (λ (x : Fault). x.rec) i
cause-plain c tokens read f (formless h m n i) = ap (λ (x : Fault). x.rec) i

made-plain : (c : Contents) (tokens : List Token) (read : IndexMeant) → ArePlain (MayBeMade c tokens read)
made-plain c tokens read (Ok x) h = tt
made-plain c tokens read (Err f) h = cause-plain c tokens read f h

query-plain : (meant : Result Bound Fault) → IsPlain meant → ArePlain (IsQueryOf meant)
query-plain (Ok b) plain (Ok q) h = tt
query-plain (Ok b) plain (Err f) h = absurd h
query-plain (Err e) plain (Ok q) h = tt
query-plain (Err e) plain (Err f) h = ap (λ (x : Fault). x.rec) h ∙ plain

room-plain : (c : Contents) (tokens : List Token) (earlier : List NamedIndex) (names : List Token) (xs : List NamedIndex) → IsPlain (with_room c earlier names xs)
room-plain c tokens earlier [] [] = tt
room-plain c tokens earlier [] (x ∷ xs) = tt
room-plain c tokens earlier (n ∷ names) [] = tt
room-plain c tokens earlier (n ∷ names) (x ∷ xs) =
    either-plain (nat_lt (length (indexes_of (with_candidates c earlier) x.index.table)) MOST_INDEXES) _ _ (room-plain c tokens (earlier ++ x ∷ []) names xs) refl

most-plain : (n : Said) → IsPlain (most_meant n)
most-plain n = either-plain (nat_le (digits_value 10 n.value) MOST_CANDIDATES) _ _ tt refl

candidate-plain : (c : Contents) (start : Token) (earlier : ℕ) (x : Cand) → IsPlain (candidate_read c start earlier x)
candidate-plain c start earlier x = either-plain (nat_lt earlier MOST_CANDIDATES) (meaning_of_cand c start x) _ (cand-plain c start x) refl

bound-plain : (c : Contents) (start : Token) (earlier : ℕ) (x : Advised) → IsPlain (query_bound c start earlier x)
bound-plain c start earlier x = either-plain (nat_lt earlier MOST_QUERIES) (bound_part c start (select_in x)) _ (part-plain c start (select_in x)) refl

advice-plain : (c : Contents) (tokens : List Token) (x : Advise) → ArePlain (AdviseMeans c tokens x)
advice-plain c tokens (advise_of p start n o x xs m q qs e) =
    then-plain ℕ Asked _ _ (plain-value (most_meant n) (most-plain n)) (λ most.
    then-plain (List NamedIndex) Asked _ _
    (read-plain Cand NamedIndex (CandidateMeans c start tokens)
    (λ earlier y. then-plain IndexMeant NamedIndex _ _ (plain-value (candidate_read c start (length earlier) y) (candidate-plain c start (length earlier) y)) (λ r. made-plain (with_candidates c earlier) tokens r))
    [] (candidates_of x xs)) (λ candidates.
    then-plain (List NamedIndex) Asked _ _ (plain-value (with_room c [] (map name_token (candidates_of x xs)) candidates) (room-plain c tokens [] (map name_token (candidates_of x xs)) candidates)) (λ all.
    then-plain (List Query) Asked _ _
    (read-plain Advised Query (QueryMeans c start) (λ earlier y. query-plain (query_bound c start (length earlier) y) (bound-plain c start (length earlier) y)) [] (q ∷ qs)) (λ queries.
    plain-value (Ok (record { most = most; candidates = all; queries = queries })) tt))))

pub advice-fault-plain : (c : Contents) (tokens : List Token) (x : Advise) (f : Fault) → AdviseMeans c tokens x (Err f) → f.rec ≡ 0
advice-fault-plain c tokens x f means = advice-plain c tokens x (Err f) means
