-- The candidates of ADVISE, read from the left.
use Rattle.std.proofs.Common.{◌≡◌, ◌<◌, ◌≤◌, ◌+◌, ◌∙◌, ◌++◌, ◌↔◌, IsTrue, inl, inr, ℕ, Bool, true, false, cond, nat_lt, max, List, [], ◌∷◌, length, map, drop, take, get_or, Result, Ok, Err, IsErrAnd, refl, sym, ap, subst, arith, append_assoc, length-append, Contains}
use Rattle.std.proofs.lemmas.Bool.Decides.{nat_tests}
use Rattle.std.proofs.lemmas.List.{drop_more, get_or_default, map-append}
use Rattle.std.proofs.lemmas.List.Elements.{All-nil, All-push, Contains-append_cases}
use Rattle.pg_base.specs.declared.faults.Code.TheVariants.{S6, S15}
use Rattle.pg_base.specs.declared.faults.Fault.{Fault}
use Rattle.pg_base.specs.declared.faults.Limit.TheVariants.{Candidates}
use Rattle.pg_base.specs.declared.faults.Refusal.{Refusal}
use Rattle.pg_base.specs.declared.faults.Refusal.TheVariants as refusal
use Rattle.pg_base.specs.declared.limits.TheConstants.{MOST_CANDIDATES, MOST_LEVELS}
use Rattle.pg_base.specs.Names.{AreDistinct, IsName}
use Rattle.sql_lex.specs.declared.tokens.Token.{Token}
use Rattle.sql_grammar.specs.declared.class.Symbol.TheVariants.{Close, Comma}
use Rattle.sql_grammar.specs.Syntax.{Mark, Cand, cand_on}
use Rattle.sql_grammar.specs.Terminals.{Terminal, t_mark}
use Rattle.sql_grammar.specs.work.Unique.{ends_cand, token_in}
use Rattle.sql_grammar.specs.Words.{words_of_cand, words_of_cands, levels_of_cand, levels_of_cands}
use Rattle.sql_grammar.specs.Faults.{AreWithinLimits, fault_at, terminals}
use Rattle.sql_grammar.proofs.ExprTrees.{tokens-are}
use Rattle.expr_reader.specs.work.Reading.{Begins, BeginsNot}
use Rattle.catalog.specs.Contents.{Contents, NamedIndex, all_names, index_names, table_names}
use Rattle.catalog.specs.Indexes.{IsFirstTwice, columns_of}
use Rattle.catalog.specs.work.Tables.{Fits}
use Rattle.catalog.proofs.NameLaws.{distinct-push, not_among}
use Rattle.catalog.specs.Candidates.{with_candidates}
use Rattle.catalog.specs.work.Candidates.{IsCandidateIndex, names_of}
use Rattle.index_reader.specs.work.Candidates.{IsCandAt}
use Rattle.index_reader.specs.Meaning.{IndexMeant, meaning_of_cand}
use Rattle.index_reader.specs.work.Statements.{IsCandRefusal}
use Rattle.index_reader.specs.declared.candidates.AllRead.{AllRead}
use Rattle.index_reader.specs.declared.candidates.OneRead.{OneRead}
use Rattle.index_reader.specs.AdviseCandidates.{CandidateMeans, IsAllowed, IsNotAllowed, repeated, candidate_read}
use Rattle.index_reader.specs.Places.{word_fault}
use Rattle.index_reader.specs.AdviseMeaning.{CandidatesMean}
use Rattle.index_reader.specs.Parts.{candidates_of, name_token}
use Rattle.index_reader.specs.Stages.{AreRead}
use Rattle.index_reader.specs.work.Walk.{AreApart, Row, RowAt, Stands, TellsCandidate, TellsCandidates}
use Rattle.index_reader.proofs.NameLemmas.{by-candidate, by-index, by-table}
use Rattle.index_reader.proofs.StandLemmas.{behind, front, stands-within}
use Rattle.query_reader.proofs.ReadingLemmas.{some-token}
use Rattle.index_reader.proofs.CandLemmas.{some-words}

-- One candidate.

-- a candidate stands between two tokens
pub cand-at : (text : List ℕ) (tokens : List Token) (first end : ℕ) (x : Cand) (next : Terminal) (rest : List Terminal) → Stands text tokens first (words_of_cand x) next rest → end ≡ first + length (words_of_cand x) →
    IsCandAt text tokens first end x
cand-at text tokens first end x next rest s at = record {
  within = let lt = stands-within text tokens first (words_of_cand x) next rest s in omega (arith, lt, at);
  words = subst (λ (n : ℕ). words_of_cand x ≡ terminals text (drop first (take n tokens))) (sym at) (front text tokens first (words_of_cand x) (next ∷ rest) s.are);
  limits = s.limits;
}

pub cand-ahead : (text : List ℕ) (tokens : List Token) (first end : ℕ) (x : Cand) (next : Terminal) (rest : List Terminal) → Stands text tokens first (words_of_cand x) next rest → end ≡ first + length (words_of_cand x) →
    (first < end) × (end < length tokens)
cand-ahead text tokens first end x next rest s at =
    let some = some-words x in
    let lt = stands-within text tokens first (words_of_cand x) next rest s in
    (omega (arith, some, at), omega (arith, lt, at))

-- its first token is that of its name
name-first : (x : Cand) (rest : List Terminal) (t : Token) (ts : List Token) → map token_in (words_of_cand x ++ rest) ≡ t ∷ ts → t ≡ name_token x
name-first (cand_on n o i u p x xs m c w) rest t ts is = cc (is)

pub name-at : (text : List ℕ) (tokens : List Token) (first : ℕ) (x : Cand) (rest : List Terminal) (d : Token) → terminals text (drop first tokens) ≡ words_of_cand x ++ rest → first < length tokens → get_or tokens first d ≡ name_token x
name-at text tokens first x rest d is lt =
    name-first x rest (get_or tokens first d) (drop (first + 1) tokens) (tokens-are (words_of_cand x ++ rest) text (drop first tokens) (sym is) ∙ drop_more tokens first d lt)

module _ (c : Contents) (start : Token) (tokens : List Token) (earlier : List NamedIndex) (x : Cand) where
  -- the eleventh
  pub eleventh : (t : Token) → length earlier ≡ MOST_CANDIDATES → t ≡ name_token x → CandidateMeans c start tokens earlier x (Err (fault_at (S15 Candidates) t))
  eleventh t many is =
      inl (fault_at (S15 Candidates) t, ap (λ (u : Token). Err (fault_at (S15 Candidates) u)) is ∙ sym (ap (λ n. candidate_read c start n x) many), refl)

  pub eleventh-at : (text : List ℕ) (first : ℕ) (given : List Token) (d : Token) (f : Fault) (next : Terminal) (rest : List Terminal) → Stands text tokens first (words_of_cand x) next rest →
      given ≡ tokens → f ≡ fault_at (S15 Candidates) (get_or given first d) → length earlier ≡ MOST_CANDIDATES → CandidateMeans c start tokens earlier x (Err f)
  eleventh-at text first given d f next rest s same is many =
      let lt = stands-within text tokens first (words_of_cand x) next rest s in
      subst (λ (g : Fault). CandidateMeans c start tokens earlier x (Err g)) (sym (is ∙ ap (λ (ts : List Token). fault_at (S15 Candidates) (get_or ts first d)) same))
      (eleventh (get_or tokens first d) many (name-at text tokens first x (next ∷ rest) d s.are (omega (arith, lt))))

  below : length earlier < MOST_CANDIDATES → candidate_read c start (length earlier) x ≡ meaning_of_cand c start x
  below lt =
      let is : nat_lt (length earlier) MOST_CANDIDATES ≡ true = grind (arith, nat_tests, lt) in
      ap (λ b. cond b (meaning_of_cand c start x) (Err (fault_at (S15 Candidates) (name_token x)))) is

  -- a candidate that has a fault of its own
  pub read-wrong : (f : Fault) → length earlier < MOST_CANDIDATES → meaning_of_cand c start x ≡ Err f → CandidateMeans c start tokens earlier x (Err f)
  read-wrong f lt wrong = inl (f, sym (below lt ∙ wrong), refl)

  -- a candidate that may not be made
  pub made-wrong : (read : IndexMeant) (f : Fault) → length earlier < MOST_CANDIDATES → meaning_of_cand c start x ≡ Ok read → IsNotAllowed (with_candidates c earlier) tokens read f → CandidateMeans c start tokens earlier x (Err f)
  made-wrong read f lt is wrong = inr (read, sym (below lt ∙ is), wrong)

  -- a candidate that may be made
  pub made : (read : IndexMeant) → length earlier < MOST_CANDIDATES → meaning_of_cand c start x ≡ Ok read → IsAllowed (with_candidates c earlier) read →
      CandidateMeans c start tokens earlier x (Ok (record { name = read.name; index = read.index }))
  made read lt is allowed = inr (read, sym (below lt ∙ is), (allowed, refl))

-- an index may be made as a candidate with earlier ones
pub may-be-made : (c : Contents) (earlier : List NamedIndex) (read : IndexMeant) → IsName read.name → Fits c read.index → IsAllowed (with_candidates c earlier) read →
    IsCandidateIndex (with_candidates c earlier) (record { name = read.name; index = read.index })
may-be-made c earlier read name fits allowed = record {
  name = name;
  fits = record { table = fits.table; columns = fits.columns };
  free = allowed.free;
  distinct = allowed.distinct;
  form = allowed.form;
}

-- an index that may be made with earlier candidates may be made without them
pub made-alone : (c : Contents) (earlier : List NamedIndex) (x : NamedIndex) → IsCandidateIndex (with_candidates c earlier) x → IsCandidateIndex c x
made-alone c earlier x may = record {
  name = may.name;
  fits = record { table = may.fits.table; columns = may.fits.columns };
  free = λ h. may.free (within h);
  distinct = may.distinct;
  form = may.form;
}
  where
    within : Contains (all_names c) x.name → Contains (all_names (with_candidates c earlier)) x.name
    within h =
        elim (Contains-append_cases (table_names c) (index_names c) x.name h) [
          | inl k ↦ by-table c earlier x.name k
          | inr k ↦ by-index c earlier x.name k
        ]

pub apart-more : (c : Contents) (xs : List NamedIndex) (x : NamedIndex) → AreApart c xs → length xs < MOST_CANDIDATES → IsCandidateIndex (with_candidates c xs) x → AreApart c (xs ++ x ∷ [])
apart-more c xs x all room may = record {
  few = let many = length-append xs (x ∷ []) in omega (arith, room, many);
  each = All-push (IsCandidateIndex c) xs x all.each (made-alone c xs x may);
  apart = subst AreDistinct (sym (map-append (λ (y : NamedIndex). y.name) xs (x ∷ []))) (distinct-push (names_of xs) x.name all.apart (λ h. may.free (by-candidate c xs x.name h)));
}

-- All candidates.

-- the word behind the first one
next-of : (xs : List (Mark × Cand)) (m : Mark) (rest : List Terminal) → (next : Terminal) × (left : List Terminal) × (words_of_cands xs ++ t_mark Close m ∷ rest ≡ next ∷ left) × (ends_cand (next ∷ left) ≡ true)
next-of [] m rest = (t_mark Close m, rest, refl, refl)
next-of ((k, x) ∷ xs) m rest = (t_mark Comma k, (words_of_cand x ++ words_of_cands xs) ++ t_mark Close m ∷ rest, refl, refl)

pub first-stands : (text : List ℕ) (tokens : List Token) (first : ℕ) (w : Row) → RowAt text tokens first w →
    (next : Terminal) × (left : List Terminal) × Stands text tokens first (words_of_cand w.first) next left × (ends_cand (next ∷ left) ≡ true) × (levels_of_cand w.first ≤ MOST_LEVELS)
first-stands text tokens first w at =
    let (next, left, is, ends) = next-of w.more w.close w.rest in
    let low = at.levels in
    (next, left, record { are = at.are ∙ ap (λ l. words_of_cand w.first ++ l) is; limits = at.limits }, ends, omega (arith, low))

-- some candidates were read and named, and the others are left at a token: what these mean behind them is what all mean
pub record Going (c : Contents) (start : Token) (text : List ℕ) (tokens : List Token) (found : List NamedIndex) (names : List Token) (at : ℕ) (w : Row) : Type 0 where
  pub left : Row
  pub there : RowAt text tokens at left
  pub close : left.close ≡ w.close
  pub rest : left.rest ≡ w.rest
  pub reads : (r : Result (List NamedIndex) Fault) → AreRead Cand NamedIndex (CandidateMeans c start tokens) found (candidates_of left.first left.more) r → CandidatesMean c start tokens (candidates_of w.first w.more) r
  pub named : names ++ map name_token (candidates_of left.first left.more) ≡ map name_token (candidates_of w.first w.more)

pub going : (c : Contents) (start : Token) (text : List ℕ) (tokens : List Token) (first : ℕ) (w : Row) → RowAt text tokens first w → Going c start text tokens [] [] first w
going c start text tokens first w at = record { left = w; there = at; close = refl; rest = refl; reads = λ r h. h; named = refl }

module _ (c : Contents) (start : Token) (text : List ℕ) (tokens : List Token) (found : List NamedIndex) (names : List Token) where
  abbrev Reads : Cand → List (Mark × Cand) → Row → Type 0
  Reads x more w = (r : Result (List NamedIndex) Fault) → AreRead Cand NamedIndex (CandidateMeans c start tokens) found (candidates_of x more) r → CandidatesMean c start tokens (candidates_of w.first w.more) r

  -- nothing is left behind one
  out-by : (w : Row) (x : Cand) (more : List (Mark × Cand)) (m : Mark) (rest : List Terminal) (end : ℕ) (y : NamedIndex) (t : Token) → Reads x more w →
      names ++ map name_token (candidates_of x more) ≡ map name_token (candidates_of w.first w.more) → terminals text (drop end tokens) ≡ words_of_cands more ++ t_mark Close m ∷ rest →
      CandidateMeans c start tokens found x (Ok y) → t ≡ name_token x → BeginsNot (t_mark Comma) (terminals text (drop end tokens)) →
      CandidatesMean c start tokens (candidates_of w.first w.more) (Ok (found ++ y ∷ [])) × (names ++ t ∷ [] ≡ map name_token (candidates_of w.first w.more)) × (terminals text (drop end tokens) ≡ t_mark Close m ∷ rest)
  out-by w x [] m rest end y t reads so are is named none = (reads (Ok (found ++ y ∷ [])) (inr (y, is, refl)), ap (λ u. names ++ u ∷ []) named ∙ so, are)
  out-by w x ((k, z) ∷ zs) m rest end y t reads so are is named none = absurd (none ((words_of_cand z ++ words_of_cands zs) ++ t_mark Close m ∷ rest) (k, are))

  -- one more is left behind a comma
  on-by : (w : Row) (x : Cand) (more : List (Mark × Cand)) (m : Mark) (rest : List Terminal) (end : ℕ) (y : NamedIndex) (t : Token) → Reads x more w →
      names ++ map name_token (candidates_of x more) ≡ map name_token (candidates_of w.first w.more) → terminals text (drop end tokens) ≡ words_of_cands more ++ t_mark Close m ∷ rest →
      CandidateMeans c start tokens found x (Ok y) → t ≡ name_token x → m ≡ w.close → rest ≡ w.rest → AreWithinLimits (terminals text tokens) → max (levels_of_cand x) (levels_of_cands more) ≤ MOST_LEVELS →
      (left : List Terminal) → Begins (t_mark Comma) (terminals text (drop end tokens)) left → Going c start text tokens (found ++ y ∷ []) (names ++ t ∷ []) (end + 1) w
  on-by w x [] m rest end y t reads so are is named close rest-is within low left (k, comma) = let wrong = sym are ∙ comma in absurd (cc (wrong))
  on-by w x ((k, z) ∷ zs) m rest end y t reads so are is named close rest-is within low left comma = record {
    left = record { first = z; more = zs; close = m; rest = rest };
    there = record {
      are = behind text tokens end (t_mark Comma k ∷ []) ((words_of_cand z ++ words_of_cands zs) ++ t_mark Close m ∷ rest) are ∙ append_assoc (words_of_cand z) (words_of_cands zs) (t_mark Close m ∷ rest);
      limits = within;
      levels = omega (arith, low);
    };
    close = close;
    rest = rest-is;
    reads = λ r h. reads r (inr (y, is, h));
    named = append_assoc names (t ∷ []) (map name_token (candidates_of z zs)) ∙ (ap (λ u. names ++ u ∷ map name_token (candidates_of z zs)) named ∙ so);
  }

  module _ (at : ℕ) (w : Row) (g : Going c start text tokens found names at w) where
    -- the next candidate is wrong
    pub goes-wrong : (f : Fault) → CandidateMeans c start tokens found g.left.first (Err f) → CandidatesMean c start tokens (candidates_of w.first w.more) (Err f)
    goes-wrong f wrong = g.reads (Err f) (inl (f, wrong, refl))

    -- the words behind it
    behind-one : (end : ℕ) → end ≡ at + length (words_of_cand g.left.first) → terminals text (drop end tokens) ≡ words_of_cands g.left.more ++ t_mark Close g.left.close ∷ g.left.rest
    behind-one end is = ap (λ n. terminals text (drop n tokens)) is ∙ behind text tokens at (words_of_cand g.left.first) (words_of_cands g.left.more ++ t_mark Close g.left.close ∷ g.left.rest) g.there.are

    -- the candidate is the last one
    pub goes-out : (y : NamedIndex) (t : Token) (end : ℕ) → CandidateMeans c start tokens found g.left.first (Ok y) → t ≡ name_token g.left.first → end ≡ at + length (words_of_cand g.left.first) →
        BeginsNot (t_mark Comma) (terminals text (drop end tokens)) →
        CandidatesMean c start tokens (candidates_of w.first w.more) (Ok (found ++ y ∷ [])) × (names ++ t ∷ [] ≡ map name_token (candidates_of w.first w.more)) × (terminals text (drop end tokens) ≡ t_mark Close w.close ∷ w.rest)
    goes-out y t end is named place none =
        let (all, so, left) = out-by w g.left.first g.left.more g.left.close g.left.rest end y t g.reads g.named (behind-one end place) is named none in
        (all, so, left ∙ (ap (λ m. t_mark Close m ∷ g.left.rest) g.close ∙ ap (λ l. t_mark Close w.close ∷ l) g.rest))

    -- a comma stands behind it, and one more
    pub goes-on : (y : NamedIndex) (t : Token) (end : ℕ) (left : List Terminal) → CandidateMeans c start tokens found g.left.first (Ok y) → t ≡ name_token g.left.first → end ≡ at + length (words_of_cand g.left.first) →
        Begins (t_mark Comma) (terminals text (drop end tokens)) left → Going c start text tokens (found ++ y ∷ []) (names ++ t ∷ []) (end + 1) w
    goes-on y t end left is named place comma =
        on-by w g.left.first g.left.more g.left.close g.left.rest end y t g.reads g.named (behind-one end place) is named g.close g.rest g.there.limits g.there.levels left comma

-- what is handed on
pub one-fault : (c : Contents) (start : Token) (tokens : List Token) (earlier : List NamedIndex) (first : ℕ) (x : Cand) (e : Refusal) (f : Fault) → e ≡ refusal.Fault f → TellsCandidate c start tokens earlier first x (Err e) →
    CandidateMeans c start tokens earlier x (Err f)
one-fault c start tokens earlier first x e f is told = subst (λ (d : Refusal). TellsCandidate c start tokens earlier first x (Err d)) is told

pub stopped : (c : Contents) (start : Token) (text : List ℕ) (tokens : List Token) (w : Row) (e : Refusal) (r : Result AllRead Refusal) → ((f : Fault) → e ≡ refusal.Fault f → CandidatesMean c start tokens (candidates_of w.first w.more) (Err f)) →
    IsErrAnd r (λ d. d ≡ e) → TellsCandidates c start text tokens w r
stopped c start text tokens w e (Ok x) on told = absurd told
stopped c start text tokens w e (Err (refusal.Fault f)) on told = on f (sym told)
stopped c start text tokens w e (Err refusal.Memory) on told = tt

pub stopped-short : (c : Contents) (start : Token) (text : List ℕ) (tokens : List Token) (w : Row) (r : Result AllRead Refusal) → IsErrAnd r (λ d. d ≡ refusal.Memory) → TellsCandidates c start text tokens w r
stopped-short c start text tokens w r told = stopped c start text tokens w refusal.Memory r (λ f is. absurd (cc (is))) told

-- what there was no memory for, or was refused
pub cand-stopped : (c : Contents) (start : Token) (tokens : List Token) (earlier : List NamedIndex) (first : ℕ) (x : Cand) (e : Refusal) (r : Result OneRead Refusal) → ((f : Fault) → e ≡ refusal.Fault f → CandidateMeans c start tokens earlier x (Err f)) →
    IsErrAnd r (λ d. d ≡ e) → TellsCandidate c start tokens earlier first x r
cand-stopped c start tokens earlier first x e (Ok y) on told = absurd told
cand-stopped c start tokens earlier first x e (Err (refusal.Fault f)) on told = on f (sym told)
cand-stopped c start tokens earlier first x e (Err refusal.Memory) on told = tt

pub cand-refused : (m : Result IndexMeant Fault) (e : Refusal) (f : Fault) → e ≡ refusal.Fault f → IsCandRefusal m e → m ≡ Err f
cand-refused m e f is told = subst (λ (d : Refusal). IsCandRefusal m d) is told

-- some candidates are left, in a statement with a first token
pub record Ongoing (c : Contents) (text : List ℕ) (tokens : List Token) (found : List NamedIndex) (names : List Token) (at : ℕ) : Type 0 where
  pub start : Token
  pub later : List Token
  pub whole : tokens ≡ start ∷ later
  pub row : Row
  pub going : Going c start text tokens found names at row
  pub inside : at < length tokens

pub ongoing : (c : Contents) (text : List ℕ) (tokens : List Token) (first : ℕ) (found : List NamedIndex) (names : List Token) (at : ℕ) → ((w : Row) × RowAt text tokens first w) →
    ((w : Row) (start : Token) (later : List Token) → tokens ≡ start ∷ later → RowAt text tokens first w → Going c start text tokens found names at w) → Ongoing c text tokens found names at
ongoing c text tokens first found names at (w, there) on =
    let (next, left, s, ends, low) = first-stands text tokens first w there in
    let lt = stands-within text tokens first (words_of_cand w.first) next left s in
    let (start, later, whole) = some-token tokens (omega (arith, lt)) in
    let g = on w start later whole there in
    let (next', left', s', ends', low') = first-stands text tokens at g.left g.there in
    let lt' = stands-within text tokens at (words_of_cand g.left.first) next' left' s' in
    record { start = start; later = later; whole = whole; row = w; going = g; inside = omega (arith, lt') }

-- a column stands twice
pub repeated-by : (c : Contents) (tokens : List Token) (read : IndexMeant) (name : List ℕ) (place at : ℕ) (d : ℕ) (f : Fault) (b : Bool) → name ≡ read.name → IsTrue b ↔ Contains (all_names c) name → b ≡ false → IsFirstTwice (columns_of read.index) place →
    length read.at ≡ length (columns_of read.index) + 1 → at ≡ get_or read.at (place + 1) d → f ≡ word_fault S6 tokens at → IsNotAllowed c tokens read f
repeated-by c tokens read name place at d f b named decides none twice many here is =
    let lt = twice.within in
    let there = here ∙ get_or_default read.at (place + 1) d 0 (omega (arith, lt, many)) in
    repeated place (λ h. not_among b (Contains (all_names c) name) decides none (subst (λ n. Contains (all_names c) n) (sym named) h)) twice (is ∙ ap (λ n. word_fault S6 tokens n) there)

-- none were read yet
pub going-from : (c : Contents) (start : Token) (text : List ℕ) (tokens : List Token) (first : ℕ) (w : Row) (found : List NamedIndex) (names : List Token) → found ≡ [] → names ≡ [] → RowAt text tokens first w → Going c start text tokens found names first w
going-from c start text tokens first w found names none unnamed there =
    subst (λ (l : List NamedIndex). Going c start text tokens l names first w) (sym none) (subst (λ (l : List Token). Going c start text tokens [] l first w) (sym unnamed) (going c start text tokens first w there))

pub apart-none : (c : Contents) (found : List NamedIndex) → found ≡ [] → AreApart c found
apart-none c found none = subst (AreApart c) (sym none) (record {
  few = omega arith;
  each = All-nil (IsCandidateIndex c);
  apart = λ i j d before inside. absurd (omega (arith, inside));
})

-- what is told of one behind those that were found
pub one-wrong : (c : Contents) (start : Token) (tokens : List Token) (earlier found : List NamedIndex) (first : ℕ) (x : Cand) (e : Refusal) (f : Fault) → earlier ≡ found → e ≡ refusal.Fault f → TellsCandidate c start tokens earlier first x (Err e) →
    CandidateMeans c start tokens found x (Err f)
one-wrong c start tokens earlier found first x e f same is told = subst (λ (l : List NamedIndex). CandidateMeans c start tokens l x (Err f)) same (one-fault c start tokens earlier first x e f is told)

pub one-meant : (c : Contents) (start : Token) (tokens : List Token) (earlier found : List NamedIndex) (x : Cand) (y : NamedIndex) → earlier ≡ found → CandidateMeans c start tokens earlier x (Ok y) → CandidateMeans c start tokens found x (Ok y)
one-meant c start tokens earlier found x y same told = subst (λ (l : List NamedIndex). CandidateMeans c start tokens l x (Ok y)) same told

-- one more was read
module _ (c : Contents) (start : Token) (text : List ℕ) (tokens : List Token) (found : List NamedIndex) (names : List Token) (at : ℕ) (w : Row) (g : Going c start text tokens found names at w) where
  -- what is told of it, and what the lists are then
  pub record OneMore (end : ℕ) (found' : List NamedIndex) (names' : List Token) : Type 0 where
    pub value : NamedIndex
    pub token : Token
    pub means : CandidateMeans c start tokens found g.left.first (Ok value)
    pub name : token ≡ name_token g.left.first
    pub place : end ≡ at + length (words_of_cand g.left.first)
    pub all : found' ≡ found ++ value ∷ []
    pub named : names' ≡ names ++ token ∷ []

  pub one-more : (earlier : List NamedIndex) (r : OneRead) (given : List Token) (d : Token) (found' : List NamedIndex) (names' : List Token) → earlier ≡ found → given ≡ tokens → TellsCandidate c start tokens earlier at g.left.first (Ok r) →
      found' ≡ found ++ r.candidate ∷ [] → names' ≡ names ++ get_or given at d ∷ [] → OneMore r.end found' names'
  one-more earlier r given d found' names' same whole told all named =
      let (next, left, s, ends, low) = first-stands text tokens at g.left g.there in
      let lt = stands-within text tokens at (words_of_cand g.left.first) next left s in
      record {
        value = r.candidate;
        token = get_or tokens at d;
        means = one-meant c start tokens earlier found g.left.first r.candidate same told.0;
        name = name-at text tokens at g.left.first (next ∷ left) d s.are (omega (arith, lt));
        place = told.1;
        all = all;
        named = named ∙ ap (λ (ts : List Token). names ++ get_or ts at d ∷ []) whole;
      }

  pub more-out : (end : ℕ) (found' : List NamedIndex) (names' : List Token) → OneMore end found' names' → BeginsNot (t_mark Comma) (terminals text (drop end tokens)) →
      CandidatesMean c start tokens (candidates_of w.first w.more) (Ok found') × (names' ≡ map name_token (candidates_of w.first w.more)) × (terminals text (drop end tokens) ≡ t_mark Close w.close ∷ w.rest)
  more-out end found' names' m none =
      let (all, so, left) = goes-out c start text tokens found names at w g m.value m.token end m.means m.name m.place none in
      (subst (λ (l : List NamedIndex). CandidatesMean c start tokens (candidates_of w.first w.more) (Ok l)) (sym m.all) all, m.named ∙ so, left)

  pub more-on : (end : ℕ) (found' : List NamedIndex) (names' : List Token) (left : List Terminal) → OneMore end found' names' → Begins (t_mark Comma) (terminals text (drop end tokens)) left → Going c start text tokens found' names' (end + 1) w
  more-on end found' names' left m comma =
      subst (λ (l : List NamedIndex). Going c start text tokens l names' (end + 1) w) (sym m.all)
      (subst (λ (l : List Token). Going c start text tokens (found ++ m.value ∷ []) l (end + 1) w) (sym m.named)
      (goes-on c start text tokens found names at w g m.value m.token end left m.means m.name m.place comma))

pub apart-then : (c : Contents) (earlier found found' : List NamedIndex) (x : NamedIndex) → earlier ≡ found → AreApart c found → length earlier < MOST_CANDIDATES → IsCandidateIndex (with_candidates c earlier) x → found' ≡ found ++ x ∷ [] → AreApart c found'
apart-then c earlier found found' x same all room may is =
    subst (AreApart c) (sym is)
    (apart-more c found x all (subst (λ (l : List NamedIndex). length l < MOST_CANDIDATES) same room) (subst (λ (l : List NamedIndex). IsCandidateIndex (with_candidates c l) x) same may))

pub as-many : (found found' : List NamedIndex) (names names' : List Token) (x : NamedIndex) (t : Token) → length names ≡ length found → found' ≡ found ++ x ∷ [] → names' ≡ names ++ t ∷ [] → length names' ≡ length found'
as-many found found' names names' x t many is named =
    let a = ap length is ∙ length-append found (x ∷ []) in
    let b = ap length named ∙ length-append names (t ∷ []) in
    omega (arith, many, a, b)
