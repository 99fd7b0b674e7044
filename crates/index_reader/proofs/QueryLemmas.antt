-- The SELECTs of ADVISE, read from the left.
use Rattle.std.proofs.Common.{◌≡◌, ◌<◌, ◌≤◌, ◌+◌, ◌∙◌, ◌++◌, inl, inr, ℕ, true, cond, nat_lt, List, [], ◌∷◌, length, map, drop, take, get_or, Result, Ok, Err, IsErrAnd, Vec, refl, sym, ap, subst, arith, append_assoc, length-append}
use Rattle.std.specs.declared.alloc.Global.{Global}
use Rattle.std.proofs.lemmas.Bool.Decides.{nat_tests}
use Rattle.std.proofs.lemmas.List.{drop_more}
use Rattle.std.proofs.lemmas.List.Elements.{All-push}
use Rattle.pg_base.specs.declared.faults.Code.TheVariants.{S15}
use Rattle.pg_base.specs.declared.faults.Fault.{Fault}
use Rattle.pg_base.specs.declared.faults.Limit.TheVariants.{Queries}
use Rattle.pg_base.specs.declared.faults.Refusal.{Refusal}
use Rattle.pg_base.specs.declared.faults.Refusal.TheVariants as refusal
use Rattle.pg_base.specs.declared.limits.TheConstants.{MOST_LEVELS, MOST_QUERIES}
use Rattle.sql_lex.specs.declared.tokens.Token.{Token}
use Rattle.sql_grammar.specs.declared.class.Symbol.TheVariants.{Close, Open}
use Rattle.sql_grammar.specs.Syntax.{Mark, WindowedSelect, Advised, advised, Ending, semicolon, text_end}
use Rattle.sql_grammar.specs.Terminals.{Terminal, t_mark, t_semicolon, t_end}
use Rattle.sql_grammar.specs.work.Unique.{token_in}
use Rattle.sql_grammar.specs.Words.{words_of_windowed, words_of_advised, words_of_more_advised, words_of_ending, levels_of_windowed, levels_of_advised, levels_of_more_advised}
use Rattle.sql_grammar.specs.Faults.{AreWithinLimits, fault_at, terminals}
use Rattle.sql_grammar.proofs.ExprTrees.{tokens-are}
use Rattle.expr_reader.specs.work.Reading.{Begins, BeginsNot}
use Rattle.catalog.specs.Contents.{Contents}
use Rattle.eq_classes.specs.Holding.{IsClassTable}
use Rattle.sql_query.specs.Queries.{Query}
use Rattle.sql_query.specs.WellBound.{IsWellBound, given_of}
use Rattle.query_reader.specs.Binding.{Bound, bound_part}
use Rattle.query_reader.specs.work.Parts.{IsPartAt}
use Rattle.query_reader.specs.work.Select.{IsBoundAs}
use Rattle.index_reader.specs.declared.queries.OneQuery.{OneQuery}
use Rattle.index_reader.specs.AdviseMeaning.{QueriesMean}
use Rattle.index_reader.specs.Parts.{open_token, select_in}
use Rattle.index_reader.specs.Queries.{IsQueryOf, QueryMeans, query_bound}
use Rattle.index_reader.specs.Stages.{AreRead}
use Rattle.index_reader.specs.work.Walk.{ArePlannable, QueryRow, QueryRowAt, Stands, TellsQueries, TellsQuery}
use Rattle.index_reader.proofs.StandLemmas.{behind, ends-within, front, stands-within}
use Rattle.query_reader.proofs.ReadingLemmas.{some-token}

-- One SELECT.

-- the SELECT between the parentheses
pub record Inner (text : List ℕ) (tokens : List Token) (first : ℕ) (x : Advised) : Type 0 where
  pub close : Mark
  pub rest : List Terminal
  pub stands : Stands text tokens (first + 1) (words_of_windowed (select_in x)) (t_mark Close close) rest
  pub many : length (words_of_advised x) ≡ length (words_of_windowed (select_in x)) + 2

pub inner : (text : List ℕ) (tokens : List Token) (first : ℕ) (x : Advised) (next : Terminal) (rest : List Terminal) → Stands text tokens first (words_of_advised x) next rest → Inner text tokens first x
inner text tokens first (advised o x m) next rest s = record {
  close = m;
  rest = next ∷ rest;
  stands = record {
    are = behind text tokens first (t_mark Open o ∷ []) ((words_of_windowed x ++ t_mark Close m ∷ []) ++ next ∷ rest) s.are ∙ append_assoc (words_of_windowed x) (t_mark Close m ∷ []) (next ∷ rest);
    limits = s.limits;
  };
  many = let more = length-append (words_of_windowed x) (t_mark Close m ∷ []) in omega (arith, more);
}

pub part-at : (text : List ℕ) (tokens : List Token) (first end : ℕ) (x : WindowedSelect) (next : Terminal) (rest : List Terminal) → Stands text tokens first (words_of_windowed x) next rest → end ≡ first + length (words_of_windowed x) →
    IsPartAt text tokens first end x
part-at text tokens first end x next rest s at = record {
  within = let lt = stands-within text tokens first (words_of_windowed x) next rest s in omega (arith, lt, at);
  words = subst (λ (n : ℕ). words_of_windowed x ≡ terminals text (drop first (take n tokens))) (sym at) (front text tokens first (words_of_windowed x) (next ∷ rest) s.are);
  limits = s.limits;
}

-- its first token is its `(`
open-first : (x : Advised) (rest : List Terminal) (t : Token) (ts : List Token) → map token_in (words_of_advised x ++ rest) ≡ t ∷ ts → t ≡ open_token x
open-first (advised o x m) rest t ts is = cc (is)

pub open-at : (text : List ℕ) (tokens : List Token) (first : ℕ) (x : Advised) (rest : List Terminal) (d : Token) → terminals text (drop first tokens) ≡ words_of_advised x ++ rest → first < length tokens → get_or tokens first d ≡ open_token x
open-at text tokens first x rest d is lt =
    open-first x rest (get_or tokens first d) (drop (first + 1) tokens) (tokens-are (words_of_advised x ++ rest) text (drop first tokens) (sym is) ∙ drop_more tokens first d lt)

-- what is bound is a query, or has a fault
bound-query : (m : Result Bound Fault) (q : Query) → IsBoundAs m (Ok q) → IsQueryOf m (Ok q)
bound-query (Ok meant) q is = is
bound-query (Err fault) q is = is

bound-fault : (m : Result Bound Fault) (f : Fault) → IsBoundAs m (Err (refusal.Fault f)) → IsQueryOf m (Err f)
bound-fault (Ok meant) f is = is
bound-fault (Err fault) f is = is

module _ (c : Contents) (start : Token) (earlier : List Query) (x : Advised) where
  -- the seventeenth
  pub seventeenth : (t : Token) → length earlier ≡ MOST_QUERIES → t ≡ open_token x → QueryMeans c start earlier x (Err (fault_at (S15 Queries) t))
  seventeenth t many is =
      subst (λ (n : ℕ). IsQueryOf (query_bound c start n x) (Err (fault_at (S15 Queries) t))) (sym many) (ap (λ (u : Token). fault_at (S15 Queries) u) is)

  pub seventeenth-at : (text : List ℕ) (tokens : List Token) (first : ℕ) (given : List Token) (d : Token) (f : Fault) (next : Terminal) (rest : List Terminal) → Stands text tokens first (words_of_advised x) next rest →
      given ≡ tokens → f ≡ fault_at (S15 Queries) (get_or given first d) → length earlier ≡ MOST_QUERIES → QueryMeans c start earlier x (Err f)
  seventeenth-at text tokens first given d f next rest s same is many =
      let lt = stands-within text tokens first (words_of_advised x) next rest s in
      subst (λ (g : Fault). QueryMeans c start earlier x (Err g)) (sym (is ∙ ap (λ (ts : List Token). fault_at (S15 Queries) (get_or ts first d)) same))
      (seventeenth (get_or tokens first d) many (open-at text tokens first x (next ∷ rest) d s.are (omega (arith, lt))))

  below : length earlier < MOST_QUERIES → query_bound c start (length earlier) x ≡ bound_part c start (select_in x)
  below lt =
      let is : nat_lt (length earlier) MOST_QUERIES ≡ true = grind (arith, nat_tests, lt) in
      ap (λ b. cond b (bound_part c start (select_in x)) (Err (fault_at (S15 Queries) (open_token x)))) is

  -- a SELECT that has a fault of its own
  pub query-wrong : (f : Fault) → length earlier < MOST_QUERIES → IsBoundAs (bound_part c start (select_in x)) (Err (refusal.Fault f)) → QueryMeans c start earlier x (Err f)
  query-wrong f lt is = subst (λ m. IsQueryOf m (Err f)) (sym (below lt)) (bound-fault (bound_part c start (select_in x)) f is)

  -- a SELECT that means a query
  pub query-read : (q : Query) → length earlier < MOST_QUERIES → IsBoundAs (bound_part c start (select_in x)) (Ok q) → QueryMeans c start earlier x (Ok q)
  query-read q lt is = subst (λ m. IsQueryOf m (Ok q)) (sym (below lt)) (bound-query (bound_part c start (select_in x)) q is)

pub plannable-more : (c : Contents) (qs : List Query) (q : Query) → ArePlannable c qs → length qs < MOST_QUERIES → IsWellBound c q → IsClassTable (given_of c q) q.classes → ArePlannable c (qs ++ q ∷ [])
plannable-more c qs q all room bound classes = record {
  few = let many = length-append qs (q ∷ []) in omega (arith, room, many);
  bound = All-push (IsWellBound c) qs q all.bound bound;
  classes = All-push (λ (p : Query). IsClassTable (given_of c p) p.classes) qs q all.classes classes;
}

-- All SELECTs.

-- a word stands behind one
next-word : (xs : List Advised) (e : Ending) → (next : Terminal) × (rest : List Terminal) × (words_of_more_advised xs ++ words_of_ending e ≡ next ∷ rest)
next-word [] (semicolon t) = (t_semicolon t, [], refl)
next-word [] (text_end t) = (t_end t, [], refl)
next-word (advised o x m ∷ xs) e = (t_mark Open o, ((words_of_windowed x ++ t_mark Close m ∷ []) ++ words_of_more_advised xs) ++ words_of_ending e, refl)

-- some SELECTs were read, and the others are left at a token: what these mean behind them is what all mean
pub record Going (c : Contents) (start : Token) (text : List ℕ) (tokens : List Token) (found : List Query) (at : ℕ) (w : QueryRow) : Type 0 where
  pub left : List Advised
  pub are : terminals text (drop at tokens) ≡ words_of_more_advised left ++ words_of_ending w.ending
  pub limits : AreWithinLimits (terminals text tokens)
  pub levels : levels_of_more_advised left ≤ MOST_LEVELS
  pub reads : (r : Result (List Query) Fault) → AreRead Advised Query (QueryMeans c start) found left r → QueriesMean c start w.queries r

pub going : (c : Contents) (start : Token) (text : List ℕ) (tokens : List Token) (first : ℕ) (w : QueryRow) → QueryRowAt text tokens first w → Going c start text tokens [] first w
going c start text tokens first w at = record { left = w.queries; are = at.are; limits = at.limits; levels = at.levels; reads = λ r h. h }

-- one is left, and others behind it
pub record OneLeft (c : Contents) (start : Token) (text : List ℕ) (tokens : List Token) (found : List Query) (at : ℕ) (w : QueryRow) : Type 0 where
  pub query : Advised
  pub next : Terminal
  pub rest : List Terminal
  pub stands : Stands text tokens at (words_of_advised query) next rest
  pub low : levels_of_advised query ≤ MOST_LEVELS
  pub wrong : (f : Fault) → QueryMeans c start found query (Err f) → QueriesMean c start w.queries (Err f)
  pub on : (q : Query) (end : ℕ) → QueryMeans c start found query (Ok q) → end ≡ at + length (words_of_advised query) → Going c start text tokens (found ++ q ∷ []) end w

module _ (c : Contents) (start : Token) (text : List ℕ) (tokens : List Token) (found : List Query) (at : ℕ) (w : QueryRow) where
  left-by : (left : List Advised) → terminals text (drop at tokens) ≡ words_of_more_advised left ++ words_of_ending w.ending → AreWithinLimits (terminals text tokens) → levels_of_more_advised left ≤ MOST_LEVELS →
      ((r : Result (List Query) Fault) → AreRead Advised Query (QueryMeans c start) found left r → QueriesMean c start w.queries r) → (new : List Terminal) → Begins (t_mark Open) (terminals text (drop at tokens)) new →
      OneLeft c start text tokens found at w
  left-by [] are within low reads new (k, open') = absurd (by w.ending (sym are ∙ open'))
    where
      by : (e : Ending) → words_of_ending e ≡ t_mark Open k ∷ new → ⊥
      by (semicolon t) is = cc (is)
      by (text_end t) is = cc (is)
  left-by (x ∷ xs) are within low reads new begins =
      let (next, rest, is) = next-word xs w.ending in
      let split = are ∙ append_assoc (words_of_advised x) (words_of_more_advised xs) (words_of_ending w.ending) in
      record {
        query = x;
        next = next;
        rest = rest;
        stands = record { are = split ∙ ap (λ l. words_of_advised x ++ l) is; limits = within };
        low = omega (arith, low);
        wrong = λ f h. reads (Err f) (inl (f, h, refl));
        on = λ q end h place. record {
          left = xs;
          are = ap (λ n. terminals text (drop n tokens)) place ∙ behind text tokens at (words_of_advised x) (words_of_more_advised xs ++ words_of_ending w.ending) split;
          limits = within;
          levels = omega (arith, low);
          reads = λ r more. reads r (inr (q, h, more));
        };
      }

  pub one-left : Going c start text tokens found at w → (new : List Terminal) → Begins (t_mark Open) (terminals text (drop at tokens)) new → OneLeft c start text tokens found at w
  one-left g new begins = left-by g.left g.are g.limits g.levels g.reads new begins

  none-by : (left : List Advised) → terminals text (drop at tokens) ≡ words_of_more_advised left ++ words_of_ending w.ending → ((r : Result (List Query) Fault) → AreRead Advised Query (QueryMeans c start) found left r → QueriesMean c start w.queries r) →
      BeginsNot (t_mark Open) (terminals text (drop at tokens)) → QueriesMean c start w.queries (Ok found)
  none-by [] are reads none = reads (Ok found) refl
  none-by (advised o x m ∷ xs) are reads none = absurd (none (((words_of_windowed x ++ t_mark Close m ∷ []) ++ words_of_more_advised xs) ++ words_of_ending w.ending) (o, are))

  -- none is left
  pub none-left : Going c start text tokens found at w → BeginsNot (t_mark Open) (terminals text (drop at tokens)) → QueriesMean c start w.queries (Ok found)
  none-left g none = none-by g.left g.are g.reads none

-- what is handed on
pub one-fault : (c : Contents) (start : Token) (earlier : List Query) (first : ℕ) (x : Advised) (e : Refusal) (f : Fault) → e ≡ refusal.Fault f → TellsQuery c start earlier first x (Err e) → QueryMeans c start earlier x (Err f)
one-fault c start earlier first x e f is told = subst (λ (d : Refusal). TellsQuery c start earlier first x (Err d)) is told

pub stopped : (c : Contents) (start : Token) (w : QueryRow) (e : Refusal) (r : Result (Vec Query Global) Refusal) → ((f : Fault) → e ≡ refusal.Fault f → QueriesMean c start w.queries (Err f)) →
    IsErrAnd r (λ d. d ≡ e) → TellsQueries c start w r
stopped c start w e (Ok x) on told = absurd told
stopped c start w e (Err (refusal.Fault f)) on told = on f (sym told)
stopped c start w e (Err refusal.Memory) on told = tt

pub stopped-short : (c : Contents) (start : Token) (w : QueryRow) (r : Result (Vec Query Global) Refusal) → IsErrAnd r (λ d. d ≡ refusal.Memory) → TellsQueries c start w r
stopped-short c start w r told = stopped c start w refusal.Memory r (λ f is. absurd (cc (is))) told

pub query-stopped : (c : Contents) (start : Token) (earlier : List Query) (first : ℕ) (x : Advised) (e : Refusal) (r : Result OneQuery Refusal) → ((f : Fault) → e ≡ refusal.Fault f → QueryMeans c start earlier x (Err f)) →
    IsErrAnd r (λ d. d ≡ e) → TellsQuery c start earlier first x r
query-stopped c start earlier first x e (Ok y) on told = absurd told
query-stopped c start earlier first x e (Err (refusal.Fault f)) on told = on f (sym told)
query-stopped c start earlier first x e (Err refusal.Memory) on told = tt

pub bound-refused : (m : Result Bound Fault) (e : Refusal) (f : Fault) → e ≡ refusal.Fault f → IsBoundAs m (Err e) → IsBoundAs m (Err (refusal.Fault f))
bound-refused m e f is told = subst (λ (d : Refusal). IsBoundAs m (Err d)) is told

pub low-inside : (x : Advised) → levels_of_advised x ≤ MOST_LEVELS → levels_of_windowed (select_in x) ≤ MOST_LEVELS
low-inside (advised o x m) low = low

-- the token behind its `)`
pub query-ends : (text : List ℕ) (tokens : List Token) (first end : ℕ) (x : Advised) (next : Terminal) (rest : List Terminal) (s : Stands text tokens first (words_of_advised x) next rest) →
    end ≡ (first + 1) + length (words_of_windowed (select_in x)) → end + 1 ≡ first + length (words_of_advised x)
query-ends text tokens first end x next rest s at = let many = (inner text tokens first x next rest s).many in omega (arith, many, at)

pub query-ahead : (text : List ℕ) (tokens : List Token) (first end : ℕ) (x : Advised) (next : Terminal) (rest : List Terminal) (s : Stands text tokens first (words_of_advised x) next rest) →
    end ≡ (first + 1) + length (words_of_windowed (select_in x)) → (first < end + 1) × (end + 1 < length tokens)
query-ahead text tokens first end x next rest s at =
    let ends = query-ends text tokens first end x next rest s at in
    let lt = stands-within text tokens first (words_of_advised x) next rest s in
    (omega (arith, at), omega (arith, ends, lt))

-- a statement with a first token
pub record Ongoing (c : Contents) (text : List ℕ) (tokens : List Token) (found : List Query) (at : ℕ) : Type 0 where
  pub start : Token
  pub later : List Token
  pub whole : tokens ≡ start ∷ later
  pub row : QueryRow
  pub going : Going c start text tokens found at row

pub ongoing : (c : Contents) (text : List ℕ) (tokens : List Token) (first : ℕ) (found : List Query) (at : ℕ) → ((w : QueryRow) × QueryRowAt text tokens first w) →
    ((w : QueryRow) (start : Token) (later : List Token) → tokens ≡ start ∷ later → QueryRowAt text tokens first w → Going c start text tokens found at w) → Ongoing c text tokens found at
ongoing c text tokens first found at (w, there) on =
    let (next, rest, is) = next-word w.queries w.ending in
    let lt = ends-within text tokens first [] next rest (there.are ∙ is) in
    let (start, later, whole) = some-token tokens (omega (arith, lt)) in
    record { start = start; later = later; whole = whole; row = w; going = on w start later whole there }

-- what is told of one behind those that were found
pub one-wrong : (c : Contents) (start : Token) (earlier found : List Query) (first : ℕ) (x : Advised) (e : Refusal) (f : Fault) → earlier ≡ found → e ≡ refusal.Fault f → TellsQuery c start earlier first x (Err e) → QueryMeans c start found x (Err f)
one-wrong c start earlier found first x e f same is told = subst (λ (l : List Query). QueryMeans c start l x (Err f)) same (one-fault c start earlier first x e f is told)

pub one-meant : (c : Contents) (start : Token) (earlier found : List Query) (x : Advised) (q : Query) → earlier ≡ found → QueryMeans c start earlier x (Ok q) → QueryMeans c start found x (Ok q)
one-meant c start earlier found x q same told = subst (λ (l : List Query). QueryMeans c start l x (Ok q)) same told

pub room-for : (earlier found : List Query) → earlier ≡ found → length earlier < MOST_QUERIES → length found < MOST_QUERIES
room-for earlier found same lt = subst (λ (l : List Query). length l < MOST_QUERIES) same lt
