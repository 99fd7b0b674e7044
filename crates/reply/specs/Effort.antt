-- What an answer fetches, and what it may look at: for all tuples of its plan, or under LIMIT for the first of them. Own; how
-- far a plan is drawn is PostgreSQL's (src/backend/executor/nodeLimit.c).
use Rattle.std.specs.Prelude.{ℕ, zero, suc, ◌≡◌, ◌+◌, ◌*◌, ◌≤◌, Bool, cond, nat_eq, nat_lt, List, [], ◌∷◌, length, Option, Some, None, IfSome}
use Rattle.sql_query.specs.Meaning.{windowed}
use Rattle.sql_query.specs.Queries.{Query}
use Rattle.sql_query.specs.Tuples.{no_rows}
use Rattle.sql_query.specs.Worlds.{World}
use Rattle.sql_query.specs.declared.window.Window.{Window}
use Rattle.plan_tree.specs.Counts.{MOST_READS, fetches, looks}
use Rattle.plan_tree.specs.Plans.{Plan}
use Rattle.executor.specs.Opening.{opening_fetches}
use Rattle.executor.specs.scan_exec_Coming.{Coming, coming, is_given, owed}
use Rattle.executor.specs.plan_laws_Closed.{is_scan}
use Rattle.reply.specs.Answers.{tuples_of}

-- by how much a count rises: at most by so much; once a reply is whole at least by so much, and by so much exactly where that
-- is given
pub record Rise : Type 0 where
  pub least : ℕ
  pub most : ℕ
  pub whole : Option ℕ

-- by so much, and on the way by no more
abbrev pub exactly : ℕ → Rise
exactly n = record { least = n; most = n; whole = Some n }

-- a count rose by no less and no more than that, and by just so much where that is given
pub record HasRisen (rise : Rise) (old new : ℕ) : Type 0 where
  pub above : old + rise.least ≤ new
  pub within : new ≤ old + rise.most
  pub exact : IfSome rise.whole (λ n. new ≡ old + n)

-- a list up to and with the n-th element that passes a test: nothing for 0, and all of it where fewer pass
abbrev pub through : {A : Type 0} → (A → Bool) → ℕ → List A → List A
through test zero xs = []
through test (suc n) [] = []
through test (suc n) (x ∷ xs) = x ∷ through test (cond (test x) n (suc n)) xs

-- how many tuples are passed over
abbrev pub offset_in : Option Window → ℕ
offset_in None = 0
offset_in (Some w) = w.offset

-- how many tuples are shown at most, where LIMIT is written
abbrev pub limit_in : Option Window → Option ℕ
limit_in None = None
limit_in (Some w) = w.limit

-- the number of the last tuple that is drawn, by how many are passed over and shown at most; none without LIMIT
abbrev pub last_by : ℕ → Option ℕ → Option ℕ
last_by offset None = None
last_by offset (Some limit) = Some (offset + limit)

-- the number of the last tuple that is drawn for the window of a query; none without LIMIT
abbrev pub last_in : Option Window → Option ℕ
last_in w = last_by (offset_in w) (limit_in w)

-- no tuple is drawn: nothing is fetched
abbrev pub fetched_for_none : Rise
fetched_for_none = exactly 0

-- a plan is drawn whole: its fetches in all
abbrev pub fetched_for_all : ℕ → Rise
fetched_for_all all = exactly all

-- a plan is drawn up to its n-th tuple: one scan fetches the rows that it comes to up to and with the n-th that it gives; joins
-- and sorts fetch no less than what comes before the first tuple, which is all that a sort fetches, and no more than in all
abbrev pub fetched_for_first : ℕ → ℕ → ℕ → Bool → List Coming → Rise
fetched_for_first n all opening scan rows = record { least = opening; most = all; whole = cond scan (Some (owed (through is_given n rows))) None }

-- the fetches for tuples up to the n-th, of so many that a plan gives for so many fetches in all, so many of which come before
-- the first tuple: none for no tuple, and all where the plan gives fewer than n
abbrev pub fetched_to : ℕ → ℕ → ℕ → ℕ → Bool → List Coming → Rise
fetched_to n given all opening scan rows =
    cond (nat_eq n 0) fetched_for_none (cond (nat_lt given n) (fetched_for_all all) (fetched_for_first n all opening scan rows))

-- the fetches for tuples up to the last one that is drawn: without LIMIT the plan is drawn whole
abbrev pub fetched_by : Option ℕ → ℕ → ℕ → ℕ → Bool → List Coming → Rise
fetched_by None given all opening scan rows = fetched_for_all all
fetched_by (Some n) given all opening scan rows = fetched_to n given all opening scan rows

-- the most looks, of so many that the plan takes in all, with 32 for each tuple shown; no tuple drawn takes none
abbrev pub looked_by : Option ℕ → ℕ → ℕ → ℕ
looked_by None all shown = all + MOST_READS * shown
looked_by (Some n) all shown = cond (nat_eq n 0) 0 (all + MOST_READS * shown)

module _ (w : World) (q : Query) (p : Plan) where
  -- what the answer by a plan fetches
  abbrev pub answer_fetches : Rise
  answer_fetches = fetched_by (last_in q.window) (length (tuples_of w q p)) (fetches w q p (no_rows q)) (opening_fetches w q p) (is_scan p) (coming w q p (no_rows q))

  -- how often it looks at most at an index entry or a row that was found already
  abbrev pub answer_looks : ℕ
  answer_looks = looked_by (last_in q.window) (looks w q p (no_rows q)) (length (windowed q.window (tuples_of w q p)))
