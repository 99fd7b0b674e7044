-- Which entry dominates another, by what both say. Own.
use Rattle.std.specs.Prelude.{◌≡◌, ◌≢◌, ◌<◌, ◌&&◌, ℕ, Bool, true, false, nat_eq, nat_le, List, length, get_or, Option, map, ◌≤◌}
use Rattle.catalog.specs.Contents.{Contents}
use Rattle.sql_query.specs.Queries.{Query}
use Rattle.sql_query.specs.declared.window.Window.{Window}
use Rattle.pg_base.specs.declared.rel_set.RelSet.{RelSet}
use Rattle.pathkeys.specs.work.Finding.{class_numbers}
use Rattle.pathkeys.specs.Keys.{Keys, covers}
use Rattle.plan_tree.specs.Paths.{startup_kept}
use Rattle.plan_tree.specs.Plans.{Plan}
use Rattle.plan_check.specs.Certificates.{Entry, by_seq}
use Rattle.plan_check.specs.Tables.{HasPlanNumbers, HasItsPlan}
use Rattle.plan_check.specs.declared.candidate.Candidate.{Candidate}
use Rattle.plan_check.specs.declared.entry.Entry.{Entry as Entered}
use Rattle.plan_check.specs.work.Views.{entry}
use Rattle.plan_check.specs.work.Placing.{place_at}
use Rattle.plan_check.specs.declared.places.SetPlaces.{SetPlaces}

-- equal set and parameterisation, no greater numbers, keys that begin with the other's; the startup counts where the
-- query has a window
abbrev pub beats : Option Window → Entry → Entry → Bool
beats w a b =
    nat_eq a.set.0 b.set.0 && (nat_eq a.param.0 b.param.0 && (nat_le (startup_kept w a.startup) (startup_kept w b.startup) && (nat_le a.cost b.cost && covers a.keys b.keys)))

-- an entry says what its plan is
pub record IsRight (c : Contents) (q : Query) (e : Entry) (p : Plan) : Type 0 where
  pub has : HasItsPlan c q e p
  pub numbers : HasPlanNumbers c q e p

-- the entry at one place, from 0, beats that at another; it does not, or is the same
abbrev pub IsBeater : Option Window → List Entry → ℕ → ℕ → Type 0
IsBeater w es m n = (m < length es) × (m ≢ n) × ((d : Entry) → beats w (get_or es m d) (get_or es n d) ≡ true)

-- by what the two say, the entry at the second place, from 0, does not dominate that at the first, or is the same
abbrev pub IsNoBeater : Option Window → List Entry → ℕ → ℕ → Type 0
IsNoBeater w es n m = m ≢ n → (d : Entry) → beats w (get_or es m d) (get_or es n d) ≡ false

-- a candidate as an entry would say it
abbrev pub as_entry : RelSet → RelSet → ℕ → ℕ → ℕ → Keys → Entry
as_entry set param startup total rows keys = record { set = set; param = param; node = by_seq; startup = startup; cost = total; rows = rows; keys = keys }

-- a candidate of the program as an entry would say it
abbrev pub candidate : Candidate → Entry
candidate x = as_entry x.set x.param x.startup x.cost x.rows (class_numbers x.keys.now)

-- some entry beats it; none does
pub record IsBeaten (w : Option Window) (es : List Entry) (e : Entry) : Type 0 where
  pub place : ℕ
  pub within : place < length es
  pub beaten : (d : Entry) → beats w (get_or es place d) e ≡ true

-- by what they say, no entry of a list dominates it
abbrev pub IsUnbeaten : Option Window → List Entry → Entry → Type 0
IsUnbeaten w es e = (k : ℕ) → k < length es → (d : Entry) → beats w (get_or es k d) e ≡ false

-- no entry at the ranks from one on and before another dominates that at a place, or it is the same
abbrev pub HasNoBeaterIn : Query → List Entered → SetPlaces → ℕ × ℕ → ℕ → Type 0
HasNoBeaterIn q es p within n = (i : ℕ) → within.0 ≤ i → i < within.1 → IsNoBeater q.window (map entry es) n (place_at p i)

-- no entry at the places before one dominates that at a place, or it is the same
abbrev pub HasNoBeaterBefore : Query → List Entered → ℕ → ℕ → Type 0
HasNoBeaterBefore q es past n = (k : ℕ) → k < past → IsNoBeater q.window (map entry es) n k

-- no entry at the places before one is dominated by another
abbrev pub AreUnbeatenBefore : Query → List Entered → ℕ → Type 0
AreUnbeatenBefore q es past = (n k : ℕ) → n < past → k < length es → IsNoBeater q.window (map entry es) n k

-- some entry of the program's dominates a candidate of its
abbrev pub IsBeatenCandidate : Query → List Entered → Candidate → Type 0
IsBeatenCandidate q es x = IsBeaten q.window (map entry es) (candidate x)

-- no entry of the program's dominates a candidate of its
abbrev pub IsUnbeatenCandidate : Query → List Entered → Candidate → Type 0
IsUnbeatenCandidate q es x = IsUnbeaten q.window (map entry es) (candidate x)

-- the entry at a place does not dominate a candidate
abbrev pub IsUnbeatenAt : Query → List Entered → Candidate → ℕ → Type 0
IsUnbeatenAt q es x k = (d : Entry) → beats q.window (get_or (map entry es) k d) (candidate x) ≡ false

-- none at the ranks from one on and before another does
abbrev pub IsUnbeatenIn : Query → List Entered → Candidate → SetPlaces → ℕ × ℕ → Type 0
IsUnbeatenIn q es x p within = (i : ℕ) → within.0 ≤ i → i < within.1 → IsUnbeatenAt q es x (place_at p i)
