-- What the queries of a script come to, and the line that says so. Own.
use Rattle.std.specs.Prelude.{ℕ, ◌≡◌, List, [], ◌∷◌, ◌++◌, length, codes, Option}
use Rattle.std.specs.Fmt.{decimal}
use Rattle.std.specs.List.{sum, sum_by}
use Rattle.std.specs.Io.KnownBytes.{Appends}
use Rattle.pg_base.specs.Writing.{AppendsPrefix}
use Rattle.reply_text.specs.Lines.{fault_line}
use Rattle.statements.specs.reply_Measures.{IsBestPrice, rows_in}
use Rattle.sql_query.specs.Worlds.{empty_world}
use Rattle.statements.specs.Askings.{Asking, askings}
use Rattle.pgplan.specs.Runs.{ReachesFault}
use Rattle.statements.specs.Scripts.{AreAll, Worked, world_after}
use Rattle.pgplan.specs.Statuses.{IsTold}

-- the rows that the answers to queries have together: those of their meanings that OFFSET and LIMIT let through
abbrev pub rows_together : List Asking → ℕ
rows_together qs = sum_by (λ a. rows_in a.world a.query) qs

-- the prices of plans that no admissible ones undercut, one for each query
abbrev pub AreLeastPrices : List Asking → List ℕ → Type 0
AreLeastPrices [] [] = Unit {0}
AreLeastPrices (a ∷ qs) (price ∷ prices) = IsBestPrice a.world.contents a.query price × AreLeastPrices qs prices
AreLeastPrices _ _ = ⊥

-- there are so many queries, whose answers have so many rows together, and whose least prices come to this cost
pub record ComeTo (qs : List Asking) (queries rows cost : ℕ) : Type 0 where
  pub counted : queries ≡ length qs
  pub shown : rows ≡ rows_together qs
  pub prices : List ℕ
  pub least : AreLeastPrices qs prices
  pub priced : cost ≡ sum prices

-- all statements of a text were worked, and their queries come to these numbers
pub record AreSummed (text : List ℕ) (queries rows cost : ℕ) : Type 0 where
  pub statements : List Worked
  pub all : AreAll text statements
  pub come : ComeTo (askings empty_world statements) queries rows cost

-- the line of these numbers
abbrev pub summary_line : (queries rows cost : ℕ) → List ℕ
summary_line queries rows cost = codes "queries=" ++ (decimal queries ++ (codes " rows=" ++ (decimal rows ++ (codes " cost=" ++ (decimal cost ++ codes "\n")))))

-- all statements of a text were worked, and this line tells what their queries come to
pub record IsSummary (text line : List ℕ) : Type 0 where
  pub queries : ℕ
  pub rows : ℕ
  pub cost : ℕ
  pub summed : AreSummed text queries rows cost
  pub written : line ≡ summary_line queries rows cost

-- out gained that line, and no more
pub record IsSummedUp (text : List ℕ) (held held' : Option (List ℕ)) : Type 0 where
  pub line : List ℕ
  pub summary : IsSummary text line
  pub gained : Appends held held' line

-- out gained some first bytes of that line
pub record IsSummedInPart (text : List ℕ) (held held' : Option (List ℕ)) : Type 0 where
  pub line : List ℕ
  pub summary : IsSummary text line
  pub gained : AppendsPrefix held held' line

-- a fault of a text is reached; its line was printed, and out is as before
pub record TellsFaultAlone (text : List ℕ) (held held' errs errs' : Option (List ℕ)) (before now : ℕ) : Type 0 where
  pub reached : ReachesFault text
  pub told : IsTold errs errs' before now (fault_line (world_after empty_world reached.statements).contents text reached.fault)
  pub unwritten : held' ≡ held
