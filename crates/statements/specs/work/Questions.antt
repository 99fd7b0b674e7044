-- What a SELECT of either form asks over a store of its catalogue. Own.
use Rattle.std.specs.Prelude.{ℕ, ◌⊎◌, ◌≤◌, ◌<◌, Bool, true, false, List, length}
use Rattle.pg_base.specs.declared.limits.TheConstants.{MOST_SCRIPT_BYTES}
use Rattle.sql_lex.specs.declared.tokens.Token.{Token}
use Rattle.sql_lex.specs.Words.{AreWords}
use Rattle.sql_grammar.specs.Faults.{terminals}
use Rattle.sql_grammar.specs.Terminals.{Terminal}
use Rattle.catalog.specs.Contents.{Contents}
use Rattle.sql_query.specs.Grouped.{GroupedQuery}
use Rattle.sql_query.specs.Queries.{Query}
use Rattle.sql_query.specs.WellBound.{IsWellBound}
use Rattle.store.specs.work.Kept.{IsStoreOf}
use Rattle.plan_reply.specs.certificate_laws_Arms.{HasArmsInOrs}
use Rattle.query_reader.specs.work.Select.{AreGrouped, AreNoOther, AreSelect, is_explained}
use Rattle.query_reader.specs.Wanted.{wanted_by}
use Rattle.group_query.specs.Grouping.{IsWellGrouped}
use Rattle.group_reader.specs.declared.selected.Selected.{Selected}
use Rattle.group_reader.specs.declared.selected.Selected.TheVariants.{Plain, Grouped}
use Rattle.group_reply.specs.group_explain_Plans.{HasNoGroupPlan}
use Rattle.store.specs.Actions.{Action, answer_groups, explain_groups}
use Rattle.statements.specs.declared.using.Place.{Place}
use Rattle.statements.specs.Accepted.{action_asked, asked_as}
use Rattle.plan_tree.specs.Least.{HasNoPlan}

-- the tokens are a statement of more than its end, and of no other kind than a SELECT; the store is one of the catalogue
pub record IsQuestion {C F L : Type 0} (at : Place C F L) : Type 0 where
  pub short : length at.text.now ≤ MOST_SCRIPT_BYTES
  pub words : (from : ℕ) × AreWords at.text.now from at.tokens.now
  pub some : 1 < length at.tokens.now
  pub kind : AreNoOther at.text.now at.tokens.now
  pub store : IsStoreOf at.catalog.now at.store.now

-- behind EXPLAIN the plan of a grouped query is asked for, else its rows
abbrev pub groups_asked : Bool → GroupedQuery → Action
groups_asked true g = explain_groups g
groups_asked false g = answer_groups g

-- what these words, the first of which tell what is wanted, do of what is read of them
abbrev pub action_by : List Terminal → Selected → Action
action_by words (Plain q) = asked_as (wanted_by words) q
action_by words (Grouped g) = groups_asked (is_explained words) g

-- what these tokens do of it
abbrev pub asked_of : List ℕ → List Token → Selected → Action
asked_of text tokens s = action_by (terminals text tokens) s

-- what is asked of it
abbrev pub action_of : {C F L : Type 0} → Place C F L → Selected → Action
action_of at s = asked_of at.text.now at.tokens.now s

-- what is read is bound to the catalogue
abbrev pub IsBoundTo : Contents → Selected → Type 0
IsBoundTo c (Plain q) = IsWellBound c q × HasArmsInOrs q
IsBoundTo c (Grouped g) = IsWellGrouped c g

-- no plan of it is admissible
abbrev pub HasNoneOf : Contents → Selected → Type 0
HasNoneOf c (Plain q) = HasNoPlan c q
HasNoneOf c (Grouped g) = HasNoGroupPlan c g

-- the tokens are a SELECT, grouped or not
abbrev pub AreAnySelect : List ℕ → List Token → Type 0
AreAnySelect text tokens = AreSelect text tokens ⊎ AreGrouped text tokens

-- what is done of a query that does not group
abbrev pub asked_at : {C F L : Type 0} → Place C F L → Query → Action
asked_at at q = action_asked at.text.now at.tokens.now q

-- what is done of one that groups
abbrev pub groups_asked_at : {C F L : Type 0} → Place C F L → GroupedQuery → Action
groups_asked_at at g = groups_asked (is_explained (terminals at.text.now at.tokens.now)) g
