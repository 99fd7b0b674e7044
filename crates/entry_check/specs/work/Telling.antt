-- What tests of entries and judgements tell. Own.
use Rattle.std.specs.Prelude.{ℕ, ◌≡◌, ◌↔◌, Bool, IsTrue, List, MatchOption, Option, Some, false, suc, true}
use Rattle.pg_base.specs.Sets.{has}
use Rattle.catalog.specs.Contents.{Contents}
use Rattle.cost_rules.specs.work.Costs.{capped_pair}
use Rattle.cost_rules.specs.declared.pair.Pair.{Pair}
use Rattle.eq_classes.specs.declared.classes.ClassNo.{ClassNo}
use Rattle.sql_query.specs.Queries.{Query, all_of_query}
use Rattle.pathkeys.specs.work.Finding.{class_numbers}
use Rattle.pathkeys.specs.Keys.{covers, order_keys}
use Rattle.plan_tree.specs.Costs.{cost, estimate}
use Rattle.plan_tree.specs.work.Costs.{HaveRows}
use Rattle.plan_tree.specs.Least.{IsAdmissible}
use Rattle.plan_tree.specs.work.Paths.{kept_cost}
use Rattle.plan_tree.specs.Plans.{Plan, param_of, set_of}
use Rattle.plan_tree.specs.Space.{IsEmpty, IsFinished, IsMergeList, IsSameSet, MeetsOrder}
use Rattle.plan_check.specs.work.Beating.{IsRight}
use Rattle.plan_check.specs.Certificates.{Certificate, finish_at, sorted_if}
use Rattle.plan_check.specs.work.Joining.{MayMerge}
use Rattle.plan_check.specs.Reasons.{AllRight, AreUndominated, IsBadNode, IsBadNumber, IsDifference}
use Rattle.plan_check.specs.Tables.{HasPlanNumbers}
use Rattle.plan_check.specs.Verdicts.{AreWhole, IsReason}
use Rattle.plan_check.specs.Views.{side}
use Rattle.plan_check.specs.work.Views.{certificate, entry}
use Rattle.plan_check.specs.declared.certificate.Certificate.{Certificate as Certified}
use Rattle.plan_check.specs.declared.entry.Entry.{Entry as Entered}
use Rattle.plan_check.specs.declared.entry.Side.{Side as Sided}
use Rattle.plan_check.specs.declared.judged.Judged.{Judged}
use Rattle.plan_check.specs.declared.verdict.Number.{Number}
use Rattle.plan_check.specs.declared.verdict.Reason.{Reason}
use Rattle.plan_check.specs.declared.verdict.Reason.TheVariants as reasons
use Rattle.entry_check.specs.work.Owning.{AreNumbersOf, IsFinishedSide}
use Rattle.entry_check.specs.declared.numbers.Own.{Own}

-- a test tells whether the plan of an entry reads all relations of the query, and is given no rows
abbrev pub TellsWhole : Query → Entered → Bool → Type 0
TellsWhole q e told = (c : Contents) (p : Plan) → IsRight c q (entry e) p →
    IsTrue told ↔ (IsSameSet (set_of p) (all_of_query q) × IsEmpty (param_of p))

-- a test tells whether the plan of an entry, as it stands or sorted, is in the order asked for
abbrev pub TellsOrdered : Query → Entered → Bool → Bool → Type 0
TellsOrdered q e sort told = (c : Contents) (p : Plan) → IsRight c q (entry e) p →
    IsTrue told ↔ MeetsOrder c q (sorted_if sort (order_keys q.classes q.order) p) (order_keys q.classes q.order)

-- an entry is the one whose plan a side finishes
abbrev pub IsEntryOfSide : Contents → Query → Certified → Sided → Entered → Type 0
IsEntryOfSide c q t s e = IsFinishedSide c q (certificate t) (side s) (entry e)

-- the plan of a side, if it has one, is not finished
abbrev pub IsUnfinishedSide : Contents → Query → Certified → Sided → Type 0
IsUnfinishedSide c q t s = (p : Plan) → finish_at q (certificate t) (side s) ≡ Some p → ¬ IsFinished c q p

-- the entries are right and the best plan is finished, and no entry is dominated
abbrev pub HasSoundEntries : Judged → Type 0
HasSoundEntries j = AreWhole j.cat.now j.q.now (certificate j.t.now) × AreUndominated j.cat.now j.q.now (certificate j.t.now)

-- a reason against the certificate that is judged
abbrev pub IsReasonAgainst : Judged → Reason → Type 0
IsReasonAgainst j r = IsReason j.cat.now j.q.now (certificate j.t.now) r

-- a kind of reason that is told by the entries and the best plan alone, without any plan besides them
abbrev pub IsOfEntries : Reason → Type 0
IsOfEntries (reasons.BadNode number) = Unit {0}
IsOfEntries (reasons.BadNumber number what printed own) = Unit {0}
IsOfEntries (reasons.Dominated number by) = Unit {0}
IsOfEntries (reasons.Uncovered node startup total rows) = ⊥
IsOfEntries (reasons.NotBest printed own) = ⊥

-- the first reason against the certificate that is judged, of those kinds
abbrev pub IsReasonOfEntries : Judged → Reason → Type 0
IsReasonOfEntries j r = IsReasonAgainst j r × IsOfEntries r

-- a fault of the entry at a place, from 0, under its number, where those before it have none: it is none of the plan space or
-- not as it says, or else the number named is its first that is not its plan's
abbrev pub IsFaultOf : Contents → Query → Certificate → ℕ → Reason → Type 0
IsFaultOf c q t n (reasons.BadNode number) = (number ≡ suc n) × IsBadNode c q t n
IsFaultOf c q t n (reasons.BadNumber number what printed own) = (number ≡ suc n) × IsBadNumber c q t n what printed own
IsFaultOf c q t n (reasons.Dominated number by) = ⊥
IsFaultOf c q t n (reasons.Uncovered node startup total rows) = ⊥
IsFaultOf c q t n (reasons.NotBest printed own) = ⊥

-- a fault of the first entry that has one
pub record IsFirstFault (c : Contents) (q : Query) (t : Certificate) (r : Reason) : Type 0 where
  pub place : ℕ
  pub fault : IsFaultOf c q t place r

-- the answer is none where all entries are right, else the fault of the first one that is not
abbrev pub JudgesEntries : Contents → Query → Certified → Option Reason → Type 0
JudgesEntries c q t found = MatchOption found (AllRight c q (certificate t)) (λ r. IsFirstFault c q (certificate t) r)

-- the first number of an entry that is not its own, with what the entry says and what it is
abbrev pub DiffersBy : Query → Entered → Own → Number → ℕ → ℕ → Type 0
DiffersBy q e own what printed is =
    (c : Contents) (p : Plan) → AreNumbersOf c q p own →
    IsDifference q.window (entry e) (cost c q p) (estimate c q p) what printed is

-- an entry says its own numbers
abbrev pub SaysNumbers : Query → Entered → Own → Type 0
SaysNumbers q e own = (c : Contents) (p : Plan) → AreNumbersOf c q p own → HasPlanNumbers c q (entry e) p

-- an entry has a list of a merge: it is sorted by it, or its keys begin with it
abbrev pub HasList : Entered → List ClassNo → Bool → Type 0
HasList e list sort = sort ≡ false → covers e.keys (class_numbers list) ≡ true

-- a list is one of a merge of the sets of two entries
abbrev pub IsMergeListOf : Contents → Query → Entered → Entered → List ClassNo → Type 0
IsMergeListOf c q a b list = IsMergeList c q (has a.set.0) (has b.set.0) (class_numbers list)

-- a test tells whether two entries may be the sides of a merge by a list that is one of their sets
abbrev pub TellsMayMerge : List ClassNo → Entered → Entered → Bool × Bool → Bool → Type 0
TellsMayMerge list a b sorts told =
    (c : Contents) (q : Query) → IsMergeList c q (has a.set.0) (has b.set.0) (class_numbers list) →
    IsTrue told ↔ MayMerge c q (class_numbers list) (entry a) (entry b) sorts.0 sorts.1

-- numbers are those of every plan with this cost, as a path keeps it, and these rows
abbrev pub AreNumbersFrom : Query → Pair → ℕ → Own → Type 0
AreNumbersFrom q own rows x = (c : Contents) (p : Plan) → HaveRows c q →
    own ≡ capped_pair (kept_cost q.window (cost c q p)) → rows ≡ estimate c q p → AreNumbersOf c q p x

-- no admissible plan has this cost
abbrev pub IsPastLimit : Query → Pair → Type 0
IsPastLimit q own = (c : Contents) (p : Plan) → own ≡ capped_pair (kept_cost q.window (cost c q p)) → ¬ IsAdmissible c q p
