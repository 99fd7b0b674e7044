-- The plans that the nodes of entries make, and what entries have of them. Own.
use Rattle.std.specs.Prelude.{ℕ, ◌≡◌, Bool, List, MatchOption, Option, option_map}
use Rattle.pg_base.specs.declared.numbers.IndexNo.{IndexNo}
use Rattle.catalog.specs.Contents.{Contents}
use Rattle.eq_classes.specs.declared.classes.ClassNo.{ClassNo}
use Rattle.sql_query.specs.Queries.{Query, width}
use Rattle.pathkeys.specs.work.Finding.{class_numbers}
use Rattle.pathkeys.specs.Keys.{Keys}
use Rattle.plan_tree.specs.Least.{IsAdmissible}
use Rattle.plan_tree.specs.Plans.{Plan, bitmap, index, index_only, merge, nest, seq}
use Rattle.plan_tree.specs.Space.{IsBuilt}
use Rattle.plan_tree.specs.work.Views.{bits}
use Rattle.plan_tree.specs.declared.bits.BitTree.{BitTree as Tree}
use Rattle.plan_check.specs.work.Beating.{IsRight, candidate}
use Rattle.plan_check.specs.Certificates.{join_by, plan_at, plan_of, relation_in, side_at, sorted_if}
use Rattle.plan_check.specs.Tables.{HasItsPlan}
use Rattle.plan_check.specs.Views.{side}
use Rattle.plan_check.specs.work.Views.{certificate, entry}
use Rattle.plan_check.specs.declared.candidate.Candidate.{Candidate}
use Rattle.plan_check.specs.declared.certificate.Certificate.{Certificate as Certified}
use Rattle.plan_check.specs.declared.entry.Entry.{Entry as Entered}
use Rattle.entry_check.specs.work.Owning.{HasNone, HasOwn, HasPlanAt, IsOwn, plans_before}
use Rattle.entry_check.specs.declared.joins.Merging.{Merging}
use Rattle.entry_check.specs.declared.numbers.Own.{Own}

-- a sequential scan of the entry's relation, where its set has one
abbrev pub made_seq : Query → Entered → Option Plan
made_seq q e = option_map seq (relation_in (width q) e.set)

-- a scan of it by an index
abbrev pub made_index : Query → Entered → IndexNo → Bool → Option Plan
made_index q e i backward = option_map (λ r. index r i backward e.param) (relation_in (width q) e.set)

-- a scan of it by an index alone
abbrev pub made_index_only : Query → Entered → IndexNo → Bool → Option Plan
made_index_only q e i backward = option_map (λ r. index_only r i backward e.param) (relation_in (width q) e.set)

-- a scan of it by a bitmap tree
abbrev pub made_bitmap : Query → Entered → Tree → Option Plan
made_bitmap q e tree = option_map (λ r. bitmap r e.param (bits tree)) (relation_in (width q) e.set)

-- the plan of a number, where it is that of an entry before a place
abbrev pub plan_before : Query → Certified → ℕ → ℕ → Option Plan
plan_before q t n m = plan_at (plans_before q (certificate t) n) m

-- a nested loop of the plans of two numbers, where they are those of entries before a place
abbrev pub made_nest : Query → Certified → ℕ → ℕ → ℕ → Option Plan
made_nest q t n a b = join_by nest (plan_before q t n a) (plan_before q t n b)

-- a merge of such plans, as they stand or sorted
abbrev pub made_merge : Query → Certified → ℕ → Merging → Option Plan
made_merge q t n m = join_by (merge m.list.now)
    (side_at (plans_before q (certificate t) n) m.list.now (side m.outer))
    (side_at (plans_before q (certificate t) n) m.list.now (side m.inner))

-- what the entry at a place makes, of those before it
abbrev pub made_at : Query → Certified → ℕ → Entered → Option Plan
made_at q t n e = plan_of (width q) (plans_before q (certificate t) n) (entry e)

-- a right entry stands for the plan of a number before a place
abbrev pub HasPlanBefore : Contents → Query → Certified → ℕ → ℕ → Entered → Type 0
HasPlanBefore c q t n m e = HasPlanAt c q (plans_before q (certificate t) n) m (entry e)

-- numbers are found exactly where the plan that is made, if it is, is the entry's but for its numbers, and they are the plan's
abbrev pub FindsOwn : Contents → Query → Option Plan → Entered → Option Own → Type 0
FindsOwn c q made e found = MatchOption found (HasNone c q made (entry e)) (λ x. HasOwn c q made (entry e) x)

-- numbers are found exactly where a plan is the entry's but for its numbers, and they are the plan's
abbrev pub FindsOwnOf : Contents → Query → Entered → Plan → Option Own → Type 0
FindsOwnOf c q e p found = MatchOption found (¬ HasItsPlan c q (entry e) p) (λ x. IsOwn c q (entry e) p x)

-- an entry is a candidate but for its numbers, which are these, whatever plan the candidate stands for
abbrev pub HasCandidate : Entered → Candidate → Own → Type 0
HasCandidate e x own = (c : Contents) (q : Query) (p : Plan) → IsRight c q (candidate x) p → IsOwn c q (entry e) p own

-- an entry is not the candidate, whatever plan this stands for
abbrev pub HasOther : Entered → Candidate → Type 0
HasOther e x = (c : Contents) (q : Query) (p : Plan) → IsRight c q (candidate x) p → ¬ HasItsPlan c q (entry e) p

-- an entry is the nested loop of two right ones but for its numbers, which are these
abbrev pub HasOwnNest : Contents → Query → Entered → Entered → Entered → Own → Type 0
HasOwnNest c q e a b own = (o i : Plan) → IsRight c q (entry a) o → IsRight c q (entry b) i → IsOwn c q (entry e) (nest o i) own

-- an entry is not the nested loop of two right ones
abbrev pub HasNoNest : Contents → Query → Entered → Entered → Entered → Type 0
HasNoNest c q e a b = (o i : Plan) → IsRight c q (entry a) o → IsRight c q (entry b) i → ¬ HasItsPlan c q (entry e) (nest o i)

-- a merge of two plans, each as it stands or sorted
abbrev pub sides_merged : Merging → Plan → Plan → Plan
sides_merged m o i = merge m.list.now (sorted_if m.outer.sort m.list.now o) (sorted_if m.inner.sort m.list.now i)

-- an entry is such a merge of two right ones but for its numbers, which are these
abbrev pub HasOwnMerge : Contents → Query → Merging → Entered → Entered → Entered → Own → Type 0
HasOwnMerge c q m e a b own =
    (o i : Plan) → IsRight c q (entry a) o → IsRight c q (entry b) i → IsOwn c q (entry e) (sides_merged m o i) own

-- an entry is not the merge of two right ones, each as it stands or sorted
abbrev pub HasNoMerge : Contents → Query → Merging → Entered → Entered → Entered → Type 0
HasNoMerge c q m e a b =
    (o i : Plan) → IsRight c q (entry a) o → IsRight c q (entry b) i → ¬ HasItsPlan c q (entry e) (sides_merged m o i)

-- a candidate is the nested loop of two right entries
abbrev pub IsNestOf : Contents → Query → Entered → Entered → Candidate → Type 0
IsNestOf c q a b x = (o i : Plan) → IsRight c q (entry a) o → IsRight c q (entry b) i → IsRight c q (candidate x) (nest o i)

-- there is no admissible one
abbrev pub HaveNoNest : Contents → Query → Entered → Entered → Type 0
HaveNoNest c q a b =
    (o i : Plan) → IsRight c q (entry a) o → IsRight c q (entry b) i → IsBuilt c q (nest o i) → ¬ IsAdmissible c q (nest o i)

-- the merge of two plans by a list of classes, each as it stands or sorted
abbrev pub sorted_merge : List ClassNo → Bool × Bool → Plan → Plan → Plan
sorted_merge list sorts o i =
    merge (class_numbers list) (sorted_if sorts.0 (class_numbers list) o) (sorted_if sorts.1 (class_numbers list) i)

-- a candidate is the merge of two right entries
abbrev pub IsMergeOf : Contents → Query → List ClassNo → Bool × Bool → Entered → Entered → Candidate → Type 0
IsMergeOf c q list sorts a b x =
    (o i : Plan) → IsRight c q (entry a) o → IsRight c q (entry b) i → IsRight c q (candidate x) (sorted_merge list sorts o i)

-- there is no admissible one
abbrev pub HaveNoMerge : Contents → Query → List ClassNo → Bool × Bool → Entered → Entered → Type 0
HaveNoMerge c q list sorts a b =
    (o i : Plan) → IsRight c q (entry a) o → IsRight c q (entry b) i →
    IsBuilt c q (sorted_merge list sorts o i) → ¬ IsAdmissible c q (sorted_merge list sorts o i)
