-- Which joins a certificate that is judged covers: an entry dominates each admissible one; and which it misses. Own.
use Rattle.std.specs.Prelude.{◌≡◌, ◌<◌, ◌≤◌, ℕ, [], ◌∷◌, Bool, List, Option, Some, false, length, slice_get, suc}
use Rattle.pg_base.specs.Sets.{has}
use Rattle.pg_base.specs.declared.rel_set.RelSet.{RelSet}
use Rattle.catalog.specs.Contents.{Contents}
use Rattle.eq_classes.specs.declared.classes.ClassNo.{ClassNo}
use Rattle.sql_query.specs.Queries.{Query}
use Rattle.pathkeys.specs.work.Finding.{class_numbers}
use Rattle.pathkeys.specs.Keys.{Keys}
use Rattle.plan_tree.specs.Plans.{Plan, merge}
use Rattle.plan_tree.specs.Space.{IsMergeList}
use Rattle.plan_check.specs.Certificates.{Certificate, sorted_if, unfold_at}
use Rattle.plan_check.specs.work.Placing.{IsOf, place_at}
use Rattle.plan_check.specs.Plains.{StandsForPlan, keys_in}
use Rattle.plan_check.specs.work.Views.{certificate}
use Rattle.plan_check.specs.declared.judged.Judged.{Judged}
use Rattle.plan_check.specs.declared.verdict.Plain.{Plain}
use Rattle.entry_check.specs.declared.merges.MergeWork.{MergeWork}
use Rattle.entry_check.specs.declared.nests.NestWork.{NestWork}
use Rattle.join_cover.specs.work.Serving.{AreJoinsOf, AreJoinsServed, AreMergesBy, AreMergesOf, AreNestsBy, AreNestsOf, AreSides, AreThirdsServed, IsFirstServed, IsJoinOfSets, IsMergeBy, IsMergeOfSets, IsMergeOpen, IsMergeServed, IsNestServed, IsOpen, IsRowServed, IsSecondServed, IsThirdServed}
use Rattle.join_cover.specs.declared.uncovered.Uncovered.{Uncovered}
use Rattle.plan_check.specs.declared.verdict.Plain.TheVariants as plain

-- the certificate misses a candidate: no entry dominates it, and these are its numbers
abbrev pub Misses : Judged → Plain × Uncovered → Type 0
Misses j r = IsOpen j.cat.now j.q.now (certificate j.t.now) r.0 r.1

-- the certificate misses a merge by the list of the work, of entries of its two sets
abbrev pub MissesWork : Judged → MergeWork → Plain × Uncovered → Type 0
MissesWork j work r = IsMergeBy (certificate j.t.now) (class_numbers work.list.now) work.outer.0 work.inner.0 r.0 × Misses j r

-- the certificate misses a merge of entries of two sets
abbrev pub MissesMerges : Judged → RelSet → RelSet → Plain × Uncovered → Type 0
MissesMerges j outer inner r = IsMergeOfSets (certificate j.t.now) outer.0 inner.0 r.0 × Misses j r

-- the certificate misses a join of entries of two sets
abbrev pub MissesJoinOf : Judged → RelSet → RelSet → Plain × Uncovered → Type 0
MissesJoinOf j outer inner r = IsJoinOfSets (certificate j.t.now) outer.0 inner.0 r.0 × Misses j r

-- the certificate misses a join of entries of any two sets
abbrev pub MissesJoin : Judged → Plain × Uncovered → Type 0
MissesJoin j r = (outer : RelSet) × (inner : RelSet) × MissesJoinOf j outer inner r

-- the certificate covers all merges of the entries of two sets
abbrev pub CoversMerges : Judged → RelSet → RelSet → Type 0
CoversMerges j outer inner = AreMergesOf j.cat.now j.q.now (certificate j.t.now) outer.0 inner.0

-- the certificate covers all joins of the entries of two sets
abbrev pub CoversJoins : Judged → RelSet → RelSet → Type 0
CoversJoins j outer inner = AreJoinsOf j.cat.now j.q.now (certificate j.t.now) outer.0 inner.0

-- the certificate covers the joins of the entries of a set with those of each set of no greater number than another
abbrev pub CoversJoinsUpTo : Judged → RelSet → RelSet → Type 0
CoversJoinsUpTo j outer all = (y : ℕ) → y ≤ all.0 → AreJoinsOf j.cat.now j.q.now (certificate j.t.now) outer.0 y

-- the certificate covers all joins of entries
abbrev pub CoversAllJoins : Judged → Type 0
CoversAllJoins j = AreJoinsServed j.cat.now j.q.now (certificate j.t.now)

-- a list is one of a merge of two sets
abbrev pub IsListOfSets : Judged → RelSet × RelSet → Keys → Type 0
IsListOfSets j sets keys = IsMergeList j.cat.now j.q.now (has sets.0.0) (has sets.1.0) keys

-- the certificate covers the merges of the entries of two sets by a list
abbrev pub CoversMergesBy : Judged → List ClassNo → RelSet × RelSet → Type 0
CoversMergesBy j list sets = AreMergesBy j.cat.now j.q.now (certificate j.t.now) (class_numbers list) sets.0.0 sets.1.0

-- the certificate covers the merges of two sets by a list of three classes, where the last is another than the first two
abbrev pub CoversThree : Judged → ClassNo × ClassNo × ClassNo → RelSet × RelSet → Type 0
CoversThree j list sets = IsThirdServed j.cat.now j.q.now (certificate j.t.now) list.0 list.1 sets.0.0 sets.1.0 list.2

-- the certificate covers the merges of two sets by the lists of three that begin with two classes, the third one of those found
abbrev pub CoversThirds : Judged → List (Option ClassNo) → ClassNo × ClassNo → RelSet × RelSet → Type 0
CoversThirds j found two sets = AreThirdsServed j.cat.now j.q.now (certificate j.t.now) found two.0 two.1 sets.0.0 sets.1.0

-- the certificate covers the merges of two sets by the lists that begin with two classes
abbrev pub CoversSecond : Judged → List (Option ClassNo) → ClassNo × ClassNo → RelSet × RelSet → Type 0
CoversSecond j found two sets = IsSecondServed j.cat.now j.q.now (certificate j.t.now) found two.0 two.1 sets.0.0 sets.1.0

-- the certificate covers the merges of two sets by the lists that begin with one class and have another of those found behind
-- it
abbrev pub CoversSeconds : Judged → List (Option ClassNo) → ClassNo → RelSet × RelSet → Type 0
CoversSeconds j found first sets = (n : ℕ) (y : ClassNo) → slice_get found n ≡ Some (Some y) →
    IsSecondServed j.cat.now j.q.now (certificate j.t.now) found first y sets.0.0 sets.1.0

-- the certificate covers the merges of two sets by the lists that begin with one class
abbrev pub CoversFirst : Judged → List (Option ClassNo) → ClassNo → RelSet × RelSet → Type 0
CoversFirst j found first sets = IsFirstServed j.cat.now j.q.now (certificate j.t.now) found first sets.0.0 sets.1.0

-- the certificate covers the merges of two sets by the lists that begin with any of the classes found
abbrev pub CoversFirsts : Judged → List (Option ClassNo) → RelSet × RelSet → Type 0
CoversFirsts j found sets = (n : ℕ) (x : ClassNo) → slice_get found n ≡ Some (Some x) →
    IsFirstServed j.cat.now j.q.now (certificate j.t.now) found x sets.0.0 sets.1.0

-- data stands for the merge of the plans of two places, from 0, each as it stands or sorted
abbrev pub IsNodeOfMerge : List ClassNo → ℕ × ℕ → Bool × Bool → Plain → Type 0
IsNodeOfMerge list at sorts node = (c : Contents) (q : Query) (t : Certificate) (o i : Plan) →
    unfold_at q t (suc at.0) ≡ Some o → unfold_at q t (suc at.1) ≡ Some i →
    StandsForPlan c q t node
    (merge (class_numbers list) (sorted_if sorts.0 (class_numbers list) o) (sorted_if sorts.1 (class_numbers list) i))

-- data names the entries at two places, from 0, for a merge by a list
abbrev pub IsMergeNode : List ClassNo → ℕ × ℕ → Plain → Type 0
IsMergeNode list at (plain.Merge keys outer inner) =
    (keys_in keys ≡ class_numbers list) × (outer.entry ≡ suc at.0) × (inner.entry ≡ suc at.1)
IsMergeNode list at (plain.Seq r) = ⊥
IsMergeNode list at (plain.Index r i backward only param) = ⊥
IsMergeNode list at (plain.Bitmap r param elements arms) = ⊥
IsMergeNode list at (plain.Nest outer inner) = ⊥

-- the list that merges of two sets have in common is one of a merge of them
abbrev pub HasMergeList : Judged → MergeWork → Type 0
HasMergeList j work = IsMergeList j.cat.now j.q.now (has work.outer.0) (has work.inner.0) (class_numbers work.list.now)

-- the certificate covers the merge of the entries at two places, each as it stands or sorted, where they are of the two sets
abbrev pub CoversMerge : Judged → MergeWork → ℕ × ℕ → Bool × Bool → Type 0
CoversMerge j work at sorts =
    IsOf (certificate j.t.now).entries work.outer.0 at.0 → IsOf (certificate j.t.now).entries work.inner.0 at.1 →
    IsMergeServed j.cat.now j.q.now (certificate j.t.now) (class_numbers work.list.now) sorts.0 sorts.1 at.0 at.1

-- the certificate misses the merge of the entries at two places, each as it stands or sorted, and they are of the two sets
abbrev pub MissesMerge : Judged → MergeWork → ℕ × ℕ → Bool × Bool → Uncovered → Type 0
MissesMerge j work at sorts x =
    IsOf (certificate j.t.now).entries work.outer.0 at.0 × IsOf (certificate j.t.now).entries work.inner.0 at.1 ×
    IsMergeOpen j.cat.now j.q.now (certificate j.t.now) (class_numbers work.list.now) sorts.0 sorts.1 at.0 at.1 x

-- the certificate covers the merges of the outer entry at a place, sorted or not, with all inner ones as they stand
abbrev pub CoversPlain : Judged → MergeWork → ℕ → Bool → Type 0
CoversPlain j work k sort = IsOf (certificate j.t.now).entries work.outer.0 k → (l : ℕ) →
    IsMergeServed j.cat.now j.q.now (certificate j.t.now) (class_numbers work.list.now) sort false k l

-- the certificate covers the merges of the outer entry at a place, sorted or not, with the inner ones at the ranks from one on
-- and before another, as they stand
abbrev pub CoversPlainIn : Judged → MergeWork → ℕ × Bool → ℕ × ℕ → Type 0
CoversPlainIn j work at within = (l : ℕ) → within.0 ≤ l → l < within.1 →
    IsOf (certificate j.t.now).entries work.outer.0 at.0 → IsOf (certificate j.t.now).entries work.inner.0 (place_at j.places.now l) →
    IsMergeServed j.cat.now j.q.now (certificate j.t.now) (class_numbers work.list.now) at.1 false at.0 (place_at j.places.now l)

-- the certificate covers the merges of the outer entry at a place, sorted or not, with all inner ones as they stand, and with
-- the one at a place sorted
abbrev pub CoversRow : Judged → MergeWork → ℕ → Bool → ℕ → Type 0
CoversRow j work k sort least =
    IsRowServed j.cat.now j.q.now (certificate j.t.now) (class_numbers work.list.now) work.outer.0 work.inner.0 k sort least

-- the certificate covers the merges of each outer entry at the ranks from one on and before another, as it stands, with all
-- inner ones as they stand, and with the one at a place sorted
abbrev pub CoversRowsIn : Judged → MergeWork → ℕ × ℕ → ℕ → Type 0
CoversRowsIn j work within least = (k : ℕ) → within.0 ≤ k → k < within.1 →
    IsRowServed j.cat.now j.q.now (certificate j.t.now) (class_numbers work.list.now) work.outer.0 work.inner.0 (place_at j.places.now k) false least

-- the certificate covers all merges of two sets by the list of the work
abbrev pub CoversWork : Judged → MergeWork → Type 0
CoversWork j work = AreMergesBy j.cat.now j.q.now (certificate j.t.now) (class_numbers work.list.now) work.outer.0 work.inner.0

-- the certificate covers the nested loop of the entries at two places, where they are of the two sets
abbrev pub CoversNest : Judged → NestWork → ℕ → ℕ → Type 0
CoversNest j work k l = IsOf (certificate j.t.now).entries work.outer.0 k → IsOf (certificate j.t.now).entries work.inner.0 l →
    IsNestServed j.cat.now j.q.now (certificate j.t.now) k l

-- the certificate misses the nested loop of the entries at two places, and they are of the two sets
abbrev pub MissesNestAt : Judged → NestWork → ℕ → ℕ → Uncovered → Type 0
MissesNestAt j work k l x =
    IsOf (certificate j.t.now).entries work.outer.0 k × IsOf (certificate j.t.now).entries work.inner.0 l ×
    IsOpen j.cat.now j.q.now (certificate j.t.now) (plain.Nest (suc k) (suc l)) x

-- the certificate covers the nested loops of the outer entry at a place with inner ones at the ranks from one on and before
-- another
abbrev pub CoversNestsIn : Judged → NestWork → ℕ → ℕ × ℕ → Type 0
CoversNestsIn j work k within = (l : ℕ) → within.0 ≤ l → l < within.1 →
    IsOf (certificate j.t.now).entries work.outer.0 k → IsOf (certificate j.t.now).entries work.inner.0 (place_at j.places.now l) →
    IsNestServed j.cat.now j.q.now (certificate j.t.now) k (place_at j.places.now l)

-- the certificate misses the nested loop of the outer entry at a place with the inner one found
abbrev pub MissesNestWith : Judged → NestWork → ℕ → ℕ × Uncovered → Type 0
MissesNestWith j work k r = (r.0 < length (certificate j.t.now).entries) × MissesNestAt j work k r.0 r.1

-- the certificate covers the nested loops of the entries of two sets at two stretches of ranks
abbrev pub CoversNestsBy : Judged → NestWork → ℕ × ℕ → ℕ × ℕ → Type 0
CoversNestsBy j work outer inner = AreNestsBy j.cat.now j.q.now (certificate j.t.now) j.places.now work.outer.0 work.inner.0 outer inner

-- the certificate covers all nested loops of the entries of two sets
abbrev pub CoversNestsOf : Judged → RelSet → RelSet → Type 0
CoversNestsOf j outer inner = AreNestsOf j.cat.now j.q.now (certificate j.t.now) outer.0 inner.0

-- the certificate misses the nested loop of the entries of two numbers, and they are of two sets
abbrev pub MissesNest : Judged → RelSet → RelSet → ℕ × ℕ × Uncovered → Type 0
MissesNest j outer inner r = AreSides (certificate j.t.now) outer.0 inner.0 r.0 r.1 × IsOpen j.cat.now j.q.now (certificate j.t.now) (plain.Nest r.0 r.1) r.2
