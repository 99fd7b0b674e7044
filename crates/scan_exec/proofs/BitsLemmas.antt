-- The scan of the rows that a bitmap tree holds, as it begins.
use Rattle.std.proofs.Common.{◌≡◌, ℕ, Bool, true, false, not, cond, nat_lt, List, [], ◌∷◌, length, refl, sym, ap, ◌∙◌, arith, ⊎_elim, All}
use Rattle.std.specs.List.{range_with_len}
use Rattle.std.proofs.lemmas.Bool.{cases_Bool, ltb-true}
use Rattle.pg_base.specs.Sets.{has}
use Rattle.pg_base.specs.declared.numbers.RelNo.{RelNo}
use Rattle.pg_base.specs.declared.numbers.Tid.{Tid}
use Rattle.pg_base.specs.declared.rel_set.RelSet.{RelSet}
use Rattle.pg_expr.specs.Cond.{Cond}
use Rattle.heap.specs.Stored.{Values}
use Rattle.heap.specs.work.TidSets.{TidSet, not_below}
use Rattle.heap.specs.work.Tuples.{padded}
use Rattle.catalog.specs.Contents.{Contents}
use Rattle.catalog.specs.Range.{Range}
use Rattle.eq_classes.proofs.ListLemmas.{in_filter}
use Rattle.sql_query.specs.Queries.{Query, width}
use Rattle.sql_query.specs.Tuples.{rows_of_relation}
use Rattle.sql_query.specs.Worlds.{world}
use Rattle.plan_tree.specs.Plans.{BitTree, bitmap}
use Rattle.plan_tree.specs.Run.{clauses_at, held, holds}
use Rattle.store.specs.work.Kept.{Kept}
use Rattle.scan_probes.specs.work.Scenes.{AreReadyAtRow}
use Rattle.scan_probes.specs.work.Values.{Given}
use Rattle.scan_exec.specs.Coming.{coming}
use Rattle.scan_exec.specs.work.Held.{set_held}
use Rattle.scan_exec.specs.work.Kinds.{rows_of}
use Rattle.scan_exec.specs.work.Scene.{IsScene}
use Rattle.scan_exec.proofs.BegunLemmas.{clauses_all_ready, fetched_are}
use Rattle.scan_exec.proofs.IndexLemmas.{in_range}
use Rattle.scan_exec.proofs.MovedLemmas.{moved}
use Rattle.scan_exec.proofs.NearLemmas.{clauses_near}

all_from_0 : (ns : List ℕ) → not_below 0 ns ≡ ns
all_from_0 [] = refl
all_from_0 (n ∷ ns) = ⊎_elim
    (λ (t : nat_lt n 0 ≡ true). let lt = ltb-true n 0 t in absurd (omega (arith, lt)))
    (λ (f : nat_lt n 0 ≡ false). ap (λ (b : Bool). cond (not b) (n ∷ not_below 0 ns) (not_below 0 ns)) f ∙ ap (λ (l : List ℕ). n ∷ l) (all_from_0 ns))
    (cases_Bool (nat_lt n 0))

module _ (c : Contents) (k : Kept) (q : Query) (r : RelNo) (p : RelSet) (outer : List Tid) (given : Given) (at : IsScene c k q r p outer given) (c' : Contents) (s' : Range) (r' : RelNo) (cls' : List Cond) (rows' : List Values) (ce : c' ≡ c) (se : s' ≡ q.range) (re : r' ≡ r) (ee : cls' ≡ clauses_at (world c k.stored) q r p) (we : rows' ≡ rows_of_relation (world c k.stored) q r) where
  pub bits_ready : All (AreReadyAtRow c' s' r'.0 given cls') rows'
  bits_ready = moved (λ a l e f h. All (AreReadyAtRow a l e.0 given f) h) c c' q.range s' r r' (clauses_at (world c k.stored) q r p) cls' (rows_of_relation (world c k.stored) q r) rows' ce se re ee we (clauses_all_ready c k q r p outer given at)

  module _ (tree : BitTree) (t : TidSet) (is : t ≡ set_held (world c k.stored) q r p tree (padded (width q) (has p.0) outer)) where
    pub bits_bound : t.bound ≡ length rows'
    bits_bound = ap (λ (x : TidSet). x.bound) is ∙ sym (ap length we)

    pub bits_begun : rows_of r'.0 given cls' rows' (not_below 0 t.members) ≡ coming (world c k.stored) q (bitmap r p tree) (padded (width q) (has p.0) outer)
    bits_begun =
        ap (rows_of r'.0 given cls' rows') (all_from_0 t.members ∙ ap (λ (x : TidSet). x.members) is)
        ∙ moved (λ a l e f h. rows_of e.0 given f h (held (world c k.stored) q r p tree (padded (width q) (has p.0) outer)) ≡ coming (world c k.stored) q (bitmap r p tree) (padded (width q) (has p.0) outer))
        c c' q.range s' r r' (clauses_at (world c k.stored) q r p) cls' (rows_of_relation (world c k.stored) q r) rows' ce se re ee we
        (fetched_are c k q r p outer given at (clauses_at (world c k.stored) q r p) (clauses_near c k q r p outer given at) (held (world c k.stored) q r p tree (padded (width q) (has p.0) outer))
        (λ n i. let lt = in_range 0 (length (rows_of_relation (world c k.stored) q r)) n (in_filter (λ row. holds (world c k.stored) q r p (padded (width q) (has p.0) outer) row tree) (range_with_len 0 (length (rows_of_relation (world c k.stored) q r))) n i).0 in omega (arith, lt)))
