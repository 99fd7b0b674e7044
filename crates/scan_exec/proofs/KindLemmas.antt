-- A plan by its kind of scan: what each kind is asked for, and what it comes to and looks at.
use Rattle.std.proofs.Common.{◌≡◌, ◌+◌, ◌<◌, ◌≤◌, ℕ, zero, suc, Bool, true, false, cond, List, map, sym, ap, ap₂, ◌∙◌, subst, arith, ⊎_elim}
use Rattle.std.specs.Prelude.{nat_eq}
use Rattle.std.proofs.lemmas.Bool.{cases_Bool, eqb-true}
use Rattle.pg_base.specs.Sets.{has}
use Rattle.pg_base.specs.declared.numbers.IndexNo.{IndexNo}
use Rattle.pg_base.specs.declared.numbers.RelNo.{RelNo}
use Rattle.pg_base.specs.declared.rel_set.RelSet.{RelSet}
use Rattle.pg_base.proofs.SetLaws.{has-zero}
use Rattle.pg_base.specs.declared.numbers.Tid.{Tid}
use Rattle.heap.specs.Stored.{Stored}
use Rattle.heap.specs.Tuples.{rank, relation_count}
use Rattle.heap.specs.work.Tuples.{padded}
use Rattle.heap.proofs.RankLemmas.{rank-most, rank-out, rank-zero}
use Rattle.catalog.specs.Contents.{Contents, index_at}
use Rattle.sql_query.specs.Queries.{Query, width}
use Rattle.sql_query.specs.Tuples.{Tuple}
use Rattle.sql_query.specs.WellBound.{IsWellBound}
use Rattle.sql_query.specs.Worlds.{IsWorld, World, world}
use Rattle.plan_tree.specs.declared.bits.BitTree.{BitTree as Bits}
use Rattle.plan_tree.specs.declared.plan.Plan.{Plan as Planned, Seq, Index, IndexOnly, Bitmap}
use Rattle.plan_tree.specs.Counts.{given_looks, looks, tree_looks}
use Rattle.plan_tree.specs.Plans.{Plan, seq, index, index_only, bitmap, sort, nest, merge}
use Rattle.plan_tree.specs.Run.{clauses_at, in_scan_direction, held}
use Rattle.plan_tree.specs.Space.{IsBitmapScan, IsBuilt, IsIndexOnlyScan, IsIndexScan}
use Rattle.plan_tree.specs.work.Views.{bits, plan}
use Rattle.scan_exec.specs.Coming.{Coming, bounded, coming, entry_row, index_coming}
use Rattle.scan_exec.specs.work.Coming.{looks_allowed}
use Rattle.store.specs.work.Kept.{IsStoreOf, Kept}
use Rattle.scan_probes.specs.work.Scenes.{AreRowsOf, IsOverWorld}
use Rattle.scan_probes.specs.work.Values.{Given, tuple_given}
use Rattle.scan_exec.specs.work.Scene.{IsScene}
use Rattle.scan_exec.specs.work.Plans.{IsScan, param_set, relation_of}
use Rattle.scan_exec.proofs.ComingLemmas.{fetched_allowed, looked_rows}

-- the reads of the rows given are within those that a plan allows for them
none_rank : (set : ℕ → Bool) → ((k : ℕ) → set k ≡ false) → (n : ℕ) → rank set n ≡ 0
none_rank set none zero = rank-zero set
none_rank set none (suc n) =
    let e : suc n ≡ n + 1 = omega arith in
    ap (rank set) e ∙ rank-out set n (none n) ∙ none_rank set none n

pub given_most : (w : World) (q : Query) (s : RelSet) → relation_count s ≤ given_looks w q s
given_most w q s = ⊎_elim
    (λ (t : nat_eq s.0 0 ≡ true).
    let zero_is : s.0 ≡ 0 = eqb-true s.0 0 t in
    let none : rank (has s.0) 16 ≡ 0 = none_rank (has s.0) (λ k. ap (λ (a : ℕ). has a k) zero_is ∙ has-zero k) 16 in
    omega (arith, none))
    (λ (f : nat_eq s.0 0 ≡ false).
    let most = rank-most (has s.0) 16 in
    let all : given_looks w q s ≡ 32 = ap (λ (b : Bool). cond b 0 32) f in
    omega (arith, most, all))
    (cases_Bool (nat_eq s.0 0))

module _ (w : World) (q : Query) (o : Tuple) (p : Planned) (r : RelNo) (s : RelSet) (re : r ≡ relation_of (plan p)) (pe : s ≡ param_set (plan p)) where
  rel_is : (x : Planned) → p ≡ x → r ≡ relation_of (plan x)
  rel_is x is = re ∙ ap (λ (y : Planned). relation_of (plan y)) is

  param_is : (x : Planned) → p ≡ x → s ≡ param_set (plan x)
  param_is x is = pe ∙ ap (λ (y : Planned). param_set (plan y)) is

  coming_is : (x : Planned) → p ≡ x → coming w q (plan p) o ≡ coming w q (plan x) o
  coming_is x is = ap (λ (y : Planned). coming w q (plan y) o) is

  pub seq_kind : (rel : RelNo) → p ≡ Seq rel → coming w q (seq r) o ≡ coming w q (plan p) o
  seq_kind rel is = ap (λ (x : RelNo). coming w q (seq x) o) (rel_is (Seq rel) is) ∙ sym (coming_is (Seq rel) is)

  module _ (built : IsBuilt w.contents q (plan p)) where
    pub index_kind : (rel : RelNo) (i : IndexNo) (b : Bool) (param : RelSet) → p ≡ Index rel i b param → IsIndexScan w.contents q r i b s
    index_kind rel i b param is =
        subst (λ (x : RelNo). IsIndexScan w.contents q x i b s) (sym (rel_is (Index rel i b param) is))
        (subst (λ (x : RelSet). IsIndexScan w.contents q rel i b x) (sym (param_is (Index rel i b param) is)) (subst (λ (y : Planned). IsBuilt w.contents q (plan y)) is built))

    pub only_kind : (rel : RelNo) (i : IndexNo) (b : Bool) (param : RelSet) → p ≡ IndexOnly rel i b param → IsIndexOnlyScan w.contents q r i b s
    only_kind rel i b param is =
        subst (λ (x : RelNo). IsIndexOnlyScan w.contents q x i b s) (sym (rel_is (IndexOnly rel i b param) is))
        (subst (λ (x : RelSet). IsIndexOnlyScan w.contents q rel i b x) (sym (param_is (IndexOnly rel i b param) is)) (subst (λ (y : Planned). IsBuilt w.contents q (plan y)) is built))

    pub bits_kind : (rel : RelNo) (param : RelSet) (t : Bits) → p ≡ Bitmap rel param t → IsBitmapScan w.contents q r s (bits t)
    bits_kind rel param t is =
        subst (λ (x : RelNo). IsBitmapScan w.contents q x s (bits t)) (sym (rel_is (Bitmap rel param t) is))
        (subst (λ (x : RelSet). IsBitmapScan w.contents q rel x (bits t)) (sym (param_is (Bitmap rel param t) is)) (subst (λ (y : Planned). IsBuilt w.contents q (plan y)) is built))

  pub index_comes : (rel : RelNo) (i : IndexNo) (b : Bool) (param : RelSet) → p ≡ Index rel i b param → index_coming w q (index_at w.contents i).method r i b s o ≡ coming w q (plan p) o
  index_comes rel i b param is =
      ap₂ (λ (x : RelNo) (y : RelSet). index_coming w q (index_at w.contents i).method x i b y o) (rel_is (Index rel i b param) is) (param_is (Index rel i b param) is) ∙ sym (coming_is (Index rel i b param) is)

  pub only_comes : (rel : RelNo) (i : IndexNo) (b : Bool) (param : RelSet) → p ≡ IndexOnly rel i b param → map (entry_row w q r i true s o) (in_scan_direction w q b (bounded w q r i s o)) ≡ coming w q (plan p) o
  only_comes rel i b param is =
      ap₂ (λ (x : RelNo) (y : RelSet). map (entry_row w q x i true y o) (in_scan_direction w q b (bounded w q x i y o))) (rel_is (IndexOnly rel i b param) is) (param_is (IndexOnly rel i b param) is) ∙ sym (coming_is (IndexOnly rel i b param) is)

  pub bits_come : (rel : RelNo) (param : RelSet) (t : Bits) → p ≡ Bitmap rel param t → coming w q (bitmap r s (bits t)) o ≡ coming w q (plan p) o
  bits_come rel param t is =
      ap₂ (λ (x : RelNo) (y : RelSet). coming w q (bitmap x y (bits t)) o) (rel_is (Bitmap rel param t) is) (param_is (Bitmap rel param t) is) ∙ sym (coming_is (Bitmap rel param t) is)

  -- what is looked at, where the start itself looks at nothing
  module _ (scan : IsScan (plan p)) (built : IsBuilt w.contents q (plan p)) where
    pub looks_left : (kind : List Coming) → kind ≡ coming w q (plan p) o → (a : ℕ) → a + (looks_allowed kind + given_looks w q s) ≤ a + looks w q (plan p) o
    looks_left kind is a =
        let most = looked_rows w q (plan p) o scan built in
        let e : looks_allowed kind ≡ looks_allowed (coming w q (plan p) o) = ap looks_allowed is in
        let f : given_looks w q s ≡ given_looks w q (param_set (plan p)) = ap (given_looks w q) pe in
        omega (arith, most, e, f)

    pub given_first : (a : ℕ) → a + given_looks w q s ≤ a + looks w q (plan p) o
    given_first a =
        let most = looked_rows w q (plan p) o scan built in
        let f : given_looks w q s ≡ given_looks w q (param_set (plan p)) = ap (given_looks w q) pe in
        omega (arith, most, f)

  -- what is looked at, where the start looks at the entries of a bitmap's tree
  module _ (rel : RelNo) (param : RelSet) (t : Bits) (is : p ≡ Bitmap rel param t) where
    tree_is : tree_looks w q r s o (bits t) + given_looks w q s ≡ looks w q (plan p) o
    tree_is =
        ap₂ (λ (x : RelNo) (y : RelSet). tree_looks w q x y o (bits t) + given_looks w q y) (rel_is (Bitmap rel param t) is) (param_is (Bitmap rel param t) is)
        ∙ sym (ap (λ (y : Planned). looks w q (plan y) o) is)

    pub tree_first : (a b : ℕ) → b ≤ a + tree_looks w q r s o (bits t) → b + given_looks w q s ≤ a + looks w q (plan p) o
    tree_first a b most = let e = tree_is in omega (arith, most, e)

    pub tree_left : (kind : List Coming) → kind ≡ coming w q (bitmap r s (bits t)) o → (a b : ℕ) → b ≤ a + tree_looks w q r s o (bits t) → b + (looks_allowed kind + given_looks w q s) ≤ a + looks w q (plan p) o
    tree_left kind from a b most =
        let e = tree_is in
        let none : looks_allowed kind ≡ 0 = ap looks_allowed from ∙ fetched_allowed w q r (clauses_at w q r s) o (held w q r s (bits t) o) in
        omega (arith, most, e, none)

-- a start hands these on
module _ (c : Contents) (k : Kept) (q : Query) (p : Plan) (r : RelNo) (s : RelSet) (outer : List Tid) (heaps : List Stored) (re : r ≡ relation_of p) (pe : s ≡ param_set p) (he : heaps ≡ k.stored) where
  abbrev w : World
  w = world c k.stored

  abbrev tuple : RelSet → Tuple
  tuple x = padded (width q) (has x.0) outer

  pub over_heaps : IsWellBound c q → IsStoreOf c k → IsOverWorld (world c heaps) q
  over_heaps bound store = record { bound = bound; holds = subst (λ (l : List Stored). IsWorld (world c l)) (sym he) store.world }

  pub rows_in_heaps : AreRowsOf w q (param_set p) outer → AreRowsOf (world c heaps) q s outer
  rows_in_heaps rows =
      subst (λ (l : List Stored). AreRowsOf (world c l) q s outer) (sym he) (subst (λ (x : RelSet). AreRowsOf w q x outer) (sym pe) rows)

  pub relation_below : (x : Plan) → IsScan x → IsBuilt c q x → (relation_of x).0 < width q
  relation_below (seq y) is built = built
  relation_below (index y i b z) is built = built.relation
  relation_below (index_only y i b z) is built = built.scan.relation
  relation_below (bitmap y z t) is built = built.relation
  relation_below (sort keys input) is built = absurd is
  relation_below (nest a b) is built = absurd is
  relation_below (merge keys a b) is built = absurd is

  pub scene_is : IsWellBound c q → IsStoreOf c k → IsScan p → IsBuilt c q p → AreRowsOf w q (param_set p) outer → (g : Given) → g ≡ tuple_given (world c heaps) q (has s.0) (tuple s) → IsScene c k q r s outer g
  scene_is bound store scan built rows g is = record {
    bound = bound;
    store = store;
    relation = subst (λ (x : RelNo). x.0 < width q) (sym re) (relation_below p scan built);
    outer = subst (λ (x : RelSet). AreRowsOf w q x outer) (sym pe) rows;
    given = is ∙ ap (λ (l : List Stored). tuple_given (world c l) q (has s.0) (tuple s)) he;
  }

  pub comes_at : (kind : List Coming) → kind ≡ coming w q p (tuple s) → kind ≡ coming w q p (tuple (param_set p))
  comes_at kind is = is ∙ ap (λ (x : RelSet). coming w q p (tuple x)) pe

  looks_at : looks w q p (tuple s) ≡ looks w q p (tuple (param_set p))
  looks_at = ap (λ (x : RelSet). looks w q p (tuple x)) pe

  pub looks_within : (a b d n : ℕ) → b ≤ a + relation_count s → d + (n + given_looks w q s) ≤ b + looks w q p (tuple s) → d + n ≤ a + looks w q p (tuple (param_set p))
  looks_within a b d n reads most =
      let e = looks_at in
      let few = given_most w q s in
      omega (arith, reads, most, e, few)

  pub most_within : (a b d : ℕ) → b ≤ a + relation_count s → d + given_looks w q s ≤ b + looks w q p (tuple s) → d ≤ a + looks w q p (tuple (param_set p))
  most_within a b d reads most =
      let e = looks_at in
      let few = given_most w q s in
      omega (arith, reads, most, e, few)

  -- where the rows given alone are read
  pub reads_within : IsScan p → IsBuilt c q p → (a b : ℕ) → b ≤ a + relation_count s → b ≤ a + looks w q p (tuple (param_set p))
  reads_within scan built a b reads =
      let most = looked_rows w q p (tuple (param_set p)) scan built in
      let few = given_most w q s in
      let f : given_looks w q s ≡ given_looks w q (param_set p) = ap (given_looks w q) pe in
      omega (arith, reads, most, few, f)
