-- A scan drained: its tuples one after another, and what was counted.
use Rattle.std.proofs.Common.{◌≡◌, ◌+◌, ◌-◌, ◌<◌, ◌≤◌, ℕ, zero, suc, Bool, true, false, cond, nat_eq, List, [], ◌∷◌, ◌++◌, length, map, filter, find, option_map, Some, None, refl, sym, ap, ◌∙◌, arith, append_assoc, append-nil}
use Rattle.std.specs.Prelude.{slice_index_or}
use Rattle.std.specs.List.{range_with_len}
use Rattle.std.proofs.lemmas.Bool.{eq-eqb, eqb-true, ne_eqb}
use Rattle.std.proofs.lemmas.List.{map-append}
use Rattle.std.proofs.lemmas.Option.{none-some}
use Rattle.pg_base.specs.Sets.{has}
use Rattle.pg_base.specs.declared.numbers.RelNo.{RelNo}
use Rattle.pg_base.specs.declared.numbers.Tid.{Tid}
use Rattle.pg_base.specs.declared.rel_set.RelSet.{RelSet}
use Rattle.heap.specs.Tuples.{rank, relation_count}
use Rattle.heap.specs.work.Tuples.{TupleList, padded, padded_tuples, row_number}
use Rattle.heap.proofs.RankLemmas.{rank-in, rank-out, rank-zero}
use Rattle.sql_query.specs.Queries.{Query, width}
use Rattle.sql_query.specs.Tuples.{Tuple, one_row}
use Rattle.sql_query.specs.Worlds.{World}
use Rattle.plan_tree.specs.Counts.{fetches}
use Rattle.plan_tree.specs.Plans.{Plan}
use Rattle.plan_tree.specs.Run.{run}
use Rattle.scan_exec.specs.Coming.{Coming, coming, is_given, owed}
use Rattle.scan_exec.specs.work.Coming.{looks_allowed, behind, rows_to_come}
use Rattle.scan_exec.specs.work.Plans.{IsScan, relation_of}
use Rattle.scan_exec.proofs.ComingLemmas.{fetched_rows, given_rows}

-- the first that is given, and those behind
pub left_split : (cs : List Coming) (n : ℕ) → Some n ≡ option_map (λ (c : Coming). c.row) (find is_given cs) → rows_to_come cs ≡ n ∷ rows_to_come (behind is_given cs)
left_split [] n e = absurd (none-some n (sym e))
left_split (c ∷ cs) n e = by c.given e (left_split cs n)
  where
    by : (b : Bool) → Some n ≡ option_map (λ (x : Coming). x.row) (cond b (Some c) (find is_given cs)) → (Some n ≡ option_map (λ (x : Coming). x.row) (find is_given cs) → rows_to_come cs ≡ n ∷ rows_to_come (behind is_given cs))
        → map (λ (x : Coming). x.row) (cond b (c ∷ filter is_given cs) (filter is_given cs)) ≡ n ∷ rows_to_come (cond b cs (behind is_given cs))
    by true h later = let same : n ≡ c.row = cc in ap (λ (m : ℕ). m ∷ rows_to_come cs) (sym same)
    by false h later = later h

pub behind_short : (cs : List Coming) (n : ℕ) → Some n ≡ option_map (λ (c : Coming). c.row) (find is_given cs) → length (behind is_given cs) < length cs
behind_short [] n e = absurd (none-some n (sym e))
behind_short (c ∷ cs) n e = by c.given e (behind_short cs n)
  where
    by : (b : Bool) → Some n ≡ option_map (λ (x : Coming). x.row) (cond b (Some c) (find is_given cs)) → (Some n ≡ option_map (λ (x : Coming). x.row) (find is_given cs) → length (behind is_given cs) < length cs)
        → length (cond b cs (behind is_given cs)) < length (c ∷ cs)
    by true h later = let long : length (c ∷ cs) ≡ length cs + 1 = omega arith in omega (arith, long)
    by false h later = let lt = later h in let long : length (c ∷ cs) ≡ length cs + 1 = omega arith in omega (arith, lt, long)

pub left_none : (cs : List Coming) → None ≡ option_map (λ (c : Coming). c.row) (find is_given cs) → rows_to_come cs ≡ []
left_none [] e = refl
left_none (c ∷ cs) e = by c.given e (left_none cs)
  where
    by : (b : Bool) → None ≡ option_map (λ (x : Coming). x.row) (cond b (Some c) (find is_given cs)) → (None ≡ option_map (λ (x : Coming). x.row) (find is_given cs) → rows_to_come cs ≡ [])
        → map (λ (x : Coming). x.row) (cond b (c ∷ filter is_given cs) (filter is_given cs)) ≡ []
    by true h later = absurd (none-some c.row h)
    by false h later = later h

pub behind_none : (cs : List Coming) → None ≡ option_map (λ (c : Coming). c.row) (find is_given cs) → behind is_given cs ≡ []
behind_none [] e = refl
behind_none (c ∷ cs) e = by c.given e (behind_none cs)
  where
    by : (b : Bool) → None ≡ option_map (λ (x : Coming). x.row) (cond b (Some c) (find is_given cs)) → (None ≡ option_map (λ (x : Coming). x.row) (find is_given cs) → behind is_given cs ≡ [])
        → cond b cs (behind is_given cs) ≡ []
    by true h later = absurd (none-some c.row h)
    by false h later = later h

-- the set of one relation
module _ (set : ℕ → Bool) (r : ℕ) (one : (k : ℕ) → set k ≡ nat_eq k r) where
  none_below : (k : ℕ) → k ≤ r → rank set k ≡ 0
  none_below zero le = rank-zero set
  none_below (suc k) le =
      let e : suc k ≡ k + 1 = omega arith in
      ap (rank set) e ∙ rank-out set k (one k ∙ ne_eqb k r (λ same. absurd (omega (arith, le, same)))) ∙ none_below k (omega (arith, le))

  one_from : (n : ℕ) → rank set (r + 1 + n) ≡ 1
  one_from zero = let e : r + 1 + 0 ≡ r + 1 = omega arith in let at = rank-in set r (one r ∙ eq-eqb r r refl) in let before = none_below r (omega arith) in ap (rank set) e ∙ at ∙ (omega (arith, before))
  one_from (suc n) =
      let e : r + 1 + suc n ≡ r + 1 + n + 1 = omega arith in
      ap (rank set) e ∙ rank-out set (r + 1 + n) (one (r + 1 + n) ∙ ne_eqb (r + 1 + n) r (λ same. absurd (omega (arith, same)))) ∙ one_from n

  pub counts_one : r < 16 → rank set 16 ≡ 1
  counts_one lt = let e : 16 ≡ r + 1 + (16 - (r + 1)) = omega (arith, lt) in ap (rank set) e ∙ one_from (16 - (r + 1))

  pub padded_one : (q : Query) (t : Tid) → padded (width q) set (t ∷ []) ≡ one_row q r t.0
  padded_one q t = ap (λ (f : ℕ → ℕ). map f (range_with_len 0 (width q))) (λ z k. at k z)
    where
      at : (k : ℕ) → cond (set k) (row_number set (t ∷ []) k) 0 ≡ cond (nat_eq k r) t.0 0
      at k = ap (λ (b : Bool). cond b (row_number set (t ∷ []) k) 0) (one k) ∙ by (nat_eq k r) refl
        where
          by : (b : Bool) → nat_eq k r ≡ b → cond b (row_number set (t ∷ []) k) 0 ≡ cond b t.0 0
          by true is = ap (λ (m : ℕ). (slice_index_or (t ∷ []) m (record { 0 = 0 })).0) (none_below k (let e = eqb-true k r is in omega (arith, e)))
          by false is = refl

-- the tuples put down, those still to come, and the counters
pub record IsDraining (q : Query) (r : ℕ) (set : RelSet) (all : List Tuple) (fetches looks : ℕ) (ts : TupleList) (rows : List Coming) (f g : ℕ) : Type 0 where
  pub set_is : ts.set ≡ set
  pub tuples : padded_tuples (width q) ts ++ map (one_row q r) (rows_to_come rows) ≡ all
  pub fetched : f + owed rows ≡ fetches
  pub looked : g + looks_allowed rows ≤ looks

module _ (q : Query) (r : ℕ) (set : RelSet) (one : (k : ℕ) → has set.0 k ≡ nat_eq k r) (all : List Tuple) (fetches looks : ℕ) where
  pub drain_begins : (ts : TupleList) (rows : List Coming) (f g : ℕ) → ts ≡ record { set = set; rows = [] } → map (one_row q r) (rows_to_come rows) ≡ all → f + owed rows ≡ fetches → g + looks_allowed rows ≤ looks
      → IsDraining q r set all fetches looks ts rows f g
  drain_begins ts rows f g is same fe le = record {
    set_is = ap (λ (x : TupleList). x.set) is;
    tuples = ap (λ (x : TupleList). padded_tuples (width q) x ++ map (one_row q r) (rows_to_come rows)) is ∙ same;
    fetched = fe;
    looked = le;
  }

  module _ (ts : TupleList) (rows rest : List Coming) (f g f' g' : ℕ) (is : IsDraining q r set all fetches looks ts rows f g) (be : rest ≡ behind is_given rows) (fe : f' + owed rest ≡ f + owed rows) (ge : g' + looks_allowed rest ≡ g + looks_allowed rows) where
    pub drain_on : (t : Tid) → Some t.0 ≡ option_map (λ (c : Coming). c.row) (find is_given rows) → (more : TupleList) → more ≡ record { set = ts.set; rows = ts.rows ++ (t ∷ []) ∷ [] } → IsDraining q r set all fetches looks more rest f' g'
    drain_on t found more added = record {
      set_is = ap (λ (x : TupleList). x.set) added ∙ is.set_is;
      tuples =
          ap (λ (x : TupleList). padded_tuples (width q) x ++ map (one_row q r) (rows_to_come rest)) added
          ∙ ap (λ (l : List Tuple). l ++ map (one_row q r) (rows_to_come rest)) (map-append (padded (width q) (has ts.set.0)) ts.rows ((t ∷ []) ∷ []))
          ∙ append_assoc (padded_tuples (width q) ts) (padded (width q) (has ts.set.0) (t ∷ []) ∷ []) (map (one_row q r) (rows_to_come rest))
          ∙ ap (λ (x : Tuple). padded_tuples (width q) ts ++ x ∷ map (one_row q r) (rows_to_come rest)) (ap (λ (x : RelSet). padded (width q) (has x.0) (t ∷ [])) is.set_is ∙ padded_one (has set.0) r one q t)
          ∙ ap (λ (l : List ℕ). padded_tuples (width q) ts ++ map (one_row q r) l) (ap (λ (l : List Coming). t.0 ∷ rows_to_come l) be ∙ sym (left_split rows t.0 found))
          ∙ is.tuples;
      fetched = fe ∙ is.fetched;
      looked = let e = is.looked in omega (arith, e, ge);
    }

    pub drain_most : f' ≤ fetches
    drain_most = let e = is.fetched in omega (arith, e, fe)

    pub drain_looks : g' ≤ looks
    drain_looks = let e = is.looked in omega (arith, e, ge)

    module _ (none : None ≡ option_map (λ (c : Coming). c.row) (find is_given rows)) where
      pub drained : padded_tuples (width q) ts ≡ all
      drained = sym (append-nil (padded_tuples (width q) ts)) ∙ sym (ap (λ (l : List ℕ). padded_tuples (width q) ts ++ map (one_row q r) l) (left_none rows none)) ∙ is.tuples

      pub drained_exact : f' ≡ fetches
      drained_exact =
          let e = is.fetched in
          let z : owed rest ≡ 0 = ap owed (be ∙ behind_none rows none) in
          omega (arith, e, fe, z)

-- the set of a scan's relation
pub set_one : (ts : TupleList) (x : RelSet) (r' r : RelNo) → ts ≡ record { set = x; rows = [] } → r' ≡ r → ((k : ℕ) → has x.0 k ≡ nat_eq k r'.0) → (k : ℕ) → has ts.set.0 k ≡ nat_eq k r.0
set_one ts x r' r is re one k = ap (λ (t : TupleList). has t.set.0 k) is ∙ one k ∙ ap (λ (y : RelNo). nat_eq k y.0) re

pub no_tuples : (ts : TupleList) (x : RelSet) → ts ≡ record { set = x; rows = [] } → ts ≡ record { set = ts.set; rows = [] }
no_tuples ts x is = is ∙ sym (ap (λ (t : TupleList). record { set = t.set; rows = [] }) is)

-- a tuple of it has one number
pub one_long : (set : RelSet) (r n : ℕ) → ((k : ℕ) → has set.0 k ≡ nat_eq k r) → r < n → n ≤ 16 → (now : RelSet) → now ≡ set → (t : Tid) → length (t ∷ []) ≡ relation_count now
one_long set r n one below few now is t =
    let e = counts_one (has set.0) r one (omega (arith, below, few)) in
    sym (ap relation_count is ∙ e)

-- a scan of a plan
module _ (w : World) (q : Query) (p : Plan) (o : Tuple) (scan : IsScan p) (rows : List Coming) (is : rows ≡ coming w q p o) where
  pub rows_run : map (one_row q (relation_of p).0) (rows_to_come rows) ≡ run w q p o
  rows_run = ap (λ (l : List Coming). map (one_row q (relation_of p).0) (rows_to_come l)) is ∙ given_rows w q p o scan

  pub rows_owed : (f : ℕ) → f + owed rows ≡ f + fetches w q p o
  rows_owed f = ap (λ (n : ℕ). f + n) (ap owed is ∙ fetched_rows w q p o scan)
