-- Sets of rows put together for a bitmap.
use Rattle.std.proofs.Common.{◌≡◌, ◌+◌, ◌<◌, ℕ, suc, Bool, true, false, cond, ◌||◌, nat_eq, List, [], ◌∷◌, length, map, filter, drop, refl, sym, ap, ap₂, ◌∙◌, subst, arith, inl, inr, All}
use Rattle.std.specs.Prelude.{get_or, slice_index_or}
use Rattle.std.specs.List.{AllByRecursion, list_all, enumerate_from}
use Rattle.std.proofs.lemmas.Bool.{and_from, and_parts, true≢false}
use Rattle.std.proofs.lemmas.List.{drop_more, length-map}
use Rattle.std.proofs.Math.Bool.{or-false}
use Rattle.pg_base.specs.Sets.{has}
use Rattle.pg_base.specs.declared.numbers.IndexNo.{IndexNo}
use Rattle.pg_base.specs.declared.numbers.RelNo.{RelNo}
use Rattle.pg_base.specs.declared.numbers.Tid.{Tid}
use Rattle.pg_base.specs.declared.rel_set.RelSet.{RelSet}
use Rattle.opfamily.specs.KeyOrder.{IndexEntry}
use Rattle.opfamily.specs.declared.classes.Method.{Method}
use Rattle.opfamily.specs.declared.classes.Method.TheVariants.{Btree, Hash}
use Rattle.pg_expr.specs.Cond.{Cond}
use Rattle.heap.specs.work.TidSets.{TidSet, is_member, rows_passing}
use Rattle.heap.proofs.MemberLemmas.{member-those, those-none, those-same}
use Rattle.catalog.specs.Contents.{Contents, index_at}
use Rattle.catalog.specs.Indexes.{Index}
use Rattle.catalog.specs.Range.{Range}
use Rattle.eq_classes.specs.Listing.{clause_at}
use Rattle.eq_classes.proofs.HoldLemmas.{in_map}
use Rattle.eq_classes.proofs.ListLemmas.{IsIn, in_filter}
use Rattle.index_match.specs.Arms.{arm_bounds, arm_parts}
use Rattle.index_match.specs.Bounds.{index_bounds}
use Rattle.index_match.specs.Conditions.{index_conditions}
use Rattle.index_match.specs.Numbered.{Numbered, conditions_of, numbered, numbered_from_0}
use Rattle.sql_query.specs.Meaning.{all_true}
use Rattle.sql_query.specs.Queries.{Query}
use Rattle.sql_query.specs.Tuples.{Tuple, beside}
use Rattle.sql_query.specs.Worlds.{World}
use Rattle.plan_tree.specs.Counts.{entries_met, index_looks}
use Rattle.plan_tree.specs.Entries.{entries, entry_rows}
use Rattle.plan_tree.specs.Run.{at_which}
use Rattle.scan_probes.specs.work.Values.{Given}
use Rattle.scan_exec.specs.work.Held.{IsMade, IsReadyMark, with_rows}
use Rattle.scan_exec.specs.work.Kinds.{passes_entry}
use Rattle.scan_exec.specs.work.Scene.{limits}
use Rattle.scan_exec.proofs.BegunLemmas.{by_number}
use Rattle.pg_base.proofs.ListLemmas.{filter-map-is as filter_of_map}
use Rattle.scan_exec.proofs.LimitLemmas.{AreByNumber, in_limits, limits_are, numbered_are, places_number}
use Rattle.scan_exec.proofs.SeekLemmas.{filter_in_same as filter_agree}

turned : (a b d : Bool) → (a || b) || d ≡ b || (a || d)
turned true true d = refl
turned true false d = refl
turned false b d = refl

pub made_those : (b : ℕ) (f : ℕ → Bool) → IsMade (record { bound = b; members = rows_passing b f })
made_those b f = those-same b (is_member (rows_passing b f)) f (λ n lt. member-those b f n lt)

pub made_empty : (b : ℕ) → IsMade (record { bound = b; members = [] })
made_empty b = those-none (is_member []) b (λ n lt. refl)

abbrev pub set_by : ℕ → List ℕ → TidSet
set_by b ms = record { bound = b; members = ms }

pub with_none : (s : TidSet) → IsMade s → with_rows s [] ≡ s
with_none s made = ap (set_by s.bound) (those-same s.bound (λ n. is_member s.members n || is_member [] n) (is_member s.members) (λ n lt. or-false (is_member s.members n)) ∙ made)

pub made_with : (s t : TidSet) (ns : List ℕ) → t ≡ with_rows s ns → IsMade t
made_with s t ns is = subst IsMade (sym is) (made_those s.bound (λ n. is_member s.members n || is_member ns n))

-- one more row
abbrev pub added : TidSet → ℕ → TidSet
added s x = set_by s.bound (rows_passing s.bound (λ n. nat_eq n x || is_member s.members n))

pub made_added : (s t : TidSet) (x : ℕ) → t ≡ added s x → IsMade t
made_added s t x is = subst IsMade (sym is) (made_those s.bound (λ n. nat_eq n x || is_member s.members n))

pub add_then : (s t : TidSet) (x : ℕ) (ns : List ℕ) → t ≡ added s x → with_rows t ns ≡ with_rows s (x ∷ ns)
add_then s t x ns is =
    ap (λ (y : TidSet). with_rows y ns) is
    ∙ ap (set_by s.bound) (those-same s.bound (λ n. is_member (rows_passing s.bound (λ m. nat_eq m x || is_member s.members m)) n || is_member ns n) (λ n. is_member s.members n || is_member (x ∷ ns) n)
    (λ n lt. ap (λ (b : Bool). b || is_member ns n) (member-those s.bound (λ m. nat_eq m x || is_member s.members m) n lt) ∙ turned (nat_eq n x) (is_member s.members n) (is_member ns n)))

-- rows put in one after another
pub record IsMarking (old now : TidSet) (all rest : List ℕ) : Type 0 where
  pub made : IsMade now
  pub bound : now.bound ≡ old.bound
  pub same : with_rows now rest ≡ with_rows old all

pub marking_begins : (s : TidSet) (all : List ℕ) → IsMade s → IsMarking s s all all
marking_begins s all made = record { made = made; bound = refl; same = refl }

pub marking_on : (old now next : TidSet) (all rest : List ℕ) (x : ℕ) → IsMarking old now all (x ∷ rest) → next ≡ added now x → IsMarking old next all rest
marking_on old now next all rest x is more = record {
  made = made_added now next x more;
  bound = ap (λ (s : TidSet). s.bound) more ∙ is.bound;
  same = add_then now next x rest more ∙ is.same;
}

pub marking_ends : (old now : TidSet) (all rest : List ℕ) → rest ≡ [] → IsMarking old now all rest → now ≡ with_rows old all
marking_ends old now all rest none is = sym (with_none now is.made) ∙ sym (ap (with_rows now) none) ∙ is.same

-- numbers of rows, one after another
module _ (tids : List Tid) (i : ℕ) (lt : i < length tids) (t : Tid) (old now next : TidSet) (all : List ℕ) where
  pub number_on : IsMarking old now all (map (λ (x : Tid). x.0) (drop i tids)) → next ≡ added now (get_or tids i t).0 → IsMarking old next all (map (λ (x : Tid). x.0) (drop (i + 1) tids))
  number_on is more = marking_on old now next all (map (λ (x : Tid). x.0) (drop (i + 1) tids)) (get_or tids i t).0 (subst (λ (l : List Tid). IsMarking old now all (map (λ (x : Tid). x.0) l)) (drop_more tids i t lt) is) more

  pub below_on : (bound : ℕ) → AllByRecursion (λ (x : Tid). x.0 < bound) (drop i tids) → AllByRecursion (λ (x : Tid). x.0 < bound) (drop (i + 1) tids)
  below_on bound h = (subst (AllByRecursion (λ (x : Tid). x.0 < bound)) (drop_more tids i t lt) h).1

-- the entries of a cursor, of which some are put in
pub record IsMarkingBy (c : Contents) (range : Range) (r : ℕ) (given : Given) (es : List Cond) (d : Index) (old now : TidSet) (all left : List IndexEntry) (before after : ℕ) : Type 0 where
  pub marking : IsMarking old now (map (λ (e : IndexEntry). e.row) (filter (passes_entry r given es d) all)) (map (λ (e : IndexEntry). e.row) (filter (passes_entry r given es d) left))
  pub ready : All (IsReadyMark c range r given es d old.bound) left
  pub looked : after + length left ≡ before + length all

module _ (c : Contents) (range : Range) (r : ℕ) (given : Given) (es : List Cond) (d : Index) where
  abbrev passes : IndexEntry → Bool
  passes = passes_entry r given es d

  abbrev rows_left : List IndexEntry → List ℕ
  rows_left l = map (λ (e : IndexEntry). e.row) (filter passes l)

  pub entries_begin : (s : TidSet) (all : List IndexEntry) (before : ℕ) → IsMade s → All (IsReadyMark c range r given es d s.bound) all → IsMarkingBy c range r given es d s s all all before before
  entries_begin s all before made ready = record { marking = marking_begins s (rows_left all) made; ready = ready; looked = refl }

  module _ (old now : TidSet) (all left rest : List IndexEntry) (before after later : ℕ) (is : IsMarkingBy c range r given es d old now all left before after) (e : IndexEntry) (split : left ≡ e ∷ rest) (step : later ≡ after + 1) where
    ready_split : All (IsReadyMark c range r given es d old.bound) (e ∷ rest)
    ready_split = subst (All (IsReadyMark c range r given es d old.bound)) split is.ready

    pub first_ready : IsReadyMark c range r given es d old.bound e
    first_ready = ready_split 0 e (omega arith)

    rest_ready : All (IsReadyMark c range r given es d old.bound) rest
    rest_ready n x lt = ready_split (suc n) x (omega (arith, lt))

    looked_on : later + length rest ≡ before + length all
    looked_on = let long : length left ≡ length rest + 1 = ap length split ∙ (omega arith) in let e = is.looked in omega (arith, long, e, step)

    marking_split : (b : Bool) → passes e ≡ b → IsMarking old now (rows_left all) (map (λ (x : IndexEntry). x.row) (cond b (e ∷ filter passes rest) (filter passes rest)))
    marking_split b is_b =
        subst (λ (t : Bool). IsMarking old now (rows_left all) (map (λ (x : IndexEntry). x.row) (cond t (e ∷ filter passes rest) (filter passes rest)))) is_b
        (subst (λ (l : List IndexEntry). IsMarking old now (rows_left all) (rows_left l)) split is.marking)

    -- an entry that fails, and one that passes
    pub entry_fails : passes e ≡ false → IsMarkingBy c range r given es d old now all rest before later
    entry_fails fails = record { marking = marking_split false fails; ready = rest_ready; looked = looked_on }

    pub entry_passes : passes e ≡ true → (next : TidSet) → next ≡ added now e.row → IsMarkingBy c range r given es d old next all rest before later
    entry_passes holds next more = record { marking = marking_on old now next (rows_left all) (rows_left rest) e.row (marking_split true holds) more; ready = rest_ready; looked = looked_on }

    pub row_below : e.row < now.bound
    row_below = let lt = first_ready.within in let same = is.marking.bound in omega (arith, lt, same)

  pub entries_end : (old now : TidSet) (all left : List IndexEntry) (before after : ℕ) → IsMarkingBy c range r given es d old now all left before after → left ≡ [] → now ≡ with_rows old (rows_left all)
  entries_end old now all left before after is none = marking_ends old now (rows_left all) (rows_left left) (ap rows_left none) is.marking

  pub entries_looked : (old now : TidSet) (all left : List IndexEntry) (before after later : ℕ) → IsMarkingBy c range r given es d old now all left before after → left ≡ [] → later ≡ after → later ≡ before + length all
  entries_looked old now all left before after later is none same = let long : length left ≡ 0 = ap length none in let e = is.looked in omega (arith, long, e, same)

-- the rows that an index has for conditions, in its part and in all of it
filter_narrow : {A : Type 0} (narrow wide : A → Bool) → ((x : A) → narrow x ≡ true → wide x ≡ true) → (xs : List A) → filter narrow (filter wide xs) ≡ filter narrow xs
filter_narrow narrow wide within [] = refl
filter_narrow narrow wide within (x ∷ xs) = by (wide x) (narrow x) refl refl (filter_narrow narrow wide within xs)
  where
    by : (a b : Bool) → wide x ≡ a → narrow x ≡ b → filter narrow (filter wide xs) ≡ filter narrow xs → filter narrow (cond a (x ∷ filter wide xs) (filter wide xs)) ≡ cond b (x ∷ filter narrow xs) (filter narrow xs)
    by true b e d later = ap₂ (λ t l. cond t (x ∷ l) l) d later
    by false true e d later = absurd (true≢false (sym (within x d) ∙ e))
    by false false e d later = later

each_true : (test : Cond → Bool) (es : List Cond) → list_all test es ≡ true → (e : Cond) → IsIn e es → test e ≡ true
each_true test [] h e i = absurd i
each_true test (x ∷ es) h e (inl same) = ap test same ∙ (and_parts (test x) (list_all test es) h).0
each_true test (x ∷ es) h e (inr i) = each_true test es (and_parts (test x) (list_all test es) h).1 e i

all_from_each : (test : Cond → Bool) (es : List Cond) → ((e : Cond) → IsIn e es → test e ≡ true) → list_all test es ≡ true
all_from_each test [] h = refl
all_from_each test (x ∷ es) h = and_from _ _ (h x (inl refl)) (all_from_each test es (λ e i. h e (inr i)))

module _ (w : World) (q : Query) (r : RelNo) (o : Tuple) (i : IndexNo) (es : List Cond) where
  abbrev meets_limits : IndexEntry → Bool
  meets_limits e = all_true w q (beside q r.0 e.row o) (limits (index_at w.contents i) r.0 es)

  abbrev meets_all : IndexEntry → Bool
  meets_all e = all_true w q (beside q r.0 e.row o) es

  pub part_rows : (test : IndexEntry → Bool) → ((e : IndexEntry) → IsIn e (entries w i) → test e ≡ meets_all e) → map (λ (e : IndexEntry). e.row) (filter test (filter meets_limits (entries w i))) ≡ at_which w q r o es (entry_rows w i)
  part_rows test agree =
      ap (map (λ (e : IndexEntry). e.row)) (filter_agree test meets_all (filter meets_limits (entries w i)) (λ e j. agree e (in_filter meets_limits (entries w i) e j).0)
      ∙ filter_narrow meets_all meets_limits (λ e h. all_from_each _ (limits (index_at w.contents i) r.0 es) (λ x j. each_true _ es h x (in_limits (index_at w.contents i) r.0 es x j))) (entries w i))
      ∙ sym (filter_of_map (λ (n : ℕ). all_true w q (beside q r.0 n o) es) (λ (e : IndexEntry). e.row) (entries w i))

  pub part_looks : (m : Method) → m ≡ Btree → length (filter meets_limits (entries w i)) ≡ entries_met w q m r i o (limits (index_at w.contents i) r.0 es)
  part_looks m is =
      sym (length-map (filter meets_limits (entries w i)) (λ (e : IndexEntry). e.row))
      ∙ ap length (sym (filter_of_map (λ (n : ℕ). all_true w q (beside q r.0 n o) (limits (index_at w.contents i) r.0 es)) (λ (e : IndexEntry). e.row) (entries w i)))
      ∙ sym (ap (λ (x : Method). entries_met w q x r i o (limits (index_at w.contents i) r.0 es)) is)

-- the bounds of an index's conditions, and of an arm's parts, by the conditions alone
looks_by : (w : World) (q : Query) (r : RelNo) (o : Tuple) (i : IndexNo) (m : Method) (es fs : List Cond) → ((n : ℕ) → all_true w q (beside q r.0 n o) es ≡ all_true w q (beside q r.0 n o) fs) → entries_met w q m r i o es ≡ entries_met w q m r i o fs
looks_by w q r o i Btree es fs same = ap length (filter_agree (λ n. all_true w q (beside q r.0 n o) es) (λ n. all_true w q (beside q r.0 n o) fs) (entry_rows w i) (λ n j. same n))
looks_by w q r o i Hash es fs same = refl

pub index_looks_are : (w : World) (q : Query) (r : RelNo) (p : RelSet) (o : Tuple) (i : IndexNo) →
    entries_met w q (index_at w.contents i).method r i o (limits (index_at w.contents i) r.0 (conditions_of (index_conditions w.contents q.classes i r.0 (has p.0)))) ≡ index_looks w q r i p o
index_looks_are w q r p o i =
    looks_by w q r o i (index_at w.contents i).method _ (conditions_of (index_bounds w.contents q.classes i r.0 (has p.0)))
    (λ n. limits_are _ (λ m. (clause_at q.classes.clauses m).cond) (index_at w.contents i) r.0 (index_conditions w.contents q.classes i r.0 (has p.0)) (by_number w.contents q r p i))

arm_number : (arm : Cond) → AreByNumber (λ n. slice_index_or (arm_parts arm) n arm) (numbered_from_0 (arm_parts arm))
arm_number arm x j =
    let m = in_map numbered (enumerate_from 0 (arm_parts arm)) x j in
    ap (λ (y : Numbered). y.cond) m.2 ∙ places_number (λ (y : Cond). y) (arm_parts arm) arm m.0 m.1
    ∙ ap (λ (n : ℕ). slice_index_or (arm_parts arm) n arm) (sym (ap (λ (y : Numbered). y.number) m.2))

pub arm_looks_are : (w : World) (q : Query) (r : RelNo) (o : Tuple) (i : IndexNo) (arm : Cond) →
    entries_met w q (index_at w.contents i).method r i o (limits (index_at w.contents i) r.0 (arm_parts arm)) ≡ entries_met w q (index_at w.contents i).method r i o (conditions_of (arm_bounds (index_at w.contents i) r.0 arm))
arm_looks_are w q r o i arm =
    looks_by w q r o i (index_at w.contents i).method _ (conditions_of (arm_bounds (index_at w.contents i) r.0 arm))
    (λ n. ap (λ (l : List Cond). all_true w q (beside q r.0 n o) (limits (index_at w.contents i) r.0 l)) (sym (numbered_are 0 (arm_parts arm)))
    ∙ limits_are _ (λ m. slice_index_or (arm_parts arm) m arm) (index_at w.contents i) r.0 (numbered_from_0 (arm_parts arm)) (arm_number arm))
