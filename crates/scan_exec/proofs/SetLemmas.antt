-- The sets of rows that the parts of a bitmap tree hold.
use Rattle.std.proofs.Common.{drop_of_length-le, ◌≡◌, ◌+◌, ◌<◌, ◌≤◌, ℕ, Bool, true, false, ◌&&◌, ◌||◌, nat_lt, List, [], ◌∷◌, length, map, filter, drop, refl, sym, ap, ap₂, ◌∙◌, subst, arith}
use Rattle.std.specs.Prelude.{get_or}
use Rattle.std.proofs.lemmas.Bool.{ltb-true}
use Rattle.std.proofs.lemmas.List.{drop_more, length-map}
use Rattle.std.proofs.Math.Bool.{or-false, and-true, or_assoc, and_assoc}
use Rattle.std.specs.Borrow.{Bor}
use Rattle.pg_base.specs.Sets.{has}
use Rattle.pg_base.specs.declared.numbers.IndexNo.{IndexNo}
use Rattle.pg_base.specs.declared.numbers.RelNo.{RelNo}
use Rattle.pg_base.specs.declared.rel_set.RelSet.{RelSet}
use Rattle.pg_expr.specs.Cond.{Cond}
use Rattle.pg_expr.specs.work.View as view
use Rattle.pg_expr.specs.declared.expr.Expr.{Expr}
use Rattle.heap.specs.work.TidSets.{TidSet, is_member, rows_passing}
use Rattle.heap.proofs.MemberLemmas.{member-those, those-none, those-same}
use Rattle.catalog.specs.Contents.{index_at}
use Rattle.index_match.specs.Arms.{arms_of, arm_bounds, arm_parts, takes_parts}
use Rattle.index_match.specs.Conditions.{index_conditions, is_condition}
use Rattle.index_match.specs.Numbered.{Numbered, conditions_of, local}
use Rattle.sql_query.specs.Queries.{Query}
use Rattle.sql_query.specs.Tuples.{Tuple, rows_of_relation}
use Rattle.sql_query.specs.Worlds.{World}
use Rattle.plan_tree.specs.declared.bits.BitTree.{BitTree as Bits}
use Rattle.plan_tree.specs.Bitmaps.{condition_at}
use Rattle.plan_tree.specs.Counts.{all_tree_looks, arm_looks, entries_met, index_looks, tree_looks}
use Rattle.plan_tree.specs.Entries.{entry_rows}
use Rattle.plan_tree.specs.Plans.{BitTree, leaf, all_hold, some_arm, BitTrees, no_trees, tree_and}
use Rattle.plan_tree.specs.Run.{all_hold_row, at_which, index_scan_conditions, holds, some_holds}
use Rattle.plan_tree.specs.work.Views.{bits, bits_all}
use Rattle.scan_probes.specs.work.Filters as refs
use Rattle.scan_exec.specs.work.Held.{AreHeldTrees, IsHeldTree, IsMade, set_held, with_arms, with_rows}
use Rattle.scan_exec.specs.work.Scene.{limits}
use Rattle.scan_exec.proofs.HeldLemmas.{arm_looks_are, index_looks_are, made_those, made_with}
use Rattle.scan_exec.proofs.TreeLemmas.{takes_own}

abbrev set_by : ℕ → List ℕ → TidSet
set_by b ms = record { bound = b; members = ms }

module _ (w : World) (q : Query) (r : RelNo) (p : RelSet) (o : Tuple) where
  abbrev all : ℕ
  all = length (rows_of_relation w q r)

  -- a leaf
  pub own_taken : (i : IndexNo) → nat_lt 0 (length (index_conditions w.contents q.classes i r.0 (has p.0))) ≡ true → (vs : List (Bor Expr)) → refs.lent_conditions vs ≡ index_scan_conditions w q r i p → takes_parts (index_at w.contents i).method (length vs) ≡ true
  own_taken i some vs are =
      let long = length-map vs (λ (e : Bor Expr). view.cond e.now) in
      let same : length (refs.lent_conditions vs) ≡ length (index_scan_conditions w q r i p) = ap length are in
      let many = length-map (index_conditions w.contents q.classes i r.0 (has p.0)) (λ (y : Numbered). y.cond) in
      let lt = ltb-true 0 (length (index_conditions w.contents q.classes i r.0 (has p.0))) some in
      takes_own (index_at w.contents i).method (filter (λ (y : Numbered). is_condition (index_at w.contents i) r.0 y.cond) (local q.classes r.0 (has p.0))) (length vs) (sym long ∙ same) (omega (arith, long, same, many, lt))

  pub leaf_is : (i : IndexNo) (n : ℕ) → n ≡ all → (s t : TidSet) → s ≡ set_by n [] → (es : List Cond) → es ≡ index_scan_conditions w q r i p → t ≡ with_rows s (at_which w q r o es (entry_rows w i)) → t ≡ set_held w q r p (leaf i) o
  leaf_is i n ne s t se es ee te =
      te ∙ ap₂ (λ (x : TidSet) (l : List Cond). with_rows x (at_which w q r o l (entry_rows w i))) (se ∙ ap (λ (m : ℕ). set_by m []) ne) ee

  pub leaf_looks : (i : IndexNo) (es : List Cond) → es ≡ index_scan_conditions w q r i p → (a b : ℕ) → b ≤ a + entries_met w q (index_at w.contents i).method r i o (limits (index_at w.contents i) r.0 es) → b ≤ a + index_looks w q r i p o
  leaf_looks i es ee a b most =
      let e : entries_met w q (index_at w.contents i).method r i o (limits (index_at w.contents i) r.0 es) ≡ index_looks w q r i p o =
      ap (λ (l : List Cond). entries_met w q (index_at w.contents i).method r i o (limits (index_at w.contents i) r.0 l)) ee ∙ index_looks_are w q r p o i in
      omega (arith, most, e)

  -- the arms of a clause
  pub arms_are : (n : ℕ) (is : List IndexNo) (m : ℕ) → m ≡ all → (s t : TidSet) → s ≡ set_by m [] → (arms : List Cond) → arms_of (condition_at q n) ≡ arms → t ≡ with_arms w q r o s arms is → t ≡ set_held w q r p (some_arm n is) o
  arms_are n is m me s t se arms ae te =
      te ∙ ap₂ (λ (x : TidSet) (l : List Cond). with_arms w q r o x l is) (se ∙ ap (λ (y : ℕ). set_by y []) me) (sym ae)

  pub no_arms_are : (n : ℕ) (is : List IndexNo) (m : ℕ) → m ≡ all → (t : TidSet) → t ≡ set_by m [] → arms_of (condition_at q n) ≡ [] → t ≡ set_held w q r p (some_arm n is) o
  no_arms_are n is m me t te ae =
      te ∙ ap (λ (y : ℕ). set_by y []) me
      ∙ ap (set_by all) (sym (those-none (λ x. some_holds w q r o x (arms_of (condition_at q n)) is) all (λ x lt. ap (λ (l : List Cond). some_holds w q r o x l is) ae ∙ nothing x is)))
    where
      nothing : (x : ℕ) (is : List IndexNo) → some_holds w q r o x [] is ≡ false
      nothing x [] = refl
      nothing x (i ∷ is) = refl

  -- arm by arm
  pub record IsMarkingArms (arms : List Cond) (is : List IndexNo) (more : List Cond) (js : List IndexNo) (old now : TidSet) (before after : ℕ) : Type 0 where
    pub made : IsMade now
    pub bound : now.bound ≡ old.bound
    pub same : with_arms w q r o now more js ≡ with_arms w q r o old arms is
    pub looked : after + arm_looks w q r o more js ≤ before + arm_looks w q r o arms is

  pub arms_begin : (arms : List Cond) (is : List IndexNo) (s : TidSet) (a : ℕ) → IsMade s → IsMarkingArms arms is arms is s s a a
  arms_begin arms is s a made = record { made = made; bound = refl; same = refl; looked = omega arith }

  pub arm_then : (arms : List Cond) (is : List IndexNo) (arm : Cond) (more : List Cond) (i : IndexNo) (js : List IndexNo) (old now next : TidSet) (a b d : ℕ) → IsMarkingArms arms is (arm ∷ more) (i ∷ js) old now a b
      → (es : List Cond) → es ≡ arm_parts arm → next ≡ with_rows now (at_which w q r o es (entry_rows w i)) → d ≤ b + entries_met w q (index_at w.contents i).method r i o (limits (index_at w.contents i) r.0 es)
      → IsMarkingArms arms is more js old next a d
  arm_then arms is arm more i js old now next a b d so_far es ee ne le = record {
    made = made_with now next (at_which w q r o es (entry_rows w i)) ne;
    bound = ap (λ (s : TidSet). s.bound) ne ∙ so_far.bound;
    same =
        ap (λ (s : TidSet). with_arms w q r o s more js) (ne ∙ ap (λ (l : List Cond). with_rows now (at_which w q r o l (entry_rows w i))) ee)
        ∙ ap (set_by now.bound) (those-same now.bound _ (λ n. is_member now.members n || some_holds w q r o n (arm ∷ more) (i ∷ js))
        (λ n lt. ap (λ (x : Bool). x || some_holds w q r o n more js) (member-those now.bound (λ m. is_member now.members m || is_member (at_which w q r o (arm_parts arm) (entry_rows w i)) m) n lt)
        ∙ or_assoc (is_member now.members n) (is_member (at_which w q r o (arm_parts arm) (entry_rows w i)) n) (some_holds w q r o n more js)))
        ∙ so_far.same;
    looked =
        let e : entries_met w q (index_at w.contents i).method r i o (limits (index_at w.contents i) r.0 es) ≡ entries_met w q (index_at w.contents i).method r i o (conditions_of (arm_bounds (index_at w.contents i) r.0 arm)) =
        ap (λ (l : List Cond). entries_met w q (index_at w.contents i).method r i o (limits (index_at w.contents i) r.0 l)) ee ∙ arm_looks_are w q r o i arm in
        let before = so_far.looked in
        omega (arith, e, le, before);
  }

  pub arms_end : (arms : List Cond) (is : List IndexNo) (js : List IndexNo) (old now : TidSet) (a b : ℕ) (more : List Cond) → more ≡ [] → IsMarkingArms arms is more js old now a b → now ≡ with_arms w q r o old arms is
  arms_end arms is js old now a b more none so_far =
      sym (ap (set_by now.bound) (those-same now.bound (λ n. is_member now.members n || some_holds w q r o n more js) (is_member now.members) (λ n lt. ap (λ (l : List Cond). is_member now.members n || some_holds w q r o n l js) none ∙ ap (λ (x : Bool). is_member now.members n || x) (nothing n js) ∙ or-false (is_member now.members n)) ∙ so_far.made))
      ∙ so_far.same
    where
      nothing : (x : ℕ) (is : List IndexNo) → some_holds w q r o x [] is ≡ false
      nothing x [] = refl
      nothing x (i ∷ is) = refl

  module _ (es : List Expr) (is : List IndexNo) (n : ℕ) (in_es : n < length es) (in_is : n < length is) (x : Expr) (i : IndexNo) (here : x ≡ get_or es n x) (old now : TidSet) (a b : ℕ)
      (so_far : IsMarkingArms (map view.cond es) is (map view.cond (drop n es)) (drop n is) old now a b) where
    split : IsMarkingArms (map view.cond es) is (view.cond x ∷ map view.cond (drop (n + 1) es)) (get_or is n i ∷ drop (n + 1) is) old now a b
    split =
        subst (λ (y : Expr). IsMarkingArms (map view.cond es) is (view.cond y ∷ map view.cond (drop (n + 1) es)) (get_or is n i ∷ drop (n + 1) is) old now a b) (sym here)
        (subst (λ (l : List Expr). IsMarkingArms (map view.cond es) is (map view.cond l) (get_or is n i ∷ drop (n + 1) is) old now a b) (drop_more es n x in_es)
        (subst (λ (l : List IndexNo). IsMarkingArms (map view.cond es) is (map view.cond (drop n es)) l old now a b) (drop_more is n i in_is) so_far))

    pub arm_on : (next : TidSet) (d : ℕ) → next ≡ with_rows now (at_which w q r o (arm_parts (view.cond x)) (entry_rows w (get_or is n i)))
        → d ≤ b + entries_met w q (index_at w.contents (get_or is n i)).method r (get_or is n i) o (limits (index_at w.contents (get_or is n i)) r.0 (arm_parts (view.cond x)))
        → IsMarkingArms (map view.cond es) is (map view.cond (drop (n + 1) es)) (drop (n + 1) is) old next a d
    arm_on next d ne le = arm_then (map view.cond es) is (view.cond x) (map view.cond (drop (n + 1) es)) (get_or is n i) (drop (n + 1) is) old now next a b d split (arm_parts (view.cond x)) refl ne le

    pub arm_stops : (d : ℕ) → d ≤ b + entries_met w q (index_at w.contents (get_or is n i)).method r (get_or is n i) o (limits (index_at w.contents (get_or is n i)) r.0 (arm_parts (view.cond x)))
        → d ≤ a + arm_looks w q r o (map view.cond es) is
    arm_stops d le =
        let e = arm_looks_are w q r o (get_or is n i) (view.cond x) in
        let before = split.looked in
        omega (arith, e, le, before)

  pub arms_done : (es : List Expr) (is : List IndexNo) (n : ℕ) → length es ≤ n → (old now : TidSet) (a b : ℕ) → IsMarkingArms (map view.cond es) is (map view.cond (drop n es)) (drop n is) old now a b → now ≡ with_arms w q r o old (map view.cond es) is
  arms_done es is n le old now a b so_far = arms_end (map view.cond es) is (drop n is) old now a b (map view.cond (drop n es)) (ap (map view.cond) (drop_of_length-le es le)) so_far

  pub arms_looked : (arms : List Cond) (is : List IndexNo) (more : List Cond) (js : List IndexNo) (old now : TidSet) (a b : ℕ) → IsMarkingArms arms is more js old now a b → b ≤ a + arm_looks w q r o arms is
  arms_looked arms is more js old now a b so_far = let e = so_far.looked in omega (arith, e)

  -- what each of some trees holds
  pub record IsMeeting (trees rest : BitTrees) (now : TidSet) (before after : ℕ) : Type 0 where
    pub made : IsMade now
    pub bound : now.bound ≡ all
    pub same : rows_passing all (λ m. is_member now.members m && all_hold_row w q r p o m rest) ≡ rows_passing all (λ m. all_hold_row w q r p o m trees)
    pub looked : after + all_tree_looks w q r p o rest ≤ before + all_tree_looks w q r p o trees

  pub meeting_begins : (b : BitTree) (bs : BitTrees) (now : TidSet) (a d : ℕ) → now ≡ set_held w q r p b o → d ≤ a + tree_looks w q r p o b → IsMeeting (tree_and b bs) bs now a d
  meeting_begins b bs now a d is le = record {
    made = subst IsMade (sym is) (made_those all (λ m. holds w q r p o m b));
    bound = ap (λ (s : TidSet). s.bound) is;
    same = those-same all _ (λ m. all_hold_row w q r p o m (tree_and b bs)) (λ m lt. ap (λ (x : Bool). x && all_hold_row w q r p o m bs) (ap (λ (s : TidSet). is_member s.members m) is ∙ member-those all (λ n. holds w q r p o n b) m lt));
    looked = omega (arith, le);
  }

  pub meeting_on : (trees : BitTrees) (b : BitTree) (bs : BitTrees) (now next other : TidSet) (a d e : ℕ) → IsMeeting trees (tree_and b bs) now a d → other ≡ set_held w q r p b o → next ≡ set_by now.bound (rows_passing now.bound (λ m. is_member now.members m && is_member other.members m)) → e ≤ d + tree_looks w q r p o b → IsMeeting trees bs next a e
  meeting_on trees b bs now next other a d e so_far is ne le =
      let full : next ≡ set_by all (rows_passing all (λ m. is_member now.members m && is_member other.members m)) = ne ∙ ap (λ (n : ℕ). set_by n (rows_passing n (λ m. is_member now.members m && is_member other.members m))) so_far.bound in
      record {
        made = subst IsMade (sym full) (made_those all (λ m. is_member now.members m && is_member other.members m));
        bound = ap (λ (s : TidSet). s.bound) full;
        same =
            those-same all _ (λ m. is_member now.members m && all_hold_row w q r p o m (tree_and b bs))
            (λ m lt. ap (λ (x : Bool). x && all_hold_row w q r p o m bs) (ap (λ (s : TidSet). is_member s.members m) full ∙ member-those all (λ n. is_member now.members n && is_member other.members n) m lt
            ∙ ap (λ (x : Bool). is_member now.members m && x) (ap (λ (s : TidSet). is_member s.members m) is ∙ member-those all (λ n. holds w q r p o n b) m lt))
            ∙ and_assoc (is_member now.members m) (holds w q r p o m b) (all_hold_row w q r p o m bs))
            ∙ so_far.same;
        looked = let before = so_far.looked in omega (arith, before, le);
      }

  pub meeting_ends : (trees rest : BitTrees) (now : TidSet) (a d : ℕ) → rest ≡ no_trees → IsMeeting trees rest now a d → now ≡ set_held w q r p (all_hold trees) o
  meeting_ends trees rest now a d none so_far =
      ap₂ set_by so_far.bound
      (sym so_far.made ∙ ap (λ (n : ℕ). rows_passing n (is_member now.members)) so_far.bound
      ∙ sym (those-same all (λ m. is_member now.members m && all_hold_row w q r p o m rest) (is_member now.members) (λ m lt. ap (λ (x : BitTrees). is_member now.members m && all_hold_row w q r p o m x) none ∙ and-true (is_member now.members m)))
      ∙ so_far.same)

  pub meeting_looks : (trees rest : BitTrees) (now : TidSet) (a d : ℕ) → IsMeeting trees rest now a d → d ≤ a + all_tree_looks w q r p o trees
  meeting_looks trees rest now a d so_far = let e = so_far.looked in omega (arith, e)

-- trees from a place on
pub trees_from : (ts : List Bits) (n : ℕ) (d : Bits) → n < length ts → bits_all (drop n ts) ≡ tree_and (bits (get_or ts n d)) (bits_all (drop (n + 1) ts))
trees_from ts n d lt = ap bits_all (drop_more ts n d lt)

module _ (w : World) (q : Query) (r : RelNo) (p : RelSet) (o : Tuple) (ts : List Bits) (n : ℕ) (lt : n < length ts) (t : Bits) (here : t ≡ get_or ts n t) where
  from_here : bits_all (drop n ts) ≡ tree_and (bits t) (bits_all (drop (n + 1) ts))
  from_here = trees_from ts n t lt ∙ ap (λ (x : Bits). tree_and (bits x) (bits_all (drop (n + 1) ts))) (sym here)

  pub tree_here : AreHeldTrees w.contents q r p (bits_all (drop n ts)) → IsHeldTree w.contents q r p (bits t)
  tree_here h = (subst (AreHeldTrees w.contents q r p) from_here h).0

  pub trees_behind : AreHeldTrees w.contents q r p (bits_all (drop n ts)) → AreHeldTrees w.contents q r p (bits_all (drop (n + 1) ts))
  trees_behind h = (subst (AreHeldTrees w.contents q r p) from_here h).1

  pub met_first : (now : TidSet) (a d : ℕ) → n ≡ 0 → now ≡ set_held w q r p (bits t) o → d ≤ a + tree_looks w q r p o (bits t) → IsMeeting w q r p o (bits_all ts) (bits_all (drop (n + 1) ts)) now a d
  met_first now a d first is le =
      subst (λ (x : BitTrees). IsMeeting w q r p o x (bits_all (drop (n + 1) ts)) now a d) (sym from_here ∙ ap (λ (m : ℕ). bits_all (drop m ts)) first) (meeting_begins w q r p o (bits t) (bits_all (drop (n + 1) ts)) now a d is le)

  pub met_next : (trees : BitTrees) (now next other : TidSet) (a d e : ℕ) → IsMeeting w q r p o trees (bits_all (drop n ts)) now a d → other ≡ set_held w q r p (bits t) o → next ≡ set_by now.bound (rows_passing now.bound (λ m. is_member now.members m && is_member other.members m))
      → e ≤ d + tree_looks w q r p o (bits t) → IsMeeting w q r p o trees (bits_all (drop (n + 1) ts)) next a e
  met_next trees now next other a d e so_far is ne le =
      meeting_on w q r p o trees (bits t) (bits_all (drop (n + 1) ts)) now next other a d e (subst (λ (x : BitTrees). IsMeeting w q r p o trees x now a d) from_here so_far) is ne le

  pub met_stops : (trees : BitTrees) (now : TidSet) (a d e : ℕ) → IsMeeting w q r p o trees (bits_all (drop n ts)) now a d → e ≤ d + tree_looks w q r p o (bits t) → e ≤ a + all_tree_looks w q r p o trees
  met_stops trees now a d e so_far le =
      let before = (subst (λ (x : BitTrees). IsMeeting w q r p o trees x now a d) from_here so_far).looked in
      omega (arith, before, le)

pub trees_met : (w : World) (q : Query) (r : RelNo) (p : RelSet) (o : Tuple) (ts : List Bits) (n : ℕ) → length ts ≤ n → (now : TidSet) (a d : ℕ) → IsMeeting w q r p o (bits_all ts) (bits_all (drop n ts)) now a d → now ≡ set_held w q r p (all_hold (bits_all ts)) o
trees_met w q r p o ts n le now a d so_far = meeting_ends w q r p o (bits_all ts) (bits_all (drop n ts)) now a d (ap bits_all (drop_of_length-le ts le)) so_far
