-- The conditions of an index as bounds of its keys, column by column.
use Rattle.std.proofs.Common.{◌≡◌, ◌+◌, ℕ, Bool, true, false, cond, ◌&&◌, ◌||◌, List, [], ◌∷◌, map, filter, find, Option, Some, None, refl, sym, ap, ap₂, ◌∙◌, subst, ⊎_elim, inl, inr}
use Rattle.std.specs.List.{AllByRecursion, list_any}
use Rattle.std.specs.Prelude.{option_map}
use Rattle.std.proofs.lemmas.Bool.{true≢false, cases_Bool}
use Rattle.pg_base.specs.declared.numbers.ColNo.{ColNo}
use Rattle.pg_value.specs.declared.value.SqlType.{SqlType}
use Rattle.pg_value.specs.declared.value.Value.{Value}
use Rattle.pg_value.specs.work.Order.{IsOfFamily}
use Rattle.opfamily.specs.KeyOrder.{key_family}
use Rattle.opfamily.specs.declared.classes.IndexKey.{IndexKey}
use Rattle.opfamily.specs.declared.classes.Method.TheVariants.{Btree}
use Rattle.pg_expr.specs.declared.operand.ColRef.{ColRef}
use Rattle.pg_expr.specs.Cond.{Cond}
use Rattle.pg_expr.specs.Typed.{some_value}
use Rattle.pg_expr.proofs.PushedLaws.{IsDefined}
use Rattle.eq_classes.proofs.ListLemmas.{IsIn, in_filter, found_in, found_passes, any_from}
use Rattle.btree_index.specs.declared.bounds.Probe.{Probe}
use Rattle.btree_index.specs.work.Bounds as tree
use Rattle.btree_index.specs.work.Bounds.{AreBounds, GoOn, IsOn, IsOpenOn}
use Rattle.index_match.specs.Conditions.{has_key_form}
use Rattle.index_match.specs.Numbered.{Numbered, conditions_of}
use Rattle.index_match.specs.Bounds as match
use Rattle.index_match.specs.work.Bounds as match_work
use Rattle.index_match.specs.Bounds.{bounding, bounds_among, is_fixing}
use Rattle.scan_probes.specs.work.Values.{Given, are_true, value_beside}
use Rattle.scan_probes.specs.work.Probes.{AreOf, column_of, fixed_or_open, conditions_on_key, probe_of, probes_from}
use Rattle.scan_probes.proofs.MeetLemmas.{fixes, meets_true, stands}

-- no element passes a test where none is found
module _ {A : Type 0} (test : A → Bool) where
  not_any : (ys : List A) → list_any test ys ≡ true → find test ys ≡ None → ⊥
  not_any [] any none = true≢false (sym any)
  not_any (y ∷ ys) any none = by (not_any ys) (test y) any none
    where
      by : (list_any test ys ≡ true → find test ys ≡ None → ⊥) → (b : Bool) → b || list_any test ys ≡ true → cond b (Some y) (find test ys) ≡ None → ⊥
      by later true any none = cc
      by later false any none = later any none

  pub none_passes : (xs : List A) → find test xs ≡ None → (x : A) → IsIn x xs → test x ≡ false
  none_passes xs none x i = ⊎_elim
      (λ (t : test x ≡ true). absurd (not_any xs (any_from test xs x i t) none))
      (λ (f : test x ≡ false). f)
      (cases_Bool (test x))

-- a condition is defined at the values given, whatever value of its type each key column has
abbrev pub sampled : ℕ → Given → (ColRef → SqlType) → ColRef → Value
sampled r given type_of = value_beside r (λ c. some_value (type_of (column_of r c))) given

-- the class of a key takes its column's type
abbrev pub IsKeySampled : ℕ → (ColRef → SqlType) → IndexKey → Type 0
IsKeySampled r type_of k = IsOfFamily (key_family k) (some_value (type_of (column_of r k.col)))

module _ (r : ℕ) (given : Given) (type_of : ColRef → SqlType) (es : List Cond) (defined : (e : Cond) → IsIn e es → IsDefined (sampled r given type_of) e) where
  open_bounds : (column : ℕ) (k : IndexKey) → IsKeySampled r type_of k → (xs : List Cond) → ((e : Cond) → IsIn e xs → IsIn e es × (has_key_form Btree r k e ≡ true) × (is_fixing e ≡ false)) →
      AllByRecursion (IsOpenOn column k) (map (probe_of r k column given) xs)
  open_bounds column k key [] each = tt
  open_bounds column k key (e ∷ xs) each =
      let this = each e (inl refl) in (
        record { on = stands r k given column type_of key e this.1 (defined e this.0); not_fixing = fixes r k given column e this.1 ∙ this.2 },
        open_bounds column k key xs (λ x i. each x (inr i)),
      )

  from_open : (column : ℕ) (k : IndexKey) (ks : List IndexKey) (ps : List Probe) → AllByRecursion (IsOpenOn column k) ps → AreBounds column (k ∷ ks) ps
  from_open column k ks [] all = tt
  from_open column k ks (p ∷ ps) all =
      (all.0.on, subst (λ (b : Bool). GoOn b (AreBounds (column + 1) ks ps) (AllByRecursion (IsOpenOn column k) ps)) (sym all.0.not_fixing) all.1)

  pub probes_bound : (column : ℕ) (ks : List IndexKey) → AllByRecursion (IsKeySampled r type_of) ks → AreBounds column ks (probes_from r column ks given es)
  probes_bound column [] keys = tt
  probes_bound column (k ∷ ks) keys = by (probes_bound (column + 1) ks keys.1) (find is_fixing (conditions_on_key r k es)) refl
    where
      by : AreBounds (column + 1) ks (probes_from r (column + 1) ks given es) → (o : Option Cond) → find is_fixing (conditions_on_key r k es) ≡ o →
          AreBounds column (k ∷ ks) (fixed_or_open o (probe_of r k column given) (conditions_on_key r k es) (probes_from r (column + 1) ks given es))
      by later None none =
          from_open column k ks (map (probe_of r k column given) (conditions_on_key r k es))
          (open_bounds column k keys.0 (conditions_on_key r k es) (λ e i. let in_es = in_filter (has_key_form Btree r k) es e i in (in_es.0, in_es.1, none_passes is_fixing (conditions_on_key r k es) none e i)))
      by later (Some e) found =
          let here = in_filter (has_key_form Btree r k) es e (found_in is_fixing (conditions_on_key r k es) e found) in (
            stands r k given column type_of keys.0 e here.1 (defined e here.0),
            subst (λ (b : Bool). GoOn b (AreBounds (column + 1) ks (probes_from r (column + 1) ks given es)) (AllByRecursion (IsOpenOn column k) (probes_from r (column + 1) ks given es)))
                (sym (fixes r k given column e here.1 ∙ found_passes is_fixing (conditions_on_key r k es) e found)) later,
          )

pub filter_of : (p : Cond → Bool) (cs : List Numbered) → filter p (conditions_of cs) ≡ conditions_of (filter (λ (c : Numbered). p c.cond) cs)
filter_of p [] = refl
filter_of p (c ∷ cs) = by (p c.cond) (filter_of p cs)
  where
    by : (b : Bool) → filter p (conditions_of cs) ≡ conditions_of (filter (λ (c : Numbered). p c.cond) cs) →
        cond b (c.cond ∷ filter p (conditions_of cs)) (filter p (conditions_of cs)) ≡ conditions_of (cond b (c ∷ filter (λ (c : Numbered). p c.cond) cs) (filter (λ (c : Numbered). p c.cond) cs))
    by true later = ap (λ (l : List Cond). c.cond ∷ l) later
    by false later = later

pub find_of : (p : Cond → Bool) (cs : List Numbered) → find p (conditions_of cs) ≡ option_map (λ (c : Numbered). c.cond) (find (λ (c : Numbered). p c.cond) cs)
find_of p [] = refl
find_of p (c ∷ cs) = by (p c.cond) (find_of p cs)
  where
    by : (b : Bool) → find p (conditions_of cs) ≡ option_map (λ (c : Numbered). c.cond) (find (λ (c : Numbered). p c.cond) cs) →
        cond b (Some c.cond) (find p (conditions_of cs)) ≡ option_map (λ (c : Numbered). c.cond) (cond b (Some c) (find (λ (c : Numbered). p c.cond) cs))
    by true later = refl
    by false later = later

pub in_conditions : (cs : List Numbered) (c : Numbered) → IsIn c cs → IsIn c.cond (conditions_of cs)
in_conditions [] c i = absurd i
in_conditions (d ∷ cs) c i = ⊎_elim (λ (same : c ≡ d). inl (ap (λ (x : Numbered). x.cond) same)) (λ (later : IsIn c cs). inr (in_conditions cs c later)) i

module _ (r : ℕ) (given : Given) (own : ColNo → Value) (vs : List Value) (cs : List Numbered) (defined : (c : Numbered) → IsIn c cs → IsDefined (value_beside r own given) c.cond) where
  abbrev values : ColRef → Value
  values = value_beside r own given

  open_meet : (column : ℕ) (k : IndexKey) → tree.key_value_at vs column ≡ own k.col → (xs : List Numbered) → ((c : Numbered) → IsIn c xs → IsIn c cs × (has_key_form Btree r k c.cond ≡ true)) →
      tree.meets_all (map (probe_of r k column given) (conditions_of xs)) vs ≡ are_true values (conditions_of xs)
  open_meet column k at [] each = refl
  open_meet column k at (c ∷ xs) each =
      let this = each c (inl refl) in
      ap₂ (λ (a b : Bool). a && b) (meets_true r k given column own vs at c.cond this.1 (defined c this.0)) (open_meet column k at xs (λ x i. each x (inr i)))

  -- as bounding goes on from what it found
  abbrev bounding_by : Option Numbered → List Numbered → List Numbered → List Numbered
  bounding_by None here behind = here
  bounding_by (Some c) here behind = c ∷ behind

  bounding_is : (k : IndexKey) (ks : List IndexKey) → bounding Btree r (k ∷ ks) cs ≡ bounding_by (find (λ (c : Numbered). is_fixing c.cond) (match.on_key Btree r k cs)) (match.on_key Btree r k cs) (bounding Btree r ks cs)
  bounding_is k ks = by (find (λ (c : Numbered). is_fixing c.cond) (match.on_key Btree r k cs))
    where
      by : (o : Option Numbered) → elim o [ None ↦ match.on_key Btree r k cs | Some c ↦ c ∷ bounding Btree r ks cs ] ≡ bounding_by o (match.on_key Btree r k cs) (bounding Btree r ks cs)
      by None = refl
      by (Some c) = refl

  pub probes_meet : (column : ℕ) (ks : List IndexKey) → AreOf own column ks vs → tree.meets_all (probes_from r column ks given (conditions_of cs)) vs ≡ are_true values (conditions_of (bounding Btree r ks cs))
  probes_meet column [] at = refl
  probes_meet column (k ∷ ks) at =
      ap₂ (λ (o : Option Cond) (l : List Cond). tree.meets_all (fixed_or_open o (probe_of r k column given) l (probes_from r (column + 1) ks given (conditions_of cs))) vs)
      (ap (find is_fixing) (filter_of (has_key_form Btree r k) cs) ∙ find_of is_fixing (match.on_key Btree r k cs)) (filter_of (has_key_form Btree r k) cs)
      ∙ by (probes_meet (column + 1) ks at.1) (find (λ (c : Numbered). is_fixing c.cond) (match.on_key Btree r k cs)) refl
      ∙ sym (ap (λ (l : List Numbered). are_true values (conditions_of l)) (bounding_is k ks))
    where
      by : tree.meets_all (probes_from r (column + 1) ks given (conditions_of cs)) vs ≡ are_true values (conditions_of (bounding Btree r ks cs)) → (o : Option Numbered) → find (λ (c : Numbered). is_fixing c.cond) (match.on_key Btree r k cs) ≡ o →
          tree.meets_all (fixed_or_open (option_map (λ (c : Numbered). c.cond) o) (probe_of r k column given) (conditions_of (match.on_key Btree r k cs)) (probes_from r (column + 1) ks given (conditions_of cs))) vs
          ≡ are_true values (conditions_of (bounding_by o (match.on_key Btree r k cs) (bounding Btree r ks cs)))
      by later None none = open_meet column k at.0 (match.on_key Btree r k cs) (λ c i. in_filter (λ (c : Numbered). has_key_form Btree r k c.cond) cs c i)
      by later (Some c) found =
          let here = in_filter (λ (c : Numbered). has_key_form Btree r k c.cond) cs c (found_in (λ (c : Numbered). is_fixing c.cond) (match.on_key Btree r k cs) c found) in
          ap₂ (λ (a b : Bool). a && b) (meets_true r k given column own vs at.0 c.cond here.1 (defined c here.0)) later
