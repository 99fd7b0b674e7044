-- Conditions of typed queries as bounds of an index.
use Rattle.std.proofs.Common.{◌≡◌, ℕ, Bool, true, false, cond, nat_eq, List, [], ◌∷◌, refl, sym, ap, subst, ⊎_elim, All}
use Rattle.std.specs.List.{AllByRecursion}
use Rattle.std.proofs.lemmas.Bool.{and_from, cases_Bool, eqb-true}
use Rattle.pg_base.specs.declared.numbers.ColNo.{ColNo}
use Rattle.pg_value.specs.declared.value.SqlType.{SqlType}
use Rattle.pg_value.specs.declared.value.Value.{Value}
use Rattle.opfamily.specs.declared.classes.IndexKey.{IndexKey}
use Rattle.opfamily.specs.declared.classes.Method.TheVariants.{Btree}
use Rattle.pg_expr.specs.declared.operand.ColRef.{ColRef}
use Rattle.pg_expr.specs.declared.operand.Operand.{Operand}
use Rattle.pg_expr.specs.declared.operand.Operand.TheVariants.{Col, Lit}
use Rattle.pg_expr.specs.Cond.{Cond, compare, is_null, is_not_null, bool_col, const, all_of, any_of, negation, Conds, no_conds, cond_and}
use Rattle.pg_expr.specs.Columns.{each_column, each_column_of, passes_column}
use Rattle.pg_expr.specs.Typed.{IsTyped, some_value}
use Rattle.pg_expr.proofs.DefinedLaws.{IsLike, like_type}
use Rattle.pg_expr.proofs.PushedLaws.{IsDefined}
use Rattle.eq_classes.proofs.ListLemmas.{all_at}
use Rattle.btree_index.specs.work.Bounds.{AreBounds, meets_all}
use Rattle.index_match.specs.Bounds.{bounding}
use Rattle.index_match.specs.Numbered.{Numbered, conditions_of}
use Rattle.scan_probes.specs.work.Values.{Given, are_true, value_beside}
use Rattle.scan_probes.specs.work.Probes.{AreOf, FitGiven, FitOwn, IsKeyTyped, column_of, given_value, probes_from}
use Rattle.scan_probes.proofs.ProbeLemmas.{key_fits}
use Rattle.scan_probes.proofs.BoundsLemmas.{IsKeySampled, in_conditions, probes_bound, probes_meet}
use Rattle.scan_probes.proofs.SampleLemmas.{kinds_defined, like_itself}

abbrev pub any : ColRef → Bool
any x = true

side_any : (o : Operand) → passes_column any o ≡ true
side_any (Col x) = refl
side_any (Lit v) = refl

mutual
  pub each_any : (e : Cond) → each_column any e ≡ true
  each_any (compare op a b) = and_from _ _ (side_any a) (side_any b)
  each_any (is_null x) = refl
  each_any (is_not_null x) = refl
  each_any (bool_col x) = refl
  each_any (const t) = refl
  each_any (all_of es) = each_any_of es
  each_any (any_of es) = each_any_of es
  each_any (negation e) = each_any e

  each_any_of : (es : Conds) → each_column_of any es ≡ true
  each_any_of no_conds = refl
  each_any_of (cond_and e es) = and_from _ _ (each_any e) (each_any_of es)

module _ (type_of : ColRef → SqlType) (r : ℕ) (given : Given) (fit : FitGiven type_of given) where
  -- values beside the rows given are of the kinds of their columns' types
  like_beside : (own : ColNo → Value) → ((c : ColNo) → IsLike (some_value (type_of (column_of r c))) (own c)) → (x : ColRef) → IsLike (some_value (type_of x)) (value_beside r own given x)
  like_beside own like x = ⊎_elim
      (λ (t : nat_eq x.rel.0 r ≡ true).
      let same : x ≡ column_of r x.col = ap (λ (k : ℕ). column_of k x.col) (eqb-true x.rel.0 r t) in
      subst (IsLike (some_value (type_of x))) (sym (ap (λ (b : Bool). cond b (own x.col) (given_value given x)) t)) (subst (λ (y : ColRef). IsLike (some_value (type_of y)) (own x.col)) (sym same) (like x.col)))
      (λ (f : nat_eq x.rel.0 r ≡ false).
      subst (IsLike (some_value (type_of x))) (sym (ap (λ (b : Bool). cond b (own x.col) (given_value given x)) f)) (like_type (type_of x) (given_value given x) (fit x)))
      (cases_Bool (nat_eq x.rel.0 r))

  pub defined_beside : (own : ColNo → Value) → FitOwn type_of r own → (e : Cond) → IsTyped type_of e → IsDefined (value_beside r own given) e
  defined_beside own fit_own e typed =
      kinds_defined type_of (value_beside r own given) (like_beside own (λ c. like_type (type_of (column_of r c)) (own c) (fit_own c))) e typed

  -- so are they beside some value of each type
  pub defined_sampled : (e : Cond) → IsTyped type_of e → IsDefined (value_beside r (λ c. some_value (type_of (column_of r c))) given) e
  defined_sampled e typed =
      let own : ColNo → Value = λ c. some_value (type_of (column_of r c)) in
      kinds_defined type_of (value_beside r own given) (like_beside own (λ c. like_itself (own c))) e typed

  keys_sampled : (ks : List IndexKey) → AllByRecursion (IsKeyTyped type_of r) ks → AllByRecursion (IsKeySampled r type_of) ks
  keys_sampled [] all = tt
  keys_sampled (k ∷ ks) all = (key_fits k Btree (type_of (column_of r k.col)) all.0, keys_sampled ks all.1)

  pub conditions_bound : (ks : List IndexKey) (es : List Cond) → AllByRecursion (IsKeyTyped type_of r) ks → All (IsTyped type_of) es → AreBounds 0 ks (probes_from r 0 ks given es)
  conditions_bound ks es keys typed =
      probes_bound r given type_of es
      (λ e i. defined_sampled e (all_at (IsTyped type_of) es typed e i)) 0 ks (keys_sampled ks keys)

  pub conditions_met : (own : ColNo → Value) → FitOwn type_of r own → (ks : List IndexKey) (vs : List Value) (cs : List Numbered) → AreOf own 0 ks vs → All (IsTyped type_of) (conditions_of cs)
      → meets_all (probes_from r 0 ks given (conditions_of cs)) vs ≡ are_true (value_beside r own given) (conditions_of (bounding Btree r ks cs))
  conditions_met own fit_own ks vs cs at typed =
      probes_meet r given own vs cs
      (λ c i. defined_beside own fit_own c.cond (all_at (IsTyped type_of) (conditions_of cs) typed c.cond (in_conditions cs c i))) 0 ks at
