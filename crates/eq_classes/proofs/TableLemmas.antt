-- What the clauses of a table mean, said of a table of given conjuncts.
use Rattle.std.proofs.Common.{◌≡◌, ℕ, Bool, true, false, ◌&&◌, List, All, Some, sym, ap, ◌∙◌, subst}
use Rattle.std.proofs.lemmas.Bool.{and_parts}
use Rattle.opfamily.specs.pg_value_value_Value.{Value}
use Rattle.opfamily.specs.pg_value_Truths.{is_true}
use Rattle.pg_expr.specs.declared.operand.ColRef.{ColRef}
use Rattle.pg_expr.specs.Cond.{Cond, conds_of}
use Rattle.pg_expr.specs.Columns.{each_column}
use Rattle.pg_expr.specs.Truths.{truth_of_all}
use Rattle.pg_expr.specs.Typed.{IsTyped}
use Rattle.eq_classes.specs.Classes.{Premises, Class, IsClass, conjuncts_in}
use Rattle.eq_classes.specs.Clauses.{Set, one, first_in, Clause, clauses_from, conjunct_clauses, clause_list, ClassTable}
use Rattle.eq_classes.specs.Parts.{union, is_inside, is_all, is_base, is_join, is_param, is_join_param}
use Rattle.eq_classes.specs.Holding.{IsClassTable, AreApart, IsWithin}
use Rattle.eq_classes.specs.work.Holding.{hold, Fits, AgreeOn, HasClass}
use Rattle.eq_classes.proofs.ListLemmas.{IsIn, in_from_contains, all_at}
use Rattle.eq_classes.proofs.HoldLemmas.{hold-append}
use Rattle.eq_classes.proofs.ClassHoldLemmas.{IsSound}
use Rattle.eq_classes.proofs.ClasswiseLemmas.{same_truth, Says, says}
use Rattle.eq_classes.proofs.SoundLemmas.{class_sound, members_differ}
use Rattle.eq_classes.proofs.WhereLemmas.{class_part, conjunct_holds, clauses_hold}
use Rattle.eq_classes.proofs.WrittenLemmas.{each_true, true_each, in_typed, in_inside, in_truth}

abbrev pub made : Premises → List Class → List Clause
made g classes = clause_list g.type_of g.conjuncts classes

module _ (g : Premises) (t : ClassTable) (is : IsClassTable g t) where
  pub list_is : made g t.classes ≡ t.clauses
  list_is = sym is.clauses

  module _ (b : ColRef → Value) (typed : All (IsTyped g.type_of) g.conjuncts) (fits : Fits g.type_of b) where
    pub sound : (c : Class) → IsIn c t.classes → IsSound b c
    sound c i = class_sound g b typed fits t.classes is.classes c i

    pub says_at : (set : Set) → hold b (is_all set) t.clauses ≡ true → (c : Class) → IsIn c t.classes → Says b c set
    says_at set h c i =
        let h' : hold b (is_all set) (made g t.classes) ≡ true = ap (hold b (is_all set)) list_is ∙ h in
        let halves = and_parts (hold b (is_all set) (conjunct_clauses g.type_of 1 g.conjuncts)) (hold b (is_all set) (clauses_from 0 t.classes)) (sym (hold-append b (is_all set) (conjunct_clauses g.type_of 1 g.conjuncts) (clauses_from 0 t.classes)) ∙ h') in
        let w = class_part b (is_all set) 0 t.classes c i halves.1 in
        says b w.0 c (sound c i) set w.1

    -- inside a set that holds all conjuncts
    pub conjuncts_at : (set : Set) → ((k : Cond) → IsIn k g.conjuncts → is_inside set k ≡ true) → hold b (is_all set) t.clauses ≡ is_true (truth_of_all b (conds_of g.conjuncts))
    conjuncts_at set inside = subst (λ (ks : List Clause). hold b (is_all set) ks ≡ is_true (truth_of_all b (conds_of g.conjuncts))) list_is (same_truth _ _
        (λ h. true_each b g.conjuncts (λ k i. conjunct_holds g t.classes is.classes b typed fits set h k i (inside k i)))
        (λ h. clauses_hold g t.classes is.classes b typed fits (each_true b g.conjuncts h) set))

  pub where_at : (ws : List Cond) (b : ColRef → Value) (set : Set) → g.conjuncts ≡ conjuncts_in ws → All (IsTyped g.type_of) ws → Fits g.type_of b → set 0 ≡ true
      → All (λ w. each_column (λ x. set x.rel.0) w ≡ true) ws → hold b (is_all set) t.clauses ≡ is_true (truth_of_all b (conds_of ws))
  where_at ws b set given typed fits zero_in each =
      conjuncts_at b (subst (λ (ks : List Cond). All (IsTyped g.type_of) ks) (sym given) (in_typed g.type_of ws typed)) fits set (λ k i. in_inside g.type_of ws typed set zero_in each k (subst (λ (ks : List Cond). IsIn k ks) given i))
      ∙ ap (λ (ks : List Cond). is_true (truth_of_all b (conds_of ks))) given
      ∙ in_truth g.type_of ws typed b fits

-- what the clauses of a table of given conjuncts mean
abbrev pub Means : Premises → ClassTable → Type 0
Means g t = (ws : List Cond) (b : ColRef → Value) (set : Set) → g.conjuncts ≡ conjuncts_in ws → All (IsTyped g.type_of) ws → Fits g.type_of b → set 0 ≡ true
    → All (λ w. each_column (λ x. set x.rel.0) w ≡ true) ws → hold b (is_all set) t.clauses ≡ is_true (truth_of_all b (conds_of ws))
