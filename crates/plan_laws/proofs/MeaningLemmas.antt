-- The clauses of a well bound query mean its conditions.
use Rattle.std.proofs.Common.{◌≡◌, ℕ, Bool, ◌&&◌, nat_lt, nat_eq, List, [], ◌∷◌, arith, refl, sym, ap, ◌∙◌}
use Rattle.std.proofs.lemmas.Grind.{common_steps}
use Rattle.std.proofs.lemmas.Bool.{lt-ltb}
use Rattle.std.specs.List.{list_all}
use Rattle.pg_value.specs.declared.operators.Truth.{Truth}
use Rattle.pg_value.specs.declared.operators.Truth.TheVariants.{True, False, Unknown}
use Rattle.pg_value.specs.declared.value.Value.{Value}
use Rattle.pg_value.specs.Truths.{is_true, both}
use Rattle.pg_expr.specs.declared.operand.ColRef.{ColRef}
use Rattle.pg_expr.specs.Cond.{Cond, conds_of}
use Rattle.pg_expr.specs.Truths.{truth_at, truth_of_all}
use Rattle.eq_classes.specs.Clauses.{Set, one}
use Rattle.eq_classes.specs.work.Holding.{hold}
use Rattle.eq_classes.specs.Parts.{is_all, is_base}
use Rattle.eq_classes.proofs.TableLemmas.{where_at}
use Rattle.plan_laws.proofs.PartLemmas.{base_at}
use Rattle.sql_query.specs.Meaning.{all_true}
use Rattle.sql_query.specs.Queries.{Query, all_of_query, width}
use Rattle.sql_query.specs.Tuples.{Tuple, value_at}
use Rattle.sql_query.specs.WellBound.{given_with, IsWellBound}
use Rattle.sql_query.specs.Worlds.{World, IsWorld}
use Rattle.plan_laws.proofs.FitsLemmas.{values_fit}
use Rattle.plan_laws.proofs.OverLemmas.{conditions_inside}
use Rattle.eq_classes.proofs.WrittenLemmas.{is_true-both as is_true_both}

pub all_is_each : (b : ColRef → Value) (es : List Cond) → is_true (truth_of_all b (conds_of es)) ≡ list_all (λ e. is_true (truth_at b e)) es
all_is_each b [] = refl
all_is_each b (e ∷ es) = is_true_both (truth_at b e) (truth_of_all b (conds_of es)) ∙ ap (λ (v : Bool). is_true (truth_at b e) && v) (all_is_each b es)

only_first : (n k : ℕ) → n ≡ 1 → nat_lt k n ≡ nat_eq k 0
only_first n k one = grind (arith, common_steps)

module _ (w : World) (q : Query) (t : Tuple) (world : IsWorld w) (is : IsWellBound w.contents q) where
  pub clauses_mean : hold (value_at w q t) (is_all (all_of_query q)) q.classes.clauses ≡ all_true w q t q.where_all
  clauses_mean =
      where_at (given_with w.contents q is.items) q.classes is.classes q.where_all (value_at w q t) (all_of_query q) refl is.typed (values_fit w q t world) (lt-ltb 0 (width q) is.range.some)
      (conditions_inside w.contents q is)
      ∙ all_is_each (value_at w q t) q.where_all

  pub base_means : width q ≡ 1 → hold (value_at w q t) (is_base 0) q.classes.clauses ≡ all_true w q t q.where_all
  base_means single =
      let same : all_of_query q ≡ one 0 = λ i k. only_first (width q) k single i in
      sym (base_at (given_with w.contents q is.items) q.classes is.classes (value_at w q t) 0)
      ∙ ap (λ (s : Set). hold (value_at w q t) (is_all s) q.classes.clauses) (sym same)
      ∙ clauses_mean
