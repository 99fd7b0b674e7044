-- The condition of an index where it is next, and where it is not.
use Rattle.std.proofs.Common.{◌≡◌, true, false, List, ◌++◌, Option, Some, None, Result, Ok, Err, IsErrAnd, refl, sym, ap, ◌∙◌, subst}
use Rattle.std.specs.Option.{option_map}
use Rattle.pg_base.specs.declared.faults.Refusal.{Refusal}
use Rattle.pg_expr.specs.declared.expr.Expr.{Expr as ExprRead}
use Rattle.pg_expr.specs.Cond.{Cond}
use Rattle.pg_expr.specs.Pushed.{pushed}
use Rattle.pg_expr.specs.work.View.{cond}
use Rattle.sql_grammar.specs.Terminals.{Terminal, t_key}
use Rattle.sql_grammar.specs.declared.class.Word.TheVariants.{Where as WhereKey}
use Rattle.sql_grammar.specs.Syntax.{Expr, Where, no_where, where_expr}
use Rattle.sql_grammar.specs.work.Unique.{ends_expr}
use Rattle.sql_grammar.specs.Words.{words_of_expr, words_of_where}
use Rattle.expr_reader.specs.work.Reading.{BeginsNot}
use Rattle.expr_reader.specs.Conditions.{meaning_of_expr}
use Rattle.expr_reader.specs.work.Reads.{Reads}
use Rattle.expr_reader.proofs.ReadsLemmas.{read-ok, read-refused, was-read}
use Rattle.query_reader.proofs.WhereLemmas.{There}
use Rattle.index_reader.specs.Visible.{Sight, visible_in, sight_type}
use Rattle.index_reader.specs.Meaning.{condition_bound}
use Rattle.expr_reader.proofs.StepLemmas.{step, stop}

module _ (s : Sight) where
  pub no-condition : (w : Where) (rest old new : List Terminal) → new ≡ old → BeginsNot (t_key WhereKey) old → old ≡ words_of_where w ++ rest → Reads (option_map cond) (condition_bound s w) rest (Ok None) new
  no-condition no_where rest old new left absent is = (refl, left ∙ is)
  no-condition (where_expr k e) rest old new left absent is = absurd (absent (words_of_expr e ++ rest) (k, is))

  -- its expression is refused
  pub condition-stopped : (w : Where) (rest left new : List Terminal) (f : Refusal) (r : Result (Option ExprRead) Refusal) → There w rest left →
      ((e : Expr) (rest : List Terminal) → ends_expr rest ≡ true → left ≡ words_of_expr e ++ rest → Reads cond (meaning_of_expr (visible_in s) (sight_type s) e) rest (Err f) new) → IsErrAnd r (λ g. g ≡ f) →
      Reads (option_map cond) (condition_bound s w) rest r new
  condition-stopped w rest left new f r at told stopped =
      subst (λ (v : Where). Reads (option_map cond) (condition_bound s v) rest r new) (sym at.is)
      (read-refused ExprRead (Option ExprRead) Cond (Option Cond) cond (option_map cond) (meaning_of_expr (visible_in s) (sight_type s) at.condition) (condition_bound s (where_expr at.key at.condition)) f r rest rest new new
      (told at.condition rest at.ends at.words) (λ g wrong. stop (meaning_of_expr (visible_in s) (sight_type s) at.condition) (λ c. Ok (Some (pushed false c))) g wrong) stopped)

  -- its expression is read, and put in pushed form
  pub condition-read : (w : Where) (rest left new : List Terminal) (x p : ExprRead) → There w rest left →
      ((e : Expr) (rest : List Terminal) → ends_expr rest ≡ true → left ≡ words_of_expr e ++ rest → Reads cond (meaning_of_expr (visible_in s) (sight_type s) e) rest (Ok x) new) → cond p ≡ pushed false (cond x) →
      Reads (option_map cond) (condition_bound s w) rest (Ok (Some p)) new
  condition-read w rest left new x p at told form =
      let m = meaning_of_expr (visible_in s) (sight_type s) at.condition in
      let was = was-read ExprRead Cond cond m x rest new (told at.condition rest at.ends at.words) in
      let meant = step m (λ c. Ok (Some (pushed false c))) (cond x) was.meant in
      subst (λ (v : Where). Reads (option_map cond) (condition_bound s v) rest (Ok (Some p)) new) (sym at.is)
      (read-ok (Option ExprRead) (Option Cond) (option_map cond) (condition_bound s (where_expr at.key at.condition)) (Some p) rest new (ap (λ c. Ok (Some c)) form ∙ sym meant) was.words)
