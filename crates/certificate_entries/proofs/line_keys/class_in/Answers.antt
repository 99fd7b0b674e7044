use Rattle.std.proofs.Common.{◌≡◌, ◌∙◌, ℕ, ap, sym}
use Rattle.std.specs.Prelude.{IfNone, IfSome, None, Option, Some, option_map}
use Rattle.eq_classes.specs.Classes.{class_number, in_family}
use Rattle.eq_classes.specs.declared.classes.ClassNo.{ClassNo}
use Rattle.pg_expr.specs.declared.operand.ColRef.{ColRef}
use Rattle.pg_value.specs.declared.operators.Family.{Family}
use Rattle.sql_query.specs.Queries.{Query}
use Rattle.eq_classes.specs.Clauses.{ClassTable}
use Rattle.certificate_entries.specs.work.Keys.{IsClassIn}
use Rattle.certificate_entries.proofs.ClassLemmas.{class-found, class-none}
use Rattle.certificate_entries.proofs.line_keys.class_in.Goals as goal

found : (q : Query) (x : ColRef) (f : Family) (o : Option ClassNo) → option_map (λ (n : ClassNo). n.0) o ≡ class_number q.classes.classes (in_family x f) → IfSome o (λ n. IsClassIn q x f n.0)
found q x f None e = tt
found q x f (Some n) e = class-found q x f n.0 (sym e)

none : (q : Query) (x : ColRef) (f : Family) (o : Option ClassNo) → option_map (λ (n : ClassNo). n.0) o ≡ class_number q.classes.classes (in_family x f) → IfNone o ((n : ℕ) → ¬ IsClassIn q x f n)
none q x f None e = class-none q x f (sym e)
none q x f (Some n) e = tt

pub returns-clause-found : goal.returns-clause-found
returns-clause-found c = found c.args.q.now c.args.x c.args.f c.class_of.result (c.class_of.ensures.class ∙ ap (λ (t : ClassTable). class_number t.classes (in_family c.args.x c.args.f)) c.classes_of.ensures)

pub returns-clause-none : goal.returns-clause-none
returns-clause-none c = none c.args.q.now c.args.x c.args.f c.class_of.result (c.class_of.ensures.class ∙ ap (λ (t : ClassTable). class_number t.classes (in_family c.args.x c.args.f)) c.classes_of.ensures)
