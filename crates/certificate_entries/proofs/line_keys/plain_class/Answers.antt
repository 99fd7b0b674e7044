use Rattle.std.proofs.Common.{◌≡◌, ◌∙◌, ℕ, false, ap, sym}
use Rattle.std.specs.Prelude.{IfNone, IfSome, None, Option, Some, option_map}
use Rattle.eq_classes.specs.Classes.{plain_class}
use Rattle.eq_classes.specs.Clauses.{ClassTable}
use Rattle.eq_classes.specs.declared.classes.ClassNo.{ClassNo}
use Rattle.pg_expr.specs.declared.operand.ColRef.{ColRef}
use Rattle.sql_query.specs.Queries.{Query}
use Rattle.certificate_entries.specs.work.Keys.{IsClassOf}
use Rattle.certificate_entries.proofs.ClassLemmas.{plain-found, plain-none}
use Rattle.certificate_entries.proofs.line_keys.plain_class.Goals as goal

found : (q : Query) (x : ColRef) (o : Option ClassNo) → option_map (λ (n : ClassNo). n.0) o ≡ plain_class q.classes.classes x → IfSome o (λ n. IsClassOf q x false n.0)
found q x None e = tt
found q x (Some n) e = plain-found q x n.0 (sym e)

none : (q : Query) (x : ColRef) (o : Option ClassNo) → option_map (λ (n : ClassNo). n.0) o ≡ plain_class q.classes.classes x → IfNone o ((n : ℕ) → ¬ IsClassOf q x false n)
none q x None e = plain-none q x (sym e)
none q x (Some n) e = tt

pub returns-clause-found : goal.returns-clause-found
returns-clause-found c = found c.args.q.now c.args.x c.plain_class_of.result (c.plain_class_of.ensures.class ∙ ap (λ (t : ClassTable). plain_class t.classes c.args.x) c.classes_of.ensures)

pub returns-clause-none : goal.returns-clause-none
returns-clause-none c = none c.args.q.now c.args.x c.plain_class_of.result (c.plain_class_of.ensures.class ∙ ap (λ (t : ClassTable). plain_class t.classes c.args.x) c.classes_of.ensures)
