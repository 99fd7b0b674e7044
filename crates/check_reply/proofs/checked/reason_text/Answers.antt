use Rattle.std.proofs.Common.{subst, sym}
use Rattle.std.specs.Prelude.{IfOk}
use Rattle.plan_check.specs.work.Views.{certificate}
use Rattle.plan_check.specs.declared.verdict.Reason.{Reason}
use Rattle.check_reply.specs.Checked.{IsReasonText}
use Rattle.check_reply.proofs.checked.reason_text.Goals as goal

pub returns-in-Uncovered : goal.returns-in-Uncovered
returns-in-Uncovered c =
    subst (λ (r : Reason). IfOk c.uncovered_text.result (λ text. IsReasonText c.args.cat.now c.args.q.now (certificate c.args.t.now) r text.items)) (sym c.in-Uncovered.is) c.uncovered_text.ensures
