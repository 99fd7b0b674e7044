use Rattle.std.proofs.Common.{subst}
use Rattle.std.proofs.lemmas.Result.{IfOk-weaker}
use Rattle.certificate_reader.specs.work.Reading.{IsFault}
use Rattle.check_reply.specs.Checked.{faulty}
use Rattle.check_reply.proofs.checked.check_text.Goals as goal

pub returns-in-Err : goal.returns-in-Err
returns-in-Err c =
    let fault = c.in-Err.ensures.fault in
    record {
      checked =
          IfOk-weaker c.unread_line.result _ _
          (λ text h. let at = subst (IsFault c.args.cat.now c.args.q.now c.args.block.now) h.1 fault in faulty (record { line = h.0; at = at.0; none = at.1; told = h.2 }))
          c.unread_line.ensures;
    }
