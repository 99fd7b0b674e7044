use Rattle.std.proofs.Common.{Bool, cond, Ok, Err, ap, sym, ◌∙◌}
use Rattle.heap.specs.declared.fault.CopyFault.TheVariants.{IsNull}
use Rattle.pg_value.specs.declared.value.Value.TheVariants.{Null}
use Rattle.heap.proofs.Fields.{field_null, field_long, field_read, read_lawful}
use Rattle.heap.proofs.load.read_field.Goals as goal

pub returns-then-column-clause-fault : goal.returns-then-column-clause-fault
returns-then-column-clause-fault c = λ _.
    field_null c.args.rec c.args.col c.args.column c.args.text.now (rw c.as_slice.ensures at (sym c.eq.ensures ∙ c.if-eq.true))
    ∙ ap (λ (b : Bool). cond b (Err (IsNull c.args.rec c.args.col)) (Ok Null)) c.if-column.true

pub returns-else-column-clause-value : goal.returns-else-column-clause-value
returns-else-column-clause-value c =
    field_null c.args.rec c.args.col c.args.column c.args.text.now (rw c.as_slice.ensures at (sym c.eq.ensures ∙ c.if-eq.true))
    ∙ ap (λ (b : Bool). cond b (Err (IsNull c.args.rec c.args.col)) (Ok Null)) c.if-column.false

pub returns-then-is_too_long-clause-fault : goal.returns-then-is_too_long-clause-fault
returns-then-is_too_long-clause-fault c = λ _.
    field_long c.args.rec c.args.col c.args.column c.args.text.now (rw c.as_slice.ensures at (sym c.eq.ensures ∙ c.if-eq.false)) (sym c.is_too_long.ensures ∙ c.if-is_too_long.true)

pub returns-in-Ok-clause-value : goal.returns-in-Ok-clause-value
returns-in-Ok-clause-value c =
    field_read c.args.rec c.args.col c.args.column c.args.text.now (rw c.as_slice.ensures at (sym c.eq.ensures ∙ c.if-eq.false)) (sym c.is_too_long.ensures ∙ c.if-is_too_long.false) _ c.in-Ok.ensures.value

pub returns-in-Ok-clause-lawful : goal.returns-in-Ok-clause-lawful
returns-in-Ok-clause-lawful c =
    read_lawful c.args.column c.args.text.now c.in-Ok.value (rw c.as_slice.ensures at (sym c.eq.ensures ∙ c.if-eq.false)) (sym c.is_too_long.ensures ∙ c.if-is_too_long.false) c.in-Ok.ensures.value c.in-Ok.ensures.typed

pub returns-in-Err-Range-clause-fault : goal.returns-in-Err-Range-clause-fault
returns-in-Err-Range-clause-fault c = λ _.
    field_read c.args.rec c.args.col c.args.column c.args.text.now (rw c.as_slice.ensures at (sym c.eq.ensures ∙ c.if-eq.false)) (sym c.is_too_long.ensures ∙ c.if-is_too_long.false) _
    (rw c.in-Err-Range.field-0-is at c.in-Err-Range.ensures.value)

pub returns-in-Err-Invalid-clause-fault : goal.returns-in-Err-Invalid-clause-fault
returns-in-Err-Invalid-clause-fault c = λ _.
    field_read c.args.rec c.args.col c.args.column c.args.text.now (rw c.as_slice.ensures at (sym c.eq.ensures ∙ c.if-eq.false)) (sym c.is_too_long.ensures ∙ c.if-is_too_long.false) _
    (rw c.in-Err-Invalid.field-0-is at c.in-Err-Invalid.ensures.value)
