use Rattle.std.proofs.Common.{◌∙◌, [], ℕ, List, refl, sym}
use Rattle.std.proofs.lemmas.List.{append-nil}
use Rattle.pg_base.specs.declared.numbers.IndexNo.{IndexNo}
use Rattle.catalog.specs.Contents.{index_name_at}
use Rattle.plan_lines.proofs.IndexLemmas.{index-first}
use Rattle.plan_lines.proofs.ScannedLemmas.{none-mapped}
use Rattle.plan_lines.proofs.indexes.read_index_name.Goals as goal

pub returns-in_err-index-clause-only : goal.returns-in_err-index-clause-only
returns-in_err-index-clause-only c = λ i is e.
    absurd (none-mapped {B = IndexNo × List ℕ} (λ r. (r.0, r.1.now)) c.read_index.result (i, []) c.in_err-index.was (c.read_index.ensures.only i [] is refl (e ∙ sym (append-nil (index_name_at c.args.cat.now i)))))

pub returns-clause-only : goal.returns-clause-only
returns-clause-only c = λ i is e.
    index-first c.read_index.result c.in_ok-index.index c.in_ok-index.field-0-1 i [] c.in_ok-index.was (c.read_index.ensures.only i [] is refl (e ∙ sym (append-nil (index_name_at c.args.cat.now i))))
