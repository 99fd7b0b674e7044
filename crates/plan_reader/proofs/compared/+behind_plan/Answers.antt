use Rattle.std.proofs.Common.{◌+◌, ◌∙◌, ℕ, List, [], ap, ap₂, sym}
use Rattle.std.specs.Prelude.{option_map}
use Rattle.plan_space.specs.Numbered.{CostAndRows, nodes}
use Rattle.plan_reader.specs.work.Beneath.{IsBehind}
use Rattle.plan_reader.specs.Written.{written_beneath}
use Rattle.plan_tree.specs.Plans.{merge, nest, sort}
use Rattle.plan_tree.specs.work.Views.{bits, plan}
use Rattle.plan_reader.proofs.BehindLemmas.{behind-begins, bits-behind, bits-none, bits-same, if-some, join-none, join-same, leaf-behind, leaf-same, line-none, merge-behind, merge-join, nest-behind, nest-join, sort-behind, sort-same}
use Rattle.plan_reader.proofs.compared.+behind_plan.Goals as goal

pub returns-in_err-left-clause-only : goal.returns-in_err-left-clause-only
returns-in_err-left-clause-only t c =
    λ ns more rest count fits pairs e. absurd (line-none c.args.cat.now c.args.q.now c.args.depth (plan c.args.p.now) c.in_ok-first.first.now c.args.text.now c.args.numbers.now c.in_ok-first.numbers.now (option_map (λ l. l.now) c.behind_line.result) c.in_ok-first.ensures.cases.0 c.behind_line.ensures.only (ap (option_map (λ l. l.now)) c.in_err-left.was) ns more rest count fits pairs e)

pub returns-in-Seq-clause-is : goal.returns-in-Seq-clause-is
returns-in-Seq-clause-is t c =
    leaf-behind c.args.cat.now c.args.q.now c.args.depth (plan c.args.p.now) c.in_ok-first.first.now c.args.text.now c.in_ok-left.left.now c.args.numbers.now c.in_ok-first.numbers.now (behind-begins c.args.cat.now c.args.q.now c.args.depth (plan c.args.p.now) c.in_ok-first.first.now c.args.text.now c.args.numbers.now c.in_ok-first.numbers.now c.in_ok-left.left.now c.in_ok-first.ensures.cases.0 c.in_ok-left.ensures.is) (ap (λ p. nodes (plan p)) c.in-Seq.is) (ap (λ p. written_beneath c.args.cat.now c.args.q.now c.args.depth (plan p) []) c.in-Seq.is)

pub returns-in-Seq-clause-only : goal.returns-in-Seq-clause-only
returns-in-Seq-clause-only t c =
    leaf-same c.args.cat.now c.args.q.now c.args.depth (plan c.args.p.now) c.in_ok-first.first.now c.args.text.now c.args.numbers.now c.in_ok-first.numbers.now c.in_ok-left.left.now (option_map (λ l. l.now) c.behind_line.result) c.in_ok-first.ensures.cases.0 c.behind_line.ensures.only (ap (option_map (λ l. l.now)) c.in_ok-left.was) (ap (λ p. nodes (plan p)) c.in-Seq.is) (ap (λ p. written_beneath c.args.cat.now c.args.q.now c.args.depth (plan p) []) c.in-Seq.is)

pub returns-in-Index-clause-is : goal.returns-in-Index-clause-is
returns-in-Index-clause-is t c =
    leaf-behind c.args.cat.now c.args.q.now c.args.depth (plan c.args.p.now) c.in_ok-first.first.now c.args.text.now c.in_ok-left.left.now c.args.numbers.now c.in_ok-first.numbers.now (behind-begins c.args.cat.now c.args.q.now c.args.depth (plan c.args.p.now) c.in_ok-first.first.now c.args.text.now c.args.numbers.now c.in_ok-first.numbers.now c.in_ok-left.left.now c.in_ok-first.ensures.cases.0 c.in_ok-left.ensures.is) (ap (λ p. nodes (plan p)) c.in-Index.is) (ap (λ p. written_beneath c.args.cat.now c.args.q.now c.args.depth (plan p) []) c.in-Index.is)

pub returns-in-Index-clause-only : goal.returns-in-Index-clause-only
returns-in-Index-clause-only t c =
    leaf-same c.args.cat.now c.args.q.now c.args.depth (plan c.args.p.now) c.in_ok-first.first.now c.args.text.now c.args.numbers.now c.in_ok-first.numbers.now c.in_ok-left.left.now (option_map (λ l. l.now) c.behind_line.result) c.in_ok-first.ensures.cases.0 c.behind_line.ensures.only (ap (option_map (λ l. l.now)) c.in_ok-left.was) (ap (λ p. nodes (plan p)) c.in-Index.is) (ap (λ p. written_beneath c.args.cat.now c.args.q.now c.args.depth (plan p) []) c.in-Index.is)

pub returns-in-IndexOnly-clause-is : goal.returns-in-IndexOnly-clause-is
returns-in-IndexOnly-clause-is t c =
    leaf-behind c.args.cat.now c.args.q.now c.args.depth (plan c.args.p.now) c.in_ok-first.first.now c.args.text.now c.in_ok-left.left.now c.args.numbers.now c.in_ok-first.numbers.now (behind-begins c.args.cat.now c.args.q.now c.args.depth (plan c.args.p.now) c.in_ok-first.first.now c.args.text.now c.args.numbers.now c.in_ok-first.numbers.now c.in_ok-left.left.now c.in_ok-first.ensures.cases.0 c.in_ok-left.ensures.is) (ap (λ p. nodes (plan p)) c.in-IndexOnly.is) (ap (λ p. written_beneath c.args.cat.now c.args.q.now c.args.depth (plan p) []) c.in-IndexOnly.is)

pub returns-in-IndexOnly-clause-only : goal.returns-in-IndexOnly-clause-only
returns-in-IndexOnly-clause-only t c =
    leaf-same c.args.cat.now c.args.q.now c.args.depth (plan c.args.p.now) c.in_ok-first.first.now c.args.text.now c.args.numbers.now c.in_ok-first.numbers.now c.in_ok-left.left.now (option_map (λ l. l.now) c.behind_line.result) c.in_ok-first.ensures.cases.0 c.behind_line.ensures.only (ap (option_map (λ l. l.now)) c.in_ok-left.was) (ap (λ p. nodes (plan p)) c.in-IndexOnly.is) (ap (λ p. written_beneath c.args.cat.now c.args.q.now c.args.depth (plan p) []) c.in-IndexOnly.is)

pub returns-in_ok-left-in-Bitmap-clause-is : goal.returns-in_ok-left-in-Bitmap-clause-is
returns-in_ok-left-in-Bitmap-clause-is t c =
    bits-behind c.args.cat.now c.args.q.now c.args.depth c.in-Bitmap.rel c.in-Bitmap.param (bits c.in-Bitmap.bits) (plan c.args.p.now) c.in_ok-first.first.now c.args.text.now c.in_ok-left.left.now c.in_ok-left-in-Bitmap.left.now c.args.numbers.now c.in_ok-first.numbers.now (ap plan c.in-Bitmap.is) (behind-begins c.args.cat.now c.args.q.now c.args.depth (plan c.args.p.now) c.in_ok-first.first.now c.args.text.now c.args.numbers.now c.in_ok-first.numbers.now c.in_ok-left.left.now c.in_ok-first.ensures.cases.0 c.in_ok-left.ensures.is) c.in_ok-left-in-Bitmap.ensures.is

pub returns-in_ok-left-in-Bitmap-clause-only : goal.returns-in_ok-left-in-Bitmap-clause-only
returns-in_ok-left-in-Bitmap-clause-only t c =
    bits-same c.args.cat.now c.args.q.now c.args.depth (plan c.args.p.now) c.in_ok-first.first.now c.args.text.now c.args.numbers.now c.in_ok-first.numbers.now c.in-Bitmap.rel c.in-Bitmap.param (bits c.in-Bitmap.bits) c.in_ok-left.left.now c.in_ok-left-in-Bitmap.left.now (option_map (λ l. l.now) c.behind_line.result) (option_map (λ l. l.now) c.behind_bits.result) (ap plan c.in-Bitmap.is) c.in_ok-first.ensures.cases.0 c.behind_line.ensures.only (ap (option_map (λ l. l.now)) c.in_ok-left.was) c.behind_bits.ensures.only (ap (option_map (λ l. l.now)) c.in_ok-left-in-Bitmap.was)

pub returns-in_err-left-in-Bitmap-clause-only : goal.returns-in_err-left-in-Bitmap-clause-only
returns-in_err-left-in-Bitmap-clause-only t c =
    λ ns more rest count fits pairs e. absurd (bits-none c.args.cat.now c.args.q.now c.args.depth (plan c.args.p.now) c.in_ok-first.first.now c.args.text.now c.args.numbers.now c.in_ok-first.numbers.now c.in-Bitmap.rel c.in-Bitmap.param (bits c.in-Bitmap.bits) c.in_ok-left.left.now (option_map (λ l. l.now) c.behind_line.result) (option_map (λ l. l.now) c.behind_bits.result) (ap plan c.in-Bitmap.is) c.in_ok-first.ensures.cases.0 c.behind_line.ensures.only (ap (option_map (λ l. l.now)) c.in_ok-left.was) c.behind_bits.ensures.only (ap (option_map (λ l. l.now)) c.in_err-left-in-Bitmap.was) ns more rest count fits pairs e)

pub returns-in-Sort-clause-is : goal.returns-in-Sort-clause-is
returns-in-Sort-clause-is t c =
    if-some {P = IsBehind c.args.cat.now c.args.q.now (c.args.depth + 1) (plan c.deref.result.now) c.in_ok-left.left.now c.in_ok-first.numbers.now} {Q = IsBehind c.args.cat.now c.args.q.now c.args.depth (plan c.args.p.now) c.args.text.now c.args.numbers.now} c.behind_plan.result (λ l m s. sort-behind c.args.cat.now c.args.q.now c.args.depth c.in-Sort.keys (plan c.deref.result.now) (plan c.args.p.now) c.in_ok-first.first.now c.args.text.now c.in_ok-left.left.now l c.args.numbers.now c.in_ok-first.numbers.now m (ap plan c.in-Sort.is ∙ ap (λ y. sort c.in-Sort.keys (plan y)) (sym c.deref.ensures)) (behind-begins c.args.cat.now c.args.q.now c.args.depth (plan c.args.p.now) c.in_ok-first.first.now c.args.text.now c.args.numbers.now c.in_ok-first.numbers.now c.in_ok-left.left.now c.in_ok-first.ensures.cases.0 c.in_ok-left.ensures.is) s) c.behind_plan.ensures.is

pub returns-in-Sort-clause-only : goal.returns-in-Sort-clause-only
returns-in-Sort-clause-only t c =
    sort-same c.args.cat.now c.args.q.now c.args.depth (plan c.args.p.now) c.in_ok-first.first.now c.args.text.now c.args.numbers.now c.in_ok-first.numbers.now c.in-Sort.keys (plan c.deref.result.now) c.in_ok-left.left.now (option_map (λ l. l.now) c.behind_line.result) (option_map {U = List ℕ × List CostAndRows} (λ s. (s.0.now, s.1.now)) c.behind_plan.result) (ap plan c.in-Sort.is ∙ ap (λ y. sort c.in-Sort.keys (plan y)) (sym c.deref.ensures)) c.in_ok-first.ensures.cases.0 c.behind_line.ensures.only (ap (option_map (λ l. l.now)) c.in_ok-left.was) c.behind_plan.ensures.only

pub returns-in_ok-left-in-Nest-clause-is : goal.returns-in_ok-left-in-Nest-clause-is
returns-in_ok-left-in-Nest-clause-is t c =
    if-some {P = IsBehind c.args.cat.now c.args.q.now (c.args.depth + 1) (plan c.deref-in-Nest-2.result.now) c.in_ok-left-in-Nest.left.now c.in_ok-left-in-Nest.numbers.now} {Q = IsBehind c.args.cat.now c.args.q.now c.args.depth (plan c.args.p.now) c.args.text.now c.args.numbers.now} c.behind_plan-in-Nest-2.result (λ l m s. nest-behind c.args.cat.now c.args.q.now c.args.depth (plan c.deref-in-Nest.result.now) (plan c.deref-in-Nest-2.result.now) (plan c.args.p.now) c.in_ok-first.first.now c.args.text.now c.in_ok-left.left.now c.in_ok-left-in-Nest.left.now l c.args.numbers.now c.in_ok-first.numbers.now c.in_ok-left-in-Nest.numbers.now m (ap plan c.in-Nest.is ∙ ap₂ (λ y z. nest (plan y) (plan z)) (sym c.deref-in-Nest.ensures) (sym c.deref-in-Nest-2.ensures)) (behind-begins c.args.cat.now c.args.q.now c.args.depth (plan c.args.p.now) c.in_ok-first.first.now c.args.text.now c.args.numbers.now c.in_ok-first.numbers.now c.in_ok-left.left.now c.in_ok-first.ensures.cases.0 c.in_ok-left.ensures.is) c.in_ok-left-in-Nest.ensures.is s) c.behind_plan-in-Nest-2.ensures.is

pub returns-in_ok-left-in-Nest-clause-only : goal.returns-in_ok-left-in-Nest-clause-only
returns-in_ok-left-in-Nest-clause-only t c =
    join-same c.args.cat.now c.args.q.now c.args.depth (plan c.args.p.now) c.in_ok-first.first.now c.args.text.now c.args.numbers.now c.in_ok-first.numbers.now (plan c.deref-in-Nest.result.now) (plan c.deref-in-Nest-2.result.now) c.in_ok-left.left.now c.in_ok-left-in-Nest.left.now c.in_ok-left-in-Nest.numbers.now (option_map (λ l. l.now) c.behind_line.result) (option_map {U = List ℕ × List CostAndRows} (λ s. (s.0.now, s.1.now)) c.behind_plan-in-Nest.result) (option_map {U = List ℕ × List CostAndRows} (λ s. (s.0.now, s.1.now)) c.behind_plan-in-Nest-2.result) (nest-join c.args.cat.now c.args.q.now c.args.depth (plan c.args.p.now) c.in_ok-first.first.now c.args.text.now c.args.numbers.now c.in_ok-first.numbers.now (plan c.deref-in-Nest.result.now) (plan c.deref-in-Nest-2.result.now) (ap plan c.in-Nest.is ∙ ap₂ (λ y z. nest (plan y) (plan z)) (sym c.deref-in-Nest.ensures) (sym c.deref-in-Nest-2.ensures))) c.in_ok-first.ensures.cases.0 c.behind_line.ensures.only (ap (option_map (λ l. l.now)) c.in_ok-left.was) c.behind_plan-in-Nest.ensures.only (ap (option_map {U = List ℕ × List CostAndRows} (λ s. (s.0.now, s.1.now))) c.in_ok-left-in-Nest.was) c.behind_plan-in-Nest-2.ensures.only

pub returns-in_err-left-in-Nest-clause-only : goal.returns-in_err-left-in-Nest-clause-only
returns-in_err-left-in-Nest-clause-only t c =
    λ ns more rest count fits pairs e. absurd (join-none c.args.cat.now c.args.q.now c.args.depth (plan c.args.p.now) c.in_ok-first.first.now c.args.text.now c.args.numbers.now c.in_ok-first.numbers.now (plan c.deref-in-Nest.result.now) (plan c.in-Nest.inner.value) c.in_ok-left.left.now (option_map (λ l. l.now) c.behind_line.result) (option_map {U = List ℕ × List CostAndRows} (λ s. (s.0.now, s.1.now)) c.behind_plan-in-Nest.result) (nest-join c.args.cat.now c.args.q.now c.args.depth (plan c.args.p.now) c.in_ok-first.first.now c.args.text.now c.args.numbers.now c.in_ok-first.numbers.now (plan c.deref-in-Nest.result.now) (plan c.in-Nest.inner.value) (ap plan c.in-Nest.is ∙ ap (λ y. nest (plan y) (plan c.in-Nest.inner.value)) (sym c.deref-in-Nest.ensures))) c.in_ok-first.ensures.cases.0 c.behind_line.ensures.only (ap (option_map (λ l. l.now)) c.in_ok-left.was) c.behind_plan-in-Nest.ensures.only (ap (option_map {U = List ℕ × List CostAndRows} (λ s. (s.0.now, s.1.now))) c.in_err-left-in-Nest.was) ns more rest count fits pairs e)

pub returns-in_ok-left-in-Merge-clause-is : goal.returns-in_ok-left-in-Merge-clause-is
returns-in_ok-left-in-Merge-clause-is t c =
    if-some {P = IsBehind c.args.cat.now c.args.q.now (c.args.depth + 1) (plan c.deref-in-Merge-2.result.now) c.in_ok-left-in-Merge.left.now c.in_ok-left-in-Merge.numbers.now} {Q = IsBehind c.args.cat.now c.args.q.now c.args.depth (plan c.args.p.now) c.args.text.now c.args.numbers.now} c.behind_plan-in-Merge-2.result (λ l m s. merge-behind c.args.cat.now c.args.q.now c.args.depth c.in-Merge.keys (plan c.deref-in-Merge.result.now) (plan c.deref-in-Merge-2.result.now) (plan c.args.p.now) c.in_ok-first.first.now c.args.text.now c.in_ok-left.left.now c.in_ok-left-in-Merge.left.now l c.args.numbers.now c.in_ok-first.numbers.now c.in_ok-left-in-Merge.numbers.now m (ap plan c.in-Merge.is ∙ ap₂ (λ y z. merge c.in-Merge.keys (plan y) (plan z)) (sym c.deref-in-Merge.ensures) (sym c.deref-in-Merge-2.ensures)) (behind-begins c.args.cat.now c.args.q.now c.args.depth (plan c.args.p.now) c.in_ok-first.first.now c.args.text.now c.args.numbers.now c.in_ok-first.numbers.now c.in_ok-left.left.now c.in_ok-first.ensures.cases.0 c.in_ok-left.ensures.is) c.in_ok-left-in-Merge.ensures.is s) c.behind_plan-in-Merge-2.ensures.is

pub returns-in_ok-left-in-Merge-clause-only : goal.returns-in_ok-left-in-Merge-clause-only
returns-in_ok-left-in-Merge-clause-only t c =
    join-same c.args.cat.now c.args.q.now c.args.depth (plan c.args.p.now) c.in_ok-first.first.now c.args.text.now c.args.numbers.now c.in_ok-first.numbers.now (plan c.deref-in-Merge.result.now) (plan c.deref-in-Merge-2.result.now) c.in_ok-left.left.now c.in_ok-left-in-Merge.left.now c.in_ok-left-in-Merge.numbers.now (option_map (λ l. l.now) c.behind_line.result) (option_map {U = List ℕ × List CostAndRows} (λ s. (s.0.now, s.1.now)) c.behind_plan-in-Merge.result) (option_map {U = List ℕ × List CostAndRows} (λ s. (s.0.now, s.1.now)) c.behind_plan-in-Merge-2.result) (merge-join c.args.cat.now c.args.q.now c.args.depth (plan c.args.p.now) c.in_ok-first.first.now c.args.text.now c.args.numbers.now c.in_ok-first.numbers.now c.in-Merge.keys (plan c.deref-in-Merge.result.now) (plan c.deref-in-Merge-2.result.now) (ap plan c.in-Merge.is ∙ ap₂ (λ y z. merge c.in-Merge.keys (plan y) (plan z)) (sym c.deref-in-Merge.ensures) (sym c.deref-in-Merge-2.ensures))) c.in_ok-first.ensures.cases.0 c.behind_line.ensures.only (ap (option_map (λ l. l.now)) c.in_ok-left.was) c.behind_plan-in-Merge.ensures.only (ap (option_map {U = List ℕ × List CostAndRows} (λ s. (s.0.now, s.1.now))) c.in_ok-left-in-Merge.was) c.behind_plan-in-Merge-2.ensures.only

pub returns-in_err-left-in-Merge-clause-only : goal.returns-in_err-left-in-Merge-clause-only
returns-in_err-left-in-Merge-clause-only t c =
    λ ns more rest count fits pairs e. absurd (join-none c.args.cat.now c.args.q.now c.args.depth (plan c.args.p.now) c.in_ok-first.first.now c.args.text.now c.args.numbers.now c.in_ok-first.numbers.now (plan c.deref-in-Merge.result.now) (plan c.in-Merge.inner.value) c.in_ok-left.left.now (option_map (λ l. l.now) c.behind_line.result) (option_map {U = List ℕ × List CostAndRows} (λ s. (s.0.now, s.1.now)) c.behind_plan-in-Merge.result) (merge-join c.args.cat.now c.args.q.now c.args.depth (plan c.args.p.now) c.in_ok-first.first.now c.args.text.now c.args.numbers.now c.in_ok-first.numbers.now c.in-Merge.keys (plan c.deref-in-Merge.result.now) (plan c.in-Merge.inner.value) (ap plan c.in-Merge.is ∙ ap (λ y. merge c.in-Merge.keys (plan y) (plan c.in-Merge.inner.value)) (sym c.deref-in-Merge.ensures))) c.in_ok-first.ensures.cases.0 c.behind_line.ensures.only (ap (option_map (λ l. l.now)) c.in_ok-left.was) c.behind_plan-in-Merge.ensures.only (ap (option_map {U = List ℕ × List CostAndRows} (λ s. (s.0.now, s.1.now))) c.in_err-left-in-Merge.was) ns more rest count fits pairs e)
