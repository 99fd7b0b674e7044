use Rattle.std.proofs.Common.{ap}
use Rattle.std.specs.Prelude.{None, option_map}
use Rattle.std.proofs.lemmas.Result.{IfOk-weaker}
use Rattle.plan_tree.specs.Plans.{Plan}
use Rattle.plan_tree.specs.work.Views.{plan}
use Rattle.plan_lines.specs.HasText.{IsText}
use Rattle.plan_reader.specs.Written.{StandsAt}
use Rattle.plan_reader.proofs.NodeLemmas.{bitmap-beneath, both-if, index-beneath, index-only-beneath, merge-beneath, merge-none, nest-beneath, nest-none, no-first, no-inner, no-outer, node-read, pair-read, seq-beneath, sort-beneath, sort-none}
use Rattle.plan_reader.proofs.nodes.+read_node.Goals as goal

pub read_node-returns-in_default-clause-only : goal.read_node-returns-in_default-clause-only
read_node-returns-in_default-clause-only t c =
    no-first c.args.cat.now c.args.q.now c.args.depth c.args.at.now c.read_first.new.at c.args.numbers.now.items c.args.numbers.now.items c.read_first.result c.read_first.ensures.only c.in_default.is

pub read_node-returns-in-Seq-clause-has : goal.read_node-returns-in-Seq-clause-has
read_node-returns-in-Seq-clause-has t c =
    both-if (λ p. IsText c.args.cat.now c.args.q.now (plan p)) (λ p. StandsAt c.args.depth (plan p)) c.seq_of.result c.seq_of.ensures.has (c.seq_of.ensures.stands c.args.depth c.if-depth-gt64.false)

pub read_node-returns-in-Seq-clause-only : goal.read_node-returns-in-Seq-clause-only
read_node-returns-in-Seq-clause-only t c =
    node-read c.args.cat.now c.args.q.now c.args.depth c.args.at.now c.read_first.new.at c.read_first.new.at c.args.numbers.now.items c.push.new.self.items c.push.new.self.items c.read_first.result c.in-Some.line (option_map plan c.seq_of.result) c.read_first.ensures.only c.in-Some.is c.in_ok-push.ensures.items
    (seq-beneath c.args.cat.now c.args.q.now c.args.depth c.in-Some.line.kind c.in-Some.line.behind.now c.read_first.new.at c.push.new.self.items (option_map plan c.seq_of.result) c.in-Seq.is c.seq_of.ensures.only)

pub read_node-returns-in-Index-clause-has : goal.read_node-returns-in-Index-clause-has
read_node-returns-in-Index-clause-has t c =
    both-if (λ p. IsText c.args.cat.now c.args.q.now (plan p)) (λ p. StandsAt c.args.depth (plan p)) c.index_of.result c.index_of.ensures.has (c.index_of.ensures.stands c.args.depth c.if-depth-gt64.false)

pub read_node-returns-in-Index-clause-only : goal.read_node-returns-in-Index-clause-only
read_node-returns-in-Index-clause-only t c =
    node-read c.args.cat.now c.args.q.now c.args.depth c.args.at.now c.read_first.new.at c.read_first.new.at c.args.numbers.now.items c.push.new.self.items c.push.new.self.items c.read_first.result c.in-Some.line (option_map plan c.index_of.result) c.read_first.ensures.only c.in-Some.is c.in_ok-push.ensures.items
    (index-beneath c.args.cat.now c.args.q.now c.args.depth c.in-Some.line.kind c.in-Some.line.behind.now c.read_first.new.at c.push.new.self.items (option_map plan c.index_of.result) c.in-Index.is c.index_of.ensures.only)

pub read_node-returns-in-IndexOnly-clause-has : goal.read_node-returns-in-IndexOnly-clause-has
read_node-returns-in-IndexOnly-clause-has t c =
    both-if (λ p. IsText c.args.cat.now c.args.q.now (plan p)) (λ p. StandsAt c.args.depth (plan p)) c.index_only_of.result c.index_only_of.ensures.has (c.index_only_of.ensures.stands c.args.depth c.if-depth-gt64.false)

pub read_node-returns-in-IndexOnly-clause-only : goal.read_node-returns-in-IndexOnly-clause-only
read_node-returns-in-IndexOnly-clause-only t c =
    node-read c.args.cat.now c.args.q.now c.args.depth c.args.at.now c.read_first.new.at c.read_first.new.at c.args.numbers.now.items c.push.new.self.items c.push.new.self.items c.read_first.result c.in-Some.line (option_map plan c.index_only_of.result) c.read_first.ensures.only c.in-Some.is c.in_ok-push.ensures.items
    (index-only-beneath c.args.cat.now c.args.q.now c.args.depth c.in-Some.line.kind c.in-Some.line.behind.now c.read_first.new.at c.push.new.self.items (option_map plan c.index_only_of.result) c.in-IndexOnly.is c.index_only_of.ensures.only)

pub read_node-returns-in-Bitmap-clause-only : goal.read_node-returns-in-Bitmap-clause-only
read_node-returns-in-Bitmap-clause-only t c =
    IfOk-weaker c.bitmap_of.result _ _ (λ o reads. node-read c.args.cat.now c.args.q.now c.args.depth c.args.at.now c.read_first.new.at c.bitmap_of.new.at c.args.numbers.now.items c.push.new.self.items c.push.new.self.items c.read_first.result c.in-Some.line (option_map plan o) c.read_first.ensures.only c.in-Some.is c.in_ok-push.ensures.items
    (bitmap-beneath c.args.cat.now c.args.q.now c.args.depth c.in-Some.line.kind c.in-Some.line.behind.now c.read_first.new.at c.bitmap_of.new.at c.push.new.self.items (option_map plan o) c.in-Bitmap.is reads)) c.bitmap_of.ensures.only

pub read_node-returns-in-Some-2-clause-only : goal.read_node-returns-in-Some-2-clause-only
read_node-returns-in-Some-2-clause-only t c =
    IfOk-weaker c.sort_of.result _ _ (λ o reads. node-read c.args.cat.now c.args.q.now c.args.depth c.args.at.now c.read_first.new.at c.read_node.new.at c.args.numbers.now.items c.push.new.self.items c.read_node.new.numbers.items c.read_first.result c.in-Some.line (option_map plan o) c.read_first.ensures.only c.in-Some.is c.in_ok-push.ensures.items
    (sort-beneath c.args.cat.now c.args.q.now c.args.depth c.in-Some.line.kind c.in-Some.line.behind.now c.read_first.new.at c.read_node.new.at c.push.new.self.items c.read_node.new.numbers.items (option_map plan c.in_ok-input-in-Sort.field-0) (plan c.in-Some-2.input) (option_map plan o) c.in-Sort.is c.in_ok-input-in-Sort.ensures.only (ap (option_map plan) c.in-Some-2.is) reads)) c.sort_of.ensures.only

pub read_node-returns-in-None-clause-only : goal.read_node-returns-in-None-clause-only
read_node-returns-in-None-clause-only t c =
    node-read c.args.cat.now c.args.q.now c.args.depth c.args.at.now c.read_first.new.at c.read_node.new.at c.args.numbers.now.items c.push.new.self.items c.read_node.new.numbers.items c.read_first.result c.in-Some.line None c.read_first.ensures.only c.in-Some.is c.in_ok-push.ensures.items
    (sort-none c.args.cat.now c.args.q.now c.args.depth c.in-Some.line.kind c.in-Some.line.behind.now c.read_first.new.at c.read_node.new.at c.push.new.self.items c.read_node.new.numbers.items (option_map plan c.in_ok-input-in-Sort.field-0) c.in-Sort.is c.in_ok-input-in-Sort.ensures.only (ap (option_map plan) c.in-None.is))

pub read_node-returns-in-Some-3-clause-only : goal.read_node-returns-in-Some-3-clause-only
read_node-returns-in-Some-3-clause-only t c =
    IfOk-weaker c.nest_of.result _ _ (λ o made. node-read c.args.cat.now c.args.q.now c.args.depth c.args.at.now c.read_first.new.at c.read_pair.new.at c.args.numbers.now.items c.push.new.self.items c.read_pair.new.numbers.items c.read_first.result c.in-Some.line (option_map plan o) c.read_first.ensures.only c.in-Some.is c.in_ok-push.ensures.items
    (nest-beneath c.args.cat.now c.args.q.now c.args.depth c.in-Some.line.kind c.in-Some.line.behind.now c.read_first.new.at c.read_pair.new.at c.push.new.self.items c.read_pair.new.numbers.items (option_map {U = Plan × Plan} (λ s. (plan s.0, plan s.1)) c.in_ok-outer-in-Nest.field-0) (plan c.in-Some-3.outer) (plan c.in-Some-3.inner) (option_map plan o) c.in-Nest.is c.in_ok-outer-in-Nest.ensures.only (ap (option_map {U = Plan × Plan} (λ s. (plan s.0, plan s.1))) c.in-Some-3.is) made)) c.nest_of.ensures.only

pub read_node-returns-in-None-2-clause-only : goal.read_node-returns-in-None-2-clause-only
read_node-returns-in-None-2-clause-only t c =
    node-read c.args.cat.now c.args.q.now c.args.depth c.args.at.now c.read_first.new.at c.read_pair.new.at c.args.numbers.now.items c.push.new.self.items c.read_pair.new.numbers.items c.read_first.result c.in-Some.line None c.read_first.ensures.only c.in-Some.is c.in_ok-push.ensures.items
    (nest-none c.args.cat.now c.args.q.now c.args.depth c.in-Some.line.kind c.in-Some.line.behind.now c.read_first.new.at c.read_pair.new.at c.push.new.self.items c.read_pair.new.numbers.items (option_map {U = Plan × Plan} (λ s. (plan s.0, plan s.1)) c.in_ok-outer-in-Nest.field-0) c.in-Nest.is c.in_ok-outer-in-Nest.ensures.only (ap (option_map {U = Plan × Plan} (λ s. (plan s.0, plan s.1))) c.in-None-2.is))

pub read_node-returns-in-Some-4-clause-only : goal.read_node-returns-in-Some-4-clause-only
read_node-returns-in-Some-4-clause-only t c =
    IfOk-weaker c.merge_of.result _ _ (λ o reads. node-read c.args.cat.now c.args.q.now c.args.depth c.args.at.now c.read_first.new.at c.read_pair-in-Merge.new.at c.args.numbers.now.items c.push.new.self.items c.read_pair-in-Merge.new.numbers.items c.read_first.result c.in-Some.line (option_map plan o) c.read_first.ensures.only c.in-Some.is c.in_ok-push.ensures.items
    (merge-beneath c.args.cat.now c.args.q.now c.args.depth c.in-Some.line.kind c.in-Some.line.behind.now c.read_first.new.at c.read_pair-in-Merge.new.at c.push.new.self.items c.read_pair-in-Merge.new.numbers.items (option_map {U = Plan × Plan} (λ s. (plan s.0, plan s.1)) c.in_ok-outer-in-Merge.field-0) (plan c.in-Some-4.outer) (plan c.in-Some-4.inner) (option_map plan o) c.in-Merge.is c.in_ok-outer-in-Merge.ensures.only (ap (option_map {U = Plan × Plan} (λ s. (plan s.0, plan s.1))) c.in-Some-4.is) reads)) c.merge_of.ensures.only

pub read_node-returns-in-None-3-clause-only : goal.read_node-returns-in-None-3-clause-only
read_node-returns-in-None-3-clause-only t c =
    node-read c.args.cat.now c.args.q.now c.args.depth c.args.at.now c.read_first.new.at c.read_pair-in-Merge.new.at c.args.numbers.now.items c.push.new.self.items c.read_pair-in-Merge.new.numbers.items c.read_first.result c.in-Some.line None c.read_first.ensures.only c.in-Some.is c.in_ok-push.ensures.items
    (merge-none c.args.cat.now c.args.q.now c.args.depth c.in-Some.line.kind c.in-Some.line.behind.now c.read_first.new.at c.read_pair-in-Merge.new.at c.push.new.self.items c.read_pair-in-Merge.new.numbers.items (option_map {U = Plan × Plan} (λ s. (plan s.0, plan s.1)) c.in_ok-outer-in-Merge.field-0) c.in-Merge.is c.in_ok-outer-in-Merge.ensures.only (ap (option_map {U = Plan × Plan} (λ s. (plan s.0, plan s.1))) c.in-None-3.is))

pub read_pair-returns-in-None-clause-only : goal.read_pair-returns-in-None-clause-only
read_pair-returns-in-None-clause-only t c =
    no-outer c.args.cat.now c.args.q.now c.args.depth c.args.at.now c.read_node.new.at c.args.numbers.now.items c.read_node.new.numbers.items (option_map plan c.in_ok-outer.field-0) c.in_ok-outer.ensures.only (ap (option_map plan) c.in-None.is)

pub read_pair-returns-in-Some-2-clause-only : goal.read_pair-returns-in-Some-2-clause-only
read_pair-returns-in-Some-2-clause-only t c =
    pair-read c.args.cat.now c.args.q.now c.args.depth c.args.at.now c.read_node.new.at c.read_node-2.new.at c.args.numbers.now.items c.read_node.new.numbers.items c.read_node-2.new.numbers.items (option_map plan c.in_ok-outer.field-0) (option_map plan c.in_ok-inner.field-0) (plan c.in-Some.outer) (plan c.in-Some-2.inner) c.in_ok-outer.ensures.only (ap (option_map plan) c.in-Some.is) c.in_ok-inner.ensures.only (ap (option_map plan) c.in-Some-2.is)

pub read_pair-returns-in-None-2-clause-only : goal.read_pair-returns-in-None-2-clause-only
read_pair-returns-in-None-2-clause-only t c =
    no-inner c.args.cat.now c.args.q.now c.args.depth c.args.at.now c.read_node.new.at c.read_node-2.new.at c.args.numbers.now.items c.read_node.new.numbers.items c.read_node-2.new.numbers.items (option_map plan c.in_ok-outer.field-0) (option_map plan c.in_ok-inner.field-0) c.in_ok-outer.ensures.only c.in_ok-inner.ensures.only (ap (option_map plan) c.in-None-2.is)
