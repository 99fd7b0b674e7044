use Rattle.std.proofs.Common.{◌∙◌, subst, sym, true≢false}
use Rattle.pg_base.specs.declared.numbers.IndexNo.{IndexNo}
use Rattle.plan_lines.specs.HasText.{IsIndexOfQuery}
use Rattle.plan_lines.proofs.IndexLemmas.{index-left, index-read, index-same}
use Rattle.pg_base.proofs.OptionLemmas.{none-some-too as none-some}
use Rattle.plan_lines.proofs.indexes.read_index.Goals as goal

pub returns-in_err-index-clause-only : goal.returns-in_err-index-clause-only
returns-in_err-index-clause-only c = λ i rest is stop e.
    let r = index-read c.args.cat.now c.args.q.now c.lawful.ensures c.args.text.now c.new.result c.word-name.result.now c.word-name.new.self c.index_named.result c.new.ensures c.word-name.ensures.only c.index_named.ensures.meaning i rest is stop e in
    absurd (none-some {A = IndexNo} c.index_named.result i c.in_err-index.was r.0)

pub returns-then-not-is_of_query-clause-only : goal.returns-then-not-is_of_query-clause-only
returns-then-not-is_of_query-clause-only c = λ i rest is stop e.
    let r = index-read c.args.cat.now c.args.q.now c.lawful.ensures c.args.text.now c.new.result c.word-name.result.now c.word-name.new.self c.index_named.result c.new.ensures c.word-name.ensures.only c.index_named.ensures.meaning i rest is stop e in
    let same = index-same c.index_named.result c.in_ok-index.index i c.in_ok-index.was r.0 in
    absurd (true≢false (sym (c.is_of_query.ensures.1 (subst (IsIndexOfQuery c.args.cat.now c.args.q.now) (sym same) is)) ∙ c.if-not-is_of_query.true))

pub returns-clause-only : goal.returns-clause-only
returns-clause-only c = λ i rest is stop e.
    let r = index-read c.args.cat.now c.args.q.now c.lawful.ensures c.args.text.now c.new.result c.word-name.result.now c.word-name.new.self c.index_named.result c.new.ensures c.word-name.ensures.only c.index_named.ensures.meaning i rest is stop e in
    let same = index-same c.index_named.result c.in_ok-index.index i c.in_ok-index.was r.0 in
    index-left c.args.cat.now i c.in_ok-index.index c.args.text.now c.word-name.result.now c.in_ok-left.left.now rest same r.1 c.in_ok-left.ensures.is e
