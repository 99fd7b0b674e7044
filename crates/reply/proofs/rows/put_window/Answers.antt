use Rattle.std.proofs.Common.{◌+◌, ℕ, List, subst}
use Rattle.std.proofs.lemmas.Result.{on_ok_weaker}
use Rattle.reply.specs.work.Drawing.{Draws, drawn_by}
use Rattle.reply.specs.Effort.{limit_in, offset_in}
use Rattle.reply.proofs.LimitLemmas.{draws_then, risen_by}
use Rattle.sql_query.specs.Tuples.{Tuple}
use Rattle.reply.proofs.rows.put_window.Goals as goal

pub returns-clause-fetches : goal.returns-clause-fetches
returns-clause-fetches g c =
    let window = c.args.at.now.q.now.window in
    let P : ℕ → Type 0 = λ n. Draws n c.args.rows.now c.pass_over.new.rows c.args.fetches.now c.pass_over.new.fetches in
    let passed = subst P c.offset_of.ensures c.in_ok-pass_over.ensures.drawn in
    on_ok_weaker c.put_rows.result
    (λ drawn. risen_by (limit_in window) (offset_in window) c.args.rows.now c.pass_over.new.rows c.put_rows.new.rows c.args.fetches.now c.pass_over.new.fetches c.put_rows.new.fetches passed drawn)
    c.put_rows.ensures.drawn

pub returns-clause-drawn : goal.returns-clause-drawn
returns-clause-drawn g c =
    let window = c.args.at.now.q.now.window in
    let offset = offset_in window in
    let limit = limit_in window in
    let P : ℕ → Type 0 = λ n. Draws n c.args.rows.now c.pass_over.new.rows c.args.fetches.now c.pass_over.new.fetches in
    let passed = subst P c.offset_of.ensures c.in_ok-pass_over.ensures.drawn in
    on_ok_weaker c.put_rows.result
    (λ drawn. subst (λ (ts : List Tuple). Draws (offset + drawn_by limit ts) c.args.rows.now c.put_rows.new.rows c.args.fetches.now c.put_rows.new.fetches) passed.left
    (draws_then offset (drawn_by limit c.pass_over.new.rows.left) c.args.rows.now c.pass_over.new.rows c.put_rows.new.rows c.args.fetches.now c.pass_over.new.fetches c.put_rows.new.fetches passed drawn))
    c.put_rows.ensures.drawn
