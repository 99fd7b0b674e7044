use Rattle.std.proofs.Common.{◌≡◌, ℕ, List, IfOk, sym, ap, ◌∙◌, subst}
use Rattle.sql_query.specs.Queries.{Query}
use Rattle.plan_tree.specs.work.Views.{path}
use Rattle.reply.proofs.PriceLemmas.{line-is}
use Rattle.reply.proofs.shown.window_text.Goals as goal

pub returns : goal.returns
returns c =
    let cat = c.args.cat.now in
    let q = c.args.q.now in
    let p = path c.args.best.now in
    let is = sym (ap (λ (x : Query). x.window) c.q.view_is) ∙ c.in-Some.is in
    let P : List ℕ → Type 0 = λ xs. IfOk c.from_slice.result (λ text. text.items ≡ xs) in
    subst P
    (c.items.ensures ∙ c.in_ok-line.ensures.text c.in-Some.w is ∙ line-is cat q p c.requires.finished c.in-Some.w is c.best_price-price.result c.asked.result c.best_price-price.ensures c.asked.ensures.rows)
    c.from_slice.ensures.items
