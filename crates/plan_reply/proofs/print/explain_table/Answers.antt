use Rattle.std.proofs.Common.{List, ℕ, subst, sym}
use Rattle.plan_reply.specs.Tabled.{IsTabledText}
use Rattle.plan_reply.proofs.TableReplyLemmas.{replied-on, stopped-on}
use Rattle.plan_reply.proofs.print.explain_table.Goals as goal

pub returns-clause-tabled : goal.returns-clause-tabled
returns-clause-tabled g c =
    let cat = c.args.cat.now in
    let q = c.args.q.now in
    let bytes : List ℕ = c.deref.result.now in
    replied-on cat q bytes (subst (λ (l : List ℕ). IsTabledText cat q l) (sym c.deref.ensures.value) c.in_ok-text.ensures.text) (g.K.Sink.held c.args.out.now) (g.K.Sink.held c.put.new.out) c.put.result c.put.ensures.ok

pub returns-clause-stopped : goal.returns-clause-stopped
returns-clause-stopped g c =
    let cat = c.args.cat.now in
    let q = c.args.q.now in
    let bytes : List ℕ = c.deref.result.now in
    stopped-on cat q bytes (subst (λ (l : List ℕ). IsTabledText cat q l) (sym c.deref.ensures.value) c.in_ok-text.ensures.text) (g.K.Sink.held c.args.out.now) (g.K.Sink.held c.put.new.out) c.put.result c.put.ensures.err c.put.ensures.write
