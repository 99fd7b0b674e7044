use Rattle.std.proofs.Common.{◌≡◌, ◌-◌, ◌+◌, ◌*◌, ◌<◌, ◌≤◌, ◌^◌, suc, pos, ap, ap₂, sym, ◌∙◌, arith}
use mir.Syntax.{w64}
use Rattle.std.proofs.lemmas.Int.{to_z_pos}
use Rattle.sort_rows.specs.work.Leads.{later, leading, text_lead}
use Rattle.sort_rows.proofs.LeadLemmas.{grows, lead_end, lead_fits, lead_step, leading_low}
use Rattle.sort_rows.proofs.leads.text_lead.Goals as goal

pub overflow_mul-lead : goal.overflow_mul-lead
overflow_mul-lead c = omega (arith, grows (7 - c.loop-n.n) c.loop-n.lead c.loop-n.rest.now, c.loop-n.invariant, lead_fits c.args.text.now)

pub overflow_add-lead : goal.overflow_add-lead
overflow_add-lead c =
    omega (arith, grows (7 - c.loop-n.n) c.loop-n.lead c.loop-n.rest.now, c.loop-n.invariant, lead_fits c.args.text.now, c.leading-byte.ensures, leading_low c.loop-n.rest.now)

pub loop-n-preserved : goal.loop-n-preserved
loop-n-preserved c =
    let k = 7 - (c.loop-n.n + 1) in
    let more : suc k ≡ 7 - c.loop-n.n = omega (arith, c.loop-n-test.true) in
    ap₂ (text_lead k) (ap (λ b. c.loop-n.lead * 256 + b) c.leading-byte.ensures) c.later-rest.ensures
    ∙ sym (lead_step k c.loop-n.lead c.loop-n.rest.now)
    ∙ ap (λ j. text_lead j c.loop-n.lead c.loop-n.rest.now) more
    ∙ c.loop-n.invariant

pub overflow_cast-result : goal.overflow_cast-result
overflow_cast-result c = omega (arith, grows (7 - c.loop-n.n) c.loop-n.lead c.loop-n.rest.now, c.loop-n.invariant, lead_fits c.args.text.now)

pub returns : goal.returns
returns c =
    let low : c.loop-n.lead < 2 ^ 63 = omega (arith, grows (7 - c.loop-n.n) c.loop-n.lead c.loop-n.rest.now, c.loop-n.invariant, lead_fits c.args.text.now) in
    let end : 0 ≡ 7 - c.loop-n.n = omega (arith, c.loop-n-test.false) in
    to_z_pos w64 c.loop-n.lead low
    ∙ ap pos (sym (lead_end c.loop-n.lead c.loop-n.rest.now) ∙ ap (λ j. text_lead j c.loop-n.lead c.loop-n.rest.now) end ∙ c.loop-n.invariant)
