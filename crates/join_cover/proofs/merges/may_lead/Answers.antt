use Rattle.std.proofs.Common.{◌∙◌, refl, sym}
use Rattle.std.proofs.lemmas.Bool.{false≢true}
use Rattle.pathkeys.specs.work.Finding.{class_numbers}
use Rattle.plan_check.specs.work.Views.{certificate, entry}
use Rattle.entry_check.proofs.PlaceLemmas.{read-there}
use Rattle.join_cover.proofs.CoverLemmas.{none-led, other-than}
use Rattle.join_cover.proofs.merges.may_lead.Goals as goal

pub returns-then-a-work : goal.returns-then-a-work
returns-then-a-work c =
    let t = certificate c.args.j.now.t.now in
    let a = entry c.index-entries-k.result in
    let at = read-there t c.args.j.now.t.now.entries c.items-entries.result.now c.args.k c.index-entries-k.result refl c.items-entries.ensures.list c.requires.outer c.index-entries-k.is in
    let keys = class_numbers c.args.work.now.list.now in
    λ e is. absurd (other-than c.args.j.now.cat.now c.args.j.now.q.now (certificate c.args.j.now.t.now) c.requires.right c.args.work.now.outer.0 c.args.k a at c.if-a-work.true is)

pub returns-then-not-is_empty : goal.returns-then-not-is_empty
returns-then-not-is_empty c =
    let t = certificate c.args.j.now.t.now in
    let a = entry c.index-entries-k.result in
    let at = read-there t c.args.j.now.t.now.entries c.items-entries.result.now c.args.k c.index-entries-k.result refl c.items-entries.ensures.list c.requires.outer c.index-entries-k.is in
    let keys = class_numbers c.args.work.now.list.now in
    λ e is. none-led c.args.j.now.cat.now c.args.j.now.q.now (certificate c.args.j.now.t.now) c.requires.right c.args.k a keys c.args.sort at (λ b sb m. false≢true (sym c.if-not-is_empty.true ∙ c.is_empty.ensures.1 m.outer_whole))

pub returns : goal.returns
returns c =
    let t = certificate c.args.j.now.t.now in
    let a = entry c.index-entries-k.result in
    let at = read-there t c.args.j.now.t.now.entries c.items-entries.result.now c.args.k c.index-entries-k.result refl c.items-entries.ensures.list c.requires.outer c.index-entries-k.is in
    let keys = class_numbers c.args.work.now.list.now in
    λ e is. none-led c.args.j.now.cat.now c.args.j.now.q.now (certificate c.args.j.now.t.now) c.requires.right c.args.k a keys c.args.sort at (λ b sb m. false≢true (sym e ∙ c.has_list.ensures.1 m.outer_keys))
