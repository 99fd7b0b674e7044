use Rattle.std.proofs.Common.{◌∙◌, ℕ, List, ap, sym}
use Rattle.pg_base.specs.declared.numbers.TableNo.{TableNo}
use Rattle.std.proofs.lemmas.Bool.Decides.{Decides-eqb}
use Rattle.std.proofs.lemmas.Slice.Eq.{slice_eq-Decides}
use Rattle.certificate_entries.proofs.KeyLemmas.{relation-one}
use Rattle.certificate_entries.proofs.line_keys.find_relation.Goals as goal

pub returns-then-eq-clause-only : goal.returns-then-eq-clause-only
returns-then-eq-clause-only c = λ r low named.
    let same = slice_eq-Decides Decides-eqb c.items.result.now c.args.alias.now c.eq.result c.eq.ensures in
    relation-one c.args.cat.now c.args.q.now c.requires.bound c.items-relations.result.now c.loop-n.n c.index-relations-n.result c.items.result.now c.args.alias.now r (c.items-relations.ensures ∙ c.range_of.ensures) c.index-relations-n.is c.loop-n-test.true (c.items.ensures ∙ ap (λ (x : TableNo × List ℕ). x.1) (sym c.index-relations-n.is)) (same.0 c.if-eq.true) low named
