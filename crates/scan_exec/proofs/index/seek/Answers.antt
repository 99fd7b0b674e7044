use Rattle.std.proofs.Common.{List, ◌∙◌, ap}
use Rattle.opfamily.specs.declared.classes.IndexKey.{IndexKey}
use Rattle.catalog.specs.Indexes.{Index}
use Rattle.scan_probes.specs.work.Filters.{lent_conditions}
use Rattle.scan_probes.specs.work.Probes.{probes_from}
use Rattle.scan_exec.proofs.SeekLemmas.{bounds_of_tree, probes_known, sought}
use Rattle.scan_exec.proofs.index.seek.Goals as goal

pub index_probes-requires-clause-known : goal.index_probes-requires-clause-known
index_probes-requires-clause-known g c =
    let s = c.args.at.now in
    probes_known s.cat.now s.store.now s.q.now s.rel s.param s.outer.now c.args.given.now c.requires.scene c.args.i c.requires.index (lent_conditions c.args.conditions.now) c.requires.conditions

pub seek-requires : goal.seek-requires
seek-requires g c =
    let s = c.args.at.now in
    bounds_of_tree s.cat.now s.store.now s.q.now s.rel s.param s.outer.now c.args.given.now c.requires.scene c.args.i c.requires.index (lent_conditions c.args.conditions.now) c.requires.conditions
    c.index-def.ensures.lawful c.args.tree.now c.requires.tree c.deref-2.result.now
    (c.deref-2.ensures.value ∙ c.in_ok-probes.ensures
    ∙ ap (λ (ks : List IndexKey). probes_from s.rel.0 0 ks c.args.given.now (lent_conditions c.args.conditions.now)) (c.deref.ensures.value ∙ ap (λ (d : Index). d.keys) c.index-def.ensures.value))

pub returns : goal.returns
returns g c =
    let s = c.args.at.now in
    c.seek.ensures.part
    ∙ sought s.cat.now s.store.now s.q.now s.rel s.param s.outer.now c.args.given.now c.requires.scene c.args.i c.requires.index (lent_conditions c.args.conditions.now) c.requires.conditions
    c.args.tree.now c.requires.tree c.args.backward c.deref-2.result.now
    (c.deref-2.ensures.value ∙ c.in_ok-probes.ensures
    ∙ ap (λ (ks : List IndexKey). probes_from s.rel.0 0 ks c.args.given.now (lent_conditions c.args.conditions.now)) (c.deref.ensures.value ∙ ap (λ (d : Index). d.keys) c.index-def.ensures.value))
