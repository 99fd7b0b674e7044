use Rattle.std.proofs.Common.{refl}
use Rattle.pathkeys.specs.work.Finding.{class_numbers}
use Rattle.plan_check.specs.work.Views.{certificate, entry}
use Rattle.plan_check.specs.work.Beating.{candidate}
use Rattle.entry_check.proofs.PlaceLemmas.{read-there}
use Rattle.entry_check.proofs.WorkLemmas.{list-of}
use Rattle.join_cover.proofs.CoverLemmas.{beaten-read, has-right-at, merge-beaten, merge-none, merge-open, other-than, unbeaten-read}
use Rattle.join_cover.proofs.MergeLemmas.{placed-read}
use Rattle.join_cover.proofs.merges.open_merge.Goals as goal

pub merge_with-requires-clause-outer : goal.merge_with-requires-clause-outer
merge_with-requires-clause-outer c =
    let t = certificate c.args.j.now.t.now in
    has-right-at c.args.j.now.cat.now c.args.j.now.q.now (certificate c.args.j.now.t.now) c.requires.right c.args.at.0 (entry c.index-entries-k.result) (read-there t c.args.j.now.t.now.entries c.items-entries.result.now c.args.at.0 c.index-entries-k.result refl c.items-entries.ensures.list c.requires.outer c.index-entries-k.is)

pub merge_with-requires-clause-inner : goal.merge_with-requires-clause-inner
merge_with-requires-clause-inner c =
    let t = certificate c.args.j.now.t.now in
    has-right-at c.args.j.now.cat.now c.args.j.now.q.now (certificate c.args.j.now.t.now) c.requires.right c.args.at.1 (entry c.index-entries-l.result) (read-there t c.args.j.now.t.now.entries c.items-entries.result.now c.args.at.1 c.index-entries-l.result refl c.items-entries.ensures.list c.requires.inner c.index-entries-l.is)

pub merge_with-requires-clause-list : goal.merge_with-requires-clause-list
merge_with-requires-clause-list c =
    let w = c.args.work.now in
    list-of c.args.j.now.cat.now c.args.j.now.q.now (class_numbers w.list.now) c.index-entries-k.result.set.0 c.index-entries-l.result.set.0 w.outer.0 w.inner.0 c.if-a-work.false c.if-b-work.false c.requires.list

pub is_covered-covered-requires : goal.is_covered-covered-requires
is_covered-covered-requires c = record { placed = placed-read (certificate c.args.j.now.t.now) c.args.j.now.t.now.entries c.items-entries.result.now c.args.j.now.places.now refl c.items-entries.ensures.list c.requires.placed }

pub returns-then-a-work : goal.returns-then-a-work
returns-then-a-work c =
    let t = certificate c.args.j.now.t.now in
    let a = entry c.index-entries-k.result in
    let b = entry c.index-entries-l.result in
    let at = read-there t c.args.j.now.t.now.entries c.items-entries.result.now c.args.at.0 c.index-entries-k.result refl c.items-entries.ensures.list c.requires.outer c.index-entries-k.is in
    let at' = read-there t c.args.j.now.t.now.entries c.items-entries.result.now c.args.at.1 c.index-entries-l.result refl c.items-entries.ensures.list c.requires.inner c.index-entries-l.is in
    let keys = class_numbers c.args.work.now.list.now in
    λ is. absurd (other-than c.args.j.now.cat.now c.args.j.now.q.now (certificate c.args.j.now.t.now) c.requires.right c.args.work.now.outer.0 c.args.at.0 a at c.if-a-work.true is)

pub returns-then-b-work : goal.returns-then-b-work
returns-then-b-work c =
    let t = certificate c.args.j.now.t.now in
    let a = entry c.index-entries-k.result in
    let b = entry c.index-entries-l.result in
    let at = read-there t c.args.j.now.t.now.entries c.items-entries.result.now c.args.at.0 c.index-entries-k.result refl c.items-entries.ensures.list c.requires.outer c.index-entries-k.is in
    let at' = read-there t c.args.j.now.t.now.entries c.items-entries.result.now c.args.at.1 c.index-entries-l.result refl c.items-entries.ensures.list c.requires.inner c.index-entries-l.is in
    let keys = class_numbers c.args.work.now.list.now in
    λ is is'. absurd (other-than c.args.j.now.cat.now c.args.j.now.q.now (certificate c.args.j.now.t.now) c.requires.right c.args.work.now.inner.0 c.args.at.1 b at' c.if-b-work.true is')

pub returns-then-covered : goal.returns-then-covered
returns-then-covered c =
    let t = certificate c.args.j.now.t.now in
    let a = entry c.index-entries-k.result in
    let b = entry c.index-entries-l.result in
    let at = read-there t c.args.j.now.t.now.entries c.items-entries.result.now c.args.at.0 c.index-entries-k.result refl c.items-entries.ensures.list c.requires.outer c.index-entries-k.is in
    let at' = read-there t c.args.j.now.t.now.entries c.items-entries.result.now c.args.at.1 c.index-entries-l.result refl c.items-entries.ensures.list c.requires.inner c.index-entries-l.is in
    let keys = class_numbers c.args.work.now.list.now in
    λ is is'. merge-beaten c.args.j.now.cat.now c.args.j.now.q.now (certificate c.args.j.now.t.now) c.requires.right c.args.at.0 c.args.at.1 a b at at' keys c.args.sorts.0 c.args.sorts.1 (candidate c.in-Some.x) c.in-Some.ensures.some
    (beaten-read c.args.j.now.q.now.window t c.args.j.now.t.now.entries c.items-entries.result.now (candidate c.in-Some.x) refl c.items-entries.ensures.list (c.is_covered-covered.ensures.yes c.if-covered.true))

pub returns-else-covered : goal.returns-else-covered
returns-else-covered c =
    let t = certificate c.args.j.now.t.now in
    let a = entry c.index-entries-k.result in
    let b = entry c.index-entries-l.result in
    let at = read-there t c.args.j.now.t.now.entries c.items-entries.result.now c.args.at.0 c.index-entries-k.result refl c.items-entries.ensures.list c.requires.outer c.index-entries-k.is in
    let at' = read-there t c.args.j.now.t.now.entries c.items-entries.result.now c.args.at.1 c.index-entries-l.result refl c.items-entries.ensures.list c.requires.inner c.index-entries-l.is in
    let keys = class_numbers c.args.work.now.list.now in (
      record { entry = a; stands = at; same = c.if-a-work.false },
      record { entry = b; stands = at'; same = c.if-b-work.false },
      merge-open c.args.j.now.cat.now c.args.j.now.q.now (certificate c.args.j.now.t.now) c.requires.right c.args.at.0 c.args.at.1 a b at at' keys c.args.sorts.0 c.args.sorts.1 (candidate c.in-Some.x) c.in-Some.ensures.some _
          (unbeaten-read c.args.j.now.q.now.window t c.args.j.now.t.now.entries c.items-entries.result.now (candidate c.in-Some.x) refl c.items-entries.ensures.list (c.is_covered-covered.ensures.no c.if-covered.false)) c.counted.ensures refl refl,
    )

pub returns-in-None : goal.returns-in-None
returns-in-None c =
    let t = certificate c.args.j.now.t.now in
    let a = entry c.index-entries-k.result in
    let b = entry c.index-entries-l.result in
    let at = read-there t c.args.j.now.t.now.entries c.items-entries.result.now c.args.at.0 c.index-entries-k.result refl c.items-entries.ensures.list c.requires.outer c.index-entries-k.is in
    let at' = read-there t c.args.j.now.t.now.entries c.items-entries.result.now c.args.at.1 c.index-entries-l.result refl c.items-entries.ensures.list c.requires.inner c.index-entries-l.is in
    let keys = class_numbers c.args.work.now.list.now in
    λ is is'. merge-none c.args.j.now.cat.now c.args.j.now.q.now (certificate c.args.j.now.t.now) c.requires.right c.args.at.0 c.args.at.1 a b at at' keys c.args.sorts.0 c.args.sorts.1 c.in-None.ensures.none
