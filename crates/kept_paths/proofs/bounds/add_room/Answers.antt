use Rattle.std.proofs.Common.{◌≡◌, None, refl, subst, sym, ◌∙◌}
use Rattle.pathkeys.specs.Keys.{Keys}
use Rattle.kept_paths.specs.work.Bounds.{known_at}
use Rattle.kept_paths.proofs.ReadLemmas.{none-known, room-early, room-told, rooms-stay}
use Rattle.kept_paths.proofs.bounds.add_room.Goals as goal

pub returns-clause-told : goal.returns-clause-told
returns-clause-told c =
    let none = subst (λ (l : Keys). known_at c.args.bounds.now l ≡ None) (sym c.in_ok-list.ensures.items) (none-known c.args.bounds.now c.args.list.now (sym c.contains_key.ensures ∙ c.if-contains_key.false)) in
    room-told c.in_ok-list.list.items c.args.bounds.now c.insert.new.self _ c.in_ok-insert.ensures.updates refl none

pub returns-clause-rooms : goal.returns-clause-rooms
returns-clause-rooms c = rooms-stay c.in_ok-list.list.items c.args.bounds.now c.insert.new.self _ c.in_ok-insert.ensures.updates

pub returns-clause-early : goal.returns-clause-early
returns-clause-early c = room-early c.in_ok-list.list.items c.args.bounds.now c.insert.new.self _ c.in_ok-insert.ensures.updates refl
