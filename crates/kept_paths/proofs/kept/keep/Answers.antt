use Rattle.std.proofs.Common.{◌≡◌, ◌&&◌, ◌||◌, map, subst, sym, ◌∙◌, take}
use Rattle.std.specs.Option.{IsSome}
use Rattle.pathkeys.specs.Keys.{Keys, covers}
use Rattle.plan_tree.specs.work.Views.{path}
use Rattle.plan_tree.proofs.FrontLemmas.{covers-itself}
use Rattle.cost_rules.specs.declared.pair.Pair.{Pair}
use Rattle.kept_paths.specs.work.Bounds.{EarlierEach, is_first, is_told, known_at, pair_of}
use Rattle.kept_paths.proofs.ToldLemmas.{early-kept, early-same, told-kept, told-same}
use Rattle.kept_paths.proofs.kept.keep.Goals as goal

pub returns-in_err-list-clause-covered : goal.returns-in_err-list-clause-covered
returns-in_err-list-clause-covered c = covers-itself c.args.paths.now.items

pub returns-in_err-add_rooms-clause-covered : goal.returns-in_err-add_rooms-clause-covered
returns-in_err-add_rooms-clause-covered c = covers-itself c.args.paths.now.items

pub lower_each-requires : goal.lower_each-requires
lower_each-requires c = λ n. subst (λ (l : Keys). IsSome (known_at c.add_rooms.new.bounds (take n l))) (c.as_slice.ensures ∙ sym c.as_slice-3.ensures) (c.in_ok-add_rooms.ensures.rooms n)

pub returns-clause-told : goal.returns-clause-told
returns-clause-told c = λ told.
    let list : c.as_slice-3.result.now ≡ c.args.made.keys = c.as_slice-3.ensures ∙ c.in_ok-list.ensures in
    told-kept c.args.paths.now.items c.put.new.paths.items c.args.made c.add_rooms.new.bounds c.lower_each.new.bounds c.in_ok-at.ensures.kept c.in_ok-at.ensures.covered c.in_ok-at.ensures.offered
    (subst (λ (l : Keys). (ks : Keys) (n : Pair) → is_told c.lower_each.new.bounds ks n ≡ (is_told c.add_rooms.new.bounds ks n || (covers l ks && is_first (pair_of (path c.args.made)) n))) list c.lower_each.ensures.least)
    (told-same (map path c.args.paths.now.items) c.args.bounds.now c.add_rooms.new.bounds c.add_rooms.ensures.told told)

pub returns-clause-early : goal.returns-clause-early
returns-clause-early c = λ early.
    let list : c.as_slice-3.result.now ≡ c.args.made.keys = c.as_slice-3.ensures ∙ c.in_ok-list.ensures in
    early-kept c.args.paths.now.items c.put.new.paths.items c.args.made c.add_rooms.new.bounds c.lower_each.new.bounds c.in_ok-at.ensures.covered c.in_ok-at.ensures.offered
    (subst (λ (l : Keys). EarlierEach c.add_rooms.new.bounds c.lower_each.new.bounds l (pair_of (path c.args.made))) list c.lower_each.ensures.early)
    (early-same (map path c.args.paths.now.items) c.args.bounds.now c.add_rooms.new.bounds c.add_rooms.ensures.early early)
