use Rattle.std.proofs.Common.{◌∷◌, ◌++◌, [], arith, List, ◌∙◌, refl, subst, ap}
use Rattle.sql_lex.specs.declared.tokens.Token.{Token}
use Rattle.sql_grammar.specs.FromParts.{groups_after}
use Rattle.sql_grammar.specs.Words.{words_of_group, words_of_groups, words_of_output, words_of_outputs}
use Rattle.expr_reader.proofs.Named.{AreNamed, named-from}
use Rattle.query_reader.specs.declared.written.Item.{Item}
use Rattle.query_reader.specs.Binding.{bound_from}
use Rattle.query_reader.specs.work.Select.{IsBoundByItself, IsBoundAs}
use Rattle.query_reader.proofs.AliasLemmas.{after-words, named-query}
use Rattle.query_reader.proofs.PlaceLemmas.{part-goes-on}
use Rattle.query_reader.proofs.ReadingLemmas.{at-start, behind, some-token, tree, words-named}
use Rattle.query_reader.proofs.select.part.Goals as goal

pub list-requires : goal.list-requires
list-requires c =
    let (x, at) = c.requires.part in
    let t = tree c.args.text.now c.args.tokens.now c.args.first c.args.end x at _ c.skip.new.self c.part-from.ensures c.skip.ensures in
    (t.first, t.more, t.from_at, words_of_group t.group ++ (words_of_groups t.groups ++ behind t.condition t.order t.window), t.split)

pub bind-requires : goal.bind-requires
bind-requires c =
    let (x, at) = c.requires.part in
    let t = tree c.args.text.now c.args.tokens.now c.args.first c.args.end x at _ c.skip.new.self c.part-from.ensures c.skip.ensures in
    let rest = words_of_group t.group ++ (words_of_groups t.groups ++ behind t.condition t.order t.window) in
    let read = c.in_ok-items.ensures t.first t.more t.from_at rest t.split in
    (t.group, t.groups, t.condition, t.order, t.window, [], refl, read.1)

pub returns-clause-binding : goal.returns-clause-binding
returns-clause-binding c = λ x start later whole at.
    let t = tree c.args.text.now c.args.tokens.now c.args.first c.args.end x at _ c.skip.new.self c.part-from.ensures c.skip.ensures in
    let rest = words_of_group t.group ++ (words_of_groups t.groups ++ behind t.condition t.order t.window) in
    let read = c.in_ok-items.ensures t.first t.more t.from_at rest t.split in
    let shown = c.deref.ensures.value ∙ read.0 in
    subst (λ m. IsBoundAs m c.bind.result) (ap (λ (l : List Item). bound_from c.args.cat.now start l (t.group ∷ groups_after t.groups) t.condition t.order t.window) shown ∙ t.means c.args.cat.now start)
    (at-start (λ (k : Token). IsBoundAs (bound_from c.args.cat.now k c.deref.result.now (t.group ∷ groups_after t.groups) t.condition t.order t.window) c.bind.result) c.args.tokens.now c.items.result.now later start _ c.items.ensures whole
    (c.bind.ensures.meaning t.group t.groups t.condition t.order t.window [] refl read.1))

pub returns-clause-itself : goal.returns-clause-itself
returns-clause-itself c =
    let (x, at) = c.requires.part in
    let t = tree c.args.text.now c.args.tokens.now c.args.first c.args.end x at _ c.skip.new.self c.part-from.ensures c.skip.ensures in
    let rest = words_of_group t.group ++ (words_of_groups t.groups ++ behind t.condition t.order t.window) in
    let read = c.in_ok-items.ensures t.first t.more t.from_at rest t.split in
    let named = words-named c.args.text.now c.args.tokens.now c.args.first c.args.end _ c.skip.new.self c.part-from.ensures c.skip.ensures (named-from c.args.text.now c.requires.words.0 c.args.tokens.now 0 c.requires.words.1 at.limits) in
    let inside = after-words (words_of_outputs t.more) _ (after-words (words_of_output t.first) _ (subst AreNamed t.split named)) in
    let place = part-goes-on c.args.text.now c.args.tokens.now c.args.first c.args.end c.requires.part in
    let (start, later, whole) = some-token c.args.tokens.now (omega (arith, place.0, place.1)) in
    let P : Token → Type 0 = λ k. IsBoundAs (bound_from c.args.cat.now k c.deref.result.now (t.group ∷ groups_after t.groups) t.condition t.order t.window) c.bind.result in
    let meant = at-start P c.args.tokens.now c.items.result.now later start _ c.items.ensures whole (c.bind.ensures.meaning t.group t.groups t.condition t.order t.window [] refl read.1) in
    named-query c.args.cat.now start c.deref.result.now t.group t.groups t.condition t.order t.window (behind t.condition t.order t.window) (IsBoundByItself c.args.cat.now) c.bind.result inside.1 meant c.bind.ensures.itself
