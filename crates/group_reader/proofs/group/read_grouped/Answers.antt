use Rattle.std.proofs.Common.{◌∷◌, ◌++◌, List, drop, length, ap, sym, subst, ◌∙◌, arith, length-append}
use Rattle.std.proofs.lemmas.List.{length-drop, length-map}
use Rattle.sql_lex.specs.declared.tokens.Token.{Token}
use Rattle.sql_grammar.specs.FromParts.{groups_after}
use Rattle.sql_grammar.specs.Reading.{terminal_of}
use Rattle.sql_grammar.specs.Syntax.{GroupedItem}
use Rattle.sql_grammar.specs.Terminals.{t_key}
use Rattle.sql_grammar.specs.declared.class.Word.TheVariants.{From}
use Rattle.sql_grammar.specs.Words.{words_of_ending, words_of_group, words_of_group_by, words_of_grouped_item, words_of_grouped_items, words_of_groups, words_of_order, words_of_where}
use Rattle.sql_grammar.proofs.StatementWords.{words-are-tokens}
use Rattle.expr_reader.specs.Lists.{further_parts}
use Rattle.expr_reader.proofs.Named.{AreNamed}
use Rattle.expr_reader.specs.Conditions.{next}
use Rattle.query_reader.specs.From.{nothing_joined, with_groups}
use Rattle.query_reader.proofs.AliasLemmas.{after-words}
use Rattle.query_reader.proofs.ReadingLemmas.{at-start, some-token}
use Rattle.group_reader.specs.Binding.{groups_over}
use Rattle.group_reader.specs.work.Binding.{grouper}
use Rattle.group_reader.specs.work.Reads.{begins_distinct}
use Rattle.group_reader.specs.work.Selected.{IsGroupedAs, IsGroupedByItself}
use Rattle.group_reader.specs.work.Written.{listed_of}
use Rattle.group_reader.proofs.OverLemmas.{behind-length, behind-named, each-listed, ending-window, few-items, left-named, named-groups, parted}
use Rattle.group_reader.proofs.group.read_grouped.Goals as goal

pub list-requires : goal.list-requires
list-requires c =
    let (x, at) = c.requires.select in
    let words = c.skip.ensures ∙ (ap (drop 1) c.new-from.ensures ∙ sym (ap (drop 1) at.spelled.words)) in
    let t = parted x c.skip.new.self c.pass.new.from c.is_distinct-distinct.result words (c.is_distinct-distinct.ensures ∙ ap begins_distinct (ap (drop 1) (sym c.new-from.ensures) ∙ sym c.skip.ensures)) c.pass.ensures in
    (t.first, t.more, t.from_at, (words_of_group t.group ++ (words_of_groups t.groups ++ (words_of_where t.condition ++ (words_of_group_by t.by ++ (words_of_order t.order ++ words_of_ending t.ending))))), t.split)

pub bind-requires-clause-few : goal.bind-requires-clause-few
bind-requires-clause-few c =
    let (x, at) = c.requires.select in
    let words = c.skip.ensures ∙ (ap (drop 1) c.new-from.ensures ∙ sym (ap (drop 1) at.spelled.words)) in
    let t = parted x c.skip.new.self c.pass.new.from c.is_distinct-distinct.result words (c.is_distinct-distinct.ensures ∙ ap begins_distinct (ap (drop 1) (sym c.new-from.ensures) ∙ sym c.skip.ensures)) c.pass.ensures in
    let read = c.in_ok-listed.ensures t.first t.more t.from_at (words_of_group t.group ++ (words_of_groups t.groups ++ (words_of_where t.condition ++ (words_of_group_by t.by ++ (words_of_order t.order ++ words_of_ending t.ending))))) t.split in
    let few = (words-are-tokens c.args.text.now c.requires.words.0 c.args.tokens.now c.requires.words.1 c.requires.short).few in
    omega (arith, few, ap length read.0, few-items t.first t.more (t_key From t.from_at) (words_of_group t.group ++ (words_of_groups t.groups ++ (words_of_where t.condition ++ (words_of_group_by t.by ++ (words_of_order t.order ++ words_of_ending t.ending))))), ap length t.split, behind-length c.is_distinct-distinct.result c.skip.new.self c.pass.new.from c.pass.ensures, ap length c.skip.ensures, length-drop 1 c.new-from.result, ap length c.new-from.ensures, length-map (drop c.args.first c.args.tokens.now) (terminal_of c.args.text.now), length-drop c.args.first c.args.tokens.now)

pub bind-requires-clause-room : goal.bind-requires-clause-room
bind-requires-clause-room c =
    let (x, at) = c.requires.select in
    let words = c.skip.ensures ∙ (ap (drop 1) c.new-from.ensures ∙ sym (ap (drop 1) at.spelled.words)) in
    let t = parted x c.skip.new.self c.pass.new.from c.is_distinct-distinct.result words (c.is_distinct-distinct.ensures ∙ ap begins_distinct (ap (drop 1) (sym c.new-from.ensures) ∙ sym c.skip.ensures)) c.pass.ensures in
    let read = c.in_ok-listed.ensures t.first t.more t.from_at (words_of_group t.group ++ (words_of_groups t.groups ++ (words_of_where t.condition ++ (words_of_group_by t.by ++ (words_of_order t.order ++ words_of_ending t.ending))))) t.split in
    let few = (words-are-tokens c.args.text.now c.requires.words.0 c.args.tokens.now c.requires.words.1 c.requires.short).few in
    omega (arith, few, ap length read.1, length-append (words_of_grouped_item t.first) (words_of_grouped_items t.more ++ t_key From t.from_at ∷ (words_of_group t.group ++ (words_of_groups t.groups ++ (words_of_where t.condition ++ (words_of_group_by t.by ++ (words_of_order t.order ++ words_of_ending t.ending)))))), length-append (words_of_grouped_items t.more) (t_key From t.from_at ∷ (words_of_group t.group ++ (words_of_groups t.groups ++ (words_of_where t.condition ++ (words_of_group_by t.by ++ (words_of_order t.order ++ words_of_ending t.ending)))))), ap length t.split, behind-length c.is_distinct-distinct.result c.skip.new.self c.pass.new.from c.pass.ensures, ap length c.skip.ensures, length-drop 1 c.new-from.result, ap length c.new-from.ensures, length-map (drop c.args.first c.args.tokens.now) (terminal_of c.args.text.now), length-drop c.args.first c.args.tokens.now)

pub bind-requires-clause-words : goal.bind-requires-clause-words
bind-requires-clause-words c =
    let (x, at) = c.requires.select in
    let words = c.skip.ensures ∙ (ap (drop 1) c.new-from.ensures ∙ sym (ap (drop 1) at.spelled.words)) in
    let t = parted x c.skip.new.self c.pass.new.from c.is_distinct-distinct.result words (c.is_distinct-distinct.ensures ∙ ap begins_distinct (ap (drop 1) (sym c.new-from.ensures) ∙ sym c.skip.ensures)) c.pass.ensures in
    let read = c.in_ok-listed.ensures t.first t.more t.from_at (words_of_group t.group ++ (words_of_groups t.groups ++ (words_of_where t.condition ++ (words_of_group_by t.by ++ (words_of_order t.order ++ words_of_ending t.ending))))) t.split in
    (t.group, t.groups, t.condition, t.by, t.order, words_of_ending t.ending, ending-window t.ending, read.1)

pub returns-clause-meaning : goal.returns-clause-meaning
returns-clause-meaning c = λ x start later whole at.
    let words = c.skip.ensures ∙ (ap (drop 1) c.new-from.ensures ∙ sym (ap (drop 1) at.spelled.words)) in
    let t = parted x c.skip.new.self c.pass.new.from c.is_distinct-distinct.result words (c.is_distinct-distinct.ensures ∙ ap begins_distinct (ap (drop 1) (sym c.new-from.ensures) ∙ sym c.skip.ensures)) c.pass.ensures in
    let read = c.in_ok-listed.ensures t.first t.more t.from_at (words_of_group t.group ++ (words_of_groups t.groups ++ (words_of_where t.condition ++ (words_of_group_by t.by ++ (words_of_order t.order ++ words_of_ending t.ending))))) t.split in
    let is : List GroupedItem = t.first ∷ further_parts (λ (i : GroupedItem). i) t.more in
    subst (λ m. IsGroupedAs m c.bind.result) (t.means c.args.cat.now start)
    (at-start (λ (k : Token). IsGroupedAs (next (with_groups (nothing_joined c.args.cat.now) (t.group ∷ groups_after t.groups)) (groups_over k is t.condition (grouper c.is_distinct-distinct.result t.by) t.order)) c.bind.result) c.args.tokens.now c.items.result.now later start _ c.items.ensures whole
    (c.bind.ensures.meaning is t.group t.groups t.condition t.by t.order (words_of_ending t.ending) (read.0 ∙ ap (λ l. listed_of t.first ∷ l) (each-listed t.more)) (ending-window t.ending) read.1))

pub returns-clause-itself : goal.returns-clause-itself
returns-clause-itself c =
    let (x, at) = c.requires.select in
    let words = c.skip.ensures ∙ (ap (drop 1) c.new-from.ensures ∙ sym (ap (drop 1) at.spelled.words)) in
    let t = parted x c.skip.new.self c.pass.new.from c.is_distinct-distinct.result words (c.is_distinct-distinct.ensures ∙ ap begins_distinct (ap (drop 1) (sym c.new-from.ensures) ∙ sym c.skip.ensures)) c.pass.ensures in
    let read = c.in_ok-listed.ensures t.first t.more t.from_at (words_of_group t.group ++ (words_of_groups t.groups ++ (words_of_where t.condition ++ (words_of_group_by t.by ++ (words_of_order t.order ++ words_of_ending t.ending))))) t.split in
    let is : List GroupedItem = t.first ∷ further_parts (λ (i : GroupedItem). i) t.more in
    let named = left-named c.args.text.now c.args.tokens.now c.args.first _ c.skip.new.self c.new-from.ensures c.skip.ensures at.spelled.limits c.requires.words.0 c.requires.words.1 in
    let inside = after-words (words_of_grouped_items t.more) _ (after-words (words_of_grouped_item t.first) _ (subst AreNamed t.split (behind-named c.is_distinct-distinct.result c.skip.new.self c.pass.new.from c.pass.ensures named))) in
    let (start, later, whole) = some-token c.args.tokens.now (omega (arith, c.requires.within)) in
    let P : Token → Type 0 = λ k. IsGroupedAs (next (with_groups (nothing_joined c.args.cat.now) (t.group ∷ groups_after t.groups)) (groups_over k is t.condition (grouper c.is_distinct-distinct.result t.by) t.order)) c.bind.result in
    let meant = at-start P c.args.tokens.now c.items.result.now later start _ c.items.ensures whole
    (c.bind.ensures.meaning is t.group t.groups t.condition t.by t.order (words_of_ending t.ending) (read.0 ∙ ap (λ l. listed_of t.first ∷ l) (each-listed t.more)) (ending-window t.ending) read.1) in
    named-groups c.args.cat.now start is t.group t.groups t.condition (grouper c.is_distinct-distinct.result t.by) t.order (words_of_where t.condition ++ (words_of_group_by t.by ++ (words_of_order t.order ++ words_of_ending t.ending))) (IsGroupedByItself c.args.cat.now) c.bind.result inside.1 meant c.bind.ensures.itself
