use Rattle.std.proofs.Common.{◌++◌, refl, sym, ap, subst, ◌∙◌}
use Rattle.sql_grammar.specs.declared.class.Free.TheVariants.{Character, Timestamp}
use Rattle.sql_grammar.specs.Faults.{bytes_of}
use Rattle.sql_grammar.specs.Terminals.{t_name, token_of}
use Rattle.sql_grammar.specs.Words.{words_of_modifiers}
use Rattle.expr_reader.specs.declared.cursor.Spelled.{Spelled}
use Rattle.expr_reader.specs.work.Reading.{free_name, BeginsNot}
use Rattle.ddl_reader.specs.Types.{word_named}
use Rattle.ddl_reader.proofs.Parts.{named}
use Rattle.ddl_reader.proofs.TypeLemmas.{first-word, named-next, put-first, read-as, type-end, type_by}
use Rattle.ddl_reader.proofs.types.type_read.Goals as goal

pub token-token-requires : goal.token-token-requires
token-token-requires c =
    let (t, rest, ends, is) = c.requires in
    let (w, left, e) = first-word t rest in
    (w, left, is ∙ e)

pub timestamp-requires : goal.timestamp-requires
timestamp-requires c =
    let (t, rest, ends, is) = c.requires in
    let (k, took) = c.if-takes_free.ensures.took refl in
    (t, rest, ends, put-first Timestamp k c.token-token.result c.args.from.now c.takes_free.new.self _ took c.token-token.ensures is)

pub returns-then-takes_free : goal.returns-then-takes_free
returns-then-takes_free c = λ t rest ends is.
    let (k, took) = c.if-takes_free.ensures.took refl in
    c.timestamp.ensures t rest ends (put-first Timestamp k c.token-token.result c.args.from.now c.takes_free.new.self _ took c.token-token.ensures is)

pub character-requires : goal.character-requires
character-requires c =
    let (t, rest, ends, is) = c.requires in
    let (k, took) = c.if-takes_free-2.ensures.took refl in
    (t, rest, ends, put-first Character k c.token-token.result c.args.from.now c.takes_free-2.new.self _ (sym (c.if-takes_free.ensures.left refl) ∙ took) c.token-token.ensures is)

pub returns-then-takes_free-2 : goal.returns-then-takes_free-2
returns-then-takes_free-2 c = λ t rest ends is.
    let (k, took) = c.if-takes_free-2.ensures.took refl in
    c.character.ensures t rest ends (put-first Character k c.token-token.result c.args.from.now c.takes_free-2.new.self _ (sym (c.if-takes_free.ensures.left refl) ∙ took) c.token-token.ensures is)

pub name-requires : goal.name-requires
name-requires c =
    let (t, rest, ends, is) = c.requires in
    let first = c.if-takes_free.ensures.left refl in
    let a = named-next t rest c.args.from.now (c.if-takes_free.ensures.other refl) (subst (BeginsNot (free_name Character)) first (c.if-takes_free-2.ensures.other refl)) is in
    (a.name, words_of_modifiers a.sizes ++ rest, c.if-takes_free-2.ensures.left refl ∙ (first ∙ a.words))

pub modifiers-numbers-requires : goal.modifiers-numbers-requires
modifiers-numbers-requires c =
    let (t, rest, ends, is) = c.requires in
    let first = c.if-takes_free.ensures.left refl in
    let a = named-next t rest c.args.from.now (c.if-takes_free.ensures.other refl) (subst (BeginsNot (free_name Character)) first (c.if-takes_free-2.ensures.other refl)) is in
    let told = named a.name (words_of_modifiers a.sizes ++ rest) c.in_ok-word.word c.takes_free-2.new.self c.name.new.from (c.if-takes_free-2.ensures.left refl ∙ (first ∙ a.words)) c.in_ok-word.ensures in
    (a.sizes, rest, type-end rest ends, told.1)

pub returns : goal.returns
returns c = λ t rest ends is.
    let first = c.if-takes_free.ensures.left refl in
    let a = named-next t rest c.args.from.now (c.if-takes_free.ensures.other refl) (subst (BeginsNot (free_name Character)) first (c.if-takes_free-2.ensures.other refl)) is in
    let told = named a.name (words_of_modifiers a.sizes ++ rest) c.in_ok-word.word c.takes_free-2.new.self c.name.new.from (c.if-takes_free-2.ensures.left refl ∙ (first ∙ a.words)) c.in_ok-word.ensures in
    let read = c.modifiers-numbers.ensures a.sizes rest (type-end rest ends) told.1 in
    let ns = c.modifiers-numbers.result in
    let word = c.word_named.ensures ∙ ap word_named (c.items.ensures ∙ ap (λ (x : Spelled). x.bytes) told.0) in
    let place = c.token-token.ensures (t_name a.name) _ a.words in
    (ap (λ w. type_by w c.token-token.result ns) word ∙ (ap (λ p. type_by (word_named (bytes_of a.name)) p ns) place ∙ read-as t (word_named (bytes_of a.name)) (token_of a.name) a.sizes ns a.kind read.0), read.1)
