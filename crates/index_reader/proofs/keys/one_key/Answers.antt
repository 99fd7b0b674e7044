use Rattle.std.proofs.Common.{◌++◌, ◌∙◌, ap, append_assoc}
use Rattle.opfamily.specs.declared.classes.OpClass.{OpClass}
use Rattle.sql_grammar.specs.Words.{words_of_class, words_of_direction, words_of_nulls_end}
use Rattle.expr_reader.specs.declared.cursor.Spelled.{Spelled}
use Rattle.expr_reader.proofs.ReadsLemmas.{read-ok, read-refused, was-read}
use Rattle.ddl_reader.proofs.Parts.{named}
use Rattle.index_reader.specs.declared.keys.KeyRead.{KeyRead}
use Rattle.index_reader.proofs.KeyLemmas.{reads-memory, class-end, direction-end, nulls-end, column-told, class-wrong, key-meant}
use Rattle.index_reader.proofs.keys.one_key.Goals as goal

pub returns-in_err-name-clause-read : goal.returns-in_err-name-clause-read
returns-in_err-name-clause-read c = λ n tree d z rest ends is. reads-memory KeyRead KeyRead (λ k. k) _ c.from_residual.result rest _ c.from_residual.ensures.1

pub returns-in_err-class-clause-read : goal.returns-in_err-class-clause-read
returns-in_err-class-clause-read c = λ n tree d z rest ends is.
    let sort = words_of_direction d ++ words_of_nulls_end z in
    let one = named n ((words_of_class tree ++ sort) ++ rest) c.in_ok-name.name c.args.from.now c.expect_name.new.self is c.in_ok-name.ensures.read in
    let found = column-told c.args.cat.now c.args.table n c.in_ok-name.name _ one.0 c.in_ok-col.ensures.told in
    read-refused OpClass KeyRead OpClass KeyRead (λ k. k) (λ k. k) _ _ _ _ _ _ _ _
    (c.in_err-class.ensures.read tree (sort ++ rest) (class-end d z rest ends) (one.1 ∙ append_assoc (words_of_class tree) sort rest))
    (λ f wrong. class-wrong c.args.cat.now c.args.table c.args.method n tree d z c.in_ok-col.col _ found c.type_of.ensures f wrong) c.from_residual-in_err-class.ensures.1

pub returns-clause-read : goal.returns-clause-read
returns-clause-read c = λ n tree d z rest ends is.
    let sort = words_of_direction d ++ words_of_nulls_end z in
    let one = named n ((words_of_class tree ++ sort) ++ rest) c.in_ok-name.name c.args.from.now c.expect_name.new.self is c.in_ok-name.ensures.read in
    let found = column-told c.args.cat.now c.args.table n c.in_ok-name.name _ one.0 c.in_ok-col.ensures.told in
    let class = was-read OpClass OpClass (λ k. k) _ c.in_ok-class.class _ _ (c.in_ok-class.ensures.read tree (sort ++ rest) (class-end d z rest ends) (one.1 ∙ append_assoc (words_of_class tree) sort rest)) in
    let down = c.descending-descending.ensures.read d (words_of_nulls_end z ++ rest) (direction-end z rest ends) (class.words ∙ append_assoc (words_of_direction d) (words_of_nulls_end z) rest) in
    let nulls = c.nulls_first-nulls_first.ensures.read z rest (nulls-end rest ends) down.1 in
    read-ok KeyRead KeyRead (λ k. k) _ _ rest _
    (key-meant c.args.cat.now c.args.table c.args.method n tree d z c.in_ok-col.col _ found c.type_of.ensures c.in_ok-class.class _ _ c.in_ok-name.name.token class.meant down.0 nulls.0 (ap (λ (s : Spelled). s.token) one.0)) nulls.1
