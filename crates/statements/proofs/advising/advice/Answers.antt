use Rattle.std.proofs.Common.{◌∙◌, List, All, ap, subst, sym}
use Rattle.pg_base.specs.declared.faults.Code.TheVariants.{S16}
use Rattle.sql_lex.specs.declared.tokens.Token.{Token}
use Rattle.sql_grammar.specs.Faults.{fault_at}
use Rattle.sql_query.specs.Queries.{Query}
use Rattle.sql_query.specs.WellBound.{IsWellBound}
use Rattle.sql_query.specs.Worlds.{world}
use Rattle.index_reader.specs.work.AdviseStatements.{advice_asked}
use Rattle.statements.specs.work.Ending.{end_of_refusal}
use Rattle.statements.proofs.AdvisingLemmas.{found-advised, none-advised, reading-refused}
use Rattle.statements.proofs.TellingLemmas.{refused-by}
use Rattle.statements.proofs.advising.advice.Goals as goal

pub returns-in_err-asked-clause-refused : goal.returns-in_err-asked-clause-refused
returns-in_err-asked-clause-refused c = λ stored.
    let w = world c.args.catalog.now stored in
    refused-by w c.args.text.now c.args.tokens.now c.from_residual.result (end_of_refusal c.in_err-asked.field-0.0)
    (reading-refused w c.args.text.now c.args.tokens.now c.in_err-asked.field-0.0 c.in_err-asked.ensures.refused)
    c.from_residual.ensures.1

pub advice_for-requires-clause-bound : goal.advice_for-requires-clause-bound
advice_for-requires-clause-bound c =
    subst (λ (qs : List Query). All (IsWellBound c.args.catalog.now) qs) (sym c.deref-2.ensures.value) c.in_ok-asked.ensures.sound.bound

pub returns-in-Some-clause-advised : goal.returns-in-Some-clause-advised
returns-in-Some-clause-advised c = λ stored.
    found-advised (world c.args.catalog.now stored) c.args.text.now c.args.tokens.now (advice_asked c.in_ok-asked.asked) c.in_ok-asked.ensures.read c.in_ok-asked.ensures.sound.classes
    c.deref.result.now c.deref-2.result.now c.in-Some.lines.items c.deref.ensures.value c.deref-2.ensures.value
    (rw c.in-Some.is at c.in_ok-found.ensures)

pub returns-clause-refused : goal.returns-clause-refused
returns-clause-refused c = λ stored.
    none-advised (world c.args.catalog.now stored) c.args.text.now c.args.tokens.now (advice_asked c.in_ok-asked.asked) c.in_ok-asked.ensures.read c.in_ok-asked.ensures.sound.classes
    c.deref.result.now c.deref-2.result.now c.fault_at.result c.deref.ensures.value c.deref-2.ensures.value
    (c.fault_at.ensures ∙ ap (λ (t : Token). fault_at S16 t) c.token_at.ensures)
    (rw c.in-None.is at c.in_ok-found.ensures)
