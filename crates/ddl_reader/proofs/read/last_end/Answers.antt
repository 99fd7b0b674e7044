use Rattle.std.proofs.Common.{◌-◌, length, subst, sym, ◌≤◌, arith}
use Rattle.sql_lex.specs.declared.tokens.Kind.TheVariants.{End}
use Rattle.ddl_reader.proofs.TokenLaws.{ends-within, some-token, last-token}
use Rattle.ddl_reader.proofs.read.last_end.Goals as goal

pub end-requires : goal.end-requires
end-requires c = some-token c.args.text.now c.requires.words.0 c.args.tokens.now c.requires.words.1

pub returns-clause-last : goal.returns-clause-last
returns-clause-last c =
    let (before, is) = last-token c.args.text.now c.requires.words.0 c.args.tokens.now (record { kind = End; start = 0; end = 0 }) c.requires.words.1 in
    (before, _, is, c.end.ensures)

pub returns-clause-within : goal.returns-clause-within
returns-clause-within c =
    let ts = c.args.tokens.now in
    let some = some-token c.args.text.now c.requires.words.0 ts c.requires.words.1 in
    subst (λ n. n ≤ length c.args.text.now) (sym c.end.ensures)
    (ends-within c.args.text.now c.requires.words.0 ts c.requires.words.1 (length ts - 1) (record { kind = End; start = 0; end = 0 }) (omega (arith, some)))
