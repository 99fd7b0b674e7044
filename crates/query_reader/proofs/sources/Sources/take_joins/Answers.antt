use Rattle.std.proofs.Common.{◌++◌, List, Some, ap, subst, ◌∙◌, length, arith}
use Rattle.sql_grammar.specs.Syntax.{Join}
use Rattle.sql_grammar.specs.Words.{words_of_joins}
use Rattle.expr_reader.proofs.StepLemmas.{step, stop}
use Rattle.query_reader.specs.From.{Joined, with_join, with_joins}
use Rattle.query_reader.specs.work.Joins.{IsNext}
use Rattle.query_reader.proofs.FromLemmas.{split}
use Rattle.query_reader.proofs.JoinLemmas.{joins-shorter}
use Rattle.query_reader.proofs.SourceLemmas.{into-fault, into-stopped, was-into}
use Rattle.query_reader.proofs.sources.Sources.take_joins.Goals as goal

pub take_join-requires : goal.take_join-requires
take_join-requires c =
    let (js, rest, ends, is) = c.requires in
    let (more, words, same) = c.more.invariant js rest ends is in
    let n = c.in-Some.ensures more rest ends words in
    let s = split c.in-Some.how more rest c.joining.new.from n in
    (s.head, s.tail, rest, ends, subst (λ (k : List Join). IsNext (Some c.in-Some.how) k rest c.joining.new.from) s.is n)

pub more-smaller : goal.more-smaller
more-smaller c =
    let (js, rest, ends, is) = c.requires in
    let (more, words, same) = c.more.invariant js rest ends is in
    let n = c.in-Some.ensures more rest ends words in
    let s = split c.in-Some.how more rest c.joining.new.from n in
    let told = c.in_ok-take_join.ensures s.head s.tail rest ends (subst (λ (k : List Join). IsNext (Some c.in-Some.how) k rest c.joining.new.from) s.is n) in
    let w = was-into (Unit {0}) Joined c.take_join.new.self (with_join c.args.first c.more.self s.head) _ (words_of_joins s.tail ++ rest) c.take_join.new.from told in
    omega (arith, ap length w.words, ap length words, ap (λ (k : List Join). length (words_of_joins k ++ rest)) s.is, joins-shorter s.head s.tail rest)

pub more-preserved : goal.more-preserved
more-preserved c = λ js rest ends is.
    let (more, words, same) = c.more.invariant js rest ends is in
    let n = c.in-Some.ensures more rest ends words in
    let s = split c.in-Some.how more rest c.joining.new.from n in
    let told = c.in_ok-take_join.ensures s.head s.tail rest ends (subst (λ (k : List Join). IsNext (Some c.in-Some.how) k rest c.joining.new.from) s.is n) in
    let w = was-into (Unit {0}) Joined c.take_join.new.self (with_join c.args.first c.more.self s.head) _ (words_of_joins s.tail ++ rest) c.take_join.new.from told in
    (s.tail, w.words, same ∙ (ap (with_joins c.args.first c.more.self) s.is ∙ step (with_join c.args.first c.more.self s.head) _ c.take_join.new.self w.meant))

pub returns-in_err-take_join : goal.returns-in_err-take_join
returns-in_err-take_join c = λ js rest ends is.
    let (more, words, same) = c.more.invariant js rest ends is in
    let n = c.in-Some.ensures more rest ends words in
    let s = split c.in-Some.how more rest c.joining.new.from n in
    let told = c.in_err-take_join.ensures s.head s.tail rest ends (subst (λ (k : List Join). IsNext (Some c.in-Some.how) k rest c.joining.new.from) s.is n) in
    into-stopped (Unit {0}) Joined c.take_join.new.self _ c.in_err-take_join.field-0.0 _ rest _
    (λ f at. same ∙ (ap (with_joins c.args.first c.more.self) s.is ∙ stop (with_join c.args.first c.more.self s.head) _ f (into-fault (Unit {0}) Joined c.take_join.new.self _ (words_of_joins s.tail ++ rest) c.take_join.new.from _ f told at)))
    c.from_residual.ensures.1
