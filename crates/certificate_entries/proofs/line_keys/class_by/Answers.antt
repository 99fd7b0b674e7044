use Rattle.std.proofs.Common.{◌∙◌, ℕ, Some, ap, sym}
use Rattle.pg_base.specs.Sets.{has as member}
use Rattle.eq_classes.specs.Clauses.{ClassTable, first_in}
use Rattle.eq_classes.specs.Listing.{class_at}
use Rattle.certificate_entries.proofs.ClassLemmas.{one-class}
use Rattle.certificate_entries.proofs.KeyLemmas.{class-is, column-same}
use Rattle.certificate_entries.proofs.line_keys.class_by.Goals as goal

pub returns-in_err-class-clause-only : goal.returns-in_err-class-clause-only
returns-in_err-class-clause-only c = λ n x has first named abs.
    let same = column-same c.find_column.result x c.in_ok-column.column c.in_ok-column.was (c.find_column.ensures.only x named) in
    absurd (c.in_err-class.ensures.none n (class-is c.args.q.now (member c.args.set.0) n x c.in_ok-column.column c.args.words.now.abs has first abs same))

pub returns-in_err-member-clause-only : goal.returns-in_err-member-clause-only
returns-in_err-member-clause-only c = λ n x has first named abs.
    let same = column-same c.find_column.result x c.in_ok-column.column c.in_ok-column.was (c.find_column.ensures.only x named) in
    let class = one-class c.args.cat.now c.args.q.now c.requires.bound c.in_ok-column.column c.args.words.now.abs c.in_ok-class.class.0 n c.in_ok-class.ensures.found (class-is c.args.q.now (member c.args.set.0) n x c.in_ok-column.column c.args.words.now.abs has first abs same) in
    absurd (has.member (ap (λ (m : ℕ). first_in (class_at c.args.q.now.classes.classes m) (member c.args.set.0)) (sym class) ∙ (ap (λ (t : ClassTable). first_in (class_at t.classes c.in_ok-class.class.0) (member c.args.set.0)) (sym c.classes_of.ensures) ∙ (sym c.member.ensures ∙ c.in_err-member.was))))

pub returns-clause-only : goal.returns-clause-only
returns-clause-only c = λ n x has first named abs.
    let same = column-same c.find_column.result x c.in_ok-column.column c.in_ok-column.was (c.find_column.ensures.only x named) in
    let class = one-class c.args.cat.now c.args.q.now c.requires.bound c.in_ok-column.column c.args.words.now.abs c.in_ok-class.class.0 n c.in_ok-class.ensures.found (class-is c.args.q.now (member c.args.set.0) n x c.in_ok-column.column c.args.words.now.abs has first abs same) in
    ap (λ (m : ℕ). Some m) class
