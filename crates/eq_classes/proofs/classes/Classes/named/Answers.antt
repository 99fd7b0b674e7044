use Rattle.std.proofs.Common.{◌≡◌, ◌<◌, ◌∙◌, ℕ, length, ap, sym, subst, arith}
use Rattle.std.proofs.lemmas.List.{get_or_read}
use Rattle.opfamily.specs.pg_base_Sets.{has}
use Rattle.opfamily.specs.pg_base_rel_set_RelSet.{RelSet}
use Rattle.pg_expr.specs.Columns.{names_rel}
use Rattle.eq_classes.specs.Clauses.{ClassTable}
use Rattle.eq_classes.specs.Listing.{clause_at}
use Rattle.eq_classes.specs.work.Listing.{clauses_of}
use Rattle.eq_classes.proofs.NamedLemmas.{named_low, clauses_length, named_at}
use Rattle.eq_classes.proofs.classes.Classes.named.Goals as goal

pub index-requires : goal.index-requires
index-requires c =
    let s = c.self.inside in
    let few : c.args.n < length (clauses_of s.classes.items s.clauses.items) = subst (λ (t : ClassTable). c.args.n < length t.clauses) (sym c.self.view_is) c.requires in
    omega (arith, few, clauses_length s.classes.items s.clauses.items, named_low s.named.items s.clauses.items c.self.invariant.2, s.named.ok.0)

pub returns : goal.returns
returns c =
    let s = c.self.inside in
    let few : c.args.n < length (clauses_of s.classes.items s.clauses.items) = subst (λ (t : ClassTable). c.args.n < length t.clauses) (sym c.self.view_is) c.requires in
    let lt : c.args.n < length s.named.items = omega (arith, few, clauses_length s.classes.items s.clauses.items, named_low s.named.items s.clauses.items c.self.invariant.2) in
    let d : RelSet = record { 0 = 0 } in
    λ r.
    ap (λ (a : RelSet). has a.0 r) (get_or_read s.named.items _ _ lt c.index.ensures d)
    ∙ named_at s.classes.items s.named.items s.clauses.items c.self.invariant.2 c.args.n lt d r
    ∙ ap (λ (t : ClassTable). names_rel r (clause_at t.clauses c.args.n).cond) c.self.view_is
