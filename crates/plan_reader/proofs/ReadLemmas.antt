-- A whole block read.
use Rattle.std.proofs.Common.{◌≡◌, ℕ, List, [], ◌++◌, Ok, Err, sym, subst, ◌∙◌}
use Rattle.std.specs.Prelude.{Option, Some, None, Result, IfOk, IfErr}
use Rattle.std.proofs.lemmas.List.{append-nil}
use Rattle.std.proofs.lemmas.Option.{same_Some, none-some}
use Rattle.catalog.specs.Contents.{Contents}
use Rattle.sql_query.specs.Queries.{Query}
use Rattle.plan_tree.specs.Plans.{Plan}
use Rattle.plan_tree.specs.work.Views.{plan}
use Rattle.plan_space.specs.Numbered.{CostAndRows}
use Rattle.plan_space.specs.declared.numbers.Written.{Written}
use Rattle.plan_lines.proofs.LineLemmas.{shallow-end}
use Rattle.plan_reader.specs.work.Beneath.{IsRead}
use Rattle.plan_reader.specs.Written.{IsWritten, written_text}
use Rattle.plan_reader.specs.declared.reading.WrittenFault.{WrittenFault}
use Rattle.plan_reader.specs.declared.reading.WrittenFault.TheVariants.{P1}

module _ (c : Contents) (q : Query) (block : List ℕ) where
  whole : (old new : List ℕ) (before after : List CostAndRows) (o : Option Plan) → old ≡ block → before ≡ [] → IsRead c q 0 old new before after o → (p : Plan) (ns : List CostAndRows) → IsWritten c q block p ns → (o ≡ Some p) × (after ≡ ns)
  whole old new before after o same none read p ns w =
      let r = read p ns [] w.text w.stands w.count w.fits (shallow-end 0) (same ∙ (w.written ∙ sym (append-nil (written_text c q p ns)))) in
      (r.0, r.1 ∙ none-before)
    where
      none-before : before ++ ns ≡ ns
      none-before = subst (λ (l : List CostAndRows). l ++ ns ≡ ns) (sym none) (λ t. ns)

  pub one-read : (old new : List ℕ) (before after : List CostAndRows) (o : Option Plan) (x : Plan) → old ≡ block → before ≡ [] → IsRead c q 0 old new before after o → o ≡ Some x → (p : Plan) (ns : List CostAndRows) → IsWritten c q block p ns → (p ≡ x) × (ns ≡ after)
  one-read old new before after o x same none read found p ns w =
      let r = whole old new before after o same none read p ns w in
      (same_Some p x (sym r.0 ∙ found), sym r.1)

  pub none-read : (old new : List ℕ) (before after : List CostAndRows) (o : Option Plan) → old ≡ block → before ≡ [] → IsRead c q 0 old new before after o → o ≡ None → (p : Plan) (ns : List CostAndRows) → IsWritten c q block p ns → ⊥
  none-read old new before after o same none read missing p ns w = none-some p (sym missing ∙ (whole old new before after o same none read p ns w).0)

  pub only-one : (r : Result Written WrittenFault) (x : Plan) (numbers : List CostAndRows) → IfOk r (λ w. (plan w.plan ≡ x) × (w.numbers ≡ numbers)) → ((p : Plan) (ns : List CostAndRows) → IsWritten c q block p ns → (p ≡ x) × (ns ≡ numbers)) →
      IfOk r (λ w. (p : Plan) (ns : List CostAndRows) → IsWritten c q block p ns → (p ≡ plan w.plan) × (ns ≡ w.numbers))
  only-one (Ok w) x numbers same one = λ p ns is. ((one p ns is).0 ∙ sym same.0, (one p ns is).1 ∙ sym same.1)
  only-one (Err e) x numbers same one = tt

  pub none-other : (r : Result Written WrittenFault) (x : Plan) (numbers : List CostAndRows) → IfErr r (λ e. ¬ IsWritten c q block x numbers) → ((p : Plan) (ns : List CostAndRows) → IsWritten c q block p ns → (p ≡ x) × (ns ≡ numbers)) →
      IfErr r (λ e. e ≡ P1 → (p : Plan) (ns : List CostAndRows) → ¬ IsWritten c q block p ns)
  none-other (Ok w) x numbers other one = tt
  none-other (Err e) x numbers other one = λ is p ns w.
      let s = one p ns w in
      other (subst (λ (m : List CostAndRows). IsWritten c q block x m) s.1 (subst (λ (y : Plan). IsWritten c q block y ns) s.0 w))
