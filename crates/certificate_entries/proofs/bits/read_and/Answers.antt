use Rattle.std.proofs.Common.{◌∙◌, ℕ, List, [], ◌∷◌, ◌++◌, length, map, ap, arith, refl, subst, sym}
use Rattle.std.proofs.lemmas.Bool.{true≢false}
use Rattle.std.proofs.lemmas.List.{length-map}
use Rattle.std.specs.Prelude.{All, Some}
use Rattle.certificate_text.specs.explain_Texts.{with_commas}
use Rattle.plan_tree.specs.Plans.{BitTree, all_hold}
use Rattle.plan_tree.specs.work.Views.{bits, trees_of}
use Rattle.plan_tree.proofs.PricingLemmas.{and-bits}
use Rattle.certificate_text.specs.HasText.{HasBitsText, HasElementText}
use Rattle.certificate_entries.proofs.ElementLemmas.{and-has, held-has, held-is, held-none, in_list, in_list-back, in_list-has, in_list-long, in_list-texts}
use Rattle.certificate_entries.proofs.bits.read_and.Goals as goal

pub returns-in-None-clause-only : goal.returns-in-None-clause-only
returns-in-None-clause-only c = λ bs rest has e.
    let k = c.args.cat.now in
    let q = c.args.q.now in
    let some = in_list-long k q bs in
    let r = c.in_ok-items.ensures.only (in_list k q bs) (41 ∷ rest) (in_list-has k q bs has.1) (let two = has.0 in omega (arith, some, two)) refl refl (e ∙ ap (λ (l : List (List ℕ)). with_commas [] l ++ 41 ∷ rest) (in_list-texts k q bs)) in
    absurd (held-none c.in_ok-items.field-0 (λ v. map bits v.items) (in_list k q bs) c.in-None.is r.0)

pub returns-then-len-lt2-clause-only : goal.returns-then-len-lt2-clause-only
returns-then-len-lt2-clause-only c = λ bs rest has e.
    let k = c.args.cat.now in
    let q = c.args.q.now in
    let some = in_list-long k q bs in
    let two = has.0 in
    let r = c.in_ok-items.ensures.only (in_list k q bs) (41 ∷ rest) (in_list-has k q bs has.1) (omega (arith, some, two)) refl refl (e ∙ ap (λ (l : List (List ℕ)). with_commas [] l ++ 41 ∷ rest) (in_list-texts k q bs)) in
    let same = ap (λ (l : List BitTree). length l) (held-is c.in_ok-items.field-0 c.in-Some.items (λ v. map bits v.items) (in_list k q bs) c.in-Some.is r.0) in
    let long = length-map c.in-Some.items.items bits in
    absurd (omega (arith, same, long, some, two, c.len.ensures, c.if-len-lt2.true))

pub returns-then-eat-clause-has : goal.returns-then-eat-clause-has
returns-then-eat-clause-has c = subst (HasBitsText c.args.cat.now c.args.q.now) (sym (and-bits (record { items = c.in-Some.items }))) (and-has c.args.cat.now c.args.q.now c.in-Some.items.items (omega (arith, c.len.ensures, c.if-len-lt2.false)) (held-has (λ l. All (HasElementText c.args.cat.now c.args.q.now) l) c.in_ok-items.field-0 c.in-Some.items (λ v. map bits v.items) c.in-Some.is c.in_ok-items.ensures.has))

pub returns-then-eat-clause-only : goal.returns-then-eat-clause-only
returns-then-eat-clause-only c = λ bs rest has e.
    let k = c.args.cat.now in
    let q = c.args.q.now in
    let some = in_list-long k q bs in
    let two = has.0 in
    let r = c.in_ok-items.ensures.only (in_list k q bs) (41 ∷ rest) (in_list-has k q bs has.1) (omega (arith, some, two)) refl refl (e ∙ ap (λ (l : List (List ℕ)). with_commas [] l ++ 41 ∷ rest) (in_list-texts k q bs)) in
    let same = held-is c.in_ok-items.field-0 c.in-Some.items (λ v. map bits v.items) (in_list k q bs) c.in-Some.is r.0 in
    (ap (λ (t : BitTree). Some t) (and-bits (record { items = c.in-Some.items }) ∙ ap all_hold (ap trees_of same ∙ in_list-back k q bs)), (c.if-eat.ensures.took rest r.1).1)

pub returns-else-eat-clause-only : goal.returns-else-eat-clause-only
returns-else-eat-clause-only c = λ bs rest has e.
    let k = c.args.cat.now in
    let q = c.args.q.now in
    let some = in_list-long k q bs in
    let two = has.0 in
    let r = c.in_ok-items.ensures.only (in_list k q bs) (41 ∷ rest) (in_list-has k q bs has.1) (omega (arith, some, two)) refl refl (e ∙ ap (λ (l : List (List ℕ)). with_commas [] l ++ 41 ∷ rest) (in_list-texts k q bs)) in
    absurd (true≢false (sym (c.if-eat.ensures.took rest r.1).0))
