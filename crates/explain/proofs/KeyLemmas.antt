-- Keys: their columns, and their texts one by one.
use Prim.Native.Nat.{suc}
use Rattle.std.proofs.Common.{◌≡◌, ◌<◌, ℕ, ◌+◌, false, cond, nat_eq, List, [], ◌∷◌, ◌++◌, codes, drop, get_or, length, map, sym, ◌∙◌, ap, ap₂, subst, append_assoc, arith, drop-cons}
use Rattle.std.specs.Prelude.{All, Some}
use Rattle.std.proofs.lemmas.Bool.Decides.{nat_tests}
use Rattle.std.proofs.lemmas.List.{get_or-map, get_or_default, length-map}
use Rattle.pg_base.specs.Sets.{has}
use Rattle.pg_base.specs.declared.rel_set.RelSet.{RelSet}
use Rattle.pg_expr.specs.declared.operand.ColRef.{ColRef}
use Rattle.catalog.specs.Contents.{Contents}
use Rattle.eq_classes.specs.Clauses.{ClassTable, first_in}
use Rattle.eq_classes.specs.Listing.{blank, class_at}
use Rattle.eq_classes.specs.declared.classes.ClassNo.{ClassNo}
use Rattle.eq_classes.proofs.ListLemmas.{IsIn, found_in, in_from_contains}
use Rattle.pathkeys.specs.work.Finding.{class_numbers}
use Rattle.sql_query.specs.Queries.{Query}
use Rattle.sql_query.specs.WellBound.{IsColumnOf, IsWellBound}
use Rattle.plan_laws.specs.sort_rows_ColumnLemmas.{member_is}
use Rattle.explain.specs.Texts.{key_text, with_commas}

pub member-column : (c : Contents) (q : Query) → IsWellBound c q → (n : ℕ) → n < length q.classes.classes → (set : RelSet) (x : ColRef) (t : ClassTable) → t ≡ q.classes → Some x ≡ first_in (class_at t.classes n) (has set.0) → IsColumnOf c q.range x
member-column c q is n lt set x t same found =
    let k = class_at q.classes.classes n in
    let here : first_in k (has set.0) ≡ Some x = sym (found ∙ ap (λ (u : ClassTable). first_in (class_at u.classes n) (has set.0)) same) in
    let class : IsIn k q.classes.classes = in_from_contains q.classes.classes k (n, lt, get_or_default q.classes.classes n k blank lt) in
    member_is c q is k class x (found_in (λ (y : ColRef). has set.0 y.rel.0) k.members x here)

pub key-class : (ks : List ClassNo) (n most : ℕ) (d : ClassNo) → n < length ks → All (λ m. m < most) (class_numbers ks) → (get_or ks n d).0 < most
key-class ks n most d lt all =
    let P : ℕ → Type 0 = λ m. m < most in
    subst P (get_or-map (λ (c : ClassNo). c.0) ks n d 0 lt) (all n 0 (let long = length-map ks (λ (c : ClassNo). c.0) in omega (arith, long, lt)))

comma-next : (n : ℕ) → nat_eq (n + 1) 0 ≡ false
comma-next n = grind (arith, nat_tests)

-- one key more
module _ (c : Contents) (q : Query) (set : RelSet) (ks : List ClassNo) (n : ℕ) (d : ClassNo) (lt : n < length ks) where
  pub keys-more : (start text mid new : List ℕ) → mid ≡ text ++ cond (nat_eq n 0) [] (codes ", ") → new ≡ mid ++ key_text c q (has set.0) (get_or ks n d).0 →
      text ++ with_commas (cond (nat_eq n 0) [] (codes ", ")) (map (key_text c q (has set.0)) (class_numbers (drop n ks))) ≡ start →
      new ++ with_commas (cond (nat_eq (n + 1) 0) [] (codes ", ")) (map (key_text c q (has set.0)) (class_numbers (drop (n + 1) ks))) ≡ start
  keys-more start text mid new first next before =
      let key = key_text c q (has set.0) (get_or ks n d).0 in
      let comma = cond (nat_eq n 0) [] (codes ", ") in
      let texts : List ClassNo → List (List ℕ) = λ l. map (key_text c q (has set.0)) (class_numbers l) in
      let rest = with_commas (codes ", ") (texts (drop (n + 1) ks)) in
      let same : drop n ks ≡ get_or ks n d ∷ drop (n + 1) ks = drop-cons ks n d lt ∙ ap (λ (m : ℕ). get_or ks n d ∷ drop m ks) (let e : suc n ≡ n + 1 = omega arith in e) in
      let whole : text ++ (comma ++ (key ++ rest)) ≡ start = sym (ap (λ (l : List ClassNo). text ++ with_commas comma (texts l)) same) ∙ before in
      ap (λ b. new ++ with_commas (cond b [] (codes ", ")) (texts (drop (n + 1) ks))) (comma-next n)
      ∙ ap (λ l. l ++ rest) next
      ∙ ap (λ l. (l ++ key) ++ rest) first
      ∙ append_assoc (text ++ comma) key rest
      ∙ append_assoc text comma (key ++ rest)
      ∙ whole

-- a text that is appended in two parts
pub two-parts : (old mid new first second name : List ℕ) → mid ≡ old ++ first → new ≡ mid ++ second → second ≡ name → new ≡ old ++ (first ++ name)
two-parts old mid new first second name one more is =
    more ∙ ap₂ (λ (l m : List ℕ). l ++ m) one is ∙ append_assoc old first name
