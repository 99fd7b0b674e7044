-- What entries are, by their kinds.
use Rattle.std.proofs.Common.{◌≡◌, ◌==◌, ◌&&◌, ℕ, Bool, true, false, not, cond, List, [], ◌∷◌, ◌++◌, codes, get_or, refl, sym, ap, ap₂, ◌∙◌, arith}
use Rattle.std.specs.Prelude.{Err, IfOk, IfSome, None, Ok, Option, Result, Some, option_map}
use Rattle.std.specs.Char.{is_ascii_digit}
use Rattle.std.specs.Fmt.{decimal}
use Rattle.std.proofs.lemmas.Bool.{and_parts, true≢false}
use Rattle.std.proofs.lemmas.Bool.Decides.{nat_tests}
use Rattle.std.proofs.lemmas.List.{append_assoc}
use Rattle.pg_base.specs.Sets.{has}
use Rattle.pg_base.specs.declared.numbers.IndexNo.{IndexNo}
use Rattle.pg_base.specs.declared.rel_set.RelSet.{RelSet}
use Rattle.catalog.specs.Contents.{Contents}
use Rattle.eq_classes.specs.Clauses.{Set}
use Rattle.certificate_text.specs.explain_Texts.{keys_text}
use Rattle.certificate_text.specs.work.Words.{stops}
use Rattle.pathkeys.specs.Keys.{Keys}
use Rattle.sql_query.specs.Queries.{Query}
use Rattle.certificate_text.specs.plan_check_Certificates.{Node, Side, by_bitmap, by_index, by_index_only, by_merge, by_nest, by_seq}
use Rattle.certificate_text.specs.plan_check_work_Views.{node}
use Rattle.certificate_text.specs.plan_check_entry_Node.{Node as Noded}
use Rattle.certificate_text.specs.HasText.{HasNodeText, IsEntryNumber}
use Rattle.certificate_text.specs.Texts.{node_text, side_text, sides_text}
use Rattle.certificate_entries.specs.work.Keys.{ends_key}
use Rattle.certificate_entries.proofs.NumberLemmas.{number-begins}
use Rattle.pg_base.proofs.OptionLemmas.{some-same}
use Rattle.certificate_entries.specs.work.Kinds.{IsReadBack, behind_text, kind_of, words}
use Rattle.certificate_entries.specs.declared.kinds.Kind.{Kind}
use Rattle.certificate_entries.specs.declared.kinds.Kind.TheVariants as kinds

abbrev code : Kind → ℕ
code kinds.Seq = 0
code kinds.Index = 1
code kinds.IndexOnly = 2
code kinds.Bitmap = 3
code kinds.Nest = 4
code kinds.Merge = 5

pub at-merge : (P : Node → Type 0) → ((k : Keys) (a : Side) (b : Side) → P (by_merge k a b)) → (x : Node) → kind_of x ≡ kinds.Merge → P x
at-merge P h by_seq e = let wrong : 0 ≡ 5 = ap code e in absurd (omega (arith, wrong))
at-merge P h (by_index i b) e = let wrong : 1 ≡ 5 = ap code e in absurd (omega (arith, wrong))
at-merge P h (by_index_only i b) e = let wrong : 2 ≡ 5 = ap code e in absurd (omega (arith, wrong))
at-merge P h (by_bitmap t) e = let wrong : 3 ≡ 5 = ap code e in absurd (omega (arith, wrong))
at-merge P h (by_nest a b) e = let wrong : 4 ≡ 5 = ap code e in absurd (omega (arith, wrong))
at-merge P h (by_merge k a b) e = h k a b

module _ (c : Contents) (q : Query) (set : RelSet) where
  pub node-split : (x : Node) → node_text c q set x ≡ words (kind_of x) ++ behind_text c q set x
  node-split by_seq = refl
  node-split (by_index i b) = refl
  node-split (by_index_only i b) = refl
  node-split (by_bitmap t) = refl
  node-split (by_nest a b) = refl
  node-split (by_merge k a b) = refl

  pub behind-words : (x : Node) (old rest : List ℕ) → old ≡ node_text c q set x ++ rest → old ≡ words (kind_of x) ++ (behind_text c q set x ++ rest)
  behind-words x old rest e = e ∙ (ap (λ (l : List ℕ). l ++ rest) (node-split x) ∙ append_assoc (words (kind_of x)) (behind_text c q set x) rest)

pub ends-stop : (rest : List ℕ) → ends_key rest ≡ true → stops rest ≡ true
ends-stop rest h = (and_parts (stops rest) (not (get_or rest 0 0 == 32 && get_or rest 1 0 == 105)) h).0

digit-is : (b : ℕ) → is_ascii_digit b ≡ true → (b == 105) ≡ false
digit-is b h = by (b == 105) refl where
  by : (t : Bool) → (b == 105) ≡ t → t ≡ false
  by false e = refl
  by true e = let is : b ≡ 105 = grind (arith, nat_tests, e) in absurd (true≢false (sym h ∙ ap is_ascii_digit is))

-- what stands behind the keys of a merge goes on none
pub ends-sides : (a b : Side) (rest : List ℕ) → IsEntryNumber a.entry → ends_key (sides_text a b ++ rest) ≡ true
ends-sides a b rest h = by a.sorted where
  by : (t : Bool) → ends_key ((codes " " ++ ((cond t (codes "sort ") [] ++ decimal a.entry) ++ (codes " " ++ side_text b))) ++ rest) ≡ true
  by true = refl
  by false =
      let text = append_assoc (decimal a.entry) (codes " " ++ side_text b) rest in
      let digit = digit-is (get_or (decimal a.entry ++ ((codes " " ++ side_text b) ++ rest)) 0 0) (number-begins a.entry ((codes " " ++ side_text b) ++ rest) h) in
      ap (λ (l : List ℕ). ends_key (32 ∷ l)) text ∙ ap (λ (t : Bool). not t) digit

-- an index and a direction are those of a scan
pub scan-as : (f : IndexNo → Bool → Node) (o : Option (IndexNo × Bool)) (i j : IndexNo) (a b : Bool) → o ≡ Some (i, a) → o ≡ Some (j, b) → Some (f i a) ≡ Some (f j b)
scan-as f o i j a b e g = ap (λ (x : IndexNo × Bool). Some (f x.0 x.1)) (some-same {A = IndexNo × Bool} (i, a) (j, b) (sym e ∙ g))

-- keys and sides are those of a merge
pub merge-as : (k l : Keys) (x y a b : Side) → k ≡ l → ◌≡◌ {A = Option (Side × Side)} (Some (x, y)) (Some (a, b)) → Some (by_merge k x y) ≡ Some (by_merge l a b)
merge-as k l x y a b e f = ap₂ (λ (m : Keys) (p : Side × Side). Some (by_merge m p.0 p.1)) e (some-same {A = Side × Side} (x, y) (a, b) f)

pub no-sides : (a b : Side) → ◌≡◌ {A = Option (Side × Side)} None (Some (a, b)) → ⊥
no-sides a b e = cc

-- what has a text whatever the query and the set are, has one of these
pub of-index : (c : Contents) (q : Query) (s : Set) (o : Option Noded) → IfSome o (λ n. (q : Query) (s : Set) → HasNodeText c q s (node n)) → IfSome o (λ n. HasNodeText c q s (node n))
of-index c q s None h = tt
of-index c q s (Some n) h = h q s

pub of-nest : (c : Contents) (q : Query) (s : Set) (o : Option Noded) → IfSome o (λ n. (c : Contents) (q : Query) (s : Set) → HasNodeText c q s (node n)) → IfSome o (λ n. HasNodeText c q s (node n))
of-nest c q s None h = tt
of-nest c q s (Some n) h = h c q s

pub of-bits : (c : Contents) (q : Query) (s : Set) {E : Type 0} (r : Result (Option Noded) E) → IfOk r (λ o. IfSome o (λ n. (s : Set) → HasNodeText c q s (node n))) → IfOk r (λ o. IfSome o (λ n. HasNodeText c q s (node n)))
of-bits c q s (Ok None) h = tt
of-bits c q s (Ok (Some n)) h = h s
of-bits c q s (Err e) h = tt

module _ (c : Contents) (q : Query) (set : RelSet) (old mid new : List ℕ) where
  pub merge-behind : {E : Type 0} (r : Result (Option Noded) E) (kind : Kind) → kind ≡ kinds.Merge →
      IfOk r (λ o. (keys : List ℕ) (a b : Side) (rest : List ℕ) → HasNodeText c q (has set.0) (by_merge keys a b) → stops rest ≡ true → old ≡ keys_text c q (has set.0) keys ++ (sides_text a b ++ rest) → (option_map node o ≡ Some (by_merge keys a b)) × (new ≡ rest)) →
      IfOk r (λ o. (x : Node) → kind_of x ≡ kind → IsReadBack c q set (behind_text c q set) old new (option_map node o) x)
  merge-behind (Ok o) kind is h = λ x of. at-merge (λ y. IsReadBack c q set (behind_text c q set) old new (option_map node o) y)
      (λ k a b rest given ends other e. h k a b rest given (ends-stop rest ends) (e ∙ append_assoc (keys_text c q (has set.0) k) (sides_text a b) rest)) x (of ∙ is)
  merge-behind (Err e) kind is h = tt

  pub node-behind : {E : Type 0} (r : Result (Option Noded) E) (kind : Kind) → ((k : Kind) (rest : List ℕ) → old ≡ words k ++ rest → (Some kind ≡ Some k) × (mid ≡ rest)) →
      IfOk r (λ o. (x : Node) → kind_of x ≡ kind → IsReadBack c q set (behind_text c q set) mid new (option_map node o) x) → IfOk r (λ o. (x : Node) → IsReadBack c q set (node_text c q set) old new (option_map node o) x)
  node-behind (Ok o) kind only h = λ x rest given ends other e.
      let w = only (kind_of x) (behind_text c q set x ++ rest) (behind-words c q set x old rest e) in
      h x (sym (some-same kind (kind_of x) w.0)) rest given ends other w.1
  node-behind (Err e) kind only h = tt
