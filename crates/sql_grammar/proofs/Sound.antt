-- What the walk takes begins a statement; what it takes to an end is one.
use Rattle.std.proofs.Common.{◌≡◌, ℕ, ◌≤◌, Bool, true, false, List, [], ◌∷◌, ◌++◌, Option, Some, None, refl, ap, ◌∙◌, subst, arith, append-nil, cond, nat_le}
use Rattle.std.proofs.lemmas.Bool.{leb-true, and_parts}
use Rattle.sql_grammar.specs.Terminals.{Terminal}
use Rattle.sql_grammar.specs.work.Terminals.{class_of}
use Rattle.sql_grammar.specs.declared.table.Item.{Item}
use Rattle.sql_grammar.specs.declared.table.Item.TheVariants.{Closes, NotEnds}
use Rattle.sql_grammar.specs.work.Table.{Expansion, takes_of, is_optional}
use Rattle.sql_grammar.specs.work.Machine.{depth_of, opens, pushed, by_row, step_of, and_then, run_of, may_end}
use Rattle.sql_grammar.proofs.Forest.{Parts, words_of_parts}
use Rattle.sql_grammar.proofs.Rules.{Rule, rule, nothing, something}

pub flat-depth : (is s : List Item) → opens is ≡ false → depth_of (is ++ s) ≡ depth_of s
flat-depth [] s e = refl
flat-depth (NotEnds ∷ is) s e = absurd (cc)
flat-depth (Closes ∷ is) s e = absurd (cc)
flat-depth (_ ∷ is) s e = omega (arith, flat-depth is s e)

-- what is pushed is there, within the limit
pushed_by : (limit : ℕ) (is s s' : List Item) (b c : Bool) → (b ≡ false → depth_of (is ++ s) ≤ limit) → (c ≡ true → depth_of (is ++ s) ≤ limit) →
    cond b (cond c (Some (is ++ s)) None) (Some (is ++ s)) ≡ Some s' → (is ++ s ≡ s') × (depth_of (is ++ s) ≤ limit)
pushed_by limit is s s' false c flat low e = (cc, flat refl)
pushed_by limit is s s' true true flat low e = (cc, low refl)
pushed_by limit is s s' true false flat low e = absurd (cc)

pub pushed-is : (limit : ℕ) (is s s' : List Item) → depth_of s ≤ limit → pushed limit is s ≡ Some s' → (is ++ s ≡ s') × (depth_of (is ++ s) ≤ limit)
pushed-is limit is s s' shallow e =
    pushed_by limit is s s' (opens is) (nat_le (depth_of (is ++ s)) limit) (λ h. omega (arith, flat-depth is s h)) (λ h. leb-true _ _ h) e

module _ (limit : ℕ) where
  -- the walk has gone from s to s' over these tokens
  pub record Goes (s : List Item) (ts : List Terminal) (s' : List Item) : Type 0 where
    pub shallow : depth_of s' ≤ limit
    pub back : (f : Parts limit s') → (g : Parts limit s) × (words_of_parts limit s g ≡ ts ++ words_of_parts limit s' f)

  pushes : (i : Item) (t : Terminal) (s is s' : List Item) (shallow : depth_of s ≤ limit) → Rule limit s shallow i t (Some is) →
      (is ++ s ≡ s') × (depth_of (is ++ s) ≤ limit) → Goes (i ∷ s) (t ∷ []) s'
  pushes i t s is s' shallow r (same, low) = subst (Goes (i ∷ s) (t ∷ [])) same (record { shallow = low; back = r })

  passes : (i : Item) (t : Terminal) (s s' : List Item) (shallow : depth_of s ≤ limit) → is_optional i ≡ true → Goes s (t ∷ []) s' → Goes (i ∷ s) (t ∷ []) s'
  passes i t s s' shallow o goes = record {
    shallow = goes.shallow;
    back = λ f. let (g, is) = goes.back f in let (h, more) = nothing limit s shallow i o g in (h, more ∙ is);
  }

  steps : (i : Item) (t : Terminal) (s s' : List Item) (shallow : depth_of s ≤ limit) (row : Expansion) (o : Bool) (below : Option (List Item)) → Rule limit s shallow i t row →
      (o ≡ true → is_optional i ≡ true) → (below ≡ Some s' → Goes s (t ∷ []) s') → by_row limit row o s below ≡ Some s' → Goes (i ∷ s) (t ∷ []) s'
  steps i t s s' shallow (Some is) o below r opt ih e = pushes i t s is s' shallow r (pushed-is limit is s s' shallow e)
  steps i t s s' shallow None true below r opt ih e = passes i t s s' shallow (opt refl) (ih e)
  steps i t s s' shallow None false below r opt ih e = absurd (cc)

  pub step-goes : (t : Terminal) (s s' : List Item) → depth_of s ≤ limit → step_of limit (class_of t) s ≡ Some s' → Goes s (t ∷ []) s'
  step-goes t [] s' shallow e = absurd (cc)
  step-goes t (i ∷ s) s' shallow e =
      let low : depth_of s ≤ limit = omega arith in
      steps i t s s' low (takes_of i (class_of t)) (is_optional i) (step_of limit (class_of t) s) (rule limit s low i t) (λ h. h) (step-goes t s s' low) e

  goes_on : (s s' : List Item) (t : Terminal) (ts : List Terminal) (o : Option (List Item)) → ((m : List Item) → o ≡ Some m → Goes s (t ∷ []) m) →
      ((m : List Item) → depth_of m ≤ limit → run_of limit ts m ≡ Some s' → Goes m ts s') → and_then o (run_of limit ts) ≡ Some s' → Goes s (t ∷ ts) s'
  goes_on s s' t ts None first more e = absurd (cc)
  goes_on s s' t ts (Some m) first more e =
      let a = first m refl in
      let b = more m a.shallow e in
      record { shallow = b.shallow; back = λ f. let (g, is) = b.back f in let (h, was) = a.back g in (h, was ∙ ap (λ l. t ∷ l) is) }

  pub run-goes : (ts : List Terminal) (s s' : List Item) → depth_of s ≤ limit → run_of limit ts s ≡ Some s' → Goes s ts s'
  run-goes [] s s' shallow e = let same : s ≡ s' = cc in subst (Goes s []) same (record { shallow = shallow; back = λ f. (f, refl) })
  run-goes (t ∷ ts) s s' shallow e = goes_on s s' t ts (step_of limit (class_of t) s) (λ m. step-goes t s m shallow) (λ m low. run-goes ts m s' low) e

  some_parts : (s : List Item) → depth_of s ≤ limit → Parts limit s
  some_parts [] shallow = tt
  some_parts (i ∷ s) shallow = let low : depth_of s ≤ limit = omega arith in (something limit s low i, some_parts s low)

  no_parts : (s : List Item) → depth_of s ≤ limit → may_end s ≡ true → (g : Parts limit s) × (words_of_parts limit s g ≡ [])
  no_parts [] shallow e = (tt, refl)
  no_parts (i ∷ s) shallow e =
      let low : depth_of s ≤ limit = omega arith in
      let both = and_parts (is_optional i) (may_end s) e in
      let (f, none) = no_parts s low both.1 in
      let (g, is) = nothing limit s low i both.0 f in
      (g, is ∙ none)

  pub begun : (start s : List Item) (ts : List Terminal) → depth_of start ≤ limit → run_of limit ts start ≡ Some s →
      (g : Parts limit start) × (rest : List Terminal) × (words_of_parts limit start g ≡ ts ++ rest)
  begun start s ts shallow e =
      let goes = run-goes ts start s shallow e in
      let f = some_parts s goes.shallow in
      let (g, is) = goes.back f in
      (g, words_of_parts limit s f, is)

  pub ended : (start s : List Item) (ts : List Terminal) → depth_of start ≤ limit → run_of limit ts start ≡ Some s → may_end s ≡ true →
      (g : Parts limit start) × (words_of_parts limit start g ≡ ts)
  ended start s ts shallow e ends =
      let goes = run-goes ts start s shallow e in
      let (f, none) = no_parts s goes.shallow ends in
      let (g, is) = goes.back f in
      (g, is ∙ (ap (λ l. ts ++ l) none ∙ append-nil ts))
