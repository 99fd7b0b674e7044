-- Two words that are no command.
use Rattle.std.proofs.Common.{◌≡◌, ◌↔◌, ℕ, List, [], ◌∷◌, ◌++◌, ◌<◌, ◌≤◌, length, map, get_or, refl, sym, ap, ap₂, subst, ◌∙◌, arith, codes, Option, Some, None}
use Rattle.std.specs.Prelude.{IfSome}
use Rattle.pgplan.specs.declared.command.Command.{Command}
use Rattle.pgplan.specs.declared.command.Command.TheVariants.{Sample}
use Rattle.pgplan.specs.Commands.{AreNoCommand, IsNumberWord}

-- a list of two, mapped
pub two_items : {A B : Type 0} (f : A → B) (xs : List A) (x y : A) → 2 ≤ length xs → length xs < 3 → x ≡ get_or xs 0 x → y ≡ get_or xs 1 y → map f xs ≡ f x ∷ f y ∷ []
two_items f [] x y some few e g = absurd (omega (arith, some))
two_items f (a ∷ []) x y some few e g = absurd (omega (arith, some))
two_items f (a ∷ b ∷ []) x y some few e g = ap₂ (λ u v. f u ∷ f v ∷ []) (sym e) (sym g)
two_items f (a ∷ b ∷ c ∷ cs) x y some few e g = absurd (omega (arith, few))

-- what was read of the words
abbrev IsRead : List ℕ → List ℕ → Command → Type 0
IsRead word number command = (n : ℕ) × (command ≡ Sample n) × (word ≡ codes "sample") × IsNumberWord n number

pub none_read : (r : Option Command) (words : List (List ℕ)) (word number : List ℕ) → words ≡ word ∷ number ∷ [] → IfSome r (IsRead word number) → (r ≡ None → (n : ℕ) → word ≡ codes "sample" → ¬ IsNumberWord n number) →
    (r ≡ None) ↔ AreNoCommand words
none_read None words word number e some none = (
  λ is. (
    λ run. let wrong : word ∷ number ∷ [] ≡ codes "run" ∷ [] = sym e ∙ run in cc (wrong),
    λ n sample.
        let same : word ∷ number ∷ [] ≡ codes "sample" ∷ sample.0 ∷ [] = sym e ∙ sample.1 in
        let first : word ≡ codes "sample" = cc (same) in
        let second : sample.0 ≡ number = cc (same) in
        none refl n first (subst (IsNumberWord n) second sample.2),
  ),
  λ no. refl,
)
none_read (Some command) words word number e (n, is, first, number_is) none = (
  λ wrong. cc (wrong),
  λ no. absurd (no.1 n (number, e ∙ ap (λ (w : List ℕ). w ∷ number ∷ []) first, number_is)),
)
