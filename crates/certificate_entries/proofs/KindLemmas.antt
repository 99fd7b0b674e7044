-- The words of kinds are told apart by their first byte and their seventh.
use Rattle.std.proofs.Common.{◌≡◌, ◌==◌, ℕ, cond, List, ◌++◌, get_or, refl, sym, ap, ◌∙◌}
use Rattle.certificate_entries.specs.work.Kinds.{words}
use Rattle.certificate_entries.specs.declared.kinds.Kind.{Kind}
use Rattle.certificate_entries.specs.declared.kinds.Kind.TheVariants as kinds

-- the kind that a text begins with, if it begins with one
abbrev begun : List ℕ → Kind
begun l = cond (get_or l 0 0 == 83) kinds.Seq (cond (get_or l 0 0 == 66) kinds.Bitmap (cond (get_or l 0 0 == 78) kinds.Nest (cond (get_or l 0 0 == 77) kinds.Merge (cond (get_or l 6 0 == 83) kinds.Index kinds.IndexOnly))))

begun-is : (k : Kind) (rest : List ℕ) → begun (words k ++ rest) ≡ k
begun-is kinds.Seq rest = refl
begun-is kinds.Index rest = refl
begun-is kinds.IndexOnly rest = refl
begun-is kinds.Bitmap rest = refl
begun-is kinds.Nest rest = refl
begun-is kinds.Merge rest = refl

pub one-kind : (a b : Kind) (old left rest : List ℕ) → old ≡ words a ++ left → old ≡ words b ++ rest → a ≡ b
one-kind a b old left rest e f = sym (begun-is a left) ∙ (ap begun (sym e ∙ f) ∙ begun-is b rest)

-- no words of a kind come next
pub no-kind : (old : List ℕ) → ((r : List ℕ) → old ≡ words kinds.Seq ++ r → ⊥) → ((r : List ℕ) → old ≡ words kinds.Index ++ r → ⊥) → ((r : List ℕ) → old ≡ words kinds.IndexOnly ++ r → ⊥) →
    ((r : List ℕ) → old ≡ words kinds.Bitmap ++ r → ⊥) → ((r : List ℕ) → old ≡ words kinds.Nest ++ r → ⊥) → ((r : List ℕ) → old ≡ words kinds.Merge ++ r → ⊥) → (k : Kind) (rest : List ℕ) → old ≡ words k ++ rest → ⊥
no-kind old a b c d e f kinds.Seq rest g = a rest g
no-kind old a b c d e f kinds.Index rest g = b rest g
no-kind old a b c d e f kinds.IndexOnly rest g = c rest g
no-kind old a b c d e f kinds.Bitmap rest g = d rest g
no-kind old a b c d e f kinds.Nest rest g = e rest g
no-kind old a b c d e f kinds.Merge rest g = f rest g
