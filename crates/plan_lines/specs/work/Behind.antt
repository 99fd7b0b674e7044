-- What stands behind the beginning of a text. Own.
use Rattle.std.specs.Prelude.{◌≡◌, ◌<◌, ◌≤◌, ◌^◌, ◌++◌, ◌∷◌, ℕ, Bool, true, List, codes, length, replicate, take, Option, Some, option_map, IsSomeAnd}
use Rattle.std.specs.Borrow.{Bor}
use Rattle.std.specs.Fmt.{decimal}
use Rattle.pg_base.specs.declared.numbers.IndexNo.{IndexNo}
use Rattle.catalog.specs.Contents.{Contents, index_name_at}
use Rattle.sql_query.specs.Queries.{Query}
use Rattle.certificate_text.specs.work.Words.{stops}
use Rattle.certificate_entries.specs.explain_Texts.{backward_text, lead, with_alias}
use Rattle.certificate_entries.specs.explain_work_Texts.{given_list}
use Rattle.plan_lines.specs.HasText.{IsIndexOfQuery}
use Rattle.plan_lines.specs.work.Kinds.{words}
use Rattle.plan_lines.specs.work.Parts.{lacks}
use Rattle.plan_lines.specs.declared.kinds.Kind.{Kind}

-- wherever a text begins with these words, what follows them is given
abbrev pub GivesBehind : List ℕ → List ℕ → Option (Bor (List ℕ)) → Type 0
GivesBehind words text result =
    (rest : List ℕ) → text ≡ words ++ rest → option_map (λ (l : Bor (List ℕ)). l.now) result ≡ Some rest

-- wherever a text ends with these words, what comes before them is given
abbrev pub GivesBefore : List ℕ → List ℕ → Option (Bor (List ℕ)) → Type 0
GivesBefore words text result =
    (t : List ℕ) → text ≡ t ++ words → option_map (λ (l : Bor (List ℕ)). l.now) result ≡ Some t

-- some words and what is left are the text
abbrev pub IsLeft : List ℕ → List ℕ → Bor (List ℕ) → Type 0
IsLeft words text left = text ≡ words ++ left.now

-- what follows a number is given, where no byte of a name goes on it
abbrev pub GivesBehindNumber : ℕ → List ℕ → Option (Bor (List ℕ)) → Type 0
GivesBehindNumber n text result =
    (rest : List ℕ) → n < 10 ^ 19 → stops rest ≡ true → text ≡ decimal n ++ rest →
    option_map (λ (l : Bor (List ℕ)). l.now) result ≡ Some rest

-- a number that no byte of a name goes on, and what follows
abbrev pub CutsNumber : List ℕ → Option (ℕ × Bor (List ℕ)) → Type 0
CutsNumber text result =
    (n : ℕ) (rest : List ℕ) → n < 10 ^ 19 → stops rest ≡ true → text ≡ decimal n ++ rest →
    option_map {U = ℕ × List ℕ} (λ p. (p.0, p.1.now)) result ≡ Some (n, rest)

-- the kind whose words a title begins with, and what follows
abbrev pub CutsKind : List ℕ → Option (Kind × Bor (List ℕ)) → Type 0
CutsKind title result =
    (k : Kind) (rest : List ℕ) → title ≡ words k ++ rest →
    option_map {U = Kind × List ℕ} (λ p. (p.0, p.1.now)) result ≡ Some (k, rest)

-- an index of the query by its name, and what follows
abbrev pub CutsIndex : Contents → Query → List ℕ → Option (IndexNo × Bor (List ℕ)) → Type 0
CutsIndex c q text result =
    (i : IndexNo) (rest : List ℕ) → IsIndexOfQuery c q i → stops rest ≡ true → text ≡ index_name_at c i ++ rest →
    option_map {U = IndexNo × List ℕ} (λ r. (r.0, r.1.now)) result ≡ Some (i, rest)

-- the direction of a scan, and what follows
abbrev pub CutsDirection : List ℕ → Bool → List ℕ → Type 0
CutsDirection text backward left =
    (b : Bool) (rest : List ℕ) → text ≡ backward_text b ++ (codes " using " ++ rest) →
    (backward ≡ b) × (left ≡ codes " using " ++ rest)

-- a text begins with so many spaces
abbrev pub HasSpaces : ℕ → List ℕ → Type 0
HasSpaces count text = (count ≤ length text) × (take count text ≡ replicate count 32)

-- the first place of a byte is given, wherever it stands
abbrev pub IsFirstPlace : ℕ → List ℕ → ℕ → Type 0
IsFirstPlace b text place = (t rest : List ℕ) → lacks b t ≡ true → text ≡ t ++ (b ∷ rest) → place ≡ length t

-- what stands before the first such byte, and what follows it
abbrev pub CutsAt : ℕ → List ℕ → Option (Bor (List ℕ) × Bor (List ℕ)) → Type 0
CutsAt b text result =
    (t rest : List ℕ) → lacks b t ≡ true → text ≡ t ++ (b ∷ rest) →
    option_map {U = List ℕ × List ℕ} (λ p. (p.0.now, p.1.now)) result ≡ Some (t, rest)

-- the next line, where it stands at a depth, is given without its lead and its end, and what follows is left
abbrev pub GivesLine : ℕ → List ℕ → List ℕ → Option (Bor (List ℕ)) → Type 0
GivesLine depth old new result =
    (t rest : List ℕ) → lacks 10 t ≡ true → old ≡ lead depth ++ (t ++ (10 ∷ rest)) →
    (option_map (λ (l : Bor (List ℕ)). l.now) result ≡ Some t) × (new ≡ rest)

-- what goes on with aliases behind one that may be given, went on with it before
abbrev pub AddsAlias : Bool → List ℕ → Bool → List ℕ → Bor (List ℕ) × Bool → Type 0
AddsAlias is alias first text s =
    (xs : List (List ℕ)) (rest : List ℕ) → s.0.now ≡ given_list s.1 xs ++ rest →
    text ≡ given_list first (with_alias is alias xs) ++ rest

-- an alias is passed over where it is given, and what follows goes on
abbrev pub PassesAlias : Bool → List ℕ → Bool → List ℕ → Option (Bor (List ℕ) × Bool) → Type 0
PassesAlias is alias first text result =
    (xs : List (List ℕ)) (rest : List ℕ) → text ≡ given_list first (with_alias is alias xs) ++ rest →
    IsSomeAnd result (λ s. s.0.now ≡ given_list s.1 xs ++ rest)
