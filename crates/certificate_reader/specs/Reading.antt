-- What reading a block comes to. Own.
use Rattle.std.specs.Prelude.{◌≡◌, ℕ, List}
use Rattle.catalog.specs.Contents.{Contents}
use Rattle.sql_query.specs.Queries.{Query}
use Rattle.plan_check.specs.Certificates.{Certificate}
use Rattle.certificate_entries.specs.certificate_text_HasText.{HasText}
use Rattle.certificate_entries.specs.certificate_text_Texts.{certificate_text}

module _ (c : Contents) (q : Query) where
  -- the block is the text of no other certificate
  abbrev pub IsOnlyCertificate : List ℕ → Certificate → Type 0
  IsOnlyCertificate block t = (o : Certificate) → HasText c q o → certificate_text c q o ≡ block → o ≡ t

  -- the block is the text of a certificate, and of no other one
  pub record IsBlockRead (block : List ℕ) (t : Certificate) : Type 0 where
    pub has : HasText c q t
    pub is : certificate_text c q t ≡ block
    pub only : IsOnlyCertificate block t
