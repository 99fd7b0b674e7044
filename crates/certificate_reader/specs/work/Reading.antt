-- Working words beside those of `Reading`.
use Rattle.std.specs.Prelude.{◌≡◌, ◌+◌, ℕ, suc, true, cond, ◌==◌, List, [], ◌∷◌, ◌++◌, length, map, All, Option, Some, None, Result, Ok, Err, Vec}
use Rattle.std.specs.declared.alloc.Global.{Global}
use Rattle.catalog.specs.Contents.{Contents}
use Rattle.sql_query.specs.Queries.{Query}
use Rattle.sql_query.specs.declared.window.Window.{Window}
use Rattle.plan_check.specs.Certificates.{Certificate, Entry, Side}
use Rattle.plan_check.specs.work.Views.{certificate, entry}
use Rattle.plan_check.specs.declared.entry.Entry.{Entry as Entered}
use Rattle.plan_check.specs.declared.certificate.Certificate.{Certificate as Certified}
use Rattle.certificate_entries.specs.certificate_text_HasText.{HasEntryLine, HasText}
use Rattle.certificate_entries.specs.certificate_text_Texts.{certificate_text, ended, entry_line, head_text, is_line}
use Rattle.certificate_entries.specs.work.Reading.{IsBestRead}
use Rattle.certificate_reader.specs.Faults.{IsFaultLine, IsCertificateText, lines_joined}
use Rattle.certificate_reader.specs.work.Passed.{Passed}
use Rattle.certificate_reader.specs.declared.block.CertFault.{CertFault}
use Rattle.certificate_reader.specs.declared.block.CertFault.TheVariants as faults
use Rattle.certificate_reader.specs.Reading.{IsBlockRead}

-- how long the first line of a text is, without LF
abbrev pub line_end : List ℕ → ℕ
line_end [] = 0
line_end (b ∷ bs) = cond (b == 10) 0 (suc (line_end bs))

-- how many lines a certificate text has before those of its entries
abbrev pub head_lines : Option Window → ℕ
head_lines None = 0
head_lines (Some w) = 1

-- a text begins with a line, ended by LF, and this follows
abbrev pub IsFirstLine : List ℕ → List ℕ → List ℕ → Type 0
IsFirstLine text line rest = (text ≡ ended line ++ rest) × (is_line line ≡ true)

-- a block does not begin with the first line of a certificate
abbrev pub LacksHead : Option Window → List ℕ → Type 0
LacksHead window block = (rest : List ℕ) → ¬ (block ≡ head_text window ++ rest)

-- entries get one more at their end
abbrev pub GetsEntry : Vec Entered Global → Vec Entered Global → Entered → Type 0
GetsEntry old new made = map entry new.items ≡ map entry old.items ++ entry made ∷ []

module _ (c : Contents) (q : Query) where
  -- the block is the text of a certificate
  abbrev pub IsCertificateOf : List ℕ → Certificate → Type 0
  IsCertificateOf block t = HasText c q t × (certificate_text c q t ≡ block)

  -- each of some entries is the only one with its line; the first has the number n
  abbrev pub AreOnly : ℕ → List Entry → Type 0
  AreOnly n [] = Unit {0}
  AreOnly n (e ∷ es) = ((o : Entry) → HasEntryLine c q o → entry_line c q n e ≡ entry_line c q n o → o ≡ e) × AreOnly (n + 1) es

  -- some lines of a block were read as entries, and the rest is left
  pub record IsReadSoFar (block : List ℕ) (es : List Entry) (left : List ℕ) : Type 0 where
    pub before : List (List ℕ)
    pub lines : All (λ l. is_line l ≡ true) before
    pub split : block ≡ lines_joined before ++ left
    pub count : length before ≡ head_lines q.window + length es
    pub passed : Passed c q es (lines_joined before)
    pub only : AreOnly 1 es

  -- behind the lines of some entries stands that of a best plan, and then the rest
  pub record IsAtBest (block : List ℕ) (es : List Entry) (s : Side) (rest : List ℕ) : Type 0 where
    pub left : List ℕ
    pub so_far : IsReadSoFar block es left
    pub line : List ℕ
    pub split : left ≡ ended line ++ rest
    pub whole : is_line line ≡ true
    pub read : IsBestRead line s

  -- a block is no text, and that is its wrong line; running out of memory says nothing
  abbrev pub IsFault : List ℕ → CertFault → Type 0
  IsFault block (faults.C1 line) = IsFaultLine c q block line × ¬ IsCertificateText c q block
  IsFault block faults.Memory = Unit {0}

  -- what reading a block comes to: the only certificate of this text, or the wrong line
  abbrev pub IsBlock : List ℕ → Result Certified CertFault → Type 0
  IsBlock block (Ok t) = IsBlockRead c q block (certificate t)
  IsBlock block (Err fault) = IsFault block fault
