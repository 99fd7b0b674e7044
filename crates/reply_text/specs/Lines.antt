-- The error line of a fault. The codes are SQLSTATE codes (PostgreSQL manual, appendix Error Codes); the texts are own.
use Rattle.std.specs.Prelude.{ℕ, ◌-◌, List, [], ◌++◌, codes, map, take, drop, ◌==◌, if◌then◌else◌}
use Rattle.std.specs.Fmt.{decimal}
use Rattle.std.specs.Char.{to_ascii_lowercase}
use Rattle.pg_base.specs.declared.faults.Code.{Code}
use Rattle.pg_base.specs.declared.faults.Code.TheVariants.{S1, S2, S3, S4, S5, S6, S7, S8, S9, S10, S11, S12, S13, S14, S15, S16, S17, S18}
use Rattle.pg_base.specs.declared.faults.Limit.{Limit}
use Rattle.pg_base.specs.declared.faults.Limit.TheVariants.{Tables, Columns, Rows, Text, Name, Indexes, Relations, Conjuncts, Atoms, Depth, Candidates, Queries}
use Rattle.pg_base.specs.declared.faults.Fault.{Fault}
use Rattle.catalog.specs.Contents.{Contents, name_at}
use Rattle.reply_text.specs.declared.tells.Place.{Place}
use Rattle.reply_text.specs.declared.tells.Place.TheVariants.{Nowhere, Record, Field}
use Rattle.reply_text.specs.declared.tells.Naming.{Naming}
use Rattle.reply_text.specs.declared.tells.Naming.TheVariants.{Nothing, Small}
use Rattle.reply_text.specs.Tells.{naming_of, data_place_of, column_at_fault}

-- the SQLSTATE code
abbrev pub code_text : Code → List ℕ
code_text S1 = codes "42601"
code_text S2 = codes "42P01"
code_text S3 = codes "42703"
code_text S4 = codes "42702"
code_text S5 = codes "42P07"
code_text S6 = codes "42701"
code_text S7 = codes "42712"
code_text S8 = codes "42704"
code_text S9 = codes "42883"
code_text S10 = codes "42804"
code_text S11 = codes "22003"
code_text S12 = codes "22P02"
code_text S13 = codes "22P04"
code_text S14 = codes "23502"
code_text (S15 _) = codes "54000"
code_text S16 = codes "54001"
code_text S17 = codes "22023"
code_text S18 = codes "42803"

-- the text of a limit
abbrev pub limit_text : Limit → List ℕ
limit_text Tables = codes "limit tables"
limit_text Columns = codes "limit columns"
limit_text Rows = codes "limit rows"
limit_text Text = codes "limit text"
limit_text Name = codes "limit name"
limit_text Indexes = codes "limit indexes"
limit_text Relations = codes "limit relations"
limit_text Conjuncts = codes "limit conjuncts"
limit_text Atoms = codes "limit atoms"
limit_text Depth = codes "limit depth"
limit_text Candidates = codes "limit candidates"
limit_text Queries = codes "limit queries"

-- the text of a fault before what it names: by its kind and the number of its record, 0 where no record is in error
abbrev pub phrase : Code → ℕ → List ℕ
phrase S1 rec = codes "syntax error"
phrase S2 rec = codes "no table "
phrase S3 rec = codes "no column "
phrase S4 rec = codes "ambiguous column "
phrase S5 rec = codes "duplicate name "
phrase S6 rec = codes "duplicate column "
phrase S7 rec = codes "duplicate alias "
phrase S8 rec = codes "unknown "
phrase S9 rec = codes "no operator "
phrase S10 rec = codes "wrong type"
phrase S11 rec = codes "out of range"
phrase S12 rec = codes "invalid input"
phrase S13 rec = if rec == 0 then codes "no end of copy data" else codes "field count"
phrase S14 rec = codes "null"
phrase (S15 limit) rec = limit_text limit
phrase S16 rec = codes "no admissible plan"
phrase S17 rec = codes "invalid parameter"
phrase S18 rec = codes "ungrouped column "

-- the word in error as the text names it
abbrev pub naming_text : Naming → List ℕ → List ℕ
naming_text Nothing word = []
naming_text Small word = map to_ascii_lowercase word

-- the words of the script that are in error
abbrev pub word_at : List ℕ → Fault → List ℕ
word_at script f = take (f.to - f.from) (drop f.from script)

-- the record and the column of COPY data
abbrev pub place_text : Place → Contents → Fault → List ℕ
place_text Nowhere c f = []
place_text Record c f = codes ", record " ++ decimal f.rec
place_text Field c f = codes ", record " ++ (decimal f.rec ++ (codes " column " ++ name_at c f.table (column_at_fault f)))

-- where the fault is: nothing is said where no record is in error
abbrev pub suffix : Contents → Fault → List ℕ
suffix c f = if f.rec == 0 then [] else place_text (data_place_of f.code) c f

-- what the text of a fault names behind its first words
abbrev pub named_word : List ℕ → Fault → List ℕ
named_word script f = naming_text (naming_of f.code) (word_at script f)

-- the text of a fault
abbrev pub fault_text : Contents → List ℕ → Fault → List ℕ
fault_text c script f = phrase f.code f.rec ++ (named_word script f ++ suffix c f)

-- the line of a fault, up to its LF
abbrev pub fault_line : Contents → List ℕ → Fault → List ℕ
fault_line c script f = codes "ERROR " ++ (code_text f.code ++ (codes " at " ++ (decimal f.at ++ (codes ": " ++ (fault_text c script f ++ codes "\n")))))
