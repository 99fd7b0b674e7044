-- Working words beside those of `Lines`.
use Rattle.std.specs.Prelude.{ℕ, List, ◌++◌, codes}
use Rattle.std.specs.Fmt.{decimal}
use Rattle.pg_base.specs.declared.faults.Fault.{Fault}
use Rattle.reply_text.specs.Lines.{code_text, phrase}

-- the line of a fault as far as the first words of its text
abbrev pub line_head : Fault → List ℕ
line_head f = codes "ERROR " ++ (code_text f.code ++ (codes " at " ++ (decimal f.at ++ (codes ": " ++ phrase f.code f.rec))))
