-- Where the data of a COPY begin (own).
use Rattle.std.specs.Prelude.{◌≡◌, ◌≢◌, ℕ, ◌+◌, Bool, List, length, drop, slice_get, Some, Result, Ok, Err, ◌||◌, nat_eq}
use Rattle.std.specs.List.{take_while}
use Rattle.pg_base.specs.declared.faults.Fault.{Fault}
use Rattle.pg_base.specs.Faults.{syntax_fault}

-- a space, a tab or CR
abbrev pub is_blank : ℕ → Bool
is_blank b = nat_eq b 32 || nat_eq b 9 || nat_eq b 13

-- the first byte from an offset on that is no blank, or the text's end
abbrev pub after_blanks : List ℕ → ℕ → ℕ
after_blanks text from = from + length (take_while is_blank (drop from text))

-- after the blanks stands LF, and the data begin behind it; or there is a syntax fault where LF is wanted
abbrev pub IsDataStart : List ℕ → ℕ → Result ℕ Fault → Type 0
IsDataStart text from (Ok start) = let at = after_blanks text from in (slice_get text at ≡ Some 10) × (start ≡ at + 1)
IsDataStart text from (Err fault) = let at = after_blanks text from in (slice_get text at ≢ Some 10) × (fault ≡ syntax_fault at)
