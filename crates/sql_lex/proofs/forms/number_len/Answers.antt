use Rattle.std.proofs.Common.{◌<◌, length, arith, sym}
use Rattle.std.specs.Char.{is_ascii_digit}
use Rattle.std.specs.List.{prefix_len}
use Rattle.std.proofs.lemmas.List.Sums.{prefix_len-le-length}
use Rattle.sql_lex.specs.Letters.{begins_word}
use Rattle.sql_lex.proofs.FormLaws.{number_cut, no_number, next_not, end_not}
use Rattle.sql_lex.proofs.forms.number_len.Goals as goal

pub returns-then-len-bytes : goal.returns-then-len-bytes
returns-then-len-bytes c =
    rw c.digits_len-len.ensures (number_cut c.args.bytes.now c.requires.some c.requires.digit (end_not begins_word c.args.bytes.now (prefix_len is_ascii_digit c.args.bytes.now) (omega (arith, c.digits_len-len.ensures))))

pub bounds-bytes-len : goal.bounds-bytes-len
bounds-bytes-len c = omega (arith, c.digits_len-len.ensures, prefix_len-le-length is_ascii_digit c.args.bytes.now)

pub returns-then-begins_word : goal.returns-then-begins_word
returns-then-begins_word c =
    no_number c.args.bytes.now c.requires.some c.requires.digit (omega (arith, c.digits_len-len.ensures, prefix_len-le-length is_ascii_digit c.args.bytes.now)) (rw c.digits_len-len.ensures at (sym c.if-begins_word.ensures))

pub returns : goal.returns
returns c =
    let more : prefix_len is_ascii_digit c.args.bytes.now < length c.args.bytes.now = omega (arith, c.digits_len-len.ensures, prefix_len-le-length is_ascii_digit c.args.bytes.now) in
    rw c.digits_len-len.ensures (number_cut c.args.bytes.now c.requires.some c.requires.digit (next_not begins_word c.args.bytes.now (prefix_len is_ascii_digit c.args.bytes.now) more (rw c.digits_len-len.ensures at (sym c.if-begins_word.ensures))))
