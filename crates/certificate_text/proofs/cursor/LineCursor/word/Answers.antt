use Rattle.std.proofs.Common.{◌∙◌, ◌-◌, ap, drop, length, sym, take}
use Rattle.certificate_text.specs.work.Words.{word_end}
use Rattle.certificate_text.proofs.WordLemmas.{behind, parted, word-end, word-left}
use Rattle.certificate_text.proofs.cursor.LineCursor.word.Goals as goal

pub returns : goal.returns
returns c =
    let left = c.self.inside.left.now in
    let n = c.word_length-end.result in
    let r = word-left left n c.word_length-end.ensures.word in
    record {
      split = sym c.self.view_is ∙ r.0;
      word = r.1;
      stops = r.2;
      only = λ w rest e h s.
          let same = c.self.view_is ∙ e in
          parted left w rest n same (c.word_length-end.ensures.word ∙ (ap word_end same ∙ word-end w rest h s));
      shorter = behind c.args.self.now (take n left) (take (length left - n) (drop n left)) (sym c.self.view_is ∙ r.0);
    }
