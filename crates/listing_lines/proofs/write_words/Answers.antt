-- `listing_lines::write_words` meets its contract: a word and a number, with a space between them. Assumes nothing.
use mathlib.Core.Path.{refl}
use Rattle.listing_lines.proofs.LineLaws.{column, words_written}
use Rattle.output.specs.Decimal.{decimal_of}
use Rattle.listing_lines.proofs.write_words.Goals as goal

pub returns : goal.returns
returns c =
    let a = c.args in
    let p : _ × _ = column 0 16 32 a.word.now a.word.now a.out.now refl c.requires.0 c.write_text-a.ensures.value c.write_text-a.ensures.out_after in
    let w : _ × (_ × _) = words_written a.word.now (decimal_of a.n) a.out.now p (c.write_number.ensures.value, c.write_number.ensures.out_after) in
    record { value = w.0; upper_bound = w.1.0; out_after = w.1.1 }
