-- Lines as they are printed.
use mathlib.Core.Path.{◌≡◌, refl}
use mathlib.Core.List.{◌++◌}
use Rattle.words.specs.Names.{bytes_of}
use Rattle.decimal.specs.Decimal.{digit, digits_within, decimal}
use Rattle.report.specs.Lines.{newline, numbered}
use Rattle.text_errors.specs.ErrorLine.{table, words_in, words, error_line}

pub record Cases : Type 0 where
  pub walk : error_line 2 21 ≡ bytes_of "line 2: a walk over 1519 (21)" ++ newline
  pub too_long : error_line 0 77 ≡ bytes_of "line 0: the text is longer than 65,536 bytes (77)" ++ newline
  pub unlisted : error_line 10 255 ≡ bytes_of "line 10: another refusal (255)" ++ newline

pub cases : Cases
unfolding error_line words words_in table bytes_of numbered decimal digits_within digit
cases = record { walk = refl; too_long = refl; unlisted = refl }
