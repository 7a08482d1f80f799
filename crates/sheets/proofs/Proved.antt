-- The statement of the table: what every sheet says comes true.
use lib.Dec.{T}
use Rattle.spec.specs.Words.{◌∈◌}
use Rattle.spec.specs.Refresh.{admitted}
use Rattle.spec.specs.Numbers.{number_at}
use Rattle.spec.specs.BookLayout.{book_bytes, contents_end, entries}
use Rattle.spec.specs.Contents.{count}
use Rattle.spec.specs.Refusals.{longest}
use Rattle.spec.proofs.Lists.Tests.{every, every-sound}
use Rattle.spec.proofs.Examples.Values as values
use Rattle.sheets.specs.Sheet.{Sheet, ComesTrue}
use Rattle.sheets.specs.Books.{book_a, book_a_second, path, star, pair, apart, eight, nine, no_summaries}
use Rattle.sheets.specs.SourceBooks.{example41, carLocPart, without_v4, without_v2_v4}
use Rattle.sheets.specs.WrongBooks.{wrong_a, wrong_b, wrong_c, wrong_d}
use Rattle.sheets.specs.Sheets.{sheets}
use Rattle.sheets.proofs.Tried.{tried, tried-sound}

all-tried : T (every tried sheets)
unfolding sheets book_a book_a_second path star pair apart eight nine no_summaries example41 carLocPart without_v4 without_v2_v4 wrong_a wrong_b wrong_c wrong_d values.sheets admitted book_bytes contents_end entries count number_at longest
all-tried = tt

pub proved : (s : Sheet) → s ∈ sheets → ComesTrue s
proved s m = tried-sound s (every-sound tried sheets all-tried s m)
