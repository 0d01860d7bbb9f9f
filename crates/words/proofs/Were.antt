-- Words as they were: a percent sign cut a string, so that the quote before it made no word; all else was as now.
use mathlib.Core.Bool.{not, ◌&&◌}
use lib.Dec.{T}
use Rattle.base.specs.Common.{bytes}
use Rattle.words.specs.Before
use Rattle.words.specs.Before.{words_before, well_spelt}
use Rattle.words.specs.Words
use Rattle.words.specs.Words.{words}

pub percent-cut : T (not (well_spelt (words_before (bytes "a 'b%c' d"))) && well_spelt (words (bytes "a 'b%c' d")) && well_spelt (words_before (bytes "a 'bc' d % 'e")))
unfolding Words.opened Before.opened
percent-cut = tt
