use borrow.Author.Rules.{rules}
use Rattle.translator.proofs.Measured.{shaped, measured}
use Rattle.translator.proofs.measure.Goals as goal

-- src/lib.rt:97:5
pub figure-requires : goal.figure-requires
figure-requires c = (shaped c.requires.tabled, search rules, search rules)

-- src/lib.rt:92:1
pub returns : goal.returns
returns c = measured c.figure.ensures
