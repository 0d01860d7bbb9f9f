-- `linkpairs::levels_of` meets its contract: the levels of the entries found.
use Rattle.linkpairs.proofs.Sections.{levels-counted}
use Rattle.linkpairs.proofs.levels_of.Goals as goal

pub returns : goal.returns
returns c = record { few = c.section_levels.ensures.few; counts = λ prog names s u x k. levels-counted (c.entries_of-at.ensures.are prog names s u x k) c.section_levels.ensures }
