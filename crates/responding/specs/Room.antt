-- The memory that a program sets aside for labels of a type. Assumes nothing.
use Rattle.std.specs.Prelude.{◌^◌, ◌*◌, ◌<◌}
use prog.Memory.{size}
use denote.RattleType.{RattleType}
use denote.Param.{layout}
use Rattle.terms.specs.contracts.Sentence as sentence
use Rattle.boards.specs.contracts.sparse.Entry as entry

-- 512 cells and 2048 entries with labels of the type take fewer than 2 ^ 63 bytes each
pub record ArraysFit (R : RattleType) : Type 0 where
  pub cells : 512 * size (layout (sentence.the_row R)) < 2 ^ 63
  pub entries : 2048 * size (layout (entry.the_row R)) < 2 ^ 63
