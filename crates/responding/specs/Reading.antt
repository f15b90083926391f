-- What reading a stream into memory takes of its bytes, where those are known. Assumes nothing.
use Rattle.std.specs.Prelude.{ℕ, ◌<◌, ◌≤◌, List, length, Option}
use Rattle.std.specs.Io.KnownBytes.{Consumes, IsAtEnd}

-- these bytes are the next of the stream: all that it has, or as many as there is room for
pub record Takes (old : Option (List ℕ)) (bytes : List ℕ) (room : ℕ) (new : Option (List ℕ)) : Type 0 where
  pub next : Consumes old new bytes
  pub within : length bytes ≤ room
  pub all : length bytes < room → IsAtEnd new
