use Rattle.std.proofs.Common.{◌≡◌, ◌+◌, ◌++◌, map, length, drop, string_bytes}
use Rattle.std.specs.Slice.Iter.{iter_rest}
use Rattle.runs.specs.Account.{said}
use Rattle.sessions.specs.Noted.{calls_among, told_lines}
use Rattle.sessions.proofs.told.Given as goal

-- what is left gives the whole text, and has as many outcomes as it needs
abbrev pub invariant-loop-at : goal.invariant-loop-at
invariant-loop-at g l = record {
  whole :
      string_bytes l.text ++ told_lines g.L.Label.kind (l.at + 5) (drop l.at l.replies) (map said (iter_rest l.outcomes))
      ≡ told_lines g.L.Label.kind 5 l.replies (map said l.log);
  left : calls_among (drop l.at l.replies) ≡ length (iter_rest l.outcomes);
}
