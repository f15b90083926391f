use Rattle.std.proofs.Common.{string_bytes}
use Rattle.scripts.proofs.Bytes.{written_is}
use Rattle.scripts.proofs.written.Goals as goal

pub returns : goal.returns
returns c =
    written_is (string_bytes c.push_bytes.new.text) (string_bytes c.in_ok-text.text) c.args.memory.now c.args.count c.min.result
    c.in_ok-push_bytes.ensures c.in_ok-text.ensures.ok c.min.ensures
