use Rattle.std.proofs.Common.{◌+◌, drop, sym, arith}
use Rattle.std.proofs.lemmas.List.{take_more, take-append-drop}
use Rattle.output.proofs.Putting.{puts_then, puts_cut, puts_left}
use Rattle.output.proofs.Output+u8.put_bytes.Goals as goal

pub returns-in_err-put : goal.returns-in_err-put
returns-in_err-put c =
    let bytes = c.args.bytes.now in
    let i = c.loop-byte.byte-index in
    puts_left c.from_residual.ensures.1
    (puts_cut (drop (i + 1) bytes) (sym (take-append-drop (i + 1) bytes))
    (puts_then (take_more bytes i 0 (omega arith)) c.loop-byte.invariant c.in_err-put.ensures))
