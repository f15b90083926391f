use Rattle.std.proofs.Common.{◌≡◌, is_ok, length, refl, ap, subst, arith, rules}
use Rattle.output.proofs.Putting.{puts_fill}
use Rattle.output.specs.Puts.{Puts}
use Rattle.responding.specs.Answers.{refusal_line}
use Rattle.responding.proofs.Refusing.{put_whole, line_written}
use Rattle.responding.proofs.put_refusal.Goals as goal

pub unwrap-requires : goal.unwrap-requires
unwrap-requires c =
    let begun = c.new-output.ensures in
    let room : length c.new-output.result.memory.now ≡ 16384 = search rules in
    ap is_ok (put_whole c.args.misread (search rules) c.new-output.result c.put_misread.new.output c.put_misread.result c.put_misread.ensures (omega (arith, begun.nothing_yet, room)))

pub returns : goal.returns
returns c =
    let begun = c.new-output.ensures in
    line_written c.args.misread c.args.out.now c.put_misread.new.output.memory.now c.count.result
    (puts_fill begun.as_it_was begun.nothing_yet refl c.count.ensures
    (subst (λ r. Puts c.new-output.result (refusal_line c.args.misread) r c.put_misread.new.output) c.unwrap.ensures c.put_misread.ensures))
