use Rattle.std.proofs.Common.{rules}
use Rattle.std.proofs.lemmas.Result.{on_ok_weaker}
use Rattle.responding.proofs.print_answer.Goals as goal

pub returns : goal.returns
returns g c =
    on_ok_weaker c.write_all.result
    (λ w. record {
      old = _;
      n = c.in_ok-count.count;
      new = c.answer.new.out;
      room = search rules;
      prints = c.in_ok-count.ensures.printed;
      written = w;
    }) c.write_all.ensures.bytes
