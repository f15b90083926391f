use Rattle.std.proofs.Common.{rules}
use Rattle.runs.specs.declared.Request.TheVariants as request
use Rattle.scripts.specs.Reading.{settle_call, label_call}
use Rattle.scripts.proofs.Calls.{first_sort, next_sort, all_sorts}
use Rattle.scripts.proofs.request_of.Goals as goal

pub returns : goal.returns
returns c =
    let line = c.args.line.now in
    all_sorts line c.or_else-6.result
    (next_sort line _ label_call c.or_else-5.result c.or_else-6.result (λ p. search rules) c.or_else-6.ensures
    (next_sort line _ settle_call c.or_else-4.result c.or_else-5.result (λ p. search rules) c.or_else-5.ensures
    (next_sort line _ request.List c.or_else-3.result c.or_else-4.result (λ p. search rules) c.or_else-4.ensures
    (next_sort line _ request.Write c.or_else-2.result c.or_else-3.result (λ p. search rules) c.or_else-3.ensures
    (next_sort line _ request.Withdraw c.or_else.result c.or_else-2.result (λ p. search rules) c.or_else-2.ensures
    (next_sort line _ request.Enter c.size_line.result c.or_else.result (λ p. search rules) c.or_else.ensures
    (first_sort line request.Size c.size_line.result c.size_line.ensures)))))))
