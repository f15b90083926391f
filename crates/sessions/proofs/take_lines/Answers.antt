use Rattle.std.proofs.Common.{vec_items, refl}
use Rattle.sessions.proofs.Noting.{call_more, no_call_more, completes_all}
use Rattle.sessions.proofs.take_lines.Goals as goal

pub loop-line-preserved-in-Continue-branch-2 : goal.loop-line-preserved-in-Continue-branch-2
loop-line-preserved-in-Continue-branch-2 g c =
    let l = c.loop-line in
    let step = c.in-Some.ensures.steps in
    call_more g.L.Label.kind c.args.lines.now l.line-iterator.rest.now c.in-Some.line.now c.next.new.self.rest.now (vec_items l.replies)
    (vec_items c.push-in-Ok.new.self) (vec_items l.requests) (vec_items c.push.new.self) c.in-Ok.request step.0 step.1 c.in-Ok.ensures
    c.in_ok-push-in-Ok-2.ensures.items c.in_ok-push-in-Ok.ensures.items l.invariant

pub loop-line-preserved : goal.loop-line-preserved
loop-line-preserved g c =
    let l = c.loop-line in
    let step = c.in-Some.ensures.steps in
    no_call_more g.L.Label.kind c.args.lines.now l.line-iterator.rest.now c.in-Some.line.now c.next.new.self.rest.now (vec_items l.replies)
    (vec_items c.push-in-Err.new.self) (vec_items l.requests) (vec_items l.requests) c.in-Err.why step.0 step.1 c.in-Err.ensures
    c.in_ok-push-in-Err.ensures.items refl l.invariant

pub returns : goal.returns
returns g c =
    let l = c.loop-line in
    completes_all g.L.Label.kind c.args.lines.now l.line-iterator.rest.now (vec_items l.replies) (vec_items l.requests) c.in-None.ensures.steps l.invariant
