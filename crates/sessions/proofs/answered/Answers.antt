use Rattle.std.proofs.Common.{length, sym, ap, ◌∙◌}
use lib.ListN.{length-map}
use Rattle.std.proofs.lemmas.Result.{IfOk-weaker}
use Rattle.runs.specs.Account.{said}
use Rattle.sessions.specs.Noted.{calls_among}
use Rattle.sessions.proofs.Answering.{answers_counted, calls_counted, answers_from}
use Rattle.sessions.proofs.answered.Goals as goal

pub told-requires : goal.told-requires
told-requires g c =
    ap calls_among c.deref-2.ensures.value
    ∙ calls_counted g.L.Label.kind c.in_ok-requests.ensures
    ∙ answers_counted g.L.Label.kind c.deref.ensures.value c.in_ok-log.ensures.law
    ∙ length-map _ said
    ∙ ap length (sym c.deref-3.ensures.value)

pub returns : goal.returns
returns g c =
    IfOk-weaker c.told.result _ _
    (λ s.
    answers_from g.L.Label.kind c.in_ok-requests.ensures c.deref.ensures.value c.in_ok-log.ensures.law c.deref-2.ensures.value c.deref-3.ensures.value)
    c.told.ensures
