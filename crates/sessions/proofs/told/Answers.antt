use Rattle.std.proofs.Common.{◌≡◌, ◌+◌, suc, [], ◌∷◌, ◌++◌, map, drop, Ok, Err, string_bytes, ap, ◌∙◌, arith, rules}
use Rattle.std.proofs.lemmas.List.{drop_more}
use Rattle.std.specs.Slice.Iter.{iter_rest}
use Rattle.runs.specs.Account.{said}
use Rattle.scripts.specs.Lines.{answer_line}
use Rattle.sessions.specs.Noted.{unmade_line}
use Rattle.sessions.proofs.Telling.{call_told, no_call_told}
use Rattle.sessions.proofs.told.Goals as goal
use Rattle.sessions.proofs.told.Goals.{in-Ok+in_ok-line-in-Ok, in-Err+in_ok-line-in-Err}

pub loop-at-preserved : goal.loop-at-preserved
loop-at-preserved g c =
    let l = c.loop-at in
    let k = g.L.Label.kind in
    let replies = c.args.replies.now in
    let next : l.at + 1 + 5 ≡ suc (l.at + 5) = omega arith in
    let added : string_bytes c.push.new.self ≡ (string_bytes l.text ++ string_bytes c.match-reply.line) ++ (10 ∷ []) = search rules in
    elim c.match-reply.branch [
      | in-Ok+in_ok-line-in-Ok w ↦
          let rs : drop l.at replies ≡ Ok tt ∷ drop (l.at + 1) replies = drop_more replies l.at (Ok tt) c.loop-at-test.true ∙ ap (λ z. z ∷ drop (l.at + 1) replies) w.in-Ok.is in
          let os : map said (iter_rest l.outcomes) ≡ said w.unwrap.result.now ∷ map said (iter_rest c.match-reply.outcomes) = search rules in
          let line : string_bytes c.match-reply.line ≡ answer_line k (said w.unwrap.result.now) = search rules in
          record {
            whole = call_told k (l.at + 5) (l.at + 1 + 5) next _ _ _ _ added _ _ _ _ _ rs os line l.invariant.whole;
            left = search rules;
          }
      | in-Err+in_ok-line-in-Err w ↦
          let rs : drop l.at replies ≡ Err w.in-Err.why ∷ drop (l.at + 1) replies = drop_more replies l.at (Ok tt) c.loop-at-test.true ∙ ap (λ z. z ∷ drop (l.at + 1) replies) w.in-Err.is in
          let line : string_bytes c.match-reply.line ≡ unmade_line (l.at + 5) w.in-Err.why = search rules in
          record {
            whole = no_call_told k (l.at + 5) (l.at + 1 + 5) next _ _ _ _ added _ _ _ _ _ rs (ap (λ z. map said (iter_rest z)) w.outcomes-is) line l.invariant.whole;
            left = search rules;
          }
    ]
