use Rattle.std.proofs.Common.{◌≡◌, [], ◌∷◌, ◌∙◌, drop, ap}
use Rattle.std.proofs.lemmas.Slice.Eq.{strip_prefix_is}
use Rattle.std.proofs.lemmas.Bool.Decides.{Decides-eqb}
use Rattle.lines.specs.Texts.{SetOff}
use Rattle.lines.proofs.Cuts.{back, line_cut, rest_cut, whole_cut, past_feed}
use Rattle.lines.proofs.split_line.Goals as goal

pub returns : goal.returns
returns c =
    let text = c.args.text.now in let end = c.find.result in let rest = c.split_at.result.1 in
    let set_off : SetOff 10 rest.now = rw c.split_at.ensures.back (back 10 text end c.find.ensures) in
    let past : c.unwrap_or.result.now ≡ drop 1 (drop end text) =
    ap (λ x. x.now) c.unwrap_or.ensures
    ∙ past_feed rest c.strip_prefix.result set_off (strip_prefix_is Decides-eqb rest.now (10 ∷ []) c.strip_prefix.result c.strip_prefix.ensures.cases)
    ∙ ap (λ z. drop 1 z) c.split_at.ensures.back in
    rw (past, c.split_at.ensures.front)
    (record { line = line_cut text end c.find.ensures; rest = rest_cut text end c.find.ensures; whole = whole_cut text end c.find.ensures })
