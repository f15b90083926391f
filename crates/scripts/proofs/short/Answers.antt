use Rattle.std.proofs.Common.{◌≡◌, [], ◌∷◌, ◌++◌, string_bytes, sym, ap, ◌∙◌, arith, rules}
use lib.Utf8.{encode}
use Rattle.std.proofs.lemmas.Str.{encode_ascii}
use denote.Enum.Bare.{same_true, same_false}
use Rattle.terms.specs.contracts.Refusal.{the_type}
use Rattle.terms.specs.declared.Refusal.TheVariants.{MemoryTooShort}
use Rattle.terms.specs.Refusals.{number_of, refused_line}
use Rattle.scripts.proofs.Bytes.{short_is, other_is, nine_is}
use Rattle.scripts.proofs.short.Goals.{then-eq+in_ok-push+in_ok-push_bytes, else-eq}
use Rattle.scripts.proofs.short.Goals as goal

pub returns : goal.returns
returns c =
    let text = string_bytes c.in_ok-text.text in
    let line = refused_line c.args.refusal in
    let number = number_of c.args.refusal in
    let feed : encode 10 ≡ 10 ∷ [] = encode_ascii 10 (omega arith) in
    elim c.if-eq.branch [
      | then-eq+in_ok-push+in_ok-push_bytes w ↦
          short_is (string_bytes c.if-eq.text) (string_bytes w.push.new.self) text line c.args.memory.now number
          (ap string_bytes w.text-is ∙ w.in_ok-push_bytes.ensures) (w.in_ok-push.ensures.bytes ∙ ap (λ b. text ++ b) feed) c.in_ok-text.ensures.ok
          (ap number_of (same_true the_type (search rules) c.args.refusal MemoryTooShort (sym c.eq.ensures ∙ w.if-eq.true)))
      | else-eq w ↦
          other_is (string_bytes c.if-eq.text) text line c.args.memory.now number (ap string_bytes w.text-is) c.in_ok-text.ensures.ok
          (λ e. same_false the_type c.args.refusal MemoryTooShort (sym c.eq.ensures ∙ w.if-eq.false) (nine_is c.args.refusal e))
    ]
