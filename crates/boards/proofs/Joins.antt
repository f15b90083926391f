-- When either of two labels is none. Assumes nothing.
use Rattle.std.proofs.Common.{◌≡◌, ◌||◌, sym, ap, ◌∙◌}
use Rattle.std.proofs.lemmas.Bool.{or_parts}
use Rattle.labels.specs.Kind.{Kind, Lawful}

module _ {L : Type 0} (k : Kind L) (laws : Lawful k) where
  pub either_none : (t : L) → k.number (k.either k.none t) ≡ k.number t
  either_none t =
      laws.same_number (k.either k.none t) t (λ v w. laws.either_holds k.none t v w ∙ ap (λ b. b || k.holds t v) (laws.none_holds v w))

  pub none_from_either : (a t : L) → k.number (k.either a t) ≡ 0 → k.number a ≡ 0
  none_from_either a t none =
      laws.same_number a k.none (λ v w.
      let both_none = laws.same_views (k.either a t) k.none (none ∙ sym laws.none_number) v w ∙ laws.none_holds v w in
      (or_parts (k.holds a v) (k.holds t v) (sym (laws.either_holds a t v w) ∙ both_none)).0 ∙ sym (laws.none_holds v w))
      ∙ laws.none_number
