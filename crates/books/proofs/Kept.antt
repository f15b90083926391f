-- A book that can be still can, with one sentence more and with one less. Assumes nothing.
use Rattle.std.proofs.Common.{◌≡◌, ℕ, suc, ◌<◌, true, List, [], ◌∷◌, ◌++◌, length, take, drop, refl, arith, length-append}
use Rattle.std.specs.List.{remove}
use Rattle.std.proofs.lemmas.List.Edits.{length-remove}
use Rattle.std.proofs.lemmas.Bool.{and_from}
use Rattle.terms.specs.declared.Sizes.{Sizes}
use Rattle.terms.specs.declared.Sentence.{Sentence}
use Rattle.terms.specs.Sentences.{well_formed, holdable}
use Rattle.terms.proofs.Holding.{each_append, each_take, each_drop, holdable_parts, holdable_from}

module _ {L : Type 0} (cells : ℕ) (z : Sizes) (ss : List (Sentence L)) (can_be : holdable cells z ss ≡ true) where
  pub one_more : (s : Sentence L) → well_formed z s ≡ true → length ss < cells → holdable cells z (ss ++ (s ∷ [])) ≡ true
  one_more s formed lt =
      let p = holdable_parts cells z ss can_be in
      holdable_from cells z (ss ++ (s ∷ []))
      (record {
        limits = p.limits;
        formed = each_append (well_formed z) ss (s ∷ []) p.formed (and_from (well_formed z s) true formed refl);
        few = omega (arith, length-append ss (s ∷ []));
      })

  pub one_less : (i : ℕ) → i < length ss → holdable cells z (remove ss i) ≡ true
  one_less i lt =
      let p = holdable_parts cells z ss can_be in
      let few = p.few in
      holdable_from cells z (remove ss i)
      (record {
        limits = p.limits;
        formed = each_append (well_formed z) (take i ss) (drop (suc i) ss) (each_take (well_formed z) i ss p.formed) (each_drop (well_formed z) (suc i) ss p.formed);
        few = omega (arith, few, length-remove ss i lt);
      })
