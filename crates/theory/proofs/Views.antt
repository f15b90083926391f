-- A settled label holds a view just when every world of that view says so. Assumes nothing.
use Rattle.std.proofs.Common.{◌≡◌, ℕ, ◌<◌, true, ◌&&◌, ◌↔◌, List}
use Rattle.labels.specs.Kind.{Kind, Lawful}
use Rattle.terms.specs.declared.Sizes.{Sizes}
use Rattle.terms.specs.declared.Sentence.{Sentence}
use Rattle.terms.specs.Places.{nodes, Fact, member, in_range}
use Rattle.terms.proofs.Placing.{within_range}
use Rattle.terms.specs.Sentences.{holdable}
use Rattle.theory.specs.Rules.{in_view, Exact, Least}
use Rattle.theory.specs.Description.{name, done}
use Rattle.theory.specs.Entailed.{EveryWorldSaysYes, Canonical, LabelsHoldWhatEveryWorldSays}
use Rattle.theory.proofs.Names.{SoundBook, sound_book}
use Rattle.theory.proofs.Labels.{view_sound, exact_shows}
use Rattle.theory.proofs.Proved.{canonical}
use Rattle.theory.proofs.Exists.{least_are_exact}

module _ {L : Type 0} (k : Kind L) (laws : Lawful k) (z : Sizes) (ss : List (Sentence L)) (g : SoundBook z ss)
    (label : Fact → L) (e : Exact k z ss label) (v : ℕ) (l : v < k.views) where
  pub view_canonical : Canonical z (in_view k v ss) (λ f. in_range z f && k.holds (label f) v)
  view_canonical =
      canonical z (in_view k v ss) (view_sound k z ss laws g v) (λ f. in_range z f && k.holds (label f) v) (exact_shows k z ss laws g label e v l)

  pub label_says :
      (x B : ℕ) → x < nodes z → B < z.concepts
      → (k.holds (label (member x B)) v ≡ true) ↔ EveryWorldSaysYes z (in_view k v ss) x (name B done)
  label_says x B h b =
      let m = view_canonical.membership x B h in
      let i = e (member x B) v (within_range z (member x B) (h, b)) l in
      (λ a. m.0 (i.0 a), λ a. i.1 (m.1 a))

-- the settled labels of a book hold what every world says
pub settled_labels_say :
    {L : Type 0} (k : Kind L) → Lawful k → (cells : ℕ) (z : Sizes) (ss : List (Sentence L)) → holdable cells z ss ≡ true
    → (label : Fact → L) → Least k z ss label → LabelsHoldWhatEveryWorldSays k z ss label
settled_labels_say k laws cells z ss can_be label least x B lx lB v lv =
    let g = sound_book cells z ss can_be in
    label_says k laws z ss g label (least_are_exact k z ss laws g label least) v lv x B lx lB
