-- The theory of one view. Assumes nothing.
use Rattle.std.proofs.Common.{ℕ, ◌<◌, ◌≤◌, Bool, List, [], ◌∷◌, length, refl, inl, arith}
use Rattle.terms.specs.declared.Sizes.{Sizes}
use Rattle.terms.specs.declared.Sentence.{Sentence}
use Rattle.terms.specs.Lists.{◌∈◌}
use Rattle.terms.specs.Places.{nodes, Fact, member}
use Rattle.theory.specs.World.{meant}
use Rattle.theory.specs.Description.{Description, done, name, Fits, description}
use Rattle.theory.specs.Entailed.{table_world, EveryWorldSaysYes, ShowsDerived, Canonical, Theory}
use Rattle.theory.proofs.Names.{SoundBook, sound_book}
use Rattle.theory.proofs.Sound.{world_model}
use Rattle.theory.proofs.Table.{holds, follows, table_is_world, says_yes, table_fits}
use Rattle.theory.proofs.Describe.{shallow, all_fit, least}

one_of : (xs : List ℕ) → 1 ≤ length xs → (x : ℕ) × (x ∈ xs)
one_of [] h = absurd (omega (arith, h))
one_of (x ∷ xs) h = (x, inl refl)

module _ {L : Type 0} (z : Sizes) (ss : List (Sentence L)) (g : SoundBook z ss) (so : Fact → Bool) (shows : ShowsDerived z ss so) where
  everywhere : (x : ℕ) (D : Description) → Fits (meant (table_world z so)) x D → EveryWorldSaysYes z ss x D
  everywhere x D f w h = says_yes z ss g so shows (meant w) (world_model z ss w h) D x f

  from_every : (x : ℕ) → x < nodes z → (D : Description) → EveryWorldSaysYes z ss x D → Fits (meant (table_world z so)) x D
  from_every x l D h = table_fits z ss g so shows x l D (h (table_world z so) (table_is_world z ss g so shows))

  pub canonical : Canonical z ss so
  canonical =
      record {
        membership =
            λ x B l. (
              λ p. everywhere x (name B done) (holds z ss g so shows p, tt),
              λ h. follows z ss g so shows (member x B) (from_every x l (name B done) h).0,
            );
        is_world = table_is_world z ss g so shows;
        node_fits = λ x l D. (everywhere x D, from_every x l D);
        table_says =
            λ x l D. (λ y. everywhere x D (table_fits z ss g so shows x l D y), λ h. h (table_world z so) (table_is_world z ss g so shows));
        describes =
            λ k xs n inside.
            record {
              no_deeper = shallow z so k xs;
              yes_of_each = λ x m. everywhere x (description z so k xs) (all_fit z ss g so shows k xs x m);
              implies_others =
                  λ E d h w a e l f.
                  let x₀ = one_of xs n in
                  least z ss g so shows (meant w) a.top E k xs x₀.0 x₀.1 d (λ x m. from_every x (inside x m) E (h x m)) e l f;
            };
      }

pub theory : {L : Type 0} → Theory L
theory z cells ss h so shows = canonical z ss (sound_book cells z ss h) so shows
