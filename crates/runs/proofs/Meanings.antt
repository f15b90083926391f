-- What the answers on a true account mean in every world. Assumes nothing.
use Rattle.std.proofs.Common.{◌≡◌, ℕ, Bool, not, ◌||◌, leb, List, [], ◌∷◌, Some, None, Ok, Option, Result, sym, refl, ap, ◌∙◌, subst, arith, leb-false}
use borrow.Author.Tests.{not-false}
use Rattle.std.proofs.lemmas.Bool.{or_parts}
use Rattle.labels.specs.Kind.{Kind, Lawful}
use Rattle.terms.specs.declared.Sizes.{Sizes}
use Rattle.terms.specs.declared.Sentence.{Sentence}
use Rattle.terms.specs.declared.Node.{Node}
use Rattle.terms.specs.declared.Concept.{Concept}
use Rattle.terms.specs.declared.Refusal.{Refusal}
use Rattle.terms.specs.declared.Refusal.TheVariants.{OutOfRange, NotSettled}
use Rattle.terms.specs.Refusals.{first_fault, After, Accepted}
use Rattle.terms.specs.Places.{nodes, member}
use Rattle.terms.proofs.Faults.{no_fault}
use Rattle.theory.proofs.Names.{sound_book}
use Rattle.theory.proofs.Exists.{least_are_exact}
use Rattle.theory.proofs.Views.{label_says}
use Rattle.settling.specs.Settled.{label_on}
use Rattle.books.specs.Settling.{Labelled}
use Rattle.runs.specs.declared.Request.{Request}
use Rattle.runs.specs.declared.Request.TheVariants as request
use Rattle.runs.specs.Account.{Account, Answer, labelled}
use Rattle.runs.specs.Law.{Gives, Claims, TrueAccount, LabelHoldsWhatEveryWorldSays}

-- an accepted call passed all its checks
passed : {X : Type 0} (U : Type 0) (P : Result X Refusal → Type 0) (fault : Option Refusal) (r : Result X Refusal) (x : X) → r ≡ Ok x → After fault r U P → (fault ≡ None) × P (Ok x)
passed U P (Some e) r x is h = let f = h.0 in let z : ◌≡◌ {A = ℕ} 0 1 = cc in absurd (omega arith)
passed U P None r x is h = (refl, subst P is h)

module _ {L : Type 0} (k : Kind L) (laws : Lawful k) where
  label_means :
      (a : Account L) (x : Node) (B : Concept) (r : Result L Refusal) (l : L) → TrueAccount k a → Labelled k a.book a.board x B r → r ≡ Ok l
      → LabelHoldsWhatEveryWorldSays k a.book x.0 B.0 l
  label_means a x B r l t h is v lt =
      let z : Sizes = a.book.sizes in
      let ss : List (Sentence L) = a.book.sentences in
      let out : Bool = leb (nodes z) x.0 || leb z.concepts B.0 in
      let p = passed (Unit {0}) (Accepted (λ m. m ≡ label_on k z a.board (member x.0 B.0))) (first_fault ((out, OutOfRange) ∷ ((not a.book.settled, NotSettled) ∷ []))) r l is h in
      let one = no_fault out OutOfRange ((not a.book.settled, NotSettled) ∷ []) p.0 in
      let two = no_fault (not a.book.settled) NotSettled [] one.1 in
      let q = or_parts (leb (nodes z) x.0) (leb z.concepts B.0) one.0 in
      let g = sound_book a.book.cells z ss t.book in
      let settled = t.board (not-false a.book.settled two.0) in
      let exact = least_are_exact k z ss laws g (label_on k z a.board) settled.least in
      let says = label_says k laws z ss g (label_on k z a.board) exact v lt x.0 B.0 (leb-false (nodes z) x.0 q.0) (leb-false z.concepts B.0 q.1) in
      (λ e. says.0 (ap (λ m. k.holds m v) (sym p.1) ∙ e), λ e. ap (λ m. k.holds m v) p.1 ∙ says.1 e)

  pub claims : (a : Account L) (q : Request L) (o : Answer L) (b : Account L) → Gives k a q o b → TrueAccount k a → Claims k a q o
  claims a (request.Size z) o b h t = tt
  claims a (request.Enter s) o b h t = tt
  claims a (request.Withdraw i) o b h t = tt
  claims a (request.Read text) o b h t = tt
  claims a (request.Write room) o b h t = tt
  claims a request.Settle o b h t = tt
  claims a (request.List room) o b h t = tt
  claims a (request.Label x B) o b h t = λ l e. label_means a x B h.0 l t h.2 (same h.0 l (sym h.1 ∙ e))
    where
      same : (r : Result L Refusal) (l : L) → labelled r ≡ labelled (Ok l) → r ≡ Ok l
      same r l e = cc
