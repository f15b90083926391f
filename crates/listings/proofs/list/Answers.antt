use Rattle.std.proofs.Common.{◌≡◌, ℕ, true, not, List, [], ◌∷◌, Ok, Result, sym, refl, ap, subst, rules}
use Rattle.labels.specs.Kind.{Kind}
use Rattle.terms.specs.declared.Refusal.{Refusal}
use Rattle.terms.specs.declared.Refusal.TheVariants.{NotSettled}
use Rattle.terms.specs.Refusals.{first_fault, Fills}
use Rattle.terms.proofs.Faults.{past_check, faultless}
use Rattle.boards.specs.Meaning.{Meaning}
use Rattle.books.specs.Contents.{Contents}
use Rattle.books.specs.Held.{contents}
use Rattle.output.specs.Puts.{Puts}
use Rattle.output.proofs.Putting.{puts_fill}
use Rattle.listings.specs.Listing.{listing, Lists}
use Rattle.listings.proofs.list.Goals as goal

-- the listing of a settled book
of_settled :
    {L : Type 0} (k : Kind L) (b : Contents L) (m : Meaning L) (old new : List ℕ) (r : Result ℕ Refusal) → true ≡ b.settled
    → Fills (listing k b.sizes m) old r new → Lists k b m old r new
of_settled k b m old new r settled =
    faultless (first_fault ((not b.settled, NotSettled) ∷ [])) r (new ≡ old) (λ answer. Fills (listing k b.sizes m) old answer new)
    (past_check (not b.settled) NotSettled [] (ap not (sym settled)) refl)

pub returns : goal.returns
returns g c =
    let k = g.L.Label.kind in
    let m = g.B.Board.meaning c.args.board.now in
    let begun = c.new-output.ensures in
    let same = c.put_listing.ensures.same_memory in
    of_settled k (contents c.args.book.now) m c.args.out.now _ (Ok c.count.result) c.if-not-is_settled.ensures
    (puts_fill begun.as_it_was begun.nothing_yet (search rules) c.count.ensures
    (subst (λ z. Puts c.new-output.result (listing k z m) (Ok tt) c.put_listing.new.output) c.sizes.ensures c.in_ok-put_listing.ensures))
