use Rattle.std.proofs.Common.{◌≡◌, Some, None, Ok, Err, refl, rules}
use Rattle.std.specs.Option.{ok_or}
use Rattle.std.proofs.lemmas.Slice.Eq.{strip_prefix_is}
use Rattle.std.proofs.lemmas.Bool.Decides.{Decides-eqb}
use Rattle.terms.specs.declared.Refusal.TheVariants.{MalformedLine}
use Rattle.books.specs.Held.{contents}
use Rattle.texts.specs.Lines.{sizes_header, sentences_header}
use Rattle.texts.specs.Texts.{no_sizes_header, no_sizes}
use Rattle.texts.proofs.Openings.{outside, columns}
use Rattle.texts.proofs.read.read_sizes.Goals as goal

pub returns-in_err-text-clause-reads : goal.returns-in_err-text-clause-reads
returns-in_err-text-clause-reads g c =
    let none : c.strip_prefix.result ≡ None = search rules in
    let refused : c.from_residual.result ≡ Err (record { refusal = MalformedLine; line = 1 }) = search rules in
    let header = strip_prefix_is Decides-eqb c.args.text.now sizes_header c.strip_prefix.result c.strip_prefix.ensures.cases in
    rw refused (record { first_bad = no_sizes_header (rw none at header); over = refl })

pub returns-in_err-sizes-clause-reads : goal.returns-in_err-sizes-clause-reads
returns-in_err-sizes-clause-reads g c =
    let some : c.strip_prefix.result ≡ Some c.in_ok-text.text = search rules in
    let none : c.sizes_line.result ≡ None = search rules in
    let refused : c.from_residual-in_err-sizes.result ≡ Err (record { refusal = MalformedLine; line = 2 }) = search rules in
    let header = strip_prefix_is Decides-eqb c.args.text.now sizes_header c.strip_prefix.result c.strip_prefix.ensures.cases in
    rw refused (record { first_bad = no_sizes c.in_ok-text.text.now (rw some at header) (rw none at c.sizes_line.ensures); over = refl })

pub returns-in_err-map_err-clause-reads : goal.returns-in_err-map_err-clause-reads
returns-in_err-map_err-clause-reads g c =
    let e = c.in_err-map_err.field-0.0.refusal in
    let some : c.strip_prefix.result ≡ Some c.in_ok-text.text = search rules in
    let sizes : c.sizes_line.result ≡ Some (c.in_ok-sizes.sizes, c.in_ok-sizes.text) = search rules in
    let answer : c.size.result ≡ Err e = search rules in
    let refused : c.from_residual-in_err-map_err.result ≡ Err (record { refusal = e; line = 2 }) = search rules in
    let header = strip_prefix_is Decides-eqb c.args.text.now sizes_header c.strip_prefix.result c.strip_prefix.ensures.cases in
    rw refused
    (outside g.L.Label.kind (contents c.args.book.now) (contents c.size.new.self) c.args.text.now c.in_ok-text.text.now c.in_ok-sizes.text.now c.in_ok-sizes.sizes
    (rw some at header) (rw sizes at c.sizes_line.ensures) e (rw answer at c.size.ensures.sized))

pub returns-clause-reads : goal.returns-clause-reads
returns-clause-reads g c =
    let some : c.strip_prefix.result ≡ Some c.in_ok-text.text = search rules in
    let sizes : c.sizes_line.result ≡ Some (c.in_ok-sizes.sizes, c.in_ok-sizes.text) = search rules in
    let sized : c.size.result ≡ Ok tt = search rules in
    let answer : c.ok_or-3.result ≡ ok_or c.strip_prefix-2.result (record { refusal = MalformedLine; line = 3 }) = search rules in
    let header = strip_prefix_is Decides-eqb c.args.text.now sizes_header c.strip_prefix.result c.strip_prefix.ensures.cases in
    rw answer
    (columns g.L.Label.kind (contents c.args.book.now) (contents c.size.new.self) c.args.text.now c.in_ok-text.text.now c.in_ok-sizes.text.now c.in_ok-sizes.sizes
    (rw some at header) (rw sizes at c.sizes_line.ensures) (rw sized at c.size.ensures.sized) c.strip_prefix-2.result
    (strip_prefix_is Decides-eqb c.in_ok-sizes.text.now sentences_header c.strip_prefix-2.result c.strip_prefix-2.ensures.cases))
