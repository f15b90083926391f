use Rattle.std.proofs.Common.{◌≡◌, length, take, refl, subst, rules}
use Rattle.responding.specs.Reading.{Takes}
use Rattle.responding.proofs.answer.Goals as goal

pub returns-clause-printed : goal.returns-clause-printed
returns-clause-printed g c =
    let room : length c.read_input.new.into ≡ 16385 = search rules in
    record {
      input = take c.in_ok-count.count c.read_input.new.into;
      taken =
          subst (λ n. Takes (g.R.Read.remaining c.args.stream.now) (take c.in_ok-count.count c.read_input.new.into) n (g.R.Read.remaining c.read_input.new.stream))
          room c.in_ok-count.ensures.taken;
      before = _;
      after = _;
      room = record { cells = search rules; size = search rules; capacity = search rules };
      old_out = refl;
      new_out = refl;
      prints = c.respond.ensures.prints;
    }
