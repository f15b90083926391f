use Rattle.terms.proofs.Placing.{one_fact_each}
use Rattle.terms.proofs.places.each_place_is_of_one_fact.Goals as goal

pub returns : goal.returns
returns c = one_fact_each
