-- One page after the other.
use Rattle.rs_file.proofs.Loaded.{first_reached}
use Rattle.rs_file.proofs.loading.first_two.Goals as goal

pub returns : goal.returns
returns c = record {
  reached = first_reached c.args.count c.in_ok-reached.reached c.reach.new.self c.reach-2.new.self c.new-2.result c.new-3.result c.requires c.in_ok-reached.ensures.none c.new-2.ensures c.new-3.ensures
      (λ free. c.reach.ensures.reaches (c.reach.ensures.free.1 free)) (λ free. c.reach-2.ensures.reaches (c.reach-2.ensures.free.1 free));
}
