use Rattle.split_types.proofs.MapLaws as law
use Rattle.split_types.proofs.PromiseLaws.{promised}
use Rattle.split_types.proofs.filing.maps_are_in_order.Goals as goal

pub returns : goal.returns
returns c = law.maps_are_in_order promised
