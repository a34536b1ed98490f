use Rattle.maps.proofs.PullLaws.{pull-over, pull-collapsed}
use Rattle.maps.proofs.map_laws.values_of_pull.Goals as goal

pub returns : goal.returns
returns c = record { at_image = pull-over; collapsed = pull-collapsed }
