use Rattle.maps.proofs.CompositionLaws.{composed-map, composed-pull}
use Rattle.maps.proofs.composition_laws.composition.Goals as goal

pub returns : goal.returns
returns c = record { map = composed-map; pulled = composed-pull }
