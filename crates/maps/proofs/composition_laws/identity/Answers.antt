use Rattle.maps.proofs.CompositionLaws.{same-map, same-pull}
use Rattle.maps.proofs.composition_laws.identity.Goals as goal

pub returns : goal.returns
returns c = record { map = same-map; pulled = same-pull }
