use Rattle.share_index.proofs.ListingLaws.{next_place}
use Rattle.share_index.proofs.laws.next_place.Goals as goal

pub returns : goal.returns
returns g c = next_place g.K.Hashed.same g.met.K.Hashed.laws
