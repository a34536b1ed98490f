use Rattle.products.proofs.CapLaws.{boundary-cap}
use Rattle.products.proofs.cap_laws.boundary_of_cap.Goals as goal

pub returns : goal.returns
returns c = boundary-cap
