use Rattle.products.proofs.CapLaws.{cap-degree}
use Rattle.products.proofs.cap_laws.degree_of_cap.Goals as goal

pub returns : goal.returns
returns c = cap-degree
