use Rattle.maps.proofs.RefusalLaws.{refusal-accepts, refusal-turned, refusal-no_image}
use Rattle.maps.proofs.map_laws.refusals.Goals as goal

pub returns : goal.returns
returns c = record { accepted = refusal-accepts; turned = refusal-turned; no_image = refusal-no_image }
