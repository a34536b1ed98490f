use Rattle.operation_spaces.proofs.SpaceLaws.{image-kernel, page-sum}
use Rattle.operation_spaces.proofs.operation_laws.pages_of_bockstein.Goals as goal

pub returns : goal.returns
returns c = record { image_in_kernel = image-kernel; page = page-sum }
