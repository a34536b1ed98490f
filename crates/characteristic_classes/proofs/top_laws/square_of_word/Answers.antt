use Rattle.characteristic_classes.proofs.SquareLaws.{top-square_word}
use Rattle.characteristic_classes.proofs.top_laws.square_of_word.Goals as goal

pub returns : goal.returns
returns c = top-square_word
