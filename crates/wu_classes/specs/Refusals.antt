-- Why a complex has no pairings without degenerate classes, and no Stiefel-Whitney number; want of memory may come at any.
--     wu_said r, number_said r             what r says; nothing where no memory was left
--     WuRefuses v r, NumberRefuses v r     this is what v says
use Rattle.std.specs.Prelude.{◌≡◌, Bool, Option, Some, option_map, IfSome, Result, Err}
use Rattle.characteristic_classes.specs.Pairings.{NotDual, Unclosed, Degenerate}
use Rattle.characteristic_classes.specs.WuClasses.{NoNumber, NoClasses, Sum}
use Rattle.manifold_links.specs.Refusals.{closed_said}
use Rattle.wu_classes.specs.declared.refusal.WuRefusal.{WuRefusal}
use Rattle.wu_classes.specs.declared.refusal.WuRefusal.TheVariants as wu
use Rattle.wu_classes.specs.declared.refusal.NumberRefusal.{NumberRefusal}
use Rattle.wu_classes.specs.declared.refusal.NumberRefusal.TheVariants as number

abbrev pub wu_said : WuRefusal → Option NotDual
wu_said (wu.Closed r) = option_map Unclosed (closed_said r)
wu_said (wu.Degenerate w) = Some (Degenerate w.degree w.numbers.items)

abbrev pub WuRefuses : {A : Type 0} → Result A NotDual → WuRefusal → Type 0
WuRefuses v r = IfSome (wu_said r) (λ why. v ≡ Err why)

abbrev pub number_said : NumberRefusal → Option NoNumber
number_said (number.Wu r) = option_map NoClasses (wu_said r)
number_said (number.Sum sum dim) = Some (Sum sum dim)

abbrev pub NumberRefuses : Result Bool NoNumber → NumberRefusal → Type 0
NumberRefuses v r = IfSome (number_said r) (λ why. v ≡ Err why)
