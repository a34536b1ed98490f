-- The sides of a splitting.
--     differ              two values differ where their sum is one
use Rattle.std.proofs.Common.{◌≡◌, Bool, true, false, not, refl}
use Rattle.std.specs.Bool.{beq}
use Rattle.homology.specs.Parity.{xor}

pub differ : (a b : Bool) → not (beq a b) ≡ xor a b
differ true true = refl
differ true false = refl
differ false true = refl
differ false false = refl
