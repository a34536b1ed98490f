-- Steenrod squares of cochains.
--     square K k p a      Sq^k of a cochain a of degree p: the product of a with itself of index p - k,
--                         a cochain of degree p + k; empty where k exceeds p
-- Source: N. E. Steenrod, Products of cocycles and extensions of mappings, 1947.
use Rattle.std.specs.Prelude.{ℕ, ◌-◌, cond, nat_lt}
use Rattle.homology.specs.Sets.{Ids, empty}
use Rattle.homology.specs.Complexes.{Complex}
use Rattle.products.specs.Products.{cup}

abbrev pub square : Complex → ℕ → ℕ → Ids → Ids
square K k p a = cond (nat_lt p k) empty (cup K (p - k) a a)
