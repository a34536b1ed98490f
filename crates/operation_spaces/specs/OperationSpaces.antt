-- Kernels and images of operations on cohomology classes, decomposable classes, and the pages of the Bockstein. All are sets of class words.
--     Operation            a Steenrod square Sq^k, or the Bockstein
--     raises op            by how much it raises the degree
--     value_of K op p w    the class word of its value at the class word w of degree p
--     kernel K op p w      whether this is the zero class
--     image K op p w       whether w is the value at some class word of degree p
--     products K p         the class words of all products of two classes whose degrees are at least 1 and have the sum p
--     is_sum n gs w        whether w is the sum of some of the words gs, of numbers below n: each of them is left out, or taken
--     decomposable K p w   whether w is the sum of some of these products
--     page K p             the dimension of the kernel of the Bockstein in degree p, less that of its image from degree p - 1; in degree 0 nothing
--                          is taken away
-- Source: Steenrod squares and the Bockstein, A. Hatcher, Algebraic Topology, sections 4.L and 3.E. Homology of the Bockstein on
-- cohomology modulo 2 is the second page of the Bockstein spectral sequence, W. Browder, Torsion in H-spaces (1961). Decomposable
-- classes: J. Milnor and J. Moore, On the structure of Hopf algebras (1965).
use Rattle.std.specs.Prelude.{ℕ, zero, suc, ◌+◌, ◌-◌, Bool, ◌||◌, List, [], ◌∷◌, map}
use Rattle.std.specs.List.{flat_map, range_with_len}
use Rattle.homology.specs.Sets.{Ids}
use Rattle.homology.specs.Simplices.{same_list}
use Rattle.homology.specs.Complexes.{Complex}
use Rattle.homology.specs.Kinds.{betti}
use Rattle.cohomology.specs.Classes.{classes, class_of}
use Rattle.products.specs.Products.{cup}
use Rattle.cohomology_operations.specs.Squares.{square}
use Rattle.cohomology_operations.specs.Bocksteins.{bockstein}
use Rattle.characteristic_classes.specs.Pairings.{cocycle}
use Rattle.operation_spaces.specs.Spaces.{sum, dimension, kernel_of, image_of}

pub data Operation : Type 0 where
  Square : ℕ → Operation
  Bockstein : Operation

abbrev pub raises : Operation → ℕ
raises (Square k) = k
raises Bockstein = 1

abbrev pub apply : Complex → Operation → ℕ → Ids → Ids
apply K (Square k) p a = square K k p a
apply K Bockstein p a = bockstein K a

abbrev pub value_of : Complex → Operation → ℕ → List ℕ → List ℕ
value_of K op p w = class_of K (p + raises op) (apply K op p (cocycle K p w))

abbrev pub kernel : Complex → Operation → ℕ → List ℕ → Bool
kernel K op p = kernel_of (value_of K op p)

abbrev pub image : Complex → Operation → ℕ → List ℕ → Bool
image K op p = image_of (betti K p) (value_of K op p)

-- those of degrees i and p - i
abbrev pub products_of : Complex → ℕ → ℕ → List (List ℕ)
products_of K p i = flat_map (λ v. map (λ w. class_of K p (cup K 0 (cocycle K i v) (cocycle K (p - i) w))) (classes K (p - i))) (classes K i)

abbrev pub products : Complex → ℕ → List (List ℕ)
products K p = flat_map (products_of K p) (range_with_len 1 (p - 1))

abbrev pub is_sum : ℕ → List (List ℕ) → List ℕ → Bool
is_sum n [] w = same_list w []
is_sum n (g ∷ gs) w = is_sum n gs w || is_sum n gs (sum n g w)

abbrev pub decomposable : Complex → ℕ → List ℕ → Bool
decomposable K p = is_sum (betti K p) (products K p)

abbrev pub image_below : Complex → ℕ → ℕ
image_below K zero = 0
image_below K (suc p) = dimension (betti K (suc p)) (image K Bockstein p)

abbrev pub page : Complex → ℕ → ℕ
page K p = dimension (betti K p) (kernel K Bockstein p) - image_below K p
