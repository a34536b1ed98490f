-- The definitions tried on small sets of words and small complexes, each line by evaluation alone, with values found by hand:
--     basis_of_even          the words of three numbers with an even number of entries
--     triangle_kernel ..     kernels, images, decomposable classes and pages on the hollow triangle
--     sphere_page            those of the boundary of a tetrahedron
use Rattle.std.proofs.Common.{◌≡◌, ℕ, Bool, List, [], ◌∷◌, length, map, refl}
use Rattle.std.specs.Prelude.{◌%◌, nat_eq}
use Rattle.homology.specs.Complexes.{Complex, incidence}
use Rattle.homology.specs.Kinds.{is_positive, is_bounding, betti}
use Rattle.cohomology.specs.Classes.{canonical, class_of}
use Rattle.products.specs.Products.{value_at, cup}
use Rattle.cohomology_operations.specs.Bocksteins.{bockstein}
use Rattle.operation_spaces.specs.Spaces.{sum, basis, dimension, combination}
use Rattle.operation_spaces.specs.OperationSpaces.{Square, Bockstein, kernel, image, products, decomposable, page}

is_even : List ℕ → Bool
is_even w = nat_eq (length w % 2) 0

-- 0 and 1, 0 and 2; their sum is 1 and 2
basis_of_even : basis 3 is_even ≡ (0 ∷ 1 ∷ []) ∷ (0 ∷ 2 ∷ []) ∷ []
unfolding is_even
basis_of_even = refl

sum_of_even : sum 3 (0 ∷ 1 ∷ []) (0 ∷ 2 ∷ []) ∷ combination 3 (basis 3 is_even) (λ i. nat_eq i 1) ∷ [] ≡ (1 ∷ 2 ∷ []) ∷ (0 ∷ 2 ∷ []) ∷ []
unfolding is_even
sum_of_even = refl

hollow_triangle : Complex
hollow_triangle = (0 ∷ []) ∷ (1 ∷ []) ∷ (0 ∷ 1 ∷ []) ∷ (2 ∷ []) ∷ (0 ∷ 2 ∷ []) ∷ (1 ∷ 2 ∷ []) ∷ []

-- the Bockstein is zero; Sq^0 leaves the classes, and the others are zero
triangle_kernels :
    basis (betti hollow_triangle 0) (kernel hollow_triangle Bockstein 0)
    ∷ basis (betti hollow_triangle 1) (kernel hollow_triangle (Square 0) 1)
    ∷ basis (betti hollow_triangle 1) (kernel hollow_triangle (Square 2) 1)
    ∷ []
    ≡ ((0 ∷ []) ∷ []) ∷ [] ∷ ((0 ∷ []) ∷ []) ∷ []
unfolding hollow_triangle incidence is_positive is_bounding canonical class_of value_at cup bockstein
triangle_kernels = refl

triangle_images :
    basis (betti hollow_triangle 1) (image hollow_triangle (Square 0) 1)
    ∷ basis (betti hollow_triangle 1) (image hollow_triangle Bockstein 0)
    ∷ basis (betti hollow_triangle 1) (decomposable hollow_triangle 1)
    ∷ []
    ≡ ((0 ∷ []) ∷ []) ∷ [] ∷ [] ∷ []
unfolding hollow_triangle incidence is_positive is_bounding canonical class_of value_at cup bockstein
triangle_images = refl

triangle_pages : map (page hollow_triangle) (0 ∷ 1 ∷ 2 ∷ []) ≡ 1 ∷ 1 ∷ 0 ∷ []
unfolding hollow_triangle incidence is_positive is_bounding canonical class_of value_at cup bockstein
triangle_pages = refl

nothing_page : page [] 0 ≡ 0
unfolding incidence is_positive is_bounding canonical class_of value_at cup bockstein
nothing_page = refl
