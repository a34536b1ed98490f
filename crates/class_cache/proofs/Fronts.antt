-- Fronts of complexes. K is the front of L, and L that of M.
--     grown-twice      K is the front of M
--     grown-same       K is L, where L is no longer
--     grown-of-same    a complex is its own front
use Rattle.std.proofs.Common.{◌≡◌, ◌≤◌, length, length-take, take, take-take, take_all, sym, ap, ◌∙◌, arith}
use Rattle.homology.specs.Complexes.{Complex}
use Rattle.class_cache.specs.Grown.{IsGrown}

pub grown-twice : (K L M : Complex) → IsGrown K L → IsGrown L M → IsGrown K M
grown-twice K L M a b =
    let le : length K ≤ length L = omega (arith, ap length a.front, length-take (length K) L) in
    record { front = sym (take-take (length K) (length L) M le) ∙ ap (take (length K)) b.front ∙ a.front }

pub grown-same : (K L : Complex) → IsGrown K L → length L ≤ length K → K ≡ L
grown-same K L a le = sym a.front ∙ take_all (length K) L le

pub grown-of-same : (K : Complex) → IsGrown K K
grown-of-same K = record { front = take_all (length K) K (omega arith) }
