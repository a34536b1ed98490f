-- Changes of what is kept of a degree. K is a complex, p a degree.
--     rows-none                no cocycle is the one of its place
--     rows-set                 the cocycle of one place more
--     IsKept-set               the same of what is kept of a degree
--     own-found                the values at f of an essential simplex are the canonical cocycle of its class
use Rattle.std.proofs.Common.{get_or-set_other, ◌≡◌, ◌≢◌, ℕ, zero, suc, ◌+◌, ◌<◌, List, [], ◌∷◌, length, Option, None, Some, sym, ap, ◌∙◌, subst, ⊎_elim, arith, length-set}
use Rattle.std.specs.Prelude.{slice_index_or, slice_set, IfSome}
use Rattle.std.specs.List.{All}
use Rattle.std.proofs.lemmas.Bool.{cases_eq}
use Rattle.std.proofs.lemmas.Grind.{get_or-set_at}
use Rattle.homology.specs.Sets.{Ids, set_of, single}
use Rattle.homology.specs.ListSums.{sum_over}
use Rattle.homology.specs.Complexes.{Complex, IsComplex}
use Rattle.homology.specs.Kinds.{betti}
use Rattle.homology.proofs.ParityLaws.{xor-false}
use Rattle.homology.proofs.SetLaws.{same_members}
use Rattle.cohomology.specs.Classes.{essentials, essential_at}
use Rattle.at_model.specs.Maps.{AreValuesAtF}
use Rattle.class_cache.specs.Kept.{AreBoundaries, AreCycles, AreRows, IsKept, own}
use Rattle.class_cache.specs.declared.kept.Kept.{Kept}
use Rattle.class_solver.proofs.ClassSums.{cocycle-found}

pub rows-none : (each : ℕ → Ids) (rows : List (Option (List ℕ))) → ((j : ℕ) → slice_index_or rows j None ≡ None) → AreRows each rows
rows-none each rows none j =
    let P : Option (List ℕ) → Type 0 = λ o. IfSome o (λ c. set_of c ≡ each j) in
    subst P (sym (none j)) tt

pub rows-set : (each : ℕ → Ids) (rows : List (Option (List ℕ))) (k : ℕ) (c : List ℕ) → k < length rows → set_of c ≡ each k → AreRows each rows
    → AreRows each (slice_set rows k (Some c))
rows-set each rows k c lt is R j = ⊎_elim
    (λ (same : j ≡ k).
    let P : Option (List ℕ) → Type 0 = λ o. IfSome o (λ d. set_of d ≡ each j) in
    subst P (sym (get_or-set_at rows k j (Some c) None same lt)) (is ∙ ap each (sym same)))
    (λ (other : j ≢ k).
    let P : Option (List ℕ) → Type 0 = λ o. IfSome o (λ d. set_of d ≡ each j) in
    subst P (sym (get_or-set_other rows k j (Some c) None other)) (R j))
    (cases_eq j k)

-- one class number alone
alone : (n k : ℕ) → k < n → All (λ j. j < n) (k ∷ [])
alone n k lt zero d h = lt
alone n k lt (suc j) d h = absurd (omega (arith, h))

pub own-found : (K : Complex) → IsComplex K → (p k h : ℕ) (v : Ids) → k < betti K p → h ≡ essential_at K p k → AreValuesAtF K (sum_over (h ∷ []) single) v → v ≡ own K p k
own-found K ok p k h v lt is V =
    sym (cocycle-found K ok p (k ∷ []) (alone (betti K p) k lt) v (subst (λ x. AreValuesAtF K (sum_over (x ∷ []) single) v) is V))
    ∙ same_members (sum_over (k ∷ []) (own K p)) (own K p k) (λ q. xor-false (own K p k q))

-- the cycles along equations
pub cycles-same : (K : Complex) (k k2 : Kept) → k2.essential.items ≡ k.essential.items → k2.cycles ≡ k.cycles → IfSome k.cycles (λ c. AreCycles K k.essential.items c.items)
    → IfSome k2.cycles (λ c. AreCycles K k2.essential.items c.items)
cycles-same K k k2 e same C =
    let P : List ℕ → Type 0 = λ hs. IfSome k2.cycles (λ c. AreCycles K hs c.items) in
    subst P (sym e) (subst (λ o. IfSome o (λ c. AreCycles K k.essential.items c.items)) (sym same) C)

pub IsKept-set : (K : Complex) (k k2 : Kept) (j : ℕ) (c : List ℕ) → IsKept K k → k2.degree ≡ k.degree → k2.essential.items ≡ k.essential.items → j < betti K k.degree
    → k2.cocycles.items ≡ slice_set k.cocycles.items j (Some c) → set_of c ≡ own K k.degree j → k2.cycles ≡ k.cycles → k2.boundaries ≡ k.boundaries → IsKept K k2
IsKept-set K k k2 j c I d e lt set is same same_boundaries = record {
  complex = I.complex;
  essential = e ∙ I.essential ∙ ap (essentials K) (sym d);
  cocycles =
      let P : ℕ → Type 0 = λ p. AreRows (own K p) k2.cocycles.items in
      let Q : List (Option (List ℕ)) → Type 0 = λ rows. AreRows (own K k.degree) rows in
      subst P (sym d) (subst Q (sym set) (rows-set (own K k.degree) k.cocycles.items j c (omega (arith, lt, I.count)) is I.cocycles));
  count = ap length set ∙ length-set k.cocycles.items j (Some c) ∙ I.count ∙ ap (betti K) (sym d);
  cycles = cycles-same K k k2 e same I.cycles;
  boundaries =
      subst (λ (p : ℕ). IfSome k2.boundaries (λ b. AreBoundaries K (p + 1) b.items)) (sym d)
      (subst (λ o. IfSome o (λ b. AreBoundaries K (k.degree + 1) b.items)) (sym same_boundaries) I.boundaries);
}
