-- One map after another.
--     composed-map, composed-pull      it is a map, and pulls back as the two do, the last one first
--     same-map, same-pull              the map that leaves all where it is
use Rattle.std.proofs.Common.{◌≡◌, ℕ, ◌<◌, ◌≤◌, true, List, [], ◌∷◌, map, length, sym, ap, ◌∙◌, subst, arith, ⊎_elim}
use Rattle.std.proofs.lemmas.Bool.{cases_eq, cases_lt, false_from_ne_true}
use Rattle.std.proofs.lemmas.List.Folds.{list_any_at}
use Rattle.homology.specs.Sets.{Ids}
use Rattle.homology.specs.Simplices.{same_list}
use Rattle.homology.specs.Complexes.{Complex, simplex_at, IsComplex}
use Rattle.homology.specs.Growth.{is_there}
use Rattle.homology.specs.Chains.{IsChain}
use Rattle.homology.proofs.SetLaws.{same_members}
use Rattle.homology.proofs.ListSetLaws.{Rises, Rises-ascending}
use Rattle.homology.proofs.BoundaryLaws.{same_list-true}
use Rattle.products.specs.Products.{value_at}
use Rattle.products.proofs.ValueLaws.{Found, value_at-there}
use Rattle.maps.specs.Maps.{spans, has_image, IsMap, pull}
use Rattle.maps.proofs.ImageLaws.{Repeats, spans-ascending, spans-map, spans-through, spans-self}
use Rattle.maps.proofs.RefusalLaws.{any-some}
use Rattle.maps.proofs.PullLaws.{map-map, map-same, repeats-map, repeats-none, there-at, there-as, images, pull-value, pull-outside, image-cases}

-- what is there has an id
there-id : (K : Complex) (s : List ℕ) → is_there K s ≡ true → (y : ℕ) × (y < length K) × (simplex_at K y ≡ s)
there-id K s h =
    let some = any-some (same_list s) K h in
    (some.0, some.1, sym (same_list-true s (simplex_at K some.0) some.2))

module _ (A B : Complex) (a : IsComplex A) (m l : ℕ → ℕ) (L : IsMap A B l) where
  -- an edge has an edge or a vertex for its image
  edge-keeps : (u v : ℕ) → m u ≤ m v → has_image A m (u ∷ v ∷ []) ≡ true → l (m u) ≤ l (m v)
  edge-keeps u v le h = ⊎_elim
      (λ (same : m u ≡ m v). omega (arith, ap l same))
      (λ (apart : m u ≡ m v → ⊥).
      let some = any-some (spans (m u ∷ m v ∷ [])) A h in
      let is : (m u ∷ m v ∷ []) ≡ simplex_at A some.0 =
      spans-ascending 0 0 (m u ∷ m v ∷ []) (simplex_at A some.0) (omega arith, (omega (arith, le, apart), tt))
      (Rises-ascending (simplex_at A some.0) (a.simplices some.0 some.1).ascending) some.2 in
      L.monotone (m u) (m v) (there-as A some.0 (m u ∷ m v ∷ []) some.1 (sym is)))
      (cases_eq (m u) (m v))

  image-image : (s : List ℕ) → has_image A m s ≡ true → has_image B (λ u. l (m u)) s ≡ true
  image-image s h =
      let some = any-some (spans (map m s)) A h in
      let next = any-some (spans (map l (simplex_at A some.0))) B (L.into (simplex_at A some.0) (there-at A some.0 some.1)) in
      list_any_at (spans (map (λ u. l (m u)) s)) B next.0 [] next.1
      (ap (λ t. spans t (simplex_at B next.0)) (sym (map-map m l s))
      ∙ spans-through (map l (map m s)) (map l (simplex_at A some.0)) (simplex_at B next.0)
      (spans-map l (map m s) (simplex_at A some.0) some.2) next.2)

pub composed-map : (K A B : Complex) → IsComplex A → (m l : ℕ → ℕ) → IsMap K A m → IsMap A B l → IsMap K B (λ u. l (m u))
composed-map K A B a m l M L = record {
  monotone = λ u v h. edge-keeps A B a m l L u v (M.monotone u v h) (M.into (u ∷ v ∷ []) h);
  into = λ s h. image-image A B a m l L s (M.into s h);
}

module _ (K A B : Complex) (k : IsComplex K) (a : IsComplex A) (b : IsComplex B) (m l : ℕ → ℕ) (M : IsMap K A m) (L : IsMap A B l) where
  -- at the images of a simplex, which are a simplex or repeat
  pull-images : (c : Ids) (x : ℕ) → x < length K → value_at A (pull A B l c) (images K A k a m M x) ≡ value_at B c (map l (images K A k a m M x))
  pull-images c x lt = ⊎_elim
      (λ (found : Found A (images K A k a m M x)).
      ap (value_at A (pull A B l c)) (sym found.is)
      ∙ value_at-there A a (pull A B l c) found.id found.within
      ∙ pull-value A B a b l L c found.id found.within
      ∙ ap (λ s. value_at B c (map l s)) found.is)
      (λ (twice : Repeats (images K A k a m M x)).
      repeats-none A a (pull A B l c) (images K A k a m M x) twice
      ∙ sym (repeats-none B b c (map l (images K A k a m M x)) (repeats-map l (images K A k a m M x) twice)))
      (image-cases K A k a m M x lt)

  pub composed-pull : (c : Ids) → pull K A m (pull A B l c) ≡ pull K B (λ u. l (m u)) c
  composed-pull c = same_members (pull K A m (pull A B l c)) (pull K B (λ u. l (m u)) c) (λ x. ⊎_elim
      (λ (lt : x < length K).
      pull-value K A k a m M (pull A B l c) x lt
      ∙ pull-images c x lt
      ∙ ap (value_at B c) (map-map m l (simplex_at K x))
      ∙ sym (pull-value K B k b (λ u. l (m u)) (composed-map K A B a m l M L) c x lt))
      (λ (le : length K ≤ x). pull-outside K A m (pull A B l c) x le ∙ sym (pull-outside K B (λ u. l (m u)) c x le))
      (cases_lt x (length K)))

pub same-map : (K : Complex) → IsComplex K → IsMap K K (λ u. u)
same-map K k = record { monotone = edge; into = image }
  where
    edge : (u v : ℕ) → is_there K (u ∷ v ∷ []) ≡ true → u ≤ v
    edge u v h =
        let id = there-id K (u ∷ v ∷ []) h in
        let up : Rises 0 (u ∷ v ∷ []) = subst (Rises 0) id.2 (Rises-ascending (simplex_at K id.0) (k.simplices id.0 id.1).ascending) in
        omega (arith, up.1.0)

    image : (s : List ℕ) → is_there K s ≡ true → has_image K (λ u. u) s ≡ true
    image s h =
        let id = there-id K s h in
        list_any_at (spans (map (λ u. u) s)) K id.0 [] id.1
        (ap (λ t. spans t (simplex_at K id.0)) (map-same s ∙ sym id.2) ∙ spans-self (simplex_at K id.0))

pub same-pull : (K : Complex) → IsComplex K → (p : ℕ) (b : Ids) → IsChain K p b → pull K K (λ u. u) b ≡ b
same-pull K k p b chain = same_members (pull K K (λ u. u) b) b (λ x. ⊎_elim
    (λ (lt : x < length K).
    pull-value K K k k (λ u. u) (same-map K k) b x lt ∙ ap (value_at K b) (map-same (simplex_at K x)) ∙ value_at-there K k b x lt)
    (λ (le : length K ≤ x).
    pull-outside K K (λ u. u) b x le ∙ sym (false_from_ne_true (b x) (λ e. omega (arith, le, chain.there x e))))
    (cases_lt x (length K)))
