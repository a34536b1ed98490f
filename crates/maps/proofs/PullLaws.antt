-- Laws of chains that are carried along a map, and of cochains that are pulled back.
--     map-map, map-same           images of images; the map that leaves all where it is
--     delta-map, delta-repeats    entries left out before and after a map; of a list that repeats
--     repeats-none                a cochain is zero at lists that repeat
--     pull-value                  the value of a cochain that is pulled back is that at the list of the images
--     image-cases                 this list is a simplex of A, or repeats
--     pull-evaluates              the pull is the transpose of the push
--     coboundary-pull             the coboundary of a pull is the pull of the coboundary
--     push-boundary               so the push is a chain map
--     pull-within, pull-source, push-chain, pull-chain     degrees stay
use Rattle.std.proofs.Common.{◌≡◌, ℕ, suc, ◌-◌, ◌<◌, ◌≤◌, Bool, true, false, ◌&&◌, List, [], ◌∷◌, map, length, nat_eq, nat_lt, refl, sym, ap, ◌∙◌, subst, arith, eqb-true, eq-eqb, lt-ltb, le-ltb, ltb-true, ⊎_elim, inl, inr, ◌⊎◌}
use Rattle.std.proofs.lemmas.Bool.{true≢false, and_parts, and_from, false_from_ne_true, cases_Bool, cases_lt}
use Rattle.std.proofs.lemmas.List.Folds.{list_any_at}
use Rattle.homology.specs.Parity.{xor, odd}
use Rattle.homology.specs.Sets.{Ids, single, plus, image, evaluate}
use Rattle.homology.specs.Simplices.{same_list}
use Rattle.homology.specs.Complexes.{Complex, simplex_at, incidence, IsComplex}
use Rattle.homology.specs.Growth.{is_there}
use Rattle.homology.specs.Chains.{IsChain, boundary, coboundary}
use Rattle.homology.proofs.ParityLaws.{and-xor, odd-same, odd-one}
use Rattle.homology.proofs.SetLaws.{same_members, Source, image-source}
use Rattle.homology.proofs.EvaluationLaws.{evaluate-plus_cochain, evaluate-pulled, evaluate-coboundary}
use Rattle.homology.proofs.BoundaryLaws.{same_list-true, same_list-same, boundary-within}
use Rattle.homology.proofs.FaceLists.{Picks, Picks-self}
use Rattle.homology.proofs.ListSetLaws.{Rises, Rises-ascending}
use Rattle.products.specs.Products.{value_at}
use Rattle.products.proofs.SplittingLaws.{delta}
use Rattle.products.proofs.ValueLaws.{Found, value_at-there, value_at-missing, value_at-empty, value_at-found, picks-found, faces-delta, value_at-coboundary}
use Rattle.products.proofs.CoboundaryLaw.{coboundary-outside}
use Rattle.maps.specs.Maps.{spans, IsMap, carried, push, pull}
use Rattle.maps.proofs.ImageLaws.{Climbs, Repeats, climbs-cases, rises-apart, spans-same, spans-self, spans-ascending}
use Rattle.maps.proofs.RefusalLaws.{any-some}

pub map-length : (m : ℕ → ℕ) (s : List ℕ) → length (map m s) ≡ length s
map-length m [] = refl
map-length m (v ∷ s) = ap (λ n. suc n) (map-length m s)

pub map-map : (m l : ℕ → ℕ) (s : List ℕ) → map l (map m s) ≡ map (λ u. l (m u)) s
map-map m l [] = refl
map-map m l (v ∷ s) = ap (λ r. l (m v) ∷ r) (map-map m l s)

pub map-same : (s : List ℕ) → map (λ (u : ℕ). u) s ≡ s
map-same [] = refl
map-same (v ∷ s) = ap (λ r. v ∷ r) (map-same s)

pub repeats-map : (m : ℕ → ℕ) (us : List ℕ) → Repeats us → Repeats (map m us)
repeats-map m [] p = p
repeats-map m (u ∷ []) p = p
repeats-map m (u ∷ v ∷ us) p = ⊎_elim
    (λ (same : u ≡ v). inl (ap m same))
    (λ (twice : Repeats (v ∷ us)). inr (repeats-map m (v ∷ us) twice))
    p

pub repeats-more : (u : ℕ) (us : List ℕ) → Repeats us → Repeats (u ∷ us)
repeats-more u [] p = p
repeats-more u (v ∷ us) p = inr p

-- entries left out of images
pub delta-map : (m : ℕ → ℕ) (F : List ℕ → Bool) (s : List ℕ) → delta F (map m s) ≡ delta (λ t. F (map m t)) s
delta-map m F [] = refl
delta-map m F (v ∷ s) = ap (xor (F (map m s))) (delta-map m (λ t. F (m v ∷ t)) s)

delta-none : (F : List ℕ → Bool) → ((t : List ℕ) → F t ≡ false) → (s : List ℕ) → delta F s ≡ false
delta-none F none [] = refl
delta-none F none (v ∷ s) = λ i. xor (none s i) (delta-none (λ t. F (v ∷ t)) (λ t. none (v ∷ t)) s i)

-- where a function is zero at lists that repeat, so is the sum over their entries left out: two of these lists are equal, and the
-- others repeat
pub delta-repeats : (F : List ℕ → Bool) → ((t : List ℕ) → Repeats t → F t ≡ false) → (us : List ℕ) → Repeats us → delta F us ≡ false
delta-repeats F none [] p = absurd p
delta-repeats F none (u ∷ []) p = absurd p
delta-repeats F none (u ∷ v ∷ us) p = ⊎_elim
    (λ (same : u ≡ v).
    (λ i. xor (F (sym same i ∷ us)) (xor (F (u ∷ us)) (delta-none (λ t. F (u ∷ v ∷ t)) (λ t. none (u ∷ v ∷ t) (inl same)) us i)))
    ∙ twice (F (u ∷ us)))
    (λ (later : Repeats (v ∷ us)).
    (λ i. xor (none (v ∷ us) later i) (delta-repeats (λ t. F (u ∷ t)) (λ t h. none (u ∷ t) (repeats-more u t h)) (v ∷ us) later i)))
    p
  where
    twice : (a : Bool) → xor a (xor a false) ≡ false
    twice true = refl
    twice false = refl

-- a cochain is zero at lists that repeat
pub repeats-none : (A : Complex) → IsComplex A → (b : Ids) (us : List ℕ) → Repeats us → value_at A b us ≡ false
repeats-none A c b us p = value_at-missing A b us (λ y y_in e.
    rises-apart 0 us (subst (Rises 0) e (Rises-ascending (simplex_at A y) (c.simplices y y_in).ascending)) p)

pub there-at : (K : Complex) (y : ℕ) → y < length K → is_there K (simplex_at K y) ≡ true
there-at K y y_in = list_any_at (same_list (simplex_at K y)) K y [] y_in (same_list-same (simplex_at K y) (simplex_at K y) refl)

pub there-as : (K : Complex) (y : ℕ) (s : List ℕ) → y < length K → simplex_at K y ≡ s → is_there K s ≡ true
there-as K y s y_in e = ap (is_there K) (sym e) ∙ there-at K y y_in

-- images climb, where those of each two vertices do
climbs-map : (m : ℕ → ℕ) (s : List ℕ) → ((u v : ℕ) → Picks (u ∷ v ∷ []) s → m u ≤ m v) → Climbs 0 (map m s)
climbs-map m [] h = tt
climbs-map m (u ∷ []) h = (omega arith, tt)
climbs-map m (u ∷ v ∷ s) h =
    let rest : Climbs 0 (map m (v ∷ s)) = climbs-map m (v ∷ s) (λ x y p. h x y (inr p)) in
    (omega arith, (h u v (inl (refl, inl (refl, tt))), rest.1))

module _ (K A : Complex) (m : ℕ → ℕ) where
  pub pull-at : (b : Ids) (x : ℕ) → x < length K → pull K A m b x ≡ evaluate (length A) b (carried K A m x)
  unfolding pull
  pull-at b x lt = ap (λ t. t && evaluate (length A) b (carried K A m x)) (lt-ltb x (length K) lt)

  pub pull-outside : (b : Ids) (x : ℕ) → length K ≤ x → pull K A m b x ≡ false
  unfolding pull
  pull-outside b x le = ap (λ t. t && evaluate (length A) b (carried K A m x)) (le-ltb x (length K) le)

  pub push-at : (c : Ids) (t : ℕ) → t < length A → push K A m c t ≡ image (length K) (carried K A m) c t
  unfolding push
  push-at c t lt = ap (λ b. b && image (length K) (carried K A m) c t) (lt-ltb t (length A) lt)

  pub push-member : (c : Ids) (t : ℕ) → push K A m c t ≡ true → (t < length A) × (image (length K) (carried K A m) c t ≡ true)
  unfolding push
  push-member c t e =
      let both = and_parts (nat_lt t (length A)) (image (length K) (carried K A m) c t) e in
      (ltb-true t (length A) both.0, both.1)

  pub pull-plus : (a b : Ids) → pull K A m (plus a b) ≡ plus (pull K A m a) (pull K A m b)
  unfolding pull
  pull-plus a b = same_members (pull K A m (plus a b)) (plus (pull K A m a) (pull K A m b)) (λ x.
      ap (λ t. nat_lt x (length K) && t) (evaluate-plus_cochain (length A) a b (carried K A m x))
      ∙ and-xor (nat_lt x (length K)) (evaluate (length A) a (carried K A m x)) (evaluate (length A) b (carried K A m x)))

  -- the pull is the transpose of the push
  pub pull-evaluates : (b c : Ids) → evaluate (length K) (pull K A m b) c ≡ evaluate (length A) b (push K A m c)
  pull-evaluates b c =
      odd-same (length K) _ _ (λ x lt. ap (λ t. t && c x) (pull-at b x lt))
      ∙ sym (evaluate-pulled (length A) (length K) b (carried K A m) c)
      ∙ odd-same (length A) _ _ (λ t lt. ap (λ z. b t && z) (sym (push-at c t lt)))

  pub push-chain : (p : ℕ) (c : Ids) → IsChain K p c → IsChain A p (push K A m c)
  push-chain p c chain = record {
    there = λ t e. (push-member c t e).0;
    degree = λ t e.
        let s : Source (length K) (carried K A m) c t = image-source (length K) (carried K A m) c t (push-member c t e).1 in
        let both = and_parts (spans (map m (simplex_at K s.at)) (simplex_at A t)) (nat_eq (length (simplex_at A t)) (length (simplex_at K s.at))) s.gives in
        ap (λ n. n - 1) (eqb-true (length (simplex_at A t)) (length (simplex_at K s.at)) both.1) ∙ chain.degree s.at s.member;
  }

module _ (K A : Complex) (k : IsComplex K) (a : IsComplex A) (m : ℕ → ℕ) (M : IsMap K A m) where
  abbrev pub images : ℕ → List ℕ
  images x = map m (simplex_at K x)

  pub image-climbs : (x : ℕ) → x < length K → Climbs 0 (images x)
  image-climbs x lt = climbs-map m (simplex_at K x) (λ u v p.
      let edge : Found K (u ∷ v ∷ []) = picks-found K k x (u ∷ v ∷ []) lt p (omega arith) in
      M.monotone u v (there-as K edge.id (u ∷ v ∷ []) edge.within edge.is))

  -- x is carried to the simplex with its images for vertices
  carried-is : (x t : ℕ) → x < length K → t < length A → carried K A m x t ≡ same_list (images x) (simplex_at A t)
  carried-is x t lt t_in = ⊎_elim
      (λ (same : same_list (images x) (simplex_at A t) ≡ true).
      let is : images x ≡ simplex_at A t = same_list-true (images x) (simplex_at A t) same in
      and_from (spans (images x) (simplex_at A t)) (nat_eq (length (simplex_at A t)) (length (simplex_at K x)))
      (ap (λ s. spans s (simplex_at A t)) is ∙ spans-self (simplex_at A t))
      (eq-eqb (length (simplex_at A t)) (length (simplex_at K x)) (ap length (sym is) ∙ map-length m (simplex_at K x)))
      ∙ sym same)
      (λ (other : same_list (images x) (simplex_at A t) ≡ false).
      false_from_ne_true (carried K A m x t) (λ e.
      let both = and_parts (spans (images x) (simplex_at A t)) (nat_eq (length (simplex_at A t)) (length (simplex_at K x))) e in
      let long : length (simplex_at A t) ≡ length (images x) =
      eqb-true (length (simplex_at A t)) (length (simplex_at K x)) both.1 ∙ sym (map-length m (simplex_at K x)) in
      true≢false (sym (same_list-same (images x) (simplex_at A t)
      (spans-same 0 0 (images x) (simplex_at A t) (image-climbs x lt) (Rises-ascending (simplex_at A t) (a.simplices t t_in).ascending) both.0 long)) ∙ other))
      ∙ sym other)
      (cases_Bool (same_list (images x) (simplex_at A t)))

  value-is : (b : Ids) (s : List ℕ) → value_at A b s ≡ odd (length A) (λ t. b t && same_list s (simplex_at A t))
  unfolding value_at
  value-is b s = refl

  pub pull-value : (b : Ids) (x : ℕ) → x < length K → pull K A m b x ≡ value_at A b (images x)
  pull-value b x lt =
      pull-at K A m b x lt
      ∙ odd-same (length A) _ _ (λ t t_in. ap (λ z. b t && z) (carried-is x t lt t_in))
      ∙ sym (value-is b (images x))

  pub image-cases : (x : ℕ) → x < length K → Found A (images x) ⊎ Repeats (images x)
  image-cases x lt = ⊎_elim
      (λ (up : Rises 0 (images x)).
      let some = any-some (spans (images x)) A (M.into (simplex_at K x) (there-at K x lt)) in
      inl (record {
        id = some.0;
        within = some.1;
        is = sym (spans-ascending 0 0 (images x) (simplex_at A some.0) up (Rises-ascending (simplex_at A some.0) (a.simplices some.0 some.1).ascending) some.2);
      }))
      (λ (twice : Repeats (images x)). inr twice)
      (climbs-cases 0 (images x) (image-climbs x lt))

  -- at the images the coboundary is the sum over the faces of their list, also where it repeats
  coboundary-images : (b : Ids) (x : ℕ) → x < length K → value_at A (coboundary A b) (images x) ≡ delta (value_at A b) (images x)
  coboundary-images b x lt = ⊎_elim
      (λ (found : Found A (images x)).
      value_at-coboundary A a b found.id (images x) found.within (subst (Picks (images x)) (sym found.is) (Picks-self (images x))))
      (λ (twice : Repeats (images x)).
      repeats-none A a (coboundary A b) (images x) twice
      ∙ sym (delta-repeats (value_at A b) (λ t p. repeats-none A a b t p) (images x) twice))
      (image-cases x lt)

  coboundary-pull_inside : (b : Ids) (x : ℕ) → x < length K → coboundary K (pull K A m b) x ≡ pull K A m (coboundary A b) x
  coboundary-pull_inside b x lt =
      odd-same (length K) _ _ (λ t t_in. ap (λ z. z && incidence K t x) (pull-value b t t_in))
      ∙ faces-delta K k (λ s. value_at A b (map m s)) (value_at-empty A a b) x lt
      ∙ sym (delta-map m (value_at A b) (simplex_at K x))
      ∙ sym (coboundary-images b x lt)
      ∙ sym (pull-value (coboundary A b) x lt)

  pub coboundary-pull : (b : Ids) → coboundary K (pull K A m b) ≡ pull K A m (coboundary A b)
  coboundary-pull b = same_members (coboundary K (pull K A m b)) (pull K A m (coboundary A b)) (λ x. ⊎_elim
      (λ (lt : x < length K). coboundary-pull_inside b x lt)
      (λ (le : length K ≤ x). coboundary-outside K (pull K A m b) x le ∙ sym (pull-outside K A m (coboundary A b) x le))
      (cases_lt x (length K)))

  -- the value of one simplex at a chain is whether it is a member
  boundary-push_inside : (c : Ids) (t : ℕ) → t < length A → boundary A (push K A m c) t ≡ push K A m (boundary K c) t
  boundary-push_inside c t lt =
      sym (odd-one (length A) t (boundary A (push K A m c)) lt)
      ∙ sym (evaluate-coboundary A (single t) (push K A m c))
      ∙ sym (pull-evaluates K A m (coboundary A (single t)) c)
      ∙ ap (λ z. evaluate (length K) z c) (sym (coboundary-pull (single t)))
      ∙ evaluate-coboundary K (pull K A m (single t)) c
      ∙ pull-evaluates K A m (single t) (boundary K c)
      ∙ odd-one (length A) t (push K A m (boundary K c)) lt

  pub boundary-push : (c : Ids) → boundary A (push K A m c) ≡ push K A m (boundary K c)
  boundary-push c = same_members (boundary A (push K A m c)) (push K A m (boundary K c)) (λ t. ⊎_elim
      (λ (lt : t < length A). boundary-push_inside c t lt)
      (λ (le : length A ≤ t).
      false_from_ne_true (boundary A (push K A m c) t) (λ e. omega (arith, le, boundary-within A a (push K A m c) t e))
      ∙ sym (false_from_ne_true (push K A m (boundary K c) t) (λ e. omega (arith, le, (push-member K A m (boundary K c) t e).0))))
      (cases_lt t (length A)))

  -- a member of a pull is a simplex that lies over a member
  pub pull-within : (b : Ids) (x : ℕ) → pull K A m b x ≡ true → x < length K
  pull-within b x e = ⊎_elim
      (λ (lt : x < length K). lt)
      (λ (le : length K ≤ x). absurd (true≢false (sym e ∙ pull-outside K A m b x le)))
      (cases_lt x (length K))

  pub pull-source : (b : Ids) (x : ℕ) → pull K A m b x ≡ true → (y : ℕ) × (y < length A) × (simplex_at A y ≡ images x) × (b y ≡ true)
  pull-source b x e = value_at-found A b (images x) (sym (pull-value b x (pull-within b x e)) ∙ e)

  pub pull-chain : (p : ℕ) (b : Ids) → IsChain A p b → IsChain K p (pull K A m b)
  pull-chain p b chain = record {
    there = λ x e. pull-within b x e;
    degree = λ x e.
        let s = pull-source b x e in
        ap (λ n. n - 1) (sym (ap length s.2 ∙ map-length m (simplex_at K x))) ∙ chain.degree s.0 s.3;
  }

  -- the value at the image, where it has as many vertices
  pub pull-over : (b : Ids) (x y : ℕ) → x < length K → y < length A → simplex_at A y ≡ images x → pull K A m b x ≡ b y
  pull-over b x y lt y_in e = pull-value b x lt ∙ ap (value_at A b) (sym e) ∙ value_at-there A a b y y_in

  -- and zero, where it has fewer
  pub pull-collapsed : (b : Ids) (x y : ℕ) → x < length K → y < length A → spans (images x) (simplex_at A y) ≡ true
      → length (simplex_at A y) < length (simplex_at K x) → pull K A m b x ≡ false
  pull-collapsed b x y lt y_in e less = false_from_ne_true (pull K A m b x) (λ one.
      let s = pull-source b x one in
      let up : Rises 0 (images x) =
      subst (Rises 0) s.2 (Rises-ascending (simplex_at A s.0) (a.simplices s.0 s.1).ascending) in
      let same : images x ≡ simplex_at A y =
      spans-ascending 0 0 (images x) (simplex_at A y) up (Rises-ascending (simplex_at A y) (a.simplices y y_in).ascending) e in
      omega (arith, less, ap length same, map-length m (simplex_at K x)))
