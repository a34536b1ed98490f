-- Lists of images: what a list of vertices becomes under a map that keeps the order.
--     Climbs b us          us does not fall, and no number of it is below b
--     Repeats us           two neighbours of us are equal
--     climbs-cases         a list that climbs ascends or repeats
--     spans-same           a list that climbs has the vertices of an ascending one of the same length only where it is that
--     spans-self           each list has its own vertices
--     lies-map             images of vertices that lie in a list lie in its images
use Rattle.std.proofs.Common.{◌≡◌, ℕ, ◌+◌, ◌<◌, ◌≤◌, Bool, true, false, List, [], ◌∷◌, map, length, nat_eq, refl, sym, ap, ◌∙◌, arith, eqb-true, eq-eqb, ⊎_elim, inl, inr, ◌⊎◌}
use Rattle.std.proofs.lemmas.Bool.{true≢false, and_parts, and_from, or_cases, or_left, or_right, cases_eq, cases_lt, cases_Bool}
use Rattle.homology.specs.Sets.{set_of}
use Rattle.homology.proofs.ParityLaws.{nat_eq-self}
use Rattle.homology.proofs.ListSetLaws.{Rises, Rises-lower, ascending-Rises, set_of-below, same_ascending}
use Rattle.manifolds.specs.Closed.{lies_in}
use Rattle.maps.specs.Maps.{spans}

abbrev pub Climbs : ℕ → List ℕ → Type 0
Climbs b [] = Unit {0}
Climbs b (u ∷ us) = (b ≤ u) × Climbs u us

abbrev pub Repeats : List ℕ → Type 0
Repeats [] = ⊥
Repeats (u ∷ []) = ⊥
Repeats (u ∷ v ∷ us) = (u ≡ v) ⊎ Repeats (v ∷ us)

pub Climbs-lower : (b c : ℕ) (us : List ℕ) → b ≤ c → Climbs c us → Climbs b us
Climbs-lower b c [] le k = tt
Climbs-lower b c (u ∷ us) le k = (omega (arith, k.0), k.1)

pub climbs-cases : (b : ℕ) (us : List ℕ) → Climbs b us → Rises b us ⊎ Repeats us
climbs-cases b [] k = inl tt
climbs-cases b (u ∷ []) k = inl (k.0, tt)
climbs-cases b (u ∷ v ∷ us) k = ⊎_elim
    (λ (same : u ≡ v). inr (inl same))
    (λ (other : u ≡ v → ⊥). ⊎_elim
    (λ (up : Rises v (v ∷ us)). inl (k.0, (omega (arith, k.1.0, other), up.1)))
    (λ (twice : Repeats (v ∷ us)). inr (inr twice))
    (climbs-cases v (v ∷ us) (omega arith, k.1.1)))
    (cases_eq u v)

-- an ascending list has no two equal neighbours
pub rises-apart : (b : ℕ) (us : List ℕ) → Rises b us → Repeats us → ⊥
rises-apart b [] r p = p
rises-apart b (u ∷ []) r p = p
rises-apart b (u ∷ v ∷ us) r p = ⊎_elim
    (λ (same : u ≡ v). omega (arith, r.1.0, same))
    (λ (twice : Repeats (v ∷ us)). rises-apart (u + 1) (v ∷ us) r.1 twice)
    p

-- what lies in a list, by members
pub lies-member : (s t : List ℕ) → lies_in s t ≡ true → (q : ℕ) → set_of s q ≡ true → set_of t q ≡ true
lies-member [] t e q m = absurd (true≢false (sym m))
lies-member (x ∷ s) t e q m =
    let both : (set_of t x ≡ true) × (lies_in s t ≡ true) = and_parts (set_of t x) (lies_in s t) e in
    ⊎_elim
    (λ (here : nat_eq q x ≡ true). ap (set_of t) (eqb-true q x here) ∙ both.0)
    (λ (later : set_of s q ≡ true). lies-member s t both.1 q later)
    (or_cases (nat_eq q x) (set_of s q) m)

pub member-lies : (s t : List ℕ) → ((q : ℕ) → set_of s q ≡ true → set_of t q ≡ true) → lies_in s t ≡ true
member-lies [] t h = refl
member-lies (x ∷ s) t h =
    and_from (set_of t x) (lies_in s t)
    (h x (or_left (nat_eq x x) (set_of s x) (nat_eq-self x)))
    (member-lies s t (λ q m. h q (or_right (nat_eq q x) (set_of s q) m)))

-- the members of a list that climbs from b are not below b
climbs-least : (b : ℕ) (us : List ℕ) (q : ℕ) → Climbs b us → set_of us q ≡ true → b ≤ q
climbs-least b [] q k m = absurd (true≢false (sym m))
climbs-least b (u ∷ us) q k m = ⊎_elim
    (λ (here : nat_eq q u ≡ true). omega (arith, k.0, eqb-true q u here))
    (λ (later : set_of us q ≡ true). omega (arith, k.0, climbs-least u us q k.1 later))
    (or_cases (nat_eq q u) (set_of us q) m)

rises-least : (b : ℕ) (t : List ℕ) (q : ℕ) → Rises b t → set_of t q ≡ true → b ≤ q
rises-least b t q r m = ⊎_elim
    (λ (lt : q < b). absurd (true≢false (sym m ∙ set_of-below b t q r lt)))
    (λ (le : b ≤ q). le)
    (cases_lt q b)

first-member : (x : ℕ) (s : List ℕ) → set_of (x ∷ s) x ≡ true
first-member x s = or_left (nat_eq x x) (set_of s x) (nat_eq-self x)

-- a member that is not the first one
later-member : (x : ℕ) (s : List ℕ) (q : ℕ) → (q ≡ x → ⊥) → set_of (x ∷ s) q ≡ true → set_of s q ≡ true
later-member x s q apart m = ⊎_elim
    (λ (here : nat_eq q x ≡ true). absurd (apart (eqb-true q x here)))
    (λ (later : set_of s q ≡ true). later)
    (or_cases (nat_eq q x) (set_of s q) m)

-- an ascending list whose members are all in us is not longer than us
covers : (b : ℕ) (us t : List ℕ) → Climbs b us → Rises b t → ((q : ℕ) → set_of t q ≡ true → set_of us q ≡ true) → length t ≤ length us
covers b us [] k r h = omega arith
covers b [] (y ∷ t) k r h = absurd (true≢false (sym (h y (first-member y t))))
covers b (x ∷ us) (y ∷ t) k r h = ⊎_elim
    (λ (same : y ≡ x).
    let rest : length t ≤ length us = covers x us t k.1 (Rises-lower x (y + 1) t (omega (arith, same)) r.1)
    (λ q m. later-member x us q (λ e. omega (arith, rises-least (y + 1) t q r.1 m, e, same)) (h q (or_right (nat_eq q y) (set_of t q) m))) in
    omega (arith, rest))
    (λ (other : y ≡ x → ⊥).
    let above : x ≤ y = climbs-least x us y k.1 (later-member x us y other (h y (first-member y t))) in
    let rest : length (y ∷ t) ≤ length us = covers x us (y ∷ t) k.1 (above, r.1)
    (λ q m. later-member x us q (λ e. omega (arith, rises-least y (y ∷ t) q (omega arith, r.1) m, above, e, other)) (h q m)) in
    omega (arith, rest))
    (cases_eq y x)

same_vertices : (b : ℕ) (us t : List ℕ) → Climbs b us → Rises b t → ((q : ℕ) → set_of us q ≡ true → set_of t q ≡ true)
    → ((q : ℕ) → set_of t q ≡ true → set_of us q ≡ true) → length t ≡ length us → us ≡ t
same_vertices b [] [] k r f h e = refl
same_vertices b [] (y ∷ t) k r f h e = absurd (omega (arith, e))
same_vertices b (x ∷ us) [] k r f h e = absurd (omega (arith, e))
same_vertices b (x ∷ us) (y ∷ t) k r f h e = ⊎_elim again (once (same_vertices x us t k.1 up)) (cases_Bool (set_of us x))
  where
    same : y ≡ x
    same = omega (arith, rises-least y (y ∷ t) x (omega arith, r.1) (f x (first-member x us)), climbs-least x (x ∷ us) y (omega arith, k.1) (h y (first-member y t)))

    up : Rises x t
    up = Rises-lower x (y + 1) t (omega (arith, same)) r.1

    again : set_of us x ≡ true → (x ∷ us) ≡ (y ∷ t)
    again m = absurd (omega (
      arith,
      e,
      covers x us (y ∷ t) k.1 (omega (arith, same), r.1) (λ q n. ⊎_elim
          (λ (here : nat_eq q x ≡ true). ap (set_of us) (eqb-true q x here) ∙ m)
          (λ (later : set_of us q ≡ true). later)
          (or_cases (nat_eq q x) (set_of us q) (h q n))),
    ))

    once : (((q : ℕ) → set_of us q ≡ true → set_of t q ≡ true) → ((q : ℕ) → set_of t q ≡ true → set_of us q ≡ true) → length t ≡ length us → us ≡ t)
        → set_of us x ≡ false → (x ∷ us) ≡ (y ∷ t)
    once rest out = λ i. sym same i ∷ rest
        (λ q m. later-member y t q (λ g. true≢false (sym m ∙ ap (set_of us) (g ∙ same) ∙ out)) (f q (or_right (nat_eq q x) (set_of us q) m)))
        (λ q m. later-member x us q (λ g. omega (arith, rises-least (y + 1) t q r.1 m, g, same)) (h q (or_right (nat_eq q y) (set_of t q) m)))
        (omega (arith, e)) i

pub spans-same : (b c : ℕ) (us t : List ℕ) → Climbs b us → Rises c t → spans us t ≡ true → length t ≡ length us → us ≡ t
spans-same b c us t k r e long =
    let both : (lies_in us t ≡ true) × (lies_in t us ≡ true) = and_parts (lies_in us t) (lies_in t us) e in
    same_vertices 0 us t (Climbs-lower 0 b us (omega arith) k) (Rises-lower 0 c t (omega arith) r)
    (lies-member us t both.0) (lies-member t us both.1) long

-- two ascending lists with the same vertices
pub spans-ascending : (b c : ℕ) (us t : List ℕ) → Rises b us → Rises c t → spans us t ≡ true → us ≡ t
spans-ascending b c us t r q e =
    let both : (lies_in us t ≡ true) × (lies_in t us ≡ true) = and_parts (lies_in us t) (lies_in t us) e in
    same_ascending us t (ascending-Rises b us r) (ascending-Rises c t q)
    (λ i v. either_way (set_of us v) (set_of t v) (lies-member us t both.0 v) (lies-member t us both.1 v) i)
  where
    either_way : (a b : Bool) → (a ≡ true → b ≡ true) → (b ≡ true → a ≡ true) → a ≡ b
    either_way true b f g = sym (f refl)
    either_way false true f g = g refl
    either_way false false f g = refl

pub spans-self : (t : List ℕ) → spans t t ≡ true
spans-self t = and_from (lies_in t t) (lies_in t t) (member-lies t t (λ q m. m)) (member-lies t t (λ q m. m))

-- the images of members are members of the images
map-member : (m : ℕ → ℕ) (t : List ℕ) (q : ℕ) → set_of t q ≡ true → set_of (map m t) (m q) ≡ true
map-member m [] q e = absurd (true≢false (sym e))
map-member m (x ∷ t) q e = ⊎_elim
    (λ (here : nat_eq q x ≡ true). or_left (nat_eq (m q) (m x)) (set_of (map m t) (m q)) (eq-eqb (m q) (m x) (ap m (eqb-true q x here))))
    (λ (later : set_of t q ≡ true). or_right (nat_eq (m q) (m x)) (set_of (map m t) (m q)) (map-member m t q later))
    (or_cases (nat_eq q x) (set_of t q) e)

pub lies-map : (m : ℕ → ℕ) (s t : List ℕ) → lies_in s t ≡ true → lies_in (map m s) (map m t) ≡ true
lies-map m [] t e = refl
lies-map m (x ∷ s) t e =
    let both : (set_of t x ≡ true) × (lies_in s t ≡ true) = and_parts (set_of t x) (lies_in s t) e in
    and_from (set_of (map m t) (m x)) (lies_in (map m s) (map m t)) (map-member m t x both.0) (lies-map m s t both.1)

pub spans-map : (m : ℕ → ℕ) (s t : List ℕ) → spans s t ≡ true → spans (map m s) (map m t) ≡ true
spans-map m s t e =
    let both : (lies_in s t ≡ true) × (lies_in t s ≡ true) = and_parts (lies_in s t) (lies_in t s) e in
    and_from (lies_in (map m s) (map m t)) (lies_in (map m t) (map m s)) (lies-map m s t both.0) (lies-map m t s both.1)

-- one after another
pub spans-through : (s t u : List ℕ) → spans s t ≡ true → spans t u ≡ true → spans s u ≡ true
spans-through s t u e f =
    let here : (lies_in s t ≡ true) × (lies_in t s ≡ true) = and_parts (lies_in s t) (lies_in t s) e in
    let there : (lies_in t u ≡ true) × (lies_in u t ≡ true) = and_parts (lies_in t u) (lies_in u t) f in
    and_from (lies_in s u) (lies_in u s)
    (member-lies s u (λ q m. lies-member t u there.0 q (lies-member s t here.0 q m)))
    (member-lies u s (λ q m. lies-member t s here.1 q (lies-member u t there.1 q m)))
