-- What makes a complex closed, and what does not.
--     closed-empty       the empty complex
--     closed-judged      of another the first uncovered simplex and the first faulty ridge tell it
--     not-pure, ridge, closed-all
--                        by what they are
use Rattle.std.proofs.Common.{◌≡◌, ℕ, suc, ◌+◌, [], ◌∷◌, Option, Some, None, refl, sym, ap, subst, ◌∙◌, arith}
use Rattle.std.specs.Prelude.{Ok, Err}
use Rattle.homology.specs.Complexes.{Complex, dimensions, simplex_at}
use Rattle.homology.specs.Kinds.{ids}
use Rattle.manifolds.specs.Closed.{Nothing, NotPure, Ridge, top, times, first_of, uncovered, ridges, ridges_of, faulty_ridges, judged, closed}
use Rattle.manifold_links.specs.Firsts.{IsFirst}

pub closed-empty : (K : Complex) → K ≡ [] → closed K ≡ Err Nothing
unfolding closed
closed-empty K e = ap closed e

pub closed-judged : (K : Complex) (n : ℕ) → n + 1 ≡ dimensions K → closed K ≡ judged K (first_of K (uncovered K)) (first_of K (faulty_ridges K))
unfolding closed
closed-judged [] n e = absurd (omega (arith, e))
closed-judged (s ∷ K) n e = refl

pub not-pure : (K : Complex) (n : ℕ) (first : Option ℕ) (id : ℕ) → n + 1 ≡ dimensions K → IsFirst K (uncovered K) first → first ≡ Some id
    → closed K ≡ Err (NotPure (simplex_at K id))
not-pure K n first id d F e =
    let G : IsFirst K (uncovered K) (Some id) = subst (λ (o : Option ℕ). IsFirst K (uncovered K) o) e F in
    closed-judged K n d ∙ ap (λ o. judged K o (first_of K (faulty_ridges K))) G.1

pub ridge : (K : Complex) (n : ℕ) (first second : Option ℕ) (id m : ℕ) → n + 1 ≡ dimensions K → IsFirst K (uncovered K) first → first ≡ None
    → IsFirst K (faulty_ridges K) second → second ≡ Some id → m ≡ times K (simplex_at K id) → closed K ≡ Err (Ridge (simplex_at K id) m)
ridge K n first second id m d F e G f is =
    let none : IsFirst K (uncovered K) None = subst (λ (o : Option ℕ). IsFirst K (uncovered K) o) e F in
    let some : IsFirst K (faulty_ridges K) (Some id) = subst (λ (o : Option ℕ). IsFirst K (faulty_ridges K) o) f G in
    closed-judged K n d ∙ (λ i. judged K (none i) (some.1 i)) ∙ ap (λ k. Err (Ridge (simplex_at K id) k)) (sym is)

pub closed-all : (K : Complex) (n : ℕ) (first second : Option ℕ) → n + 1 ≡ dimensions K → IsFirst K (uncovered K) first → first ≡ None
    → IsFirst K (faulty_ridges K) second → second ≡ None → closed K ≡ Ok n
closed-all K n first second d F e G f =
    let none : IsFirst K (uncovered K) None = subst (λ (o : Option ℕ). IsFirst K (uncovered K) o) e F in
    let no : IsFirst K (faulty_ridges K) None = subst (λ (o : Option ℕ). IsFirst K (faulty_ridges K) o) f G in
    closed-judged K n d ∙ (λ i. judged K (none i) (no i)) ∙ ap Ok (omega (arith, d))

-- vertices have no ridges; the ridges of another complex
pub ridges-none : (K : Complex) (n : ℕ) → n + 1 ≡ dimensions K → n ≡ 0 → ridges K ≡ []
ridges-none K n d e = let none : top K ≡ 0 = omega (arith, d, e) in ap (ridges_of K) none

pub ridges-some : (K : Complex) (n p : ℕ) → n + 1 ≡ dimensions K → p + 1 ≡ n → ridges K ≡ ids K p
ridges-some K n p d e = let some : top K ≡ suc p = omega (arith, d, e) in ap (ridges_of K) some
