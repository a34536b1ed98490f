-- Relative classes: each search has exactly one candidate that passes.
--     canonical-found, canonical-one        the canonical relative cocycle of a word
--     class-value, class_of-value, class-one, class-found   the relative class word of a relative cocycle; it has the k at whose stopping
--                                           chain the cocycle is 1
--     stopping-cycle                        the stopping chains of classes are relative cycles
--     class-same, class-zero                words and coboundaries
use Rattle.std.proofs.Common.{◌≡◌, ◌↔◌, ℕ, ◌+◌, ◌<◌, Bool, true, false, ◌&&◌, ◌||◌, not, List, [], length, refl, sym, ap, ◌∙◌, subst, arith, ⊎_elim, ◌⊎◌, inl, inr}
use Rattle.std.specs.List.{list_any, range_with_len}
use Rattle.std.specs.List.Sorted.{IsStrictlyIncreasing}
use Rattle.std.proofs.lemmas.Bool.{and_parts, and_from, cases_Bool, cases_eq, false_from_ne_true}
use Rattle.std.proofs.lemmas.List.Sums.{length-filter}
use Rattle.homology.specs.Parity.{xor}
use Rattle.homology.specs.Sets.{Ids, empty, plus, set_of, evaluate}
use Rattle.homology.specs.Complexes.{Complex, IsComplex, dim}
use Rattle.homology.specs.Chains.{coboundary}
use Rattle.homology.specs.Kinds.{sublists, ids, is_empty}
use Rattle.homology.proofs.ParityLaws.{xor-self, and-false, odd-none}
use Rattle.homology.proofs.SetLaws.{plus-empty}
use Rattle.homology.proofs.EvaluationLaws.{evaluate-plus_cochain}
use Rattle.homology.proofs.KindLaws.{set_of-filter, set_of-ids, set_of-ids_holds, sublists-filter}
use Rattle.homology.proofs.ListSetLaws.{ascending-Rises}
use Rattle.cohomology.specs.Searches.{first, is_cocycle}
use Rattle.cohomology.proofs.Searching.{FirstWord, first-word, ids-rise, filter-rises}
use Rattle.cohomology.proofs.Canonicals.{none-below, is_empty-below, xor-none}
use Rattle.cohomology.proofs.ClassLaws.{sums-first, sums-last}
use Rattle.pairs.specs.Pairs.{IsPart, is_outside, IsRelativeChain, relative_chains, IsRelativeCycle, IsRelativeCocycle, IsRelativeCoboundary, is_relatively_positive, is_relatively_negative, is_relatively_bounding, is_relatively_essential, relative_betti}
use Rattle.pairs.specs.RelativeClasses.{relative_essentials, relative_essential_at, IsRelativeClass, relative_classes, relative_simplices_of, IsRelativeCanonical, strays_relatively, relative_canonical, is_relative_coboundary, relative_class_of}
use Rattle.pairs.specs.Sequences.{IsStoppingChain, stopping_chain}
use Rattle.pairs.proofs.RelativeKinds.{RelativeWith, outside-parts, relative-plus, relative-empty, relative-first}
use Rattle.pairs.proofs.Prescribed.{answer, answer-chain, answer-free, answer-coboundary}
use Rattle.pairs.proofs.RelativeCycles.{essential-free, negative-free, negative-not_essential, stopping-found, stopping-value, zero-at_cycles}
use Rattle.pairs.proofs.Numbering.{at-member, Number, number, named-at, named-member, word_of, word_of-ascending, word_of-numbers, word_of-at, words-one}
use Rattle.pairs.proofs.RelativeBounds.{coboundary-at_cycle, plus-relative_coboundary, plus-relative_cocycle, test-coboundary, coboundary-tests, values-one, zero-coboundary}

module _ (K A : Complex) (k : IsComplex K) (a_ok : IsComplex A) (part : IsPart K A) where
  abbrev n : ℕ
  n = length K

  pub canonical-one : (p : ℕ) (w : List ℕ) (a b : Ids) → IsRelativeCanonical K A p w a → IsRelativeCanonical K A p w b → a ≡ b
  canonical-one p w a b X Y = values-one K A k a_ok part p a b X.cocycle Y.cocycle
      (λ t e. X.negative t e ∙ sym (Y.negative t e))
      (λ t e. X.essential t e ∙ sym (Y.essential t e))

  module _ (p : ℕ) where
    abbrev E : List ℕ
    E = relative_essentials K A p

    up : IsStrictlyIncreasing E
    up = ascending-Rises 0 E (filter-rises (is_relatively_essential K A) (ids K p) (ids-rise K p))

    len : length E ≡ relative_betti K A p
    len = length-filter (is_relatively_essential K A) (ids K p)

    E-parts : (t : ℕ) → set_of E t ≡ true → (is_relatively_essential K A t ≡ true) × (dim K t ≡ p)
    E-parts t e =
        let both = and_parts (is_relatively_essential K A t) (set_of (ids K p) t) (sym (set_of-filter (is_relatively_essential K A) (ids K p) t) ∙ e) in
        (both.0, (set_of-ids K p t both.1).1)

    E-from : (t : ℕ) → is_relatively_essential K A t ≡ true → dim K t ≡ p → set_of E t ≡ true
    E-from t e d =
        set_of-filter (is_relatively_essential K A) (ids K p) t
        ∙ and_from (is_relatively_essential K A t) (set_of (ids K p) t) e
        (set_of-ids_holds K p t (outside-parts K A t (essential-free K A k a_ok part t e).0).0 d)

    simplices-parts : (w : List ℕ) → IsRelativeClass K A p w → (t : ℕ) → relative_simplices_of K A p w t ≡ true
        → (is_relatively_essential K A t ≡ true) × (dim K t ≡ p)
    simplices-parts w W t e = E-parts t (named-member E up (relative_betti K A p) len w W.numbers t e)

    -- the canonical cocycle of a word
    canonical-exists : (w : List ℕ) → IsRelativeClass K A p w → IsRelativeCanonical K A p w (answer K A p empty (relative_simplices_of K A p w))
    canonical-exists w W = record {
      cocycle = record {
        cochain = chain;
        closed = λ x _. answer-coboundary K A p empty H k (λ c _ _. odd-none n _ (λ t _. refl)) a_ok part (relative-empty K A (p + 1)) x;
      };
      essential = λ t e. let f = essential-free K A k a_ok part t e in at t f.0 f.1;
      negative = λ t e.
          let f = negative-free K A k a_ok part t e in
          at t f.0 f.1 ∙ false_from_ne_true (H t) (λ m. negative-not_essential K A k a_ok part t e (simplices-parts w W t m).0);
    }
      where
        H : Ids
        H = relative_simplices_of K A p w

        chain : IsRelativeChain K A p (answer K A p empty H)
        chain = answer-chain K A p empty H

        at : (t : ℕ) → is_outside K A t ≡ true → is_relatively_bounding K A t ≡ false → answer K A p empty H t ≡ H t
        at t out free = ⊎_elim
            (λ (d : dim K t ≡ p). answer-free K A p empty H t out d free)
            (λ (other : dim K t ≡ p → ⊥).
            false_from_ne_true (answer K A p empty H t) (λ m. other (chain.chain.degree t m))
            ∙ sym (false_from_ne_true (H t) (λ m. other (simplices-parts w W t m).1)))
            (cases_eq (dim K t) p)

    abbrev canonical_at : List ℕ → Ids → Bool
    canonical_at w r = is_cocycle K r && is_empty n (strays_relatively K A (relative_simplices_of K A p w) r)

    canonical-is : (w : List ℕ) → relative_canonical K A p w ≡ first (λ r. canonical_at w (set_of r)) (relative_chains K A p)
    unfolding relative_canonical
    canonical-is w = refl

    tests-canonical : (w : List ℕ) (r : Ids) → IsRelativeChain K A p r → canonical_at w r ≡ true → IsRelativeCanonical K A p w r
    tests-canonical w r chain e =
        let both = and_parts (is_cocycle K r) (is_empty n (strays_relatively K A (relative_simplices_of K A p w) r)) e in
        let none = none-below n (strays_relatively K A (relative_simplices_of K A p w) r) both.1 in
        record {
          cocycle = record { cochain = chain; closed = none-below n (coboundary K r) both.0 };
          essential = λ t h. xor-none (r t) (relative_simplices_of K A p w t)
              (left (xor (r t) (relative_simplices_of K A p w t)) (is_relatively_negative K A t && r t)
              (sym (ap (λ b. (b && xor (r t) (relative_simplices_of K A p w t)) || (is_relatively_negative K A t && r t)) h)
              ∙ none t (outside-parts K A t (essential-free K A k a_ok part t h).0).0));
          negative = λ t h.
              right (is_relatively_essential K A t && xor (r t) (relative_simplices_of K A p w t)) (r t)
              (sym (ap (λ b. (is_relatively_essential K A t && xor (r t) (relative_simplices_of K A p w t)) || (b && r t)) h)
              ∙ none t (outside-parts K A t (negative-free K A k a_ok part t h).0).0);
        }
      where
        left : (x y : Bool) → (x || y) ≡ false → x ≡ false
        left true y e = e
        left false y e = refl

        right : (x y : Bool) → (x || y) ≡ false → y ≡ false
        right true true e = e
        right true false e = refl
        right false y e = e

    canonical-tests : (w : List ℕ) (r : Ids) → IsRelativeCanonical K A p w r → canonical_at w r ≡ true
    canonical-tests w r R = and_from (is_cocycle K r) (is_empty n (strays_relatively K A (relative_simplices_of K A p w) r))
        (is_empty-below n (coboundary K r) R.cocycle.closed)
        (is_empty-below n (strays_relatively K A (relative_simplices_of K A p w) r) (λ t _. λ i.
        essential t (cases_Bool (is_relatively_essential K A t)) i || negative t (cases_Bool (is_relatively_negative K A t)) i))
      where
        essential : (t : ℕ) → (is_relatively_essential K A t ≡ true) ⊎ (is_relatively_essential K A t ≡ false)
            → (is_relatively_essential K A t && xor (r t) (relative_simplices_of K A p w t)) ≡ false
        essential t (inl h) =
            ap (λ b. is_relatively_essential K A t && xor b (relative_simplices_of K A p w t)) (R.essential t h)
            ∙ ap (λ b. is_relatively_essential K A t && b) (xor-self (relative_simplices_of K A p w t))
            ∙ and-false (is_relatively_essential K A t)
        essential t (inr h) = ap (λ b. b && xor (r t) (relative_simplices_of K A p w t)) h

        negative : (t : ℕ) → (is_relatively_negative K A t ≡ true) ⊎ (is_relatively_negative K A t ≡ false) → (is_relatively_negative K A t && r t) ≡ false
        negative t (inl h) = ap (λ b. is_relatively_negative K A t && b) (R.negative t h) ∙ and-false (is_relatively_negative K A t)
        negative t (inr h) = ap (λ b. b && r t) h

    canonical-candidate : (w : List ℕ) → IsRelativeClass K A p w → RelativeWith K A p (canonical_at w)
    canonical-candidate w W =
        let R = canonical-exists w W in
        record {
          set = answer K A p empty (relative_simplices_of K A p w);
          chain = R.cocycle.cochain;
          passes = canonical-tests w (answer K A p empty (relative_simplices_of K A p w)) R;
        }

    pub canonical-found : (w : List ℕ) → IsRelativeClass K A p w → IsRelativeCanonical K A p w (set_of (relative_canonical K A p w))
    canonical-found w W =
        let found = relative-first K A p (canonical_at w) (canonical-candidate w W) in
        subst (λ r. IsRelativeCanonical K A p w (set_of r)) (sym (canonical-is w))
        (tests-canonical w (set_of (first (λ r. canonical_at w (set_of r)) (relative_chains K A p))) found.1 found.0)

    pub canonical-ascending : (w : List ℕ) → IsRelativeClass K A p w → IsStrictlyIncreasing (relative_canonical K A p w)
    canonical-ascending w W =
        subst IsStrictlyIncreasing (sym (canonical-is w)) (relative-first K A p (canonical_at w) (canonical-candidate w W)).2

    -- the value of a cocycle at the stopping chain of a class
    pub at_class : Ids → ℕ → Bool
    at_class r h = evaluate n r (set_of (stopping_chain K A p h))

    stopping : (h : ℕ) → is_relatively_essential K A h ≡ true → dim K h ≡ p → IsStoppingChain K A p h (set_of (stopping_chain K A p h))
    stopping h e d = stopping-found K A k a_ok part p h (and_parts (is_relatively_positive K A h) (not (is_relatively_bounding K A h)) e).0 d

    canonical-value : (w : List ℕ) → IsRelativeClass K A p w → (h : ℕ) → is_relatively_essential K A h ≡ true → dim K h ≡ p
        → evaluate n (set_of (relative_canonical K A p w)) (set_of (stopping_chain K A p h)) ≡ relative_simplices_of K A p w h
    canonical-value w W h e d =
        let R = canonical-found w W in
        stopping-value K A k a_ok part p h (set_of (stopping_chain K A p h)) (set_of (relative_canonical K A p w)) (stopping h e d) R.negative
        ∙ R.essential h e

    pub class-value : (r : Ids) (w : List ℕ) → IsRelativeClass K A p w → IsRelativeCoboundary K A p (plus r (set_of (relative_canonical K A p w)))
        → (j : ℕ) → j < relative_betti K A p → set_of w j ≡ at_class r (relative_essential_at K A p j)
    unfolding at_class
    class-value r w W e j lt =
        let parts = E-parts (relative_essential_at K A p j) (at-member E up (relative_betti K A p) len j lt) in
        let h = relative_essential_at K A p j in
        sym (named-at E up (relative_betti K A p) len w W.numbers j lt)
        ∙ sym (canonical-value w W h parts.0 parts.1)
        ∙ sym (xor-none (evaluate n r (set_of (stopping_chain K A p h))) (evaluate n (set_of (relative_canonical K A p w)) (set_of (stopping_chain K A p h)))
        (sym (evaluate-plus_cochain n r (set_of (relative_canonical K A p w)) (set_of (stopping_chain K A p h)))
        ∙ coboundary-at_cycle K A p (plus r (set_of (relative_canonical K A p w))) (set_of (stopping_chain K A p h)) e (stopping h parts.0 parts.1).cycle.closed))

    pub class-one : (r : Ids) (w v : List ℕ) → IsRelativeClass K A p w → IsRelativeClass K A p v
        → IsRelativeCoboundary K A p (plus r (set_of (relative_canonical K A p w)))
        → IsRelativeCoboundary K A p (plus r (set_of (relative_canonical K A p v))) → w ≡ v
    class-one r w v W V d e = words-one E up (relative_betti K A p) len w v W.ascending V.ascending W.numbers V.numbers
        (λ j lt. class-value r w W d j lt ∙ sym (class-value r v V e j lt))

    -- the word of the values at stopping chains
    word : Ids → List ℕ
    word r = word_of E up (relative_betti K A p) len (at_class r)

    word-class : (r : Ids) → IsRelativeClass K A p (word r)
    unfolding word
    word-class r = record {
      ascending = word_of-ascending E up (relative_betti K A p) len (at_class r);
      numbers = word_of-numbers E up (relative_betti K A p) len (at_class r);
    }

    word-value : (r : Ids) (h : ℕ) → is_relatively_essential K A h ≡ true → dim K h ≡ p → relative_simplices_of K A p (word r) h ≡ at_class r h
    unfolding word
    word-value r h e d =
        let N : Number E up (relative_betti K A p) len h = number E up (relative_betti K A p) len h (E-from h e d) in
        subst (λ x. relative_simplices_of K A p (word r) x ≡ at_class r x) N.is
        (named-at E up (relative_betti K A p) len (word r) (word-class r).numbers N.number N.below
        ∙ word_of-at E up (relative_betti K A p) len (at_class r) N.number N.below)

    word-passes : (r : Ids) → IsRelativeCocycle K A p r → IsRelativeCoboundary K A p (plus r (set_of (relative_canonical K A p (word r))))
    unfolding at_class
    word-passes r R =
        let C = canonical-found (word r) (word-class r) in
        let c = set_of (relative_canonical K A p (word r)) in
        let sum = plus-relative_cocycle K A p r c R C.cocycle in
        zero-coboundary K A k a_ok part p (plus r c) sum (zero-at_cycles K A k a_ok part p (plus r c) sum (λ h e d.
        evaluate-plus_cochain n r c (set_of (stopping_chain K A p h))
        ∙ ap (xor (at_class r h)) (canonical-value (word r) (word-class r) h e d ∙ word-value r h e d)
        ∙ xor-self (at_class r h)))

    abbrev in_class : Ids → List ℕ → Bool
    in_class r w = is_relative_coboundary K A p (plus r (set_of (relative_canonical K A p w)))

    class_of-is : (r : Ids) → relative_class_of K A p r ≡ first (in_class r) (relative_classes K A p)
    unfolding relative_class_of
    class_of-is r = refl

    pub class-found : (r : Ids) → IsRelativeCocycle K A p r → IsRelativeClass K A p (relative_class_of K A p r)
        × IsRelativeCoboundary K A p (plus r (set_of (relative_canonical K A p (relative_class_of K A p r))))
    unfolding word
    class-found r R =
        subst (λ w. IsRelativeClass K A p w × IsRelativeCoboundary K A p (plus r (set_of (relative_canonical K A p w)))) (sym (class_of-is r))
        (by (first-word (relative_betti K A p) (in_class r) some))
      where
        some : list_any (in_class r) (sublists (range_with_len 0 (relative_betti K A p))) ≡ true
        some = sublists-filter (range_with_len 0 (relative_betti K A p)) (in_class r) (λ j. at_class r (relative_essential_at K A p j))
            (coboundary-tests K A p (plus r (set_of (relative_canonical K A p (word r)))) (word-passes r R))

        by : FirstWord (relative_betti K A p) (in_class r) (first (in_class r) (relative_classes K A p))
            → IsRelativeClass K A p (first (in_class r) (relative_classes K A p))
            × IsRelativeCoboundary K A p (plus r (set_of (relative_canonical K A p (first (in_class r) (relative_classes K A p)))))
        by F =
            let w = first (in_class r) (relative_classes K A p) in
            let W : IsRelativeClass K A p w = record { ascending = F.ascending; numbers = F.numbers } in
            let C = canonical-found w W in (
              W,
              test-coboundary K A p (plus r (set_of (relative_canonical K A p w)))
                  (relative-plus K A p r (set_of (relative_canonical K A p w)) R.cochain C.cocycle.cochain) F.passes,
            )

    pub class_of-value : (r : Ids) → IsRelativeCocycle K A p r → (j : ℕ) → j < relative_betti K A p
        → set_of (relative_class_of K A p r) j ≡ evaluate n r (set_of (stopping_chain K A p (relative_essential_at K A p j)))
    unfolding at_class
    class_of-value r R = let found = class-found r R in class-value r (relative_class_of K A p r) found.0 found.1

    pub stopping-cycle : (j : ℕ) → j < relative_betti K A p → IsRelativeCycle K A p (set_of (stopping_chain K A p (relative_essential_at K A p j)))
    stopping-cycle j lt =
        let parts = E-parts (relative_essential_at K A p j) (at-member E up (relative_betti K A p) len j lt) in
        (stopping (relative_essential_at K A p j) parts.0 parts.1).cycle

    -- two cocycles have one word exactly where their sum is a coboundary
    pub class-same : (a b : Ids) → IsRelativeCocycle K A p a → IsRelativeCocycle K A p b
        → (relative_class_of K A p a ≡ relative_class_of K A p b) ↔ IsRelativeCoboundary K A p (plus a b)
    class-same a b X Y = (
      λ same.
          let c = set_of (relative_canonical K A p (relative_class_of K A p b)) in
          subst (IsRelativeCoboundary K A p) (sums-last a b c)
          (plus-relative_coboundary K A p (plus a c) (plus b c)
          (subst (λ w. IsRelativeCoboundary K A p (plus a (set_of (relative_canonical K A p w)))) same (class-found a X).1) (class-found b Y).1),
      λ e.
          let c = set_of (relative_canonical K A p (relative_class_of K A p a)) in
          class-one b (relative_class_of K A p a) (relative_class_of K A p b) (class-found a X).0 (class-found b Y).0
          (subst (IsRelativeCoboundary K A p) (sums-first a b c)
          (plus-relative_coboundary K A p (plus a b) (plus a c) e (class-found a X).1))
          (class-found b Y).1,
    )

    -- the empty word is zero
    no_class : IsRelativeClass K A p []
    no_class = record { ascending = λ j h. absurd (omega (arith, h)); numbers = λ j d h. absurd (omega (arith, h)) }

    canonical-none : set_of (relative_canonical K A p []) ≡ empty
    canonical-none = canonical-one p [] _ empty (canonical-found [] no_class) (record {
      cocycle = record { cochain = relative-empty K A p; closed = λ x _. odd-none n _ (λ t _. refl) };
      essential = λ t _. refl;
      negative = λ t _. refl;
    })

    pub class-zero : (r : Ids) → IsRelativeCocycle K A p r → (relative_class_of K A p r ≡ []) ↔ IsRelativeCoboundary K A p r
    class-zero r R = (
      λ none. subst (IsRelativeCoboundary K A p) (same none) (class-found r R).1,
      λ e. class-one r (relative_class_of K A p r) [] (class-found r R).0 no_class (class-found r R).1
          (subst (IsRelativeCoboundary K A p) (sym (ap (plus r) canonical-none ∙ plus-empty r)) e),
    )
      where
        same : relative_class_of K A p r ≡ [] → plus r (set_of (relative_canonical K A p (relative_class_of K A p r))) ≡ r
        same none = ap (λ w. plus r (set_of (relative_canonical K A p w))) none ∙ ap (plus r) canonical-none ∙ plus-empty r
