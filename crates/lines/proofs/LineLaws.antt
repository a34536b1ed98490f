-- What a line has grown to, when it gets longer, and how long it may get.
--     grown-more, grown-append               behind one more entry, and behind more
--     simplices-attached                     simplices that came in stand at the end
--     cuts-more, returns-more, cuts-attached the counts
--     versions-count, version-kept           one version for each cut, and version 0; none changes
--     legal-more, legal-front                a legal line with one entry more, and its first entries
--     accepted-room                          where a simplex is accepted there is room
--     legal-short                            a legal line has few entries
use Rattle.std.proofs.Common.{◌≡◌, ◌⊎◌, inl, inr, ℕ, zero, suc, ◌+◌, ◌*◌, ◌-◌, ◌<◌, ◌≤◌, Bool, true, false, cond, List, [], ◌∷◌, ◌++◌, length, take, drop, map, nat_lt, Option, Some, None, refl, sym, ap, ◌∙◌, subst, arith, ltb-true, append_assoc, append-nil, length-append, add-one}
use Rattle.std.specs.Prelude.{slice_index_or, count_by, not}
use Rattle.std.specs.List.{fold, find, position}
use Rattle.std.proofs.lemmas.Bool.{true≢false, cases_lt}
use Rattle.std.proofs.lemmas.List.{take_more, get_or_append_left, get_or_push, get_or-take, take-append-le, take_all, take-take}
use Rattle.std.proofs.lemmas.List.Sums.{fold-append, sum_by-append}
use Rattle.homology.specs.Simplices.{same_list}
use Rattle.homology.specs.Complexes.{Complex}
use Rattle.homology.specs.Growth.{Verdict, Accepted, There, MissingFace, Full, capacity, faces, is_there, judge, verdict_of}
use Rattle.lines.specs.Lines.{callers, cut_capacity, return_capacity, Entry, Attach, Cut, Back, Line, Grown, next, nothing, grown, simplices, version, is_cut, is_return, cuts, returns, Follows, entry_at, IsLegal}
use Rattle.lines.specs.Changes.{attached}

pub grown-append : (L M : Line) → grown (L ++ M) ≡ fold next (grown L) M
unfolding grown
grown-append L M = fold-append next nothing L M

pub grown-more : (L : Line) (e : Entry) → grown (L ++ e ∷ []) ≡ next (grown L) e
grown-more L e = grown-append L (e ∷ [])

-- simplices that come in
fold-attached : (g : Grown) (c : ℕ) (S : Complex) → fold next g (attached c S) ≡ record g { complex = g.complex ++ S }
fold-attached g c [] = ap (λ (K : Complex). record g { complex = K }) (sym (append-nil g.complex))
fold-attached g c (s ∷ S) =
    fold-attached (next g (Attach c s)) c S ∙ ap (λ (K : Complex). record g { complex = K }) (append_assoc g.complex (s ∷ []) S)

pub grown-attached : (L : Line) (c : ℕ) (S : Complex) → grown (L ++ attached c S) ≡ record (grown L) { complex = simplices L ++ S }
grown-attached L c S = grown-append L (attached c S) ∙ fold-attached (grown L) c S

pub simplices-attached : (L : Line) (c : ℕ) (S : Complex) → simplices (L ++ attached c S) ≡ simplices L ++ S
simplices-attached L c S = ap (λ g. g.complex) (grown-attached L c S)

pub cuts-append : (L M : Line) → cuts (L ++ M) ≡ cuts L + cuts M
cuts-append L M = sum_by-append (λ e. cond (is_cut e) 1 0) L M

pub returns-append : (L M : Line) → returns (L ++ M) ≡ returns L + returns M
returns-append L M = sum_by-append (λ e. cond (is_return e) 1 0) L M

pub cuts-attached : (c : ℕ) (S : Complex) → cuts (attached c S) ≡ 0
cuts-attached c [] = refl
cuts-attached c (s ∷ S) = omega (arith, cuts-append (Attach c s ∷ []) (attached c S), cuts-attached c S)

-- one version for each cut, behind those there are
versions-fold : (g : Grown) (M : Line) → length (fold next g M).versions ≡ length g.versions + cuts M
versions-fold g [] = omega arith
versions-fold g (Attach c s ∷ M) = versions-fold (next g (Attach c s)) M ∙ omega (arith, cuts-append (Attach c s ∷ []) M)
versions-fold g (Cut c ∷ M) =
    versions-fold (next g (Cut c)) M ∙ omega (arith, cuts-append (Cut c ∷ []) M, length-append g.versions (g.complex ∷ []))
versions-fold g (Back c v ∷ M) = versions-fold (next g (Back c v)) M ∙ omega (arith, cuts-append (Back c v ∷ []) M)

pub versions-count : (L : Line) → length (grown L).versions ≡ cuts L + 1
unfolding grown
versions-count L = versions-fold nothing L ∙ omega arith

-- no version changes
version-fold : (g : Grown) (M : Line) (v : ℕ) → v < length g.versions → slice_index_or (fold next g M).versions v [] ≡ slice_index_or g.versions v []
version-fold g [] v below = refl
version-fold g (Attach c s ∷ M) v below = version-fold (next g (Attach c s)) M v below
version-fold g (Cut c ∷ M) v below =
    version-fold (next g (Cut c)) M v (omega (arith, below, length-append g.versions (g.complex ∷ []))) ∙ get_or_append_left g.versions (g.complex ∷ []) [] v below
version-fold g (Back c v2 ∷ M) v below = version-fold (next g (Back c v2)) M v below

pub version-kept : (L M : Line) (v : ℕ) → v ≤ cuts L → version (L ++ M) v ≡ version L v
version-kept L M v below =
    ap (λ g. slice_index_or g.versions v []) (grown-append L M) ∙ version-fold (grown L) M v (omega (arith, below, versions-count L))

-- a legal line with one entry more
pub legal-more : (L : Line) (e : Entry) → IsLegal L → Follows L e → IsLegal (L ++ e ∷ [])
legal-more L e legal follows = record { each = λ k below. at k below (cases_lt k (length L)) }
  where
    at : (k : ℕ) → k < length (L ++ e ∷ []) → (k < length L) ⊎ (length L ≤ k) → Follows (take k (L ++ e ∷ [])) (entry_at (L ++ e ∷ []) k)
    at k in_whole (inl below) = rw (take-append-le k L (e ∷ []) (omega (arith, below)), get_or_append_left L (e ∷ []) (Cut 0) k below) (legal.each k below)
    at k in_whole (inr past) =
        let last : length L ≡ k = omega (arith, past, in_whole, length-append L (e ∷ [])) in
        let whole : take k (L ++ e ∷ []) ≡ L = take-append-le k L (e ∷ []) (omega (arith, last)) ∙ take_all k L (omega (arith, last)) in
        rw (whole, get_or_push L e (Cut 0) k last) follows

front-within : (n : ℕ) (L : Line) (k : ℕ) → k < length (take n L) → (k < n) × (k < length L)
front-within zero L k below = absurd (omega (arith, below))
front-within (suc n) [] k below = absurd (omega (arith, below))
front-within (suc n) (e ∷ L) zero below = (omega arith, omega arith)
front-within (suc n) (e ∷ L) (suc k) below = let rest = front-within n L k (omega (arith, below)) in (omega (arith, rest.0), omega (arith, rest.1))

-- the first entries of a legal line
pub legal-front : (L : Line) (n : ℕ) → IsLegal L → IsLegal (take n L)
legal-front L n legal = record {
  each = λ k below.
      let fits = front-within n L k below in
      rw (take-take k n L (omega (arith, fits.0)), get_or-take n L k (Cut 0) fits.0) (legal.each k fits.1);
}

-- where a simplex is accepted there is room
pub accepted-room : (K : Complex) (s : List ℕ) → judge K s ≡ Accepted → length K < capacity
unfolding judge
accepted-room K s e = at (position (same_list s) K) (find (λ t. not (is_there K t)) (faces s)) e
  where
    is_accepted : Verdict → Bool
    is_accepted Accepted = true
    is_accepted (There id) = false
    is_accepted (MissingFace t) = false
    is_accepted (Full n) = false

    small : (b : Bool) → nat_lt (length K) capacity ≡ b → is_accepted (cond b Accepted (Full (length K))) ≡ true → length K < capacity
    small true is q = ltb-true (length K) capacity is
    small false is q = absurd (true≢false (sym q))

    at : (o : Option ℕ) (m : Option (List ℕ)) → verdict_of o m (length K) ≡ Accepted → length K < capacity
    at (Some id) m q = absurd (true≢false (sym (ap is_accepted q)))
    at None (Some t) q = absurd (true≢false (sym (ap is_accepted q)))
    at None None q = small (nat_lt (length K) capacity) refl (ap is_accepted q)

-- each version has its limit, and so has what comes in between two returns
pub record IsShort (L : Line) : Type 0 where
  pub room : length (simplices L) ≤ capacity
  pub versions : (v : ℕ) → length (version L v) ≤ capacity
  pub few_cuts : cuts L ≤ cut_capacity
  pub few_returns : returns L ≤ return_capacity
  pub count : length L ≤ (capacity + 1) * returns L + length (simplices L) + cuts L

-- a version of more versions
pushed : (Ks : List Complex) (K : Complex) (v : ℕ) → ((v : ℕ) → length (slice_index_or Ks v []) ≤ capacity) → length K ≤ capacity → length (slice_index_or (Ks ++ K ∷ []) v []) ≤ capacity
pushed [] K zero each fits = fits
pushed [] K (suc v) each fits = omega arith
pushed (J ∷ Ks) K zero each fits = each 0
pushed (J ∷ Ks) K (suc v) each fits = pushed Ks K v (λ u. each (suc u)) fits

short-more : (L : Line) (e : Entry) → IsShort L → Follows L e → IsShort (L ++ e ∷ [])
short-more L (Attach c s) S follows =
    let g = grown-more L (Attach c s) in
    let K : simplices (L ++ Attach c s ∷ []) ≡ simplices L ++ s ∷ [] = ap (λ g. g.complex) g in
    let long : length (simplices (L ++ Attach c s ∷ [])) ≡ length (simplices L) + 1 = ap length K ∙ length-append (simplices L) (s ∷ []) in
    record {
      room = omega (arith, long, accepted-room (simplices L) s follows.1);
      versions = λ v. rw (ap (λ g. slice_index_or g.versions v []) g) (S.versions v);
      few_cuts = omega (arith, S.few_cuts, cuts-append L (Attach c s ∷ []));
      few_returns = omega (arith, S.few_returns, returns-append L (Attach c s ∷ []));
      count = omega (arith, long, S.count, length-append L (Attach c s ∷ []), cuts-append L (Attach c s ∷ []), returns-append L (Attach c s ∷ []));
    }
short-more L (Cut c) S follows =
    let g = grown-more L (Cut c) in
    let K : simplices (L ++ Cut c ∷ []) ≡ simplices L = ap (λ g. g.complex) g in
    record {
      room = omega (arith, ap length K, S.room);
      versions = λ v. rw (ap (λ g. slice_index_or g.versions v []) g) (pushed (grown L).versions (simplices L) v S.versions S.room);
      few_cuts = omega (arith, follows.1, cuts-append L (Cut c ∷ []));
      few_returns = omega (arith, S.few_returns, returns-append L (Cut c ∷ []));
      count = omega (arith, ap length K, S.count, length-append L (Cut c ∷ []), cuts-append L (Cut c ∷ []), returns-append L (Cut c ∷ []));
    }
short-more L (Back c v) S follows =
    let g = grown-more L (Back c v) in
    let K : simplices (L ++ Back c v ∷ []) ≡ version L v = ap (λ g. g.complex) g in
    record {
      room = omega (arith, ap length K, S.versions v);
      versions = λ u. rw (ap (λ g. slice_index_or g.versions u []) g) (S.versions u);
      few_cuts = omega (arith, S.few_cuts, cuts-append L (Back c v ∷ []));
      few_returns = omega (arith, follows.2, returns-append L (Back c v ∷ []));
      count = omega (arith, S.room, S.count, length-append L (Back c v ∷ []), cuts-append L (Back c v ∷ []), returns-append L (Back c v ∷ []));
    }

only : (v : ℕ) → length (slice_index_or nothing.versions v []) ≤ capacity
only zero = omega arith
only (suc v) = omega arith

short-nothing : IsShort []
unfolding grown
short-nothing = record {
  room = omega arith;
  versions = only;
  few_cuts = omega arith;
  few_returns = omega arith;
  count = omega arith;
}

short-at : (L : Line) → IsLegal L → (k : ℕ) → k ≤ length L → IsShort (take k L)
short-at L legal zero within = short-nothing
short-at L legal (suc k) within =
    let more : take (suc k) L ≡ take k L ++ entry_at L k ∷ [] = ap (λ n. take n L) (sym (add-one k)) ∙ take_more L k (Cut 0) (omega (arith, within)) in
    subst IsShort (sym more) (short-more (take k L) (entry_at L k) (short-at L legal k (omega (arith, within))) (legal.each k (omega (arith, within))))

pub legal-short : (L : Line) → IsLegal L → IsShort L
legal-short L legal = subst IsShort (take_all (length L) L (omega arith)) (short-at L legal (length L) (omega arith))
