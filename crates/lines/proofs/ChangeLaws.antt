-- How changes are judged, and the versions of a longer line.
--     versions-same, versions-cut        the versions behind an entry that is no cut, and behind a cut
--     versions-attached                  behind simplices that came in
--     versions-front                     those of a beginning of the line are the first of them
--     facets-fit, facets-full            facets come in, or find no room
--     facets-there                       then the last of them is there
--     cut-fits, cut-full                 a cut comes in, or is refused
--     return-fits, return-missing, return-full       a return comes in, or is refused
use Rattle.std.proofs.Common.{◌≡◌, ◌⊎◌, inl, inr, ℕ, suc, ◌+◌, ◌-◌, ◌<◌, ◌≤◌, Bool, true, false, cond, List, [], ◌∷◌, ◌++◌, length, take, nat_lt, Ok, Err, refl, sym, ap, ◌∙◌, subst, arith, append_assoc, append-nil, length-append, lt-ltb, le-ltb, le-leb}
use Rattle.std.specs.Prelude.{nat_le, slice_index_or}
use Rattle.std.specs.List.{fold}
use Rattle.std.proofs.lemmas.Bool.Decides.{leb_tells}
use Rattle.std.proofs.lemmas.List.{take-append-le, take_all, take-take}
use mathlib.Core.List.{IsPrefix}
use Rattle.homology.specs.Simplices.{IsSimplex}
use Rattle.homology.specs.Complexes.{Complex}
use Rattle.homology.specs.Growth.{capacity, is_there, new_faces, new_simplices}
use Rattle.homology.proofs.FacetLaws.{new_faces-there}
use Rattle.lines.specs.Lines.{Entry, Attach, Cut, Back, Line, Grown, next, grown, simplices, cuts, returns, cut_capacity, return_capacity, is_cut}
use Rattle.lines.specs.Changes.{IsFull, NoVersion, attached, judged, last}
use Rattle.lines.specs.Changes as change
use Rattle.lines.proofs.LineLaws.{grown-append, grown-attached, grown-more, versions-count}

pub versions-same : (L : Line) (e : Entry) → is_cut e ≡ false → (grown (L ++ e ∷ [])).versions ≡ (grown L).versions
versions-same L (Attach c s) plain = ap (λ g. g.versions) (grown-more L (Attach c s))
versions-same L (Cut c) plain = absurd (cc plain)
versions-same L (Back c v) plain = ap (λ g. g.versions) (grown-more L (Back c v))

pub versions-cut : (L : Line) (c : ℕ) → (grown (L ++ Cut c ∷ [])).versions ≡ (grown L).versions ++ simplices L ∷ []
versions-cut L c = ap (λ g. g.versions) (grown-more L (Cut c))

pub versions-attached : (L : Line) (c : ℕ) (S : Complex) → (grown (L ++ attached c S)).versions ≡ (grown L).versions
versions-attached L c S = ap (λ g. g.versions) (grown-attached L c S)

-- what has grown begins with the versions that were there
versions-fold : (g : Grown) (M : Line) → take (length g.versions) (fold next g M).versions ≡ g.versions
versions-fold g [] = take_all (length g.versions) g.versions (omega arith)
versions-fold g (Attach c s ∷ M) = versions-fold (next g (Attach c s)) M
versions-fold g (Back c v ∷ M) = versions-fold (next g (Back c v)) M
versions-fold g (Cut c ∷ M) =
    let n = length g.versions in
    let more = g.versions ++ g.complex ∷ [] in
    let all = (fold next (next g (Cut c)) M).versions in
    sym (take-take n (length more) all (omega (arith, length-append g.versions (g.complex ∷ []))))
    ∙ ap (take n) (versions-fold (next g (Cut c)) M)
    ∙ take-append-le n g.versions (g.complex ∷ []) (omega arith)
    ∙ take_all n g.versions (omega arith)

pub versions-front : (L M : Line) → IsPrefix L M → take (cuts L + 1) (grown M).versions ≡ (grown L).versions
versions-front L M front =
    ap (λ (J : Line). take (cuts L + 1) (grown J).versions) (sym front.1)
    ∙ ap (λ g. take (cuts L + 1) g.versions) (grown-append L front.0)
    ∙ ap (λ n. take n (fold next (grown L) front.0).versions) (sym (versions-count L))
    ∙ versions-fold (grown L) front.0

above-leb : (a b : ℕ) → b < a → nat_le a b ≡ false
above-leb a b above = at (leb_tells a b)
  where
    at : ((nat_le a b ≡ true) × (a ≤ b)) ⊎ ((nat_le a b ≡ false) × (b < a)) → nat_le a b ≡ false
    at (inl within) = absurd (omega (arith, within.1, above))
    at (inr past) = past.0

pub facets-fit : (J : Line) (c : ℕ) (F : List (List ℕ)) → length (simplices J) + length (new_simplices (simplices J) F) ≤ capacity
    → judged J c (change.Facet F) ≡ Ok (attached c (new_simplices (simplices J) F))
facets-fit J c F fits =
    ap (λ b. cond b (Ok (attached c (new_simplices (simplices J) F))) (Err (IsFull (length (simplices J)))))
    (le-leb (length (simplices J) + length (new_simplices (simplices J) F)) capacity fits)

pub facets-full : (J : Line) (c : ℕ) (F : List (List ℕ)) → capacity < length (simplices J) + length (new_simplices (simplices J) F)
    → judged J c (change.Facet F) ≡ Err (IsFull (length (simplices J)))
facets-full J c F full =
    ap (λ b. cond b (Ok (attached c (new_simplices (simplices J) F))) (Err (IsFull (length (simplices J)))))
    (above-leb (length (simplices J) + length (new_simplices (simplices J) F)) capacity full)

last-more : (s t : List ℕ) (F : Complex) → last (s ∷ t ∷ F) ≡ last (t ∷ F)
last-more s t F =
    let more : length (s ∷ t ∷ F) - 1 ≡ suc (length (t ∷ F) - 1) = omega arith in
    ap (λ n. slice_index_or (s ∷ t ∷ F) n []) more

pub facets-there : (K : Complex) (F : List (List ℕ)) → 0 < length F → IsSimplex (last F) → is_there (K ++ new_simplices K F) (last F) ≡ true
facets-there K [] some simplex = absurd (omega (arith, some))
facets-there K (s ∷ []) some simplex = rw (append-nil (new_faces K s)) (new_faces-there K s simplex)
facets-there K (s ∷ t ∷ F) some simplex =
    let rest = facets-there (K ++ new_faces K s) (t ∷ F) (omega arith) (subst IsSimplex (last-more s t F) simplex) in
    subst (λ (u : List ℕ). is_there (K ++ new_simplices K (s ∷ t ∷ F)) u ≡ true) (sym (last-more s t F))
    (subst (λ (L : Complex). is_there L (last (t ∷ F)) ≡ true) (append_assoc K (new_faces K s) (new_simplices (K ++ new_faces K s) (t ∷ F))) rest)

pub cut-fits : (J : Line) (c : ℕ) → cuts J < cut_capacity → judged J c change.Cut ≡ Ok (Cut c ∷ [])
cut-fits J c fits = ap (λ b. cond b (Ok (Cut c ∷ [])) (Err (IsFull cut_capacity))) (lt-ltb (cuts J) cut_capacity fits)

pub cut-full : (J : Line) (c : ℕ) → cut_capacity ≤ cuts J → judged J c change.Cut ≡ Err (IsFull cut_capacity)
cut-full J c full = ap (λ b. cond b (Ok (Cut c ∷ [])) (Err (IsFull cut_capacity))) (le-ltb (cuts J) cut_capacity full)

-- a return, where there is such a version
return-there : (J : Line) (c v : ℕ) → v ≤ cuts J → judged J c (change.Back v) ≡ cond (nat_lt (returns J) return_capacity) (Ok (Back c v ∷ [])) (Err (IsFull return_capacity))
return-there J c v there =
    ap (λ b. cond b (Err (NoVersion (cuts J))) (cond (nat_lt (returns J) return_capacity) (Ok (Back c v ∷ [])) (Err (IsFull return_capacity)))) (le-ltb (cuts J) v there)

pub return-fits : (J : Line) (c v : ℕ) → v ≤ cuts J → returns J < return_capacity → judged J c (change.Back v) ≡ Ok (Back c v ∷ [])
return-fits J c v there fits =
    return-there J c v there ∙ ap (λ b. cond b (Ok (Back c v ∷ [])) (Err (IsFull return_capacity))) (lt-ltb (returns J) return_capacity fits)

pub return-full : (J : Line) (c v : ℕ) → v ≤ cuts J → return_capacity ≤ returns J → judged J c (change.Back v) ≡ Err (IsFull return_capacity)
return-full J c v there full =
    return-there J c v there ∙ ap (λ b. cond b (Ok (Back c v ∷ [])) (Err (IsFull return_capacity))) (le-ltb (returns J) return_capacity full)

pub return-missing : (J : Line) (c v : ℕ) → cuts J < v → judged J c (change.Back v) ≡ Err (NoVersion (cuts J))
return-missing J c v missing =
    ap (λ b. cond b (Err (NoVersion (cuts J))) (cond (nat_lt (returns J) return_capacity) (Ok (Back c v ∷ [])) (Err (IsFull return_capacity)))) (lt-ltb (cuts J) v missing)
