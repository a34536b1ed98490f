-- What a line keeps, with one entry more.
--     base-more               where it grows from, where the entry is a simplex
--     base-cut, base-back     and where it is a cut or a return
--     turn-follows            each of the new simplices may stand behind those before it
--     version-last            the last version, behind an entry that is no cut
--     version-cut             and behind a cut
--     simplices-next          one entry more, which is a simplex
--     kept-attach, kept-cut, kept-back
--                             what is counted of a line, with one entry more
--     kept-root               the model of the last version stays that where an entry that is no cut comes in
use Rattle.std.proofs.Common.{◌≡◌, ◌⊎◌, inl, inr, ℕ, ◌+◌, ◌<◌, ◌≤◌, false, List, [], ◌∷◌, ◌++◌, length, take, refl, sym, ap, ◌∙◌, subst, arith, append-nil, length-append, Result, Ok, Err}
use Rattle.std.specs.Prelude.{slice_index_or, OnOk, OnErr}
use Rattle.std.proofs.lemmas.Bool.{cases_lt}
use Rattle.std.proofs.lemmas.List.{get_or_append_left, get_or_push, take-append-le, take_all, take_more}
use Rattle.homology.specs.Complexes.{Complex}
use Rattle.homology.specs.Growth.{Accepted, judge}
use Rattle.lines.specs.Lines.{callers, Entry, Attach, Cut, Back, Line, simplices, version, grown, cuts, returns, is_cut, Follows, entry_at, IsLegal}
use Rattle.lines.specs.Changes.{attached}
use Rattle.lines.proofs.LineLaws.{grown-more, cuts-append, returns-append, legal-more, versions-count, version-kept, simplices-attached}
use Rattle.facet_growth.specs.Facets.{InTurn}
use Rattle.version_roots.specs.Kept.{IsAttach, GrowsFrom, IsKept}

-- what came in behind, and one simplex more
came-more : (L : Line) (c : ℕ) (s : List ℕ) (base n : ℕ) → GrowsFrom L base n → (k : ℕ) → n ≤ k → k < length (L ++ Attach c s ∷ []) → IsAttach (entry_at (L ++ Attach c s ∷ []) k)
came-more L c s base n G k from below = at (cases_lt k (length L))
  where
    at : (k < length L) ⊎ (length L ≤ k) → IsAttach (entry_at (L ++ Attach c s ∷ []) k)
    at (inl inside) = rw (get_or_append_left L (Attach c s ∷ []) (Cut 0) k inside) (G.came k from inside)
    at (inr past) = rw (get_or_push L (Attach c s) (Cut 0) k (omega (arith, past, below, length-append L (Attach c s ∷ [])))) tt

pub base-more : (L : Line) (c : ℕ) (s : List ℕ) (base n : ℕ) → GrowsFrom L base n → GrowsFrom (L ++ Attach c s ∷ []) base n
base-more L c s base n G = record {
  there = omega (arith, G.there, cuts-append L (Attach c s ∷ []));
  within = omega (arith, G.within, length-append L (Attach c s ∷ []));
  was = ap simplices (take-append-le n L (Attach c s ∷ []) G.within) ∙ G.was ∙ sym (version-kept L (Attach c s ∷ []) base G.there);
  came = came-more L c s base n G;
}

-- nothing came in behind the whole line
none-behind : (L : Line) (k : ℕ) → length L ≤ k → k < length L → IsAttach (entry_at L k)
none-behind L k past below = absurd (omega (arith, past, below))

pub base-cut : (L : Line) (c : ℕ) → GrowsFrom (L ++ Cut c ∷ []) (cuts L + 1) (length L + 1)
base-cut L c =
    let long = length-append L (Cut c ∷ []) in
    let K : simplices (L ++ Cut c ∷ []) ≡ simplices L = ap (λ g. g.complex) (grown-more L (Cut c)) in
    let V : version (L ++ Cut c ∷ []) (cuts L + 1) ≡ simplices L =
    ap (λ g. slice_index_or g.versions (cuts L + 1) []) (grown-more L (Cut c)) ∙ get_or_push (grown L).versions (simplices L) [] (cuts L + 1) (versions-count L) in
    record {
      there = omega (arith, cuts-append L (Cut c ∷ []));
      within = omega (arith, long);
      was = ap simplices (take_all (length L + 1) (L ++ Cut c ∷ []) (omega (arith, long))) ∙ K ∙ sym V;
      came = λ k from below. none-behind (L ++ Cut c ∷ []) k (omega (arith, from, long)) below;
    }

pub base-back : (L : Line) (c v : ℕ) → v ≤ cuts L → GrowsFrom (L ++ Back c v ∷ []) v (length L + 1)
base-back L c v there =
    let long = length-append L (Back c v ∷ []) in
    let K : simplices (L ++ Back c v ∷ []) ≡ version L v = ap (λ g. g.complex) (grown-more L (Back c v)) in
    record {
      there = omega (arith, there, cuts-append L (Back c v ∷ []));
      within = omega (arith, long);
      was = ap simplices (take_all (length L + 1) (L ++ Back c v ∷ []) (omega (arith, long))) ∙ K ∙ sym (version-kept L (Back c v ∷ []) v there);
      came = λ k from below. none-behind (L ++ Back c v ∷ []) k (omega (arith, from, long)) below;
    }

pub turn-follows : (L : Line) (c : ℕ) (S : Complex) (i : ℕ) → c < callers → InTurn (simplices L) S → i < length S → Follows (L ++ attached c (take i S)) (Attach c (slice_index_or S i []))
turn-follows L c S i caller turns below =
    (caller, subst (λ (K : Complex). judge K (slice_index_or S i []) ≡ Accepted) (sym (simplices-attached L c (take i S))) (turns i below))

pub version-last : (L : Line) (e : Entry) → is_cut e ≡ false → version (L ++ e ∷ []) (cuts (L ++ e ∷ [])) ≡ version L (cuts L)
version-last L (Attach c s) plain =
    ap (version (L ++ Attach c s ∷ [])) (cuts-append L (Attach c s ∷ []) ∙ omega arith) ∙ version-kept L (Attach c s ∷ []) (cuts L) (omega arith)
version-last L (Cut c) plain = absurd (cc plain)
version-last L (Back c v) plain =
    ap (version (L ++ Back c v ∷ [])) (cuts-append L (Back c v ∷ []) ∙ omega arith) ∙ version-kept L (Back c v ∷ []) (cuts L) (omega arith)

-- the version of a cut
pub version-cut : (L : Line) (c : ℕ) → version (L ++ Cut c ∷ []) (cuts (L ++ Cut c ∷ [])) ≡ simplices L
version-cut L c =
    ap (version (L ++ Cut c ∷ [])) {y = cuts L + 1} (omega (arith, cuts-append L (Cut c ∷ [])))
    ∙ ap (λ g. slice_index_or g.versions (cuts L + 1) []) (grown-more L (Cut c))
    ∙ get_or_push (grown L).versions (simplices L) [] (cuts L + 1) (versions-count L)

-- one entry more, which is a simplex
pub simplices-next : (L : Line) (k c : ℕ) (s : List ℕ) → k < length L → Attach c s ≡ entry_at L k → simplices (take (k + 1) L) ≡ simplices (take k L) ++ s ∷ []
simplices-next L k c s below is =
    ap simplices (take_more L k (Cut 0) below ∙ ap (λ e. take k L ++ e ∷ []) (sym is))
    ∙ ap (λ g. g.complex) (grown-more (take k L) (Attach c s))

-- what is counted, with one entry more
pub kept-attach : (L : Line) (made taken base n c : ℕ) (s : List ℕ) → IsKept L made taken base n → Follows L (Attach c s) → IsKept (L ++ Attach c s ∷ []) made taken base n
kept-attach L made taken base n c s K follows = record {
  legal = legal-more L (Attach c s) K.legal follows;
  cuts_are = omega (arith, K.cuts_are, cuts-append L (Attach c s ∷ []));
  returns_are = omega (arith, K.returns_are, returns-append L (Attach c s ∷ []));
  grows = base-more L c s base n K.grows;
}

pub kept-cut : (L : Line) (made taken base n c end : ℕ) → IsKept L made taken base n → end ≡ length L → Follows L (Cut c) → IsKept (L ++ Cut c ∷ []) (made + 1) taken (made + 1) (end + 1)
kept-cut L made taken base n c end K e follows = record {
  legal = legal-more L (Cut c) K.legal follows;
  cuts_are = omega (arith, K.cuts_are, cuts-append L (Cut c ∷ []));
  returns_are = omega (arith, K.returns_are, returns-append L (Cut c ∷ []));
  grows = rw (K.cuts_are, e) (base-cut L c);
}

pub kept-back : (L : Line) (made taken base n c v end : ℕ) → IsKept L made taken base n → end ≡ length L → Follows L (Back c v) → IsKept (L ++ Back c v ∷ []) made (taken + 1) v (end + 1)
kept-back L made taken base n c v end K e follows = record {
  legal = legal-more L (Back c v) K.legal follows;
  cuts_are = omega (arith, K.cuts_are, cuts-append L (Back c v ∷ []));
  returns_are = omega (arith, K.returns_are, returns-append L (Back c v ∷ []));
  grows = rw e (base-back L c v follows.1);
}

-- the model of the last version, where an entry that is no cut comes in or does not
pub kept-root : {A B : Type 0} (K : Complex) (L M : Line) (e : Entry) (r : Result A B) → is_cut e ≡ false → K ≡ version L (cuts L) → OnOk r (M ≡ L ++ e ∷ []) → OnErr r (M ≡ L)
    → K ≡ version M (cuts M)
kept-root K L M e (Ok x) plain was pushed same = was ∙ sym (version-last L e plain) ∙ sym (ap (λ (N : Line). version N (cuts N)) pushed)
kept-root K L M e (Err x) plain was pushed same = was ∙ sym (ap (λ (N : Line). version N (cuts N)) same)
