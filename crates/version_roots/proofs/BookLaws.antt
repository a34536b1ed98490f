-- What a book keeps, and how attachments are told.
--     grown-nothing, kept-nothing      the empty line
--     attach-added, attach-refused     a simplex comes in, or is refused
--     book-more, book-attached         the growing model and the versions, with one entry more, and with what facets add
--     back-added, cut-added, facet-added
--                                      a return, a cut and facets come in
use Rattle.std.proofs.Common.{◌≡◌, ℕ, ◌+◌, ◌<◌, ◌≤◌, List, [], ◌∷◌, ◌++◌, length, Ok, refl, sym, ap, ◌∙◌, subst, arith}
use Rattle.std.specs.Prelude.{slice_index_or}
use Rattle.homology.specs.Complexes.{Complex}
use Rattle.homology.specs.Growth.{Accepted, capacity, judge, new_simplices}
use Rattle.complex_store.specs.Attachments as store
use Rattle.complex_store.specs.declared.refusal.AttachRefusal.{AttachRefusal}
use Rattle.complex_store.specs.declared.refusal.AttachRefusal.TheVariants as attach
use Rattle.lines.specs.Lines.{Entry, Attach, Cut, Back, Line, next, grown, nothing, simplices, cuts, returns, cut_capacity, return_capacity}
use Rattle.lines.specs.Changes.{attached, judged_so}
use Rattle.lines.specs.Changes as change
use Rattle.lines.proofs.LineLaws.{grown-more, grown-attached}
use Rattle.lines.proofs.ChangeLaws.{return-fits, cut-fits, facets-fit}
use Rattle.version_roots.specs.Kept.{IsAttach, IsKept}
use Rattle.version_roots.specs.Judged.{Added, Refused, refusal_of}
use Rattle.version_roots.specs.Refusals.{SaysTheSame}
use Rattle.version_roots.specs.declared.refusals.BoardRefusal.{BoardRefusal}

pub grown-nothing : grown [] ≡ nothing
unfolding grown
grown-nothing = refl

none-came : (k : ℕ) → 0 ≤ k → k < 0 → IsAttach (slice_index_or [] k (Cut 0))
none-came k from below = absurd (omega (arith, below))

pub kept-nothing : IsKept [] 0 0 0 0
unfolding grown
kept-nothing = record {
  legal = record { each = λ k below. absurd (omega (arith, below)) };
  cuts_are = refl;
  returns_are = refl;
  grows = record { there = omega arith; within = omega arith; was = refl; came = none-came };
}

pub attach-added : (J : Line) (c : ℕ) (s : List ℕ) → judge (simplices J) s ≡ Accepted → Added J c (change.Attach s) (J ++ Attach c s ∷ [])
attach-added J c s ok = record { entries = Attach c s ∷ []; so = ap (judged_so c s) ok; whole = refl }

pub attach-refused : (J : Line) (c : ℕ) (s : List ℕ) (r : AttachRefusal) (q : BoardRefusal) → store.Refuses (judge (simplices J) s) r → SaysTheSame r q
    → Refused J c (change.Attach s) (refusal_of q)
attach-refused J c s (attach.There id) q why same = subst (λ q. Refused J c (change.Attach s) (refusal_of q)) (sym same) (ap (judged_so c s) why)
attach-refused J c s (attach.Face t) q why same = subst (λ q. Refused J c (change.Attach s) (refusal_of q)) (sym same) (ap (judged_so c s) why)
attach-refused J c s (attach.Full n) q why same = subst (λ q. Refused J c (change.Attach s) (refusal_of q)) (sym same) (ap (judged_so c s) why)
attach-refused J c s attach.Memory q why same = subst (λ q. Refused J c (change.Attach s) (refusal_of q)) (sym same) tt

-- the growing model and the versions, with one entry more
pub book-more : (J L : Line) (e : Entry) (K : Complex) (Vs : List Complex) → L ≡ J ++ e ∷ [] → K ≡ (next (grown J) e).complex → Vs ≡ (next (grown J) e).versions
    → (K ≡ (grown L).complex) × (Vs ≡ (grown L).versions)
book-more J L e K Vs is complex versions =
    let so : grown L ≡ next (grown J) e = ap grown is ∙ grown-more J e in
    (complex ∙ sym (ap (λ g. g.complex) so), versions ∙ sym (ap (λ g. g.versions) so))

-- and with what facets add
pub book-attached : (J L : Line) (c : ℕ) (S K : Complex) (Vs : List Complex) → L ≡ J ++ attached c S → K ≡ simplices J ++ S → Vs ≡ (grown J).versions
    → (K ≡ (grown L).complex) × (Vs ≡ (grown L).versions)
book-attached J L c S K Vs is complex versions =
    let so : grown L ≡ record (grown J) { complex = simplices J ++ S } = ap grown is ∙ grown-attached J c S in
    (complex ∙ sym (ap (λ g. g.complex) so), versions ∙ sym (ap (λ g. g.versions) so))

-- changes that come in
pub back-added : (J L : Line) (c v : ℕ) → v ≤ cuts J → returns J < return_capacity → L ≡ J ++ Back c v ∷ [] → Added J c (change.Back v) L
back-added J L c v there room is = record { entries = Back c v ∷ []; so = return-fits J c v there room; whole = is }

pub cut-added : (J L : Line) (c : ℕ) → cuts J < cut_capacity → L ≡ J ++ Cut c ∷ [] → Added J c change.Cut L
cut-added J L c room is = record { entries = Cut c ∷ []; so = cut-fits J c room; whole = is }

pub facet-added : (J L : Line) (c : ℕ) (F S : List (List ℕ)) → S ≡ new_simplices (simplices J) F → length (simplices J) + length S ≤ capacity → L ≡ J ++ attached c S → Added J c (change.Facet F) L
facet-added J L c F S new room is = record {
  entries = attached c S;
  so = facets-fit J c F (omega (arith, room, ap length new)) ∙ ap (λ (M : Complex). Ok (attached c M)) (sym new);
  whole = is;
}
