-- Lists of simplices, settled from the left.
--     both                 what two lists say one after the other
--     settled-append       a list in two parts
--     settled-more         one simplex more that is there with the dimension
--     settled-refused      the first one that is not
use Rattle.std.proofs.Common.{◌≡◌, ℕ, suc, ◌+◌, ◌<◌, List, [], ◌∷◌, ◌++◌, length, take, drop, Result, Ok, Err, refl, sym, ap, ◌∙◌}
use Rattle.std.specs.Prelude.{slice_index_or}
use Rattle.std.proofs.lemmas.List.{take-append-drop, take_more}
use Rattle.std.proofs.Math.Seq.{drop-cons}
use Rattle.homology.specs.Sets.{Ids, empty, plus, single}
use Rattle.homology.specs.Complexes.{Complex}
use Rattle.homology.proofs.SetLaws.{plus-assoc, plus-empty}
use Rattle.cohomology.specs.Words.{NotSettled, NotThere, Degree, reading, added, settled}
use Rattle.cochain_values.specs.Refusals.{Refuses}
use Rattle.cochain_values.specs.declared.refusal.CochainRefusal.{CochainRefusal}
use Rattle.cochain_values.specs.declared.refusal.CochainRefusal.TheVariants as refusal

-- what two lists say one after the other
abbrev both : Result Ids NotSettled → Result Ids NotSettled → Result Ids NotSettled
both (Err why) v = Err why
both (Ok a) (Err why) = Err why
both (Ok a) (Ok b) = Ok (plus a b)

both-empty : (v : Result Ids NotSettled) → both (Ok empty) v ≡ v
both-empty (Err why) = refl
both-empty (Ok b) = refl

added-both : (r : Result ℕ NotSettled) (u v : Result Ids NotSettled) → added single r (both u v) ≡ both (added single r u) v
added-both (Err why) u v = refl
added-both (Ok id) (Err why) v = refl
added-both (Ok id) (Ok a) (Err why) = refl
added-both (Ok id) (Ok a) (Ok b) = ap (λ (z : Ids). Ok z) (sym (plus-assoc (single id) a b))

-- a list in two parts
settled-append : (K : Complex) (p : ℕ) (l m : List (List ℕ)) → settled K p (l ++ m) ≡ both (settled K p l) (settled K p m)
settled-append K p [] m = sym (both-empty (settled K p m))
settled-append K p (s ∷ l) m = ap (added single (reading K p s)) (settled-append K p l m) ∙ added-both (reading K p s) (settled K p l) (settled K p m)

-- one simplex more, which is there with the dimension
pub settled-more : (K : Complex) (p : ℕ) (l : List (List ℕ)) (k : ℕ) (s : List ℕ) (id : ℕ) (c d : Ids) → s ≡ slice_index_or l k s → k < length l → settled K p (take k l) ≡ Ok c → reading K p s ≡ Ok id
    → d ≡ plus c (single id) → settled K p (take (k + 1) l) ≡ Ok d
settled-more K p l k s id c d at h so_far read is =
    ap (settled K p) (take_more l k s h ∙ ap (λ u. take k l ++ u ∷ []) (sym at))
    ∙ settled-append K p (take k l) (s ∷ [])
    ∙ ap (λ u. both u (added single (reading K p s) (Ok empty))) so_far
    ∙ ap (λ r. both (Ok c) (added single r (Ok empty))) read
    ∙ ap (λ (z : Ids). Ok (plus c z)) (plus-empty (single id))
    ∙ ap (λ (z : Ids). Ok z) (sym is)

-- what the list says, where the simplex at place k is wrong and those before are not
settled-wrong : (K : Complex) (p : ℕ) (l : List (List ℕ)) (k : ℕ) (s : List ℕ) (c : Ids) (why : NotSettled) → s ≡ slice_index_or l k s → k < length l → settled K p (take k l) ≡ Ok c → reading K p s ≡ Err why
    → settled K p l ≡ Err why
settled-wrong K p l k s c why at h so_far wrong =
    let rest = drop (suc k) l in
    ap (settled K p) (sym (take-append-drop k l) ∙ ap (λ m. take k l ++ m) (drop-cons l k s h ∙ ap (λ u. u ∷ rest) (sym at)))
    ∙ settled-append K p (take k l) (s ∷ rest)
    ∙ ap (λ u. both u (added single (reading K p s) (settled K p rest))) so_far
    ∙ ap (λ r. both (Ok c) (added single r (settled K p rest))) wrong

-- the first simplex that is absent or of another dimension settles the list
pub settled-refused : (K : Complex) (p : ℕ) (l : List (List ℕ)) (k : ℕ) (s : List ℕ) (c : Ids) (r : CochainRefusal) → s ≡ slice_index_or l k s → k < length l → settled K p (take k l) ≡ Ok c
    → Refuses (reading K p s) r → Refuses (settled K p l) r
settled-refused K p l k s c (refusal.NotThere t) at h so_far wrong = settled-wrong K p l k s c (NotThere t) at h so_far wrong
settled-refused K p l k s c (refusal.Degree t) at h so_far wrong = settled-wrong K p l k s c (Degree t) at h so_far wrong
settled-refused K p l k s c refusal.Memory at h so_far wrong = wrong
