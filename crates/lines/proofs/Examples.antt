-- Lines, changes and callers, by evaluation alone.
use Rattle.std.proofs.Common.{◌≡◌, ℕ, List, [], ◌∷◌, ◌++◌, map, length, refl, codes, Ok, Err}
use Rattle.homology.specs.Growth.{judge, new_faces}
use Rattle.language.specs.Language.{Request, Hold, Take, Release, See, After, Facet, Cut}
use Rattle.lines.specs.Lines.{Line, grown, simplices, version, cuts, returns}
use Rattle.lines.specs.Lines as entry
use Rattle.lines.specs.Changes.{IsThere, LacksFace, IsFull, NoVersion, attached, judged}
use Rattle.lines.specs.Changes as change
use Rattle.lines.specs.Callers.{State, start, after, changed, line_after}

-- the faces of a triangle, in simplex order
abbrev triangle : List (List ℕ)
triangle = (0 ∷ []) ∷ (1 ∷ []) ∷ (2 ∷ []) ∷ (0 ∷ 1 ∷ []) ∷ (0 ∷ 2 ∷ []) ∷ (1 ∷ 2 ∷ []) ∷ (0 ∷ 1 ∷ 2 ∷ []) ∷ []

abbrev edge : List (List ℕ)
edge = (3 ∷ []) ∷ (0 ∷ 3 ∷ []) ∷ []

-- a triangle, cut; an edge, cut; back to the first version; a point, cut; back to the empty one by another caller
abbrev line : Line
line =
    attached 0 triangle ++ entry.Cut 0 ∷ attached 0 edge
    ++ entry.Cut 0 ∷ entry.Back 0 1 ∷ entry.Attach 0 (3 ∷ []) ∷ entry.Cut 0 ∷ entry.Back 1 0 ∷ []

versions-of_line :
    map (version line) (0 ∷ 1 ∷ 2 ∷ 3 ∷ []) ≡ [] ∷ triangle ∷ (triangle ++ edge) ∷ (triangle ++ (3 ∷ []) ∷ []) ∷ []
unfolding grown
versions-of_line = refl

counts-of_line : length line ∷ length (simplices line) ∷ cuts line ∷ returns line ∷ [] ≡ 15 ∷ 0 ∷ 3 ∷ 2 ∷ []
unfolding grown
counts-of_line = refl

-- a version that is not there; a return; a simplex that was there and is there no more
judged-line :
    judged line 0 (change.Back 4) ∷ judged line 5 (change.Back 3) ∷ judged line 1 (change.Attach (0 ∷ [])) ∷ judged line 1 (change.Attach (0 ∷ 1 ∷ [])) ∷ []
    ≡ Err (NoVersion 3) ∷ Ok (entry.Back 5 3 ∷ []) ∷ Ok (entry.Attach 1 (0 ∷ []) ∷ []) ∷ Err (LacksFace (0 ∷ [])) ∷ []
unfolding grown judge
judged-line = refl

-- facets beside one another, and facets that are there
judged-facets :
    judged (attached 0 triangle) 2 (change.Facet ((0 ∷ 3 ∷ []) ∷ (3 ∷ []) ∷ (1 ∷ 2 ∷ []) ∷ []))
    ∷ judged (attached 0 triangle) 2 (change.Facet (triangle)) ∷ judged (attached 0 triangle) 2 (change.Attach (2 ∷ [])) ∷ []
    ≡ Ok (attached 2 edge) ∷ Ok [] ∷ Err (IsThere 2) ∷ []
unfolding grown judge new_faces
judged-facets = refl

-- the most returns
returned : Line
returned = map (λ _. entry.Back 0 0) (codes "0123456789012345678901234567890123456789012345678901234567890123")

judged-returns : judged returned 0 (change.Back 0) ∷ judged returned 0 (change.Back 1) ∷ [] ≡ Err (IsFull 64) ∷ Err (NoVersion 0) ∷ []
unfolding grown returned
judged-returns = refl

-- the state after these requests of a caller, each on the line as it stands
run : Line → ℕ → State → List Request → State
run L c st [] = st
run L c st (r ∷ rs) = run (line_after L c r) c (after L c st r) rs

-- version 1 is held under a name, and taken into use again after a second cut; a look takes the last one, one too early none
states-of_caller :
    run [] 3 start (Facet ((0 ∷ 1 ∷ []) ∷ []) ∷ Cut ∷ Hold (codes "a") ∷ Cut ∷ Take (codes "a") ∷ After 6 ∷ []) ∷ run line 3 start (After 15 ∷ Hold (codes "x") ∷ Hold (codes "y") ∷ Release (codes "x") ∷ Take (codes "x") ∷ [])
    ∷ changed line 3 start (change.Back 4) ∷ changed line 3 start (change.Back 3) ∷ []
    ≡ record { seen = 5; names = (codes "a", 1) ∷ []; in_use = 1 } ∷ record { seen = 15; names = (codes "y", 3) ∷ []; in_use = 3 }
    ∷ record { seen = 15; names = []; in_use = 0 } ∷ record { seen = 16; names = []; in_use = 0 } ∷ []
unfolding grown judge new_faces run
states-of_caller = refl
