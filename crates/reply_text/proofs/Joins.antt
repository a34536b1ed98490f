-- Joined texts: the first piece, and each further one after the byte that joins. Pairings: those before, and one more.
use Rattle.std.proofs.Common.{◌≡◌, ℕ, ◌+◌, ◌<◌, Bool, List, [], ◌∷◌, ◌++◌, map, length, take, get_or, decimal, ap, sym, ◌∙◌, arith, add-zero, append_assoc}
use Rattle.std.specs.Prelude.{Vec}
use Rattle.std.specs.List.{join_with_byte, flat_map, enumerate_from}
use Rattle.std.specs.declared.alloc.Global.{Global}
use Rattle.std.proofs.lemmas.List.{append-nil, map_more, length-map, length-take-le}
use Rattle.transcript.specs.Values.{simplex_text, simplices_text, classes_text, row_text, rows_text, pairing_text, pairings_text}
use Rattle.reply_text.specs.Rows.{rows_in, pairings_in}

-- a join of at least one piece
join-first : {X : Type 0} (c : ℕ) (f : X → List ℕ) (x : X) (xs : List X)
    → join_with_byte c (map f (x ∷ xs)) ≡ f x ++ flat_map (λ y. c ∷ f y) xs
join-first c f x [] = sym (append-nil (f x))
join-first c f x (y ∷ ys) = ap (λ w. f x ++ (c ∷ w)) (join-first c f y ys)

-- a simplex by its first vertex and the others
pub simplex_text-first : (s : List ℕ) (v : ℕ) (vs : List ℕ) → s ≡ v ∷ vs
    → simplex_text s ≡ decimal v ++ flat_map (λ w. 45 ∷ decimal w) vs
simplex_text-first s v vs e = ap simplex_text e ∙ join-first 45 decimal v vs

-- simplices by the first and the others
pub simplices_text-first : (ss : List (List ℕ)) (t : List ℕ) (ts : List (List ℕ)) → ss ≡ t ∷ ts
    → simplices_text ss ≡ simplex_text t ++ flat_map (λ u. 44 ∷ simplex_text u) ts
simplices_text-first ss t ts e = ap simplices_text e ∙ join-first 44 simplex_text t ts

-- class numbers by the first and the others
pub classes_text-first : (ks : List ℕ) (m : ℕ) (ms : List ℕ) → ks ≡ m ∷ ms
    → classes_text ks ≡ (35 ∷ []) ++ (decimal m ++ flat_map (λ k. 43 ∷ 35 ∷ decimal k) ms)
classes_text-first ks m ms e = ap classes_text e ∙ join-first 43 (λ k. 35 ∷ decimal k) m ms

-- a join of at least one piece, each of which is made in two steps
join-first_of : {X Y : Type 0} (c : ℕ) (f : Y → List ℕ) (g : X → Y) (x : X) (xs : List X)
    → join_with_byte c (map f (map g (x ∷ xs))) ≡ f (g x) ++ flat_map (λ y. c ∷ f (g y)) xs
join-first_of c f g x [] = sym (append-nil (f (g x)))
join-first_of c f g x (y ∷ ys) = ap (λ w. f (g x) ++ (c ∷ w)) (join-first_of c f g y ys)

-- rows by the first and the others
pub rows_text-first : (rows : List (Vec Bool Global)) (r : Vec Bool Global) (rs : List (Vec Bool Global)) → rows ≡ r ∷ rs
    → rows_text (rows_in rows) ≡ row_text r.items ++ flat_map (λ row. 47 ∷ row_text row.items) rs
rows_text-first rows r rs e = ap (λ l. rows_text (rows_in l)) e ∙ join-first_of 47 row_text (λ row. row.items) r rs

-- one more element at the end, with its place
enumerated-more : {X : Type 0} (f : ℕ × X → List ℕ) (n : ℕ) (xs : List X) (y : X)
    → flat_map f (enumerate_from n (xs ++ y ∷ [])) ≡ flat_map f (enumerate_from n xs) ++ f (n + length xs, y)
enumerated-more f n [] y = append-nil (f (n, y)) ∙ ap (λ m. f (m, y)) (sym (add-zero n))
enumerated-more f n (x ∷ xs) y =
    let place : n + 1 + length xs ≡ n + length (x ∷ xs) = omega arith in
    ap (λ w. f (n, x) ++ w) (enumerated-more f (n + 1) xs y ∙ ap (λ m. flat_map f (enumerate_from (n + 1) xs) ++ f (m, y)) place)
    ∙ sym (append_assoc (f (n, x)) (flat_map f (enumerate_from (n + 1) xs)) (f (n + length (x ∷ xs), y)))

-- pairings, and that of one degree more
pairings_text-more : (ps : List (Vec (Vec Bool Global) Global)) (p : ℕ) (rows : Vec (Vec Bool Global) Global) → p < length ps → rows ≡ get_or ps p rows
    → pairings_text (pairings_in (take (p + 1) ps)) ≡ pairings_text (pairings_in (take p ps)) ++ pairing_text p (rows_in rows.items)
pairings_text-more ps p rows lt is =
    let of : Vec (Vec Bool Global) Global → List (List Bool) = λ v. rows_in v.items in
    let place : 0 + length (pairings_in (take p ps)) ≡ p = omega (arith, length-map (take p ps) of, length-take-le p ps (omega arith)) in
    ap pairings_text (map_more of ps p rows lt)
    ∙ enumerated-more (λ (q, r). pairing_text q r) 0 (pairings_in (take p ps)) (of (get_or ps p rows))
    ∙ ap (λ q. pairings_text (pairings_in (take p ps)) ++ pairing_text q (of (get_or ps p rows))) place
    ∙ ap (λ v. pairings_text (pairings_in (take p ps)) ++ pairing_text p (of v)) (sym is)

pub pairings-appended : (before old new : List ℕ) (ps : List (Vec (Vec Bool Global) Global)) (p : ℕ) (rows : Vec (Vec Bool Global) Global) → p < length ps → rows ≡ get_or ps p rows
    → old ≡ before ++ pairings_text (pairings_in (take p ps)) → new ≡ old ++ pairing_text p (rows_in rows.items)
    → new ≡ before ++ pairings_text (pairings_in (take (p + 1) ps))
pairings-appended before old new ps p rows lt is so_far one =
    one
    ∙ ap (λ w. w ++ pairing_text p (rows_in rows.items)) so_far
    ∙ append_assoc before (pairings_text (pairings_in (take p ps))) (pairing_text p (rows_in rows.items))
    ∙ ap (λ w. before ++ w) (sym (pairings_text-more ps p rows lt is))
