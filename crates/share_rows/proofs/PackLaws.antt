-- A place in a list that is cut into pieces, and a longer list cut the same way.
use Rattle.std.proofs.Common.{◌≡◌, ℕ, zero, suc, ◌+◌, ◌-◌, ◌*◌, ◌/◌, ◌%◌, ◌<◌, ◌≤◌, inl, inr, List, [], ◌∷◌, ◌++◌, length, get_or, set, take, drop, slice_range, refl, sym, ap, subst, ◌∙◌, arith, append_assoc, length-append, add-one}
use Rattle.std.proofs.lemmas.List.{append-nil, take-append-drop, drop_more, take_more, set_split, drop_all, take_all, length-set, get_or-set_same, get_or-set_other, get_or-append-add, get_or_append_left, set-append_left, set-append_right, length_push, get_or_push, drop_at, take_at}
use Rattle.std.proofs.lemmas.Bool.{cases_eq}
use Rattle.share_rows.specs.Packs.{width, joined, IsPacked}

module _ {X : Type 0} where
  pub joined-append : (xss yss : List (List X)) → joined (xss ++ yss) ≡ joined xss ++ joined yss
  joined-append [] yss = refl
  joined-append (xs ∷ xss) yss = rw (joined-append xss yss) (sym (append_assoc xs (joined xss) (joined yss)))

  -- what stands before a piece, the piece, and what stands after it
  pub joined-split : (xss : List (List X)) (i : ℕ) → i < length xss → joined xss ≡ joined (take i xss) ++ (get_or xss i [] ++ joined (drop (i + 1) xss))
  joined-split xss i h =
      ap joined (sym (take-append-drop i xss)) ∙ joined-append (take i xss) (drop i xss) ∙ ap (λ z. joined (take i xss) ++ joined z) (drop_more xss i [] h)

  -- the same with another piece in its place
  pub joined-set : (xss : List (List X)) (i : ℕ) (xs : List X) → i < length xss → joined (set xss i xs) ≡ joined (take i xss) ++ (xs ++ joined (drop (i + 1) xss))
  joined-set xss i xs h =
      ap joined (set_split xss i xs h) ∙ joined-append (take i xss) (xs ∷ drop (suc i) xss) ∙ ap (λ n. joined (take i xss) ++ (xs ++ joined (drop n xss))) (sym (add-one i))

  -- one piece more
  length-one_more : (xss : List (List X)) (i : ℕ) → i < length xss → length (joined (take (i + 1) xss)) ≡ length (joined (take i xss)) + length (get_or xss i [])
  length-one_more xss i h =
      ap (λ z. length (joined z)) (take_more xss i [] h) ∙ ap length (joined-append (take i xss) (get_or xss i [] ∷ [])) ∙ length-append (joined (take i xss)) (get_or xss i [] ++ [])
      ∙ ap (λ z. length (joined (take i xss)) + length z) (append-nil (get_or xss i []))

  -- before the i-th piece stand i full pieces
  pub length-before : (xss : List (List X)) (i : ℕ) → IsPacked xss → i < length xss → length (joined (take i xss)) ≡ i * width
  length-before xss zero p h = refl
  length-before xss (suc i) p h =
      let more : length (joined (take (i + 1) xss)) ≡ length (joined (take i xss)) + length (get_or xss i []) = length-one_more xss i (omega arith) in
      let before : length (joined (take i xss)) ≡ i * width = length-before xss i p (omega arith) in
      let full : length (get_or xss i []) ≡ width = p.full i (omega arith) in
      rw (← add-one i) (omega (arith, more, before, full))

  -- the pieces up to the last, and the last
  pub length-by_last : (xss : List (List X)) (i : ℕ) → IsPacked xss → i + 1 ≡ length xss → length (joined xss) ≡ i * width + length (get_or xss i [])
  length-by_last xss i p e =
      let more : length (joined (take (i + 1) xss)) ≡ length (joined (take i xss)) + length (get_or xss i []) = length-one_more xss i (omega arith) in
      let all : take (i + 1) xss ≡ xss = take_all (i + 1) xss (omega arith) in
      let before : length (joined (take i xss)) ≡ i * width = length-before xss i p (omega arith) in
      ap (λ z. length (joined z)) (sym all) ∙ more ∙ ap (λ n. n + length (get_or xss i [])) before

  -- there is a last piece
  pub has_last : (xss : List (List X)) → 0 < length (joined xss) → (i : ℕ) × (i + 1 ≡ length xss)
  has_last [] h = absurd (omega arith)
  has_last (xs ∷ xss) h = (length xss, add-one (length xss))

  place_in : (xss : List (List X)) (k m : ℕ) → IsPacked xss → m + 1 ≡ length xss → k / width < length xss → length (joined xss) ≡ m * width + length (get_or xss m []) → k < length (joined xss) → k % width < length (get_or xss (k / width) [])
  place_in xss k m p end within count h =
      elim (cases_eq (k / width) m) as (λ _. k % width < length (get_or xss (k / width) [])) [
        | inl e ↦ subst (λ i. k % width < length (get_or xss i [])) (sym e) (omega arith)
        | inr n ↦ let full : length (get_or xss (k / width) []) ≡ width = p.full (k / width) (omega arith) in omega arith
      ]

  -- where the k-th item lies
  pub place : (xss : List (List X)) (k : ℕ) → IsPacked xss → k < length (joined xss) → (k / width < length xss) × (k % width < length (get_or xss (k / width) []))
  place xss k p h =
      let last = has_last xss (omega arith) in
      let m : ℕ = last.0 in
      let end : m + 1 ≡ length xss = last.1 in
      let count : length (joined xss) ≡ m * width + length (get_or xss m []) = length-by_last xss m p end in
      let fits : length (get_or xss m []) ≤ width = p.fits m (omega arith) in
      let within : k / width < length xss = omega arith in
      (within, place_in xss k m p end within count h)

  -- the items before, in, and after the piece of the k-th item
  pub get-joined : (xss : List (List X)) (k : ℕ) (d : X) → IsPacked xss → k < length (joined xss) → get_or (joined xss) k d ≡ get_or (get_or xss (k / width) []) (k % width) d
  get-joined xss k d p h =
      let i : ℕ = k / width in
      let at = place xss k p h in
      let before : length (joined (take i xss)) ≡ i * width = length-before xss i p at.0 in
      let is : k ≡ length (joined (take i xss)) + k % width = omega (arith, before) in
      ap (λ z. get_or z k d) (joined-split xss i at.0)
      ∙ ap (λ n. get_or (joined (take i xss) ++ (get_or xss i [] ++ joined (drop (i + 1) xss))) n d) is
      ∙ get_or-append-add (joined (take i xss)) (get_or xss i [] ++ joined (drop (i + 1) xss)) (k % width) d
      ∙ get_or_append_left (get_or xss i []) (joined (drop (i + 1) xss)) d (k % width) at.1

  -- a change of the k-th item is a change in its piece
  pub set-joined : (xss : List (List X)) (k : ℕ) (x : X) → IsPacked xss → k < length (joined xss) → joined (set xss (k / width) (set (get_or xss (k / width) []) (k % width) x)) ≡ set (joined xss) k x
  set-joined xss k x p h =
      let i : ℕ = k / width in
      let at = place xss k p h in
      let before : length (joined (take i xss)) ≡ i * width = length-before xss i p at.0 in
      let rest : List X = joined (drop (i + 1) xss) in
      let there : k - i * width ≡ k % width = omega arith in
      joined-set xss i (set (get_or xss i []) (k % width) x) at.0
      ∙ sym (ap (λ z. joined (take i xss) ++ z) (ap (λ n. set (get_or xss i [] ++ rest) n x) there ∙ set-append_left (get_or xss i []) rest (k % width) x at.1))
      ∙ sym (set-append_right (joined (take i xss)) (get_or xss i [] ++ rest) (i * width) k x before (omega arith))
      ∙ ap (λ z. set z k x) (sym (joined-split xss i at.0))

  -- the i-th piece is a range of the items
  pub piece_is : (xss : List (List X)) (i : ℕ) → IsPacked xss → i < length xss → get_or xss i [] ≡ slice_range (joined xss) (i * width) (i * width + length (get_or xss i []))
  piece_is xss i p h =
      let before : length (joined (take i xss)) ≡ i * width = length-before xss i p h in
      let n : ℕ = length (get_or xss i []) in
      let rest : List X = joined (drop (i + 1) xss) in
      sym (ap (λ m. take m (drop (i * width) (joined xss))) (omega arith)
      ∙ ap (λ z. take n (drop (i * width) z)) (joined-split xss i h)
      ∙ ap (take n) (drop_at (joined (take i xss)) (get_or xss i [] ++ rest) (i * width) before)
      ∙ take_at (get_or xss i []) rest n refl)

  -- a piece as long as the one before in its place
  same_length : (xss : List (List X)) (i k : ℕ) (xs : List X) → i < length xss → length xs ≡ length (get_or xss i []) → length (get_or (set xss i xs) k []) ≡ length (get_or xss k [])
  same_length xss i k xs h e =
      elim (cases_eq k i) as (λ _. length (get_or (set xss i xs) k []) ≡ length (get_or xss k [])) [
        | inl q ↦ subst (λ n. length (get_or (set xss i xs) n []) ≡ length (get_or xss n [])) (sym q) (ap length (get_or-set_same xss i xs [] h) ∙ e)
        | inr n ↦ ap length (get_or-set_other xss i k xs [] n)
      ]

  pub IsPacked-set : (xss : List (List X)) (i : ℕ) (xs : List X) → IsPacked xss → i < length xss → length xs ≡ length (get_or xss i []) → IsPacked (set xss i xs)
  IsPacked-set xss i xs p h e = record {
    full = λ k s. same_length xss i k xs h e ∙ p.full k (rw (← length-set xss i xs) s);
    some = λ k s. subst (λ n. 0 < n) (sym (same_length xss i k xs h e)) (p.some k (rw (← length-set xss i xs) s));
    fits = λ k s. subst (λ n. n ≤ width) (sym (same_length xss i k xs h e)) (p.fits k (rw (← length-set xss i xs) s));
  }

  -- one item more in the last piece
  pub push-piece : (xss : List (List X)) (i : ℕ) (x : X) → i + 1 ≡ length xss → joined (set xss i (get_or xss i [] ++ x ∷ [])) ≡ joined xss ++ x ∷ []
  push-piece xss i x e =
      let none : drop (i + 1) xss ≡ [] = drop_all (i + 1) xss (omega arith) in
      let front : List X = joined (take i xss) in
      let piece : List X = get_or xss i [] in
      joined-set xss i (piece ++ x ∷ []) (omega arith)
      ∙ ap (λ z. front ++ ((piece ++ x ∷ []) ++ joined z)) none
      ∙ ap (λ z. front ++ z) (append-nil (piece ++ x ∷ []))
      ∙ sym (append_assoc front piece (x ∷ []))
      ∙ ap (λ z. (front ++ z) ++ x ∷ []) (sym (append-nil piece))
      ∙ ap (λ z. (front ++ (piece ++ joined z)) ++ x ∷ []) (sym none)
      ∙ ap (λ z. z ++ x ∷ []) (sym (joined-split xss i (omega arith)))

  pub IsPacked-push_piece : (xss : List (List X)) (i : ℕ) (x : X) → IsPacked xss → i + 1 ≡ length xss → length (get_or xss i []) < width → IsPacked (set xss i (get_or xss i [] ++ x ∷ []))
  IsPacked-push_piece xss i x p e h =
      let piece : List X = get_or xss i [] in
      let more : length (piece ++ x ∷ []) ≡ length piece + 1 = length_push piece x in
      let long : length (set xss i (piece ++ x ∷ [])) ≡ length xss = length-set xss i (piece ++ x ∷ []) in
      record {
        full = λ k s. ap length (get_or-set_other xss i k (piece ++ x ∷ []) [] (λ q. omega arith)) ∙ p.full k (omega (arith, long));
        some = λ k s. elim (cases_eq k i) as (λ _. 0 < length (get_or (set xss i (piece ++ x ∷ [])) k [])) [
          | inl q ↦ rw (q, get_or-set_same xss i (piece ++ x ∷ []) [] (omega arith)) (omega arith)
          | inr n ↦ rw (get_or-set_other xss i k (piece ++ x ∷ []) [] n) (p.some k (omega (arith, long)))
        ];
        fits = λ k s. elim (cases_eq k i) as (λ _. length (get_or (set xss i (piece ++ x ∷ [])) k []) ≤ width) [
          | inl q ↦ rw (q, get_or-set_same xss i (piece ++ x ∷ []) [] (omega arith)) (omega arith)
          | inr n ↦ rw (get_or-set_other xss i k (piece ++ x ∷ []) [] n) (p.fits k (omega (arith, long)))
        ];
      }

  -- one piece more, of one item, where all are full
  pub push-new : (xss : List (List X)) (x : X) → joined (xss ++ (x ∷ []) ∷ []) ≡ joined xss ++ x ∷ []
  push-new xss x = joined-append xss ((x ∷ []) ∷ [])

  all_full : (xss : List (List X)) → IsPacked xss → length (joined xss) ≡ length xss * width → (k : ℕ) → k < length xss → length (get_or xss k []) ≡ width
  all_full xss p e k h =
      elim (cases_eq (k + 1) (length xss)) as (λ _. length (get_or xss k []) ≡ width) [
        | inl q ↦ omega (arith, length-by_last xss k p q)
        | inr n ↦ p.full k (omega arith)
      ]

  pub IsPacked-push_new : (xss : List (List X)) (x : X) → IsPacked xss → length (joined xss) ≡ length xss * width → IsPacked (xss ++ (x ∷ []) ∷ [])
  IsPacked-push_new xss x p e =
      let long : length (xss ++ (x ∷ []) ∷ []) ≡ length xss + 1 = length_push xss (x ∷ []) in
      let full : (k : ℕ) → k < length xss → length (get_or xss k []) ≡ width = all_full xss p e in
      let old = λ (k : ℕ) (h : k < length xss). get_or_append_left xss ((x ∷ []) ∷ []) [] k h in
      record {
        full = λ k s. ap length (old k (omega (arith, long))) ∙ full k (omega (arith, long));
        some = λ k s. elim (cases_eq k (length xss)) as (λ _. 0 < length (get_or (xss ++ (x ∷ []) ∷ []) k [])) [
          | inl q ↦ rw (get_or_push xss (x ∷ []) [] k (sym q)) (omega arith)
          | inr n ↦ rw (old k (omega (arith, long))) (p.some k (omega (arith, long)))
        ];
        fits = λ k s. elim (cases_eq k (length xss)) as (λ _. length (get_or (xss ++ (x ∷ []) ∷ []) k []) ≤ width) [
          | inl q ↦ rw (get_or_push xss (x ∷ []) [] k (sym q)) (omega arith)
          | inr n ↦ rw (old k (omega (arith, long))) (p.fits k (omega (arith, long)))
        ];
      }

  -- where the last piece has room, and where none has
  pub last_open : (xss : List (List X)) → IsPacked xss → 0 < length (joined xss) % width → (length (joined xss) / width + 1 ≡ length xss) × (length (get_or xss (length (joined xss) / width) []) < width)
  last_open xss p h =
      let last = has_last xss (omega arith) in
      let m : ℕ = last.0 in
      let end : m + 1 ≡ length xss = last.1 in
      let count : length (joined xss) ≡ m * width + length (get_or xss m []) = length-by_last xss m p end in
      let fits : length (get_or xss m []) ≤ width = p.fits m (omega arith) in
      let is : length (joined xss) / width ≡ m = omega arith in
      (rw is end, rw is (omega arith))

  pub none_open : (xss : List (List X)) → IsPacked xss → length (joined xss) % width ≡ 0 → length (joined xss) ≡ length xss * width
  none_open [] p h = refl
  none_open (xs ∷ xss) p h =
      let count : length (joined (xs ∷ xss)) ≡ length xss * width + length (get_or (xs ∷ xss) (length xss) []) = length-by_last (xs ∷ xss) (length xss) p (add-one (length xss)) in
      let some : 0 < length (get_or (xs ∷ xss) (length xss) []) = p.some (length xss) (omega arith) in
      let fits : length (get_or (xs ∷ xss) (length xss) []) ≤ width = p.fits (length xss) (omega arith) in
      omega arith
