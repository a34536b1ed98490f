-- Leaves in branches: where an item lies, and a tree with one item changed or one more.
use Rattle.std.proofs.Common.{◌≡◌, ℕ, ◌+◌, ◌-◌, ◌*◌, ◌/◌, ◌%◌, ◌<◌, ◌≤◌, ◌⊎◌, inl, inr, List, [], ◌∷◌, ◌++◌, length, get_or, set, refl, sym, ap, subst, ◌∙◌, arith}
use Rattle.std.proofs.lemmas.List.{length-set, get_or_read, set-get_or, get_or_append_left, get_or_push, length_push, set-append_left}
use Rattle.std.proofs.lemmas.Bool.{cases_eq}
use Rattle.std.proofs.Math.Seq.{set-append_seam}
use Rattle.share_rows.specs.Tables.{most}
use Rattle.share_rows.specs.Packs.{width, joined, all_leaves, IsPacked, IsTree, LeafIs, with_leaf}
use Rattle.share_rows.proofs.PackLaws.{place, piece_is, length-by_last, get-joined, set-joined, IsPacked-set, push-piece, IsPacked-push_piece, push-new, IsPacked-push_new, none_open}

module _ {X : Type 0} where
  -- the branch of the q-th leaf, and its place there
  pub record LeafAt (top : List (List (List X))) (q : ℕ) : Type 0 where
    pub branch : q / width < length top
    pub place : q % width < length (get_or top (q / width) [])
    pub is : get_or (get_or top (q / width) []) (q % width) [] ≡ get_or (joined top) q []

  pub leaf_at : (top : List (List (List X))) (q : ℕ) → IsPacked top → q < length (joined top) → LeafAt top q
  leaf_at top q p h = record {
    branch = (place top q p h).0;
    place = (place top q p h).1;
    is = sym (get-joined top q [] p h);
  }

  -- a leaf of packed leaves
  pub leaf_is : (xss : List (List X)) (q : ℕ) → IsPacked xss → q < length xss → LeafIs (joined xss) q (get_or xss q [])
  leaf_is xss q p h = record {
    items = piece_is xss q p h;
    full = elim (cases_eq (q + 1) (length xss)) as (λ _. (length (get_or xss q []) ≡ width) ⊎ (q * width + length (get_or xss q []) ≡ length (joined xss))) [
      | inl e ↦ inr (sym (length-by_last xss q p e))
      | inr n ↦ inl (p.full q (omega arith))
    ];
    fits = p.fits q h;
  }

  -- how many items stand in the top, and how many in the last leaf
  pub record Counted (n : ℕ) (top : List (List (List X))) (tail : List X) : Type 0 where
    pub count : n ≡ length (joined top) * width + length tail
    pub some : 0 < length tail
    pub fits : length tail ≤ width
    pub long : length (all_leaves top tail) ≡ length (joined top) + 1
    pub last : get_or (all_leaves top tail) (length (joined top)) [] ≡ tail

  pub counted : (n : ℕ) (top : List (List (List X))) (tail : List X) → IsTree n top tail → Counted n top tail
  counted n top tail t =
      let m : ℕ = length (joined top) in
      let last : get_or (all_leaves top tail) m [] ≡ tail = get_or_push (joined top) tail [] m refl in
      let long : length (all_leaves top tail) ≡ m + 1 = length_push (joined top) tail in
      record {
        count = t.count ∙ length-by_last (all_leaves top tail) m t.leaves (sym long) ∙ ap (λ l. m * width + length l) last;
        some = subst (λ l. 0 < length l) last (t.leaves.some m (omega (arith, long)));
        fits = subst (λ l. length l ≤ width) last (t.leaves.fits m (omega (arith, long)));
        long = long;
        last = last;
      }

  -- a leaf of the top, and the last leaf
  pub leaf_in : (n : ℕ) (top : List (List (List X))) (tail : List X) (q : ℕ) → IsTree n top tail → q < length (joined top) → LeafIs (joined (all_leaves top tail)) q (get_or (joined top) q [])
  leaf_in n top tail q t h = subst (LeafIs (joined (all_leaves top tail)) q) (get_or_append_left (joined top) (tail ∷ []) [] q h) (leaf_is (all_leaves top tail) q t.leaves (omega (arith, length_push (joined top) tail)))

  pub leaf_last : (n : ℕ) (top : List (List (List X))) (tail : List X) (q : ℕ) → IsTree n top tail → q ≡ length (joined top) → LeafIs (joined (all_leaves top tail)) q tail
  leaf_last n top tail q t e = subst (LeafIs (joined (all_leaves top tail)) q) (get_or_push (joined top) tail [] q (sym e)) (leaf_is (all_leaves top tail) q t.leaves (omega (arith, length_push (joined top) tail)))

  -- the place of an item in a leaf of the top
  pub place_in : (n : ℕ) (top : List (List (List X))) (tail : List X) (k : ℕ) → IsTree n top tail → k / width < length (joined top) → k % width < length (get_or (joined top) (k / width) [])
  place_in n top tail k t h =
      subst (λ l. k % width < length l) (get_or_append_left (joined top) (tail ∷ []) [] (k / width) h) (omega (arith, t.leaves.full (k / width) (omega (arith, h, length_push (joined top) tail))))

  -- a leaf that was read from its branch
  pub leaf_read : (top : List (List (List X))) (q : ℕ) → LeafAt top q → (branch : List (List X)) → branch ≡ get_or top (q / width) [] → (leaf : List X) → leaf ≡ get_or branch (q % width) leaf → leaf ≡ get_or (joined top) q []
  leaf_read top q at branch b leaf l = get_or_read branch (q % width) leaf (subst (λ z. q % width < length z) (sym b) at.place) l [] ∙ ap (λ z. get_or z (q % width) []) b ∙ at.is

  -- the leaf that is there, put in its own place
  pub same_leaf : (top : List (List (List X))) (q : ℕ) → LeafAt top q → (leaf : List X) → leaf ≡ get_or (joined top) q [] → with_leaf top q leaf ≡ top
  same_leaf top q at leaf e =
      ap (λ l. set top (q / width) (set (get_or top (q / width) []) (q % width) l)) (e ∙ sym at.is)
      ∙ ap (λ b. set top (q / width) b) (set-get_or (get_or top (q / width) []) (q % width) [])
      ∙ set-get_or top (q / width) []

  pub record LeafChanged (top : List (List (List X))) (q : ℕ) (xs : List X) : Type 0 where
    pub branches : IsPacked (with_leaf top q xs)
    pub leaves : joined (with_leaf top q xs) ≡ set (joined top) q xs

  pub leaf_changed : (top : List (List (List X))) (q : ℕ) (xs : List X) → IsPacked top → q < length (joined top) → LeafChanged top q xs
  leaf_changed top q xs p h = record {
    branches = IsPacked-set top (q / width) (set (get_or top (q / width) []) (q % width) xs) p (place top q p h).0 (length-set (get_or top (q / width) []) (q % width) xs);
    leaves = set-joined top q xs p h;
  }

  -- other leaves of a tree
  pub record Becomes (n : ℕ) (top : List (List (List X))) (tail xs : List X) : Type 0 where
    pub tree : IsTree n top tail
    pub items : joined (all_leaves top tail) ≡ xs

  becomes : (n : ℕ) (next : List (List (List X))) (tail xs : List X) (yss : List (List X)) → IsPacked next → IsPacked yss → all_leaves next tail ≡ yss → joined yss ≡ xs → n ≡ length xs → n ≤ most → Becomes n next tail xs
  becomes n next tail xs yss b p e i c h = record {
    tree = record { branches = b; leaves = subst IsPacked (sym e) p; count = c ∙ sym (ap (λ z. length (joined z)) e ∙ ap length i); small = h };
    items = ap joined e ∙ i;
  }

  -- the k-th item changed, where its leaf is set
  set_leaf : (n : ℕ) (top next : List (List (List X))) (tail back : List X) (k : ℕ) (x : X) → IsTree n top tail → k < n → IsPacked next
      → all_leaves next back ≡ set (all_leaves top tail) (k / width) (set (get_or (all_leaves top tail) (k / width) []) (k % width) x)
      → Becomes n next back (set (joined (all_leaves top tail)) k x)
  set_leaf n top next tail back k x t h b e =
      let xss : List (List X) = all_leaves top tail in
      let there : k < length (joined xss) = subst (λ m. k < m) t.count h in
      let at = place xss k t.leaves there in
      becomes n next back (set (joined xss) k x) (set xss (k / width) (set (get_or xss (k / width) []) (k % width) x)) b
      (IsPacked-set xss (k / width) (set (get_or xss (k / width) []) (k % width) x) t.leaves at.0 (length-set (get_or xss (k / width) []) (k % width) x))
      e (set-joined xss k x t.leaves there) (t.count ∙ sym (length-set (joined xss) k x)) t.small

  pub set_in_top : (n : ℕ) (top next : List (List (List X))) (tail : List X) (k : ℕ) (x : X) → IsTree n top tail → k < n → k / width < length (joined top) → IsPacked next
      → joined next ≡ set (joined top) (k / width) (set (get_or (joined top) (k / width) []) (k % width) x)
      → Becomes n next tail (set (joined (all_leaves top tail)) k x)
  set_in_top n top next tail k x t h q b e =
      set_leaf n top next tail tail k x t h b
      (ap (λ z. z ++ tail ∷ []) e
      ∙ sym (set-append_left (joined top) (tail ∷ []) (k / width) (set (get_or (joined top) (k / width) []) (k % width) x) q)
      ∙ ap (λ l. set (all_leaves top tail) (k / width) (set l (k % width) x)) (sym (get_or_append_left (joined top) (tail ∷ []) [] (k / width) q)))

  pub set_in_tail : (n : ℕ) (top : List (List (List X))) (tail : List X) (k : ℕ) (x : X) → IsTree n top tail → k < n → k / width ≡ length (joined top)
      → Becomes n top (set tail (k % width) x) (set (joined (all_leaves top tail)) k x)
  set_in_tail n top tail k x t h q =
      let xss : List (List X) = all_leaves top tail in
      set_leaf n top top tail (set tail (k % width) x) k x t h t.branches
      (sym (ap (λ l. set xss (k / width) (set l (k % width) x)) (get_or_push (joined top) tail [] (k / width) (sym q))
      ∙ ap (λ i. set xss i (set tail (k % width) x)) q
      ∙ set-append_seam (joined top) tail [] (set tail (k % width) x)))

  -- one item more in the last leaf
  pub grown_in_tail : (n : ℕ) (top : List (List (List X))) (tail : List X) (x : X) → IsTree n top tail → 0 < n % width → n < most → Becomes (n + 1) top (tail ++ x ∷ []) (joined (all_leaves top tail) ++ x ∷ [])
  grown_in_tail n top tail x t h small =
      let xss : List (List X) = all_leaves top tail in
      let m : ℕ = length (joined top) in
      let c = counted n top tail t in
      let room : length (get_or xss m []) < width = rw (c.last) (omega (arith, c.count, c.fits)) in
      let same : set xss m (get_or xss m [] ++ x ∷ []) ≡ joined top ++ (tail ++ x ∷ []) ∷ [] = ap (λ l. set xss m (l ++ x ∷ [])) c.last ∙ set-append_seam (joined top) tail [] (tail ++ x ∷ []) in
      becomes (n + 1) top (tail ++ x ∷ []) (joined xss ++ x ∷ []) (set xss m (get_or xss m [] ++ x ∷ [])) t.branches
      (IsPacked-push_piece xss m x t.leaves (sym c.long) room) (sym same) (push-piece xss m x (sym c.long))
      (omega (arith, t.count, length_push (joined xss) x)) (omega arith)

  -- the last leaf is full: it comes into the top, and the item begins another one
  pub record IsFull (n : ℕ) (top : List (List (List X))) (tail : List X) : Type 0 where
    pub place : n / width - 1 ≡ length (joined top)
    pub some : 0 < n / width
    pub full : length (joined (all_leaves top tail)) ≡ length (all_leaves top tail) * width

  pub is_full : (n : ℕ) (top : List (List (List X))) (tail : List X) → IsTree n top tail → n % width ≡ 0 → IsFull n top tail
  is_full n top tail t whole =
      let c = counted n top tail t in
      let full : length (joined (all_leaves top tail)) ≡ length (all_leaves top tail) * width = none_open (all_leaves top tail) t.leaves (subst (λ m. m % width ≡ 0) t.count whole) in
      record {
        place = omega (arith, full, t.count, c.long);
        some = omega (arith, full, t.count, c.long);
        full = full;
      }

  pub grown_by_leaf : (n : ℕ) (top next : List (List (List X))) (tail : List X) (x : X) → IsTree n top tail → n % width ≡ 0 → n < most → IsPacked next → joined next ≡ all_leaves top tail
      → Becomes (n + 1) next (x ∷ []) (joined (all_leaves top tail) ++ x ∷ [])
  grown_by_leaf n top next tail x t whole small b e =
      let xss : List (List X) = all_leaves top tail in
      becomes (n + 1) next (x ∷ []) (joined xss ++ x ∷ []) (xss ++ (x ∷ []) ∷ []) b
      (IsPacked-push_new xss x t.leaves (is_full n top tail t whole).full) (ap (λ z. z ++ (x ∷ []) ∷ []) e) (push-new xss x)
      (omega (arith, t.count, length_push (joined xss) x)) (omega arith)
