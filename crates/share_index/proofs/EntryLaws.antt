-- What a change does to the entries.
--     IsIndex-empty, IsIndex-push, IsIndex-set, IsIndex-changed
--                                                   no entries, one more, and one with another value
--     value_found, value_none, found, found_last    what a search says
--     put_there, put_new, update-put, length-put    a value that is put in its place, or at the end
use Rattle.std.proofs.Common.{◌≡◌, ℕ, zero, suc, ◌+◌, ◌-◌, ◌<◌, ◌≤◌, ◌⊎◌, Bool, true, false, cond, ◌||◌, List, [], ◌∷◌, ◌++◌, length, map, set, get_or, Option, Some, None, inl, inr, is_some, refl, sym, ap, subst, ◌∙◌, arith}
use Rattle.std.specs.List.{slice_get, list_any, IsDistinct}
use Rattle.std.specs.Prelude.{MatchOption, Result, Ok, Err, OnOk, OnErr}
use Rattle.std.specs.Cmp.{IsEquivalence}
use Rattle.std.specs.Map.{lookup, keys_of, set_value}
use Rattle.std.proofs.lemmas.Bool.{true≢false, cases_Bool, cases_lt}
use Rattle.std.proofs.lemmas.List.{get_or-map, map_push, length_push, length-set}
use Rattle.std.proofs.lemmas.Map.{lookup-none, lookup-set_value, length-set_value}
use Rattle.std.proofs.lemmas.Map.Keys.{IsDistinct-push, IsDistinct-tail}
use Rattle.std.proofs.lemmas.Map.Entries.{lookup_from_place, none_past_head}
use Rattle.share_index.specs.Buckets.{IsFiled}
use Rattle.share_index.specs.Entries.{value_at, put, count_with, hashes, HasNone, HasEntry, IsFound, IsIndex, IsUpdate}
use Rattle.share_index.proofs.BucketLaws.{IsFiled-more, IsFiled-none}

module _ {K : Type 0} {same : K → K → Bool} (laws : IsEquivalence same) where
  -- what a search says
  pub value_none : (es : List (K × ℕ)) (n : ℕ) (q : K) → HasNone same es 0 n q → length es ≤ n → value_at same es q ≡ None
  value_none [] n q none le = refl
  value_none (e ∷ es) n q none le =
      ap (λ b. cond b (Some e.1) (value_at same es q)) (none 0 e (omega arith) (omega (arith, le)) (omega arith))
      ∙ value_none es (n - 1) q (λ k d i j h. none (suc k) d (omega arith) (omega (arith, j)) (omega (arith, h))) (omega (arith, le))

  pub value_found : (es : List (K × ℕ)) (q : K) (r : ℕ × ℕ) → IsDistinct same (keys_of es) → HasEntry es q r → value_at same es q ≡ Some r.1
  value_found es q r distinct H = lookup_from_place laws es r.0 q r.1 distinct H.1

  pub found : (es all : List (K × ℕ)) (q : K) (r : ℕ × ℕ) → IsDistinct same (keys_of es) → es ≡ all → HasEntry es q r → IsFound same all q r
  found es all q r distinct e H = subst (λ l. IsFound same l q r) e (record { entry = H; value = value_found es q r distinct H })

  -- what is said of all entries but the last, and then of the last
  pub found_last : (es all : List (K × ℕ)) (n : ℕ) (q : K) (o : Option (ℕ × ℕ)) → IsDistinct same (keys_of es) → es ≡ all → length es ≤ n + 1 → HasNone same es 0 n q
      → MatchOption o (HasNone same es n (n + 1) q) (HasEntry es q) → MatchOption o (value_at same all q ≡ None) (IsFound same all q)
  found_last es all n q (Some r) distinct e le none said = found es all q r distinct e said
  found_last es all n q None distinct e le none said = ap (λ l. value_at same l q) (sym e) ∙ value_none es (n + 1) q (λ k d i j h. at k d i j h (cases_lt k n)) le
    where
      at : (k : ℕ) (d : K × ℕ) → 0 ≤ k → k < n + 1 → k < length es → (k < n) ⊎ (n ≤ k) → same q (get_or es k d).0 ≡ false
      at k d i j h (inl below) = none k d i below h
      at k d i j h (inr above) = said k d above j h

  -- one more key at the end
  pub lookup-push : (es : List (K × ℕ)) (k : K) (v : ℕ) (q : K) → value_at same es k ≡ None → value_at same (es ++ (k, v) ∷ []) q ≡ cond (same k q) (Some v) (value_at same es q)
  lookup-push [] k v q none = ap (λ b. cond b (Some v) None) (laws.symm q k)
  lookup-push (e ∷ es) k v q none = at (same k e.0) (same q e.0) (same k q) refl refl refl none (lookup-push es k v q)
    where
      at : (a b c : Bool) → same k e.0 ≡ a → same q e.0 ≡ b → same k q ≡ c → cond a (Some e.1) (value_at same es k) ≡ None
          → (value_at same es k ≡ None → value_at same (es ++ (k, v) ∷ []) q ≡ cond c (Some v) (value_at same es q))
          → cond b (Some e.1) (value_at same (es ++ (k, v) ∷ []) q) ≡ cond c (Some v) (cond b (Some e.1) (value_at same es q))
      at true b c ke qe kq said rest = absurd cc
      at false true true ke qe kq said rest = absurd (true≢false (sym qe ∙ sym (laws.congr k q e.0 kq) ∙ ke))
      at false true false ke qe kq said rest = refl
      at false false c ke qe kq said rest = rest said

module _ {K : Type 0} {same : K → K → Bool} (laws : IsEquivalence same) where
  -- a key that has no value is none of the keys
  absent : (es : List (K × ℕ)) (k : K) → value_at same es k ≡ None → list_any (same k) (keys_of es) ≡ false
  absent [] k none = refl
  absent (e ∷ es) k none = at (same k e.0) refl none (absent es k)
    where
      at : (b : Bool) → same k e.0 ≡ b → cond b (Some e.1) (value_at same es k) ≡ None → (value_at same es k ≡ None → list_any (same k) (keys_of es) ≡ false)
          → (b || list_any (same k) (keys_of es)) ≡ false
      at true is said rest = absurd cc
      at false is said rest = rest said

  module _ (hash : K → ℕ) where
    pub IsIndex-empty : IsIndex same hash [] [] []
    unfolding IsDistinct
    IsIndex-empty = record { distinct = tt; filed = IsFiled-none [] [] [] refl (λ b. refl); waiting = omega arith }

    pub IsIndex-push : (es : List (K × ℕ)) (last before : List (Option ℕ)) (k : K) (v : ℕ) → IsIndex same hash es last before → value_at same es k ≡ None → length es ≡ length before
        → IsIndex same hash (es ++ (k, v) ∷ []) last before
    IsIndex-push es last before k v I new all = record {
      distinct = subst (IsDistinct same) (sym (map_push (λ e. e.0) es (k, v))) (IsDistinct-push laws (keys_of es) k I.distinct (absent es k new));
      filed = subst (λ hs. IsFiled hs last before) (sym (map_push (λ e. hash e.0) es (k, v))) (IsFiled-more (hashes hash es) (hash k) last before I.filed);
      waiting = omega (arith, length_push es (k, v), all);
    }

  -- another value leaves the keys
  same_keys : {X : Type 0} (f : K → X) (es : List (K × ℕ)) (j : ℕ) (k : K) (u v : ℕ) → slice_get es j ≡ Some (k, u) → map (λ e. f e.0) (set es j (k, v)) ≡ map (λ e. f e.0) es
  same_keys f [] j k u v at = refl
  same_keys f (e ∷ es) zero k u v at = let is : e ≡ (k, u) = cc in ap (λ d. f d.0 ∷ map (λ e. f e.0) es) (sym is)
  same_keys f (e ∷ es) (suc j) k u v at = ap (λ l. f e.0 ∷ l) (same_keys f es j k u v at)

  pub IsIndex-set : (hash : K → ℕ) (es : List (K × ℕ)) (last before : List (Option ℕ)) (j : ℕ) (k : K) (u v : ℕ) → IsIndex same hash es last before → slice_get es j ≡ Some (k, u)
      → IsIndex same hash (set es j (k, v)) last before
  IsIndex-set hash es last before j k u v I at = record {
    distinct = subst (IsDistinct same) (sym (same_keys (λ x. x) es j k u v at)) I.distinct;
    filed = subst (λ hs. IsFiled hs last before) (sym (same_keys hash es j k u v at)) I.filed;
    waiting = omega (arith, length-set es j (k, v), I.waiting);
  }

  pub IsIndex-changed : {A E : Type 0} (r : Result A E) (hash : K → ℕ) (es new : List (K × ℕ)) (last before : List (Option ℕ)) (j : ℕ) (k : K) (u v : ℕ) → IsIndex same hash es last before
      → slice_get es j ≡ Some (k, u) → OnOk r (new ≡ set es j (k, v)) → OnErr r (new ≡ es) → IsIndex same hash new last before
  IsIndex-changed (Ok a) hash es new last before j k u v I at ok err = subst (λ l. IsIndex same hash l last before) (sym ok) (IsIndex-set hash es last before j k u v I at)
  IsIndex-changed (Err e) hash es new last before j k u v I at ok err = subst (λ l. IsIndex same hash l last before) (sym err) I

  -- the place of a key is the first that has it
  set_first : (es : List (K × ℕ)) (j : ℕ) (k : K) (u v : ℕ) → IsDistinct same (keys_of es) → slice_get es j ≡ Some (k, u) → set es j (k, v) ≡ set_value (same k) es v
  set_first [] j k u v distinct at = refl
  set_first (e ∷ es) zero k u v distinct at =
      let is : e ≡ (k, u) = cc in
      let here : same k e.0 ≡ true = ap (λ d. same k d.0) is ∙ laws.refl k in
      ap (λ d. (d.0, v) ∷ es) (sym is) ∙ sym (ap (λ b. cond b ((e.0, v) ∷ es) (e ∷ set_value (same k) es v)) here)
  set_first (e ∷ es) (suc j) k u v distinct at = split (cases_Bool (same k e.0)) (set_first es j k u v (IsDistinct-tail same e.0 (keys_of es) distinct) at)
    where
      split : (same k e.0 ≡ true) ⊎ (same k e.0 ≡ false) → set es j (k, v) ≡ set_value (same k) es v → e ∷ set es j (k, v) ≡ cond (same k e.0) ((e.0, v) ∷ es) (e ∷ set_value (same k) es v)
      split (inl t) rest =
          let found : lookup (same k) es ≡ Some u = lookup_from_place laws es j k u (IsDistinct-tail same e.0 (keys_of es) distinct) at in
          let none : lookup (same k) es ≡ None = lookup-none (same k) es (none_past_head laws k e es distinct t) in
          absurd cc
      split (inr f) rest =
          ap (λ l. e ∷ l) rest
          ∙ sym (ap (λ b. cond b ((e.0, v) ∷ es) (e ∷ set_value (same k) es v)) f)

  -- a value in its place, and at the end
  pub put_there : (es : List (K × ℕ)) (k : K) (v : ℕ) (r : ℕ × ℕ) → IsDistinct same (keys_of es) → HasEntry es k r → set es r.0 (k, v) ≡ put same es k v
  put_there es k v r distinct H =
      set_first es r.0 k r.1 v distinct H.1 ∙ sym (ap (λ o. cond (is_some o) (set_value (same k) es v) (es ++ (k, v) ∷ [])) (value_found laws es k r distinct H))

  pub put_new : (es : List (K × ℕ)) (k : K) (v : ℕ) → value_at same es k ≡ None → es ++ (k, v) ∷ [] ≡ put same es k v
  put_new es k v none = sym (ap (λ o. cond (is_some o) (set_value (same k) es v) (es ++ (k, v) ∷ [])) none)

  pub update-put : (es : List (K × ℕ)) (k : K) (v : ℕ) → IsUpdate same es (put same es k v) k v
  update-put es k v q = at (value_at same es k) refl
    where
      at : (o : Option ℕ) → value_at same es k ≡ o → value_at same (cond (is_some o) (set_value (same k) es v) (es ++ (k, v) ∷ [])) q ≡ cond (same k q) (Some v) (value_at same es q)
      at None is = lookup-push laws es k v q is
      at (Some u) is = lookup-set_value laws (same k) (λ x y h. laws.congr k x y h) q v es (ap is_some is)

  pub length-put : (es : List (K × ℕ)) (k : K) (v : ℕ) → length (put same es k v) ≡ count_with same es k
  length-put es k v = at (value_at same es k)
    where
      at : (o : Option ℕ) → length (cond (is_some o) (set_value (same k) es v) (es ++ (k, v) ∷ [])) ≡ length es + cond (is_some o) 0 1
      at None = length_push es (k, v)
      at (Some u) = length-set_value (same k) es v ∙ omega arith

-- the hash of an entry
pub hash_at : {K : Type 0} (hash : K → ℕ) (es : List (K × ℕ)) (i j : ℕ) (e : K × ℕ) (h : ℕ) → i ≡ j → j < length es → e ≡ get_or es j e → h ≡ hash e.0 → get_or (hashes hash es) i 0 ≡ h
hash_at hash es i j e h same within at is =
    ap (λ k. get_or (hashes hash es) k 0) same ∙ get_or-map (λ d. hash d.0) es j e 0 within ∙ ap (λ d. hash d.0) (sym at) ∙ sym is
