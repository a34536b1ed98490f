-- A search for a key, from the last place in its bucket on.
--     IsLeft         what is left of a search at a place
--     IsLeft-first, IsLeft-next      where it begins, and its next place
--     found_at       where it ends
use Rattle.std.proofs.Common.{◌≡◌, ℕ, zero, suc, ◌<◌, ◌≤◌, ◌%◌, ◌⊎◌, Bool, true, false, List, [], ◌∷◌, length, get_or, Option, Some, inl, inr, refl, sym, ap, subst, ◌∙◌, arith}
use Rattle.std.proofs.lemmas.Bool.{cases_eq, cases_lt, cases_Bool}
use Rattle.std.proofs.lemmas.List.{get_or-map, get_or_default}
use Rattle.share_index.specs.Buckets.{bound, IsLast}
use Rattle.std.specs.List.{slice_get}
use Rattle.share_index.specs.Entries.{hashes, HasEntry, HasNone}

module _ {K : Type 0} (same : K → K → Bool) (hash : K → ℕ) (es : List (K × ℕ)) (m n : ℕ) (q : K) where
  -- no entry from the place on has the key, and the place is in the key's bucket
  pub record IsLeft (o : Option ℕ) : Type 0 where
    pub within : bound o ≤ n
    pub here : (j : ℕ) → o ≡ Some j → get_or (hashes hash es) j 0 % m ≡ hash q % m
    pub none : HasNone same es (bound o) n q

module _ {K : Type 0} {same : K → K → Bool} (exact : (p q : K) → same p q ≡ true → p ≡ q) where
  module _ (hash : K → ℕ) (es : List (K × ℕ)) (m : ℕ) (q : K) where
    -- after the last place in the key's bucket no entry has the key
    none_after : (n : ℕ) (o : Option ℕ) → IsLast (hashes hash es) m (hash q % m) n o → HasNone same es (bound o) n q
    none_after n o L k d le lt inside = at (cases_Bool (same q (get_or es k d).0))
      where
        at : (same q (get_or es k d).0 ≡ true) ⊎ (same q (get_or es k d).0 ≡ false) → same q (get_or es k d).0 ≡ false
        at (inr f) = f
        at (inl t) =
            let hashed : get_or (hashes hash es) k 0 ≡ hash q = get_or-map (λ e. hash e.0) es k d 0 inside ∙ ap hash (sym (exact q (get_or es k d).0 t)) in
            let low : k < bound o = L.all k lt (ap (λ h. h % m) hashed) in
            absurd (omega (arith, low, le))

    pub IsLeft-first : (n : ℕ) (o : Option ℕ) → IsLast (hashes hash es) m (hash q % m) n o → IsLeft same hash es m n q o
    IsLeft-first n o L = record { within = L.within; here = L.here; none = none_after n o L }

    pub IsLeft-next : (n j : ℕ) (o : Option ℕ) (d : K × ℕ) → IsLeft same hash es m n q (Some j) → same q (get_or es j d).0 ≡ false
        → IsLast (hashes hash es) m (get_or (hashes hash es) j 0 % m) j o → IsLeft same hash es m n q o
    IsLeft-next n j o d S apart L = record {
      within = omega (arith, L.within, S.within);
      here = λ i e. L.here i e ∙ S.here j refl;
      none = λ k e le lt inside. at k e le lt inside (cases_eq k j) (cases_lt k j);
    }
      where
        at : (k : ℕ) (e : K × ℕ) → bound o ≤ k → k < n → k < length es → (k ≡ j) ⊎ (k ≡ j → ⊥) → (k < j) ⊎ (j ≤ k) → same q (get_or es k e).0 ≡ false
        at k e le lt inside (inl is) c = ap (λ x. same q x.0) (get_or_default es k e d inside ∙ ap (λ i. get_or es i d) is) ∙ apart
        at k e le lt inside (inr ne) (inl below) = none_after j o (subst (λ b. IsLast (hashes hash es) m b j o) (S.here j refl) L) k e le below inside
        at k e le lt inside (inr ne) (inr above) = S.none k e (omega (arith, ne, above)) lt inside

  -- the entry at a place
  get-place : (es : List (K × ℕ)) (j : ℕ) (d : K × ℕ) → j < length es → slice_get es j ≡ Some (get_or es j d)
  get-place [] j d h = absurd (omega arith)
  get-place (e ∷ es) zero d h = refl
  get-place (e ∷ es) (suc j) d h = get-place es j d (omega arith)

  -- the key is there
  pub found_at : (es : List (K × ℕ)) (q : K) (j : ℕ) (e : K × ℕ) → j < length es → e ≡ get_or es j e → same q e.0 ≡ true → HasEntry es q (j, e.1)
  found_at es q j e h at is = (h, get-place es j e h ∙ ap Some (sym at ∙ (λ i. (sym (exact q e.0 is) i, e.1))))
