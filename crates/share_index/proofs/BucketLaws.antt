-- Places in buckets, and one more.
--     IsLast-none, IsLast-here, IsLast-other      no place; the next place, in its bucket and in another
--     IsLast-more, IsFiled-more                   one more hash, whose place is not in its bucket yet
--     none_more, IsFiled-none, IsFiled-file       no places, and the next one in its bucket
use Rattle.std.proofs.Common.{◌≡◌, ℕ, zero, suc, ◌+◌, ◌<◌, ◌≤◌, ◌%◌, ◌⊎◌, List, [], ◌∷◌, ◌++◌, length, get_or, set, Option, Some, None, inl, inr, refl, sym, ap, subst, ◌∙◌, arith}
use Rattle.std.proofs.lemmas.Bool.{cases_eq}
use Rattle.std.proofs.lemmas.List.{length-set, length_push, get_or-set_same, get_or-set_other, get_or_append_left, get_or_push, get_or_default}
use Rattle.share_index.specs.Buckets.{bound, IsLast, IsFiled}

pub IsLast-none : (hs : List ℕ) (m b : ℕ) → IsLast hs m b 0 None
IsLast-none hs m b = record { within = omega arith; here = λ j e. absurd cc; all = λ k h e. absurd (omega (arith, h)) }

-- the next place in its bucket
IsLast-here : (hs : List ℕ) (m n : ℕ) → IsLast hs m (get_or hs n 0 % m) (n + 1) (Some n)
IsLast-here hs m n = record {
  within = omega arith;
  here = λ j e. let same : n ≡ j = cc in ap (λ i. get_or hs i 0 % m) (sym same);
  all = λ k h e. h;
}

-- and in another bucket
IsLast-other : (hs : List ℕ) (m b n : ℕ) (o : Option ℕ) → (get_or hs n 0 % m ≡ b → ⊥) → IsLast hs m b n o → IsLast hs m b (n + 1) o
IsLast-other hs m b n o apart L = record {
  within = omega (arith, L.within);
  here = L.here;
  all = λ k h e. at k h e (cases_eq k n);
}
  where
    at : (k : ℕ) → k < n + 1 → get_or hs k 0 % m ≡ b → (k ≡ n) ⊎ (k ≡ n → ⊥) → k < bound o
    at k h e (inl q) = absurd (apart (ap (λ i. get_or hs i 0 % m) (sym q) ∙ e))
    at k h e (inr q) = L.all k (omega (arith, h, q)) e

-- one more hash
IsLast-more : (hs : List ℕ) (h m b n : ℕ) (o : Option ℕ) → n ≤ length hs → IsLast hs m b n o → IsLast (hs ++ h ∷ []) m b n o
IsLast-more hs h m b n o le L = record {
  within = L.within;
  here = λ j e. old j (omega (arith, le, L.within, ap bound e)) ∙ L.here j e;
  all = λ k lt e. L.all k lt (sym (old k (omega (arith, le, lt))) ∙ e);
}
  where
    old : (k : ℕ) → k < length hs → get_or (hs ++ h ∷ []) k 0 % m ≡ get_or hs k 0 % m
    old k lt = ap (λ x. x % m) (get_or_append_left hs (h ∷ []) 0 k lt)

pub IsFiled-more : (hs : List ℕ) (h : ℕ) (last before : List (Option ℕ)) → IsFiled hs last before → IsFiled (hs ++ h ∷ []) last before
IsFiled-more hs h last before F = record {
  few = omega (arith, F.few, length_push hs h);
  some = F.some;
  bucket = λ b lt. IsLast-more hs h (length last) b (length before) (get_or last b None) F.few (F.bucket b lt);
  place = λ j lt.
      let P : ℕ → Type 0 = λ x. IsLast (hs ++ h ∷ []) (length last) (x % length last) j (get_or before j None) in
      subst P (sym (get_or_append_left hs (h ∷ []) 0 j (omega (arith, lt, F.few))))
      (IsLast-more hs h (length last) (get_or hs j 0 % length last) j (get_or before j None) (omega (arith, lt, F.few)) (F.place j lt));
}

-- one more bucket without places
pub none_more : (last : List (Option ℕ)) → ((b : ℕ) → get_or last b None ≡ None) → (b : ℕ) → get_or (last ++ None ∷ []) b None ≡ None
none_more [] none zero = refl
none_more [] none (suc b) = refl
none_more (o ∷ last) none zero = none 0
none_more (o ∷ last) none (suc b) = none_more last (λ c. none (suc c)) b

pub IsFiled-none : (hs : List ℕ) (last before : List (Option ℕ)) → before ≡ [] → ((b : ℕ) → get_or last b None ≡ None) → IsFiled hs last before
IsFiled-none hs last before e none = subst (IsFiled hs last) (sym e) (record {
  few = omega arith;
  some = λ h. absurd (omega (arith, h));
  bucket = λ b lt. subst (IsLast hs (length last) b 0) (sym (none b)) (IsLast-none hs (length last) b);
  place = λ j lt. absurd (omega (arith, lt));
})

module _ (hs : List ℕ) (last before : List (Option ℕ)) (F : IsFiled hs last before) (within : length before < length hs) (some : 0 < length last) where
  abbrev pub m : ℕ
  m = length last

  abbrev pub n : ℕ
  n = length before

  abbrev pub c : ℕ
  c = get_or hs n 0 % m

  abbrev pub next : List (Option ℕ)
  next = set last c (Some n)

  abbrev pub longer : List (Option ℕ)
  longer = before ++ get_or last c None ∷ []

  bucket_now : (b : ℕ) → b < m → (b ≡ c) ⊎ (b ≡ c → ⊥) → IsLast hs m b (n + 1) (get_or next b None)
  bucket_now b lt (inl q) =
      let P : ℕ → Type 0 = λ x. IsLast hs m x (n + 1) (get_or next x None) in
      subst P (sym q) (subst (IsLast hs m c (n + 1)) (sym (get_or-set_same last c (Some n) None (omega (arith, some)))) (IsLast-here hs m n))
  bucket_now b lt (inr q) =
      subst (IsLast hs m b (n + 1)) (sym (get_or-set_other last c b (Some n) None q)) (IsLast-other hs m b n (get_or last b None) (λ e. q (sym e)) (F.bucket b lt))

  place_now : (j : ℕ) → j < n + 1 → (j ≡ n) ⊎ (j ≡ n → ⊥) → IsLast hs m (get_or hs j 0 % m) j (get_or longer j None)
  place_now j lt (inl q) =
      let P : ℕ → Type 0 = λ x. IsLast hs m (get_or hs x 0 % m) x (get_or longer x None) in
      subst P (sym q) (subst (IsLast hs m c n) (sym (get_or_push before (get_or last c None) None n refl)) (F.bucket c (omega (arith, some))))
  place_now j lt (inr q) =
      subst (IsLast hs m (get_or hs j 0 % m) j) (sym (get_or_append_left before (get_or last c None ∷ []) None j (omega (arith, lt, q)))) (F.place j (omega (arith, lt, q)))

  filed : IsFiled hs next longer
  filed =
      let long : length next ≡ m = length-set last c (Some n) in
      let more : length longer ≡ n + 1 = length_push before (get_or last c None) in
      record {
        few = omega (arith, more, within);
        some = λ h. omega (arith, long, some);
        bucket = λ b lt.
            subst (λ x. IsLast hs x b (length longer) (get_or next b None)) (sym long)
            (subst (λ x. IsLast hs m b x (get_or next b None)) (sym more) (bucket_now b (omega (arith, lt, long)) (cases_eq b c)));
        place = λ j lt.
            subst (λ x. IsLast hs x (get_or hs j 0 % x) j (get_or longer j None)) (sym long) (place_now j (omega (arith, lt, more)) (cases_eq j n));
      }

  -- the next place in its bucket
  pub IsFiled-file : (h i : ℕ) (o : Option ℕ) (last2 before2 : List (Option ℕ)) → get_or hs n 0 ≡ h → i ≡ h % m → o ≡ get_or last i o
      → last2 ≡ set last i (Some n) → before2 ≡ before ++ o ∷ [] → IsFiled hs last2 before2
  IsFiled-file h i o last2 before2 is at was e f =
      let here : i ≡ c = at ∙ ap (λ x. x % m) (sym is) in
      let same : o ≡ get_or last c None = was ∙ get_or_default last i o None (omega (arith, here, some)) ∙ ap (λ x. get_or last x None) here in
      subst (λ x. IsFiled hs x before2) (sym (e ∙ ap (λ x. set last x (Some n)) here))
      (subst (IsFiled hs next) (sym (f ∙ ap (λ x. before ++ x ∷ []) same)) filed)
