-- Lists one behind another, to which numbers are appended.
--     before-more, before-apart       the sums of lengths with one more, and of fewer
--     laid-none, laid-more            empty lists, and one number more at the end of a list
--     laid-same                       lists that agree
--     entry-fits, ends-more, laid-entered
--                                     numbers at the ends of some lists, with one list more
--     part-read, part-laid            a list is read from its start to the next
use Rattle.std.proofs.Common.{◌≡◌, ℕ, ◌+◌, ◌-◌, ◌<◌, ◌≤◌, Bool, true, false, cond, List, [], ◌∷◌, ◌++◌, length, take, set, replicate, nat_eq, refl, sym, ap, subst, ◌∙◌, arith, append_assoc, eqb-true, eq-eqb, ⊎_elim}
use Rattle.std.specs.Prelude.{count_by, slice_index, slice_index_or}
use Rattle.std.specs.List.{sum_by}
use Rattle.std.proofs.lemmas.Bool.{true≢false, cases_eq, cases_lt}
use Rattle.std.proofs.lemmas.List.{get_or-set_same, get_or-set_other, get_or_append_left, get_or_push, length_push, length-set, length-append, length-replicate, replicate_more, ext_get_or, take-take}
use Rattle.std.proofs.lemmas.List.Edits.{length-between, get_or-between}
use Rattle.std.proofs.lemmas.List.FromFn.{get_or-map-range_with_len}
use Rattle.std.proofs.lemmas.List.Sums.{sum_by_more, sum_by-take-le, count_by_more_yes, count_by_more_no}
use Rattle.homology.proofs.ParityLaws.{nat_eq-apart}
use Rattle.manifold_links.specs.Entries.{before, part, parts, HaveRoom, AreLaid}

pub before-more : (lengths : List ℕ) (x : ℕ) → x < length lengths → before lengths (x + 1) ≡ before lengths x + slice_index lengths x
before-more lengths x h = sum_by_more (λ (n : ℕ). n) lengths x 0 h

pub before-apart : (lengths : List ℕ) (x y : ℕ) → x ≤ y → before lengths x ≤ before lengths y
before-apart lengths x y le = omega (
  arith,
  sum_by-take-le (λ (n : ℕ). n) (take y lengths) x,
  ap (sum_by (λ (n : ℕ). n)) (take-take x y lengths le),
)

pub laid-same : (n : ℕ) (starts : List ℕ) (list more : ℕ → List ℕ) (ends ids : List ℕ) → ((y : ℕ) → list y ≡ more y) → AreLaid n starts list ends ids → AreLaid n starts more ends ids
laid-same n starts list more ends ids same A = subst (λ (f : ℕ → List ℕ). AreLaid n starts f ends ids) (λ i y. same y i) A

pub laid-more : (n : ℕ) (starts : List ℕ) (list : ℕ → List ℕ) (ends ids : List ℕ) (x id : ℕ) → AreLaid n starts list ends ids → x < n
    → slice_index starts x + length (list x) < slice_index starts (x + 1)
    → AreLaid n starts (λ y. cond (nat_eq y x) (list y ++ id ∷ []) (list y)) (set ends x (slice_index ends x + 1)) (set ids (slice_index ends x) id)
laid-more n starts list ends ids x id A h room = record {
  fits = omega (arith, A.fits, length-set ends x (slice_index ends x + 1));
  end = λ y yh. ⊎_elim
      (λ (same : y ≡ x).
      ap (slice_index (set ends x (slice_index ends x + 1))) same ∙ get_or-set_same ends x (slice_index ends x + 1) 0 eh
      ∙ omega (arith, A.end x h, ap length (here y same), length_push (list y) id, ap (λ i. length (list i)) same, ap (slice_index starts) same))
      (λ (other : y ≡ x → ⊥).
      get_or-set_other ends x y (slice_index ends x + 1) 0 other ∙ A.end y yh ∙ ap (λ l. slice_index starts y + length l) (sym (there y other)))
      (cases_eq y x);
  room = λ y yh. ⊎_elim
      (λ (same : y ≡ x).
      omega (arith, room, ap length (here y same), length_push (list y) id, ap (λ i. length (list i)) same, ap (slice_index starts) same, ap (λ i. slice_index starts (i + 1)) same))
      (λ (other : y ≡ x → ⊥). omega (arith, A.room y yh, ap length (there y other)))
      (cases_eq y x);
  apart = λ y z lt zh. A.apart y z lt zh;
  within = λ y yh. omega (arith, A.within y yh, length-set ids (slice_index ends x) id);
  listed = λ y j yh jh. ⊎_elim
      (λ (same : y ≡ x). at_x y j same (omega (arith, jh, ap length (here y same), length_push (list y) id)) ∙ ap (λ l. slice_index l j) (sym (here y same)))
      (λ (other : y ≡ x → ⊥).
      let jl : j < length (list y) = omega (arith, jh, ap length (there y other)) in
      get_or-set_other ids (slice_index ends x) (slice_index starts y + j) id 0 (λ e. elsewhere y j yh jl other e)
      ∙ A.listed y j yh jl ∙ ap (λ l. slice_index l j) (sym (there y other)))
      (cases_eq y x);
}
  where
    eh : x < length ends
    eh = omega (arith, h, A.fits)

    here : (y : ℕ) → y ≡ x → cond (nat_eq y x) (list y ++ id ∷ []) (list y) ≡ list y ++ id ∷ []
    here y same = ap (λ b. cond b (list y ++ id ∷ []) (list y)) (eq-eqb y x same)

    there : (y : ℕ) → (y ≡ x → ⊥) → cond (nat_eq y x) (list y ++ id ∷ []) (list y) ≡ list y
    there y other = ap (λ b. cond b (list y ++ id ∷ []) (list y)) (nat_eq-apart y x other)

    -- what stands in another list stands elsewhere
    elsewhere : (y j : ℕ) → y < n → j < length (list y) → (y ≡ x → ⊥) → slice_index starts y + j ≡ slice_index ends x → ⊥
    elsewhere y j yh jl other e = ⊎_elim
        (λ (lt : y < x). omega (arith, e, A.end x h, A.room y yh, A.apart y x lt h, jl))
        (λ (le : x ≤ y). omega (arith, e, A.end x h, room, A.apart x y (omega (arith, le, other)) yh))
        (cases_lt y x)

    at_x : (y j : ℕ) → y ≡ x → j < length (list y) + 1 → slice_index (set ids (slice_index ends x) id) (slice_index starts y + j) ≡ slice_index (list y ++ id ∷ []) j
    at_x y j same jh = ⊎_elim
        (λ (last : j ≡ length (list y)).
        let place : slice_index starts y + j ≡ slice_index ends x = omega (arith, last, A.end x h, ap (λ i. length (list i)) same, ap (slice_index starts) same) in
        let fits : slice_index ends x < length ids = omega (arith, A.end x h, room, A.within x h) in
        ap (slice_index (set ids (slice_index ends x) id)) place ∙ get_or-set_same ids (slice_index ends x) id 0 fits
        ∙ sym (get_or_push (list y) id 0 j (sym last)))
        (λ (other : j ≡ length (list y) → ⊥).
        let jl : j < length (list y) = omega (arith, jh, other) in
        let yh : y < n = omega (arith, same, h) in
        get_or-set_other ids (slice_index ends x) (slice_index starts y + j) id 0
        (λ e. omega (arith, e, A.end x h, ap (λ i. length (list i)) same, ap (slice_index starts) same, jl))
        ∙ A.listed y j yh jl ∙ sym (get_or_append_left (list y) (id ∷ []) 0 j jl))
        (cases_eq j (length (list y)))

-- how often a number stands at the ends
count-room : (xs : List ℕ) (i x : ℕ) → i < length xs → x ≡ slice_index xs i → count_by (λ y. nat_eq x y) (take i xs) + 1 ≤ count_by (λ y. nat_eq x y) xs
count-room xs i x h is = omega (
  arith,
  count_by_more_yes (λ y. nat_eq x y) xs i 0 h (eq-eqb x (slice_index xs i) is),
  sum_by-take-le (λ (y : ℕ). cond (nat_eq x y) 1 0) xs (i + 1),
)

pub entry-fits : (ends olds : List ℕ) (xs : List ℕ) (i x total : ℕ) → i < length xs → x ≡ slice_index xs i
    → slice_index ends x ≡ slice_index olds x + count_by (λ y. nat_eq x y) (take i xs) → slice_index olds x + count_by (λ y. nat_eq x y) xs ≤ total → slice_index ends x < total
entry-fits ends olds xs i x total h is so room = omega (arith, so, room, count-room xs i x h is)

-- one list more
pub ends-more : (ends olds : List ℕ) (xs : List ℕ) (i x : ℕ) → i < length xs → x ≡ slice_index xs i → x < length ends
    → ((y : ℕ) → slice_index ends y ≡ slice_index olds y + count_by (λ z. nat_eq y z) (take i xs))
    → (y : ℕ) → slice_index (set ends x (slice_index ends x + 1)) y ≡ slice_index olds y + count_by (λ z. nat_eq y z) (take (i + 1) xs)
ends-more ends olds xs i x h is xh so y = ⊎_elim
    (λ (same : y ≡ x).
    ap (slice_index (set ends x (slice_index ends x + 1))) same ∙ get_or-set_same ends x (slice_index ends x + 1) 0 xh
    ∙ omega (arith, so y, ap (slice_index ends) same, count_by_more_yes (λ z. nat_eq y z) xs i 0 h (eq-eqb y (slice_index xs i) (same ∙ is))))
    (λ (other : y ≡ x → ⊥).
    get_or-set_other ends x y (slice_index ends x + 1) 0 other
    ∙ omega (arith, so y, count_by_more_no (λ z. nat_eq y z) xs i 0 h (nat_eq-apart y (slice_index xs i) (λ e. other (e ∙ sym is)))))
    (cases_eq y x)

pub laid-entered : (n : ℕ) (starts : List ℕ) (list : ℕ → List ℕ) (ends ids : List ℕ) (xs : List ℕ) (i x id : ℕ) → i < length xs → x ≡ slice_index xs i → x < n
    → AreLaid n starts (λ y. list y ++ replicate (count_by (λ z. nat_eq y z) (take i xs)) id) ends ids
    → HaveRoom starts (λ y. length (list y) + count_by (λ z. nat_eq y z) xs) n
    → AreLaid n starts (λ y. list y ++ replicate (count_by (λ z. nat_eq y z) (take (i + 1) xs)) id) (set ends x (slice_index ends x + 1)) (set ids (slice_index ends x) id)
laid-entered n starts list ends ids xs i x id h is xh A room =
    laid-same n starts
    (λ y. cond (nat_eq y x) ((list y ++ replicate (count_by (λ z. nat_eq y z) (take i xs)) id) ++ id ∷ []) (list y ++ replicate (count_by (λ z. nat_eq y z) (take i xs)) id))
    (λ y. list y ++ replicate (count_by (λ z. nat_eq y z) (take (i + 1) xs)) id) (set ends x (slice_index ends x + 1)) (set ids (slice_index ends x) id) same
    (laid-more n starts (λ y. list y ++ replicate (count_by (λ z. nat_eq y z) (take i xs)) id) ends ids x id A xh
    (omega (
      arith,
      room x xh,
      count-room xs i x h is,
      length-append (list x) (replicate (count_by (λ z. nat_eq x z) (take i xs)) id),
      length-replicate (count_by (λ z. nat_eq x z) (take i xs)) id,
    )))
  where
    same : (y : ℕ) → cond (nat_eq y x) ((list y ++ replicate (count_by (λ z. nat_eq y z) (take i xs)) id) ++ id ∷ []) (list y ++ replicate (count_by (λ z. nat_eq y z) (take i xs)) id)
        ≡ list y ++ replicate (count_by (λ z. nat_eq y z) (take (i + 1) xs)) id
    same y = by (nat_eq y x) refl
      where
        by : (b : Bool) → nat_eq y x ≡ b → cond b ((list y ++ replicate (count_by (λ z. nat_eq y z) (take i xs)) id) ++ id ∷ []) (list y ++ replicate (count_by (λ z. nat_eq y z) (take i xs)) id)
            ≡ list y ++ replicate (count_by (λ z. nat_eq y z) (take (i + 1) xs)) id
        by true e =
            append_assoc (list y) (replicate (count_by (λ z. nat_eq y z) (take i xs)) id) (id ∷ [])
            ∙ ap (λ l. list y ++ l) (replicate_more (count_by (λ z. nat_eq y z) (take i xs)) id)
            ∙ ap (λ n. list y ++ replicate n id) (sym (count_by_more_yes (λ z. nat_eq y z) xs i 0 h (eq-eqb y (slice_index xs i) (eqb-true y x e ∙ is))))
        by false e =
            ap (λ n. list y ++ replicate n id) (sym (count_by_more_no (λ z. nat_eq y z) xs i 0 h (nat_eq-apart y (slice_index xs i) (λ q. true≢false (sym (eq-eqb y x (q ∙ sym is)) ∙ e)))))

-- empty lists
pub laid-none : (n : ℕ) (starts : List ℕ) (list : ℕ → List ℕ) (lengths ends ids : List ℕ) → ((y : ℕ) → list y ≡ []) → ((x : ℕ) → x ≤ length lengths → slice_index starts x ≡ before lengths x)
    → n ≡ length lengths → ((x : ℕ) → x < length lengths → slice_index ends x ≡ slice_index starts x) → n ≤ length ends → length ids ≡ before lengths (length lengths) → AreLaid n starts list ends ids
laid-none n starts list lengths ends ids none S fits same fit total = record {
  fits = fit;
  end = λ x h. omega (arith, same x (omega (arith, h, fits)), ap length (none x));
  room = λ x h. omega (arith, ap length (none x), S x (omega (arith, h, fits)), S (x + 1) (omega (arith, h, fits)), before-apart lengths x (x + 1) (omega arith));
  apart = λ x y lt h. omega (arith, S (x + 1) (omega (arith, lt, h, fits)), S y (omega (arith, h, fits)), before-apart lengths (x + 1) y (omega (arith, lt)));
  within = λ x h. omega (arith, total, S (x + 1) (omega (arith, h, fits)), before-apart lengths (x + 1) (length lengths) (omega (arith, h, fits)));
  listed = λ x j h lt. absurd (omega (arith, lt, ap length (none x)));
}

-- a list is read from its start to the next
pub part-read : (starts ids : List ℕ) (x : ℕ) → x + 1 < length starts → slice_index_or (parts starts ids) x [] ≡ part starts ids x
part-read starts ids x h = get_or-map-range_with_len (part starts ids) 0 (length starts - 1) x x [] (omega (arith, h)) (omega arith)

pub part-laid : (n : ℕ) (starts : List ℕ) (list : ℕ → List ℕ) (ends ids : List ℕ) (x : ℕ) → x < n → AreLaid n starts list ends ids
    → slice_index starts (x + 1) ≡ slice_index starts x + length (list x) → part starts ids x ≡ list x
part-laid n starts list ends ids x h A full = ext_get_or 0 (part starts ids x) (list x) (omega (arith, long, full)) (λ j lt.
    let jl : j < length (list x) = omega (arith, lt, long, full) in
    get_or-between ids (slice_index starts x) (slice_index starts (x + 1)) j 0 (omega (arith, jl, full)) ∙ A.listed x j h jl)
  where
    long : length (part starts ids x) ≡ slice_index starts (x + 1) - slice_index starts x
    long = length-between ids (slice_index starts x) (slice_index starts (x + 1)) (A.within x h)
