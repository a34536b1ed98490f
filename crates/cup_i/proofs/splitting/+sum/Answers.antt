-- The next vertex is single, or shared.
use Rattle.std.proofs.Common.{◌≡◌, ℕ, ◌+◌, ◌-◌, true, ◌&&◌, List, [], ◌∷◌, ◌++◌, length, sym, ap, ◌∙◌, arith, append_assoc, append-nil, length-append, le-ltb}
use Rattle.homology.specs.Complexes.{simplex_at}
use Rattle.products.specs.Products.{value_at}
use Rattle.products.proofs.CoboundaryLaw.{value_at-length}
use Rattle.cochain_values.specs.Marks.{marked}
use Rattle.cup_i.specs.Splits.{after, split_sum}
use Rattle.complex_store.proofs.FrontLaws.{front-part, remove-middle}
use Rattle.cup_i.proofs.FactorLaws.{value-other}
use Rattle.cup_i.proofs.SplitSums.{split_sum-none, split_sum-second, split_sum-step}
use Rattle.cup_i.proofs.SideLaws.{differ}
use Rattle.cup_i.proofs.splitting.+sum.Goals as goal
use Rattle.cup_i.proofs.splitting.+sum.Goals.{then-far-gt0, else-far-gt0}

pub returns-then-at_all : goal.returns-then-at_all
returns-then-at_all t c = λ u w s near far long.
    let K = c.args.k.now in
    let first = c.args.near.now in
    let A = value_at K (marked first.factor.now.marks.items) in
    let B = value_at K (marked c.args.far.now.factor.now.marks.items) in
    let one : A (simplex_at K first.face) ≡ true = sym c.at_all.ensures ∙ c.if-at_all.true in
    let fits = value_at-length K c.requires.near.factor.complex first.factor.now.degree (marked first.factor.now.marks.items) c.requires.near.factor.cochain (simplex_at K first.face) one in
    let all : length s ≡ c.args.far.now.surplus = omega (arith, fits, c.requires.near.width, c.requires.all, c.if-shared-eq0.true, long) in
    c.at_front.ensures
    ∙ ap B (front-part (simplex_at K c.args.far.now.face) w s c.args.far.now.surplus far all)
    ∙ sym (split_sum-none c.args.shared (after A u) (after B w) s c.if-shared-eq0.true
    ∙ (λ i. A (sym near i) && B (append-nil w i))
    ∙ ap (λ b. b && B w) one)

pub returns-else-at_all : goal.returns-else-at_all
returns-else-at_all t c = λ u w s near far long.
    let K = c.args.k.now in
    let A = value_at K (marked c.args.near.now.factor.now.marks.items) in
    let B = value_at K (marked c.args.far.now.factor.now.marks.items) in
    c.if-at_all.false
    ∙ sym (split_sum-none c.args.shared (after A u) (after B w) s c.if-shared-eq0.true
    ∙ ap (λ b. b && B (w ++ [])) (ap A (sym near) ∙ sym c.at_all.ensures ∙ c.if-at_all.false))

pub returns : goal.returns
returns t c = λ u w s near far long.
    let K = c.args.k.now in
    let n : ℕ = c.args.rest - 1 in
    let k : ℕ = c.args.shared in
    let A = value_at K (marked c.args.near.now.factor.now.marks.items) in
    let b = marked c.args.far.now.factor.now.marks.items in
    let B = value_at K b in
    let some : length s ≡ n + 1 = omega (arith, long, c.requires.all, c.if-shared-eq0.false) in
    let next_near : (v : ℕ) (l : List ℕ) → s ≡ v ∷ l → simplex_at K c.args.near.now.face ≡ (u ++ v ∷ []) ++ l =
    λ v l is. near ∙ ap (λ (r : List ℕ). u ++ r) is ∙ sym (append_assoc u (v ∷ []) l) in
    let next_far : (v : ℕ) (l : List ℕ) → s ≡ v ∷ l → simplex_at K c.args.far.now.face ≡ (w ++ v ∷ []) ++ l =
    λ v l is. far ∙ ap (λ (r : List ℕ). w ++ r) is ∙ sym (append_assoc w (v ∷ []) l) in
    let one : (v : ℕ) (l : List ℕ) → s ≡ v ∷ l → length l ≡ n → c.if-far-gt0.single ≡ split_sum k (after A (u ++ v ∷ [])) (after B w) l = λ v l is rest.
    elim c.if-far-gt0.branch [
      | then-far-gt0 z ↦
          z.single-is
          ∙ z.sum-single.ensures (u ++ v ∷ []) w l (next_near v l is)
          (z.without.ensures.face ∙ remove-middle (simplex_at K c.args.far.now.face) w v l n (far ∙ ap (λ (r : List ℕ). w ++ r) is) rest)
          rest
          ∙ (λ i. split_sum k (after A (u ++ v ∷ [])) (after (value_at K (marked (z.without.ensures.factor i).now.marks.items)) w) l)
      | else-far-gt0 z ↦
          z.single-is
          ∙ le-ltb 0 c.args.far.now.surplus z.if-far-gt0.false
          ∙ sym (split_sum-second k (after A (u ++ v ∷ [])) (after B w) l (λ q le.
          value-other K c.requires.far.factor.complex c.args.far.now.factor.now.degree b c.requires.far.factor.cochain (w ++ q)
          (λ e. omega (arith, e, le, rest, z.if-far-gt0.false, c.requires.far.width, ap length (next_far v l is), length-append w q, length-append (w ++ v ∷ []) l, length-append w (v ∷ [])))))
    ] in
    differ c.sum-both.result c.if-far-gt0.single
    ∙ split_sum-step k (k - 1) A B u w s n c.if-far-gt0.single c.sum-both.result (omega (arith, c.if-shared-eq0.false)) some one
    (λ v l is rest. c.sum-both.ensures (w ++ v ∷ []) (u ++ v ∷ []) l (next_far v l is) (next_near v l is) rest)
