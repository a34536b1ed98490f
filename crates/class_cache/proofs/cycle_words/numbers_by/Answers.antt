use Rattle.std.proofs.Common.{◌≡◌, ◌<◌, ℕ, [], length, sym, ap, subst, ◌∙◌, arith}
use Rattle.std.specs.Prelude.{slice_index_or, IfSome}
use Rattle.std.specs.List.{All}
use Rattle.homology.specs.Sets.{evaluate, set_of}
use Rattle.homology.specs.Complexes.{Complex}
use Rattle.homology.specs.Kinds.{betti}
use Rattle.homology.specs.Contractions.{cycle_of}
use Rattle.factors.proofs.Existence.{contraction-exists}
use Rattle.cohomology.specs.Classes.{essential_at}
use Rattle.cohomology.proofs.ClassLaws.{class_of-list}
use Rattle.cohomology.proofs.Naming.{betti-essentials, essential-at}
use Rattle.class_cache.specs.Kept.{AreMarksOf}
use Rattle.class_solver.proofs.AlongPhi.{numbers_below, word-in, word-numbers, word-out}
use Rattle.class_cache.proofs.CycleWords.{cycle-within, value-at_cycle}
use Rattle.class_cache.proofs.ListedChains.{item-any}
use Rattle.class_cache.proofs.cycle_words.numbers_by.Goals as goal
use Rattle.class_cache.proofs.cycle_words.numbers_by.Goals.{then-value_at+in_ok-push, else-value_at}

pub bounds-cycles-k : goal.bounds-cycles-k
bounds-cycles-k c =
    let K = c.args.m.now in
    let p = c.args.a.now.degree in
    omega (arith, c.loop-k-test.true, c.betti-k-end.ensures ∙ ap (betti K) c.degree.ensures, c.requires.cycles.count, betti-essentials K p)

pub value_at-requires-clause-marks : goal.value_at-requires-clause-marks
value_at-requires-clause-marks c =
    let P : Complex → Type 0 = λ K. IfSome c.args.marks.now (λ marks. AreMarksOf K (set_of c.args.a.now.ids) marks.items) in
    subst P (sym c.complex-complex.ensures.same) c.requires.marks

pub value_at-requires-clause-within : goal.value_at-requires-clause-within
value_at-requires-clause-within c =
    let K = c.args.m.now in
    let p = c.args.a.now.degree in
    let k = c.loop-k.k in
    let number : k < betti K p = omega (arith, c.loop-k-test.true, c.betti-k-end.ensures ∙ ap (betti K) c.degree.ensures) in
    let lt : k < length c.args.cycles.now = omega (arith, number, c.requires.cycles.count, betti-essentials K p) in
    λ j d h. omega (
      arith,
      cycle-within K c.complex-complex.ensures.complex (essential_at K p k) (slice_index_or c.args.cycles.now k []) c.index-cycles-k.result (essential-at K p k number).0
          (c.requires.cycles.each k (omega (arith, number, betti-essentials K p)))
          (c.index-cycles-k.is ∙ item-any c.args.cycles.now k c.index-cycles-k.result [] lt) j d h,
      ap length c.complex-complex.ensures.same,
    )

pub loop-k-preserved : goal.loop-k-preserved
loop-k-preserved c = λ f g phi C.
    let K = c.args.m.now in
    let p = c.args.a.now.degree in
    let a = set_of c.args.a.now.ids in
    let k = c.loop-k.k in
    let number : k < betti K p = omega (arith, c.loop-k-test.true, c.betti-k-end.ensures ∙ ap (betti K) c.degree.ensures) in
    let lt : k < length c.args.cycles.now = omega (arith, number, c.requires.cycles.count, betti-essentials K p) in
    let G = c.requires.cycles.each k (omega (arith, number, betti-essentials K p)) in
    let same : c.index-cycles-k.result ≡ slice_index_or c.args.cycles.now k [] = c.index-cycles-k.is ∙ item-any c.args.cycles.now k c.index-cycles-k.result [] lt in
    let value : c.value_at.result ≡ evaluate (length K) a (g (essential_at K p k)) =
    c.value_at.ensures.value
    ∙ value-at_cycle K (essential_at K p k) (slice_index_or c.args.cycles.now k []) c.index-cycles-k.result a f g phi C G c.value_at.ensures.ascending same
    (cycle-within K c.complex-complex.ensures.complex (essential_at K p k) (slice_index_or c.args.cycles.now k []) c.index-cycles-k.result (essential-at K p k number).0 G same) in
    elim c.if-value_at.branch [
      | then-value_at+in_ok-push w ↦
          ap (λ v. v.items) w.numbers-is
          ∙ w.in_ok-push.ensures.items
          ∙ word-in K p (λ h. evaluate (length K) a (g h)) k c.loop-k.numbers.items (c.loop-k.invariant f g phi C) (sym value ∙ w.if-value_at.true)
      | else-value_at w ↦
          ap (λ v. v.items) w.numbers-is
          ∙ word-out K p (λ h. evaluate (length K) a (g h)) k c.loop-k.numbers.items (c.loop-k.invariant f g phi C) (sym value ∙ w.if-value_at.false)
    ]

pub returns-clause-word : goal.returns-clause-word
returns-clause-word c =
    let K = c.args.m.now in
    let ok = c.complex-complex.ensures.complex in
    let p = c.args.a.now.degree in
    let a = set_of c.args.a.now.ids in
    let H = contraction-exists K ok in
    let g = cycle_of K H.phi in
    let all : c.loop-k.k ≡ betti K p =
    omega (arith, c.loop-k-test.false, c.loop-k.auto.k-end, c.betti-k-end.ensures ∙ ap (betti K) c.degree.ensures) in
    c.loop-k.invariant H.f g H.phi H.is
    ∙ ap (numbers_below K p (λ h. evaluate (length K) a (g h))) all
    ∙ sym (class_of-list K ok H.f g H.phi H.is p a c.requires.cocycle)

pub returns-clause-numbers : goal.returns-clause-numbers
returns-clause-numbers c =
    let K = c.args.m.now in
    let p = c.args.a.now.degree in
    subst (All (λ (k : ℕ). k < betti K p)) (sym (returns-clause-word c)) (word-numbers K c.complex-complex.ensures.complex p (set_of c.args.a.now.ids) c.requires.cocycle)
