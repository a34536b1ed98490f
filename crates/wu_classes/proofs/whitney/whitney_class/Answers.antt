use Rattle.std.proofs.Common.{ℕ, sym, ◌∙◌, subst}
use Rattle.homology.specs.Sets.{set_of}
use Rattle.homology.specs.Chains.{IsCocycle}
use Rattle.cohomology.specs.Classes.{IsClass, class_of}
use Rattle.characteristic_classes.proofs.WhitneyLaws.{whitney-cocycle, whitney-word}
use Rattle.wu_classes.proofs.whitney.whitney_class.Goals as goal

pub word_of-requires : goal.word_of-requires
word_of-requires c =
    let K = c.args.m.now in
    let k = c.args.k in
    let a = c.in_ok-sum.sum in
    subst (λ (d : ℕ). IsCocycle K d (set_of a.ids)) (sym c.in_ok-sum.ensures.degree)
    (subst (IsCocycle K k) (sym c.in_ok-sum.ensures.sum) (whitney-cocycle K c.complex.ensures.complex k))

pub returns-clause-word : goal.returns-clause-word
returns-clause-word c =
    let K = c.args.m.now in
    let k = c.args.k in
    subst (IsClass K k)
    (sym (c.in_ok-word.ensures.word ∙ (λ i. class_of K (c.in_ok-sum.ensures.degree i) (c.in_ok-sum.ensures.sum i))))
    (whitney-word K c.complex.ensures.complex k)
