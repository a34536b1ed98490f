use Rattle.std.proofs.Common.{◌≡◌, ◌+◌, ℕ, List, ◌∙◌, sym, ap, subst}
use Rattle.std.specs.Prelude.{IfSome}
use Rattle.homology.specs.Kinds.{betti}
use Rattle.cohomology.specs.Classes.{essentials}
use Rattle.class_cache.specs.Kept.{AreBoundaries, AreCycles, AreRows, own}
use Rattle.class_keeping.proofs.growth.grow_one.Goals as goal

pub returns : goal.returns
returns c =
    let K = c.args.m.now in
    let rows = c.in_ok-classes.classes.cocycles.items in
    let A = c.in_ok-classes.ensures.classes in
    let same : c.args.kept.now.degree ≡ c.grown_classes.new.kept.degree = sym c.grown_classes.ensures.same.0 in
    record {
      complex = c.requires.complex;
      essential = A.essential ∙ ap (essentials K) same;
      cocycles = subst (λ (p : ℕ). AreRows (own K p) rows) same A.cocycles;
      count = A.count ∙ ap (betti K) same;
      cycles = subst (λ (hs : List ℕ). IfSome c.in_ok-cycles.cycles (λ x. AreCycles K hs x.items)) (sym A.essential) c.in_ok-cycles.ensures;
      boundaries = subst (λ (p : ℕ). IfSome c.in_ok-boundaries.boundaries (λ x. AreBoundaries K (p + 1) x.items)) same c.in_ok-boundaries.ensures;
    }
