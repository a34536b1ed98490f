use Rattle.std.proofs.Common.{List, [], ◌∷◌, Result, refl, arith, rules}
use Rattle.homology.specs.Sets.{Ids, set_of}
use Rattle.cohomology_operations.specs.Cohomologous.{NotCohomologous, cohomologous}
use Rattle.steenrod.specs.Refusals.{then, SameRefuses}
use Rattle.steenrod.proofs.TestedCocycles.{none-below, tested-more}
use Rattle.steenrod.proofs.same.same_cup.Goals as goal

pub returns-in_err-require-clause-refused : goal.returns-in_err-require-clause-refused
returns-in_err-require-clause-refused c =
    let K = c.args.m.now in
    let cs : List Ids = set_of c.args.a.now.ids ∷ set_of c.args.a2.now.ids ∷ set_of c.args.b.now.ids ∷ set_of c.args.b2.now.ids ∷ [] in
    let v : Result (Unit {0}) NotCohomologous =
    then (cohomologous K (c.args.a.now.degree, set_of c.args.a.now.ids) (c.args.a2.now.degree, set_of c.args.a2.now.ids))
    (cohomologous K (c.args.b.now.degree, set_of c.args.b.now.ids) (c.args.b2.now.degree, set_of c.args.b2.now.ids)) in
    let refused : SameRefuses K cs v c.in_err-require.field-0.0 =
    c.in_err-require.ensures.refused cs v (omega arith) refl
    (none-below K cs) in
    search rules

pub returns-in_err-require-2-clause-refused : goal.returns-in_err-require-2-clause-refused
returns-in_err-require-2-clause-refused c =
    let K = c.args.m.now in
    let cs : List Ids = set_of c.args.a.now.ids ∷ set_of c.args.a2.now.ids ∷ set_of c.args.b.now.ids ∷ set_of c.args.b2.now.ids ∷ [] in
    let v : Result (Unit {0}) NotCohomologous =
    then (cohomologous K (c.args.a.now.degree, set_of c.args.a.now.ids) (c.args.a2.now.degree, set_of c.args.a2.now.ids))
    (cohomologous K (c.args.b.now.degree, set_of c.args.b.now.ids) (c.args.b2.now.degree, set_of c.args.b2.now.ids)) in
    let refused : SameRefuses K cs v c.in_err-require-2.field-0.0 =
    c.in_err-require-2.ensures.refused cs v (omega arith) refl
    (tested-more K cs 0 (set_of c.args.a.now.ids) (none-below K cs) refl c.in_ok-require.ensures.tested.none) in
    search rules

pub returns-in_err-require-3-clause-refused : goal.returns-in_err-require-3-clause-refused
returns-in_err-require-3-clause-refused c =
    let K = c.args.m.now in
    let cs : List Ids = set_of c.args.a.now.ids ∷ set_of c.args.a2.now.ids ∷ set_of c.args.b.now.ids ∷ set_of c.args.b2.now.ids ∷ [] in
    let v : Result (Unit {0}) NotCohomologous =
    then (cohomologous K (c.args.a.now.degree, set_of c.args.a.now.ids) (c.args.a2.now.degree, set_of c.args.a2.now.ids))
    (cohomologous K (c.args.b.now.degree, set_of c.args.b.now.ids) (c.args.b2.now.degree, set_of c.args.b2.now.ids)) in
    let refused : SameRefuses K cs v c.in_err-require-3.field-0.0 =
    c.in_err-require-3.ensures.refused cs v (omega arith) refl
    (tested-more K cs 1 (set_of c.args.a2.now.ids)
    (tested-more K cs 0 (set_of c.args.a.now.ids) (none-below K cs) refl c.in_ok-require.ensures.tested.none)
    refl c.in_ok-require-2.ensures.tested.none) in
    search rules

pub returns-in_err-require-4-clause-refused : goal.returns-in_err-require-4-clause-refused
returns-in_err-require-4-clause-refused c =
    let K = c.args.m.now in
    let cs : List Ids = set_of c.args.a.now.ids ∷ set_of c.args.a2.now.ids ∷ set_of c.args.b.now.ids ∷ set_of c.args.b2.now.ids ∷ [] in
    let v : Result (Unit {0}) NotCohomologous =
    then (cohomologous K (c.args.a.now.degree, set_of c.args.a.now.ids) (c.args.a2.now.degree, set_of c.args.a2.now.ids))
    (cohomologous K (c.args.b.now.degree, set_of c.args.b.now.ids) (c.args.b2.now.degree, set_of c.args.b2.now.ids)) in
    let refused : SameRefuses K cs v c.in_err-require-4.field-0.0 =
    c.in_err-require-4.ensures.refused cs v (omega arith) refl
    (tested-more K cs 2 (set_of c.args.b.now.ids)
    (tested-more K cs 1 (set_of c.args.a2.now.ids)
    (tested-more K cs 0 (set_of c.args.a.now.ids) (none-below K cs) refl c.in_ok-require.ensures.tested.none)
    refl c.in_ok-require-2.ensures.tested.none)
    refl c.in_ok-require-3.ensures.tested.none) in
    search rules
