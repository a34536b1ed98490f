use Rattle.std.proofs.Common.{List, [], ◌∷◌, Result, refl, arith, rules}
use Rattle.homology.specs.Sets.{Ids, set_of}
use Rattle.cohomology_operations.specs.Cohomologous.{NotCohomologous, cohomologous}
use Rattle.steenrod.specs.Refusals.{SameRefuses}
use Rattle.steenrod.proofs.TestedCocycles.{none-below, tested-more}
use Rattle.steenrod.proofs.same.same_square.Goals as goal

pub returns-in_err-require-clause-refused : goal.returns-in_err-require-clause-refused
returns-in_err-require-clause-refused c =
    let K = c.args.m.now in
    let cs : List Ids = set_of c.args.a.now.ids ∷ set_of c.args.a2.now.ids ∷ [] in
    let v : Result (Unit {0}) NotCohomologous =
    cohomologous K (c.args.a.now.degree, set_of c.args.a.now.ids) (c.args.a2.now.degree, set_of c.args.a2.now.ids) in
    let refused : SameRefuses K cs v c.in_err-require.field-0.0 =
    c.in_err-require.ensures.refused cs v (omega arith) refl
    (none-below K cs) in
    search rules

pub returns-in_err-require-2-clause-refused : goal.returns-in_err-require-2-clause-refused
returns-in_err-require-2-clause-refused c =
    let K = c.args.m.now in
    let cs : List Ids = set_of c.args.a.now.ids ∷ set_of c.args.a2.now.ids ∷ [] in
    let v : Result (Unit {0}) NotCohomologous =
    cohomologous K (c.args.a.now.degree, set_of c.args.a.now.ids) (c.args.a2.now.degree, set_of c.args.a2.now.ids) in
    let refused : SameRefuses K cs v c.in_err-require-2.field-0.0 =
    c.in_err-require-2.ensures.refused cs v (omega arith) refl
    (tested-more K cs 0 (set_of c.args.a.now.ids) (none-below K cs) refl c.in_ok-require.ensures.tested.none) in
    search rules
