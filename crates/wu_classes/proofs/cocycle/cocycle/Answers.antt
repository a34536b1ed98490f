use Rattle.std.proofs.Common.{◌≡◌, ℕ, [], ◌∷◌, length, Ok, Err, sym, ◌∙◌, subst, eqb-true}
use Rattle.homology.specs.Sets.{Ids, set_of}
use Rattle.homology.specs.ListSums.{sum_over}
use Rattle.homology.specs.Kinds.{betti}
use Rattle.cohomology.specs.Classes.{canonical}
use Rattle.cohomology.specs.Words.{NoClass, numbered}
use Rattle.class_solver.specs.Refusals.{WordRefuses}
use Rattle.class_solver.proofs.Listed.{numbered-all}
use Rattle.wu_classes.proofs.Rows.{cocycle-is}
use Rattle.wu_classes.proofs.Zeros.{no-items, zero-closed, zero-word}
use Rattle.wu_classes.proofs.cocycle.cocycle.Goals as goal

pub unreachable-requires : goal.unreachable-requires
unreachable-requires c =
    let K = c.args.m.now in
    let p = c.args.degree in
    let w = c.args.numbers.now in
    let each : ℕ → Ids = λ k. set_of (canonical K p (k ∷ [])) in
    let v = numbered (betti K p) each w in
    let wrong : v ≡ Err (NoClass c.in-Err-NoClass.field-0-0) = subst (WordRefuses v) c.in-Err-NoClass.field-0-is c.in-Err-NoClass.ensures.refused in
    let right : v ≡ Ok (sum_over w each) = numbered-all (betti K p) each w c.requires.numbers in
    cc

pub returns-in-Ok-clause-cocycle : goal.returns-in-Ok-clause-cocycle
returns-in-Ok-clause-cocycle c = record {
  degree = c.in-Ok.ensures.degree;
  set = cocycle-is c.args.m.now c.complex.ensures.complex c.args.degree c.args.numbers.now c.requires (set_of c.in-Ok.a.ids) c.in-Ok.ensures.sum;
  stands = c.in-Ok.ensures.stands;
}

pub returns-then-is_empty-clause-cocycle : goal.returns-then-is_empty-clause-cocycle
returns-then-is_empty-clause-cocycle c =
    let w = c.args.numbers.now in
    let none : length w ≡ 0 = eqb-true (length w) 0 (sym c.is_empty.ensures ∙ c.if-is_empty.true) in
    record {
      degree = c.in_ok-none.ensures.degree;
      set = c.in_ok-none.ensures.zero ∙ sym (zero-word c.args.m.now c.complex.ensures.complex c.args.degree w (no-items w none));
      stands = c.in_ok-none.ensures.stands;
    }

pub returns-then-is_empty-clause-tested : goal.returns-then-is_empty-clause-tested
returns-then-is_empty-clause-tested c =
    zero-closed c.args.m.now c.complex.ensures.complex c.args.degree (set_of c.in_ok-none.none.ids) c.in_ok-none.ensures.zero
