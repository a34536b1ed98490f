use Rattle.std.proofs.Common.{◌≡◌, ◌<◌, subst}
use Rattle.std.specs.Prelude.{IfSome}
use Rattle.homology.specs.Sets.{set_of}
use Rattle.homology.specs.Complexes.{Complex}
use Rattle.homology.specs.Kinds.{betti}
use Rattle.class_cache.specs.Kept.{own}
use Rattle.class_cache.proofs.KeptLaws.{if-some, kept-cocycle}
use Rattle.class_cache.proofs.cached.Cached.kept_cocycle.Goals as goal

pub returns-clause-class : goal.returns-clause-class
returns-clause-class c =
    let K = c.self.inside.model.now in
    let k = c.in_ok-kept.kept.now in
    let I = c.in_ok-kept.ensures K c.self.invariant in
    subst (λ (x : Complex). IfSome c.row.result (λ d. c.args.number < betti x c.args.degree)) c.self.view_is
    (if-some _ _ c.row.result (λ d is. (kept-cocycle K c.args.degree c.args.number k c.deref.result.now d.now I.0 I.1 c.deref.ensures.value is.0 is.1).0) c.row.ensures)

pub returns-clause-cocycle : goal.returns-clause-cocycle
returns-clause-cocycle c =
    let K = c.self.inside.model.now in
    let k = c.in_ok-kept.kept.now in
    let I = c.in_ok-kept.ensures K c.self.invariant in
    subst (λ (x : Complex). IfSome c.row.result (λ d. set_of d.now ≡ own x c.args.degree c.args.number)) c.self.view_is
    (if-some _ _ c.row.result (λ d is. (kept-cocycle K c.args.degree c.args.number k c.deref.result.now d.now I.0 I.1 c.deref.ensures.value is.0 is.1).1) c.row.ensures)
