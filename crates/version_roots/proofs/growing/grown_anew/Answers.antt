use Rattle.std.proofs.Common.{◌∷◌, ◌++◌, [], length, sym, ap, ◌∙◌, arith}
use Rattle.homology.specs.Complexes.{Complex}
use Rattle.lines.proofs.LineLaws.{versions-count}
use Rattle.version_roots.specs.Entries.{entry_of}
use Rattle.version_roots.proofs.KeptLaws.{simplices-next}
use Rattle.version_roots.proofs.growing.grown_anew.Goals as goal

pub version_share-requires : goal.version_share-requires
version_share-requires c = omega (arith, c.base-base.ensures.there, versions-count c.args.line.now, ap length c.requires.versions)

pub loop-k-preserved : goal.loop-k-preserved
loop-k-preserved c =
    let next = simplices-next c.args.line.now c.loop-k.k c.in-Some-Attach.field-0-0 c.in-Some-Attach.simplex c.in-Some-Attach.ensures.0
    (sym (ap entry_of c.in-Some-Attach.field-0-is) ∙ c.in-Some-Attach.ensures.1) in
    c.in_default-attach.ensures.grown ∙ ap (λ (K : Complex). K ++ c.in-Some-Attach.simplex ∷ []) c.loop-k.invariant ∙ sym next
