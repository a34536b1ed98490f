use Rattle.std.proofs.Common.{List, ◌∷◌, [], length, ap, subst, ◌∙◌, arith}
use Rattle.std.specs.Prelude.{slice_index_or}
use Rattle.homology.specs.Complexes.{Complex}
use Rattle.lines.specs.Lines.{Line, Back, returns}
use Rattle.lines.specs.Changes as change
use Rattle.lines.proofs.LineLaws.{versions-count}
use Rattle.version_roots.specs.Judged.{Added}
use Rattle.version_roots.proofs.BookLaws.{book-more, back-added}
use Rattle.version_roots.proofs.book.Book.back.Goals as goal

pub version_share-requires : goal.version_share-requires
version_share-requires c =
    omega (arith, c.if-version.false, c.version.ensures, versions-count c.self.inside.root, ap length c.self.invariant.1, ap length c.as_slice.ensures.value)

pub invariant_of-self-2 : goal.invariant_of-self-2
invariant_of-self-2 c =
    let versions = ap (λ V. [] ∷ V) c.as_slice.ensures.value ∙ c.self.invariant.1 in
    book-more c.self.inside.root c.push.new.self (Back c.args.caller c.args.version) c.in_ok-model.model ([] ∷ c.self.inside.versions.items) c.in_ok-push.ensures.pushed
    (c.in_ok-model.ensures ∙ ap (λ (V : List Complex). slice_index_or V c.args.version []) versions) c.self.invariant.1

pub returns-clause-added : goal.returns-clause-added
returns-clause-added c =
    subst (λ (J : Line). Added J c.args.caller (change.Back c.args.version) c.push.new.self) c.self.view_is
    (back-added c.self.inside.root c.push.new.self c.args.caller c.args.version
    (omega (arith, c.if-version.false, c.version.ensures))
    (omega (arith, c.if-returns-ge-MOST_RETURNS.false, c.returns.ensures, ap returns c.line.ensures))
    c.in_ok-push.ensures.pushed)
