use Rattle.std.proofs.Common.{◌≡◌, [], ◌∙◌}
use Rattle.std.specs.Prelude.{slice_index_or}
use Rattle.std.proofs.lemmas.List.{get_or_read}
use Rattle.version_roots.proofs.KeptLaws.{turn-follows}
use Rattle.version_roots.proofs.root.Root.with_attached.Goals as goal

pub push-requires-clause-follows : goal.push-requires-clause-follows
push-requires-clause-follows c =
    let all = c.args.new.now in
    let i = c.loop-coming.coming-index in
    let is : c.copy.result ≡ slice_index_or all i [] = c.copy.ensures ∙ c.simplex.ensures ∙ get_or_read all i c.coming-item.result c.loop-coming-test.true c.coming-item.is [] in
    rw (c.loop-coming.invariant, is) (turn-follows c.args.self.now c.args.caller all i c.requires.caller c.requires.turns c.loop-coming-test.true)
