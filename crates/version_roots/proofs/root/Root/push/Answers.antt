use Rattle.version_roots.specs.Entries.{entry_of}
use Rattle.version_roots.proofs.KeptLaws.{kept-root}
use Rattle.version_roots.proofs.root.Root.push.Goals as goal

pub invariant_of-self : goal.invariant_of-self
invariant_of-self c =
    kept-root c.self.inside.model c.self.inside.line c.push.new.self (entry_of c.args.entry) c.push.result c.requires.no_cut c.self.invariant c.push.ensures.pushed c.push.ensures.unchanged
