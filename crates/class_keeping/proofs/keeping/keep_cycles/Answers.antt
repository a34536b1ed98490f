use Rattle.std.proofs.Common.{◌∙◌}
use Rattle.class_keeping.proofs.keeping.keep_cycles.Goals as goal

pub cycles_of-requires : goal.cycles_of-requires
cycles_of-requires c = c.deref.ensures.value ∙ c.requires.essential
