use Rattle.std.proofs.Common.{◌<◌, length, ap, arith}
use Rattle.homology.proofs.ListSetLaws.{set_of-All}
use Rattle.class_cache.proofs.cycle_words.numbers_at.Goals as goal

-- the members of the cochain are simplices of the complex
pub marks_unless_few-requires : goal.marks_unless_few-requires
marks_unless_few-requires c = set_of-All (λ t. t < length c.complex.result.now) c.args.a.now.ids
    (λ t m. omega (arith, c.requires.cocycle.cochain.there t m, ap length c.complex.ensures.same))
