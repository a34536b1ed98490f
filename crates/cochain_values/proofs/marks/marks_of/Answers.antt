use Rattle.std.proofs.Common.{◌∙◌, ap, refl, length, arith}
use Rattle.homology.specs.Sets.{single}
use Rattle.homology.specs.ListSums.{sum_over}
use Rattle.homology.proofs.ListSumLaws.{sum_over-ascending}
use Rattle.cochain_values.proofs.MarkLaws.{given-set}
use Rattle.cochain_values.proofs.marks.marks_of.Goals as goal

pub toggle_all-requires : goal.toggle_all-requires
toggle_all-requires c = λ k d h. omega (arith, c.requires.within k d h, ap length c.deref_mut.ensures.value, c.in_ok-marks.ensures.fits)

pub returns-clause-set : goal.returns-clause-set
returns-clause-set c =
    given-set c.in_ok-marks.marks.len c.in_ok-marks.marks.items c.deref_mut.result.now c.toggle_all.new.marks _ (sum_over c.args.ids.now single)
    c.deref_mut.ensures.value c.in_ok-marks.marks.ok.0 c.in_ok-marks.ensures.set c.toggle_all.ensures.fits c.toggle_all.ensures.set refl
    ∙ sum_over-ascending c.args.ids.now c.requires.ascending
