use Rattle.std.proofs.Common.{ℕ, map, Ok, sym, ap, ◌∙◌, subst, rules}
use Rattle.std.specs.List.{range_with_len}
use Rattle.homology.specs.Complexes.{dimensions}
use Rattle.characteristic_classes.specs.WuClasses.{wu, wu_class}
use Rattle.wu_classes.specs.Refusals.{WuRefuses}
use Rattle.wu_classes.proofs.Refusing.{wu_list-is, dual-refuses, dual-value}
use Rattle.wu_classes.proofs.wu_words.wu.Goals as goal

pub returns-in_err-dual-clause-refused : goal.returns-in_err-dual-clause-refused
returns-in_err-dual-clause-refused c =
    let K = c.args.version.now in
    let r = c.in_err-dual.field-0.0 in
    let refused : WuRefuses (wu K) r =
    subst (λ v. WuRefuses v r) (sym (wu_list-is K))
    (dual-refuses K (map (λ k. (k, wu_class K k)) (range_with_len 0 (dimensions K))) r c.in_err-dual.ensures.refused) in
    search rules

pub returns-clause-words : goal.returns-clause-words
returns-clause-words c =
    let K = c.args.version.now in
    let D = c.in_ok-dual.ensures.dual in
    wu_list-is K
    ∙ dual-value K (map (λ k. (k, wu_class K k)) (range_with_len 0 (dimensions K))) c.in_ok-dual.dual.dim D.top.closed D.none
    ∙ ap Ok (ap (λ (n : ℕ). map (λ k. (k, wu_class K k)) (range_with_len 0 n)) D.top.dimensions ∙ sym c.in_ok-words.ensures)
