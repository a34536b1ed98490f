use Rattle.std.proofs.Common.{◌≡◌, Bool, sym, ap, ◌∙◌, rules, tests, ne_eqb}
use Rattle.std.specs.Prelude.{◌==◌, ◌||◌}
use Rattle.std.specs.List.{list_any}
use Rattle.std.proofs.lemmas.Iterator.{YieldsList-from_slice}
use Rattle.std.proofs.lemmas.Iterator.Search.{any_from_yields_List}
use Rattle.session_core.specs.declared.kept.Named.{Named}
use Rattle.session_core.proofs.kept.is_taken.Goals as goal

pub returns-else-kept-place : goal.returns-else-kept-place
returns-else-kept-place c =
    let any : c.any.result ≡ list_any (λ (n : Named). n.place == c.args.place) c.args.names.now =
    any_from_yields_List (λ (n : Named). n.place == c.args.place) _ _ c.any.result c.any.ensures.ran (YieldsList-from_slice c.args.names.now cc) (λ x b q k. search (rules, tests)) in
    any ∙ sym (ap (λ (b : Bool). b || list_any (λ (n : Named). n.place == c.args.place) c.args.names.now) (ne_eqb c.args.kept c.args.place c.if-kept-place.false))
