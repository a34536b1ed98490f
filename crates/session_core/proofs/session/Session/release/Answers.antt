use Rattle.std.proofs.Common.{◌≡◌, List, sym, ap, ◌∙◌, arith, rules, tests}
use Rattle.std.specs.Prelude.{not}
use Rattle.std.specs.List.{filter}
use Rattle.std.proofs.lemmas.Fn.{filter_same}
use Rattle.homology.specs.Simplices.{same_list}
use Rattle.session_core.specs.declared.kept.Named.{Named}
use Rattle.session_core.specs.Places.{first_named, root_at}
use Rattle.session_core.proofs.HeldLaws.{some-place, none-place, placed-some, placed-none, release-none, release-some, released-so, unreleased-so}
use Rattle.session_core.proofs.PlaceLaws.{held_so, kept-fewer}
use Rattle.session_core.proofs.session.Session.release.Goals as goal

pub returns-then-is_none-clause-step : goal.returns-then-is_none-clause-step
returns-then-is_none-clause-step c =
    let h = c.args.self.now in
    let x = c.args.name.now in
    let names = c.self.inside.names in
    let roots = c.self.inside.roots in
    let at : c.place_of.result ≡ first_named names.items x = c.place_of.ensures ∙ ap (λ (ns : List Named). first_named ns x) c.as_slice.ensures.value in
    let none = placed-none c.self.inside.seen names roots c.self.inside.in_use h x c.self.view_is (sym at ∙ none-place c.place_of.result c.if-is_none.ensures) in
    rw c.copy.ensures (unreleased-so x h none)

pub returns-then-is_none-clause-released : goal.returns-then-is_none-clause-released
returns-then-is_none-clause-released c =
    let h = c.args.self.now in
    let x = c.args.name.now in
    let names = c.self.inside.names in
    let roots = c.self.inside.roots in
    let at : c.place_of.result ≡ first_named names.items x = c.place_of.ensures ∙ ap (λ (ns : List Named). first_named ns x) c.as_slice.ensures.value in
    let none = placed-none c.self.inside.seen names roots c.self.inside.in_use h x c.self.view_is (sym at ∙ none-place c.place_of.result c.if-is_none.ensures) in
    release-none x h none

pub invariant_of-self : goal.invariant_of-self
invariant_of-self c =
    let x2 = c.args.name.now in
    let fewer : c.retain.new.self.items ≡ filter (λ (n : Named). not (same_list n.name x2)) c.self.inside.names.items =
    filter_same _ (λ (n : Named). not (same_list n.name x2)) _ (λ n b f' k. search (rules, tests)) _ _ c.retain.ensures.filtered in
    kept-fewer c.self.inside.names c.retain.new.self c.self.inside.roots c.self.inside.in_use c.self.inside.cached c.self.inside.cache (λ (n : Named). not (same_list n.name x2))
    c.self.invariant fewer (omega (arith, c.self.invariant.room, c.retain.ensures.capacity))

pub returns-clause-step : goal.returns-clause-step
returns-clause-step c =
    let h = c.args.self.now in
    let x = c.args.name.now in
    let names = c.self.inside.names in
    let roots = c.self.inside.roots in
    let at : c.place_of.result ≡ first_named names.items x = c.place_of.ensures ∙ ap (λ (ns : List Named). first_named ns x) c.as_slice.ensures.value in
    let p = some-place c.place_of.result c.if-is_none.ensures in
    let L = root_at roots.items p.0 in
    let there = placed-some c.self.inside.seen names roots c.self.inside.in_use h x p.0 c.self.view_is (sym at ∙ p.1) in
    let x2 = c.args.name.now in
    let fewer : c.retain.new.self.items ≡ filter (λ (n : Named). not (same_list n.name x2)) c.self.inside.names.items =
    filter_same _ (λ (n : Named). not (same_list n.name x2)) _ (λ n b f' k. search (rules, tests)) _ _ c.retain.ensures.filtered in
    rw c.copy-2.ensures (released-so x h (held_so c.self.inside.seen c.retain.new.self roots c.self.inside.in_use) L there
    (release-some c.self.inside.seen names c.retain.new.self roots c.self.inside.in_use h x c.self.view_is fewer))

pub returns-clause-released : goal.returns-clause-released
returns-clause-released c =
    let x2 = c.args.name.now in
    let fewer : c.retain.new.self.items ≡ filter (λ (n : Named). not (same_list n.name x2)) c.self.inside.names.items =
    filter_same _ (λ (n : Named). not (same_list n.name x2)) _ (λ n b f' k. search (rules, tests)) _ _ c.retain.ensures.filtered in
    release-some c.self.inside.seen c.self.inside.names c.retain.new.self c.self.inside.roots c.self.inside.in_use c.args.self.now x2 c.self.view_is fewer
