use Rattle.std.proofs.Common.{◌≡◌, ◌<◌, length, List, refl, sym, ap, ◌∙◌, arith}
use Rattle.lines.specs.Lines.{cuts}
use Rattle.lines.specs.Callers.{name_capacity}
use Rattle.session_core.specs.declared.kept.Named.{Named}
use Rattle.session_core.specs.Holdings.{Holding}
use Rattle.session_core.specs.Places.{first_named, root_at}
use Rattle.session_core.proofs.HeldLaws.{some-place, none-place, placed-some, placed-none, named-more, names-count, hold-there, hold-new, already-so, full-so, new-so}
use Rattle.session_core.proofs.PlaceLaws.{held_so}
use Rattle.session_core.proofs.session.Session.hold.Goals as goal

pub returns-then-is_some-clause-step : goal.returns-then-is_some-clause-step
returns-then-is_some-clause-step c =
    let h = c.args.self.now in
    let x = c.args.name.now in
    let names = c.self.inside.names in
    let roots = c.self.inside.roots in
    let at : c.place_of.result ≡ first_named names.items x = c.place_of.ensures ∙ ap (λ (ns : List Named). first_named ns x) c.as_slice.ensures.value in
    let p = some-place c.place_of.result (sym c.if-is_some.ensures) in
    let L = root_at roots.items p.0 in
    let there = placed-some c.self.inside.seen names roots c.self.inside.in_use h x p.0 c.self.view_is (sym at ∙ p.1) in
    rw c.copy.ensures (already-so x h L there)

pub returns-then-is_some-clause-held : goal.returns-then-is_some-clause-held
returns-then-is_some-clause-held c =
    let h = c.args.self.now in
    let x = c.args.name.now in
    let names = c.self.inside.names in
    let roots = c.self.inside.roots in
    let at : c.place_of.result ≡ first_named names.items x = c.place_of.ensures ∙ ap (λ (ns : List Named). first_named ns x) c.as_slice.ensures.value in
    let p = some-place c.place_of.result (sym c.if-is_some.ensures) in
    let L = root_at roots.items p.0 in
    let there = placed-some c.self.inside.seen names roots c.self.inside.in_use h x p.0 c.self.view_is (sym at ∙ p.1) in
    hold-there x h L there

pub returns-then-len-ge-MOST_NAMES-clause-step : goal.returns-then-len-ge-MOST_NAMES-clause-step
returns-then-len-ge-MOST_NAMES-clause-step c =
    let h = c.args.self.now in
    let x = c.args.name.now in
    let names = c.self.inside.names in
    let roots = c.self.inside.roots in
    let at : c.place_of.result ≡ first_named names.items x = c.place_of.ensures ∙ ap (λ (ns : List Named). first_named ns x) c.as_slice.ensures.value in
    let none = placed-none c.self.inside.seen names roots c.self.inside.in_use h x c.self.view_is (sym at ∙ none-place c.place_of.result (sym c.if-is_some.ensures)) in
    full-so x h none (omega (arith, names-count c.self.inside.seen names roots c.self.inside.in_use h c.self.view_is, c.if-len-ge-MOST_NAMES.true, c.len.ensures, names.ok.0))

pub returns-clause-step : goal.returns-clause-step
returns-clause-step c =
    let h = c.args.self.now in
    let x = c.args.name.now in
    let names = c.self.inside.names in
    let roots = c.self.inside.roots in
    let at : c.place_of.result ≡ first_named names.items x = c.place_of.ensures ∙ ap (λ (ns : List Named). first_named ns x) c.as_slice.ensures.value in
    let none = placed-none c.self.inside.seen names roots c.self.inside.in_use h x c.self.view_is (sym at ∙ none-place c.place_of.result (sym c.if-is_some.ensures)) in
    let few : length h.names < name_capacity =
    omega (arith, names-count c.self.inside.seen names roots c.self.inside.in_use h c.self.view_is, c.if-len-ge-MOST_NAMES.false, c.len.ensures, names.ok.0) in
    let n : Named = record { name = c.copy-2.result; place = c.self.inside.in_use } in
    let is = named-more c.self.inside.seen names c.push.new.self roots c.self.inside.in_use h x n c.self.view_is c.in-Ok.ensures.items c.copy-2.ensures refl ∙ hold-new x h none few in
    rw c.copy-3.ensures (new-so x h (held_so c.self.inside.seen c.push.new.self roots c.self.inside.in_use) c.version.result none few is
    (c.version.ensures ∙ ap (λ (g : Holding). cuts g.in_use) c.self.view_is))

pub returns-clause-held : goal.returns-clause-held
returns-clause-held c =
    let h = c.args.self.now in
    let x = c.args.name.now in
    let names = c.self.inside.names in
    let roots = c.self.inside.roots in
    let at : c.place_of.result ≡ first_named names.items x = c.place_of.ensures ∙ ap (λ (ns : List Named). first_named ns x) c.as_slice.ensures.value in
    let none = placed-none c.self.inside.seen names roots c.self.inside.in_use h x c.self.view_is (sym at ∙ none-place c.place_of.result (sym c.if-is_some.ensures)) in
    let few : length h.names < name_capacity =
    omega (arith, names-count c.self.inside.seen names roots c.self.inside.in_use h c.self.view_is, c.if-len-ge-MOST_NAMES.false, c.len.ensures, names.ok.0) in
    let n : Named = record { name = c.copy-2.result; place = c.self.inside.in_use } in
    let is = named-more c.self.inside.seen names c.push.new.self roots c.self.inside.in_use h x n c.self.view_is c.in-Ok.ensures.items c.copy-2.ensures refl ∙ hold-new x h none few in
    is
