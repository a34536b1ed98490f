use Rattle.std.proofs.Common.{◌≡◌, List, sym, ap, ◌∙◌}
use Rattle.session_core.specs.declared.kept.Named.{Named}
use Rattle.session_core.specs.Holdings.{Holding}
use Rattle.session_core.specs.Names.{taking}
use Rattle.session_core.specs.Places.{first_named, root_at}
use Rattle.session_core.proofs.HeldLaws.{placed-some, placed-none, place-within, take-there, take-none, taken-so, untaken-so}
use Rattle.session_core.proofs.PlaceLaws.{held_so, kept-used}
use Rattle.session_core.proofs.session.Session.take.Goals as goal

pub returns-in_default-clause-step : goal.returns-in_default-clause-step
returns-in_default-clause-step c =
    let h = c.args.self.now in
    let x = c.args.name.now in
    let names = c.self.inside.names in
    let roots = c.self.inside.roots in
    let at : c.place_of.result ≡ first_named names.items x = c.place_of.ensures ∙ ap (λ (ns : List Named). first_named ns x) c.as_slice.ensures.value in
    let none = placed-none c.self.inside.seen names roots c.self.inside.in_use h x c.self.view_is (sym at ∙ c.in_default.is) in
    rw c.copy.ensures (untaken-so x h none)

pub returns-in_default-clause-taken : goal.returns-in_default-clause-taken
returns-in_default-clause-taken c =
    let h = c.args.self.now in
    let x = c.args.name.now in
    let names = c.self.inside.names in
    let roots = c.self.inside.roots in
    let at : c.place_of.result ≡ first_named names.items x = c.place_of.ensures ∙ ap (λ (ns : List Named). first_named ns x) c.as_slice.ensures.value in
    let none = placed-none c.self.inside.seen names roots c.self.inside.in_use h x c.self.view_is (sym at ∙ c.in_default.is) in
    take-none x h none

pub invariant_of-self : goal.invariant_of-self
invariant_of-self c =
    let h = c.args.self.now in
    let x = c.args.name.now in
    let names = c.self.inside.names in
    let roots = c.self.inside.roots in
    let at : c.place_of.result ≡ first_named names.items x = c.place_of.ensures ∙ ap (λ (ns : List Named). first_named ns x) c.as_slice.ensures.value in
    kept-used names roots c.self.inside.in_use c.self.inside.cached c.in-Some.place c.self.inside.cache c.self.invariant
    (place-within names.items x c.in-Some.place _ c.self.invariant.places (sym at ∙ c.in-Some.is))

pub returns-clause-step : goal.returns-clause-step
returns-clause-step c =
    let h = c.args.self.now in
    let x = c.args.name.now in
    let names = c.self.inside.names in
    let roots = c.self.inside.roots in
    let at : c.place_of.result ≡ first_named names.items x = c.place_of.ensures ∙ ap (λ (ns : List Named). first_named ns x) c.as_slice.ensures.value in
    let L = root_at roots.items c.in-Some.place in
    let there = placed-some c.self.inside.seen names roots c.self.inside.in_use h x c.in-Some.place c.self.view_is (sym at ∙ c.in-Some.is) in
    let is : held_so c.self.inside.seen names roots c.in-Some.place ≡ taking x h = ap (λ (g : Holding). record g { in_use = L }) c.self.view_is ∙ take-there x h L there in
    rw c.copy-2.ensures (taken-so x h (held_so c.self.inside.seen names roots c.in-Some.place) L c.version.result there is c.version.ensures)

pub returns-clause-taken : goal.returns-clause-taken
returns-clause-taken c =
    let h = c.args.self.now in
    let x = c.args.name.now in
    let names = c.self.inside.names in
    let roots = c.self.inside.roots in
    let at : c.place_of.result ≡ first_named names.items x = c.place_of.ensures ∙ ap (λ (ns : List Named). first_named ns x) c.as_slice.ensures.value in
    let L = root_at roots.items c.in-Some.place in
    let there = placed-some c.self.inside.seen names roots c.self.inside.in_use h x c.in-Some.place c.self.view_is (sym at ∙ c.in-Some.is) in
    let is : held_so c.self.inside.seen names roots c.in-Some.place ≡ taking x h = ap (λ (g : Holding). record g { in_use = L }) c.self.view_is ∙ take-there x h L there in
    is
